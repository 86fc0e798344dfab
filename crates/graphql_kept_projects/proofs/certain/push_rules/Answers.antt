use Rattle.std.proofs.Common.{false, refl}
use Rattle.graphql_kept_projects.specs.Left.{AreRules}
use Rattle.graphql_kept_projects.proofs.LeftLemmas.{adds_one_on_ok}
use Rattle.graphql_kept_projects.proofs.certain.push_rules.Goals as goal

pub returns : goal.returns
returns c =
    adds_one_on_ok c.push.result (AreRules c.args.rules) c.args.found.now.lists.items c.push.new.self.lists.items _ c.push.ensures.lists
    (record {
      some = record { rules = c.args.rules; undefined_variables = c.new.result; input_fields = c.new-2.result; usages = c.new-3.result; has_more = false };
      are = refl;
      rules_are = refl;
      no_undefined_variables = c.new.ensures.items;
      no_input_fields = c.new-2.ensures.items;
      no_usages = c.new-3.ensures.items;
    })
