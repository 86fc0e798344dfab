use Rattle.std.proofs.Common.{◌∙◌}
use Rattle.std.specs.Prelude.{map, string_bytes}
use Rattle.graphql_kept_projects.proofs.LeftLemmas.{of_fragments_of, on_ok}
use Rattle.graphql_kept_projects.proofs.unreached.add_unreached.Goals as goal

pub returns : goal.returns
returns c = λ read zip.
    on_ok c.add_all_known.result _ _
    (of_fragments_of c.args.bounds c.args.schema.now read c.args.left.now _ (map string_bytes c.deref-2.result.now) c.args.doubts.now c.in_ok-reported.reported.lists.items
    c.args.found.now.lists.items c.add_all_known.new.found.lists.items zip (c.as_str.ensures.value ∙ c.in_ok-text.ensures) c.in_ok-reported.ensures) c.add_all_known.ensures
