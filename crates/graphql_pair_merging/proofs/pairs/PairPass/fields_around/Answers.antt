use Rattle.std.proofs.Common.{◌≡◌, sym, subst}
use lib.Pointwise.{bytes_decides}
use Rattle.graphql_merging.specs.Groups.{pass_of}
use Rattle.graphql_pair_merging.specs.FieldGroups.{IsGrouped}
use Rattle.graphql_pair_merging.specs.declared.field_groups.GroupedBy.TheVariants.{ResponseKey}
use Rattle.graphql_pair_merging.proofs.JoinLemmas.{all_around, follows, named_around}
use Rattle.graphql_pair_merging.proofs.pairs.PairPass.fields_around.Goals as goal

pub returns-then-eq-clause-around : goal.returns-then-eq-clause-around
returns-then-eq-clause-around g c =
    let self = c.args.self.now in
    let same : c.args.ends.now ≡ c.args.numbers.now = (bytes_decides c.args.ends.now c.args.numbers.now).0 (sym c.if-eq.ensures) in
    all_around self.schema.now (pass_of self.pass) self.sets.now c.args.ends.now c.args.numbers.now c.requires.among c.in_ok-own.own.items c.in_ok-own.ensures.fields same

pub returns-clause-around : goal.returns-clause-around
returns-clause-around g c =
    let self = c.args.self.now in
    let own = c.in_ok-own.own.items in
    let groups = c.in_ok-groups.groups.entries in
    let grouped = subst (λ l. IsGrouped ResponseKey l groups) c.deref.ensures.value c.in_ok-groups.ensures.grouped in
    follows c.fields_named_in.result
    (λ fields named. named_around self.schema.now (pass_of self.pass) self.sets.now c.args.ends.now c.args.numbers.now c.requires.among own fields.items groups c.in_ok-own.ensures.fields grouped named)
    c.fields_named_in.ensures.named
