use Rattle.std.proofs.Common.{sym, ◌∙◌, subst}
use Rattle.graphql_specification.specs.Values.{HasNoNullEntry}
use Rattle.graphql_values.proofs.NullNameLemmas.{has_no_place}
use Rattle.graphql_values.proofs.value.entries.EntriesByName.has_null.Goals as goal

pub returns-in-Some : goal.returns-in-Some
returns-in-Some c =
    let name = c.args.name.now in
    let place = c.place_of.result in
    let has = c.self.invariant.1 c.in-Some.names c.in-Some.is in (
      λ none. subst (λ l. HasNoNullEntry l name) c.self.view_is
          ((has.look_up name).0 (sym c.place_of.ensures ∙ (has_no_place place).0 (sym c.is_some.ensures ∙ none))),
      λ all. c.is_some.ensures ∙
          (has_no_place place).1 (c.place_of.ensures ∙ (has.look_up name).1 (subst (λ l. HasNoNullEntry l name) (sym c.self.view_is) all)),
    )
