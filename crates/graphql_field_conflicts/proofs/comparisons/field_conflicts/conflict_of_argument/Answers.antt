use Rattle.std.proofs.Common.{◌≡◌, Some, ap, sym, ◌∙◌, subst}
use Rattle.graphql_documents.specs.Directives.{argument_named}
use Rattle.graphql_documents.specs.Values.{SameValue}
use Rattle.graphql_documents.specs.declared.documents.directives.Argument.{Argument}
use Rattle.graphql_documents.specs.declared.documents.values.Value.{Value}
use Rattle.graphql_field_conflicts.proofs.comparisons.field_conflicts.conflict_of_argument.Goals as goal

pub returns-then-branch : goal.returns-then-branch
returns-then-branch c =
    let other = c.in-Some.other.now in
    let value = c.deref-3.ensures ∙ ap (λ (a : Argument). a.value.value.value) c.deref-2.ensures in
    let others = c.deref-5.ensures ∙ ap (λ (a : Argument). a.value.value.value) c.deref-4.ensures in (
      other,
      subst (λ (a : Argument). argument_named a.name c.args.others.now ≡ Some other) c.deref.ensures (sym c.in-Some.ensures),
      subst (λ (v : Value). SameValue v other.value.value.value.value.value) value
          (subst (λ (v : Value). SameValue c.deref-3.result.now v) others (c.in_ok-is_same_value.ensures.0 c.if-branch.true)),
    )
