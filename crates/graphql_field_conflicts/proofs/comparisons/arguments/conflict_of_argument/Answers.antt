use Rattle.std.proofs.Common.{◌≡◌, None, Some, refl, sym, ap, ◌∙◌, subst}
use Rattle.graphql_documents.specs.Directives.{argument_named}
use Rattle.graphql_documents.specs.Values.{SameValue}
use Rattle.graphql_documents.specs.declared.documents.directives.Argument.{Argument}
use Rattle.graphql_documents.specs.declared.documents.values.Value.{Value}
use Rattle.graphql_field_conflicts.proofs.comparisons.arguments.conflict_of_argument.Goals as goal

pub returns-in-None : goal.returns-in-None
returns-in-None c =
    (refl, subst (λ (a : Argument). argument_named a.name c.args.others.now ≡ None) c.deref.ensures (sym c.in-None.ensures))

pub returns-in-Some : goal.returns-in-Some
returns-in-Some c =
    let other = c.in-Some.other.now in
    let value = c.deref-in-Some-2.ensures ∙ ap (λ (a : Argument). a.value.value.value) c.deref-in-Some-1.ensures in
    let others = c.deref-in-Some-4.ensures ∙ ap (λ (a : Argument). a.value.value.value) c.deref-in-Some-3.ensures in (
      other,
      subst (λ (a : Argument). argument_named a.name c.args.others.now ≡ Some other) c.deref.ensures (sym c.in-Some.ensures),
      subst (λ (v : Value). SameValue v other.value.value.value.value.value) value
          (subst (λ (v : Value). SameValue c.deref-in-Some-2.result.now v) others (c.same_value.ensures.0 c.if-same_value.true)),
    )

pub returns-in-Some-2 : goal.returns-in-Some-2
returns-in-Some-2 c =
    let other = c.in-Some.other.now in
    let value = c.deref-in-Some-2.ensures ∙ ap (λ (a : Argument). a.value.value.value) c.deref-in-Some-1.ensures in
    let others = c.deref-in-Some-4.ensures ∙ ap (λ (a : Argument). a.value.value.value) c.deref-in-Some-3.ensures in (
      refl,
      subst (λ (a : Argument). argument_named a.name c.args.others.now ≡ Some other) c.deref.ensures (sym c.in-Some.ensures),
      λ same.
          let is = sym c.if-same_value.false ∙ c.same_value.ensures.1 (subst (λ (v : Value). SameValue v c.deref-in-Some-4.result.now) (sym value)
          (subst (λ (v : Value). SameValue c.args.argument.now.value.value.value.value.value v) (sym others) same)) in
          let no : ⊥ = cc in no,
    )
