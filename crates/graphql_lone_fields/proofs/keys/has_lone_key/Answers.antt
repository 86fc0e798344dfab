use Rattle.std.proofs.Common.{◌≡◌, ◌∙◌, inl, inr, All, [], ◌∷◌, ap, subst, sym, take}
use Rattle.std.proofs.lemmas.List.{take_all}
use Rattle.std.proofs.lemmas.List.Elements.{All-append, All-cons, All-nil}
use Rattle.graphql_nodes.specs.Names.{same_name}
use Rattle.graphql_documents.specs.Selections.{response_key}
use Rattle.graphql_specification.specs.MergedSets.{key_of}
use Rattle.graphql_field_conflicts.specs.FieldSelections.{listed, selection_of}
use Rattle.graphql_lone_fields.specs.LoneFields.{NeedNoMerging}
use Rattle.graphql_lone_fields.proofs.KeyLemmas.{listed_more}
use Rattle.graphql_lone_fields.proofs.keys.has_lone_key.Goals.{else-has_key-via-then-has_key+else-not-are_equal_leaves, else-has_key-via-else-has_key}
use Rattle.graphql_lone_fields.proofs.keys.has_lone_key.Goals as goal

pub loop-other-preserved : goal.loop-other-preserved
loop-other-preserved c =
    let xs = c.args.others.now in
    let i = c.loop-other.other-index in
    let x = c.other-item.result in
    let P = NeedNoMerging (selection_of c.args.field.now) in
    let key : c.response_key-key.result.now ≡ key_of (selection_of c.args.field.now) = c.response_key-key.ensures ∙ ap response_key c.deref.ensures in
    let here : P (selection_of x) = elim c.else-has_key.branch [
      | else-has_key-via-then-has_key+else-not-are_equal_leaves w ↦ inr (w.are_equal_leaves.ensures.0 w.if-not-are_equal_leaves.false)
      | else-has_key-via-else-has_key w ↦ inl (ap (λ k. same_name k (key_of (selection_of x))) (sym key) ∙ sym c.has_key.ensures ∙ w.if-has_key.false)
    ] in
    record {
      lone = subst (All P) (sym (listed_more xs i x c.loop-other-test.true c.other-item.is))
          (All-append P (listed (take i xs)) (selection_of x ∷ []) c.loop-other.invariant.lone (All-cons P (selection_of x) [] here (All-nil P)));
    }

pub returns : goal.returns
returns c = λ yes.
    subst (All (NeedNoMerging (selection_of c.args.field.now))) (ap listed (take_all c.loop-other.other-index c.args.others.now c.loop-other-test.false))
    c.loop-other.invariant.lone
