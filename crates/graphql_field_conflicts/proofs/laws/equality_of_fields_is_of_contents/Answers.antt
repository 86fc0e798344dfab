use Rattle.std.proofs.Common.{Bool, true, false, refl}
use Rattle.std.specs.Prelude.{◌&&◌, IsTrue}
use Rattle.graphql_documents.proofs.ContentLemmas.{equality_of_fields}
use Rattle.graphql_field_conflicts.specs.contracts.field_selections.FieldSelectionHash.TheImpl.Laws as hash_laws
use Rattle.graphql_field_conflicts.proofs.laws.equality_of_fields_is_of_contents.Goals as goal

both_true : (a b : Bool) → IsTrue (a && b) → IsTrue a × IsTrue b
both_true true b h = (refl, h)
both_true false b h = absurd (let no : ⊥ = cc in no)

true_both : (a b : Bool) → IsTrue a → IsTrue b → IsTrue (a && b)
true_both true b h k = k
true_both false b h k = absurd (let no : ⊥ = cc in no)

pub returns-clause-equality : goal.returns-clause-equality
returns-clause-equality c x y = (
  λ e. let h = both_true _ _ e in (h.0, (equality_of_fields x.field.now.value.value y.field.now.value.value).0 h.1),
  λ p. true_both _ _ p.0 ((equality_of_fields x.field.now.value.value y.field.now.value.value).1 p.1),
)

pub returns-clause-hash : goal.returns-clause-hash
returns-clause-hash c x y e = hash_laws.respects_eq-law x y e
