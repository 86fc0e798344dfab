-- How the steps of a search grow.
use Rattle.std.proofs.Common.{◌≡◌, ◌⊎◌, ℕ, zero, suc, List, [], ◌∷◌, ◌++◌, Bool, true, false, cond, Option, Some, None, inl, inr, refl, ap, subst, ◌∙◌}
use Rattle.std.proofs.Math.ListN.{set}
use Rattle.std.specs.Map.{lookup_key}
use Rattle.std.specs.Option.{option_map}
use Rattle.std.proofs.lemmas.Option.{same_Some}
use Rattle.graphql_nodes.specs.Names.{NameText, same_name}
use Rattle.graphql_documents.specs.declared.documents.schemas.ExtendedType.{ExtendedType}
use Rattle.graphql_documents.specs.declared.documents.schemas.Schema.{Schema}
use Rattle.graphql_schema_ways.specs.Ways.{LeadsTo, Reaches, entry_at, step_at}
use Rattle.graphql_schema_ways.specs.declared.ways.Step.{Step}

-- the key under which something is looked up passes the test
pub key_passes : {X : Type 0} (test : NameText → Bool) (es : List (NameText × X)) (key : NameText) → lookup_key test es ≡ Some key → test key ≡ true
key_passes test [] key e = absurd (let h : ⊥ = cc in h)
key_passes test (x ∷ xs) key e = by (test x.0) refl e (key_passes test xs key) where
  by : (b : Bool) → test x.0 ≡ b → cond b (Some x.0) (lookup_key test xs) ≡ Some key → (lookup_key test xs ≡ Some key → test key ≡ true) → test key ≡ true
  by true t e behind = subst (λ k. test k ≡ true) (same_Some x.0 key e) t
  by false t e behind = behind e

-- a step behind a write was written, or stood there before
written_or_old : (steps : List (Option Step)) (at : ℕ) (s : Step) (index : ℕ) (t : Step) → step_at (set steps at (Some s)) index ≡ Some t →
    ((index ≡ at) × (s ≡ t)) ⊎ (step_at steps index ≡ Some t)
written_or_old [] at s index t e = inr e
written_or_old (x ∷ xs) zero s zero t e = inl (refl, same_Some s t e)
written_or_old (x ∷ xs) zero s (suc index) t e = inr e
written_or_old (x ∷ xs) (suc at) s zero t e = inr e
written_or_old (x ∷ xs) (suc at) s (suc index) t e =
    elim (written_or_old xs at s index t e) [ inl h ↦ inl (ap suc h.0, h.1) | inr h ↦ inr h ]

-- a step that leads to the type at its index is added
pub step_added : (schema : Schema) (steps : List (Option Step)) (at : ℕ) (s : Step) (name key : NameText) (definition : ExtendedType) →
    LeadsTo schema name s → entry_at schema at ≡ Some (key, definition) → lookup_key (same_name name) schema.types.entries ≡ Some key →
    Reaches schema steps (set steps at (Some s))
step_added schema steps at s name key definition leads is found old index t e =
    elim (written_or_old steps at s index t e) [
      | inl h ↦ record {
        name = name;
        leads = subst (λ x. LeadsTo schema name x) h.1 leads;
        key = key;
        at = ap (λ i. option_map (λ (entry : NameText × ExtendedType). entry.0) (entry_at schema i)) h.0 ∙ ap (λ o. option_map (λ (entry : NameText × ExtendedType). entry.0) o) is;
        same = key_passes (same_name name) schema.types.entries key found;
      }
      | inr h ↦ old index t h
    ]

-- no step stands in an empty list, nor behind a place without one
pub no_step_in : (index : ℕ) (s : Step) → step_at [] index ≡ Some s → ⊥
no_step_in index s e = let h : ⊥ = cc in h

pub no_step_more : (steps : List (Option Step)) → ((index : ℕ) (s : Step) → step_at steps index ≡ Some s → ⊥) →
    (index : ℕ) (s : Step) → step_at (steps ++ None ∷ []) index ≡ Some s → ⊥
no_step_more [] none zero s e = let h : ⊥ = cc in h
no_step_more [] none (suc index) s e = let h : ⊥ = cc in h
no_step_more (x ∷ xs) none zero s e = none zero s e
no_step_more (x ∷ xs) none (suc index) s e = no_step_more xs (λ i t h. none (suc i) t h) index s e
