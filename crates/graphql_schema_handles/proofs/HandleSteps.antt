-- The machine value of a `Handle`, and what one owns. Assumes `Logic`.
--     slot p          the machine value of a handle whose pointer is p
--     handle_in       what is held at p makes a handle
--     held_cases      nothing is held at null; or a value is, with its block, at a pointer that may be compared with null
use Rattle.std.proofs.Common.{◌≡◌, ℕ, List, [], ◌∷◌, refl}
use mir.Val.{Val, vstruct, vcons, vnil}
use mir.Raw.{raw as bare}
use base.Logic.{never, via, fst∗, snd∗, guard_i}
use seplogic.Ra.Ura.{Ura}
use contract.Monad.{fact_use}
use types.Logic.{Logic, sem}
use types.Kit.{Item, Goal, Seq, Step, step, ‵, given, ◌$◌, fjoin, fpack, feq_i, feq_l, use1, learn}
use base.Fml.{Fml}
use base.Fraction.{full_share}
use denote.RattleType.{Valss}
use denote.Builtin.{RawPtr}
use denote.Memory.{lone}
use denote.RawPtr.{Ptr, block_ptr, null_ptr, ptr_val, in_a_block, lies_at, Testable}
use denote.Steps.{nothing}
use denote.Struct.Struct.{within}
use denote.Struct.Owning.{shape}
use Rattle.std.specs.declared.option.Option.{Option}
use Rattle.std.specs.declared.option.Option.TheVariants.{None, Some}
use Rattle.std.specs.Box.Ownership.{box_owns}
use Rattle.std.specs.contracts.impls.GlobalAllocator.TheImpl.{ghosts}
use Rattle.std.proofs.GlobalToken.{dealloc_token-Testable}
use Rattle.graphql_schema_handles.specs.Held.{held, heap}
use Rattle.graphql_schema_handles.specs.contracts.sessions.Session as session
use Rattle.graphql_schema_handles.specs.contracts.handle.SchemaHandle as handle

abbrev pub slot : Ptr → Val
slot p = vstruct (vcons (ptr_val p) vnil)

abbrev X : Type 0
X = (session.the_row).Denot

abbrev owned : Ptr → X → Fml
owned p x = box_owns (ghosts.dealloc_token heap) session.the_row p x

module _ {M : Type 1} {𝓤 : Ura M} {𝓛 : Logic 𝓤} {K : Type 0} {Γ : List (Item 𝓤)} {G : Goal 𝓤 𝓛.H} where
  pub handle_in : K → (p : Ptr) (o : Option X)
      → Step K 𝓛 (‵ ((handle.the_row).own_val (record { at = p; kept = o }) (slot p ∷ [])) ∷ Γ) G (‵ (held session.the_row p o) ∷ Γ) G
  handle_in t p o = step (λ s.
      nothing t $ feq_i t (List Val) (ptr_val p ∷ []) (ptr_val p ∷ []) refl $ fjoin t $ feq_i t (List Val) (slot p ∷ []) (slot p ∷ []) refl $ fjoin t $
      fpack t (Valss (RawPtr ∷ [])) (within (shape handle.the_type) (p, tt) (slot p ∷ [])) (ptr_val p ∷ [], tt) $ fjoin t $ s)

  pub held_cases : K → (p : Ptr) (o : Option X)
      → (o ≡ None → p ≡ null_ptr → Seq K 𝓛 Γ G)
      → ((x : X) (b n : ℕ) → o ≡ Some x → p ≡ block_ptr b n → Testable p → Seq K 𝓛 (‵ (owned (block_ptr b n) x) ∷ Γ) G)
      → Seq K 𝓛 (‵ (held session.the_row p o) ∷ Γ) G
  held_cases t p None empty full = feq_l t (λ e. empty refl e)
  held_cases t p (Some x) empty full =
      use1 𝓛 (given (Testable p) (‵ (owned p x)))
      (fact_use 𝓤 (Testable p) (via 𝓤 _ (snd∗ 𝓤 (sem 𝓛 (lies_at session.the_row full_share p x)) (sem 𝓛 (ghosts.dealloc_token heap (bare (lone (session.the_row).mir)) p))) (dealloc_token-Testable 𝓛 heap (bare (lone (session.the_row).mir)) p)) (guard_i 𝓤 (Testable p) (sem 𝓛 (owned p x)))) $
      learn t (λ may. in_a_block t p (λ q. owned q x) (fst∗ 𝓤 (never 𝓤) (sem 𝓛 (ghosts.dealloc_token heap (bare (lone (session.the_row).mir)) null_ptr))) (λ b n e. full x b n refl e may))
