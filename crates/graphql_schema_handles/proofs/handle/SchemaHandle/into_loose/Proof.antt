-- `into_loose` compares the pointer with null, and hands on what lies there if it is not.
use Rattle.std.proofs.Common.{[], ◌∷◌, refl, sym, subst, lit<}
use Rattle.std.proofs.raw_atomic.Walks.{proved}
use mir.Val.{Val, vptr, vcons, vnil}
use base.Logic.{SProp}
use base.Fml.{ftrue}
use prog.Wp.{WpFn}
use contract.Running.{tables}
use types.Kit.{‵, raw, prop, at_ret, ◌⊛◌, ◌$◌, ◌∵◌, !, qed, done, move, keep, drop, split, join, fsplit, regoal, suffices, use0, use1}
use types.Run.{stop, fld, lit, of_opd, bin, no_more, and_then, first, branches, skips, exec, enter, returns, returns_within}
use types.Part.{agg, sub, whole}
use types.Match.{live}
use types.ByLocal.{alloc_all, pass_all, free_all, look_at, get, get_in, sets, env}
use denote.RattleType.{RattleType, owns}
use denote.RawPtr.{Ptr, block_ptr, null_ptr, Testable, tests_null}
use denote.Signature.{types_at, plain}
use denote.Steps.{nothing}
use denote.Triple.Entry.{alive}
use denote.Triple.Walked.{Stays, stay_dropped, walk_of, says, ends_at, Goes-dropped}
use Rattle.std.specs.declared.option.Option.TheVariants.{None, Some}
use Rattle.std.specs.contracts.alloc.Global as heap
use Rattle.std.proofs.alloc.Global.TheLaws as heap_laws
use Rattle.std.specs.contracts.impls.GlobalAllocator.TheImpl.{ghosts}
use Rattle.std.proofs.Handle.{heap_val, heap_Tells}
use Rattle.std.below.core.proofs.option.Made.{Some-of, none_of}
use Rattle.graphql_schema_handles.specs.contracts.sessions.Session as session
use Rattle.graphql_schema_handles.specs.contracts.handle.SchemaHandle as handle
use Rattle.graphql_schema_handles.proofs.handle.SchemaHandle.TheLaws.{lowers}
use Rattle.graphql_schema_handles.proofs.Values.{both, Loose, loose_good, loose_in}
use Rattle.graphql_schema_handles.proofs.HandleSteps.{slot, held_cases}
use Rattle.graphql_schema_handles.specs.contracts.handle.SchemaHandle.into_loose as f
use Rattle.graphql_schema_handles.proofs.handle.SchemaHandle.into_loose.Statement.{statement}
use Rattle.graphql_schema_handles.proofs.handle.SchemaHandle.into_loose.Code as code

abbrev Z : RattleType
Z = heap.the_row

abbrev L : RattleType
L = Loose session.the_row Z heap_laws.the_row_laws ghosts

pub into_loose_spec : {M : Type 1} → statement M
into_loose_spec 𝓤 𝓛 𝓜 𝓡 wired =
    let c = f.clauses 𝓛 𝓜.mem 𝓡.returns in let 𝓣 = tables 𝓤 𝓛.H 𝓜 𝓡 𝓡.env in let fn = code.function in
    let hs : Stays f.ended.signature.params f.ended.kept = (stay_dropped (plain (λ _. handle.the_row)) f.ended.kept.0, (stay_dropped (plain (λ _. Z)) f.ended.kept.1.0, tt)) in
    proved 𝓛 f.ended hs c 𝓜 𝓡 (Goes-dropped 𝓛 0 (plain (λ _. handle.the_row)) f.ended.kept.0 (λ κs x w. refl), (Goes-dropped 𝓛 0 (plain (λ _. Z)) f.ended.kept.1.0 (λ κs x w. refl), tt))
    f.Key.name fn (code.unfolded 𝓤 𝓛.H 𝓜 𝓡 wired) (λ κs. ((λ h. slot h.at ∷ []), ((λ g. heap_val ∷ []), tt))) (λ κs. (lowers.val_is, (heap_Tells, tt))) (λ κs qs bounds a g are.
    let h = a.0 in let y : (walk_of 𝓛 f.ended hs c).Ghost = ((κs, qs, bounds, a, (slot h.at ∷ [], (heap_val ∷ [], tt))), g) in
    let Post : Val → SProp 𝓤 = (walk_of 𝓛 f.ended hs c).post y in let Run : Ptr → SProp 𝓤 = λ p. WpFn 𝓤 𝓛.H 𝓣.C 𝓣.Λ fn (slot p ∷ heap_val ∷ []) Post in
    qed 𝓛 ((raw (alive 𝓛 f.signature κs qs) ⊛ ‵ (owns (types_at f.signature.params κs) a (slot h.at ∷ [], (heap_val ∷ [], tt)))) ∷ ‵ ftrue ∷ []) ∵ split ! $ drop ! $ fsplit ! $ fsplit ! $ drop ! $ move ! (1 ∷ []) $ fsplit ! $
    -- [the heap's handle; true; what the handle holds; true]
    keep ! (2 ∷ 0 ∷ []) $
    held_cases ! h.at h.kept
    (λ eo e. regoal ! (λ (p : Ptr). prop (Run p)) e refl $
    enter ! 𝓣.C 𝓣.Λ fn _ Post $ alloc_all ! (λ l. pass_all ! refl ((tt, (record { fits = lit< tt }, tt)), ((tt, ((tt, tt), tt)), tt)) $
    sets ! (of_opd ! (get_in ! (fld ! refl (stop !)) (sub ! 0 refl (whole !)))) refl (tt, record { fits = lit< tt }) $
    sets ! (bin ! (get ! refl) (lit ! tt) (tests_null null_ptr (lit< tt))) refl (tt, tt) $
    first ! $ branches ! (get ! refl)
    (λ _. sets ! (agg ! (and_then ! (lit ! tt) (no_more !))) refl (tt, (record { fits = lit< tt }, tt)) $
    returns_within ! Post refl (look_at ! 0 refl) $ free_all ! refl $ drop ! $
    use0 𝓛 (‵ ((f.signature.result.row κs).own_val None (live 0 vnil ∷ []))) (none_of 𝓛 L) $
    suffices ! _ (ends_at 𝓛 f.ended hs c y (live 0 vnil) None (tt, (tt, tt)) (tt, (tt, tt))) $ says ! (sym eo) $
    nothing ! $ nothing ! $ join ! $ nothing ! $ join ! $ nothing ! $ done !)
    (λ wrong. absurd wrong)))
    (λ x b o eo e may. regoal ! (λ (p : Ptr). prop (Run p)) e refl $ let v : Val = both (vptr b o) heap_val in
    let w : Val = live 1 (vcons v vnil) in let d : L.Denot = record { at = block_ptr b o; alloc = a.1.0; value = x } in
    let typed = loose_good session.the_row Z heap_laws.the_row_laws ghosts b o heap_val (tt, ((tt, tt), tt)) in
    enter ! 𝓣.C 𝓣.Λ fn _ Post $ alloc_all ! (λ l. pass_all ! refl ((tt, (tt, tt)), ((tt, ((tt, tt), tt)), tt)) $
    sets ! (of_opd ! (get_in ! (fld ! refl (stop !)) (sub ! 0 refl (whole !)))) refl (tt, tt) $
    sets ! (bin ! (get ! refl) (lit ! tt) (tests_null (block_ptr b o) (subst Testable e may))) refl (tt, tt) $
    first ! $ branches ! (get ! refl) (λ wrong. absurd wrong)
    (λ _. skips ! $ exec ! 𝓣.C 𝓣.Λ (env fn.locals l) code.Mir.t-4 (at_ret (env fn.locals l) Post) $
    sets ! (of_opd ! (get ! refl)) refl (tt, tt) $
    sets ! (agg ! (and_then ! (get ! refl) (and_then ! (get ! refl) (no_more !)))) refl typed $
    sets ! (agg ! (and_then ! (lit ! tt) (and_then ! (get ! refl) (no_more !)))) refl (tt, (record { fits = lit< tt }, (typed.1, tt))) $
    returns ! (look_at ! 0 refl) $ free_all ! refl $
    loose_in session.the_row Z heap_laws.the_row_laws ghosts ! b o heap_val a.1.0 x $
    use1 𝓛 (‵ ((f.signature.result.row κs).own_val (Some d) (w ∷ []))) (Some-of 𝓛 L d v) $
    suffices ! _ (ends_at 𝓛 f.ended hs c y w (Some d) (tt, (tt, tt)) (tt, (tt, tt))) $ says ! (sym eo) $
    nothing ! $ nothing ! $ join ! $ nothing ! $ join ! $ nothing ! $ done !))))
