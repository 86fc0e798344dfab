-- Each exit of the walk over selections.
use Rattle.std.proofs.Common.{rules, inl, ◌≡◌, ◌+◌, ◌<◌, Bool, true, false, not, [], ◌∷◌, ◌++◌, Some, None, IsTrue, IsFalse, Contains, get_or, length, take, refl, sym, ap, ◌∙◌, subst, arith}
use Rattle.std.proofs.lemmas.List.{append-nil}
use Rattle.std.proofs.lemmas.List.Elements.{All-contains, All-contains_itself, All-take}
use Rattle.std.specs.Option.{option_copied}
use Rattle.std.proofs.lemmas.Result.{MatchResult-from_err}
use Rattle.graphql_diagnostics.specs.Diagnostics.{entries}
use Rattle.graphql_nodes.specs.Names.{stands_on, with_name}
use Rattle.graphql_nodes.proofs.NameLemmas.{same_name_itself}
use Rattle.graphql_variables.proofs.SelectionWalkLemmas.{stands_last}
use Rattle.graphql_nodes.specs.declared.nodes.Node.{Node}
use Rattle.graphql_documents.specs.declared.documents.executables.FragmentSpread.{FragmentSpread}
use Rattle.graphql_documents.specs.declared.documents.executables.Selection.{size-Selection}
use Rattle.graphql_documents.specs.declared.documents.executables.SelectionSet.{size-SelectionSet}
use Rattle.graphql_operations.specs.declared.context.OperationValidationContext.{OperationValidationContext}
use Rattle.graphql_documents.specs.Selections.{fragments_of, selections_of, type_under}
use Rattle.graphql_documents.specs.declared.documents.executables.Selection.TheVariants as kind
use Rattle.graphql_diagnostics.proofs.ReportLemmas.{kept_by, kept_wider}
use Rattle.graphql_documents.proofs.ListLemmas.{more_is}
use Rattle.graphql_documents.proofs.SelectionLemmas.{one_fragment_found}
use Rattle.graphql_operations.specs.Contexts.{IsAgainst, StaysAsItWas, visited_fragment_names, parent_of, schema_of, variables_of}
use Rattle.graphql_rules.specs.SelectionSteps.{IsParentOfSubselections, WalkAnswers, WalkStops, Walks}
use Rattle.graphql_rules.proofs.VisitedLemmas.{stands_still, was_new, was_there}
use Rattle.graphql_operations.proofs.MeasureLemmas.{room_falls, room_stays, selection_is_smaller}
use Rattle.graphql_rules.proofs.WalkLemmas.{field_says, inline_says, spread_says, stopped, stopped_then, stopped_wider, walked_before, walked_definition_alone, walked_field_alone, walked_inline_alone, walked_none, walked_then, walked_undefined, walks_as, walks_definition, walks_field, walks_fragment, walks_inline}
use Rattle.graphql_rules.proofs.operations.walk.+selection.Goals as goal

-- a spread whose fragment was visited, or had been
module _ (p : Node FragmentSpread) (old checked new : OperationValidationContext) (named : FragmentSpread) (is_new : Bool) (is : named ≡ p.value.value)
    (stays : StaysAsItWas old checked)
    (answer : is_new ≡ not (stands_on (visited_fragment_names checked) named.fragment_name))
    (names : visited_fragment_names new ≡ with_name (visited_fragment_names checked) named.fragment_name) where
  new_names : is_new ≡ true → IsFalse (stands_on (visited_fragment_names old) p.value.value.fragment_name) × (visited_fragment_names new ≡ visited_fragment_names old ++ p.value.value.fragment_name ∷ [])
  new_names first = rw (sym is, sym stays.visited_fragments) (was_new (visited_fragment_names checked) (visited_fragment_names new) named.fragment_name is_new answer names first)

  old_names : is_new ≡ false → IsTrue (stands_on (visited_fragment_names old) p.value.value.fragment_name) × (visited_fragment_names new ≡ visited_fragment_names old)
  old_names again = rw (sym is, sym stays.visited_fragments) (was_there (visited_fragment_names checked) (visited_fragment_names new) named.fragment_name is_new answer names again)

pub walk_field-returns-in_err-check_field-clause-walks : goal.walk_field-returns-in_err-check_field-clause-walks
walk_field-returns-in_err-check_field-clause-walks t c =
    let S = schema_of c.args.context.now in
    let F = fragments_of c.args.document.now.document.now in
    let V = variables_of c.args.context.now in
    let one = one_fragment_found c.args.document.now.document.now in
    MatchResult-from_err _ _ _ c.from_residual.ensures.0
    (λ y. stopped S F V one (visited_fragment_names c.args.context.now) (field_says S F V one (parent_of c.args.against_type) c.args.field.now) c.in_err-check_field.ensures.checks)

pub walk_field-returns-in-Nowhere-clause-walks : goal.walk_field-returns-in-Nowhere-clause-walks
walk_field-returns-in-Nowhere-clause-walks t c =
    let S = schema_of c.args.context.now in
    let P = parent_of c.args.against_type in
    walked_field_alone S (fragments_of c.args.document.now.document.now) (variables_of c.args.context.now) (one_fragment_found c.args.document.now.document.now) P c.args.field.now
    (subst (IsParentOfSubselections S P c.args.field.now.value.value) c.in-Nowhere.is c.in_ok-check_field.ensures.below)
    c.in_ok-check_field.ensures.checks (visited_fragment_names c.args.context.now)

pub walk_field-returns-in-On-clause-walks : goal.walk_field-returns-in-On-clause-walks
walk_field-returns-in-On-clause-walks t c =
    let S = schema_of c.args.context.now in
    let F = fragments_of c.args.document.now.document.now in
    let V = variables_of c.args.context.now in
    let P = parent_of c.args.against_type in
    let f = c.args.field.now in
    let below = subst (IsParentOfSubselections S P f.value.value) c.in-On.is c.in_ok-check_field.ensures.below in
    walks_field S F V (one_fragment_found c.args.document.now.document.now) P (parent_of c.in-On.ty) f below.1 c.in_ok-check_field.ensures.checks
    c.walk_selection_set.result (visited_fragment_names c.args.context.now) _ _
    (subst (λ x. Walks c.walk_selection_set.result S F V (parent_of c.in-On.ty) (selections_of x.selection_set) (visited_fragment_names c.args.context.now)
    (visited_fragment_names c.walk_selection_set.new.context) (entries c.check_field.new.diagnostics) (entries c.walk_selection_set.new.diagnostics))
    c.deref.ensures c.walk_selection_set.ensures.walks)

pub walk_selection_set-walk_selection-requires : goal.walk_selection_set-walk_selection-requires
walk_selection_set-walk_selection-requires t c =
    let set = c.args.selection_set.now in
    let walked = c.loop-selection.invariant.walked in
    let old = visited_fragment_names c.args.context.now in
    let now = visited_fragment_names c.loop-selection.context in
    let kept = room_stays old now (stands_still old now walked.goes.further walked.goes.grown) c.args.document.now.document.now.fragments.entries in
    let falls : size-Selection c.selection-item.result < size-SelectionSet set =
    subst (λ x. size-Selection x < size-SelectionSet set) (sym (c.selection-item.is ∙ ap (λ l. get_or l c.loop-selection.selection-index c.selection-item.result) c.deref-selection-items.ensures.value))
    (selection_is_smaller set c.loop-selection.selection-index c.selection-item.result
    (subst (λ l. c.loop-selection.selection-index < length l) c.deref-selection-items.ensures.value c.loop-selection-test.true)) in
    (omega (arith, falls, kept, c.decreases), subst (λ s. IsAgainst s c.args.against_type) (sym c.loop-selection.invariant.shared.schema) c.requires)

pub walk_selection_set-returns-in_err-walk_selection-clause-walks :
    goal.walk_selection_set-returns-in_err-walk_selection-clause-walks
walk_selection_set-returns-in_err-walk_selection-clause-walks t c =
    let S = schema_of c.args.context.now in
    let F = fragments_of c.args.document.now.document.now in
    let V = variables_of c.args.context.now in
    let P = parent_of c.args.against_type in
    let one = one_fragment_found c.args.document.now.document.now in
    let xs = c.deref-selection-items.result.now in
    let i = c.loop-selection.selection-index in
    let x = c.selection-item.result in
    let shared = c.loop-selection.invariant.shared in
    MatchResult-from_err _ _ _ c.from_residual.ensures.0
    (λ y. stopped_wider S F V one P (take i xs ++ x ∷ []) (selections_of c.args.selection_set.now)
    (λ z in'. subst (λ l. Contains l z) c.deref-selection-items.ensures.value
    (All-contains (Contains xs) (take (i + 1) xs) z (All-take (Contains xs) (i + 1) xs (All-contains_itself xs))
    (subst (λ l. Contains l z) (sym (more_is xs i x c.loop-selection-test.true c.selection-item.is)) in')))
    (stopped_then S F V one P (take i xs) (x ∷ []) (visited_fragment_names c.args.context.now) (visited_fragment_names c.loop-selection.context) (visited_fragment_names c.walk_selection.new.context)
    (entries c.args.diagnostics.now) (entries c.loop-selection.diagnostics) (entries c.walk_selection.new.diagnostics)
    c.loop-selection.invariant.walked (rw (sym shared.schema, sym shared.variables) c.in_err-walk_selection.ensures.walks)))

pub walk_selection_set-loop-selection-preserved : goal.walk_selection_set-loop-selection-preserved
walk_selection_set-loop-selection-preserved t c =
    let S = schema_of c.args.context.now in
    let F = fragments_of c.args.document.now.document.now in
    let V = variables_of c.args.context.now in
    let P = parent_of c.args.against_type in
    let xs = c.deref-selection-items.result.now in
    let i = c.loop-selection.selection-index in
    let x = c.selection-item.result in
    let shared = c.loop-selection.invariant.shared in
    let then = c.in_ok-walk_selection.ensures.context in
    record {
      walked =
          subst (λ l. WalkAnswers S F V P l (visited_fragment_names c.args.context.now) (visited_fragment_names c.walk_selection.new.context) (entries c.args.diagnostics.now) (entries c.walk_selection.new.diagnostics))
          (sym (more_is xs i x c.loop-selection-test.true c.selection-item.is))
          (walked_then S F V (one_fragment_found c.args.document.now.document.now) P (take i xs) (x ∷ []) (visited_fragment_names c.args.context.now) (visited_fragment_names c.loop-selection.context) (visited_fragment_names c.walk_selection.new.context)
          (entries c.args.diagnostics.now) (entries c.loop-selection.diagnostics) (entries c.walk_selection.new.diagnostics)
          c.loop-selection.invariant.walked (rw (sym shared.schema, sym shared.variables) c.in_ok-walk_selection.ensures.walks));
      shared = record { schema = then.schema ∙ shared.schema; variables = then.variables ∙ shared.variables };
    }

pub walk_fragment_spread-walk_fragment_definition-requires : goal.walk_fragment_spread-walk_fragment_definition-requires
walk_fragment_spread-walk_fragment_definition-requires t c =
    let name = c.args.spread.now.value.value.fragment_name in
    let old = visited_fragment_names c.args.context.now in
    let now = visited_fragment_names c.enter.new.self in
    let first = new_names c.args.spread.now c.args.context.now c.check_spread.new.context c.enter.new.self c.deref.result.now c.in_ok-enter.field-0 c.deref.ensures
    c.in_ok-fragment.ensures.context c.in_ok-enter.ensures.is_new c.in_ok-enter.ensures.names c.if-branch.true in
    let found : fragments_of c.args.document.now.document.now name ≡ Some c.in-Some.fragment.now =
    sym c.in_ok-fragment.ensures.found ∙ ap option_copied c.in-Some.is in
    let falls = room_falls old now (stands_still old now (name ∷ []) first.1) name c.in-Some.fragment.now first.0
    (subst (λ l. IsTrue (stands_on l name)) (sym first.1) (stands_last old name name (same_name_itself name))) c.args.document.now.document.now.fragments.entries found in (
      omega (arith, falls, c.decreases),
      λ known. c.is_known_without_cycle-known.ensures.no_cycle known
          (subst (λ (p : FragmentSpread). fragments_of c.args.document.now.document.now p.fragment_name ≡ Some c.in-Some.fragment.now) (sym c.deref-then-branch.ensures) found),
    )

pub walk_inline_fragment-returns-in_err-check_inline_fragment-clause-walks :
    goal.walk_inline_fragment-returns-in_err-check_inline_fragment-clause-walks
walk_inline_fragment-returns-in_err-check_inline_fragment-clause-walks t c =
    let S = schema_of c.args.context.now in
    let F = fragments_of c.args.document.now.document.now in
    let V = variables_of c.args.context.now in
    let P = parent_of c.args.against_type in
    let one = one_fragment_found c.args.document.now.document.now in
    let i = c.args.inline.now in
    let old = visited_fragment_names c.args.context.now in
    MatchResult-from_err _ _ _ c.from_residual.ensures.0
    (λ y. subst (λ n. WalkStops S F V P (kind.InlineFragment i ∷ []) old n (entries c.args.diagnostics.now) (entries c.check_inline_fragment.new.diagnostics))
    (sym c.in_err-check_inline_fragment.ensures.context.visited_fragments)
    (stopped S F V one old (inline_says S F V one P i) c.in_err-check_inline_fragment.ensures.checks))

pub walk_inline_fragment-returns-then-not-branch-clause-walks : goal.walk_inline_fragment-returns-then-not-branch-clause-walks
walk_inline_fragment-returns-then-not-branch-clause-walks t c =
    let S = schema_of c.args.context.now in
    let F = fragments_of c.args.document.now.document.now in
    let V = variables_of c.args.context.now in
    let P = parent_of c.args.against_type in
    let i = c.args.inline.now in
    let old = visited_fragment_names c.args.context.now in
    subst (λ n. WalkAnswers S F V P (kind.InlineFragment i ∷ []) old n (entries c.args.diagnostics.now) (entries c.check_inline_fragment.new.diagnostics))
    (sym c.in_ok-check_inline_fragment.ensures.context.visited_fragments)
    (walked_inline_alone S F V (one_fragment_found c.args.document.now.document.now) P i c.in_ok-check_inline_fragment.ensures.checks
    (c.in_ok-check_inline_fragment.ensures.answer c.if-not-branch.true) old)

pub walk_inline_fragment-returns-clause-walks : goal.walk_inline_fragment-returns-clause-walks
walk_inline_fragment-returns-clause-walks t c =
    let S = schema_of c.args.context.now in
    let F = fragments_of c.args.document.now.document.now in
    let V = variables_of c.args.context.now in
    let P = parent_of c.args.against_type in
    let one = one_fragment_found c.args.document.now.document.now in
    let i = c.args.inline.now in
    let stays = c.in_ok-check_inline_fragment.ensures.context in
    let condition_is : option_copied c.as_ref-condition.result ≡ i.value.value.type_condition = search rules in
    walks_inline S F V one P i c.in_ok-check_inline_fragment.ensures.checks c.walk_selection_set.result (visited_fragment_names c.args.context.now) _ _
    (walks_as S F V one c.walk_selection_set.result _ _ _ stays.schema stays.variables
    (c.type_below-under.ensures.under ∙ ap (λ s. type_under s P (option_copied c.as_ref-condition.result)) stays.schema ∙ ap (type_under S P) condition_is)
    (ap (λ x. selections_of x.selection_set) c.deref-2.ensures) stays.visited_fragments c.walk_selection_set.ensures.walks)

pub walk_fragment_definition-returns-in_err-check_fragment-clause-walks :
    goal.walk_fragment_definition-returns-in_err-check_fragment-clause-walks
walk_fragment_definition-returns-in_err-check_fragment-clause-walks t c =
    let old = visited_fragment_names c.args.context.now in
    MatchResult-from_err _ _ _ c.from_residual.ensures.0
    (λ y. record { reports = kept_wider (λ e q. inl q) c.in_err-check_fragment.ensures.checks; more = []; grown = sym (append-nil old) })

pub walk_fragment_definition-returns-then-not-branch-clause-walks : goal.walk_fragment_definition-returns-then-not-branch-clause-walks
walk_fragment_definition-returns-then-not-branch-clause-walks t c =
    walked_definition_alone (schema_of c.args.context.now) (fragments_of c.args.document.now.document.now) (variables_of c.args.context.now)
    (one_fragment_found c.args.document.now.document.now) c.args.fragment.now c.in_ok-check_fragment.ensures.checks
    (c.in_ok-check_fragment.ensures.answer c.if-not-branch.true) (visited_fragment_names c.args.context.now)

pub walk_fragment_definition-returns-clause-walks : goal.walk_fragment_definition-returns-clause-walks
walk_fragment_definition-returns-clause-walks t c =
    let S = schema_of c.args.context.now in
    let F = fragments_of c.args.document.now.document.now in
    let V = variables_of c.args.context.now in
    let one = one_fragment_found c.args.document.now.document.now in
    walks_definition S F V one c.args.fragment.now c.in_ok-check_fragment.ensures.checks c.walk_selection_set.result (visited_fragment_names c.args.context.now) _ _
    (walks_as S F V one c.walk_selection_set.result _ _ _ refl refl
    (c.type_below-under.ensures.under ∙ ap (λ x. type_under S None (Some x.selection_set.ty)) c.deref.ensures)
    (ap (λ x. selections_of x.selection_set) c.deref.ensures) refl c.walk_selection_set.ensures.walks)

pub walk_fragment_spread-returns-in_err-fragment-clause-walks : goal.walk_fragment_spread-returns-in_err-fragment-clause-walks
walk_fragment_spread-returns-in_err-fragment-clause-walks t c =
    let S = schema_of c.args.context.now in
    let F = fragments_of c.args.document.now.document.now in
    let V = variables_of c.args.context.now in
    let P = parent_of c.args.against_type in
    let p = c.args.spread.now in
    let old = visited_fragment_names c.args.context.now in
    MatchResult-from_err _ _ _ c.from_residual.ensures.0
    (λ y. subst (λ n. WalkStops S F V P (kind.FragmentSpread p ∷ []) old n (entries c.args.diagnostics.now) (entries c.check_spread.new.diagnostics))
    (sym c.in_err-fragment.ensures.context.visited_fragments)
    (stopped S F V (one_fragment_found c.args.document.now.document.now) old (spread_says S F V (one_fragment_found c.args.document.now.document.now) P p) c.in_err-fragment.ensures.checks))

pub walk_fragment_spread-returns-in_default-clause-walks : goal.walk_fragment_spread-returns-in_default-clause-walks
walk_fragment_spread-returns-in_default-clause-walks t c =
    let S = schema_of c.args.context.now in
    let F = fragments_of c.args.document.now.document.now in
    let V = variables_of c.args.context.now in
    let P = parent_of c.args.against_type in
    let p = c.args.spread.now in
    let old = visited_fragment_names c.args.context.now in
    let undefined : F p.value.value.fragment_name ≡ None = sym c.in_ok-fragment.ensures.found ∙ ap option_copied c.in_default.is in
    subst (λ n. WalkAnswers S F V P (kind.FragmentSpread p ∷ []) old n (entries c.args.diagnostics.now) (entries c.check_spread.new.diagnostics))
    (sym c.in_ok-fragment.ensures.context.visited_fragments)
    (walked_undefined S F V (one_fragment_found c.args.document.now.document.now) P p c.in_ok-fragment.ensures.checks old undefined)

pub walk_fragment_spread-returns-in_err-enter-clause-walks : goal.walk_fragment_spread-returns-in_err-enter-clause-walks
walk_fragment_spread-returns-in_err-enter-clause-walks t c =
    let S = schema_of c.args.context.now in
    let F = fragments_of c.args.document.now.document.now in
    let V = variables_of c.args.context.now in
    let P = parent_of c.args.against_type in
    let p = c.args.spread.now in
    let old = visited_fragment_names c.args.context.now in
    MatchResult-from_err _ _ _ c.from_residual-in_err-enter.ensures.0
    (λ y. subst (λ n. WalkStops S F V P (kind.FragmentSpread p ∷ []) old n (entries c.args.diagnostics.now) (entries c.check_spread.new.diagnostics))
    (sym (c.in_err-enter.ensures.kept ∙ c.in_ok-fragment.ensures.context.visited_fragments))
    (stopped S F V (one_fragment_found c.args.document.now.document.now) old (spread_says S F V (one_fragment_found c.args.document.now.document.now) P p) (kept_by c.in_ok-fragment.ensures.checks)))

pub walk_fragment_spread-returns-then-branch-clause-walks : goal.walk_fragment_spread-returns-then-branch-clause-walks
walk_fragment_spread-returns-then-branch-clause-walks t c =
    let S = schema_of c.args.context.now in
    let F = fragments_of c.args.document.now.document.now in
    let V = variables_of c.args.context.now in
    let P = parent_of c.args.against_type in
    let p = c.args.spread.now in
    let old = visited_fragment_names c.args.context.now in
    let stays = c.in_ok-fragment.ensures.context in
    let shared = c.in_ok-enter.ensures.shared in
    let first = new_names p c.args.context.now c.check_spread.new.context c.enter.new.self c.deref.result.now c.in_ok-enter.field-0 c.deref.ensures
    stays c.in_ok-enter.ensures.is_new c.in_ok-enter.ensures.names c.if-branch.true in
    let found : F p.value.value.fragment_name ≡ Some c.in-Some.fragment.now = sym c.in_ok-fragment.ensures.found ∙ ap option_copied c.in-Some.is in
    walks_fragment S F V (one_fragment_found c.args.document.now.document.now) P p c.in_ok-fragment.ensures.checks old c.in-Some.fragment.now found first.0 (visited_fragment_names c.enter.new.self) first.1
    c.walk_fragment_definition.result _ _
    (rw (sym (shared.schema ∙ stays.schema), sym (shared.variables ∙ stays.variables)) c.walk_fragment_definition.ensures.walks)

pub walk_fragment_spread-returns-else-branch-clause-walks : goal.walk_fragment_spread-returns-else-branch-clause-walks
walk_fragment_spread-returns-else-branch-clause-walks t c =
    let S = schema_of c.args.context.now in
    let F = fragments_of c.args.document.now.document.now in
    let V = variables_of c.args.context.now in
    let P = parent_of c.args.against_type in
    let p = c.args.spread.now in
    let old = visited_fragment_names c.args.context.now in
    let before = old_names p c.args.context.now c.check_spread.new.context c.enter.new.self c.deref.result.now c.in_ok-enter.field-0 c.deref.ensures
    c.in_ok-fragment.ensures.context c.in_ok-enter.ensures.is_new c.in_ok-enter.ensures.names c.if-branch.false in
    subst (λ n. WalkAnswers S F V P (kind.FragmentSpread p ∷ []) old n (entries c.args.diagnostics.now) (entries c.check_spread.new.diagnostics))
    (sym before.1)
    (walked_before S F V (one_fragment_found c.args.document.now.document.now) P p c.in_ok-fragment.ensures.checks old before.0)

pub walk_selection_set-loop-selection-init : goal.walk_selection_set-loop-selection-init
walk_selection_set-loop-selection-init t c = record {
  walked = walked_none (schema_of c.args.context.now) (fragments_of c.args.document.now.document.now) (variables_of c.args.context.now) (one_fragment_found c.args.document.now.document.now)
      (parent_of c.args.against_type) (visited_fragment_names c.args.context.now) (entries c.args.diagnostics.now);
  shared = record { schema = refl; variables = refl };
}
