use Rattle.std.proofs.Common.{◌≡◌, ◌∷◌, ◌++◌, [], ap, arith, map, rules, subst, sym, ◌∙◌}
use Rattle.std.proofs.lemmas.List.{append-nil, map-append}
use Rattle.std.proofs.lemmas.List.Elements.{All-nil}
use Rattle.graphql_diagnostics.specs.Diagnostics.{IsDiagnostic, entries}
use Rattle.graphql_diagnostics.specs.Reports.{Reports}
use Rattle.graphql_documents.specs.Roots.{roots_left}
use Rattle.graphql_specification.specs.SchemaDefinitions.{RootsReport}
use Rattle.graphql_documents.specs.Schemas.{roots_of}
use Rattle.graphql_diagnostics.proofs.ReportLemmas.{both, checks-err, holds, in_words, kept_by, kept_then}
use Rattle.graphql_documents.proofs.ListLemmas.{done_next}
use Rattle.graphql_variables.specs.FirstPlaces.{IsNext}
use Rattle.graphql_schemas.specs.RootSteps.{AreRoots, lent_root}
use Rattle.graphql_schemas.proofs.RootLemmas.{roots_hold, roots_more}
use Rattle.graphql_schemas.proofs.schema_definition.validate_root_operation_definitions.Goals as goal

pub loop-root-init : goal.loop-root-init
loop-root-init c =
    let same : c.into_iter-root-iterator.result ≡ c.iter_root_operations-root-items.result = search rules in
    record {
      can_next = tt;
      is_finite = tt;
      all = rw c.new-seen.ensures.items (sym (ap roots_left same ∙ c.iter_root_operations-root-items.ensures));
      reported = rw c.new-seen.ensures.items (holds _ _ _ (All-nil _, λ i j d lt h. absurd (let none : ⊥ = omega arith in none)));
    }

pub returns-in_err-validate_root : goal.returns-in_err-validate_root
returns-in_err-validate_root c =
    let roots = roots_of c.args.schema.now.schema_definition.value.value in
    let before = map lent_root c.loop-root.seen.items in
    let x = lent_root c.in-Some.root in
    let next : IsNext roots before x = record {
      after = roots_left c.next.new.self;
      split = c.loop-root.invariant.all ∙ ap (λ l. before ++ l) c.in-Some.ensures.steps;
    } in
    checks-err _ _ _ _ _ c.from_residual.ensures.0
    (kept_then (kept_by c.loop-root.invariant.reported) ((rw c.deref.ensures.value at c.in_err-validate_root.ensures) next))

pub returns-in_err-push : goal.returns-in_err-push
returns-in_err-push c =
    let roots = roots_of c.args.schema.now.schema_definition.value.value in
    let before = map lent_root c.loop-root.seen.items in
    let x = lent_root c.in-Some.root in
    let next : IsNext roots before x = record {
      after = roots_left c.next.new.self;
      split = c.loop-root.invariant.all ∙ ap (λ l. before ++ l) c.in-Some.ensures.steps;
    } in
    checks-err _ _ _ _ _ c.from_residual-in_err-push.ensures.0
    (kept_then (kept_by c.loop-root.invariant.reported) (kept_by ((rw c.deref.ensures.value at c.in_ok-validate_root.ensures) next)))

pub loop-root-preserved : goal.loop-root-preserved
loop-root-preserved c =
    let schema = c.args.schema.now in
    let d = schema.schema_definition.value.value in
    let seen = c.loop-root.seen.items in
    let before = map lent_root seen in
    let root = c.in-Some.root in
    let x = lent_root root in
    let next : IsNext (roots_of d) before x = record {
      after = roots_left c.next.new.self;
      split = c.loop-root.invariant.all ∙ ap (λ l. before ++ l) c.in-Some.ensures.steps;
    } in
    let pushed : c.push.new.self.items ≡ seen ++ root ∷ [] = search rules in
    let more : map lent_root c.push.new.self.items ≡ before ++ x ∷ [] = ap (map lent_root) pushed ∙ map-append lent_root seen (root ∷ []) in
    record {
      can_next = tt;
      is_finite = tt;
      all = rw more (done_next (roots_of d) before (roots_left c.loop-root.root-iterator) (roots_left c.next.new.self) x c.loop-root.invariant.all c.in-Some.ensures.steps);
      reported = rw more
          (in_words (roots_more schema before x)
          (both c.loop-root.invariant.reported ((rw c.deref.ensures.value at c.in_ok-validate_root.ensures) next)));
    }

pub returns : goal.returns
returns c =
    let schema = c.args.schema.now in
    let d = schema.schema_definition.value.value in
    let before = map lent_root c.loop-root.seen.items in
    let all : roots_of d ≡ before = c.loop-root.invariant.all ∙ ap (λ l. before ++ l) c.in-None.ensures.steps.0 ∙ append-nil before in
    in_words (roots_hold schema d)
    (subst (λ l. Reports (AreRoots schema l) (IsDiagnostic (RootsReport schema d)) (entries c.args.diagnostics.now) (entries c.loop-root.diagnostics))
    (sym all) c.loop-root.invariant.reported)
