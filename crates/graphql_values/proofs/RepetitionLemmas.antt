-- Which arguments repeat a name, and the diagnostics that say so.
use Rattle.std.proofs.Common.{◌≡◌, ◌↔◌, ℕ, ◌+◌, ◌<◌, List, [], ◌∷◌, ◌++◌, Option, Some, None, length, get_or, take, drop, refl, sym, ap, ◌∙◌, subst, arith}
use Rattle.std.specs.List.{AllZip, cons_option}
use Rattle.std.specs.Option.{option_map}
use Rattle.std.proofs.lemmas.List.{append-nil, append_assoc, drop_more, take-append-drop}
use Rattle.std.proofs.lemmas.List.Elements.{All-nil}
use Rattle.graphql_specification.specs.Arguments.{AreRepetitionReports, AreReportsOf, IsRepetition, ArgumentRepetitionReport, RepetitionReport, repetition_after, repetitions_after, HasDistinctNames}
use Rattle.graphql_documents.specs.Directives.{argument_named}
use Rattle.graphql_diagnostics.specs.Diagnostics.{IsDiagnostic}
use Rattle.graphql_diagnostics.specs.Reports.{Appends, Reports}
use Rattle.graphql_diagnostics.proofs.DiagnosticLemmas.{diagnostic_wider}
use Rattle.graphql_diagnostics.proofs.ReportLemmas.{appended_then, broken, in_words}
use Rattle.graphql_documents.proofs.ListLemmas.{more_is}
use Rattle.graphql_diagnostics.specs.declared.data.DiagnosticData.TheVariants as report
use Rattle.graphql_diagnostics.specs.declared.data.DiagnosticData.{DiagnosticData}
use Rattle.graphql_diagnostics.specs.declared.lists.DiagnosticEntry.{DiagnosticEntry}
use Rattle.graphql_documents.specs.declared.documents.directives.Argument.{Argument}
use Rattle.graphql_nodes.specs.declared.nodes.Node.{Node}
use Rattle.graphql_nodes.specs.declared.spans.SourceSpan.{SourceSpan}
use Rattle.graphql_values.specs.Repetitions.{argument_name}
use Rattle.graphql_variables.proofs.FirstPlaceLemmas.{distinct_more}

-- nothing was appended
pub appends_none : {Entry : Type 0} (Are : List Entry → Type 0) (old : List Entry) → Are [] → Appends Are old old
appends_none Are old are = record { added = []; appended = sym (append-nil old); are = are }

-- fewer than two arguments repeat none
pub few_repeat_none : (xs : List (Node Argument)) → length xs < 2 → AreRepetitionReports xs []
few_repeat_none [] few = tt
few_repeat_none (a ∷ []) few = tt
few_repeat_none (a ∷ b ∷ xs) few = absurd (omega (arith, few))

-- lists that agree place by place, with more lists that do behind them
zip_then : {A B : Type 0} (R : A → B → Type 0) (xs xs' : List A) (ys ys' : List B) →
    AllZip R xs ys → AllZip R xs' ys' → AllZip R (xs ++ xs') (ys ++ ys')
zip_then R [] xs' [] ys' a b = b
zip_then R [] xs' (y ∷ ys) ys' a b = absurd a
zip_then R (x ∷ xs) xs' [] ys' a b = absurd a
zip_then R (x ∷ xs) xs' (y ∷ ys) ys' a b = (a.0, zip_then R xs xs' ys ys' a.1 b)

-- one argument more has at most one repetition more
repetitions_more : (before given : List (Node Argument)) (x : Node Argument) →
    repetitions_after before (given ++ x ∷ []) ≡ repetitions_after before given ++ repetition_after (before ++ given) x
repetitions_more before [] x =
    append-nil (repetition_after before x) ∙ ap (λ l. repetition_after l x) (sym (append-nil before))
repetitions_more before (a ∷ given) x =
    let one : List (Node Argument × Node Argument) = repetition_after before a in
    let rest : List (Node Argument × Node Argument) = repetitions_after (before ++ a ∷ []) given in
    ap (λ l. one ++ l) (repetitions_more (before ++ a ∷ []) given x) ∙
    sym (append_assoc one rest (repetition_after ((before ++ a ∷ []) ++ given) x)) ∙
    ap (λ l. (one ++ rest) ++ repetition_after l x) (append_assoc before (a ∷ []) given)

-- the diagnostic of a repetition is that of one among the arguments
module _ (given : List (Node Argument)) (first again : Node Argument) (repetition : IsRepetition given first again) where
  among : (r : DiagnosticData) (at : Option SourceSpan) → ArgumentRepetitionReport (first, again) r at → RepetitionReport given r at
  among (report.UniqueArgument name original redefined) at said = record { first = first; again = again; repetition = repetition; says = said }
  among r at said = absurd said

  of_one : (old new added : List DiagnosticEntry) → new ≡ old ++ added → AreReportsOf ((first, again) ∷ []) added →
      Reports ⊥ (IsDiagnostic (RepetitionReport given)) old new
  of_one old new [] is are = absurd are
  of_one old new (e ∷ []) is are =
      broken (IsDiagnostic (RepetitionReport given)) ⊥ old new e is (λ x. x)
      (diagnostic_wider (ArgumentRepetitionReport (first, again)) (RepetitionReport given) among e are.0)
  of_one old new (e ∷ e' ∷ added) is are = absurd are.1

  pub reports_repetition : (old new : List DiagnosticEntry) → Appends (AreReportsOf ((first, again) ∷ [])) old new →
      Reports ⊥ (IsDiagnostic (RepetitionReport given)) old new
  reports_repetition old new a = of_one old new a.added a.appended a.are

-- a walk over the arguments: one more
module _ (xs : List (Node Argument)) (i : ℕ) (x : Node Argument) (within : i < length xs) (item : x ≡ get_or xs i x) where
  pub distinct_at :
      (HasDistinctNames (take i xs) × (argument_named x.value.value.name (take i xs) ≡ None)) ↔ HasDistinctNames (take (i + 1) xs)
  distinct_at = rw (more_is xs i x within item) (distinct_more argument_name (take i xs) x)

  -- it repeats the first with its name, if there is one
  repetition_at : (first : Node Argument) → argument_named x.value.value.name (take i xs) ≡ Some first → IsRepetition xs first x
  repetition_at first e = record {
    before = take i xs;
    after = drop (i + 1) xs;
    split = sym (take-append-drop i xs) ∙ ap (λ l. take i xs ++ l) (drop_more xs i x within ∙ ap (λ y. y ∷ drop (i + 1) xs) (sym item));
    first_is = e;
  }

  pub appends_more : (old mid new : List DiagnosticEntry) → Appends (AreRepetitionReports (take i xs)) old mid →
      Appends (AreReportsOf (repetition_after (take i xs) x)) mid new → Appends (AreRepetitionReports (take (i + 1) xs)) old new
  appends_more old mid new a b = record {
    added = a.added ++ b.added;
    appended = appended_then old mid new a.added b.added a.appended b.appended;
    are =
        subst (λ l. AreRepetitionReports l (a.added ++ b.added)) (sym (more_is xs i x within item))
        (subst (λ pairs. AreReportsOf pairs (a.added ++ b.added)) (sym (repetitions_more [] (take i xs) x))
        (zip_then (λ pair. IsDiagnostic (ArgumentRepetitionReport pair)) (repetitions_after [] (take i xs)) (repetition_after (take i xs) x) a.added b.added a.are b.are));
  }

  none_added : (added : List DiagnosticEntry) → AreReportsOf [] added → added ≡ []
  none_added [] are = refl
  none_added (e ∷ added) are = absurd are

  pub reports_more : (mid new : List DiagnosticEntry) → Appends (AreReportsOf (repetition_after (take i xs) x)) mid new →
      Reports (argument_named x.value.value.name (take i xs) ≡ None) (IsDiagnostic (RepetitionReport xs)) mid new
  reports_more mid new a = by (argument_named x.value.value.name (take i xs)) refl a.are where
    by : (o : Option (Node Argument)) → argument_named x.value.value.name (take i xs) ≡ o →
        AreReportsOf (cons_option (option_map (λ first. (first, x)) o) []) a.added →
        Reports (o ≡ None) (IsDiagnostic (RepetitionReport xs)) mid new
    by None e are = record {
      added = [];
      appended = subst (λ added. new ≡ mid ++ added) (none_added a.added are) a.appended;
      silent = (λ none. refl, λ none. refl);
      each = All-nil (IsDiagnostic (RepetitionReport xs));
    }
    by (Some first) e are =
        in_words (λ no. absurd no, λ none. absurd (let no : ⊥ = cc in no))
        (reports_repetition xs first x (repetition_at first e) mid new (record { added = a.added; appended = a.appended; are = are }))
