-- What an outcome tells of an answer.
use Rattle.std.proofs.Common.{◌≡◌, ℕ, List, length, Result, Ok, Err, IfOk, IfErr, refl, subst, sym}
use Rattle.graphql_answers.specs.declared.answers.Answer.{Answer}
use Rattle.graphql_answers.specs.declared.answers.Found.{Found}
use Rattle.graphql_answers.specs.declared.answers.Refusal.{Refusal}
use Rattle.graphql_answers.specs.declared.answers.Refusal.TheVariants.{ShortOptions}
use Rattle.graphql_embed.specs.declared.outcomes.Outcome.{Outcome}
use Rattle.graphql_answers.specs.Written.{written}
use Rattle.graphql_embed.specs.Options.{AreWhole, IsRefusalWith, is_refused, options_are_short}
use Rattle.graphql_embed.specs.Outcomes.{Tells, has_answer, has_no_answer, number_of_found, status_of_found, status_of_refusal}
use Rattle.graphql_embed.specs.declared.options.Options.{Options}

pub tells_of : (r : Result Answer Refusal) (outcome : Outcome) (old new : List ℕ) (finds : Found → List ℕ → Type 0) (refuses : Refusal → Type 0) →
    IfOk r (λ a. finds a.found a.json.items) → IfErr r refuses →
    IfOk r (λ a. (outcome.status ≡ status_of_found a.found) × (outcome.reported ≡ number_of_found a.found) × (outcome.length ≡ length a.json.items)) →
    IfOk r (λ a. new ≡ written a.json.items old) →
    IfErr r (λ e. (outcome.status ≡ status_of_refusal e) × (outcome.reported ≡ 0) × (outcome.length ≡ 0)) →
    IfErr r (λ e. new ≡ old) → Tells finds refuses outcome old new
tells_of (Ok a) outcome old new finds refuses f r told is_written none kept = has_answer a.found a.json.items f told.0 told.1 told.2 is_written
tells_of (Err e) outcome old new finds refuses f r told is_written none kept = has_no_answer e r none.0 none.2 kept

-- the same of an answer that is kept
pub tells_of_kept : (r : Result Found Refusal) (outcome : Outcome) (old new kept after : List ℕ) (finds : Found → List ℕ → Type 0) (refuses : Refusal → Type 0) →
    IfOk r (λ f. finds f kept) → IfErr r refuses → after ≡ kept →
    IfOk r (λ f. (outcome.status ≡ status_of_found f) × (outcome.reported ≡ number_of_found f) × (outcome.length ≡ length kept)) →
    IfOk r (λ _. new ≡ written kept old) →
    IfErr r (λ e. (outcome.status ≡ status_of_refusal e) × (outcome.reported ≡ 0) × (outcome.length ≡ 0)) →
    IfErr r (λ _. new ≡ old) → Tells (λ f json. finds f json × (after ≡ json)) refuses outcome old new
tells_of_kept (Ok f) outcome old new kept after finds refuses found r same told is_written none stays = has_answer f kept (found, same) told.0 told.1 told.2 is_written
tells_of_kept (Err e) outcome old new kept after finds refuses found r same told is_written none stays = has_no_answer e r none.0 none.2 stays

-- options that are whole change nothing
pub tells_whole : (options : Options) (outcome : Outcome) (old new : List ℕ) (finds : Found → List ℕ → Type 0) (refuses : Refusal → Type 0) →
    Tells finds refuses outcome old new → Tells finds (IsRefusalWith options refuses) outcome old new
tells_whole options outcome old new finds refuses (has_answer found json finds_it a b c d) = has_answer found json finds_it a b c d
tells_whole options outcome old new finds refuses (has_no_answer refusal refuses_it a b c) = has_no_answer refusal (is_refused refuses_it) a b c

-- options that are too short have no answer
pub tells_short : (options : Options) (refusal : Refusal) (outcome : Outcome) (old : List ℕ) (finds : Found → List ℕ → Type 0) (refuses : Refusal → Type 0) →
    refusal ≡ ShortOptions → ¬ AreWhole options → outcome.status ≡ status_of_refusal refusal → outcome.length ≡ 0 →
    Tells finds (IsRefusalWith options refuses) outcome old old
tells_short options refusal outcome old finds refuses is short status none =
    has_no_answer refusal (subst (IsRefusalWith options refuses) (sym is) (options_are_short short)) status none refl
