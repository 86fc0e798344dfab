-- Answers in numbers.
use Rattle.std.specs.Prelude.{◌≡◌, ℕ, List, None, Option, length}
use Rattle.graphql_schema_handles.specs.declared.sessions.Session.{Session}
use Rattle.graphql_answers.specs.Sessions.{IsSharedWith, refusal_of_sharing, schema_in}
use Rattle.graphql_answers.specs.Written.{written}
use Rattle.graphql_answers.specs.declared.answers.Found.{Found}
use Rattle.graphql_answers.specs.declared.answers.Found.TheVariants.{Nothing, InSchema, InDocuments}
use Rattle.graphql_answers.specs.declared.answers.Refusal.{Refusal}
use Rattle.graphql_answers.specs.declared.answers.Refusal.TheVariants.{OutOfMemory, NotUtf8, BadEnds, ShortOptions, NoSchema}
use Rattle.graphql_embed.specs.declared.outcomes.Outcome.{Outcome}

abbrev pub status_of_found : Found → ℕ
status_of_found Nothing = 0
status_of_found InSchema = 1
status_of_found InDocuments = 1

abbrev pub number_of_found : Found → ℕ
number_of_found Nothing = 0
number_of_found InSchema = 1
number_of_found InDocuments = 2

abbrev pub status_of_refusal : Refusal → ℕ
status_of_refusal BadEnds = 2
status_of_refusal ShortOptions = 2
status_of_refusal OutOfMemory = 3
status_of_refusal NoSchema = 4
status_of_refusal NotUtf8 = 5

-- the outcome tells what was found and how long its JSON is, of which the beginning was written; or why there is no answer, and nothing was written
pub data Tells (finds : Found → List ℕ → Type 0) (refuses : Refusal → Type 0) (outcome : Outcome) (old new : List ℕ) : Type 0 where
  has_answer : (found : Found) (json : List ℕ) → finds found json → outcome.status ≡ status_of_found found → outcome.reported ≡ number_of_found found →
      outcome.length ≡ length json → new ≡ written json old → Tells finds refuses outcome old new
  has_no_answer : (refusal : Refusal) → refuses refusal → outcome.status ≡ status_of_refusal refusal → outcome.length ≡ 0 → new ≡ old →
      Tells finds refuses outcome old new

-- the status tells whether another handle keeps the schema that is kept, or why not: it then keeps nothing
pub data TellsSharing (kept other : Option Session) : ℕ → Type 0 where
  is_shared : IsSharedWith (schema_in kept) other → TellsSharing kept other 0
  is_not_shared : other ≡ None → TellsSharing kept other (status_of_refusal (refusal_of_sharing (schema_in kept)))
