-- Suggestions, added one by one.
use Rattle.std.proofs.Common.{◌≡◌, ◌++◌, ◌∷◌, List, [], All, subst, sym}
use Rattle.std.proofs.lemmas.List.Elements.{All-append, All-cons, All-nil}
use Rattle.graphql_nodes.specs.Names.{NameText}
use Rattle.graphql_suggestions.specs.Suggestions.{IsSuggested}
use Rattle.graphql_suggestions.specs.declared.alike.Suggestion.{Suggestion}

pub one_more : (names : List NameText) (wanted : NameText) (old new : List Suggestion) (s : Suggestion) → new ≡ old ++ s ∷ [] →
    All (IsSuggested names wanted) old → IsSuggested names wanted s → All (IsSuggested names wanted) new
one_more names wanted old new s is all one =
    let P : Suggestion → Type 0 = IsSuggested names wanted in
    subst (All P) (sym is) (All-append P old (s ∷ []) all (All-cons P s [] one (All-nil P)))
