-- Help in words. Specification: 5 Validation.
use Rattle.std.specs.Prelude.{ℕ, List, [], ◌∷◌, ◌++◌, codes, flat_map}
use Rattle.graphql_nodes.specs.DirectiveLocations.{location_text}
use Rattle.graphql_nodes.specs.Names.{NameText}
use Rattle.graphql_helps.specs.declared.helps.Help.{Help}
use Rattle.graphql_helps.specs.declared.helps.Help.TheVariants as help
use Rattle.graphql_suggestions.specs.declared.alike.Suggestion.{Suggestion}

-- the words of each of these, with others between each two
abbrev pub separated : {X : Type 0} → List ℕ → (X → List ℕ) → List X → List ℕ
separated between words [] = []
separated between words (first ∷ others) = words first ++ flat_map (λ other. between ++ words other) others

-- a name that may have been meant
abbrev pub quoted : Suggestion → List ℕ
quoted suggestion = codes "`" ++ (suggestion.name.text ++ codes "`")

-- a field of a type
abbrev pub on_type : NameText → NameText → List ℕ
on_type field ty = codes "`... on " ++ (ty.text ++ (codes " { " ++ (field.text ++ codes " }`")))

abbrev pub help_words : Help → List ℕ
help_words (help.DidYouMean found) = codes "did you mean " ++ (separated (codes " or ") quoted found.items ++ codes "?")
help_words (help.OnTypes field types) = codes "did you mean " ++ (separated (codes " or ") (on_type field.now) types.items ++ codes "?")
help_words (help.Select field ty) =
    codes "`" ++ (field.now.text ++ (codes "` is of type `" ++ (ty.now.text ++ (codes "`: select fields of it, `" ++ (field.now.text ++ codes " { .. }`")))))
help_words (help.Locations locations) = codes "it may be applied at " ++ separated (codes ", ") location_text locations.now
help_words help.LeaveOut = codes "leave it out: every schema has it"
