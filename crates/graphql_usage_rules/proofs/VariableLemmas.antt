-- The variables in values, in selections and in the scope of an operation; and that an operation uses just these.
use Rattle.std.proofs.Common.{◌≡◌, ◌↔◌, List, [], ◌∷◌, ◌++◌, Some, refl, sym, ap, ◌∙◌, subst, Contains, Vec}
use Rattle.std.specs.Prelude.{◌⊎◌, IsSome, find}
use Rattle.std.specs.Str.{bytes_eq}
use Rattle.std.specs.declared.alloc.Global.{Global}
use Rattle.std.proofs.lemmas.List.Elements.{All-contains, Contains-append_cases, Contains-append_left, Contains-append_right}
use mathlib.Core.Logic.{inl, inr}
use Rattle.graphql_nodes.specs.Names.{NameText, SameName}
use Rattle.graphql_nodes.proofs.NameLemmas.{same_name_itself, same_text}
use Rattle.graphql_nodes.specs.declared.nodes.Node.{Node}
use Rattle.graphql_documents.proofs.ListLemmas.{none_stands, only_one, stands_behind, stands_first}
use Rattle.graphql_documents.proofs.VariableUseLemmas.{each_has_variables}
use Rattle.graphql_documents.specs.Definitions.{variable_named}
use Rattle.graphql_documents.specs.Selections.{Fragments, Reachable, arguments_of, directives_of, fragments_of}
use Rattle.graphql_documents.specs.Values.{StandsIn, VariablesIn, VariablesInEntries, VariablesInItems, in_boolean, in_enum, in_float, in_int, in_list, in_null, in_object, in_string, in_variable, next_entry, next_item, no_entries, no_items}
use Rattle.graphql_documents.specs.VariableUses.{StandsInArguments, StandsInDirectives, UsesVariable}
use Rattle.graphql_documents.specs.VariableUses as uses
use Rattle.graphql_documents.specs.declared.documents.definitions.VariableDefinition.{VariableDefinition}
use Rattle.graphql_documents.specs.declared.documents.directives.Argument.{Argument}
use Rattle.graphql_documents.specs.declared.documents.directives.Directive.{Directive}
use Rattle.graphql_documents.specs.declared.documents.executables.ExecutableDocument.{ExecutableDocument}
use Rattle.graphql_documents.specs.declared.documents.executables.Field.{Field}
use Rattle.graphql_documents.specs.declared.documents.executables.Fragment.{Fragment}
use Rattle.graphql_documents.specs.declared.documents.executables.FragmentSpread.{FragmentSpread}
use Rattle.graphql_documents.specs.declared.documents.executables.InlineFragment.{InlineFragment}
use Rattle.graphql_documents.specs.declared.documents.executables.Operation.{Operation}
use Rattle.graphql_documents.specs.declared.documents.executables.Selection.TheVariants as kind
use Rattle.graphql_documents.specs.declared.documents.values.Value.{Value}
use Rattle.graphql_documents.specs.declared.documents.values.Value.TheVariants as literal
use Rattle.graphql_variables.proofs.UseLemmas.{any_has, has_any, none_in_none}
use Rattle.graphql_reach.specs.Reached.{IsReachedFrom, IsSpreadFrom, ReachesNames}
use Rattle.graphql_reach.proofs.ReachedLemmas.{reach_spread, reach_written, split_reached, stands_for}
use Rattle.graphql_reach.proofs.SelectionLemmas.{in_field, in_inline, in_spread}
use Rattle.graphql_usage_rules.specs.Scopes.{InEntries, InFragmentNamed, InFragments, InItems, SelectionHasVariable, SetHasVariable}
use Rattle.graphql_usage_rules.specs.UndefinedVariables.{IsDefinedAmong, UsedVariablesAreDefined, VariableAtSelection, VariableIn, VariableInArguments, VariableInDirectives, VariableInScope, at_selection, in_fragment_definition, in_operation, variable_in_entry, variable_in_item, variable_itself}
use Rattle.graphql_usage_rules.proofs.ValueLemmas.{object_no_list, same_entries, same_items, variable_no_list, variable_no_object}

-- a variable is the one variable in it
in_a_variable : {variable value : Node Value} → VariableIn variable value → (name : NameText) → value.value.value ≡ literal.Variable name → variable ≡ value
in_a_variable (variable_itself found is) name e = refl
in_a_variable (variable_in_item items item is stands more) name e = absurd (variable_no_list name items (sym e ∙ is))
in_a_variable (variable_in_entry entries entry is stands more) name e = absurd (variable_no_object name entries (sym e ∙ is))

pub variable_words : (value : Node Value) (name : NameText) → value.value.value ≡ literal.Variable name → (v : Node Value) → VariableIn v value ↔ (v ≡ value)
variable_words value name is v = (
  λ inside. in_a_variable inside name is,
  λ e. subst (λ v. VariableIn v value) (sym e) (variable_itself name is),
)

-- a list value has the variables in its items
in_a_list : {variable value : Node Value} → VariableIn variable value → (items : Vec (Node Value) Global) → value.value.value ≡ literal.List items → InItems items.items variable
in_a_list (variable_itself name is) items e = absurd (variable_no_list name items (sym is ∙ e))
in_a_list {variable = v} (variable_in_item found item is stands more) items e =
    has_any (λ x. VariableIn v x) items.items item (subst (λ (l : Vec (Node Value) Global). Contains l.items item) (same_items found items (sym is ∙ e)) stands) more
in_a_list (variable_in_entry entries entry is stands more) items e = absurd (object_no_list entries items (sym is ∙ e))

pub list_words : (value : Node Value) (items : Vec (Node Value) Global) → value.value.value ≡ literal.List items → (v : Node Value) → InItems items.items v ↔ VariableIn v value
list_words value items is v = (
  λ any. let h = any_has (λ x. VariableIn v x) items.items any in variable_in_item items h.0 is h.1 h.2,
  λ inside. in_a_list inside items is,
)

-- an object value has the variables in its entries
in_an_object : {variable value : Node Value} → VariableIn variable value → (entries : Vec (NameText × Node Value) Global) → value.value.value ≡ literal.Object entries → InEntries entries.items variable
in_an_object (variable_itself name is) entries e = absurd (variable_no_object name entries (sym is ∙ e))
in_an_object (variable_in_item items item is stands more) entries e = absurd (object_no_list entries items (sym e ∙ is))
in_an_object {variable = v} (variable_in_entry found entry is stands more) entries e =
    has_any (λ (x : NameText × Node Value). VariableIn v x.1) entries.items entry
    (subst (λ (l : Vec (NameText × Node Value) Global). Contains l.items entry) (same_entries found entries (sym is ∙ e)) stands) more

pub object_words : (value : Node Value) (entries : Vec (NameText × Node Value) Global) → value.value.value ≡ literal.Object entries → (v : Node Value) → InEntries entries.items v ↔ VariableIn v value
object_words value entries is v = (
  λ any. let h = any_has (λ (x : NameText × Node Value). VariableIn v x.1) entries.items any in variable_in_entry entries h.0 is h.1 h.2,
  λ inside. in_an_object inside entries is,
)

-- no other value has a variable
pub not_in_others : {variable value : Node Value} → VariableIn variable value → ((name : NameText) → value.value.value ≡ literal.Variable name → ⊥) →
    ((items : Vec (Node Value) Global) → value.value.value ≡ literal.List items → ⊥) →
    ((entries : Vec (NameText × Node Value) Global) → value.value.value ≡ literal.Object entries → ⊥) → ⊥
not_in_others (variable_itself name is) no_variable no_list no_object = no_variable name is
not_in_others (variable_in_item items item is stands more) no_variable no_list no_object = no_list items is
not_in_others (variable_in_entry entries entry is stands more) no_variable no_list no_object = no_object entries is

-- a variable that is found in the value, with its name
abbrev Found : NameText → Node Value → Type 0
Found used value = (variable : Node Value) × VariableIn variable value × (variable.value.value ≡ literal.Variable used)

first_or_later : {X : Type 0} (x : X) (xs : List X) (y : X) → Contains (x ∷ xs) y → (y ≡ x) ⊎ Contains xs y
first_or_later x xs y there = by_place (Contains-append_cases (x ∷ []) xs y there) where
  by_place : Contains (x ∷ []) y ⊎ Contains xs y → (y ≡ x) ⊎ Contains xs y
  by_place (inl first) = inl (only_one x y first)
  by_place (inr later) = inr later

-- each name of a value's list is that of a variable in it
mutual
  found_in : {v : Value} {names : List NameText} → VariablesIn v names → (used : NameText) → Contains names used → (value : Node Value) → value.value.value ≡ v → Found used value
  found_in (in_variable {name = name}) used there value is =
      (value, variable_itself name is, is ∙ ap literal.Variable (sym (only_one name used there)))
  found_in (in_list items listed) used there value is =
      let (item, stands, (variable, inside, is_it)) = found_in_items listed used there in (variable, variable_in_item items item is stands inside, is_it)
  found_in (in_object entries listed) used there value is =
      let (entry, stands, (variable, inside, is_it)) = found_in_entries listed used there in (variable, variable_in_entry entries entry is stands inside, is_it)
  found_in in_null used there value is = absurd (none_stands used there)
  found_in in_enum used there value is = absurd (none_stands used there)
  found_in (in_string text) used there value is = absurd (none_stands used there)
  found_in in_float used there value is = absurd (none_stands used there)
  found_in in_int used there value is = absurd (none_stands used there)
  found_in in_boolean used there value is = absurd (none_stands used there)

  found_in_items : {items : List (Node Value)} {names : List NameText} → VariablesInItems items names → (used : NameText) → Contains names used →
      (item : Node Value) × Contains items item × Found used item
  found_in_items no_items used there = absurd (none_stands used there)
  found_in_items (next_item {item = x} {items = xs} {names = names} {more = more} here rest) used there = elim (Contains-append_cases names more used there) [
    | inl first ↦ (x, stands_first x xs, found_in here used first x refl)
    | inr further ↦ let (item, stands, found) = found_in_items rest used further in (item, stands_behind x xs item stands, found)
  ]

  found_in_entries : {entries : List (NameText × Node Value)} {names : List NameText} → VariablesInEntries entries names → (used : NameText) → Contains names used →
      (entry : NameText × Node Value) × Contains entries entry × Found used entry.1
  found_in_entries no_entries used there = absurd (none_stands used there)
  found_in_entries (next_entry {entry = x} {entries = xs} {names = names} {more = more} here rest) used there = elim (Contains-append_cases names more used there) [
    | inl first ↦ (x, stands_first x xs, found_in here used first x.1 refl)
    | inr further ↦ let (entry, stands, found) = found_in_entries rest used further in (entry, stands_behind x xs entry stands, found)
  ]

items_have : (items : List (Node Value)) → (names : List NameText) × VariablesInItems items names
items_have [] = ([], no_items)
items_have (x ∷ xs) =
    let here = each_has_variables x.value.value in
    let rest = items_have xs in
    (here.0 ++ rest.0, next_item here.1 rest.1)

entries_have : (entries : List (NameText × Node Value)) → (names : List NameText) × VariablesInEntries entries names
entries_have [] = ([], no_entries)
entries_have (x ∷ xs) =
    let here = each_has_variables x.1.value.value in
    let rest = entries_have xs in
    (here.0 ++ rest.0, next_entry here.1 rest.1)

-- a list of the variables of a value that has this one
abbrev Listed : Value → NameText → Type 0
Listed v used = (names : List NameText) × VariablesIn v names × Contains names used

items_listed : (items : List (Node Value)) (item : Node Value) (used : NameText) → Contains items item → Listed item.value.value used →
    (names : List NameText) × VariablesInItems items names × Contains names used
items_listed [] item used stands listed = absurd (none_stands item stands)
items_listed (x ∷ xs) item used stands listed = elim (first_or_later x xs item stands) [
  | inl first ↦
      let (names, are, there) = listed in
      let rest = items_have xs in
      (names ++ rest.0, next_item (subst (λ (y : Node Value). VariablesIn y.value.value names) first are) rest.1, Contains-append_left names rest.0 used there)
  | inr further ↦
      let here = each_has_variables x.value.value in
      let rest = items_listed xs item used further listed in
      (here.0 ++ rest.0, next_item here.1 rest.1, Contains-append_right here.0 rest.0 used rest.2)
]

entries_listed : (entries : List (NameText × Node Value)) (entry : NameText × Node Value) (used : NameText) → Contains entries entry → Listed entry.1.value.value used →
    (names : List NameText) × VariablesInEntries entries names × Contains names used
entries_listed [] entry used stands listed = absurd (none_stands entry stands)
entries_listed (x ∷ xs) entry used stands listed = elim (first_or_later x xs entry stands) [
  | inl first ↦
      let (names, are, there) = listed in
      let rest = entries_have xs in
      (names ++ rest.0, next_entry (subst (λ (y : NameText × Node Value). VariablesIn y.1.value.value names) first are) rest.1, Contains-append_left names rest.0 used there)
  | inr further ↦
      let here = each_has_variables x.1.value.value in
      let rest = entries_listed xs entry used further listed in
      (here.0 ++ rest.0, next_entry here.1 rest.1, Contains-append_right here.0 rest.0 used rest.2)
]

listed_in : {variable value : Node Value} → VariableIn variable value → (used : NameText) → variable.value.value ≡ literal.Variable used → Listed value.value.value used
listed_in (variable_itself name is) used e = (used ∷ [], subst (λ v. VariablesIn v (used ∷ [])) (sym e) in_variable, stands_first used [])
listed_in (variable_in_item items item is stands more) used e =
    let (names, are, there) = items_listed items.items item used stands (listed_in more used e) in
    (names, subst (λ v. VariablesIn v names) (sym is) (in_list items are), there)
listed_in (variable_in_entry entries entry is stands more) used e =
    let (names, are, there) = entries_listed entries.items entry used stands (listed_in more used e) in
    (names, subst (λ v. VariablesIn v names) (sym is) (in_object entries are), there)

-- a variable of some name, by its place
abbrev HasPlace : (Node Value → Type 0) → NameText → Type 0
HasPlace In name = (variable : Node Value) × (used : NameText) × In variable × (variable.value.value ≡ literal.Variable used) × SameName used name

value_has : (name : NameText) (value : Node Value) → StandsIn name value.value.value → HasPlace (λ v. VariableIn v value) name
value_has name value (names, used, listed, there, same) =
    let (variable, inside, is) = found_in listed used there value refl in (variable, used, inside, is, same)

has_value : (used : NameText) (value variable : Node Value) → VariableIn variable value → variable.value.value ≡ literal.Variable used → StandsIn used value.value.value
has_value used value variable inside is =
    let (names, listed, there) = listed_in inside used is in (names, used, listed, there, same_name_itself used)

arguments_have : (name : NameText) (arguments : List (Node Argument)) → StandsInArguments name arguments → HasPlace (VariableInArguments arguments) name
arguments_have name arguments any =
    let (a, stands, inside) = any_has (λ (a : Node Argument). StandsIn name a.value.value.value.value.value) arguments any in
    let (variable, used, within, is, same) = value_has name a.value.value.value inside in
    (variable, used, has_any (λ (a : Node Argument). VariableIn variable a.value.value.value) arguments a stands within, is, same)

have_arguments : (used : NameText) (arguments : List (Node Argument)) (variable : Node Value) → VariableInArguments arguments variable → variable.value.value ≡ literal.Variable used → StandsInArguments used arguments
have_arguments used arguments variable any is =
    let (a, stands, inside) = any_has (λ (a : Node Argument). VariableIn variable a.value.value.value) arguments any in
    has_any (λ (a : Node Argument). StandsIn used a.value.value.value.value.value) arguments a stands (has_value used a.value.value.value variable inside is)

directives_have : (name : NameText) (directives : List (Node Directive)) → StandsInDirectives name directives → HasPlace (VariableInDirectives directives) name
directives_have name directives any =
    let (d, stands, inside) = any_has (λ (d : Node Directive). StandsInArguments name d.value.value.arguments.items) directives any in
    let (variable, used, within, is, same) = arguments_have name d.value.value.arguments.items inside in
    (variable, used, has_any (λ (d : Node Directive). VariableInArguments d.value.value.arguments.items variable) directives d stands within, is, same)

have_directives : (used : NameText) (directives : List (Node Directive)) (variable : Node Value) → VariableInDirectives directives variable → variable.value.value ≡ literal.Variable used → StandsInDirectives used directives
have_directives used directives variable any is =
    let (d, stands, inside) = any_has (λ (d : Node Directive). VariableInArguments d.value.value.arguments.items variable) directives any in
    has_any (λ (d : Node Directive). StandsInArguments used d.value.value.arguments.items) directives d stands (have_arguments used d.value.value.arguments.items variable inside is)

module _ (fragments : Fragments) (o : Operation) where
  -- each variable that the operation uses has a place in its scope, and each in its scope is used
  used_has_place : (name : NameText) → UsesVariable fragments o name → HasPlace (VariableInScope fragments o) name
  used_has_place name (uses.in_operation there) =
      let (variable, used, inside, is, same) = directives_have name o.directives.items there in (variable, used, in_operation inside, is, same)
  used_has_place name (uses.in_directives {s = s} reached there) =
      let (variable, used, inside, is, same) = directives_have name (directives_of s) there in (variable, used, at_selection s reached (inr inside), is, same)
  used_has_place name (uses.in_arguments {s = s} reached there) =
      let (variable, used, inside, is, same) = arguments_have name (arguments_of s) there in (variable, used, at_selection s reached (inl inside), is, same)
  used_has_place name (uses.in_fragment_definition {p = p} {d = d} reached found there) =
      let (variable, used, inside, is, same) = directives_have name d.value.value.directives.items there in
      (variable, used, in_fragment_definition p d reached found inside, is, same)

  place_is_used : (used : NameText) (variable : Node Value) → VariableInScope fragments o variable → variable.value.value ≡ literal.Variable used → UsesVariable fragments o used
  place_is_used used variable (in_operation inside) is = uses.in_operation (have_directives used o.directives.items variable inside is)
  place_is_used used variable (at_selection s reached (inl inside)) is = uses.in_arguments reached (have_arguments used (arguments_of s) variable inside is)
  place_is_used used variable (at_selection s reached (inr inside)) is = uses.in_directives reached (have_directives used (directives_of s) variable inside is)
  place_is_used used variable (in_fragment_definition p d reached found inside) is =
      uses.in_fragment_definition {p = p} {d = d} reached found (have_directives used d.value.value.directives.items variable inside is)

  -- a definition is found by the text of its name
  defined_same : (variables : List (Node VariableDefinition)) (a b : NameText) → SameName a b → IsSome (variable_named a variables) → IsSome (variable_named b variables)
  defined_same variables a b same there =
      subst (λ t. IsSome (find (λ (v : Node VariableDefinition). bytes_eq v.value.value.name.text t) variables)) (same_text a b same) there

  -- so the used variables are defined exactly if all in scope are
  pub all_defined : ((v : Node Value) → VariableInScope fragments o v → IsDefinedAmong o.variables.items v) ↔ UsedVariablesAreDefined fragments o
  all_defined = (
    λ all name uses.
        let (variable, used, inside, is, same) = used_has_place name uses in
        defined_same o.variables.items used name same (all variable inside used is),
    λ all v inside name is. all name (place_is_used name v inside is),
  )

-- the variables of selections of each kind
pub field_words : (f : Node Field) (v : Node Value) →
    (VariableInArguments f.value.value.arguments.items v ⊎ (VariableInDirectives f.value.value.directives.items v ⊎ SetHasVariable f.value.value.selection_set v)) ↔ SelectionHasVariable (kind.Field f) v
field_words f v = (λ w. (in_field VariableAtSelection f v).0 (forth w), λ w. back ((in_field VariableAtSelection f v).1 w)) where
  own : VariableAtSelection (kind.Field f) v ≡ (VariableInArguments f.value.value.arguments.items v ⊎ VariableInDirectives f.value.value.directives.items v)
  own = rw (kind.outs-Field f, arguments_of, directives_of) refl

  forth : VariableInArguments f.value.value.arguments.items v ⊎ (VariableInDirectives f.value.value.directives.items v ⊎ SetHasVariable f.value.value.selection_set v) →
      VariableAtSelection (kind.Field f) v ⊎ SetHasVariable f.value.value.selection_set v
  forth (inl w) = inl (subst (λ T. T) (sym own) (inl w))
  forth (inr (inl w)) = inl (subst (λ T. T) (sym own) (inr w))
  forth (inr (inr w)) = inr w

  apart : VariableInArguments f.value.value.arguments.items v ⊎ VariableInDirectives f.value.value.directives.items v →
      VariableInArguments f.value.value.arguments.items v ⊎ (VariableInDirectives f.value.value.directives.items v ⊎ SetHasVariable f.value.value.selection_set v)
  apart (inl w) = inl w
  apart (inr w) = inr (inl w)

  back : VariableAtSelection (kind.Field f) v ⊎ SetHasVariable f.value.value.selection_set v →
      VariableInArguments f.value.value.arguments.items v ⊎ (VariableInDirectives f.value.value.directives.items v ⊎ SetHasVariable f.value.value.selection_set v)
  back (inl w) = apart (subst (λ T. T) own w)
  back (inr w) = inr (inr w)

pub spread_words : (p : Node FragmentSpread) (v : Node Value) → VariableInDirectives p.value.value.directives.items v ↔ SelectionHasVariable (kind.FragmentSpread p) v
spread_words p v = (λ w. (in_spread VariableAtSelection p v).0 (subst (λ T. T) (sym own) (inr w)), λ w. back (subst (λ T. T) own ((in_spread VariableAtSelection p v).1 w))) where
  own : VariableAtSelection (kind.FragmentSpread p) v ≡ (VariableInArguments [] v ⊎ VariableInDirectives p.value.value.directives.items v)
  own = rw (kind.outs-FragmentSpread p, arguments_of, directives_of) refl

  back : VariableInArguments [] v ⊎ VariableInDirectives p.value.value.directives.items v → VariableInDirectives p.value.value.directives.items v
  back (inl w) = absurd (none_in_none _ w)
  back (inr w) = w

pub inline_words : (i : Node InlineFragment) (v : Node Value) →
    (VariableInDirectives i.value.value.directives.items v ⊎ SetHasVariable i.value.value.selection_set v) ↔ SelectionHasVariable (kind.InlineFragment i) v
inline_words i v = (λ w. (in_inline VariableAtSelection i v).0 (forth w), λ w. back ((in_inline VariableAtSelection i v).1 w)) where
  own : VariableAtSelection (kind.InlineFragment i) v ≡ (VariableInArguments [] v ⊎ VariableInDirectives i.value.value.directives.items v)
  own = rw (kind.outs-InlineFragment i, arguments_of, directives_of) refl

  forth : VariableInDirectives i.value.value.directives.items v ⊎ SetHasVariable i.value.value.selection_set v → VariableAtSelection (kind.InlineFragment i) v ⊎ SetHasVariable i.value.value.selection_set v
  forth (inl w) = inl (subst (λ T. T) (sym own) (inr w))
  forth (inr w) = inr w

  apart : VariableInArguments [] v ⊎ VariableInDirectives i.value.value.directives.items v → VariableInDirectives i.value.value.directives.items v ⊎ SetHasVariable i.value.value.selection_set v
  apart (inl w) = absurd (none_in_none _ w)
  apart (inr w) = inl w

  back : VariableAtSelection (kind.InlineFragment i) v ⊎ SetHasVariable i.value.value.selection_set v → VariableInDirectives i.value.value.directives.items v ⊎ SetHasVariable i.value.value.selection_set v
  back (inl w) = apart (subst (λ T. T) own w)
  back (inr w) = inr w

-- the parts that the walk goes over are the scope of the operation
module _ (document : ExecutableDocument) (o : Operation) (names : List NameText) (reaches : ReachesNames (fragments_of document) o.selection_set names) where
  abbrev pub Parts : Node Value → Type 0
  Parts v = VariableInDirectives o.directives.items v ⊎ (SetHasVariable o.selection_set v ⊎ InFragments (fragments_of document) names v)

  in_fragment : (p : Node FragmentSpread) (d : Node Fragment) (v : Node Value) → Reachable (fragments_of document) o.selection_set (kind.FragmentSpread p) →
      fragments_of document p.value.value.fragment_name ≡ Some d →
      VariableInDirectives d.value.value.directives.items v ⊎ SetHasVariable d.value.value.selection_set v → InFragments (fragments_of document) names v
  in_fragment p d v reached is has =
      let defined : IsSome (fragments_of document p.value.value.fragment_name) = rw is refl in
      let there = reaches.all p.value.value.fragment_name (p, reached, refl) defined in
      let known = stands_for document names p.value.value.fragment_name d there is in
      has_any (λ name. InFragmentNamed (fragments_of document) name v) names known.0 known.1 (d, known.2, has)

  to_parts : (v : Node Value) → VariableInScope (fragments_of document) o v → Parts v
  to_parts v (in_operation has) = inl has
  to_parts v (at_selection s reached has) = elim (split_reached (fragments_of document) reached) [
    | inl written ↦ inr (inl (s, written, has))
    | inr far ↦ inr (inr (in_fragment far.p far.d v far.reached far.is (inr (s, far.written, has))))
  ]
  to_parts v (in_fragment_definition p d reached is has) = inr (inr (in_fragment p d v reached is (inl has)))

  from_fragment : (name : NameText) (d : Node Fragment) (v : Node Value) → IsSpreadFrom (fragments_of document) o.selection_set name →
      fragments_of document name ≡ Some d → VariableInDirectives d.value.value.directives.items v ⊎ SetHasVariable d.value.value.selection_set v → VariableInScope (fragments_of document) o v
  from_fragment name d v (p, reached, names_it) is (inl has) =
      in_fragment_definition p d reached (subst (λ n. fragments_of document n ≡ Some d) names_it is) has
  from_fragment name d v (p, reached, names_it) is (inr (s, (inner, written, stands), has)) =
      at_selection s (reach_spread (fragments_of document) p d s reached (subst (λ n. fragments_of document n ≡ Some d) names_it is)
      (reach_written (fragments_of document) s written stands)) has

  from_parts : (v : Node Value) → Parts v → VariableInScope (fragments_of document) o v
  from_parts v (inl has) = in_operation has
  from_parts v (inr (inl (s, (inner, written, stands), has))) = at_selection s (reach_written (fragments_of document) s written stands) has
  from_parts v (inr (inr any)) =
      let h = any_has (λ name. InFragmentNamed (fragments_of document) name v) names any in
      from_fragment h.0 h.2.0 v (All-contains (IsReachedFrom (fragments_of document) o.selection_set) names h.0 reaches.each h.1).0 h.2.1 h.2.2

  pub scope_words : (v : Node Value) → Parts v ↔ VariableInScope (fragments_of document) o v
  scope_words v = (from_parts v, to_parts v)
