-- The variables in a value, and those that an operation uses.
use Rattle.std.proofs.Common.{◌≡◌, List, [], ◌∷◌, ◌++◌, Vec, map, refl, sym, subst}
use Rattle.std.specs.declared.alloc.Global.{Global}
use Rattle.graphql_nodes.specs.Names.{NameText, SameName}
use Rattle.graphql_documents.specs.Values.{VariablesIn, in_null, in_enum, in_variable, in_string, in_float, in_int, in_boolean, in_list, in_object, VariablesInItems, no_items, next_item, VariablesInEntries, no_entries, next_entry, StandsIn}
use Rattle.graphql_nodes.specs.declared.nodes.Node.{Node}
use Rattle.graphql_documents.specs.declared.documents.values.Value.{Value, out-Value, roll-Value}
use Rattle.graphql_documents.specs.declared.documents.values.Value.TheFolds.{ind-Value, map-Value, claims}
use Rattle.graphql_documents.specs.declared.documents.values.Value.TheBlock.{the_family, member-Value}
use Rattle.graphql_documents.specs.declared.documents.values.Value.TheOpen as Open
use Rattle.graphql_documents.specs.declared.documents.values.Value.TheVariants as literal
use denote.Hole.Holds
use Rattle.graphql_documents.specs.Selections.{Fragments, arguments_of, directives_of}
use Rattle.graphql_documents.specs.VariableUses.{StandsInArguments, StandsInDirectives, UsesVariable, in_arguments, in_directives, in_fragment_definition, in_operation}
use Rattle.graphql_documents.specs.declared.documents.directives.Argument.{Argument}
use Rattle.graphql_documents.specs.declared.documents.directives.Directive.{Directive}
use Rattle.graphql_documents.specs.declared.documents.executables.Operation.{Operation}
use Rattle.graphql_nodes.proofs.NameLemmas.{same_name_then}

-- the value has a list of variables
abbrev HasVariables : Value → Type 0
HasVariables v = (names : List NameText) × VariablesIn v names

abbrev Kept : Type 0
Kept = denote.Hole.Holds.Such the_family (claims HasVariables) member-Value

abbrev item : Node Kept → Node Value
item n = record { value = record { ptr = n.value.ptr; value = n.value.value.0 }; location = n.location }

abbrev named_item : NameText × Node Kept → NameText × Node Value
named_item e = (e.0, item e.1)

items_have : (nodes : List (Node Kept)) → (names : List NameText) × VariablesInItems (map item nodes) names
items_have [] = ([], no_items)
items_have (n ∷ nodes) =
    let here : HasVariables n.value.value.0 = n.value.value.1 in
    let rest = items_have nodes in
    (here.0 ++ rest.0, next_item here.1 rest.1)

entries_have : (entries : List (NameText × Node Kept)) → (names : List NameText) × VariablesInEntries (map named_item entries) names
entries_have [] = ([], no_entries)
entries_have (e ∷ entries) =
    let here : HasVariables e.1.value.value.0 = e.1.value.value.1 in
    let rest = entries_have entries in
    (here.0 ++ rest.0, next_entry here.1 rest.1)

list_has : (items : Vec (Node Value) Global) → (names : List NameText) × VariablesInItems items.items names → HasVariables (roll-Value (Open.List items))
list_has items h = (h.0, rw (literal.rolls-List items) (in_list items h.1))

object_has : (entries : Vec (NameText × Node Value) Global) → (names : List NameText) × VariablesInEntries entries.items names → HasVariables (roll-Value (Open.Object entries))
object_has entries h = (h.0, rw (literal.rolls-Object entries) (in_object entries h.1))

layer_has : (y : Open.Value-F Kept) → HasVariables (roll-Value (map-Value Kept Value (λ e. e.0) y))
layer_has Open.Null = ([], rw literal.rolls-Null in_null)
layer_has (Open.Enum a) = ([], rw (literal.rolls-Enum a) in_enum)
layer_has (Open.Variable a) = (a ∷ [], rw (literal.rolls-Variable a) in_variable)
layer_has (Open.String a) = ([], rw (literal.rolls-String a) (in_string a))
layer_has (Open.Float a) = ([], rw (literal.rolls-Float a) in_float)
layer_has (Open.Int a) = ([], rw (literal.rolls-Int a) in_int)
layer_has (Open.Boolean a) = ([], rw (literal.rolls-Boolean a) in_boolean)
layer_has (Open.List ys) = list_has _ (items_have ys.items)
layer_has (Open.Object ys) = object_has _ (entries_have ys.items)

pub each_has_variables : (v : Value) → (names : List NameText) × VariablesIn v names
each_has_variables = ind-Value HasVariables (λ x y e. subst (λ x. HasVariables (roll-Value x)) e (layer_has y))

-- these variables are in a value that opens so
abbrev VariablesOpen : Open.Value-F Value → List NameText → Type 0
VariablesOpen (Open.Variable a) names = names ≡ a ∷ []
VariablesOpen (Open.List items) names = VariablesInItems items.items names
VariablesOpen (Open.Object entries) names = VariablesInEntries entries.items names
VariablesOpen _ names = names ≡ []

shown : (v : Value) (x : Open.Value-F Value) (names : List NameText) → out-Value v ≡ x → VariablesOpen x names → VariablesOpen (out-Value v) names
shown v x names e h = rw e h

opened : {v : Value} {names : List NameText} → VariablesIn v names → VariablesOpen (out-Value v) names
opened in_null = shown _ _ _ literal.outs-Null refl
opened (in_enum {name = a}) = shown _ _ _ (literal.outs-Enum a) refl
opened (in_variable {name = a}) = shown _ _ _ (literal.outs-Variable a) refl
opened (in_string a) = shown _ _ _ (literal.outs-String a) refl
opened (in_float {text = a}) = shown _ _ _ (literal.outs-Float a) refl
opened (in_int {text = a}) = shown _ _ _ (literal.outs-Int a) refl
opened (in_boolean {b = a}) = shown _ _ _ (literal.outs-Boolean a) refl
opened (in_list items h) = shown _ _ _ (literal.outs-List items) h
opened (in_object entries h) = shown _ _ _ (literal.outs-Object entries) h

mutual
  one_list : {v : Value} {a : List NameText} → VariablesIn v a → (b : List NameText) → VariablesOpen (out-Value v) b → a ≡ b
  one_list in_null b q = sym (rw literal.outs-Null at q)
  one_list (in_enum {name = n}) b q = sym (rw (literal.outs-Enum n) at q)
  one_list (in_variable {name = n}) b q = sym (rw (literal.outs-Variable n) at q)
  one_list (in_string t) b q = sym (rw (literal.outs-String t) at q)
  one_list (in_float {text = t}) b q = sym (rw (literal.outs-Float t) at q)
  one_list (in_int {text = t}) b q = sym (rw (literal.outs-Int t) at q)
  one_list (in_boolean {b = t}) b q = sym (rw (literal.outs-Boolean t) at q)
  one_list (in_list items h) b q = one_list_of_items h b (rw (literal.outs-List items) at q)
  one_list (in_object entries h) b q = one_list_of_entries h b (rw (literal.outs-Object entries) at q)

  one_list_of_items : {items : List (Node Value)} {a : List NameText} → VariablesInItems items a → (b : List NameText) → VariablesInItems items b → a ≡ b
  one_list_of_items no_items _ no_items = refl
  one_list_of_items (next_item h more) _ (next_item {names = names} {more = others} k rest) =
      let first = one_list h names (opened k) in
      let second = one_list_of_items more others rest in
      cc

  one_list_of_entries : {entries : List (NameText × Node Value)} {a : List NameText} → VariablesInEntries entries a → (b : List NameText) → VariablesInEntries entries b → a ≡ b
  one_list_of_entries no_entries _ no_entries = refl
  one_list_of_entries (next_entry h more) _ (next_entry {names = names} {more = others} k rest) =
      let first = one_list h names (opened k) in
      let second = one_list_of_entries more others rest in
      cc

pub one_list_only : (v : Value) (a b : List NameText) → VariablesIn v a → VariablesIn v b → a ≡ b
one_list_only v a b p q = one_list p b (opened q)

-- an operation uses a variable by the text of its name
in_value_same : (n m : NameText) → SameName n m → (v : Value) → StandsIn n v → StandsIn m v
in_value_same n m same v (names, used, stand, there, known) = (names, used, stand, there, same_name_then used n m known same)

in_arguments_same : (n m : NameText) → SameName n m → (given : List (Node Argument)) → StandsInArguments n given → StandsInArguments m given
in_arguments_same n m same given (k, x, within, is, p) = (k, x, within, is, in_value_same n m same x.value.value.value.value.value p)

in_directives_same : (n m : NameText) → SameName n m → (ds : List (Node Directive)) → StandsInDirectives n ds → StandsInDirectives m ds
in_directives_same n m same ds (k, x, within, is, p) = (k, x, within, is, in_arguments_same n m same x.value.value.arguments.items p)

pub uses_same : (fragments : Fragments) (o : Operation) (n m : NameText) → SameName n m → UsesVariable fragments o n → UsesVariable fragments o m
uses_same fragments o n m same (in_operation d) = in_operation (in_directives_same n m same o.directives.items d)
uses_same fragments o n m same (in_directives {s = s} r d) = in_directives r (in_directives_same n m same (directives_of s) d)
uses_same fragments o n m same (in_arguments {s = s} r a) = in_arguments r (in_arguments_same n m same (arguments_of s) a)
uses_same fragments o n m same (in_fragment_definition {d = d} r found there) =
    in_fragment_definition r found (in_directives_same n m same d.value.value.directives.items there)
