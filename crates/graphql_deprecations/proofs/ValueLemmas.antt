-- The usages in values, arguments, directives and variables: those in order are exactly those that there are.
use Rattle.std.proofs.Common.{◌≡◌, ℕ, ◌+◌, ◌<◌, ◌≤◌, List, [], ◌∷◌, ◌++◌, length, get_or, take, refl, sym, ap, ◌∙◌, subst, Contains, Vec, Some}
use Rattle.std.specs.Prelude.{Any, ◌⊎◌}
use Rattle.std.specs.declared.alloc.Global.{Global}
use Rattle.std.proofs.lemmas.List.{append-nil, append_assoc, take_all}
use mathlib.Core.Logic.{inl, inr}
use Rattle.graphql_nodes.specs.Names.{NameText}
use Rattle.graphql_nodes.specs.declared.nodes.Node.{Node}
use Rattle.graphql_documents.proofs.ListLemmas.{more_is}
use Rattle.graphql_documents.specs.Definitions.{definition_named}
use Rattle.graphql_documents.specs.Directives.{directive_definition}
use Rattle.graphql_documents.specs.TypeReferences.{inner_named_type}
use Rattle.graphql_documents.specs.declared.documents.components.Component.{Component}
use Rattle.graphql_documents.specs.declared.documents.definitions.DirectiveDefinition.{DirectiveDefinition}
use Rattle.graphql_documents.specs.declared.documents.definitions.EnumValueDefinition.{EnumValueDefinition}
use Rattle.graphql_documents.specs.declared.documents.definitions.InputValueDefinition.{InputValueDefinition}
use Rattle.graphql_documents.specs.declared.documents.definitions.VariableDefinition.{VariableDefinition}
use Rattle.graphql_documents.specs.declared.documents.directives.Argument.{Argument}
use Rattle.graphql_documents.specs.declared.documents.directives.Directive.{Directive}
use Rattle.graphql_documents.specs.declared.documents.schemas.Schema.{Schema}
use Rattle.graphql_documents.specs.declared.documents.values.Value.{Value, out-Value}
use Rattle.graphql_documents.specs.declared.documents.values.Value.TheOpen as Open
use Rattle.graphql_documents.specs.declared.documents.values.Value.TheVariants as literal
use Rattle.graphql_deprecations.specs.Deprecations.{IsUsageOf, Usage}
use Rattle.graphql_deprecations.specs.InOrder.{Adds, ArgumentUses, ArgumentsUse, DirectiveUses, DirectivesUse, EntriesUse, InputFieldUses, ItemsUse, ValueUses, VariableUses, enum_uses, list_uses, next_entry, next_item, no_entries, no_items, object_uses, other_uses, unknown_entry, uses_nothing}
use Rattle.graphql_deprecations.specs.Usages.{AreExactly, UsedIn, UsedInArgument, UsedInArguments, UsedInDirective, UsedInDirectives, UsedInVariable, enum_value_at, in_input_field, in_item, input_field_at, of_enum_value, of_input_field}
use Rattle.graphql_deprecations.specs.declared.reports.DeprecatedElement.{DeprecatedElement}
use Rattle.graphql_deprecations.specs.declared.reports.DeprecatedElement.TheVariants as kind
use Rattle.graphql_deprecations.specs.declared.reports.DeprecatedUsage.{DeprecatedUsage}
use Rattle.graphql_deprecations.proofs.AddLemmas.{adds_then}
use Rattle.graphql_deprecations.proofs.ExactLemmas.{any_has, any_next, exactly_after, exactly_both, exactly_element, exactly_found, exactly_none, exactly_turn, exactly_uses, exactly_words, found_words, has_any, none_in_none}

-- a value is of one kind
enum_no_list : (name : NameText) (items : Vec (Node Value) Global) → ¬ (literal.Enum name ≡ literal.List items)
enum_no_list name items e =
    let opens : Open.Enum name ≡ Open.List items = sym (literal.outs-Enum name) ∙ ap out-Value e ∙ literal.outs-List items in
    let h : ⊥ = cc in h

enum_no_object : (name : NameText) (entries : Vec (NameText × Node Value) Global) → ¬ (literal.Enum name ≡ literal.Object entries)
enum_no_object name entries e =
    let opens : Open.Enum name ≡ Open.Object entries = sym (literal.outs-Enum name) ∙ ap out-Value e ∙ literal.outs-Object entries in
    let h : ⊥ = cc in h

object_no_list : (entries : Vec (NameText × Node Value) Global) (items : Vec (Node Value) Global) → ¬ (literal.Object entries ≡ literal.List items)
object_no_list entries items e =
    let opens : Open.Object entries ≡ Open.List items = sym (literal.outs-Object entries) ∙ ap out-Value e ∙ literal.outs-List items in
    let h : ⊥ = cc in h

same_enum : (a b : NameText) → literal.Enum a ≡ literal.Enum b → a ≡ b
same_enum a b e =
    let opens : Open.Enum a ≡ Open.Enum b = sym (literal.outs-Enum a) ∙ ap out-Value e ∙ literal.outs-Enum b in
    cc

same_items : (xs ys : Vec (Node Value) Global) → literal.List xs ≡ literal.List ys → xs ≡ ys
same_items xs ys e =
    let opens : Open.List xs ≡ Open.List ys = sym (literal.outs-List xs) ∙ ap out-Value e ∙ literal.outs-List ys in
    cc

same_entries : (xs ys : Vec (NameText × Node Value) Global) → literal.Object xs ≡ literal.Object ys → xs ≡ ys
same_entries xs ys e =
    let opens : Open.Object xs ≡ Open.Object ys = sym (literal.outs-Object xs) ∙ ap out-Value e ∙ literal.outs-Object ys in
    cc

module _ (schema : Schema) where
  -- one item or entry more
  items_more : {ty : NameText} {items : List (Node Value)} {uses : List Usage} → ItemsUse schema ty items uses →
      (x : Node Value) (more : List Usage) → ValueUses schema ty x.value.value more → ItemsUse schema ty (items ++ x ∷ []) (uses ++ more)
  items_more {ty = ty} no_items x more here = subst (ItemsUse schema ty (x ∷ [])) (append-nil more) (next_item here no_items)
  items_more {ty = ty} (next_item {item = y} {items = ys} {uses = a} {more = b} first rest) x more here =
      subst (ItemsUse schema ty (y ∷ (ys ++ x ∷ []))) (sym (append_assoc a b more)) (next_item first (items_more rest x more here))

  pub adds_item : {ty : NameText} (items : List (Node Value)) (i : ℕ) (x : Node Value) {old mid new : List DeprecatedUsage} → i < length items → x ≡ get_or items i x →
      Adds (ItemsUse schema ty (take i items)) old mid → Adds (ValueUses schema ty x.value.value) mid new → Adds (ItemsUse schema ty (take (i + 1) items)) old new
  adds_item {ty = ty} items i x within item a b =
      adds_then (λ c d before here. subst (λ l. ItemsUse schema ty l (c ++ d)) (sym (more_is items i x within item)) (items_more before x d here)) a b

  pub items_all : {ty : NameText} (items : List (Node Value)) (i : ℕ) {old new : List DeprecatedUsage} → length items ≤ i →
      Adds (ItemsUse schema ty (take i items)) old new → Adds (ItemsUse schema ty items) old new
  items_all {ty = ty} items i {old = old} {new = new} past a = subst (λ l. Adds (ItemsUse schema ty l) old new) (take_all i items past) a

  pub known_entry : (ty : NameText) (entry : NameText × Node Value) (d : Component InputValueDefinition) (a : List Usage) →
      input_field_at schema ty entry.0 ≡ Some d → InputFieldUses schema ty entry.0 d.node.value.value entry.1.value.value a → EntriesUse schema ty (entry ∷ []) a
  known_entry ty entry d a is h =
      let same : (h.first ++ h.second) ++ [] ≡ a = append-nil _ ∙ sym h.together in
      subst (EntriesUse schema ty (entry ∷ [])) same
      (subst (λ l. EntriesUse schema ty (entry ∷ []) ((l ++ h.second) ++ [])) (sym h.are_first) (next_entry d is h.are_second no_entries))

  entries_append : {ty : NameText} {xs ys : List (NameText × Node Value)} {a b : List Usage} →
      EntriesUse schema ty xs a → EntriesUse schema ty ys b → EntriesUse schema ty (xs ++ ys) (a ++ b)
  entries_append no_entries h = h
  entries_append {ty = ty} {ys = ys} {b = b} (next_entry {entry = x} {entries = xs} {uses = a} {more = c} d is in' rest) h =
      subst (EntriesUse schema ty (x ∷ (xs ++ ys))) (sym (append_assoc _ c b)) (next_entry d is in' (entries_append rest h))
  entries_append (unknown_entry none rest) h = unknown_entry none (entries_append rest h)

  pub adds_entry : {ty : NameText} (entries : List (NameText × Node Value)) (i : ℕ) (x : NameText × Node Value) {old mid new : List DeprecatedUsage} →
      i < length entries → x ≡ get_or entries i x →
      Adds (EntriesUse schema ty (take i entries)) old mid → Adds (EntriesUse schema ty (x ∷ [])) mid new → Adds (EntriesUse schema ty (take (i + 1) entries)) old new
  adds_entry {ty = ty} entries i x within item a b =
      adds_then (λ c d before here. subst (λ l. EntriesUse schema ty l (c ++ d)) (sym (more_is entries i x within item)) (entries_append before here)) a b

  pub entries_all : {ty : NameText} (entries : List (NameText × Node Value)) (i : ℕ) {old new : List DeprecatedUsage} → length entries ≤ i →
      Adds (EntriesUse schema ty (take i entries)) old new → Adds (EntriesUse schema ty entries) old new
  entries_all {ty = ty} entries i {old = old} {new = new} past a = subst (λ l. Adds (EntriesUse schema ty l) old new) (take_all i entries past) a

  -- what is in the entry of an object value, by the definition of its input field
  abbrev OfField : NameText → NameText × Node Value → Component InputValueDefinition → Usage → Type 0
  OfField ty entry d u =
      IsUsageOf (kind.InputField (record { ty = ty; attribute = entry.0 })) entry.0 d.node.value.value.directives.items u ⊎
      UsedIn schema (inner_named_type d.node.value.value.ty.value.value) entry.1.value.value u

  abbrev InEntry : NameText → NameText × Node Value → Usage → Type 0
  InEntry ty entry u = (d : Component InputValueDefinition) × (input_field_at schema ty entry.0 ≡ Some d) × OfField ty entry d u

  abbrev OfEnum : NameText → NameText → Component EnumValueDefinition → Usage → Type 0
  OfEnum ty name d = IsUsageOf (kind.EnumValue (record { ty = ty; attribute = name })) name d.node.value.value.directives.items

  abbrev IsEnum : NameText → NameText → Usage → Type 0
  IsEnum ty name u = (d : Component EnumValueDefinition) × (enum_value_at schema ty name ≡ Some d) × OfEnum ty name d u

  -- the usages in a value, kind by kind
  in_enum : {ty : NameText} {value : Value} {u : Usage} → UsedIn schema ty value u → (name : NameText) → value ≡ literal.Enum name → IsEnum ty name u
  in_enum {ty = ty} {u = u} (of_enum_value {name = found} d is used) name e = subst (λ n. IsEnum ty n u) (same_enum found name e) (d, is, used)
  in_enum (in_item items item stands more) name e = absurd (enum_no_list name items (sym e))
  in_enum (of_input_field entries entry d stands is used) name e = absurd (enum_no_object name entries (sym e))
  in_enum (in_input_field entries entry d stands is more) name e = absurd (enum_no_object name entries (sym e))

  in_list : {ty : NameText} {value : Value} {u : Usage} → UsedIn schema ty value u → (items : Vec (Node Value) Global) → value ≡ literal.List items →
      Any (λ i. UsedIn schema ty i.value.value u) items.items
  in_list (of_enum_value {name = found} d is used) items e = absurd (enum_no_list found items e)
  in_list {ty = ty} {u = u} (in_item found item stands more) items e =
      has_any (λ (i : Node Value). UsedIn schema ty i.value.value u) items.items item
      (subst (λ (l : Vec (Node Value) Global). Contains l.items item) (same_items found items e) stands) more
  in_list (of_input_field entries entry d stands is used) items e = absurd (object_no_list entries items e)
  in_list (in_input_field entries entry d stands is more) items e = absurd (object_no_list entries items e)

  in_object : {ty : NameText} {value : Value} {u : Usage} → UsedIn schema ty value u → (entries : Vec (NameText × Node Value) Global) → value ≡ literal.Object entries →
      Any (λ x. InEntry ty x u) entries.items
  in_object (of_enum_value {name = found} d is used) entries e = absurd (enum_no_object found entries e)
  in_object (in_item items item stands more) entries e = absurd (object_no_list entries items (sym e))
  in_object {ty = ty} {u = u} (of_input_field found entry d stands is used) entries e =
      has_any (λ (x : NameText × Node Value). InEntry ty x u) entries.items entry
      (subst (λ (l : Vec (NameText × Node Value) Global). Contains l.items entry) (same_entries found entries e) stands) (d, is, inl used)
  in_object {ty = ty} {u = u} (in_input_field found entry d stands is more) entries e =
      has_any (λ (x : NameText × Node Value). InEntry ty x u) entries.items entry
      (subst (λ (l : Vec (NameText × Node Value) Global). Contains l.items entry) (same_entries found entries e) stands) (d, is, inr more)

  in_other : {ty : NameText} {value : Value} {u : Usage} → UsedIn schema ty value u → ¬ uses_nothing value
  in_other (of_enum_value {name = found} d is used) (no_enum, no_list, no_object) = no_enum found refl
  in_other (in_item items item stands more) (no_enum, no_list, no_object) = no_list items refl
  in_other (of_input_field entries entry d stands is used) (no_enum, no_list, no_object) = no_object entries refl
  in_other (in_input_field entries entry d stands is more) (no_enum, no_list, no_object) = no_object entries refl

  of_entry : {ty : NameText} {u : Usage} (entries : Vec (NameText × Node Value) Global) (entry : NameText × Node Value) → Contains entries.items entry →
      InEntry ty entry u → UsedIn schema ty (literal.Object entries) u
  of_entry entries entry stands (d, is, inl used) = of_input_field entries entry d stands is used
  of_entry entries entry stands (d, is, inr more) = in_input_field entries entry d stands is more

  -- the usages of a value in order are exactly those in it
  mutual
    pub exactly_value : {ty : NameText} {value : Value} {uses : List Usage} → ValueUses schema ty value uses → AreExactly (UsedIn schema ty value) uses
    exactly_value {ty = ty} (enum_uses {name = name} {uses = uses} here) =
        exactly_words (λ u. (λ (d, is, used). of_enum_value d is used, λ used. in_enum used name refl))
        (exactly_found {In = OfEnum ty name}
        (λ d. exactly_uses (kind.EnumValue (record { ty = ty; attribute = name })) name d.node.value.value.directives.items) (enum_value_at schema ty name) uses here)
    exactly_value {ty = ty} (list_uses items inside) =
        exactly_words
        (λ u. (λ any. let h = any_has (λ (i : Node Value). UsedIn schema ty i.value.value u) items.items any in in_item items h.0 h.1 h.2, λ used. in_list used items refl))
        (exactly_items inside)
    exactly_value {ty = ty} (object_uses entries inside) =
        exactly_words
        (λ u. (λ any. let h = any_has (λ (x : NameText × Node Value). InEntry ty x u) entries.items any in of_entry entries h.0 h.1 h.2, λ used. in_object used entries refl))
        (exactly_entries inside)
    exactly_value (other_uses other) = exactly_none (λ u used. in_other used other)

    exactly_items : {ty : NameText} {items : List (Node Value)} {uses : List Usage} → ItemsUse schema ty items uses →
        AreExactly (λ u. Any (λ i. UsedIn schema ty i.value.value u) items) uses
    exactly_items {ty = ty} no_items = exactly_none (λ u. none_in_none (λ (i : Node Value). UsedIn schema ty i.value.value u))
    exactly_items {ty = ty} (next_item {item = x} {items = xs} here rest) =
        exactly_words (λ u. any_next (λ (i : Node Value). UsedIn schema ty i.value.value u) x xs) (exactly_after (exactly_value here) (exactly_items rest))

    exactly_entries : {ty : NameText} {entries : List (NameText × Node Value)} {uses : List Usage} → EntriesUse schema ty entries uses →
        AreExactly (λ u. Any (λ x. InEntry ty x u) entries) uses
    exactly_entries {ty = ty} no_entries = exactly_none (λ u. none_in_none (λ (x : NameText × Node Value). InEntry ty x u))
    exactly_entries {ty = ty} (next_entry {entry = x} {entries = xs} d is here rest) =
        exactly_words (λ u. any_next (λ (x : NameText × Node Value). InEntry ty x u) x xs)
        (exactly_after
        (exactly_words (found_words (input_field_at schema ty x.0) (OfField ty x) d is)
        (exactly_after (exactly_element (kind.InputField (record { ty = ty; attribute = x.0 })) x.0 d.node.value.value.directives.items) (exactly_value here)))
        (exactly_entries rest))
    exactly_entries {ty = ty} (unknown_entry {entry = x} {entries = xs} none rest) =
        exactly_words (λ u. any_next (λ (x : NameText × Node Value). InEntry ty x u) x xs)
        (exactly_after (exactly_none (λ u (d, some, used). let no : ⊥ = cc in no)) (exactly_entries rest))

  -- so of arguments, of directives and of variables
  module _ (element_of : NameText → DeprecatedElement) (definitions : List (Node InputValueDefinition)) where
    exactly_argument : (a : Argument) (uses : List Usage) → ArgumentUses schema element_of definitions a uses → AreExactly (UsedInArgument schema element_of definitions a) uses
    exactly_argument a uses h =
        exactly_found
        {
        In =
        λ (d : Node InputValueDefinition) (u : Usage). IsUsageOf (element_of a.name) a.name d.value.value.directives.items u ⊎
        UsedIn schema (inner_named_type d.value.value.ty.value.value) a.value.value.value u
        }
        (λ d. exactly_both (exactly_uses (element_of a.name) a.name d.value.value.directives.items) (λ b. exactly_value)) (definition_named a.name definitions) uses h

    pub exactly_arguments : (arguments : List (Node Argument)) (uses : List Usage) → ArgumentsUse schema element_of definitions arguments uses →
        AreExactly (UsedInArguments schema element_of definitions arguments) uses
    exactly_arguments arguments uses h =
        exactly_turn {In = λ (a : Node Argument). UsedInArgument schema element_of definitions a.value.value} (λ a. exactly_argument a.value.value) arguments uses h

  exactly_directive : (applied : Directive) (uses : List Usage) → DirectiveUses schema applied uses → AreExactly (UsedInDirective schema applied) uses
  exactly_directive applied uses h =
      exactly_found
      {
      In =
      λ (d : Node DirectiveDefinition) (u : Usage).
      UsedInArguments schema (λ argument. kind.DirectiveArgument (record { directive = applied.name; argument = argument })) d.value.value.arguments.items
      applied.arguments.items u
      }
      (λ d. exactly_arguments (λ argument. kind.DirectiveArgument (record { directive = applied.name; argument = argument })) d.value.value.arguments.items
      applied.arguments.items)
      (directive_definition schema applied.name) uses h

  pub exactly_directives : (directives : List (Node Directive)) (uses : List Usage) → DirectivesUse schema directives uses →
      AreExactly (UsedInDirectives schema directives) uses
  exactly_directives directives uses h =
      exactly_turn {In = λ (d : Node Directive). UsedInDirective schema d.value.value} (λ d. exactly_directive d.value.value) directives uses h

  pub exactly_variable : (v : VariableDefinition) (uses : List Usage) → VariableUses schema v uses → AreExactly (UsedInVariable schema v) uses
  exactly_variable v uses h =
      exactly_both
      (exactly_found {In = λ (value : Node Value) (u : Usage). UsedIn schema (inner_named_type v.ty.value.value) value.value.value u} (λ value b. exactly_value) v.default_value)
      (exactly_directives v.directives.items) uses h
