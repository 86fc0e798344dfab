-- What one tree says of leaves is the same but for places in memory.
use Rattle.std.proofs.Common.{◌≡◌, ◌∙◌, List, [], ◌∷◌, Option, None, Some, refl, sym, subst}
use Rattle.std.specs.Prelude.{String, Vec, string_bytes}
use Rattle.std.specs.List.{AllZip}
use Rattle.std.specs.declared.alloc.Global.{Global}
use Rattle.graphql_nodes.specs.Names.{NameText}
use Rattle.graphql_nodes.specs.declared.nodes.Node.{Node}
use Rattle.graphql_documents.specs.declared.documents.definitions.DirectiveDefinition.{DirectiveDefinition}
use Rattle.graphql_documents.specs.declared.documents.definitions.EnumValueDefinition.{EnumValueDefinition}
use Rattle.graphql_documents.specs.declared.documents.definitions.FieldDefinition.{FieldDefinition}
use Rattle.graphql_documents.specs.declared.documents.definitions.InputValueDefinition.{InputValueDefinition}
use Rattle.graphql_documents.specs.declared.documents.definitions.VariableDefinition.{VariableDefinition}
use Rattle.graphql_documents.specs.declared.documents.directives.Argument.{Argument}
use Rattle.graphql_documents.specs.declared.documents.directives.Directive.{Directive}
use Rattle.graphql_documents.specs.declared.documents.type_references.Type.{«Type»}
use Rattle.graphql_documents.specs.declared.documents.values.Value.{Value}
use Rattle.graphql_documents.specs.declared.documents.values.Value.TheVariants as literal
use Rattle.graphql_trees.specs.declared.directives.Argument as argument_tree
use Rattle.graphql_trees.specs.declared.directives.Directive as directive_tree
use Rattle.graphql_trees.specs.declared.executable.VariableDefinition as variable_tree
use Rattle.graphql_trees.specs.declared.type_system.DirectiveDefinition as definition_tree
use Rattle.graphql_trees.specs.declared.type_system.EnumValueDefinition as enum_value_tree
use Rattle.graphql_trees.specs.declared.type_system.FieldDefinition as field_tree
use Rattle.graphql_trees.specs.declared.type_system.InputValueDefinition as input_value_tree
use Rattle.graphql_trees.specs.declared.types.TypeReference.{TypeReference}
use Rattle.graphql_trees.specs.declared.values.ObjectField.{ObjectField}
use Rattle.graphql_trees.specs.declared.values.Value as tree_value
use Rattle.graphql_trees.specs.declared.values.Value.TheOpen as Open
use Rattle.graphql_trees.specs.declared.values.Value.TheVariants as tree
use Rattle.graphql_leaf_building.specs.Definitions.{DefaultSays, DirectiveDefinitionSays, EnumValueSays, FieldDefinitionSays, InputValueSays, VariableSays}
use Rattle.graphql_leaf_building.specs.Directives.{ArgumentSays, DirectiveSays}
use Rattle.graphql_leaf_building.specs.Types.{TypeSays}
use Rattle.graphql_leaf_building.specs.Values as says
use Rattle.graphql_leaf_building.specs.Values.{ContentsSay, FieldsSay, ItemsSay, ValueSays, ValueTree}
use Rattle.graphql_document_building.specs.SameLeaves.{SameArgument, SameContents, SameDefault, SameDirective, SameDirectiveDefinition, SameEnumValue, SameField, SameFields, SameInputValue, SameItems, SameTypeNode, SameValue, SameVariable, next_field, next_item, no_fields, no_items, same_boolean, same_enum, same_float, same_int, same_list, same_null, same_object, same_string, same_variable}

-- two lists that one list says, item by item
pub both_said : {T X : Type 0} (Says : T → X → Type 0) (Same : X → X → Type 0) → ((t : T) (a b : X) → Says t a → Says t b → Same a b) →
    (ts : List T) (xs ys : List X) → AllZip Says ts xs → AllZip Says ts ys → AllZip Same xs ys
both_said Says Same one [] [] [] p q = tt
both_said Says Same one [] [] (b ∷ ys) p q = absurd q
both_said Says Same one [] (a ∷ xs) ys p q = absurd p
both_said Says Same one (t ∷ ts) [] ys p q = absurd p
both_said Says Same one (t ∷ ts) (a ∷ xs) [] p q = absurd q
both_said Says Same one (t ∷ ts) (a ∷ xs) (b ∷ ys) p q = (one t a b p.0 q.0, both_said Says Same one ts xs ys p.1 q.1)

-- what a tree says, by its form
abbrev IsSaid : ValueTree → Value → Type 0
IsSaid t b = elim (tree_value.out-Value t) [
  | Open.Variable x ↦ b ≡ literal.Variable x.name
  | Open.Int text span ↦ b ≡ literal.Int text
  | Open.Float text span ↦ b ≡ literal.Float text
  | Open.String x ↦ (text : String Global) × (string_bytes text ≡ x.value) × (b ≡ literal.String text)
  | Open.Boolean truth span ↦ b ≡ literal.Boolean truth
  | Open.Null span ↦ b ≡ literal.Null
  | Open.Enum name ↦ b ≡ literal.Enum name
  | Open.List xs span ↦ (ys : Vec (Node Value) Global) × ItemsSay xs ys.items × (b ≡ literal.List ys)
  | Open.Object xs span ↦ (ys : Vec (NameText × Node Value) Global) × FieldsSay xs ys.items × (b ≡ literal.Object ys)
]

said : (t : ValueTree) (b : Value) → ContentsSay t b → IsSaid t b
said t b (says.null_says {span}) = rw (tree.outs-Null span, IsSaid) refl
said t b (says.enum_says {name}) = rw (tree.outs-Enum name, IsSaid) refl
said t b (says.variable_says {x}) = rw (tree.outs-Variable x, IsSaid) refl
said t b (says.string_says {x} text is) = rw (tree.outs-String x, IsSaid) (text, is, refl)
said t b (says.float_says {text} {span}) = rw (tree.outs-Float text span, IsSaid) refl
said t b (says.int_says {text} {span}) = rw (tree.outs-Int text span, IsSaid) refl
said t b (says.boolean_says {truth} {span}) = rw (tree.outs-Boolean truth span, IsSaid) refl
said t b (says.list_says {xs} {span} ys items) = rw (tree.outs-List xs span, IsSaid) (ys, items, refl)
said t b (says.object_says {xs} {span} ys fields) = rw (tree.outs-Object xs span, IsSaid) (ys, fields, refl)

mutual
  contents_are_same : (t : ValueTree) (a b : Value) → ContentsSay t a → ContentsSay t b → SameContents a b
  contents_are_same t a b (says.null_says {span}) q =
      let is = rw (tree.outs-Null span, IsSaid) at (said t b q) in subst (SameContents literal.Null) (sym is) same_null
  contents_are_same t a b (says.enum_says {name}) q =
      let is = rw (tree.outs-Enum name, IsSaid) at (said t b q) in subst (SameContents (literal.Enum name)) (sym is) same_enum
  contents_are_same t a b (says.variable_says {x}) q =
      let is = rw (tree.outs-Variable x, IsSaid) at (said t b q) in subst (SameContents (literal.Variable x.name)) (sym is) same_variable
  contents_are_same t a b (says.string_says {x} text same) q =
      let is = rw (tree.outs-String x, IsSaid) at (said t b q) in
      subst (SameContents (literal.String text)) (sym is.2) (same_string text is.0 (same ∙ sym is.1))
  contents_are_same t a b (says.float_says {text} {span}) q =
      let is = rw (tree.outs-Float text span, IsSaid) at (said t b q) in subst (SameContents (literal.Float text)) (sym is) same_float
  contents_are_same t a b (says.int_says {text} {span}) q =
      let is = rw (tree.outs-Int text span, IsSaid) at (said t b q) in subst (SameContents (literal.Int text)) (sym is) same_int
  contents_are_same t a b (says.boolean_says {truth} {span}) q =
      let is = rw (tree.outs-Boolean truth span, IsSaid) at (said t b q) in subst (SameContents (literal.Boolean truth)) (sym is) same_boolean
  contents_are_same t a b (says.list_says {xs} {span} ys items) q =
      let is = rw (tree.outs-List xs span, IsSaid) at (said t b q) in
      subst (SameContents (literal.List ys)) (sym is.2) (same_list ys is.0 (items_are_same xs ys.items is.0.items items is.1))
  contents_are_same t a b (says.object_says {xs} {span} ys fields) q =
      let is = rw (tree.outs-Object xs span, IsSaid) at (said t b q) in
      subst (SameContents (literal.Object ys)) (sym is.2) (same_object ys is.0 (fields_are_same xs ys.items is.0.items fields is.1))

  items_are_same : (ts : List ValueTree) (xs ys : List (Node Value)) → ItemsSay ts xs → ItemsSay ts ys → SameItems xs ys
  items_are_same [] [] [] says.no_items says.no_items = no_items
  items_are_same [] [] (b ∷ ys) says.no_items q = elim q [ ]
  items_are_same (_ ∷ _) (_ ∷ _) [] (says.next_item first at rest) q = elim q [ ]
  items_are_same (t ∷ ts) (a ∷ xs) (b ∷ ys) (says.next_item first at rest) (says.next_item other there more) =
      next_item (contents_are_same t a.value.value b.value.value first other) (at ∙ sym there) (items_are_same ts xs ys rest more)

  fields_are_same : (ts : List ObjectField) (xs ys : List (NameText × Node Value)) → FieldsSay ts xs → FieldsSay ts ys → SameFields xs ys
  fields_are_same [] [] [] says.no_fields says.no_fields = no_fields
  fields_are_same [] [] (b ∷ ys) says.no_fields q = elim q [ ]
  fields_are_same (_ ∷ _) (_ ∷ _) [] (says.next_field named first at rest) q = elim q [ ]
  fields_are_same (t ∷ ts) (a ∷ xs) (b ∷ ys) (says.next_field named first at rest) (says.next_field called other there more) =
      next_field (named ∙ sym called) (contents_are_same t.value a.1.value.value b.1.value.value first other) (at ∙ sym there)
      (fields_are_same ts xs ys rest more)

pub value_is_same : (t : ValueTree) (a b : Node Value) → ValueSays t a → ValueSays t b → SameValue a b
value_is_same t a b p q = record {
  contents = contents_are_same t a.value.value b.value.value p.contents q.contents;
  location = p.location ∙ sym q.location;
}

default_is_same : (t : Option ValueTree) (a b : Option (Node Value)) → DefaultSays t a → DefaultSays t b → SameDefault a b
default_is_same None None None p q = tt
default_is_same None None (Some b) p q = absurd q
default_is_same None (Some a) b p q = absurd p
default_is_same (Some t) None b p q = absurd p
default_is_same (Some t) (Some a) None p q = absurd q
default_is_same (Some t) (Some a) (Some b) p q = value_is_same t a b p q

type_is_same : (t : TypeReference) (a b : Node «Type») → TypeSays t a → TypeSays t b → SameTypeNode a b
type_is_same t a b p q = record { written = p.written ∙ sym q.written; location = p.location ∙ sym q.location }

pub argument_is_same : (t : argument_tree.Argument) (a b : Node Argument) → ArgumentSays t a → ArgumentSays t b → SameArgument a b
argument_is_same t a b p q = record {
  name = p.name ∙ sym q.name;
  value = value_is_same t.value a.value.value.value b.value.value.value p.value q.value;
  location = p.location ∙ sym q.location;
}

pub directive_is_same : (t : directive_tree.Directive) (a b : Node Directive) → DirectiveSays t a → DirectiveSays t b → SameDirective a b
directive_is_same t a b p q = record {
  name = p.name ∙ sym q.name;
  arguments = both_said ArgumentSays SameArgument argument_is_same t.arguments _ _ p.arguments q.arguments;
  location = p.location ∙ sym q.location;
}

pub variable_is_same : (t : variable_tree.VariableDefinition) (a b : Node VariableDefinition) → VariableSays t a → VariableSays t b → SameVariable a b
variable_is_same t a b p q = record {
  name = p.name ∙ sym q.name;
  ty = type_is_same t.type_reference _ _ p.ty q.ty;
  default_value = default_is_same t.default_value _ _ p.default_value q.default_value;
  directives = both_said DirectiveSays SameDirective directive_is_same t.directives _ _ p.directives q.directives;
  location = p.location ∙ sym q.location;
}

pub input_value_is_same : (t : input_value_tree.InputValueDefinition) (a b : Node InputValueDefinition) →
    InputValueSays t a → InputValueSays t b → SameInputValue a b
input_value_is_same t a b p q = record {
  name = p.name ∙ sym q.name;
  ty = type_is_same t.type_reference _ _ p.ty q.ty;
  default_value = default_is_same t.default_value _ _ p.default_value q.default_value;
  directives = both_said DirectiveSays SameDirective directive_is_same t.directives _ _ p.directives q.directives;
  location = p.location ∙ sym q.location;
}

pub field_is_same : (t : field_tree.FieldDefinition) (a b : Node FieldDefinition) → FieldDefinitionSays t a → FieldDefinitionSays t b → SameField a b
field_is_same t a b p q = record {
  name = p.name ∙ sym q.name;
  arguments = both_said InputValueSays SameInputValue input_value_is_same t.arguments _ _ p.arguments q.arguments;
  ty = p.ty ∙ sym q.ty;
  directives = both_said DirectiveSays SameDirective directive_is_same t.directives _ _ p.directives q.directives;
  location = p.location ∙ sym q.location;
}

pub enum_value_is_same : (t : enum_value_tree.EnumValueDefinition) (a b : Node EnumValueDefinition) → EnumValueSays t a → EnumValueSays t b → SameEnumValue a b
enum_value_is_same t a b p q = record {
  value = p.value ∙ sym q.value;
  directives = both_said DirectiveSays SameDirective directive_is_same t.directives _ _ p.directives q.directives;
  location = p.location ∙ sym q.location;
}

pub directive_definition_is_same : (t : definition_tree.DirectiveDefinition) (a b : Node DirectiveDefinition) →
    DirectiveDefinitionSays t a → DirectiveDefinitionSays t b → SameDirectiveDefinition a b
directive_definition_is_same t a b p q = record {
  name = p.name ∙ sym q.name;
  arguments = both_said InputValueSays SameInputValue input_value_is_same t.arguments _ _ p.arguments q.arguments;
  repeatable = p.repeatable ∙ sym q.repeatable;
  locations = p.locations ∙ sym q.locations;
  location = p.location ∙ sym q.location;
}
