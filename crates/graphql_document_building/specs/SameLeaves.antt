-- Typed values, arguments, directives and definitions that are the same but for places in memory: names, texts and locations are
-- equal, and lists are the same item by item.
use Rattle.std.specs.Prelude.{◌≡◌, Bool, List, [], ◌∷◌, ℕ, Option, None, Some, String, Vec, ⊤, string_bytes}
use Rattle.std.specs.List.{AllZip}
use Rattle.std.specs.declared.alloc.Global.{Global}
use Rattle.graphql_nodes.specs.Names.{NameText}
use Rattle.graphql_nodes.specs.declared.nodes.Node.{Node}
use Rattle.graphql_documents.specs.TypeReferences.{as_written}
use Rattle.graphql_documents.specs.declared.documents.definitions.DirectiveDefinition.{DirectiveDefinition}
use Rattle.graphql_documents.specs.declared.documents.definitions.EnumValueDefinition.{EnumValueDefinition}
use Rattle.graphql_documents.specs.declared.documents.definitions.FieldDefinition.{FieldDefinition}
use Rattle.graphql_documents.specs.declared.documents.definitions.InputValueDefinition.{InputValueDefinition}
use Rattle.graphql_documents.specs.declared.documents.definitions.VariableDefinition.{VariableDefinition}
use Rattle.graphql_documents.specs.declared.documents.directives.Argument.{Argument}
use Rattle.graphql_documents.specs.declared.documents.directives.Directive.{Directive}
use Rattle.graphql_documents.specs.declared.documents.type_references.Type.{«Type»}
use Rattle.graphql_documents.specs.declared.documents.values.Value.{Value}
use Rattle.graphql_documents.specs.declared.documents.values.Value.TheVariants as literal

-- values. Specification: 2.9 Input Values
mutual
  pub data SameContents : Value → Value → Type 0 where
    same_null : SameContents literal.Null literal.Null
    same_enum : {name : NameText} → SameContents (literal.Enum name) (literal.Enum name)
    same_variable : {name : NameText} → SameContents (literal.Variable name) (literal.Variable name)
    same_string : (a b : String Global) → string_bytes a ≡ string_bytes b → SameContents (literal.String a) (literal.String b)
    same_float : {text : List ℕ} → SameContents (literal.Float text) (literal.Float text)
    same_int : {text : List ℕ} → SameContents (literal.Int text) (literal.Int text)
    same_boolean : {truth : Bool} → SameContents (literal.Boolean truth) (literal.Boolean truth)
    same_list : (xs ys : Vec (Node Value) Global) → SameItems xs.items ys.items → SameContents (literal.List xs) (literal.List ys)
    same_object : (xs ys : Vec (NameText × Node Value) Global) → SameFields xs.items ys.items → SameContents (literal.Object xs) (literal.Object ys)

  pub data SameItems : List (Node Value) → List (Node Value) → Type 0 where
    no_items : SameItems [] []
    next_item : {x y : Node Value} {xs ys : List (Node Value)} →
        SameContents x.value.value y.value.value → x.location ≡ y.location → SameItems xs ys → SameItems (x ∷ xs) (y ∷ ys)

  pub data SameFields : List (NameText × Node Value) → List (NameText × Node Value) → Type 0 where
    no_fields : SameFields [] []
    next_field : {x y : NameText × Node Value} {xs ys : List (NameText × Node Value)} →
        x.0 ≡ y.0 → SameContents x.1.value.value y.1.value.value → x.1.location ≡ y.1.location → SameFields xs ys → SameFields (x ∷ xs) (y ∷ ys)

pub record SameValue (a b : Node Value) : Type 0 where
  pub contents : SameContents a.value.value b.value.value
  pub location : a.location ≡ b.location

abbrev pub SameDefault : Option (Node Value) → Option (Node Value) → Type 0
SameDefault None None = ⊤
SameDefault (Some a) (Some b) = SameValue a b
SameDefault _ _ = ⊥

-- references to types. Specification: 2.11 Type References
pub record SameTypeNode (a b : Node «Type») : Type 0 where
  pub written : as_written a.value.value ≡ as_written b.value.value
  pub location : a.location ≡ b.location

-- Specification: 2.6 Arguments
pub record SameArgument (a b : Node Argument) : Type 0 where
  pub name : a.value.value.name ≡ b.value.value.name
  pub value : SameValue a.value.value.value b.value.value.value
  pub location : a.location ≡ b.location

abbrev pub SameArguments : List (Node Argument) → List (Node Argument) → Type 0
SameArguments xs ys = AllZip SameArgument xs ys

-- Specification: 2.12 Directives
pub record SameDirective (a b : Node Directive) : Type 0 where
  pub name : a.value.value.name ≡ b.value.value.name
  pub arguments : SameArguments a.value.value.arguments.items b.value.value.arguments.items
  pub location : a.location ≡ b.location

abbrev pub SameDirectives : List (Node Directive) → List (Node Directive) → Type 0
SameDirectives xs ys = AllZip SameDirective xs ys

-- Specification: 2.10 Variables
pub record SameVariable (a b : Node VariableDefinition) : Type 0 where
  pub name : a.value.value.name ≡ b.value.value.name
  pub ty : SameTypeNode a.value.value.ty b.value.value.ty
  pub default_value : SameDefault a.value.value.default_value b.value.value.default_value
  pub directives : SameDirectives a.value.value.directives.items b.value.value.directives.items
  pub location : a.location ≡ b.location

-- arguments of definitions, and fields of input objects. Specification: 3.6.1 Field Arguments, 3.10 Input Objects
pub record SameInputValue (a b : Node InputValueDefinition) : Type 0 where
  pub name : a.value.value.name ≡ b.value.value.name
  pub ty : SameTypeNode a.value.value.ty b.value.value.ty
  pub default_value : SameDefault a.value.value.default_value b.value.value.default_value
  pub directives : SameDirectives a.value.value.directives.items b.value.value.directives.items
  pub location : a.location ≡ b.location

abbrev pub SameInputValues : List (Node InputValueDefinition) → List (Node InputValueDefinition) → Type 0
SameInputValues xs ys = AllZip SameInputValue xs ys

-- Specification: 3.6 Objects
pub record SameField (a b : Node FieldDefinition) : Type 0 where
  pub name : a.value.value.name ≡ b.value.value.name
  pub arguments : SameInputValues a.value.value.arguments.items b.value.value.arguments.items
  pub ty : as_written a.value.value.ty ≡ as_written b.value.value.ty
  pub directives : SameDirectives a.value.value.directives.items b.value.value.directives.items
  pub location : a.location ≡ b.location

-- Specification: 3.9 Enums
pub record SameEnumValue (a b : Node EnumValueDefinition) : Type 0 where
  pub value : a.value.value.value ≡ b.value.value.value
  pub directives : SameDirectives a.value.value.directives.items b.value.value.directives.items
  pub location : a.location ≡ b.location

-- Specification: 3.13 Directives
pub record SameDirectiveDefinition (a b : Node DirectiveDefinition) : Type 0 where
  pub name : a.value.value.name ≡ b.value.value.name
  pub arguments : SameInputValues a.value.value.arguments.items b.value.value.arguments.items
  pub repeatable : a.value.value.repeatable ≡ b.value.value.repeatable
  pub locations : a.value.value.locations.items ≡ b.value.value.locations.items
  pub location : a.location ≡ b.location
