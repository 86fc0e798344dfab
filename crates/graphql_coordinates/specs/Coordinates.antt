-- The texts of schema coordinates. Specification: draft, 3.14 Schema Coordinates.
use Rattle.std.specs.Prelude.{ℕ, List, ◌++◌, codes}
use Rattle.graphql_nodes.specs.Names.{NameText}
use Rattle.graphql_coordinates.specs.declared.coordinates.TypeCoordinate.{TypeCoordinate}
use Rattle.graphql_coordinates.specs.declared.coordinates.TypeAttributeCoordinate.{TypeAttributeCoordinate}
use Rattle.graphql_coordinates.specs.declared.coordinates.FieldArgumentCoordinate.{FieldArgumentCoordinate}
use Rattle.graphql_coordinates.specs.declared.coordinates.DirectiveCoordinate.{DirectiveCoordinate}
use Rattle.graphql_coordinates.specs.declared.coordinates.DirectiveArgumentCoordinate.{DirectiveArgumentCoordinate}
use Rattle.graphql_coordinates.specs.declared.coordinates.SchemaCoordinate.{SchemaCoordinate}
use Rattle.graphql_coordinates.specs.declared.coordinates.SchemaCoordinate.TheVariants.{«Type», TypeAttribute, FieldArgument, Directive, DirectiveArgument}

-- `T`
abbrev pub type_coordinate_text : TypeCoordinate → List ℕ
type_coordinate_text c = c.ty.text

-- a field of a type: `T.f`
abbrev pub field_text : NameText → NameText → List ℕ
field_text ty field = ty.text ++ (codes "." ++ field.text)

-- `T.f`
abbrev pub type_attribute_text : TypeAttributeCoordinate → List ℕ
type_attribute_text c = field_text c.ty c.attribute

-- `T.f(a:)`
abbrev pub field_argument_text : FieldArgumentCoordinate → List ℕ
field_argument_text c = c.ty.text ++ (codes "." ++ (c.field.text ++ (codes "(" ++ (c.argument.text ++ codes ":)"))))

-- `@d`
abbrev pub directive_text : DirectiveCoordinate → List ℕ
directive_text c = codes "@" ++ c.directive.text

-- `@d(a:)`
abbrev pub directive_argument_text : DirectiveArgumentCoordinate → List ℕ
directive_argument_text c = codes "@" ++ (c.directive.text ++ (codes "(" ++ (c.argument.text ++ codes ":)")))

-- the text of a coordinate of any kind
abbrev pub coordinate_text : SchemaCoordinate → List ℕ
coordinate_text («Type» c) = type_coordinate_text c
coordinate_text (TypeAttribute c) = type_attribute_text c
coordinate_text (FieldArgument c) = field_argument_text c
coordinate_text (Directive c) = directive_text c
coordinate_text (DirectiveArgument c) = directive_argument_text c
