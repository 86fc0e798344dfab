-- A schema may be used by several threads at once, since each of its parts may.
use denote.Param.Send.{IsSend, IsSync, sendable}
use Rattle.std.proofs.Crossing.{crosses, frees}
use Rattle.std.proofs.alloc.Global.TheSendSync as heap
use Rattle.std.proofs.option.Option.TheSendSync as option
use Rattle.std.proofs.vec.Vec.TheSendSync as vec
use Rattle.indexmap.proofs.map.IndexMap.TheSendSync as map
use Rattle.indexmap.proofs.set.IndexSet.TheSendSync as set
use Rattle.graphql_hash_seeds.proofs.seeds.HashSeed.TheSendSync as seed
use Rattle.graphql_nodes.proofs.directive_locations.DirectiveLocation.TheSendSync as location
use Rattle.graphql_nodes.proofs.names.Name.TheSendSync as name
use Rattle.graphql_nodes.proofs.nodes.Node.TheSendSync as node
use Rattle.graphql_numbers.proofs.floats.FloatValue.TheSendSync as float
use Rattle.graphql_numbers.proofs.integers.IntValue.TheSendSync as integer
use Rattle.graphql_documents.proofs.documents.components.Component.TheSendSync as component
use Rattle.graphql_documents.proofs.documents.components.ComponentName.TheSendSync as component_name
use Rattle.graphql_documents.proofs.documents.type_references.Type.TheLaws.TheKnot as types
use Rattle.graphql_documents.proofs.documents.values.Value.TheLaws.TheKnot as values
use Rattle.graphql_documents.specs.contracts.documents.type_references.Type as ty
use Rattle.graphql_documents.specs.contracts.documents.values.Value as value
use Rattle.graphql_documents.specs.contracts.documents.directives.Argument as argument
use Rattle.graphql_documents.specs.contracts.documents.directives.Directive as directive
use Rattle.graphql_documents.specs.contracts.documents.definitions.InputValueDefinition as input_value
use Rattle.graphql_documents.specs.contracts.documents.definitions.FieldDefinition as field
use Rattle.graphql_documents.specs.contracts.documents.definitions.EnumValueDefinition as enum_value
use Rattle.graphql_documents.specs.contracts.documents.definitions.DirectiveDefinition as directive_definition
use Rattle.graphql_documents.specs.contracts.documents.schemas.ScalarType as scalar
use Rattle.graphql_documents.specs.contracts.documents.schemas.ObjectType as object
use Rattle.graphql_documents.specs.contracts.documents.schemas.InterfaceType as interface
use Rattle.graphql_documents.specs.contracts.documents.schemas.UnionType as union
use Rattle.graphql_documents.specs.contracts.documents.schemas.EnumType as enumeration
use Rattle.graphql_documents.specs.contracts.documents.schemas.InputObjectType as input_object
use Rattle.graphql_documents.specs.contracts.documents.schemas.ExtendedType as extended
use Rattle.graphql_documents.specs.contracts.documents.meta_fields.MetaFields as meta_fields
use Rattle.graphql_documents.specs.contracts.documents.schemas.SchemaDefinition as definition
use Rattle.graphql_documents.specs.contracts.documents.schemas.Schema as schema
use Rattle.graphql_schema_handles.specs.contracts.sessions.Session as session

ruleset known = (
  sendable,
  frees,
  heap.the_send,
  heap.the_sync,
  option.the_send,
  option.the_sync,
  vec.the_send,
  vec.the_sync,
  map.the_send,
  map.the_sync,
  set.the_send,
  set.the_sync,
  seed.the_send,
  seed.the_sync,
  name.the_send,
  name.the_sync,
  location.the_send,
  location.the_sync,
  float.the_send,
  float.the_sync,
  integer.the_send,
  integer.the_sync,
  component_name.the_send,
  component_name.the_sync,
  node.the_send,
  node.the_sync,
  node.the_field_send,
  node.the_field_sync,
  component.the_send,
  component.the_sync,
  component.the_field_send,
  component.the_field_sync,
  option.the_field_send,
  option.the_field_sync,
)

value_send : IsSend value.the_row
value_send = search (values.crosses_both, known) depth 60 fits 20000

value_sync : IsSync value.the_row
value_sync = search (values.crosses_both, known) depth 60 fits 20000

-- as a field of a struct has it, and as a parameter of a type
ty_field_send : IsSend (ty.the_field).row
ty_field_send = search (types.crosses, crosses, known) depth 60 fits 20000

ty_field_sync : IsSync (ty.the_field).row
ty_field_sync = search (types.crosses, crosses, known) depth 60 fits 20000

ty_send : IsSend ty.the_row
ty_send = search (ty_field_send, known) depth 60 fits 20000

ty_sync : IsSync ty.the_row
ty_sync = search (ty_field_sync, known) depth 60 fits 20000

argument_send : IsSend argument.the_row
argument_send = search (value_send, value_sync, known) depth 60 fits 20000

argument_sync : IsSync argument.the_row
argument_sync = search (value_send, value_sync, known) depth 60 fits 20000

directive_send : IsSend directive.the_row
directive_send = search (argument_send, argument_sync, known) depth 60 fits 20000

directive_sync : IsSync directive.the_row
directive_sync = search (argument_send, argument_sync, known) depth 60 fits 20000

input_value_send : IsSend input_value.the_row
input_value_send = search (value_send, value_sync, ty_send, ty_sync, directive_send, directive_sync, known) depth 60 fits 20000

input_value_sync : IsSync input_value.the_row
input_value_sync = search (value_send, value_sync, ty_send, ty_sync, directive_send, directive_sync, known) depth 60 fits 20000

field_send : IsSend field.the_row
field_send = search (ty_field_send, directive_send, directive_sync, input_value_send, input_value_sync, known) depth 60 fits 20000

field_sync : IsSync field.the_row
field_sync = search (ty_field_sync, directive_send, directive_sync, input_value_send, input_value_sync, known) depth 60 fits 20000

enum_value_send : IsSend enum_value.the_row
enum_value_send = search (directive_send, directive_sync, known) depth 60 fits 20000

enum_value_sync : IsSync enum_value.the_row
enum_value_sync = search (directive_send, directive_sync, known) depth 60 fits 20000

directive_definition_send : IsSend directive_definition.the_row
directive_definition_send = search (input_value_send, input_value_sync, known) depth 60 fits 20000

directive_definition_sync : IsSync directive_definition.the_row
directive_definition_sync = search (input_value_send, input_value_sync, known) depth 60 fits 20000

scalar_send : IsSend scalar.the_row
scalar_send = search (directive_send, directive_sync, known) depth 60 fits 20000

scalar_sync : IsSync scalar.the_row
scalar_sync = search (directive_send, directive_sync, known) depth 60 fits 20000

object_send : IsSend object.the_row
object_send = search (directive_send, directive_sync, field_send, field_sync, known) depth 60 fits 20000

object_sync : IsSync object.the_row
object_sync = search (directive_send, directive_sync, field_send, field_sync, known) depth 60 fits 20000

interface_send : IsSend interface.the_row
interface_send = search (directive_send, directive_sync, field_send, field_sync, known) depth 60 fits 20000

interface_sync : IsSync interface.the_row
interface_sync = search (directive_send, directive_sync, field_send, field_sync, known) depth 60 fits 20000

union_send : IsSend union.the_row
union_send = search (directive_send, directive_sync, known) depth 60 fits 20000

union_sync : IsSync union.the_row
union_sync = search (directive_send, directive_sync, known) depth 60 fits 20000

enumeration_send : IsSend enumeration.the_row
enumeration_send = search (directive_send, directive_sync, enum_value_send, enum_value_sync, known) depth 60 fits 20000

enumeration_sync : IsSync enumeration.the_row
enumeration_sync = search (directive_send, directive_sync, enum_value_send, enum_value_sync, known) depth 60 fits 20000

input_object_send : IsSend input_object.the_row
input_object_send = search (directive_send, directive_sync, input_value_send, input_value_sync, known) depth 60 fits 20000

input_object_sync : IsSync input_object.the_row
input_object_sync = search (directive_send, directive_sync, input_value_send, input_value_sync, known) depth 60 fits 20000

extended_send : IsSend extended.the_row
extended_send = search (scalar_send, scalar_sync, object_send, object_sync, interface_send, interface_sync, union_send, union_sync, enumeration_send, enumeration_sync, input_object_send, input_object_sync, known) depth 60 fits 20000

extended_sync : IsSync extended.the_row
extended_sync = search (scalar_send, scalar_sync, object_send, object_sync, interface_send, interface_sync, union_send, union_sync, enumeration_send, enumeration_sync, input_object_send, input_object_sync, known) depth 60 fits 20000

meta_fields_send : IsSend (meta_fields.the_field).row
meta_fields_send = search (field_send, field_sync, known) depth 60 fits 20000

meta_fields_sync : IsSync (meta_fields.the_field).row
meta_fields_sync = search (field_send, field_sync, known) depth 60 fits 20000

definition_send : IsSend definition.the_row
definition_send = search (directive_send, directive_sync, known) depth 60 fits 20000

definition_sync : IsSync definition.the_row
definition_sync = search (directive_send, directive_sync, known) depth 60 fits 20000

schema_send : IsSend schema.the_row
schema_send = search (definition_send, definition_sync, directive_definition_send, directive_definition_sync, extended_send, meta_fields_send, known) depth 60 fits 20000

schema_sync : IsSync schema.the_row
schema_sync = search (definition_send, definition_sync, directive_definition_send, directive_definition_sync, extended_sync, meta_fields_sync, known) depth 60 fits 20000

pub session_send : IsSend session.the_row
session_send = search (schema_send, schema_sync, crosses, known) depth 60 fits 20000
