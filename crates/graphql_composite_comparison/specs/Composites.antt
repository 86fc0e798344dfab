-- What stays of the objects and the root of subscriptions that a composite type had. Specification: 3.6 Objects, 5.2.3.1 Single Root Field.
use Rattle.std.specs.Prelude.{◌≡◌, Some, All, IsTrue}
use Rattle.graphql_nodes.specs.Names.{NameText}
use Rattle.graphql_nodes.specs.declared.operation_types.OperationType.TheVariants as operation
use Rattle.graphql_documents.specs.Schemas.{IsSubtype, interfaces_of, is_object_type}
use Rattle.graphql_documents.specs.declared.documents.schemas.ExtendedType.{ExtendedType}
use Rattle.graphql_documents.specs.declared.documents.schemas.Schema.{Schema}
use Rattle.graphql_specification.specs.CollectFields.{AppliesTo}
use Rattle.graphql_document_building.specs.Trees.{root_name}

-- an object is still one of those of each interface that it lists. Specification: 3.6 Objects
abbrev pub KeepsInterfaces : Schema → NameText → ExtendedType → Type 0
KeepsInterfaces new name before = IsTrue (is_object_type before) → All (λ listed. IsSubtype new listed.name name) (interfaces_of before)

-- what is selected on the type is selected on the root of subscriptions only if it was. Specification: 5.2.3.1 Single Root Field
abbrev pub KeepsSubscriptionRootFrom : Schema → Schema → NameText → Type 0
KeepsSubscriptionRootFrom old new ty =
    (root : NameText) → root_name old operation.Subscription ≡ Some root → AppliesTo new root ty → AppliesTo old root ty
