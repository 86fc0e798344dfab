-- What a name finds among arguments, definitions, variables and entries that are the same is the same.
use Rattle.std.proofs.Common.{◌≡◌, List, Option, None, Some, ap}
use Rattle.std.specs.List.{AllZip}
use Rattle.std.specs.Prelude.{◌&&◌, ℕ, find, not}
use Rattle.std.specs.Str.{bytes_eq}
use Rattle.std.proofs.Common.{ap₂}
use Rattle.graphql_nodes.specs.Names.{NameText, same_name}
use Rattle.graphql_nodes.specs.declared.nodes.Node.{Node}
use Rattle.graphql_documents.specs.Contents.{SameIfAny}
use Rattle.graphql_documents.specs.Definitions.{definition_named, variable_named}
use Rattle.graphql_documents.specs.Directives.{applications_of, argument_named, argument_value}
use Rattle.graphql_documents.specs.Schemas.{is_required}
use Rattle.graphql_documents.specs.Values.{entry_named}
use Rattle.graphql_documents.specs.declared.documents.definitions.InputValueDefinition.{InputValueDefinition}
use Rattle.graphql_documents.specs.declared.documents.definitions.VariableDefinition.{VariableDefinition}
use Rattle.graphql_documents.specs.declared.documents.directives.Argument.{Argument}
use Rattle.graphql_documents.specs.declared.documents.directives.Directive.{Directive}
use Rattle.graphql_documents.specs.declared.documents.values.Value.{Value}
use Rattle.graphql_document_building.specs.SameDocuments.{SameUnderName}
use Rattle.graphql_document_building.specs.SameLeaves.{SameArgument, SameArguments, SameDefault, SameDirective, SameDirectives, SameInputValue, SameInputValues, SameValue, SameVariable}
use Rattle.graphql_sameness_laws.proofs.TypeLemmas.{one_null}
use Rattle.graphql_sameness_laws.proofs.ZipLemmas.{options_mapped, some_alike, zip_filter, zip_find}

pub argument_alike : (name : NameText) (xs ys : List (Node Argument)) → SameArguments xs ys → SameIfAny SameArgument (argument_named name xs) (argument_named name ys)
argument_alike name xs ys same = zip_find SameArgument (λ a. same_name a.value.value.name name) (λ a. same_name a.value.value.name name)
    (λ x y p. ap (λ n. same_name n name) p.name) xs ys same

pub definition_named_alike : (name : NameText) (xs ys : List (Node InputValueDefinition)) → SameInputValues xs ys →
    SameIfAny SameInputValue (definition_named name xs) (definition_named name ys)
definition_named_alike name xs ys same = zip_find SameInputValue (λ d. same_name d.value.value.name name) (λ d. same_name d.value.value.name name)
    (λ x y p. ap (λ n. same_name n name) p.name) xs ys same

pub variable_alike : (name : NameText) (xs ys : List (Node VariableDefinition)) → AllZip SameVariable xs ys →
    SameIfAny SameVariable (variable_named name xs) (variable_named name ys)
variable_alike name xs ys same = zip_find SameVariable (λ v. same_name v.value.value.name name) (λ v. same_name v.value.value.name name)
    (λ x y p. ap (λ n. same_name n name) p.name) xs ys same

pub entry_alike : (name : NameText) (xs ys : List (NameText × Node Value)) → AllZip (SameUnderName SameValue) xs ys →
    SameIfAny SameValue (entry_named name xs) (entry_named name ys)
entry_alike name xs ys same =
    options_mapped (SameUnderName SameValue) SameValue (λ entry. entry.1) (λ x y p. p.1)
    (find (λ entry. same_name entry.0 name) xs) (find (λ entry. same_name entry.0 name) ys)
    (zip_find (SameUnderName SameValue) (λ entry. same_name entry.0 name) (λ entry. same_name entry.0 name) (λ x y p. ap (λ n. same_name n name) p.0) xs ys same)

pub argument_value_alike : (name : List ℕ) (a b : Node Directive) → SameDirective a b →
    SameIfAny SameValue (argument_value name a.value.value) (argument_value name b.value.value)
argument_value_alike name a b same =
    options_mapped SameArgument SameValue (λ x. x.value.value.value) (λ x y p. p.value)
    (find (λ x. bytes_eq x.value.value.name.text name) a.value.value.arguments.items) (find (λ x. bytes_eq x.value.value.name.text name) b.value.value.arguments.items)
    (zip_find SameArgument (λ x. bytes_eq x.value.value.name.text name) (λ x. bytes_eq x.value.value.name.text name)
    (λ x y p. ap (λ (n : NameText). bytes_eq n.text name) p.name) _ _ same.arguments)

pub applications_alike : (name : List ℕ) (xs ys : List (Node Directive)) → SameDirectives xs ys → SameDirectives (applications_of name xs) (applications_of name ys)
applications_alike name xs ys same = zip_filter SameDirective (λ d. bytes_eq d.value.value.name.text name) (λ d. bytes_eq d.value.value.name.text name)
    (λ x y p. ap (λ (n : NameText). bytes_eq n.text name) p.name) xs ys same

pub default_alike : (a b : Option (Node Value)) → SameDefault a b → SameIfAny SameValue a b
default_alike None None p = tt
default_alike None (Some b) p = absurd p
default_alike (Some a) None p = absurd p
default_alike (Some a) (Some b) p = p

pub both_required : (a b : Node InputValueDefinition) → SameInputValue a b → is_required a.value.value ≡ is_required b.value.value
both_required a b same =
    ap₂ ◌&&◌ (one_null a.value.value.ty.value.value b.value.value.ty.value.value same.ty.written)
    (ap not (some_alike SameValue a.value.value.default_value b.value.value.default_value (default_alike _ _ same.default_value)))
