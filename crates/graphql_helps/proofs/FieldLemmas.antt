-- A field that may have been meant helps with a field.
use Rattle.std.proofs.Common.{Option, None, Some, IfSome}
use Rattle.graphql_documents.specs.declared.documents.schemas.Schema.{Schema}
use Rattle.graphql_helps.specs.Helps.{IsDidYouMean, IsFieldHelp}
use Rattle.graphql_helps.specs.declared.helps.Help.{Help}
use Rattle.graphql_helps.specs.declared.helps.Help.TheVariants as help
use Rattle.graphql_nodes.specs.Names.{NameText}
use Rattle.graphql_suggestions.specs.Defined.{field_names}

field_help : (schema : Schema) (ty field : NameText) (h : Help) → IsDidYouMean (field_names schema ty) field h → IsFieldHelp schema ty field h
field_help schema ty field (help.DidYouMean found) is = is
field_help schema ty field (help.OnTypes f types) is = absurd is
field_help schema ty field (help.Select f t) is = is
field_help schema ty field (help.Locations locations) is = is
field_help schema ty field help.LeaveOut is = is

pub field_helps : (schema : Schema) (ty field : NameText) (h : Option Help) → IfSome h (IsDidYouMean (field_names schema ty) field) →
    IfSome h (IsFieldHelp schema ty field)
field_helps schema ty field None is = is
field_helps schema ty field (Some h) is = field_help schema ty field h is
