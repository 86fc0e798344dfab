use Rattle.graphql_suggestions.specs.Defined.{directive_names, enum_value_names, input_field_names, type_names}
use Rattle.graphql_helps.proofs.validation.help_of_diagnostic.Goals as goal

pub returns-in_ok-like_type-in-UndefinedDefinition : goal.returns-in_ok-like_type-in-UndefinedDefinition
returns-in_ok-like_type-in-UndefinedDefinition c =
    rw c.in-UndefinedDefinition.is
    (c.did_you_mean.ensures (type_names c.args.schema.now) c.in-UndefinedDefinition.name
    c.in_ok-like_type-in-UndefinedDefinition.ensures)

pub returns-in_ok-like_directive-in-UndefinedDirective : goal.returns-in_ok-like_directive-in-UndefinedDirective
returns-in_ok-like_directive-in-UndefinedDirective c =
    rw c.in-UndefinedDirective.is
    (c.did_you_mean-in-UndefinedDirective.ensures (directive_names c.args.schema.now) c.in-UndefinedDirective.name
    c.in_ok-like_directive-in-UndefinedDirective.ensures)

pub returns-in_ok-like_enum_value-in-UndefinedEnumValue : goal.returns-in_ok-like_enum_value-in-UndefinedEnumValue
returns-in_ok-like_enum_value-in-UndefinedEnumValue c =
    rw c.in-UndefinedEnumValue.is
    (c.did_you_mean-in-UndefinedEnumValue.ensures (enum_value_names c.args.schema.now c.in-UndefinedEnumValue.definition) c.in-UndefinedEnumValue.value
    c.in_ok-like_enum_value-in-UndefinedEnumValue.ensures)

pub returns-in_ok-like_input_field-in-UndefinedInputValue : goal.returns-in_ok-like_input_field-in-UndefinedInputValue
returns-in_ok-like_input_field-in-UndefinedInputValue c =
    rw c.in-UndefinedInputValue.is
    (c.did_you_mean-in-UndefinedInputValue.ensures (input_field_names c.args.schema.now c.in-UndefinedInputValue.definition) c.in-UndefinedInputValue.value
    c.in_ok-like_input_field-in-UndefinedInputValue.ensures)
