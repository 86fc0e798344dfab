use Rattle.graphql_suggestions.specs.Defined.{argument_names, directive_argument_names}
use Rattle.graphql_helps.proofs.validation.help_of_argument.Goals as goal

pub returns-in_ok-like_argument-in-TypeAttribute : goal.returns-in_ok-like_argument-in-TypeAttribute
returns-in_ok-like_argument-in-TypeAttribute c =
    rw c.in-TypeAttribute.is
    (c.did_you_mean.ensures (argument_names c.args.schema.now c.in-TypeAttribute.field.ty c.in-TypeAttribute.field.attribute) c.args.name.now
    c.in_ok-like_argument-in-TypeAttribute.ensures)

pub returns-in_ok-like_directive_argument-in-Directive : goal.returns-in_ok-like_directive_argument-in-Directive
returns-in_ok-like_directive_argument-in-Directive c =
    rw c.in-Directive.is
    (c.did_you_mean-in-Directive.ensures (directive_argument_names c.args.schema.now c.in-Directive.directive.directive) c.args.name.now
    c.in_ok-like_directive_argument-in-Directive.ensures)
