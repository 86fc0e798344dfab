use Rattle.graphql_suggestions.specs.Defined.{type_names}
use Rattle.graphql_helps.proofs.building.help_of_building.Goals as goal

pub returns-in_ok-like_type-in-UndefinedTypeInNamedFragmentTypeCondition : goal.returns-in_ok-like_type-in-UndefinedTypeInNamedFragmentTypeCondition
returns-in_ok-like_type-in-UndefinedTypeInNamedFragmentTypeCondition c =
    rw c.in-UndefinedTypeInNamedFragmentTypeCondition.is
    (c.did_you_mean.ensures (type_names c.args.schema.now) c.in-UndefinedTypeInNamedFragmentTypeCondition.type_name
    c.in_ok-like_type-in-UndefinedTypeInNamedFragmentTypeCondition.ensures)

pub returns-in_ok-like_type-in-UndefinedTypeInInlineFragmentTypeCondition : goal.returns-in_ok-like_type-in-UndefinedTypeInInlineFragmentTypeCondition
returns-in_ok-like_type-in-UndefinedTypeInInlineFragmentTypeCondition c =
    rw c.in-UndefinedTypeInInlineFragmentTypeCondition.is
    (c.did_you_mean-in-UndefinedTypeInInlineFragmentTypeCondition.ensures (type_names c.args.schema.now) c.in-UndefinedTypeInInlineFragmentTypeCondition.type_name
    c.in_ok-like_type-in-UndefinedTypeInInlineFragmentTypeCondition.ensures)
