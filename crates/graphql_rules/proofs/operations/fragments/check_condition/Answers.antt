use Rattle.std.proofs.Common.{◌≡◌, ◌<◌, ◌≤◌, length, Some, ap}
use Rattle.std.specs.Option.{option_copied}
use Rattle.graphql_diagnostics.specs.Diagnostics.{entries}
use Rattle.graphql_diagnostics.proofs.ReportLemmas.{both, checks-err, holds, in_words, kept_by, kept_then, kept_wider, wider}
use Rattle.graphql_operations.specs.Contexts.{parent_of, schema_of}
use Rattle.graphql_rules.proofs.FieldLemmas.{parent_against, schema_against}
use Rattle.graphql_rules.proofs.FragmentLemmas.{condition_broken, condition_decides, condition_decides_alone, condition_unasked, names_impossible, names_target, not_silent, silent_rule, target_decides, target_unasked}
use Rattle.graphql_rules.proofs.operations.fragments.check_condition.Goals as goal

pub returns-in_default-clause-checks : goal.returns-in_default-clause-checks
returns-in_default-clause-checks c =
    holds _ _ _ (condition_unasked (schema_of c.args.context.now) (parent_of c.args.against_type) c.args.condition.now (ap option_copied c.in_default.is))

pub returns-in_err-validate_fragment_type_condition-clause-checks :
    goal.returns-in_err-validate_fragment_type_condition-clause-checks
returns-in_err-validate_fragment_type_condition-clause-checks c =
    let schema = schema_of c.args.context.now in
    let has : schema ≡ Some c.in-Some.schema.now = ap option_copied c.in-Some.is in
    checks-err _ _ _ _ _ c.from_residual.ensures.0
    (kept_wider
    (names_target schema (parent_of c.args.against_type) c.args.inline.now c.args.condition.now c.in-Some.schema.now has c.requires.condition)
    c.in_err-validate_fragment_type_condition.ensures)

pub returns-then-len-before-clause-checks : goal.returns-then-len-before-clause-checks
returns-then-len-before-clause-checks c =
    let schema = schema_of c.args.context.now in
    let parent = parent_of c.args.against_type in
    let has : schema ≡ Some c.in-Some.schema.now = ap option_copied c.in-Some.is in
    let longer : length (entries c.args.diagnostics.now) < length (entries c.validate_fragment_type_condition.new.diagnostics) =
    rw (c.len-before.ensures, c.len.ensures) at c.if-len-before.true in
    in_words
    (condition_broken schema parent c.args.inline.now c.args.condition.now c.in-Some.schema.now has c.requires.condition
    (not_silent c.in_ok-validate_fragment_type_condition.ensures longer))
    (wider (names_target schema parent c.args.inline.now c.args.condition.now c.in-Some.schema.now has c.requires.condition)
    c.in_ok-validate_fragment_type_condition.ensures)

pub returns-in_err-validate_fragment_spread_type-clause-checks :
    goal.returns-in_err-validate_fragment_spread_type-clause-checks
returns-in_err-validate_fragment_spread_type-clause-checks c =
    let schema = schema_of c.args.context.now in
    let parent = parent_of c.args.against_type in
    let i = c.args.inline.now in
    let condition = c.args.condition.now in
    let has : schema ≡ Some c.in-Some.schema.now = ap option_copied c.in-Some.is in
    let around = c.in-Some-against_type in
    let against = schema_against schema c.args.against_type around.schema around.parent c.requires.against around.is in
    let is = parent_against schema c.args.against_type around.schema around.parent c.requires.against around.is in
    checks-err _ _ _ _ _ c.from_residual-in_err-validate_fragment_spread_type.ensures.0
    (kept_then
    (kept_by (wider (names_target schema parent i condition c.in-Some.schema.now has c.requires.condition) c.in_ok-validate_fragment_type_condition.ensures))
    (kept_wider (names_impossible schema parent i condition around.schema.now against c.requires.condition around.parent.now is)
    c.in_err-validate_fragment_spread_type.ensures.checks))

pub returns-in_ok-validate_fragment_spread_type-clause-checks :
    goal.returns-in_ok-validate_fragment_spread_type-clause-checks
returns-in_ok-validate_fragment_spread_type-clause-checks c =
    let schema = schema_of c.args.context.now in
    let parent = parent_of c.args.against_type in
    let i = c.args.inline.now in
    let condition = c.args.condition.now in
    let has : schema ≡ Some c.in-Some.schema.now = ap option_copied c.in-Some.is in
    let around = c.in-Some-against_type in
    let against = schema_against schema c.args.against_type around.schema around.parent c.requires.against around.is in
    let is = parent_against schema c.args.against_type around.schema around.parent c.requires.against around.is in
    in_words (condition_decides schema parent i condition c.in-Some.schema.now has c.requires.condition around.parent.now is around.schema.now against)
    (both
    (wider (names_target schema parent i condition c.in-Some.schema.now has c.requires.condition) c.in_ok-validate_fragment_type_condition.ensures)
    (wider (names_impossible schema parent i condition around.schema.now against c.requires.condition around.parent.now is)
    c.in_ok-validate_fragment_spread_type.ensures.checks))

pub returns-in_default-against_type-clause-checks :
    goal.returns-in_default-against_type-clause-checks
returns-in_default-against_type-clause-checks c =
    let schema = schema_of c.args.context.now in
    let parent = parent_of c.args.against_type in
    let i = c.args.inline.now in
    let condition = c.args.condition.now in
    let has : schema ≡ Some c.in-Some.schema.now = ap option_copied c.in-Some.is in
    in_words (condition_decides_alone schema parent i condition c.in-Some.schema.now has c.requires.condition (ap parent_of c.in_default-against_type.is))
    (wider (names_target schema parent i condition c.in-Some.schema.now has c.requires.condition) c.in_ok-validate_fragment_type_condition.ensures)

pub returns-in_default-clause-goes_on : goal.returns-in_default-clause-goes_on
returns-in_default-clause-goes_on c = λ yes. target_unasked (schema_of c.args.context.now) c.args.condition.now (ap option_copied c.in_default.is)

pub returns-in_ok-validate_fragment_spread_type-clause-goes_on :
    goal.returns-in_ok-validate_fragment_spread_type-clause-goes_on
returns-in_ok-validate_fragment_spread_type-clause-goes_on c = λ yes.
    let schema = schema_of c.args.context.now in
    let has : schema ≡ Some c.in-Some.schema.now = ap option_copied c.in-Some.is in
    let short : length (entries c.validate_fragment_type_condition.new.diagnostics) ≤ length (entries c.args.diagnostics.now) =
    rw (c.len-before.ensures, c.len.ensures) at c.if-len-before.false in
    (target_decides schema c.args.condition.now c.in-Some.schema.now has).0 (silent_rule c.in_ok-validate_fragment_type_condition.ensures short)

pub returns-in_default-against_type-clause-goes_on : goal.returns-in_default-against_type-clause-goes_on
returns-in_default-against_type-clause-goes_on c = λ yes.
    let schema = schema_of c.args.context.now in
    let has : schema ≡ Some c.in-Some.schema.now = ap option_copied c.in-Some.is in
    let short : length (entries c.validate_fragment_type_condition.new.diagnostics) ≤ length (entries c.args.diagnostics.now) =
    rw (c.len-before.ensures, c.len.ensures) at c.if-len-before.false in
    (target_decides schema c.args.condition.now c.in-Some.schema.now has).0 (silent_rule c.in_ok-validate_fragment_type_condition.ensures short)
