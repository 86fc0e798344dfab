use Rattle.std.proofs.Common.{◌≡◌, None, Some, find, rules}
use Rattle.graphql_nodes.specs.Names.{same_name}
use Rattle.graphql_schema_checking.specs.Definitions.{name_of, span_of}
use Rattle.graphql_dialects.specs.Adoption.{same_span}
use Rattle.graphql_dialects.specs.declared.adoption.TypePart.{TypePart}
use Rattle.graphql_dialects.proofs.AdoptionLemmas.{has_definition, has_no_extension, sole_part}
use Rattle.graphql_dialects.proofs.adoption.is_adopted.Goals as goal

pub returns-in-None-Some : goal.returns-in-None-Some
returns-in-None-Some c =
    let name = c.type_name-name.result.now in
    let first = c.in-None-Some.first.now in
    let none : find (λ (part : TypePart). same_name (name_of part.definition.now) name) c.args.defined.now ≡ None = search rules in
    let some : find (λ (part : TypePart). same_name (name_of part.definition.now) name) c.args.extended.now ≡ Some first = search rules in
    let same : c.same_span.result ≡ same_span (span_of first.definition.now) (span_of c.args.extension.now) = search rules in
    sole_part c.args.defined.now c.args.extended.now c.args.extension.now name first c.same_span.result c.type_name-name.ensures none some same

pub returns-in_default : goal.returns-in_default
returns-in_default c =
    let name = c.type_name-name.result.now in
    let none : find (λ (part : TypePart). same_name (name_of part.definition.now) name) c.args.extended.now ≡ None = search rules in
    has_no_extension c.args.defined.now c.args.extended.now c.args.extension.now name c.type_name-name.ensures none

pub returns-in_default-2 : goal.returns-in_default-2
returns-in_default-2 c =
    let name = c.type_name-name.result.now in
    let some : find (λ (part : TypePart). same_name (name_of part.definition.now) name) c.args.defined.now ≡ Some c.in_default.field-0-0.now = search rules in
    has_definition c.args.defined.now c.args.extended.now c.args.extension.now name c.type_name-name.ensures c.in_default.field-0-0.now some
