use Rattle.std.proofs.Common.{◌≡◌, All, Some, rules, subst, subst₂, sym, true}
use Rattle.graphql_documents.specs.Schemas.{type_definition, is_composite}
use Rattle.graphql_documents.specs.declared.documents.schemas.ExtendedType.{ExtendedType}
use Rattle.graphql_documents.specs.declared.documents.schemas.ExtendedType.TheVariants.{Enum, InputObject}
use Rattle.graphql_documents.specs.declared.documents.schemas.EnumType.{EnumType}
use Rattle.graphql_documents.specs.declared.documents.schemas.InputObjectType.{InputObjectType}
use Rattle.graphql_schema_changes.specs.Keeps.{KeepsInputFields}
use Rattle.graphql_input_comparison.specs.Inputs.{KeepsEnumValue}
use Rattle.graphql_schema_comparison.specs.Comparisons.{KeepsContents}
use Rattle.graphql_input_comparison.specs.Owners.{HasInputFields}
use Rattle.graphql_change_kinds.proofs.FindsLemmas.{found_words}
use Rattle.graphql_input_comparison.proofs.InputLemmas.{input_fields}
use Rattle.graphql_schema_comparison.proofs.KindLemmas.{contents_of_composite}
use Rattle.graphql_schema_comparison.proofs.types.compare_contents.Goals as goal

pub compare_enums-requires-clause-was : goal.compare_enums-requires-clause-was
compare_enums-requires-clause-was c =
    let is : type_definition c.args.pair.old.now c.args.name.now ≡ Some (Enum c.in-Enum-Enum.old) = search rules in
    (c.in-Enum-Enum.old, is, sym c.deref.ensures)

pub compare_enums-requires-clause-is : goal.compare_enums-requires-clause-is
compare_enums-requires-clause-is c =
    let is : type_definition c.args.pair.new.now c.args.name.now ≡ Some (Enum c.in-Enum-Enum.new) = search rules in
    (c.in-Enum-Enum.new, is, sym c.deref-in-Enum-Enum.ensures)

pub compare_input_objects-requires-clause-was : goal.compare_input_objects-requires-clause-was
compare_input_objects-requires-clause-was c =
    let is : type_definition c.args.pair.old.now c.args.name.now ≡ Some (InputObject c.in-InputObject-InputObject.old) = search rules in
    subst (λ (d : InputObjectType). HasInputFields c.args.pair.old.now c.args.name.now d) (sym c.deref-in-InputObject-InputObject.ensures)
    (input_fields c.args.pair.old.now c.args.name.now c.in-InputObject-InputObject.old is)

pub compare_input_objects-requires-clause-is : goal.compare_input_objects-requires-clause-is
compare_input_objects-requires-clause-is c =
    let is : type_definition c.args.pair.new.now c.args.name.now ≡ Some (InputObject c.in-InputObject-InputObject.new) = search rules in
    subst (λ (d : InputObjectType). HasInputFields c.args.pair.new.now c.args.name.now d) (sym c.deref-in-InputObject-InputObject-2.ensures)
    (input_fields c.args.pair.new.now c.args.name.now c.in-InputObject-InputObject.new is)

pub returns-in_ok-compare_enums-in-Enum-Enum : goal.returns-in_ok-compare_enums-in-Enum-Enum
returns-in_ok-compare_enums-in-Enum-Enum c =
    let was : c.args.old.now ≡ Enum c.in-Enum-Enum.old = search rules in
    let is : c.args.new.now ≡ Enum c.in-Enum-Enum.new = search rules in
    found_words (λ merging all. subst₂ (λ (a b : ExtendedType). KeepsContents c.args.meetings.now.by_shape c.args.pair.old.now c.args.pair.new.now merging c.args.name.now a b) (sym was) (sym is)
    (subst₂ (λ (d e : EnumType). All (λ entry. KeepsEnumValue e entry.0) d.values.entries) c.deref.ensures c.deref-in-Enum-Enum.ensures all))
    c.in_ok-compare_enums-in-Enum-Enum.ensures

pub returns-in_ok-compare_input_objects-in-InputObject-InputObject : goal.returns-in_ok-compare_input_objects-in-InputObject-InputObject
returns-in_ok-compare_input_objects-in-InputObject-InputObject c =
    let was : c.args.old.now ≡ InputObject c.in-InputObject-InputObject.old = search rules in
    let is : c.args.new.now ≡ InputObject c.in-InputObject-InputObject.new = search rules in
    found_words (λ merging all. subst₂ (λ (a b : ExtendedType). KeepsContents c.args.meetings.now.by_shape c.args.pair.old.now c.args.pair.new.now merging c.args.name.now a b) (sym was) (sym is)
    (subst₂ KeepsInputFields c.deref-in-InputObject-InputObject.ensures c.deref-in-InputObject-InputObject-2.ensures all))
    c.in_ok-compare_input_objects-in-InputObject-InputObject.ensures

pub returns-in_ok-compare_composites-in_default : goal.returns-in_ok-compare_composites-in_default
returns-in_ok-compare_composites-in_default c =
    let is : is_composite c.args.old.now ≡ true = search rules in
    found_words (λ merging place. contents_of_composite c.args.meetings.now.by_shape c.args.pair.old.now c.args.pair.new.now merging c.args.name.now c.args.old.now c.args.new.now is place)
    c.in_ok-compare_composites-in_default.ensures
