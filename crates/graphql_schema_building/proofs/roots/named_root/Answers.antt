use Rattle.std.proofs.Common.{◌≡◌, ◌∙◌, ◌∷◌, [], List, None, Some, ap, sym}
use Rattle.std.specs.Option.{option_map}
use Rattle.std.proofs.lemmas.List.{take_all}
use Rattle.graphql_nodes.specs.Names.{NameText}
use Rattle.graphql_trees.specs.declared.type_system.SchemaDefinition.{SchemaDefinition}
use Rattle.graphql_schema_checking.specs.SchemaBuilds.{roots_of_kind}
use Rattle.graphql_schema_building.specs.Numbered.{schema_originated}
use Rattle.graphql_schema_building.specs.Parts.{Originated, listed_by}
use Rattle.graphql_schema_building.specs.SchemaSays.{first_of_list}
use Rattle.graphql_schema_building.specs.declared.numbered.SchemaPart.{SchemaPart}
use Rattle.graphql_schema_building.proofs.RootLemmas.{as_said, first_here, first_later, first_mapped, listed_then, one_listed}
use Rattle.graphql_schema_building.proofs.roots.named_root.Goals as goal

pub returns-in-Some : goal.returns-in-Some
returns-in-Some c =
    let operation = c.args.operation_type in
    let items = λ (part : SchemaDefinition). roots_of_kind operation part.root_operations in
    let listing = λ (parts : List SchemaPart). listed_by items (schema_originated parts) in
    let x = c.part-item.result in
    let n = c.in-Some.name.now in
    let some : first_of_list (items x.definition.now) ≡ Some n =
    ap (λ l. first_of_list (roots_of_kind operation l)) (sym c.as_slice-roots.ensures) ∙ sym c.in-Some.ensures in
    let here : first_of_list (listing (x ∷ [])) ≡ Some (x.origin, n) =
    one_listed items x ∙ ap (option_map (λ name. let o : Originated NameText = (x.origin, name) in o)) some in
    sym (first_mapped as_said (listing c.args.parts.now) ∙ ap (option_map as_said)
    (first_here listing (listed_then items) c.args.parts.now c.loop-part.part-index x c.loop-part-test.true c.part-item.is (x.origin, n) c.loop-part.invariant here))

pub loop-part-preserved : goal.loop-part-preserved
loop-part-preserved c =
    let operation = c.args.operation_type in
    let items = λ (part : SchemaDefinition). roots_of_kind operation part.root_operations in
    let listing = λ (parts : List SchemaPart). listed_by items (schema_originated parts) in
    let x = c.part-item.result in
    let none : first_of_list (items x.definition.now) ≡ None =
    ap (λ l. first_of_list (roots_of_kind operation l)) (sym c.as_slice-roots.ensures) ∙ sym c.in_default.ensures in
    let here : first_of_list (listing (x ∷ [])) ≡ None =
    one_listed items x ∙ ap (option_map (λ name. let o : Originated NameText = (x.origin, name) in o)) none in
    first_later listing (listed_then items) c.args.parts.now c.loop-part.part-index x c.loop-part-test.true c.part-item.is c.loop-part.invariant here

pub returns : goal.returns
returns c =
    let operation = c.args.operation_type in
    let items = λ (part : SchemaDefinition). roots_of_kind operation part.root_operations in
    let listing = λ (parts : List SchemaPart). listed_by items (schema_originated parts) in
    sym (first_mapped as_said (listing c.args.parts.now) ∙ ap (option_map as_said)
    (ap (λ l. first_of_list (listing l)) (sym (take_all c.loop-part.part-index c.args.parts.now c.loop-part-test.false)) ∙ c.loop-part.invariant))
