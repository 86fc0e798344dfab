use Rattle.std.proofs.Common.{rules}
use Rattle.graphql_built.proofs.BuiltLemmas.{enum_stands, input_object_stands, interface_stands, object_stands}
use Rattle.graphql_nodes.specs.Names.{SameName}
use Rattle.graphql_built.proofs.built.names.type_stands_under_its_name.Goals as goal

pub returns-then-eq : goal.returns-then-eq
returns-then-eq c =
    let same : SameName c.args.key.now c.in-Object.definition.value.value.name = search rules in
    object_stands c.args.key.now c.args.definition.now _ c.in-Object.definition _ c.in-Object.is c.deref-then-eq.ensures same
    c.fields_stand_under_own_names.ensures

pub returns-then-eq-2 : goal.returns-then-eq-2
returns-then-eq-2 c =
    let same : SameName c.args.key.now c.in-Interface.definition.value.value.name = search rules in
    interface_stands c.args.key.now c.args.definition.now _ c.in-Interface.definition _ c.in-Interface.is c.deref-then-eq-2.ensures same
    c.fields_stand_under_own_names-then-eq-2.ensures

pub returns-then-eq-3 : goal.returns-then-eq-3
returns-then-eq-3 c =
    let same : SameName c.args.key.now c.in-Enum.definition.value.value.name = search rules in
    enum_stands c.args.key.now c.args.definition.now _ c.in-Enum.definition _ c.in-Enum.is c.deref-then-eq-3.ensures same
    c.values_stand_under_own_names.ensures

pub returns-then-eq-4 : goal.returns-then-eq-4
returns-then-eq-4 c =
    let same : SameName c.args.key.now c.in-InputObject.definition.value.value.name = search rules in
    input_object_stands c.args.key.now c.args.definition.now _ c.in-InputObject.definition _ c.in-InputObject.is c.deref-then-eq-4.ensures same
    c.input_fields_stand_under_own_names.ensures
