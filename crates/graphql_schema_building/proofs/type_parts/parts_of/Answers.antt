use Rattle.std.proofs.Common.{◌≡◌, ◌∙◌, List, Option, Vec, None, Some, [], ap, subst, sym}
use Rattle.std.specs.Prelude.{IfOk, filter}
use Rattle.std.specs.Option.{option_map_or}
use Rattle.std.specs.declared.alloc.Global.{Global}
use Rattle.indexmap.specs.IndexMap.{get_by}
use Rattle.graphql_nodes.specs.Names.{NameText, same_name}
use Rattle.graphql_trees.specs.declared.type_system.TypeDefinition.{TypeDefinition}
use Rattle.graphql_schema_checking.specs.Definitions.{name_of}
use Rattle.graphql_schema_building.specs.Parts.{Originated}
use Rattle.graphql_schema_building.specs.TypeParts.{originated}
use Rattle.graphql_schema_building.specs.declared.types.TypePart.{TypePart}
use Rattle.graphql_schema_building.proofs.FoundLemmas.{parts_are}
use Rattle.graphql_schema_building.proofs.type_parts.parts_of.Goals as goal

pub returns-in-Some : goal.returns-in-Some
returns-in-Some c = λ extensions f.
    let d = c.args.definition.now in
    let n = c.type_name.result.now in
    let there : get_by (λ b. same_name n b.now) c.args.found.now ≡ Some c.in-Some.extensions.now = sym c.in-Some.ensures.value in
    let listed = λ (o : Option (Vec TypePart Global)). option_map_or (λ (v : Vec TypePart Global). originated v.items) o [] in
    let named : originated c.deref.result.now ≡ filter (λ e. same_name (name_of d) (name_of e.1)) extensions =
    ap originated c.deref.ensures.value ∙ ap listed (sym there) ∙ f.look_up n ∙
    ap (λ (k : NameText). filter (λ e. same_name k (name_of e.1)) extensions) c.type_name.ensures in
    subst (λ (l : List (Originated TypeDefinition)). IfOk c.parts_with.result (λ parts. originated parts.items ≡ l)) (parts_are extensions d _ named) c.parts_with.ensures

pub returns-in-None : goal.returns-in-None
returns-in-None c = λ extensions f.
    let d = c.args.definition.now in
    let n = c.type_name.result.now in
    let there : get_by (λ b. same_name n b.now) c.args.found.now ≡ None = sym c.in-None.ensures.value in
    let listed = λ (o : Option (Vec TypePart Global)). option_map_or (λ (v : Vec TypePart Global). originated v.items) o [] in
    let named : [] ≡ filter (λ e. same_name (name_of d) (name_of e.1)) extensions =
    ap listed (sym there) ∙ f.look_up n ∙
    ap (λ (k : NameText). filter (λ e. same_name k (name_of e.1)) extensions) c.type_name.ensures in
    subst (λ (l : List (Originated TypeDefinition)). IfOk c.parts_with-in-None.result (λ parts. originated parts.items ≡ l)) (parts_are extensions d [] named) c.parts_with-in-None.ensures
