use Rattle.std.proofs.Common.{◌≡◌, ◌∙◌, Bor, Option, Vec, None, Some, [], ap, sym}
use Rattle.std.specs.Prelude.{filter}
use Rattle.std.specs.Option.{option_map_or}
use Rattle.std.specs.declared.alloc.Global.{Global}
use Rattle.indexmap.specs.IndexMap.{get_by}
use Rattle.graphql_nodes.specs.Names.{NameText, same_name}
use Rattle.graphql_trees.specs.declared.type_system.TypeDefinition.{TypeDefinition}
use Rattle.graphql_schema_checking.specs.Definitions.{name_of, type_extensions}
use Rattle.graphql_repetitions.specs.References.{nows}
use Rattle.graphql_schema_checking.proofs.checks.check_type.Goals as goal

pub returns-in-Some : goal.returns-in-Some
returns-in-Some c = λ definitions f.
    let n = c.type_name.result.now in
    let there : get_by (λ b. same_name n b.now) c.args.found.now ≡ Some c.in-Some.extensions.now = sym c.in-Some.ensures.value in
    let listed = λ (o : Option (Vec (Bor TypeDefinition) Global)). option_map_or (λ (v : Vec (Bor TypeDefinition) Global). nows v.items) o [] in
    c.check_parts.ensures definitions
    (ap nows c.deref.ensures.value ∙ ap listed (sym there) ∙ f.look_up n ∙
    ap (λ (k : NameText). filter (λ e. same_name k (name_of e)) (type_extensions definitions)) c.type_name.ensures)

pub returns-in-None : goal.returns-in-None
returns-in-None c = λ definitions f.
    let n = c.type_name.result.now in
    let there : get_by (λ b. same_name n b.now) c.args.found.now ≡ None = sym c.in-None.ensures.value in
    let listed = λ (o : Option (Vec (Bor TypeDefinition) Global)). option_map_or (λ (v : Vec (Bor TypeDefinition) Global). nows v.items) o [] in
    c.check_parts-in-None.ensures definitions
    (ap listed (sym there) ∙ f.look_up n ∙
    ap (λ (k : NameText). filter (λ e. same_name k (name_of e)) (type_extensions definitions)) c.type_name.ensures)
