use Rattle.std.proofs.Common.{◌≡◌, ◌∙◌, None, Some, ap, sym}
use Rattle.std.specs.Option.{option_copied}
use Rattle.indexmap.specs.IndexMap.{get_by}
use Rattle.graphql_nodes.specs.Names.{same_name}
use Rattle.graphql_schema_checking.specs.Definitions.{name_of, type_named}
use Rattle.graphql_schema_checking.proofs.checks.check_type_extension.Goals as goal

pub returns-in-Some : goal.returns-in-Some
returns-in-Some c = λ types all f among.
    let n = c.type_name.result.now in
    let there : get_by (λ b. same_name n b.now) c.args.first.now ≡ Some c.in-Some.definition.now = sym c.in-Some.ensures.value in
    let defined : type_named types (name_of c.args.extension.now) ≡ Some c.in-Some.definition.now.now =
    ap (type_named types) (sym c.type_name.ensures) ∙ sym (f.look_up n) ∙ ap option_copied there in
    rw defined (c.check_kind.ensures types all defined among)

pub returns-in-None : goal.returns-in-None
returns-in-None c = λ types all f among.
    let n = c.type_name.result.now in
    let there : get_by (λ b. same_name n b.now) c.args.first.now ≡ None = sym c.in-None.ensures.value in
    let undefined : type_named types (name_of c.args.extension.now) ≡ None =
    ap (type_named types) (sym c.type_name.ensures) ∙ sym (f.look_up n) ∙ ap option_copied there in
    rw undefined (c.report_orphan.ensures types all undefined among)
