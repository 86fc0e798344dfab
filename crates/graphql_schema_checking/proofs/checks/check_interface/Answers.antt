use Rattle.std.proofs.Common.{◌≡◌, ◌∙◌, None, Some, ap, sym}
use Rattle.std.specs.Option.{option_copied}
use Rattle.indexmap.specs.IndexMap.{get_by}
use Rattle.graphql_nodes.specs.Names.{same_name}
use Rattle.graphql_diagnostics.proofs.ReportLemmas.{holds}
use Rattle.graphql_schema_checking.specs.Definitions.{type_named}
use Rattle.graphql_schema_checking.proofs.checks.check_interface.Goals as goal

pub returns-in-Some : goal.returns-in-Some
returns-in-Some c = λ types all f among.
    let n = c.args.name.now in
    let there : get_by (λ b. same_name n b.now) c.args.first.now ≡ Some c.in-Some.definition.now = sym c.in-Some.ensures.value in
    let defined : type_named types n ≡ Some c.in-Some.definition.now.now = sym (f.look_up n) ∙ ap option_copied there in
    rw defined (c.check_is_interface.ensures types all defined among)

pub returns-in-None : goal.returns-in-None
returns-in-None c = λ types all f among.
    let n = c.args.name.now in
    let there : get_by (λ b. same_name n b.now) c.args.first.now ≡ None = sym c.in-None.ensures.value in
    let undefined : type_named types n ≡ None = sym (f.look_up n) ∙ ap option_copied there in
    rw undefined (holds _ _ _ tt)
