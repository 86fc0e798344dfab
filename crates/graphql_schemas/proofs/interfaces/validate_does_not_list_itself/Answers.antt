use Rattle.std.proofs.Common.{◌≡◌, true, false, rules}
use Rattle.std.specs.List.{list_any}
use Rattle.std.specs.Prelude.{find, Some}
use Rattle.graphql_nodes.specs.Names.{same_name}
use Rattle.graphql_specification.specs.Types.{interface_lists_itself}
use Rattle.graphql_documents.specs.declared.documents.components.ComponentName.{ComponentName}
use Rattle.graphql_nodes.proofs.NameLemmas.{same_name_back}
use Rattle.graphql_diagnostics.proofs.ReportLemmas.{checks-push, holds}
use Rattle.graphql_documents.proofs.SubtypeLemmas.{listed_asked}
use Rattle.graphql_variables.proofs.FirstPlaceLemmas.{found_at}
use Rattle.graphql_schemas.proofs.TypeLemmas.{not_listed}
use Rattle.graphql_schemas.proofs.interfaces.validate_does_not_list_itself.Goals as goal

pub returns-in_default : goal.returns-in_default
returns-in_default c = λ schema.
    let d = c.args.interface.now.value.value in
    let none : list_any (λ (n : ComponentName). same_name d.name n.name) d.implements_interfaces.keys ≡ false = search rules in
    holds _ _ _ (not_listed d.implements_interfaces.keys d.name none)

pub returns : goal.returns
returns c = λ schema.
    let d = c.args.interface.now.value.value in
    let keys = d.implements_interfaces.keys in
    let listed = c.in-Some.listed.now in
    let found : find (λ (n : ComponentName). same_name d.name n.name) keys ≡ Some listed = search rules in
    let at = found_at (λ (n : ComponentName). same_name d.name n.name) keys listed found in
    let asked : list_any (λ (n : ComponentName). same_name d.name n.name) keys ≡ true = search rules in
    let named : c.in_ok-name.name ≡ listed.name = search rules in
    checks-push _ _ _ _ _ _ c.push.ensures.ok c.push.ensures.err (λ holds. holds ((listed_asked keys d.name).0 asked))
    (rw named (interface_lists_itself {d = c.args.interface.now} {listed = listed} {at = c.location.result} (at.0, at.1, at.2 listed) (same_name_back d.name listed.name at.3) (search rules)))
