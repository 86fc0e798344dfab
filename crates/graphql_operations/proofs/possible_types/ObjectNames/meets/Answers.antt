use Rattle.std.proofs.Common.{List, ap, sym, ◌∙◌}
use Rattle.std.specs.Borrow.{Bor}
use Rattle.std.specs.List.{list_any}
use Rattle.graphql_nodes.specs.Names.{NameText, stands_on}
use Rattle.graphql_documents.specs.declared.documents.components.ComponentName.{ComponentName}
use Rattle.graphql_operations.specs.PossibleTypes.{object_names}
use Rattle.graphql_operations.proofs.PossibleTypeLemmas.{any_tested}
use Rattle.graphql_operations.proofs.possible_types.ObjectNames.meets.Goals as goal

pub returns-in-Implementers : goal.returns-in-Implementers
returns-in-Implementers c =
    let test = stands_on (object_names c.args.others.now) in
    c.contains_any.ensures ∙ ap (λ (keys : List (Bor NameText)). list_any (λ name. test name.now) keys) c.as_slice.ensures.keys ∙
    sym (any_tested (λ (name : Bor NameText). name.now) test c.in-Implementers.names.now.keys) ∙
    ap (λ o. list_any test (object_names o)) (sym c.in-Implementers.is)

pub returns-in-Members : goal.returns-in-Members
returns-in-Members c =
    let test = stands_on (object_names c.args.others.now) in
    c.contains_member.ensures ∙ ap (λ (keys : List ComponentName). list_any (λ member. test member.name) keys) c.as_slice-in-Members.ensures.keys ∙
    sym (any_tested (λ (member : ComponentName). member.name) test c.in-Members.members.now.keys) ∙
    ap (λ o. list_any test (object_names o)) (sym c.in-Members.is)
