use Rattle.std.proofs.Common.{ap, sym, ◌∙◌}
use Rattle.std.specs.Borrow.{Bor}
use Rattle.graphql_nodes.specs.Names.{NameText, stands_on}
use Rattle.graphql_documents.specs.declared.documents.components.ComponentName.{ComponentName}
use Rattle.graphql_operations.specs.PossibleTypes.{object_names}
use Rattle.graphql_operations.proofs.PossibleTypeLemmas.{any_named}
use Rattle.graphql_operations.proofs.possible_types.ObjectNames.contains.Goals as goal

pub returns-in-Implementers : goal.returns-in-Implementers
returns-in-Implementers c =
    c.contains.ensures ∙ sym (any_named (λ (b : Bor NameText). b.now) c.in-Implementers.names.now.keys c.args.name.now) ∙
    ap (λ o. stands_on (object_names o) c.args.name.now) (sym c.in-Implementers.is)

pub returns-in-Members : goal.returns-in-Members
returns-in-Members c =
    c.contains-in-Members.ensures ∙ sym (any_named (λ (m : ComponentName). m.name) c.in-Members.members.now.keys c.args.name.now) ∙
    ap (λ o. stands_on (object_names o) c.args.name.now) (sym c.in-Members.is)
