use Rattle.std.proofs.Common.{◌≡◌, List, [], ◌∷◌, Some, ap, map, subst, sym}
use Rattle.std.specs.Prelude.{Option, ◌++◌, option_to_list, slice_get}
use Rattle.std.proofs.lemmas.Option.{same_Some}
use Rattle.graphql_documents.specs.declared.documents.executables.Operation.{Operation}
use Rattle.graphql_nodes.specs.Names.{NameText}
use Rattle.graphql_nodes.specs.declared.nodes.Node.{Node}
use Rattle.graphql_frontend.specs.Work.{first_location}
use Rattle.graphql_frontend.proofs.document_rules.location_of_first.Goals as goal

-- the first of the operations under names
first_named : (entries : List (NameText × Node Operation)) (name : NameText) (operation : Node Operation) →
    Some (name, operation) ≡ slice_get entries 0 → operation.location ≡ first_location (map (λ e. e.1) entries)
first_named [] name operation is = absurd (let no : ⊥ = cc in no)
first_named (entry ∷ entries) name operation is = ap (λ (e : NameText × Node Operation). e.1.location) (same_Some (name, operation) entry is)

pub returns-in-Some-first : goal.returns-in-Some-first
returns-in-Some-first c =
    let named = c.args.document.now.operations.named.entries in
    let found = first_named named c.in-Some-first.field-0-0.now c.in-Some-first.operation.now c.in-Some-first.ensures.entry in
    subst (λ (o : Option (Node Operation)). c.in-Some-first.operation.now.location ≡ first_location (option_to_list o ++ map (λ e. e.1) named)) (sym c.in_default.is) found
