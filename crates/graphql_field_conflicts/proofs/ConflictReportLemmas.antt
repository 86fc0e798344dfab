-- What a diagnostic of two fields says.
use Rattle.std.proofs.Common.{◌≡◌, List, [], ◌∷◌, ◌++◌, Option, Some, None, refl, subst, sym}
use Rattle.std.specs.Prelude.{Result, Ok, Err, IsNone, IsSomeAnd, MatchResult, OnErr, OnOk}
use Rattle.graphql_nodes.proofs.NameLemmas.{same_name_itself}
use Rattle.graphql_documents.specs.Directives.{argument_named}
use Rattle.graphql_specification.specs.Merging.{Pass, FieldSelection, IsArgumentValue}
use Rattle.graphql_specification.specs.MergedSets.{ConflictReport}
use Rattle.graphql_nodes.specs.Names.{NameText, SameName}
use Rattle.graphql_nodes.specs.Nodes.{SameNode}
use Rattle.graphql_nodes.specs.declared.nodes.Node.{Node}
use Rattle.graphql_diagnostics.specs.declared.lists.DiagnosticEntry.{DiagnosticEntry}
use Rattle.graphql_documents.specs.declared.documents.directives.Argument.{Argument}
use Rattle.graphql_documents.specs.declared.documents.executables.Field.{Field}
use Rattle.graphql_documents.specs.declared.documents.schemas.Schema.{Schema}
use Rattle.graphql_documents.specs.declared.documents.values.Value.{Value}
use Rattle.graphql_field_conflicts.specs.Conflicts.{IsValueOf}

-- a diagnostic was pushed that says so
pub conflict_pushed : {T E : Type 0} (r : Result T E) (schema : Schema) (pass : Pass) (x y : FieldSelection) (old new : List DiagnosticEntry) (e : DiagnosticEntry) →
    OnOk r (new ≡ old ++ e ∷ []) → OnErr r (new ≡ old) → ConflictReport schema pass x y e.details e.location →
    MatchResult r
    (λ _. (entry : DiagnosticEntry) × (new ≡ old ++ entry ∷ []) × ConflictReport schema pass x y entry.details entry.location)
    (λ _. new ≡ old)
conflict_pushed (Ok v) schema pass x y old new e ok err says = (e, ok, says)
conflict_pushed (Err v) schema pass x y old new e ok err says = err

-- a copy has the name
pub copied_name : (copy name : NameText) → copy ≡ name → SameName copy name
copied_name copy name same = subst (SameName copy) same (same_name_itself copy)

-- what a field has for an argument, where it is known which of its arguments that is
pub value_given : (name : NameText) (f : Field) (given : Option (Node Argument)) (value : Option (Node Value)) →
    argument_named name f.arguments.items ≡ given → IsValueOf given value → IsArgumentValue name f value
value_given name f (Some x) (Some value) is same = subst (λ (o : Option (Node Argument)). IsSomeAnd o (λ a. SameNode a.value.value.value value)) (sym is) same
value_given name f None None is same = subst (λ (o : Option (Node Argument)). IsNone o) (sym is) refl
value_given name f (Some x) None is same = absurd same
value_given name f None (Some value) is same = absurd same
