-- Default values, and the operations of a document.
use Rattle.std.proofs.Common.{◌≡◌, ◌↔◌, List, [], ◌∷◌, ◌++◌, Option, None, Some, sym, ◌∙◌, subst}
use Rattle.std.specs.Prelude.{Any, Result, option_to_list}
use Rattle.std.proofs.lemmas.List.Elements.{Contains-append_cases, Contains-append_left, Contains-append_right}
use Rattle.std.proofs.lemmas.Option.{same_Some}
use mathlib.Core.Logic.{inl, inr}
use Rattle.indexmap.specs.IndexMap.{values}
use Rattle.graphql_nodes.specs.declared.nodes.Node.{Node}
use Rattle.graphql_documents.proofs.ListLemmas.{only_one, stands_first}
use Rattle.graphql_documents.specs.Executables.{operations_of}
use Rattle.graphql_documents.specs.declared.documents.executables.ExecutableDocument.{ExecutableDocument}
use Rattle.graphql_documents.specs.declared.documents.executables.Operation.{Operation}
use Rattle.graphql_documents.specs.declared.documents.values.Value.{Value}
use Rattle.graphql_documents.specs.declared.documents.values.Value.TheVariants as literal
use Rattle.graphql_variables.proofs.UseLemmas.{any_has, has_any, none_in_none}
use Rattle.graphql_input_rules.specs.InputFields.{FieldsAreUnique}
use Rattle.graphql_input_rules.specs.Selections.{OperationsWrite}
use Rattle.graphql_input_rules.specs.ValuesWritten.{DefaultWrites, OperationWrites, ValueWritten}
use Rattle.graphql_input_rules.specs.declared.reports.InputFieldRepetition.{InputFieldRepetition}
use Rattle.graphql_input_rules.proofs.PlaceLemmas.{Among, Checked, in_places}

-- a default value has what is in it, and none has nothing
pub default_checked : {T E : Type 0} (r : Result T E) (o : Option (Node Value)) (d : Node Value) (old new : List InputFieldRepetition) → o ≡ Some d →
    Checked r (ValueWritten d.value.value) old new → Checked r (DefaultWrites o) old new
default_checked r o d old new is c =
    in_places r (ValueWritten d.value.value) (DefaultWrites o) old new (λ v w. (d, is, w))
    (λ e (x, some, w). subst (λ (n : Node Value). ValueWritten n.value.value (literal.Object e)) (same_Some x d (sym some ∙ is)) w) c

pub no_default : (o : Option (Node Value)) → o ≡ None → FieldsAreUnique (DefaultWrites o)
no_default o none e (x, some, w) = absurd (let no : ⊥ = cc in no)

abbrev pub InOperation : Node Operation → Value → Type 0
InOperation o v = OperationWrites o.value.value v

-- one operation, and none
pub one_operation : {T E : Type 0} (r : Result T E) (o : Option (Node Operation)) (x : Node Operation) (old new : List InputFieldRepetition) → o ≡ Some x →
    Checked r (InOperation x) old new → Checked r (Among InOperation (option_to_list o)) old new
one_operation r o x old new is c =
    subst (λ o. Checked r (Among InOperation (option_to_list o)) old new) (sym is)
    (in_places r (InOperation x) (Among InOperation (x ∷ [])) old new
    (λ v w. has_any (λ o. InOperation o v) (x ∷ []) x (stands_first x []) w)
    (λ e any.
    let h = any_has (λ o. InOperation o (literal.Object e)) (x ∷ []) any in
    subst (λ o. InOperation o (literal.Object e)) (only_one x h.0 h.1) h.2) c)

pub no_operation : (o : Option (Node Operation)) → o ≡ None → FieldsAreUnique (Among InOperation (option_to_list o))
no_operation o none =
    subst (λ o. FieldsAreUnique (Among InOperation (option_to_list o))) (sym none) (λ e any. absurd (none_in_none (λ o. InOperation o (literal.Object e)) any))

-- the operation without a name and the others are the operations of the document
pub operations_among : (document : ExecutableDocument) (v : Value) → OperationsWrite document.operations v ↔ Among InOperation (operations_of document) v
operations_among document v = (forth, back) where
  first : List (Node Operation)
  first = option_to_list document.operations.anonymous

  named : List (Node Operation)
  named = values document.operations.named

  In : Node Operation → Type 0
  In o = InOperation o v

  forth : OperationsWrite document.operations v → Any In (first ++ named)
  forth (inl any) = let h = any_has In first any in has_any In (first ++ named) h.0 (Contains-append_left first named h.0 h.1) h.2
  forth (inr any) = let h = any_has In named any in has_any In (first ++ named) h.0 (Contains-append_right first named h.0 h.1) h.2

  back : Any In (first ++ named) → OperationsWrite document.operations v
  back any =
      let h = any_has In (first ++ named) any in
      elim (Contains-append_cases first named h.0 h.1) [
        | inl there ↦ inl (has_any In first h.0 there h.2)
        | inr there ↦ inr (has_any In named h.0 there h.2)
      ]
