-- The object values in a value, kind by kind.
use Rattle.std.proofs.Common.{◌≡◌, List, refl, sym, ap, ◌∙◌, subst, Contains, Vec}
use Rattle.std.specs.Prelude.{Any, Result, ◌⊎◌}
use Rattle.std.specs.declared.alloc.Global.{Global}
use mathlib.Core.Logic.{inl, inr}
use Rattle.graphql_nodes.specs.Names.{AreDistinct, NameText}
use Rattle.graphql_nodes.specs.declared.nodes.Node.{Node}
use Rattle.graphql_documents.specs.declared.documents.values.Value.{Value, out-Value}
use Rattle.graphql_documents.specs.declared.documents.values.Value.TheOpen as Open
use Rattle.graphql_documents.specs.declared.documents.values.Value.TheVariants as literal
use Rattle.graphql_diagnostics.specs.Reports.{Reports}
use Rattle.graphql_diagnostics.proofs.ReportLemmas.{checks_after, checks_words, wider}
use Rattle.graphql_variables.proofs.UseLemmas.{any_has, has_any}
use Rattle.graphql_input_rules.specs.InputFields.{FieldReport, FieldsAreUnique, RepetitionReport, entry_names}
use Rattle.graphql_input_rules.specs.ValuesWritten.{ValueWritten, value_in_entry, value_in_item, value_itself}
use Rattle.graphql_input_rules.specs.declared.reports.InputFieldRepetition.{InputFieldRepetition}
use Rattle.graphql_input_rules.proofs.PlaceLemmas.{Checked, in_places, moved}

-- a value is of one kind
not_list : (entries : Vec (NameText × Node Value) Global) (items : Vec (Node Value) Global) → ¬ (literal.Object entries ≡ literal.List items)
not_list entries items e =
    let opens : Open.Object entries ≡ Open.List items = sym (literal.outs-Object entries) ∙ ap out-Value e ∙ literal.outs-List items in
    let h : ⊥ = cc in h

same_items : (xs ys : Vec (Node Value) Global) → literal.List xs ≡ literal.List ys → xs ≡ ys
same_items xs ys e =
    let opens : Open.List xs ≡ Open.List ys = sym (literal.outs-List xs) ∙ ap out-Value e ∙ literal.outs-List ys in
    cc

same_entries : (xs ys : Vec (NameText × Node Value) Global) → literal.Object xs ≡ literal.Object ys → xs ≡ ys
same_entries xs ys e =
    let opens : Open.Object xs ≡ Open.Object ys = sym (literal.outs-Object xs) ∙ ap out-Value e ∙ literal.outs-Object ys in
    cc

-- in one of these items, and in the value of one of these entries
abbrev pub InItems : List (Node Value) → Value → Type 0
InItems items v = Any (λ i. ValueWritten i.value.value v) items

abbrev pub InEntries : List (NameText × Node Value) → Value → Type 0
InEntries entries v = Any (λ e. ValueWritten e.1.value.value v) entries

-- what is in a list is itself or in an item, and so of an object value
in_list_value : {value inner : Value} → ValueWritten value inner → (items : Vec (Node Value) Global) → value ≡ literal.List items →
    (inner ≡ value) ⊎ InItems items.items inner
in_list_value value_itself items e = inl refl
in_list_value {inner = inner} (value_in_item found item stands more) items e =
    inr (has_any (λ (i : Node Value). ValueWritten i.value.value inner) items.items item
    (subst (λ (l : Vec (Node Value) Global). Contains l.items item) (same_items found items e) stands) more)
in_list_value (value_in_entry found entry stands more) items e = absurd (not_list found items e)

in_object_value : {value inner : Value} → ValueWritten value inner → (entries : Vec (NameText × Node Value) Global) → value ≡ literal.Object entries →
    (inner ≡ value) ⊎ InEntries entries.items inner
in_object_value value_itself entries e = inl refl
in_object_value (value_in_item found item stands more) entries e = absurd (not_list entries found (sym e))
in_object_value {inner = inner} (value_in_entry found entry stands more) entries e =
    inr (has_any (λ (x : NameText × Node Value). ValueWritten x.1.value.value inner) entries.items entry
    (subst (λ (l : Vec (NameText × Node Value) Global). Contains l.items entry) (same_entries found entries e) stands) more)

itself_alone : {value inner : Value} → ValueWritten value inner → ((items : Vec (Node Value) Global) → value ≡ literal.List items → ⊥) →
    ((entries : Vec (NameText × Node Value) Global) → value ≡ literal.Object entries → ⊥) → inner ≡ value
itself_alone value_itself no_list no_object = refl
itself_alone (value_in_item found item stands more) no_list no_object = absurd (no_list found refl)
itself_alone (value_in_entry found entry stands more) no_list no_object = absurd (no_object found refl)

-- a value that is neither has no object value
pub no_object_value : (value : Value) → ((items : Vec (Node Value) Global) → value ≡ literal.List items → ⊥) →
    ((entries : Vec (NameText × Node Value) Global) → value ≡ literal.Object entries → ⊥) → FieldsAreUnique (ValueWritten value)
no_object_value value no_list no_object entries w = absurd (no_object entries (sym (itself_alone w no_list no_object)))

-- a list has those of its items
pub list_checked : {T E : Type 0} (r : Result T E) (items : Vec (Node Value) Global) (old new : List InputFieldRepetition) →
    Checked r (InItems items.items) old new → Checked r (ValueWritten (literal.List items)) old new
list_checked r items old new c =
    in_places r (InItems items.items) (ValueWritten (literal.List items)) old new
    (λ v any. let h = any_has (λ (i : Node Value). ValueWritten i.value.value v) items.items any in value_in_item items h.0 h.1 h.2)
    (λ e w. elim (in_list_value w items refl) [
      | inl same ↦ absurd (not_list e items same)
      | inr any ↦ any
    ])
    c

entry_value : (entries : Vec (NameText × Node Value) Global) (v : Value) → InEntries entries.items v → ValueWritten (literal.Object entries) v
entry_value entries v any =
    let h = any_has (λ (e : NameText × Node Value). ValueWritten e.1.value.value v) entries.items any in
    value_in_entry entries h.0 h.1 h.2

-- an object value is one itself, and has those of its entries
pub own_report : (entries : Vec (NameText × Node Value) Global) (x : InputFieldRepetition) →
    RepetitionReport (entry_names entries.items) x → FieldReport (ValueWritten (literal.Object entries)) x
own_report entries x report = record { entries = entries; written = value_itself; repetition = report }

pub object_checked : {T E : Type 0} (r : Result T E) (entries : Vec (NameText × Node Value) Global) (old mid new : List InputFieldRepetition) →
    Reports (AreDistinct (entry_names entries.items)) (RepetitionReport (entry_names entries.items)) old mid →
    Checked r (InEntries entries.items) mid new → Checked r (ValueWritten (literal.Object entries)) old new
object_checked r entries old mid new a b =
    checks_words r (AreDistinct (entry_names entries.items) × FieldsAreUnique (InEntries entries.items)) (FieldsAreUnique (ValueWritten (literal.Object entries)))
    (FieldReport (ValueWritten (literal.Object entries))) (FieldReport (ValueWritten (literal.Object entries))) old new (
      λ u e w. elim (in_object_value w entries refl) [
        | inl same ↦ subst (λ (l : Vec (NameText × Node Value) Global). AreDistinct (entry_names l.items)) (sym (same_entries e entries same)) u.0
        | inr any ↦ u.1 e any
      ],
      λ u. (u entries value_itself, λ e any. u e (entry_value entries (literal.Object e) any)),
    )
    (λ x q. q)
    (checks_after r (AreDistinct (entry_names entries.items)) (FieldsAreUnique (InEntries entries.items)) (FieldReport (ValueWritten (literal.Object entries))) old mid new
    (wider (own_report entries) a)
    (checks_words r (FieldsAreUnique (InEntries entries.items)) (FieldsAreUnique (InEntries entries.items)) (FieldReport (InEntries entries.items))
    (FieldReport (ValueWritten (literal.Object entries))) mid new (λ u. u, λ u. u) (moved (entry_value entries)) b))
