-- A document merges where the fields of its merged lists agree; in a built one their types are output types.
use Rattle.std.proofs.Common.{◌≡◌, ◌↔◌, Bool, true, false, List, [], ◌∷◌, Some, refl, subst, All, Contains}
use Rattle.std.specs.Map.{lookup}
use Rattle.std.proofs.lemmas.List.Elements.{All-contains}
use Rattle.graphql_nodes.specs.Names.{NameText, SameName, same_name}
use Rattle.graphql_documents.specs.TypeReferences.{inner_named_type}
use Rattle.graphql_documents.specs.Built.{SetsAreBuilt, OperationIsBuilt, IsBuilt}
use Rattle.graphql_documents.specs.Schemas.{NamesKind, is_output_type}
use Rattle.graphql_documents.specs.Executables.{operations_of}
use Rattle.graphql_documents.specs.Selections.{fragments_of, Includes, includes_itself, includes_inline_fragment, includes_spread, set_itself, set_in_field, set_in_inline_fragment}
use Rattle.graphql_specification.specs.Merging.{FieldSelection, FieldInExpandedSet, ParentsMayOverlap, FieldsCanMerge, set_of, type_of, SameKey, SameResponseShape, SameNameAndArguments, Pass, shape_pass, field_pass}
use Rattle.graphql_specification.specs.MergedSets.{IsGroup, MergedSet, merged_operation, merged_below}
use Rattle.graphql_nodes.specs.declared.nodes.Node.{Node}
use Rattle.graphql_documents.specs.declared.documents.schemas.Schema.{Schema}
use Rattle.graphql_documents.specs.declared.documents.executables.ExecutableDocument.{ExecutableDocument}
use Rattle.graphql_documents.specs.declared.documents.executables.Fragment.{Fragment}
use Rattle.graphql_documents.specs.declared.documents.executables.Operation.{Operation}
use Rattle.graphql_documents.specs.declared.documents.executables.SelectionSet.{SelectionSet}
use Rattle.graphql_documents.proofs.ListLemmas.{only_one, stands_first, stands_behind}
use Rattle.graphql_documents.proofs.SelectionLemmas.{one_fragment_found}
use Rattle.graphql_laws.proofs.ExpandedListLaws.{lists_what_is_inside, below_lists_what_is_inside}
use Rattle.graphql_laws.proofs.ExpansionExistsLaws.{has_expansion}
use Rattle.graphql_laws.proofs.GroupLaws.{in_list}
use Rattle.graphql_laws.proofs.MergedListLaws.{merging_by_lists}
use Rattle.graphql_laws.proofs.FirstOfGroupLaws.{merging_by_groups}

pub document_merging_by_lists : (schema : Schema) (document : ExecutableDocument) (operations : List (Node Operation)) →
    ((o : Node Operation) → Contains operations o → FieldsCanMerge schema (fragments_of document) o.value.value.selection_set) ↔ (
    ((fields : List FieldSelection) → MergedSet schema (fragments_of document) operations shape_pass fields → (x y : FieldSelection) → Contains fields x → Contains fields y → SameKey x y →
    SameResponseShape schema (type_of x) (type_of y)) ×
    ((fields : List FieldSelection) → MergedSet schema (fragments_of document) operations field_pass fields → (x y : FieldSelection) → Contains fields x → Contains fields y → SameKey x y →
    ParentsMayOverlap schema x y → SameNameAndArguments x.field.value.value y.field.value.value)
    )
document_merging_by_lists schema document operations = merging_by_lists schema (fragments_of document) (one_fragment_found document) operations (has_expansion document)

-- a value that is found is in an entry
pub entry_found : {X : Type 0} (test : NameText → Bool) (entries : List (NameText × X)) (x : X) → lookup test entries ≡ Some x →
    (e : NameText × X) × Contains entries e × (e.1 ≡ x)
entry_found test [] x found = absurd (let no : ⊥ = cc in no)
entry_found {X} test (e ∷ es) x found = decided (test e.0) refl (λ later. entry_found test es x later) where
  decided : (b : Bool) → test e.0 ≡ b → (lookup test es ≡ Some x → (e' : NameText × X) × Contains es e' × (e'.1 ≡ x)) →
      (e' : NameText × X) × Contains (e ∷ es) e' × (e'.1 ≡ x)
  decided true is more = let same : Some e.1 ≡ Some x = rw is at found in (e, stands_first e es, cc)
  decided false is more = let m = more (rw is at found) in (m.0, stands_behind e es m.0 m.1, m.2)

module _ (schema : Schema) (document : ExecutableDocument) (built : IsBuilt schema document) where
  pub built_fragment : (name : NameText) (d : Node Fragment) → fragments_of document name ≡ Some d → SetsAreBuilt schema d.value.value.selection_set
  built_fragment name d found =
      let e = entry_found (same_name name) document.fragments.entries d found in
      let all = All-contains (λ entry. SameName entry.0 entry.1.value.value.name × SetsAreBuilt schema entry.1.value.value.selection_set) document.fragments.entries e.0 built.fragments e.1 in
      subst (λ (f : Node Fragment). SetsAreBuilt schema f.value.value.selection_set) e.2 all.1

  pub built_inside : {set inner : SelectionSet} → Includes (fragments_of document) set inner → SetsAreBuilt schema set → SetsAreBuilt schema inner
  built_inside includes_itself sets = sets
  built_inside (includes_inline_fragment stands more) sets = built_inside more (λ s written. sets s (set_in_inline_fragment stands written))
  built_inside (includes_spread {p = p} {d = d} stands found more) sets = built_inside more (built_fragment p.value.value.fragment_name d found)

  -- the field is of an output type, and its set is built
  pub record BuiltField (x : FieldSelection) : Type 0 where
    pub output : NamesKind schema is_output_type (inner_named_type (type_of x))
    pub sets : SetsAreBuilt schema (set_of x)

  pub built_field : (set : SelectionSet) (x : FieldSelection) → SetsAreBuilt schema set → FieldInExpandedSet (fragments_of document) set x → BuiltField x
  built_field set x sets here =
      let inner = built_inside here.included sets in
      record {
        output = ((inner here.inner set_itself).fields x.field here.stands).output;
        sets = λ s written. inner s (set_in_field here.stands written);
      }

  module _ (operations : List (Node Operation)) (own : All (Contains (operations_of document)) operations) where
    built_merged : {pass : Pass} {fields : List FieldSelection} → MergedSet schema (fragments_of document) operations pass fields →
        (x : FieldSelection) → Contains fields x → BuiltField x
    built_merged (merged_operation {o = o} {fields = fields} stands expands) x in_x =
        let set = o.value.value.selection_set in
        let from = (lists_what_is_inside (fragments_of document) (one_fragment_found document) (set ∷ []) fields expands x).0 in_x in
        let operation = All-contains (λ (p : Node Operation). OperationIsBuilt schema p.value.value) (operations_of document) o built.operations (All-contains (Contains (operations_of document)) operations o own stands) in
        built_field set x operation.sets (subst (λ s. FieldInExpandedSet (fragments_of document) s x) (only_one set from.0 from.1) from.2)
    built_merged {pass} (merged_below {fields = fields} {below = below} above step) x in_x =
        let from = (below_lists_what_is_inside (fragments_of document) (one_fragment_found document) step.group below step.expansion x).0 in_x in
        built_field (set_of from.0) x (built_merged above from.0 (in_list schema fields step.is_group from.0 from.1)).sets from.2

    pub built_output : {pass : Pass} (fields : List FieldSelection) → MergedSet schema (fragments_of document) operations pass fields →
        (x : FieldSelection) → Contains fields x → NamesKind schema is_output_type (inner_named_type (type_of x))
    built_output fields merged x in_x = (built_merged merged x in_x).output

    pub document_merging_by_groups : ((o : Node Operation) → Contains operations o → FieldsCanMerge schema (fragments_of document) o.value.value.selection_set) ↔ (
        ((fields group : List FieldSelection) (first : FieldSelection) (rest : List FieldSelection) → MergedSet schema (fragments_of document) operations shape_pass fields →
        IsGroup schema fields shape_pass group → group ≡ first ∷ rest → All (λ z. SameResponseShape schema (type_of first) (type_of z)) rest) ×
        ((fields group : List FieldSelection) (first : FieldSelection) (rest : List FieldSelection) → MergedSet schema (fragments_of document) operations field_pass fields →
        IsGroup schema fields field_pass group → group ≡ first ∷ rest → All (λ z. SameNameAndArguments first.field.value.value z.field.value.value) rest)
        )
    document_merging_by_groups =
        merging_by_groups schema (fragments_of document) (one_fragment_found document) operations (has_expansion document)
        (λ fields merged x in_x. (built_merged merged x in_x).output)
