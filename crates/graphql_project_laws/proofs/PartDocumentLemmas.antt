-- What holds of all definitions of a document holds of a document that has some of them. Specification: 5.6.3 Input Object Field Uniqueness, and the
-- incremental delivery proposal, Directive Labels Are Unique.
use Rattle.std.proofs.Common.{[], ◌∷◌, ◌++◌, List, Option, inl, inr, refl, sym, subst}
use Rattle.std.specs.Prelude.{Contains, flat_map}
use Rattle.indexmap.specs.IndexMap.{values}
use Rattle.graphql_nodes.specs.Names.{NameText}
use Rattle.graphql_nodes.specs.declared.nodes.Node.{Node}
use Rattle.graphql_documents.specs.Executables.{operations_of, sets_of}
use Rattle.graphql_documents.specs.Selections.{selections_of}
use Rattle.graphql_documents.specs.declared.documents.directives.Directive.{Directive}
use Rattle.graphql_documents.specs.declared.documents.executables.ExecutableDocument.{ExecutableDocument}
use Rattle.graphql_documents.specs.declared.documents.executables.Fragment.{Fragment}
use Rattle.graphql_documents.specs.declared.documents.executables.Operation.{Operation}
use Rattle.graphql_documents.specs.declared.documents.executables.Selection.{Selection}
use Rattle.graphql_documents.specs.declared.documents.executables.SelectionSet.{SelectionSet}
use Rattle.graphql_documents.specs.declared.documents.schemas.Schema.{Schema}
use Rattle.graphql_documents.specs.declared.documents.values.Value.{Value}
use Rattle.graphql_documents.specs.declared.documents.values.Value.TheVariants as literal
use Rattle.graphql_trees.specs.declared.executable.Selection as selection_tree
use Rattle.graphql_document_building.specs.Selections as says
use Rattle.graphql_document_building.specs.Selections.{SelectionSays, SelectionsSay}
use Rattle.graphql_input_rules.specs.InputFields.{InputFieldsAreUnique}
use Rattle.graphql_input_rules.specs.ValuesWritten.{DocumentWrites, FragmentWrites, OperationWrites}
use Rattle.graphql_specification.specs.Defer.{DefersOn, HasFixedLabel, HaveDifferentLabels, LabelsHold, defers, defers_on_field, defers_on_inline_fragment, defers_on_none, defers_on_spread}
use Rattle.graphql_project_laws.proofs.PartLemmas.{PartOf, part_all, part_any, part_flat, part_joined, part_mapped, part_pairs, part_zip}

-- ==== the applications of `@defer` on selections

-- the applications of `@defer` on selections and on those below them
abbrev pub HasDefers : List Selection → Type 0
HasDefers selections = (applications : List (Node Directive)) × DefersOn selections applications

module _ {schema : Option Schema} where
  mutual
    defers_with : {parent : NameText} {t : selection_tree.Selection} {s : Selection} → SelectionSays schema parent t s → (rest : List Selection) (after : List (Node Directive)) →
        DefersOn rest after → HasDefers (s ∷ rest)
    defers_with (says.field_says x f head set location) rest after on =
        let inner = defers_of_selections set in
        (defers f.value.value.directives.items ++ (inner.0 ++ after), defers_on_field f inner.1 on)
    defers_with (says.fragment_spread_says x p spread) rest after on = (defers p.value.value.directives.items ++ after, defers_on_spread p on)
    defers_with (says.inline_fragment_says x i head set location) rest after on =
        let inner = defers_of_selections set in
        (defers i.value.value.directives.items ++ (inner.0 ++ after), defers_on_inline_fragment i inner.1 on)

    -- those on selections that trees say can be listed
    pub defers_of_selections : {parent : NameText} {xs : List selection_tree.Selection} {ss : List Selection} → SelectionsSay schema parent xs ss → HasDefers ss
    defers_of_selections says.no_selections = ([], defers_on_none)
    defers_of_selections (says.next_selection {ss = ss} first rest) =
        let after = defers_of_selections rest in
        defers_with first ss after.0 after.1

-- ==== a document with some of the definitions of another

module _ (part whole : ExecutableDocument) (operations : PartOf (operations_of part) (operations_of whole))
    (fragments : PartOf (values part.fragments) (values whole.fragments)) where
  sets_are_part : PartOf (sets_of part) (sets_of whole)
  sets_are_part = part_joined (part_mapped (λ (o : Node Operation). o.value.value.selection_set) operations)
      (part_mapped (λ (d : Node Fragment). d.value.value.selection_set) fragments)

  pub labels_of_part : ((set : SelectionSet) → Contains (sets_of whole) set → HasDefers (selections_of set)) → LabelsHold whole → LabelsHold part
  labels_of_part has_defers labels applications (parts, zip, is) =
      let more = part_zip (λ set part. DefersOn (selections_of set) part) sets_are_part has_defers parts zip in
      let all = flat_map (λ (part : List (Node Directive)). part) more.0 in
      let holds = labels all (more.0, more.1, refl) in
      let within : PartOf applications all = subst (λ l. PartOf l all) (sym is) (part_flat more.2) in
      (part_pairs HaveDifferentLabels within holds.0, part_all HasFixedLabel within holds.1)

  written_too : (v : Value) → DocumentWrites part v → DocumentWrites whole v
  written_too v (inl any) = inl (part_any (λ (o : Node Operation). OperationWrites o.value.value v) operations any)
  written_too v (inr any) = inr (part_any (λ (f : Node Fragment). FragmentWrites f.value.value v) fragments any)

  pub input_fields_of_part : InputFieldsAreUnique whole → InputFieldsAreUnique part
  input_fields_of_part unique = λ entries written. unique entries (written_too (literal.Object entries) written)
