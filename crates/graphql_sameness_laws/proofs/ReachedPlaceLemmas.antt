-- What is reached from selections that are the same is the same, and on the same types. Specification: 5.3 Fields, 5.5 Fragments.
use Rattle.std.proofs.Common.{◌≡◌, ◌∙◌, Bool, true, false, List, Option, None, Some, refl, sym, ap, subst}
use Rattle.std.specs.Prelude.{if◌then◌else◌}
use Rattle.std.specs.List.{AllZip}
use Rattle.graphql_nodes.specs.Names.{NameText, stands_on}
use Rattle.graphql_nodes.specs.declared.nodes.Node.{Node}
use Rattle.graphql_documents.specs.Contents.{SameIfAny}
use Rattle.graphql_documents.specs.Selections.{Fragments, IsSubselectionParent, ReachableOn, definition_at, parent_known, parent_unknown, reachable_in_field, reachable_in_inline_fragment, reachable_in_spread, standing_at, type_under, without}
use Rattle.graphql_documents.specs.TypeReferences.{inner_named_type}
use Rattle.graphql_documents.specs.declared.documents.definitions.VariableDefinition.{VariableDefinition}
use Rattle.graphql_documents.specs.declared.documents.executables.Selection.{Selection}
use Rattle.graphql_documents.specs.declared.documents.schemas.Schema.{Schema}
use Rattle.graphql_specification.specs.Selections.{ReachableSelectionsHold}
use Rattle.graphql_document_building.specs.SameDocuments.{SameFragment, SameSelection, SameSelections}
use Rattle.graphql_document_building.specs.SameLeaves.{SameField, SameVariable}
use Rattle.graphql_building_laws.specs.SameSchemas.{SameComponent, SameSchema}
use Rattle.graphql_sameness_laws.proofs.DirectiveLemmas.{schemas_back}
use Rattle.graphql_sameness_laws.proofs.FieldLemmas.{field_holds_too}
use Rattle.graphql_sameness_laws.proofs.FragmentLemmas.{fragments_back, inline_fragment_holds_too, spread_holds_too}
use Rattle.graphql_sameness_laws.proofs.ReachLemmas.{fragment_too}
use Rattle.graphql_sameness_laws.proofs.SchemaLookupLemmas.{definition_alike}
use Rattle.graphql_sameness_laws.proofs.SelectionLemmas.{SameFragments, as_inline_fragment, as_spread, field_node_back, field_too, inline_fragment_back, inline_fragment_too, same_field_node, selection_too, selections_back, spread_back, spread_too}
use Rattle.graphql_sameness_laws.proofs.TypeLemmas.{one_name}
use Rattle.graphql_sameness_laws.proofs.ZipLemmas.{other_side}

without_alike : (visited : List NameText) (before after : Fragments) → SameFragments before after → SameFragments (without visited before) (without visited after)
without_alike visited before after alike name = chosen (stands_on visited name)
  where
    chosen : (b : Bool) → SameIfAny (SameFragment None) (if b then None else before name) (if b then None else after name)
    chosen true = tt
    chosen false = alike name

one_type_under : (oa ob : Option Schema) → SameIfAny SameSchema oa ob → (parent condition : Option NameText) → type_under oa parent condition ≡ type_under ob parent condition
one_type_under None None schemas parent condition = refl
one_type_under None (Some b) schemas parent condition = absurd schemas
one_type_under (Some a) None schemas parent condition = absurd schemas
one_type_under (Some a) (Some b) schemas parent None = refl
one_type_under (Some a) (Some b) schemas parent (Some condition) = refl

module _ (oa ob : Option Schema) (schemas : SameIfAny SameSchema oa ob) where
  parent_too : {parent below : Option NameText} {name : NameText} → IsSubselectionParent oa parent name below → (other : NameText) → name ≡ other →
      IsSubselectionParent ob parent other below
  parent_too parent_unknown other is = parent_unknown
  parent_too (parent_known {parent = parent} {field = field} {d = d} found) other is =
      let e = other_side (SameComponent SameField) (definition_at oa parent field) (definition_at ob parent field) d (definition_alike oa ob parent field schemas) found in
      let there : IsSubselectionParent ob parent other (Some (inner_named_type e.0.node.value.value.ty)) =
      parent_known (subst (λ n. definition_at ob parent n ≡ Some e.0) is e.1) in
      subst (IsSubselectionParent ob parent other) (ap Some (sym (one_name d.node.value.value.ty e.0.node.value.value.ty e.2.1.ty))) there

  module _ (before after : Fragments) (alike : SameFragments before after) where
    reached_too : {parent here : Option NameText} {xs : List Selection} {s : Selection} → ReachableOn oa before parent xs s here →
        (ys : List Selection) → SameSelections None xs ys → (t : Selection) × ReachableOn ob after parent ys t here × SameSelection None s t
    reached_too (standing_at {parent = parent} {selections = xs} {s = s} c) ys same =
        let t = selection_too xs ys same s c in
        (t.0, standing_at t.1, t.2)
    reached_too (reachable_in_field {parent = parent} {below = below} {at = at} {selections = xs} {s = s} f c is_parent inner) ys same =
        let g = field_too xs ys same f c in
        let t = reached_too inner g.0.value.value.selection_set.selections.items g.2.set.selections in
        (t.0, reachable_in_field g.0 g.1 (parent_too is_parent g.0.value.value.name g.2.head.name) t.1, t.2)
    reached_too (reachable_in_inline_fragment {parent = parent} {at = at} {selections = xs} {s = s} i c inner) ys same =
        let j = inline_fragment_too xs ys same i c in
        let t = reached_too inner j.0.value.value.selection_set.selections.items j.2.set.selections in
        let under = one_type_under oa ob schemas parent i.value.value.type_condition ∙ ap (type_under ob parent) j.2.head.type_condition in (
          t.0,
          reachable_in_inline_fragment j.0 j.1
              (subst (λ ty. ReachableOn ob after ty j.0.value.value.selection_set.selections.items t.0 at) under t.1),
          t.2,
        )
    reached_too (reachable_in_spread {parent = parent} {at = at} {selections = xs} {s = s} {p = p} d c defined inner) ys same =
        let q = spread_too xs ys same p c in
        let e = fragment_too before after alike p.value.value.fragment_name q.0.value.value.fragment_name d q.2.name defined in
        let t = reached_too inner e.0.value.value.selection_set.selections.items e.2.selections in
        let under = one_type_under oa ob schemas parent (Some d.value.value.selection_set.ty) ∙ ap (λ n. type_under ob parent (Some n)) e.2.set_type in (
          t.0,
          reachable_in_spread e.0 q.1 e.1
              (subst (λ ty. ReachableOn ob after ty e.0.value.value.selection_set.selections.items t.0 at) under t.1),
          t.2,
        )

module _ (oa ob : Option Schema) (schemas : SameIfAny SameSchema oa ob) (before after : Fragments) (alike : SameFragments before after)
    (variables others : List (Node VariableDefinition)) (variables_alike : AllZip SameVariable variables others) where
  pub reachable_selections_too : (visited : List NameText) (parent : Option NameText) (xs ys : List Selection) → SameSelections None xs ys →
      ReachableSelectionsHold oa visited before variables parent xs → ReachableSelectionsHold ob visited after others parent ys
  reachable_selections_too visited parent xs ys same h =
      let back : SameFragments (without visited after) (without visited before) =
      without_alike visited after before (fragments_back before after alike) in
      let returned = schemas_back oa ob schemas in
      record {
        fields = λ g here reached.
            let t = reached_too ob oa returned (without visited after) (without visited before) back reached xs (selections_back same) in
            let f = same_field_node g t.0 t.2 in
            field_holds_too oa ob schemas variables others variables_alike here f.0 g (field_node_back g f.0 f.1)
            (h.fields f.0 here (subst (λ s. ReachableOn oa (without visited before) parent xs s here) f.2 t.1));
        inline_fragments = λ j here reached.
            let t = reached_too ob oa returned (without visited after) (without visited before) back reached xs (selections_back same) in
            let i = as_inline_fragment j t.0 t.2 in
            inline_fragment_holds_too before after alike oa ob schemas variables others variables_alike here i.0 j (inline_fragment_back j i.0 i.1)
            (h.inline_fragments i.0 here (subst (λ s. ReachableOn oa (without visited before) parent xs s here) i.2 t.1));
        spreads = λ q here reached.
            let t = reached_too ob oa returned (without visited after) (without visited before) back reached xs (selections_back same) in
            let p = as_spread q t.0 t.2 in
            spread_holds_too before after alike oa ob schemas variables others variables_alike visited here p.0 q (spread_back q p.0 p.1)
            (h.spreads p.0 here (subst (λ s. ReachableOn oa (without visited before) parent xs s here) p.2 t.1));
      }
