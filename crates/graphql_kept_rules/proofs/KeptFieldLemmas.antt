-- Fields and fragments hold against a schema that keeps what an older one had. Specification: 5.3 Fields, 5.5 Fragments.
use Rattle.std.proofs.Common.{◌≡◌, ◌∙◌, inl, inr, List, [], ◌∷◌, Option, None, Some, refl, sym, ap, subst, subst₂}
use Rattle.std.specs.Prelude.{IsFalse}
use Rattle.std.specs.List.{AllZip}
use Rattle.std.specs.Result.{result_ok}
use Rattle.graphql_nodes.specs.Names.{NameText, SameName}
use Rattle.graphql_nodes.proofs.NameLemmas.{same_name_then}
use Rattle.graphql_nodes.specs.declared.directive_locations.DirectiveLocation.{DirectiveLocation}
use Rattle.graphql_nodes.specs.declared.directive_locations.DirectiveLocation.TheVariants as allowed_at
use Rattle.graphql_nodes.specs.declared.nodes.Node.{Node}
use Rattle.graphql_documents.specs.Contents.{SameIfAny}
use Rattle.graphql_documents.specs.Schemas.{type_field}
use Rattle.graphql_documents.specs.Selections.{Fragments, selections_of, standing_at}
use Rattle.graphql_documents.specs.declared.documents.components.Component.{Component}
use Rattle.graphql_documents.specs.declared.documents.definitions.FieldDefinition.{FieldDefinition}
use Rattle.graphql_documents.specs.declared.documents.definitions.VariableDefinition.{VariableDefinition}
use Rattle.graphql_documents.specs.declared.documents.directives.Directive.{Directive}
use Rattle.graphql_documents.specs.declared.documents.executables.Field.{Field}
use Rattle.graphql_documents.specs.declared.documents.executables.Fragment.{Fragment}
use Rattle.graphql_documents.specs.declared.documents.executables.FragmentSpread.{FragmentSpread}
use Rattle.graphql_documents.specs.declared.documents.executables.InlineFragment.{InlineFragment}
use Rattle.graphql_documents.specs.declared.documents.executables.Selection.{Selection}
use Rattle.graphql_documents.specs.declared.documents.executables.SelectionSet.{SelectionSet}
use Rattle.graphql_documents.specs.declared.documents.schemas.Schema.{Schema}
use Rattle.graphql_trees.specs.declared.executable.Selection as selection_tree
use Rattle.graphql_specification.specs.Arguments.{ArgumentValuesHold}
use Rattle.graphql_specification.specs.Directives.{ApplicationsHold}
use Rattle.graphql_specification.specs.Fields.{AgreesWithDefinition, FieldHolds, HasNeededSelection}
use Rattle.graphql_specification.specs.Fragments.{FragmentHolds, InlineFragmentHolds, IsPossibleAt, NamesComposite, SpreadHolds}
use Rattle.graphql_specification.specs.Selections.{ReachableSelectionsHold}
use Rattle.graphql_document_building.specs.SameDocuments.{SameSpread}
use Rattle.graphql_document_building.specs.SameLeaves.{SameDirectives, SameVariable}
use Rattle.graphql_document_building.specs.Selections.{SelectionsSay}
use Rattle.graphql_document_building.specs.Trees.{names_leaf_type, type_below}
use Rattle.graphql_schema_changes.specs.Keeps.{AnyInput, IsExecutable}
use Rattle.graphql_sameness_laws.proofs.ArgumentLemmas.{distinct_names_too}
use Rattle.graphql_sameness_laws.proofs.ZipLemmas.{other_side}
use Rattle.graphql_kept_rules.proofs.FoundLemmas.{one_some}
use Rattle.graphql_kept_rules.proofs.KeptArgumentLemmas.{names_still, values_still}
use Rattle.graphql_kept_rules.proofs.KeptBuildingLemmas.{composite_no_leaf, composite_output, composite_still}
use Rattle.graphql_kept_rules.proofs.KeptDirectiveLemmas.{applications_still}
use Rattle.graphql_kept_rules.proofs.NameLemmas.{one_type}
use Rattle.graphql_kept_rules.proofs.PairedDocumentLemmas.{PairedFragment, PairedFragments}
use Rattle.graphql_kept_rules.proofs.PairedLemmas.{Defined, PairedField, PairedInline, defined, nothing_said, spread_pair}
use Rattle.graphql_kept_rules.proofs.SaidTextLemmas.{head_alike, inline_fragment_alike}
use Rattle.graphql_kept_rules.proofs.SchemasKeptLemmas.{SchemasKept}
use Rattle.graphql_kept_rules.proofs.SpotLemmas.{Spot, reached_spot, spot_field, spot_inline}
use Rattle.graphql_kept_rules.proofs.TextFragmentLemmas.{fragment_without_cycle}
use Rattle.graphql_kept_rules.proofs.TextSelectionLemmas.{SameFragments}
use Rattle.graphql_kept_rules.specs.SameTexts.{SameFieldText, SameFragmentText}

one_schema : (new s : Schema) → Some new ≡ Some s → new ≡ s
one_schema new s e = cc

possible_moved : (schema : Schema) (condition p q : NameText) → SameName p q → IsPossibleAt schema condition (Some p) → IsPossibleAt schema condition (Some q)
possible_moved schema condition p q same h x y defined parent = elim (h x y defined (one_type schema p q same ∙ parent)) [
  | inl named ↦ inl (same_name_then condition p q named same)
  | inr common ↦ inr common
]

empty_before : (old new : Schema) (p q : NameText) (trees : List selection_tree.Selection) (xs ys : List Selection) →
    SelectionsSay (Some old) p trees xs → SelectionsSay (Some new) q trees ys → ys ≡ [] → xs ≡ []
empty_before old new p q [] xs ys was is e = nothing_said old p xs was
empty_before old new p q (t ∷ trees) xs [] was is e = elim is [ ]
empty_before old new p q (t ∷ trees) xs (y ∷ ys) was is e = absurd (let no : ⊥ = cc in no)

text_of_any : (old new : Schema) (k : SchemasKept old new) (o p : Option (Node Fragment)) → SameIfAny (PairedFragment old new k.keeps) o p → SameIfAny SameFragmentText o p
text_of_any old new k None None same = tt
text_of_any old new k None (Some e) same = absurd same
text_of_any old new k (Some d) None same = absurd same
text_of_any old new k (Some d) (Some e) same = same.text

module _ (old new : Schema) (k : SchemasKept old new) (variables others : List (Node VariableDefinition)) (alike : AllZip SameVariable variables others) where
  pub applications_kept : (location : DirectiveLocation) → IsExecutable old location → (xs ys : List (Node Directive)) → SameDirectives xs ys →
      ApplicationsHold (Some old) variables location xs → ApplicationsHold (Some new) others location ys
  applications_kept location executable = applications_still old new (AnyInput old) k.keeps.inputs (λ name d field input is c. k.inputs.input_fields name d field is c) k.unique
      k.keeps.directives k.inputs.directive_arguments variables others alike location executable

  module _ (before after : Fragments) (fragments : PairedFragments old new k.keeps before after) where
    abbrev Here : SelectionSet → SelectionSet → Type 0
    Here a b = Spot old new k.keeps k.outputs before after fragments variables a b

    texts : SameFragments before after
    texts name = text_of_any old new k (before name) (after name) (fragments name)

    module _ (a b : SelectionSet) (spot : Here a b) where
      -- ==== fields

      module _ (f g : Node Field) (pair : PairedField old new k.keeps.fields a b spot.pair f g) (is : Defined old new k.keeps.fields a b spot.pair f g) where
        needed_still : HasNeededSelection (Some old) f.value.value is.d.node.value.value.ty → HasNeededSelection (Some new) g.value.value is.e.node.value.value.ty
        needed_still needs y has composite empty =
            let leaf : IsFalse (names_leaf_type old (type_below is.d)) = sym is.kept.leaf ∙ composite_no_leaf new (type_below is.e) (y, has, composite) in
            let was = composite_output old (type_below is.d) (k.outputs a.ty f.value.value.name is.d is.was) leaf in
            needs was.0 was.1 was.2 (empty_before old new _ _ _ _ _ pair.before_set pair.after_set empty)

        agrees_still : SameFieldText f.value.value g.value.value → AgreesWithDefinition (Some old) f.value.value is.d.node.value.value →
            AgreesWithDefinition (Some new) g.value.value is.e.node.value.value
        agrees_still text h = record {
          arguments = names_still is.d.node.value.value.arguments.items is.e.node.value.value.arguments.items is.kept.arguments
              f.value.value.arguments.items g.value.value.arguments.items text.arguments h.arguments;
          selection = needed_still h.selection;
        }

        field_values_still : SameFieldText f.value.value g.value.value → AgreesWithDefinition (Some old) f.value.value is.d.node.value.value →
            ArgumentValuesHold old variables is.d.node.value.value.arguments.items f.value.value.arguments.items →
            ArgumentValuesHold new others is.e.node.value.value.arguments.items g.value.value.arguments.items
        field_values_still text agrees h = values_still old new (AnyInput old) k.keeps.inputs (λ name d field input is c. k.inputs.input_fields name d field is c) k.unique
            variables others alike is.d.node.value.value.arguments.items is.e.node.value.value.arguments.items is.kept.arguments
            (λ x c. k.inputs.field_arguments a.ty f.value.value.name is.d x is.was c)
            f.value.value.arguments.items g.value.value.arguments.items text.arguments agrees.arguments.defined h

        field_still : FieldHolds (Some old) variables (Some a.ty) f.value.value → FieldHolds (Some new) others (Some b.ty) g.value.value
        field_still h =
            let text = head_alike old new a.ty b.ty pair.x f.value.value g.value.value pair.before pair.after in
            let agrees = h.form.agrees is.d (ap result_ok is.was) in
            record {
              directives = applications_kept allowed_at.Field tt _ _ text.directives h.directives;
              form = record {
                distinct = distinct_names_too _ _ text.arguments h.form.distinct;
                agrees = λ e found.
                    let one : is.e ≡ e = one_some (result_ok (type_field new b.ty g.value.value.name)) is.e e (ap result_ok is.is) found in
                    subst (λ (c : Component FieldDefinition). AgreesWithDefinition (Some new) g.value.value c.node.value.value) one (agrees_still text agrees);
              };
              values = λ s e has found.
                  let one_s : new ≡ s = one_schema new s has in
                  let there : result_ok (type_field new b.ty g.value.value.name) ≡ Some e = found in
                  let one : is.e ≡ e = one_some (result_ok (type_field new b.ty g.value.value.name)) is.e e (ap result_ok is.is) there in
                  subst₂ (λ (s : Schema) (c : Component FieldDefinition). ArgumentValuesHold s others c.node.value.value.arguments.items g.value.value.arguments.items) one_s one
                  (field_values_still text agrees (h.values old is.d refl (ap result_ok is.was)));
            }

      -- ==== conditions

      condition_kept : (condition : NameText) → NamesComposite old condition → IsPossibleAt old condition (Some a.ty) →
          NamesComposite new condition × IsPossibleAt new condition (Some b.ty)
      condition_kept condition composite possible =
          let h = k.keeps.conditions a.ty spot.composite condition composite possible in
          (h.0, possible_moved new condition a.ty b.ty spot.pair.ty h.1)

      inline_still : (i j : Node InlineFragment) → PairedInline old new k.keeps.fields a b spot.pair i j →
          InlineFragmentHolds (Some old) variables (Some a.ty) i.value.value → InlineFragmentHolds (Some new) others (Some b.ty) j.value.value
      inline_still i j pair h =
          let text = inline_fragment_alike a.ty b.ty pair.x i.value.value j.value.value pair.before pair.after in
          record {
            directives = applications_kept allowed_at.InlineFragment tt _ _ text.directives h.directives;
            target = λ condition is s has.
                let there = text.type_condition ∙ is in
                subst (λ s. NamesComposite s condition) (one_schema new s has)
                (condition_kept condition (h.target condition there old refl) (h.possible condition there old refl)).0;
            possible = λ condition is s has.
                let there = text.type_condition ∙ is in
                subst (λ s. IsPossibleAt s condition (Some b.ty)) (one_schema new s has)
                (condition_kept condition (h.target condition there old refl) (h.possible condition there old refl)).1;
          }

      fragment_still : (d e : Node Fragment) → PairedFragment old new k.keeps d e → FragmentHolds (Some old) before variables d → FragmentHolds (Some new) after others e
      fragment_still d e pair h = record {
        directives = applications_kept allowed_at.FragmentDefinition tt _ _ pair.text.directives h.directives;
        target = λ s has. subst₂ (λ s n. NamesComposite s n) (one_schema new s has) pair.text.set_type
            (composite_still old new k.keeps d.value.value.selection_set.ty (h.target old refl));
        no_cycle = fragment_without_cycle before after texts d e pair.text h.no_cycle;
      }

      spread_still : (p q : Node FragmentSpread) → SameSpread p q → SpreadHolds (Some old) [] before variables (Some a.ty) p.value.value →
          SpreadHolds (Some new) [] after others (Some b.ty) q.value.value
      spread_still p q same h =
          let e = other_side (PairedFragment old new k.keeps) (before p.value.value.fragment_name) (after p.value.value.fragment_name) h.definition
          (fragments p.value.value.fragment_name) h.defined in
          let fragment = h.holds refl in
          record {
            directives = applications_kept allowed_at.FragmentSpread tt _ _ same.directives h.directives;
            definition = e.0;
            defined = subst (λ n. after n ≡ Some e.0) same.name e.1;
            possible = λ s has. subst₂ (λ s n. IsPossibleAt s n (Some b.ty)) (one_schema new s has) e.2.text.set_type
                (condition_kept h.definition.value.value.selection_set.ty (fragment.target old refl) (h.possible old refl)).1;
            holds = λ unvisited. fragment_still h.definition e.0 e.2 fragment;
          }

    -- ==== all that is reached

    pub selections_still : (a b : SelectionSet) → Here a b → ReachableSelectionsHold (Some new) [] after others (Some b.ty) (selections_of b)
    selections_still a b spot = record {
      fields = λ g at reached.
          let here = reached_spot old new k.keeps k.outputs before after fragments variables reached a b spot refl refl in
          let field = spot_field old new k.keeps k.outputs before after fragments variables here.a here.b here.spot g here.stands in
          subst (λ o. FieldHolds (Some new) others o g.value.value) (sym here.here)
          (field_still here.a here.b here.spot field.f g field.pair (defined old new k.keeps.fields here.a here.b here.spot.pair field.f g field.pair)
          (here.spot.holds.fields field.f (Some here.a.ty) (standing_at field.stands)));
      inline_fragments = λ j at reached.
          let here = reached_spot old new k.keeps k.outputs before after fragments variables reached a b spot refl refl in
          let inline = spot_inline old new k.keeps k.outputs before after fragments variables here.a here.b here.spot j here.stands in
          subst (λ o. InlineFragmentHolds (Some new) others o j.value.value) (sym here.here)
          (inline_still here.a here.b here.spot inline.i j inline.pair (here.spot.holds.inline_fragments inline.i (Some here.a.ty) (standing_at inline.stands)));
      spreads = λ q at reached.
          let here = reached_spot old new k.keeps k.outputs before after fragments variables reached a b spot refl refl in
          let spread = spread_pair old new k.keeps.fields here.a here.b here.spot.pair q here.stands in
          subst (λ o. SpreadHolds (Some new) [] after others o q.value.value) (sym here.here)
          (spread_still here.a here.b here.spot spread.0 q spread.2 (here.spot.holds.spreads spread.0 (Some here.a.ty) (standing_at spread.1)));
    }
