-- The root of a subscription holds against a schema in which no further types apply to it. Specification: 5.2.3.1 Single Root Field.
use Rattle.std.proofs.Common.{◌≡◌, ◌∙◌, List, Option, None, Some, refl, sym, ap, ap₂, subst, subst₂}
use Rattle.std.specs.Prelude.{IfSome, unwrap_or}
use Rattle.graphql_nodes.specs.Names.{NameText, SameName}
use Rattle.graphql_nodes.proofs.NameLemmas.{same_name_back, same_name_itself, same_name_then}
use Rattle.graphql_nodes.specs.declared.nodes.Node.{Node}
use Rattle.graphql_nodes.specs.declared.operation_types.OperationType.TheVariants.{Subscription}
use Rattle.graphql_documents.specs.Schemas.{IsListed}
use Rattle.graphql_documents.specs.Selections.{Fragments, InExpandedSet, directives_of, response_key, standing_at}
use Rattle.graphql_documents.specs.declared.documents.components.ComponentName.{ComponentName}
use Rattle.graphql_documents.specs.declared.documents.definitions.VariableDefinition.{VariableDefinition}
use Rattle.graphql_documents.specs.declared.documents.executables.Selection.{Selection}
use Rattle.graphql_documents.specs.declared.documents.executables.Selection.TheVariants as kind
use Rattle.graphql_documents.specs.declared.documents.executables.SelectionSet.{SelectionSet}
use Rattle.graphql_documents.specs.declared.documents.schemas.Schema.{Schema}
use Rattle.graphql_document_building.specs.Trees.{root_name}
use Rattle.graphql_document_building.specs.SameLeaves.{SameDirective}
use Rattle.graphql_frontend.specs.SingleRootField.{SubscriptionRootHolds}
use Rattle.graphql_specification.specs.CollectFields.{AppliesTo, CollectedFrom, applies_interface, applies_itself, applies_union, collected_here, collected_in_inline_fragment, collected_in_spread}
use Rattle.graphql_specification.specs.Fragments.{NamesComposite}
use Rattle.graphql_specification.specs.Merging.{FieldSelection}
use Rattle.graphql_specification.specs.Subscriptions.{has_condition, is_conditional, is_introspection}
use Rattle.graphql_sameness_laws.proofs.ZipLemmas.{zip_list_any}
use Rattle.graphql_kept_rules.proofs.NameLemmas.{one_type}
use Rattle.graphql_kept_rules.proofs.PairedDocumentLemmas.{PairedFragments}
use Rattle.graphql_kept_rules.proofs.SaidTextLemmas.{head_alike, inline_fragment_alike}
use Rattle.graphql_kept_rules.proofs.SchemasKeptLemmas.{SchemasKept}
use Rattle.graphql_kept_rules.proofs.SpotLemmas.{Spot, spot_field, spot_inline, spot_spread}
use Rattle.graphql_kept_rules.proofs.TextFragmentLemmas.{fragments_back}
use Rattle.graphql_kept_rules.proofs.TextReachLemmas.{inside_too}
use Rattle.graphql_kept_rules.proofs.TextSelectionLemmas.{SameFragments, SameSet, own_directives, same_field_node, set_back}
use Rattle.graphql_kept_rules.specs.SameTexts.{SameSelectionText}

listed_moved : (a b : NameText) (names : List ComponentName) → SameName a b → IsListed a names → IsListed b names
listed_moved a b names same h = (h.0, h.1, h.2, h.3, same_name_then h.1.name a b h.4 same)

applies_moved : (schema : Schema) (o p t u : NameText) → SameName o p → SameName t u → AppliesTo schema o t → AppliesTo schema p u
applies_moved schema o p t u op tu (applies_itself named) =
    applies_itself (same_name_then u t p (same_name_back t u tu) (same_name_then t o p named op))
applies_moved schema o p t u op tu (applies_interface {d = d} {i = i} first second listed) =
    applies_interface (sym (one_type schema o p op) ∙ first) (sym (one_type schema t u tu) ∙ second) (listed_moved t u d.value.value.implements_interfaces.keys tu listed)
applies_moved schema o p t u op tu (applies_union {d = d} {u = w} first second listed) =
    applies_union (sym (one_type schema o p op) ∙ first) (sym (one_type schema t u tu) ∙ second) (listed_moved o p w.value.value.members.keys op listed)

both_conditional : (s t : Selection) → SameSelectionText s t → has_condition (directives_of s) ≡ has_condition (directives_of t)
both_conditional s t same = zip_list_any SameDirective (λ d. is_conditional d.value.value.name) (λ d. is_conditional d.value.value.name)
    (λ x y p. ap is_conditional p.name) (directives_of s) (directives_of t) (own_directives same)

module _ (old new : Schema) (k : SchemasKept old new) (before after : Fragments) (fragments : PairedFragments old new k.keeps before after)
    (variables : List (Node VariableDefinition)) where
  abbrev Here : SelectionSet → SelectionSet → Type 0
  Here a b = Spot old new k.keeps k.outputs before after fragments variables a b

  module _ (root object : NameText) (is_root : root_name old Subscription ≡ Some root) (same : SameName root object) where
    -- a type that applies to the root did before
    applied_before : (ty other : NameText) → NamesComposite old ty → SameName ty other → AppliesTo new object other → AppliesTo old root ty
    applied_before ty other composite named h =
        k.keeps.subscription_root root ty is_root composite (applies_moved new object root other ty (same_name_back root object same) (same_name_back ty other named) h)

    applied_if : (o : Option NameText) → ((condition : NameText) → o ≡ Some condition → NamesComposite old condition) → IfSome o (AppliesTo new object) → IfSome o (AppliesTo old root)
    applied_if None composite h = tt
    applied_if (Some condition) composite h =
        applied_before condition condition (composite condition refl) (same_name_itself condition) h

    record Collected (a : SelectionSet) (x : FieldSelection) : Type 0 where
      y : FieldSelection
      collected : CollectedFrom old before root a y
      key : response_key y.field.value.value ≡ response_key x.field.value.value

    collected_before : {b : SelectionSet} {x : FieldSelection} → CollectedFrom new after object b x → (a : SelectionSet) → Here a b → Collected a x
    collected_before (collected_here {set = b} {x = x} applies stands is) a spot =
        let field = spot_field old new k.keeps k.outputs before after fragments variables a b spot x.field stands in
        let text = head_alike old new a.ty b.ty field.pair.x field.f.value.value x.field.value.value field.pair.before field.pair.after in
        record {
          y = record { parent = a.ty; field = field.f };
          collected = collected_here (applied_before a.ty b.ty spot.composite spot.pair.ty applies) field.stands refl;
          key = ap₂ unwrap_or text.alias text.name;
        }
    collected_before (collected_in_inline_fragment {set = b} {x = x} {i = j} applies stands condition inner) a spot =
        let inline = spot_inline old new k.keeps k.outputs before after fragments variables a b spot j stands in
        let text = inline_fragment_alike a.ty b.ty inline.pair.x inline.i.value.value j.value.value inline.pair.before inline.pair.after in
        let deep = collected_before inner inline.i.value.value.selection_set inline.within in
        record {
          y = deep.y;
          collected = collected_in_inline_fragment (applied_before a.ty b.ty spot.composite spot.pair.ty applies) inline.stands
              (applied_if inline.i.value.value.type_condition
              (λ c is. (spot.holds.inline_fragments inline.i (Some a.ty) (standing_at inline.stands)).target c is old refl)
              (subst (λ o. IfSome o (AppliesTo new object)) (sym text.type_condition) condition)) deep.collected;
          key = deep.key;
        }
    collected_before (collected_in_spread {set = b} {x = x} {p = q} {d = e} applies stands found inner) a spot =
        let spread = spot_spread old new k.keeps k.outputs before after fragments variables a b spot q e stands found in
        let deep = collected_before inner spread.d.value.value.selection_set spread.within in
        record {
          y = deep.y;
          collected = collected_in_spread (applied_before a.ty b.ty spot.composite spot.pair.ty applies) spread.stands spread.is deep.collected;
          key = deep.key;
        }

  pub subscription_still : (texts : SameFragments before after) (a b : SelectionSet) → root_name old Subscription ≡ Some a.ty → Here a b → SameSet a b →
      SubscriptionRootHolds old before a → SubscriptionRootHolds new after b
  subscription_still texts a b is_root spot same h =
      let back = fragments_back before after texts in
      record {
        no_introspection = λ g inside.
            let found = inside_too after before back b (kind.Field g) inside a (set_back same) in
            let f = same_field_node g found.0 found.2 in
            ap is_introspection f.1.head.name ∙ h.no_introspection f.0 (subst (InExpandedSet before a) f.2 found.1);
        no_condition = λ y inside.
            let found = inside_too after before back b y inside a (set_back same) in
            both_conditional y found.0 found.2 ∙ h.no_condition found.0 found.1;
        one_response_key = λ u v first second.
            let x = collected_before a.ty b.ty is_root spot.pair.ty first a spot in
            let y = collected_before a.ty b.ty is_root spot.pair.ty second a spot in
            subst₂ SameName x.key y.key (h.one_response_key x.y y.y x.collected y.collected);
      }
