-- Fields that are compared when a type has its turn.
use Rattle.std.proofs.Common.{◌≡◌, ℕ, Bool, bytes_eq, true, false, not, List, Option, None, Some, refl, ap, ◌∙◌, inl, inr}
use Rattle.std.specs.Prelude.{◌⊎◌}
use Rattle.graphql_documents.specs.Schemas.{type_definition}
use Rattle.graphql_documents.specs.declared.documents.schemas.ExtendedType.{ExtendedType}
use Rattle.graphql_documents.specs.declared.documents.schemas.ExtendedType.TheVariants.{Object}
use Rattle.graphql_documents.specs.declared.documents.schemas.Schema.{Schema}
use Rattle.graphql_laws.proofs.SchemaLaws.{one_type_found}
use Rattle.graphql_nodes.proofs.NameLemmas.{same_name_back, same_name_then, same_text}
use Rattle.graphql_nodes.specs.Names.{NameText, SameName, same_name}
use Rattle.graphql_specification.specs.Merging.{MayOverlap, ParentsMayOverlap}
use Rattle.graphql_pair_merging.specs.NumberedSets.{field_of}
use Rattle.graphql_pair_merging.specs.Parents.{IsInTurn, may_overlap_others}
use Rattle.graphql_pair_merging.specs.declared.numbered_sets.NumberedField.{NumberedField}

module _ (schema : Schema) where
  -- what is so under a name is so under one that is the same
  pub others_alike : (a b : NameText) → SameName a b → may_overlap_others a (type_definition schema a) ≡ may_overlap_others b (type_definition schema b)
  others_alike a b same = by (type_definition schema a) ∙ ap (may_overlap_others b) (one_type_found schema a b same) where
    by : (o : Option ExtendedType) → may_overlap_others a o ≡ may_overlap_others b o
    by None = refl
    by (Some (Object d)) = ap (λ (text : List ℕ). not (bytes_eq d.value.value.name.text text)) (same_text a b same)
    by (Some d) = refl

  module _ (x y : NumberedField) where
    of_types : (a b : ExtendedType) → type_definition schema (field_of x).parent ≡ Some a → type_definition schema (field_of y).parent ≡ Some b → MayOverlap a b →
        IsInTurn schema x y ⊎ IsInTurn schema y x
    of_types (Object a) (Object b) first second same = by (same_name a.value.value.name (field_of x).parent) (same_name b.value.value.name (field_of y).parent) refl refl where
      by : (p q : Bool) → same_name a.value.value.name (field_of x).parent ≡ p → same_name b.value.value.name (field_of y).parent ≡ q → IsInTurn schema x y ⊎ IsInTurn schema y x
      by false q other _ = inl (inr (ap (may_overlap_others (field_of x).parent) first ∙ ap not other))
      by true false _ other = inr (inr (ap (may_overlap_others (field_of y).parent) second ∙ ap not other))
      by true true own own' =
          inl (inl (same_name_then (field_of y).parent b.value.value.name (field_of x).parent (same_name_back b.value.value.name (field_of y).parent own')
          (same_name_then b.value.value.name a.value.value.name (field_of x).parent (same_name_back a.value.value.name b.value.value.name same) own)))
    of_types (Object a) b first second both = inr (inr (ap (may_overlap_others (field_of y).parent) second ∙ both.1))
    of_types a b first second both = inl (inr (ap (may_overlap_others (field_of x).parent) first ∙ both.0))

    -- fields whose parents overlap are compared when one of the two has its turn
    pub in_turn : ParentsMayOverlap schema (field_of x) (field_of y) → IsInTurn schema x y ⊎ IsInTurn schema y x
    in_turn h = of_types h.first h.second h.first_is h.second_is h.overlap
