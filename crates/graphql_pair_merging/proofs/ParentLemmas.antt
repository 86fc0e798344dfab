-- Fields whose parents may overlap.
use Rattle.std.proofs.Common.{◌∙◌}
use Rattle.graphql_documents.specs.declared.documents.schemas.ExtendedType.TheVariants.{Object}
use Rattle.graphql_documents.specs.declared.documents.schemas.ExtendedType.{ExtendedType}
use Rattle.graphql_documents.specs.declared.documents.schemas.Schema.{Schema}
use Rattle.graphql_laws.proofs.SchemaLaws.{one_type_found}
use Rattle.graphql_nodes.proofs.NameLemmas.{same_name_back, same_name_itself}
use Rattle.graphql_nodes.specs.Names.{SameName}
use Rattle.graphql_specification.specs.Merging.{FieldSelection, MayOverlap, ParentsMayOverlap}

overlap_back : (a b : ExtendedType) → MayOverlap a b → MayOverlap b a
overlap_back (Object a) (Object b) h = same_name_back a.value.value.name b.value.value.name h
overlap_back x (Object b) h = (h.1, h.0)
overlap_back x y h = (h.1, h.0)

overlap_itself : (a b : ExtendedType) → MayOverlap a b → MayOverlap a a
overlap_itself (Object a) b h = same_name_itself a.value.value.name
overlap_itself x b h = (h.0, h.0)

module _ (schema : Schema) where
  pub parents_back : (x y : FieldSelection) → ParentsMayOverlap schema x y → ParentsMayOverlap schema y x
  parents_back x y h = record {
    first = h.second;
    second = h.first;
    first_is = h.second_is;
    second_is = h.first_is;
    overlap = overlap_back h.first h.second h.overlap;
  }

  pub parents_itself : (x y : FieldSelection) → ParentsMayOverlap schema x y → ParentsMayOverlap schema x x
  parents_itself x y h = record {
    first = h.first;
    second = h.first;
    first_is = h.first_is;
    second_is = h.first_is;
    overlap = overlap_itself h.first h.second h.overlap;
  }

  -- what overlaps is the same of fields on types of the same names
  pub parents_alike : (x y u v : FieldSelection) → SameName u.parent x.parent → SameName v.parent y.parent → ParentsMayOverlap schema x y → ParentsMayOverlap schema u v
  parents_alike x y u v first second h = record {
    first = h.first;
    second = h.second;
    first_is = one_type_found schema u.parent x.parent first ∙ h.first_is;
    second_is = one_type_found schema v.parent y.parent second ∙ h.second_is;
    overlap = h.overlap;
  }
