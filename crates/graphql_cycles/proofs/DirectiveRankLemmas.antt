-- What the ranks of directive definitions and types say: a definition that refers only to lower ranks is on no cycle.
use Rattle.std.proofs.Common.{◌≡◌, ℕ, ◌+◌, List, [], ◌∷◌, Option, None, Some, All, arith, refl, sym, subst, ◌∙◌}
use Rattle.std.specs.Prelude.{option_map}
use Rattle.std.specs.Map.{lookup}
use Rattle.std.proofs.lemmas.List.Elements.{All-cons, All-get_or, All-head, All-nil, All-weaker}
use Rattle.std.proofs.lemmas.Map.Entries.{place_from_lookup}
use Rattle.std.proofs.lemmas.Option.{get_or_from_slice_get, none-some, same_Some, slice_get_within}
use Rattle.graphql_nodes.specs.Names.{NameText, SameName, same_name}
use Rattle.graphql_nodes.specs.declared.nodes.Node.{Node}
use Rattle.graphql_documents.proofs.ListLemmas.{All-append_right}
use Rattle.graphql_documents.specs.Directives.{directive_definition}
use Rattle.graphql_documents.specs.Paths.{Path, path_of_one, path_of_more}
use Rattle.graphql_documents.specs.Schemas.{type_definition}
use Rattle.graphql_documents.specs.declared.documents.definitions.DirectiveDefinition.{DirectiveDefinition}
use Rattle.graphql_documents.specs.declared.documents.schemas.Schema.{Schema}
use Rattle.graphql_specification.specs.DirectiveCycles.{AppliesBack, DirectiveHasNoCycle, PartRefersBy, SchemaPart, SchemaReference, by_directive, by_type, directive_part, part_of, type_part}
use Rattle.graphql_name_tables.specs.Places.{place_under}
use Rattle.graphql_cycles.specs.DirectiveLevels.{ArePartLevels, PartLeadsLower, reference_level}
use Rattle.graphql_cycles.specs.DirectiveRanks.{ArePartRanks, DirectiveEntryLeadsNoHigher, LeadsNoHigher, TypeEntryLeadsNoHigher}
use Rattle.graphql_cycles.specs.Levels.{IsLower}
use Rattle.graphql_cycles.specs.declared.directive_levels.PartLevels.{PartLevels}
use Rattle.graphql_cycles.proofs.LevelLemmas.{one_level}

-- levels are ranks
pub ranks_of_levels : {schema : Schema} {levels : PartLevels} {most : ℕ} → ArePartLevels schema levels most → ArePartRanks schema levels
ranks_of_levels are = record {
  no_higher = λ r part is i at q by. let (j, there, less) = are.lower r part i is at q by in (j, there, omega arith);
}

module _ {schema : Schema} {ranks : PartLevels} (are : ArePartRanks schema ranks) where
  -- each reference on a path leads to a rank below what the first one leads below
  along : {d : SchemaPart} {rs : List SchemaReference} {i : ℕ} → Path PartRefersBy (part_of schema) d rs → PartLeadsLower ranks i d →
      All (IsLower (reference_level ranks) i) rs
  along {i = i} (path_of_one {r = r} by) leads = All-cons (IsLower (reference_level ranks) i) r [] (leads r by) (All-nil (IsLower (reference_level ranks) i))
  along {i = i} (path_of_more {next = next} {r = r} {rs = rs} by is rest) leads =
      let (j, at, less) = leads r by in
      All-cons (IsLower (reference_level ranks) i) r rs (j, at, less)
      (All-weaker (IsLower (reference_level ranks) (j + 1)) (IsLower (reference_level ranks) i)
      (λ q lower. let (k, there, fewer) = lower in (k, there, omega arith)) rs (along rest (are.no_higher r next is j at)))

  module _ (d : Node DirectiveDefinition) (own : ℕ) (at : place_under ranks.directives d.value.value.name ≡ Some own) (lower : PartLeadsLower ranks own (directive_part d)) where
    -- a reference back to the definition has its rank
    own_rank : (last : SchemaReference) (j : ℕ) → AppliesBack (directive_part d) last → reference_level ranks last ≡ Some j → j ≡ own
    own_rank (by_directive r) j is_back there = same_Some j own (sym there ∙ one_level ranks.directives r.value.value.name d.value.value.name is_back ∙ at)
    own_rank (by_type name) j is_back there = absurd is_back

    -- so none leads back to a definition that refers only to lower ranks than its own
    pub ranked_no_way_back : DirectiveHasNoCycle schema d
    ranked_no_way_back path cycle =
        let P = IsLower (reference_level ranks) own in
        let all = subst (All P) cycle.ends (along cycle.is_path lower) in
        let (j, there, less) = All-head P cycle.last [] (All-append_right P cycle.before (cycle.last ∷ []) all) in
        let same : j ≡ own = own_rank cycle.last j cycle.is_back there in
        omega arith

-- what holds of each entry holds of the one that is found
found_entry : {V : Type 0} (P : NameText × V → Type 0) (name : NameText) (es : List (NameText × V)) (v : V) → All P es → lookup (same_name name) es ≡ Some v →
    (key : NameText) × P (key, v) × SameName name key
found_entry P name es v all is =
    let (i, key, at, passes) = place_from_lookup (same_name name) es v is in
    (key, subst P (get_or_from_slice_get es i (key, v) (key, v) at) (All-get_or P es i (key, v) (slice_get_within es i (key, v) at) all), passes)

-- what is found is a definition that was found
from_mapped : {X Y : Type 0} (f : X → Y) (o : Option X) (y : Y) → option_map f o ≡ Some y → (x : X) × (o ≡ Some x) × (f x ≡ y)
from_mapped f None y is = absurd (none-some y is)
from_mapped f (Some x) y is = (x, refl, same_Some (f x) y is)

-- what was tested of each definition
module _ (schema : Schema) (ranks : PartLevels) (directives : All (DirectiveEntryLeadsNoHigher ranks) schema.directive_definitions.entries)
    (types : All (TypeEntryLeadsNoHigher ranks) schema.types.entries) where
  tested : (r : SchemaReference) (part : SchemaPart) → part_of schema r ≡ Some part → LeadsNoHigher ranks (reference_level ranks r) part
  tested (by_directive a) part is i at =
      let name = a.value.value.name in
      let (d, found, same) = from_mapped directive_part (directive_definition schema name) part is in
      let (key, leads, passes) = found_entry (DirectiveEntryLeadsNoHigher ranks) name schema.directive_definitions.entries d directives found in
      subst (PartLeadsLower ranks (i + 1)) same (leads i (sym (one_level ranks.directives name key passes) ∙ at))
  tested (by_type name) part is i at =
      let (d, found, same) = from_mapped type_part (type_definition schema name) part is in
      let (key, leads, passes) = found_entry (TypeEntryLeadsNoHigher ranks) name schema.types.entries d types found in
      subst (PartLeadsLower ranks (i + 1)) same (leads i (sym (one_level ranks.types name key passes) ∙ at))

  pub are_ranks : ArePartRanks schema ranks
  are_ranks = record { no_higher = tested }
