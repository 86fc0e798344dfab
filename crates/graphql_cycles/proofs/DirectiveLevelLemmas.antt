-- What the levels of directive definitions and types say of the paths of references from them.
use Rattle.std.proofs.Common.{◌≡◌, ℕ, ◌+◌, ◌≤◌, ◌⊎◌, List, [], ◌∷◌, Option, None, Some, All, IsTrue, arith, length, map, sym, ap, ◌∙◌, subst}
use Rattle.std.specs.Prelude.{Err, IfOk, Ok, Result, filter_map, option_map}
use Rattle.std.specs.List.{cons_option}
use Rattle.std.proofs.lemmas.List.{length-map}
use Rattle.std.proofs.lemmas.List.Elements.{All-contains, All-head, All-map, All-weaker}
use Rattle.std.proofs.lemmas.Option.{same_Some}
use Rattle.graphql_nodes.specs.Names.{DifferentNames, NameText, stands_on}
use Rattle.graphql_nodes.specs.declared.nodes.Node.{Node}
use Rattle.graphql_documents.specs.declared.documents.definitions.DirectiveDefinition.{DirectiveDefinition}
use Rattle.graphql_documents.specs.declared.documents.schemas.Schema.{Schema}
use Rattle.graphql_documents.proofs.ListLemmas.{All-append_right}
use Rattle.graphql_specification.specs.DirectiveCycles.{AppliesBack, DirectiveHasNoCycle, HasLongDirectivePath, HasLongTypePath, SchemaPart, SchemaReference, applied, by_directive, by_type, directive_part, named, part_of, references_of, type_part}
use Rattle.graphql_name_tables.specs.Places.{place_under}
use Rattle.graphql_cycles.specs.DirectiveLevels.{ArePartLevels, DirectiveLeadsLowerUnder, PartLeadsLower, ReferenceIsLower, TypeLeadsLowerUnder, reference_level}
use Rattle.graphql_cycles.specs.Levels.{AddsLevel, IsLower}
use Rattle.graphql_cycles.specs.References.{reference_of}
use Rattle.graphql_cycles.specs.declared.directive_levels.PartLevels.{PartLevels}
use Rattle.graphql_cycles.specs.declared.schema_references.Reference.{Reference}
use Rattle.graphql_cycles.proofs.DifferentNameLemmas.{differs_from_itself, no_more}
use Rattle.graphql_cycles.proofs.DirectiveSearchLemmas.{one_directive_found}
use Rattle.graphql_cycles.proofs.InputObjectSearchLemmas.{one_type_found}
use Rattle.graphql_cycles.proofs.LevelLemmas.{below_added, below_more, level_more, lower_along, named_in, no_longer, one_level}

-- what follows where a call answers
pub where_ok : {T E : Type 0} {P Q : T → Type 0} (r : Result T E) → ((v : T) → P v → Q v) → IfOk r P → IfOk r Q
where_ok (Ok v) follows p = follows v p
where_ok (Err e) follows p = tt

-- a list of what is made of some elements is no longer than these
module _ {X Y : Type 0} (h : X → Option Y) where
  fewer_with : (o : Option Y) (ys : List Y) (n : ℕ) → length ys ≤ n → length (cons_option o ys) ≤ n + 1
  fewer_with None ys n le = omega arith
  fewer_with (Some y) ys n le = omega arith

  fewer : (xs : List X) → length (filter_map h xs) ≤ length xs
  fewer [] = omega arith
  fewer (x ∷ xs) = omega (arith, fewer_with (h x) (filter_map h xs) (length xs) (fewer xs))

module _ (levels : PartLevels) where
  -- a definition whose references were looked at one by one
  pub leads_lower : (part : SchemaPart) (bound : ℕ) (references : List Reference) → map reference_of references ≡ references_of part →
      All (ReferenceIsLower levels bound) references → PartLeadsLower levels bound part
  leads_lower part bound references are all r by =
      let P = IsLower (reference_level levels) bound in
      let each = All-weaker (ReferenceIsLower levels bound) (λ r. P (reference_of r)) (λ r is. is.lower) references all in
      All-contains P (references_of part) r (subst (All P) are (All-map P reference_of references each)) by

  module _ (schema : Schema) (are : ArePartLevels schema levels 32) (d : Node DirectiveDefinition) (own : ℕ)
      (at : place_under levels.directives d.value.value.name ≡ Some own) (lower : PartLeadsLower levels own (directive_part d)) where
    -- a reference back to the definition has its level
    back : (last : SchemaReference) (j : ℕ) → AppliesBack (directive_part d) last → reference_level levels last ≡ Some j → j ≡ own
    back (by_directive r) j is_back there =
        same_Some j own (sym there ∙ one_level levels.directives r.value.value.name d.value.value.name is_back ∙ at)
    back (by_type name) j is_back there = absurd is_back

    -- no path of references leads back to a definition of a level
    pub no_way_back : DirectiveHasNoCycle schema d
    no_way_back path cycle =
        let P = IsLower (reference_level levels) own in
        let all = subst (All P) cycle.ends (lower_along are.lower cycle.is_path lower) in
        let (j, there, less) = All-head P cycle.last [] (All-append_right P cycle.before (cycle.last ∷ []) all) in
        let same : j ≡ own = back cycle.last j cycle.is_back there in
        omega arith

    -- none goes through more directives than there are levels, nor through more types
    pub no_longer_directive_path : ¬ HasLongDirectivePath schema d 33
    no_longer_directive_path (path, is_path, (chosen, counted, distinct, among)) =
        let name = d.value.value.name in
        let within = are.directives_below d.value.value.name own at in
        let long = no_longer are.lower is_path lower in
        let fit = no_more chosen (name ∷ map (λ r. r.value.value.name) (filter_map applied path)) DifferentNames differs_from_itself distinct among name in
        omega (arith, length-map (filter_map applied path) (λ r. r.value.value.name), fewer applied path)

    pub no_longer_type_path : ¬ HasLongTypePath schema d 33
    no_longer_type_path (path, is_path, (chosen, counted, distinct, among)) =
        let within = are.directives_below d.value.value.name own at in
        let long = no_longer are.lower is_path lower in
        let fit = no_more chosen (filter_map named path) DifferentNames differs_from_itself distinct among d.value.value.name in
        omega (arith, fewer named path)

-- names of one text have one definition
module _ (schema : Schema) (old new : PartLevels) (n : ℕ) (directives types : List NameText)
    (directives_ready : All (DirectiveLeadsLowerUnder schema old n) directives) (types_ready : All (TypeLeadsLowerUnder schema old n) types)
    (directives_added : AddsLevel old.directives new.directives directives n) (types_added : AddsLevel old.types new.types types n) where
  -- the references to those that come to a level
  abbrev IsReady : SchemaReference → Type 0
  IsReady (by_directive r) = IsTrue (stands_on directives r.value.value.name)
  IsReady (by_type name) = IsTrue (stands_on types name)

  ready : (r : SchemaReference) (d : SchemaPart) → IsReady r → part_of schema r ≡ Some d → PartLeadsLower old n d
  ready (by_directive r) d there is =
      let (k, among, same) = named_in directives r.value.value.name there in
      All-contains (DirectiveLeadsLowerUnder schema old n) directives k directives_ready among d
      (ap (option_map directive_part) (sym (one_directive_found schema r.value.value.name k same)) ∙ is)
  ready (by_type name) d there is =
      let (k, among, same) = named_in types name there in
      All-contains (TypeLeadsLowerUnder schema old n) types k types_ready among d (ap (option_map type_part) (sym (one_type_found schema name k same)) ∙ is)

  kept : (r : SchemaReference) (i : ℕ) → reference_level old r ≡ Some i → reference_level new r ≡ Some i
  kept (by_directive r) i at = directives_added.kept r.value.value.name i at
  kept (by_type name) i at = types_added.kept name i at

  added : (r : SchemaReference) (i : ℕ) → reference_level new r ≡ Some i → (reference_level old r ≡ Some i) ⊎ (IsReady r × (i ≡ n))
  added (by_directive r) i at = directives_added.added r.value.value.name i at
  added (by_type name) i at = types_added.added name i at

  -- a level more
  pub part_level_more : ArePartLevels schema old n → ArePartLevels schema new (n + 1)
  part_level_more levels = record {
    lower = level_more IsReady ready kept added levels.lower;
    directives_below = below_added directives_added levels.directives_below;
    types_below = below_added types_added levels.types_below;
  }

-- levels below a bound are below a larger one
pub parts_within : {schema : Schema} {levels : PartLevels} {most bound : ℕ} → most ≤ bound → ArePartLevels schema levels most → ArePartLevels schema levels bound
parts_within {levels = levels} le are = record {
  lower = are.lower;
  directives_below = below_more levels.directives le are.directives_below;
  types_below = below_more levels.types le are.types_below;
}
