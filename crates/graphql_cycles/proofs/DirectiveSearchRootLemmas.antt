-- How a search for cycles of directives begins at its root, and what it found there.
use Rattle.std.proofs.Common.{◌≡◌, ◌+◌, ◌⊎◌, inl, inr, List, [], ◌∷◌, ◌++◌, length, map, sym, ap, subst, arith, Contains}
use Rattle.std.specs.Prelude.{IsTrue, filter_map}
use Rattle.std.specs.Borrow.{Bor}
use Rattle.std.specs.declared.alloc.Global.{Global}
use Rattle.std.specs.declared.vec.Vec.{Vec}
use Rattle.std.proofs.lemmas.List.Quantifiers.{all_pairs_push}
use Rattle.graphql_specification.specs.DirectiveCycles.{directive_depth_limit, AppliesBack, DirectiveHasNoCycle, HasLongDirectivePath, HasLongTypePath, PartRefersBy, SchemaReference, applied, directive_part, named, part_of, references_of}
use Rattle.graphql_nodes.specs.Names.{AreDistinct, DifferentNames, NameText, stands_on}
use Rattle.graphql_documents.specs.declared.documents.definitions.DirectiveDefinition.{DirectiveDefinition}
use Rattle.graphql_documents.specs.declared.documents.directives.Directive.{Directive}
use Rattle.graphql_nodes.specs.declared.nodes.Node.{Node}
use Rattle.graphql_documents.specs.declared.documents.schemas.Schema.{Schema}
use Rattle.graphql_guards.specs.Guards.{path_limit, path_of}
use Rattle.graphql_guards.specs.declared.recursion.CycleError.{CycleError}
use Rattle.graphql_guards.specs.declared.recursion.CycleError.TheVariants.{Recursed, Limit, Memory}
use Rattle.graphql_cycles.proofs.CycleLemmas.{closed_no_way_back, cycle_of, goes_far_wider, leads_back_wider, path_of_way}
use Rattle.graphql_cycles.proofs.SeenNameLemmas.{nothing_seen}
use Rattle.graphql_cycles.specs.CycleSearches.{LeadsBack, Traces}
use Rattle.graphql_variables.proofs.SelectionWalkLemmas.{stands_either}
use Rattle.graphql_cycles.specs.DirectiveSearches.{BeginsAt, ClosesFrom, IsBeginning, IsSeenIn, LeadsToError, SchemaName, StopsBy, of_directive, of_type}
use Rattle.graphql_cycles.specs.declared.directives.DirectiveSearch.{DirectiveSearch}
use Rattle.graphql_cycles.specs.declared.directives.Progress.{Progress}
use Rattle.graphql_cycles.proofs.DirectiveSearchLemmas.{names_on}

none_alike : AreDistinct []
none_alike = λ i j d before within. absurd (let no : ⊥ = omega arith in no)

-- a search begins with the root alone on its path, and has seen nothing
pub begins_at_root : (search : DirectiveSearch) (progress : Progress) → path_of progress.directive_path ≡ search.root.now.value.value.name ∷ [] →
    path_limit progress.directive_path ≡ directive_depth_limit → path_of progress.type_path ≡ [] → BeginsAt search progress
begins_at_root search progress alone limit nowhere =
    let own = search.root.now.value.value.name in
    let none : (n : NameText) → ¬ IsTrue (stands_on [] n) = λ n on. let no : ⊥ = cc in no in
    record {
      directives = record {
        distinct = subst AreDistinct (sym alone) (all_pairs_push DifferentNames [] own none_alike (λ k d within. absurd (let no : ⊥ = omega arith in no)));
        fits = omega (arith, ap length alone, limit);
        known = λ n on. elim (stands_either [] own n (subst (λ l. IsTrue (stands_on l n)) alone on)) [ inl before ↦ absurd (none n before) | inr same ↦ inl same ];
      };
      types = record {
        distinct = subst AreDistinct (sym nowhere) none_alike;
        fits = omega (arith, ap length nowhere);
        known = λ n on. absurd (none n (subst (λ l. IsTrue (stands_on l n)) nowhere on));
      };
    }

pub nothing_seen_in : (directives types : List (Bor NameText)) → directives ≡ [] → types ≡ [] → (k : SchemaName) → ¬ IsSeenIn directives types k
nothing_seen_in directives types no_directives no_types (of_directive n) seen = nothing_seen directives no_directives n seen
nothing_seen_in directives types no_directives no_types (of_type n) seen = nothing_seen types no_types n seen

-- from there, what leads back is a cycle
pub root_leads : (schema : Schema) (d : Node DirectiveDefinition) (references : List SchemaReference) (progress : Progress) (trace : Vec (Node Directive) Global) →
    references ≡ references_of (directive_part d) → StopsBy schema d references progress (Recursed trace) →
    LeadsBack PartRefersBy (part_of schema) (AppliesBack (directive_part d)) (PartRefersBy (directive_part d)) (λ way. Traces trace.items (filter_map applied way))
root_leads schema d references progress trace same stops = leads_back_wider (λ r among. subst (λ l. Contains l r) same among) stops

-- and a way that passes a path is long
pub root_goes_far : (schema : Schema) (d : Node DirectiveDefinition) (references : List SchemaReference) (progress : Progress) → references ≡ references_of (directive_part d) →
    path_of progress.directive_path ≡ d.value.value.name ∷ [] → path_limit progress.directive_path ≡ directive_depth_limit →
    path_of progress.type_path ≡ [] → path_limit progress.type_path ≡ directive_depth_limit → StopsBy schema d references progress Limit →
    HasLongDirectivePath schema d (directive_depth_limit + 1) ⊎ HasLongTypePath schema d (directive_depth_limit + 1)
root_goes_far schema d references progress same alone limit nowhere type_limit stops =
    let far = goes_far_wider {more = PartRefersBy (directive_part d)} (λ r among. subst (λ l. Contains l r) same among) stops in
    elim far.is_long [
      | inl visited ↦
          inl (
            far.way,
            path_of_way far.is_way,
            names_on (d.value.value.name ∷ []) (path_of progress.directive_path) directive_depth_limit (path_limit progress.directive_path)
                (map (λ (r : Node Directive). r.value.value.name) (filter_map applied far.way)) alone limit visited,
          )
      | inr visited ↦
          inr (
            far.way,
            path_of_way far.is_way,
            names_on [] (path_of progress.type_path) directive_depth_limit (path_limit progress.type_path) (filter_map named far.way) nowhere type_limit visited,
          )
    ]

-- what a search from the arguments of a definition found, by why it stopped or by what it has seen
pub stops_from_root : (schema : Schema) (d : Node DirectiveDefinition) (references : List SchemaReference) (old : Progress) → references ≡ references_of (directive_part d) →
    IsBeginning d.value.value.name old → (e : CycleError Directive) → StopsBy schema d references old e → LeadsToError schema d e
stops_from_root schema d references old same begins (Recursed trace) stops =
    let leads = root_leads schema d references old trace same stops in
    (leads.before ++ leads.last ∷ [], cycle_of {IsBack = AppliesBack} (directive_part d) leads, leads.shows)
stops_from_root schema d references old same begins Limit stops =
    root_goes_far schema d references old same begins.directives begins.directive_limit begins.types begins.type_limit stops
stops_from_root schema d references old same begins Memory stops = stops

pub closes_from_root : (schema : Schema) (d : Node DirectiveDefinition) (references : List SchemaReference) (old new : Progress) → references ≡ references_of (directive_part d) →
    IsBeginning d.value.value.name old → ClosesFrom schema d references old new → DirectiveHasNoCycle schema d
closes_from_root schema d references old new same begins closes =
    closed_no_way_back {IsBack = AppliesBack} (directive_part d)
    (nothing_seen_in old.seen_directives.keys old.seen_types.keys begins.no_directives begins.no_types)
    (subst (λ l. ClosesFrom schema d l old new) same closes)
