-- Searches for cycles of directives, for the contracts of private functions.
use Rattle.std.specs.Prelude.{◌≡◌, ◌+◌, ◌≤◌, ◌⊎◌, ⊤, ℕ, List, [], ◌∷◌, ◌++◌, Contains, IsTrue, Result, MatchResult, filter_map, length, map}
use Rattle.std.specs.Borrow.{Bor}
use Rattle.graphql_specification.specs.DirectiveCycles.{directive_depth_limit, AppliesBack, HasLongDirectivePath, HasLongTypePath, IsDirectiveCycle, PartRefersBy, SchemaReference, applied, by_directive, by_type, directive_part, named, part_of}
use Rattle.graphql_nodes.specs.Names.{AreDistinct, HasDifferentNames, NameText, stands_on}
use Rattle.graphql_documents.specs.declared.documents.definitions.DirectiveDefinition.{DirectiveDefinition}
use Rattle.graphql_documents.specs.declared.documents.directives.Directive.{Directive}
use Rattle.graphql_nodes.specs.declared.nodes.Node.{Node}
use Rattle.graphql_documents.specs.declared.documents.schemas.Schema.{Schema}
use Rattle.graphql_guards.specs.Guards.{path_limit, path_of}
use Rattle.graphql_guards.specs.declared.recursion.CycleError.{CycleError}
use Rattle.graphql_guards.specs.declared.recursion.CycleError.TheVariants.{Recursed, Limit, Memory}
use Rattle.graphql_cycles.specs.CycleSearches.{Closes, GoesFar, IsSeen, LeadsBack, StandsOn, Traces}
use Rattle.graphql_cycles.specs.declared.directives.DirectiveSearch.{DirectiveSearch}
use Rattle.graphql_cycles.specs.declared.directives.Progress.{Progress}

-- the name of a directive, or of a type
pub data SchemaName : Type 0 where
  of_directive : NameText → SchemaName
  of_type : NameText → SchemaName

-- the name to which a reference leads
abbrev pub name_in : SchemaReference → SchemaName
name_in (by_directive d) = of_directive d.value.value.name
name_in (by_type name) = of_type name

-- the name is among those of directives, or among those of types
abbrev pub IsSeenIn : (directives types : List (Bor NameText)) → SchemaName → Type 0
IsSeenIn directives types (of_directive name) = IsSeen directives name
IsSeenIn directives types (of_type name) = IsSeen types name

-- a search has seen the name
abbrev pub IsSeenBy : Progress → SchemaName → Type 0
IsSeenBy progress = IsSeenIn progress.seen_directives.keys progress.seen_types.keys

-- the names of a path differ, are no more than its limit, and were all seen
pub record StandsSeen (path : List NameText) (limit : ℕ) (seen : List (Bor NameText)) : Type 0 where
  pub distinct : AreDistinct path
  pub fits : length path ≤ limit
  pub known : (name : NameText) → IsTrue (stands_on path name) → IsSeen seen name

-- a search begins with paths that hold the names that they should
pub record BeginsAt (search : DirectiveSearch) (progress : Progress) : Type 0 where
  pub directives : StandsOn search.root.now.value.value.name (path_of progress.directive_path) (path_limit progress.directive_path) progress.seen_directives.keys
  pub types : StandsSeen (path_of progress.type_path) (path_limit progress.type_path) progress.seen_types.keys

-- the beginning of a search: the root is on the path of directives, and no name was seen
pub record IsBeginning (root : NameText) (progress : Progress) : Type 0 where
  pub directives : path_of progress.directive_path ≡ root ∷ []
  pub directive_limit : path_limit progress.directive_path ≡ directive_depth_limit
  pub types : path_of progress.type_path ≡ []
  pub type_limit : path_limit progress.type_path ≡ directive_depth_limit
  pub no_directives : progress.seen_directives.keys ≡ []
  pub no_types : progress.seen_types.keys ≡ []

-- the paths, and how many names they may hold, are the same
pub record KeepsPaths (old new : Progress) : Type 0 where
  pub directives : path_of new.directive_path ≡ path_of old.directive_path
  pub directive_limit : path_limit new.directive_path ≡ path_limit old.directive_path
  pub types : path_of new.type_path ≡ path_of old.type_path
  pub type_limit : path_limit new.type_path ≡ path_limit old.type_path

-- behind the paths, a way has more directives or more types of different names than they may hold
abbrev pub PassesPaths : Progress → List SchemaReference → Type 0
PassesPaths progress way =
    HasDifferentNames (path_limit progress.directive_path + 1)
    (path_of progress.directive_path ++ map (λ r. r.value.value.name) (filter_map applied way)) ⊎
    HasDifferentNames (path_limit progress.type_path + 1) (path_of progress.type_path ++ filter_map named way)

-- why a search that began with these references stopped: a way leads back to the root, of which the trace
-- shows the applications, or passes a path
abbrev pub StopsBy : Schema → (root : Node DirectiveDefinition) → List SchemaReference → Progress → CycleError Directive → Type 0
StopsBy schema root references progress (Recursed trace) =
    LeadsBack PartRefersBy (part_of schema) (AppliesBack (directive_part root)) (Contains references)
    (λ way. Traces trace.items (filter_map applied way))
StopsBy schema root references progress Limit = GoesFar PartRefersBy (part_of schema) (Contains references) (PassesPaths progress)
StopsBy schema root references progress Memory = ⊤

-- what it has done
abbrev pub ClosesFrom : Schema → (root : Node DirectiveDefinition) → List SchemaReference → (old new : Progress) → Type 0
ClosesFrom schema root references old new =
    Closes PartRefersBy (part_of schema) name_in (AppliesBack (directive_part root)) (Contains references) (IsSeenBy old) (IsSeenBy new)

abbrev pub SearchesFor : {X : Type 0} → DirectiveSearch → List SchemaReference → (old new : Progress) → Result X (CycleError Directive) → Type 0
SearchesFor search references old new result =
    MatchResult result (λ _. ClosesFrom search.schema.now search.root.now references old new) (StopsBy search.schema.now search.root.now references old)

-- why a search from the arguments of a definition stopped: a cycle, of which the trace shows the applications, or a
-- path of too many directives or types
abbrev pub LeadsToError : Schema → Node DirectiveDefinition → CycleError Directive → Type 0
LeadsToError schema d (Recursed trace) =
    (path : List SchemaReference) × IsDirectiveCycle schema d path × Traces trace.items (filter_map applied path)
LeadsToError schema d Limit = HasLongDirectivePath schema d (directive_depth_limit + 1) ⊎ HasLongTypePath schema d (directive_depth_limit + 1)
LeadsToError schema d Memory = ⊤
