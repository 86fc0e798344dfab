-- What a search for cycles of directives does at a reference, and how its steps compose.
use Rattle.std.proofs.Common.{◌≡◌, ℕ, ◌+◌, ◌<◌, ◌≤◌, ◌⊎◌, inl, inr, Bool, true, List, [], ◌∷◌, ◌++◌, Some, None, get_or, length, map, not, refl, sym, ap, ◌∙◌, subst, arith, append_assoc, Contains, drop, take}
use Rattle.std.specs.Prelude.{IsFalse, IsTrue, filter_map, option_map}
use Rattle.std.specs.Borrow.{Bor}
use Rattle.std.specs.Str.{bytes_eq}
use Rattle.std.specs.declared.alloc.Global.{Global}
use Rattle.std.specs.declared.vec.Vec.{Vec}
use Rattle.indexmap.specs.IndexMap.{get_by}
use Rattle.std.proofs.lemmas.Bool.{false_from_ne_true}
use Rattle.std.proofs.lemmas.Option.{none-some, same_Some}
use Rattle.std.proofs.lemmas.List.{map-append}
use Rattle.std.proofs.lemmas.List.Elements.{All-weaker, Contains-append_cases, Contains-append_left, Contains-append_right}
use Rattle.graphql_documents.proofs.ListLemmas.{more_is, only_one, stands_first, stands_mapped}
use Rattle.graphql_nodes.proofs.NameLemmas.{not_both, same_name_back, same_name_itself, same_name_then, same_text}
use Rattle.graphql_documents.specs.Directives.{directive_definition}
use Rattle.graphql_specification.specs.DirectiveCycles.{AppliesBack, SchemaPart, SchemaReference, applied, by_directive, by_type, directive_part, named, part_of, references_of, type_part}
use Rattle.graphql_nodes.specs.Names.{AreDistinct, DifferentNames, HasDifferentNames, NameText, SameName, same_name, stands_on, with_name}
use Rattle.graphql_documents.specs.Schemas.{type_definition}
use Rattle.graphql_documents.specs.declared.documents.definitions.DirectiveDefinition.{DirectiveDefinition}
use Rattle.graphql_documents.specs.declared.documents.directives.Directive.{Directive}
use Rattle.graphql_nodes.specs.declared.nodes.Node.{Node}
use Rattle.graphql_documents.specs.declared.documents.schemas.ExtendedType.{ExtendedType}
use Rattle.graphql_documents.specs.declared.documents.schemas.Schema.{Schema}
use Rattle.graphql_guards.specs.Guards.{HasRoom, Refuses, path_limit, path_of}
use Rattle.graphql_guards.specs.declared.recursion.CycleError.{CycleError}
use Rattle.graphql_guards.specs.declared.recursion.CycleError.TheVariants.{Recursed, Limit, Memory}
use Rattle.graphql_cycles.proofs.CycleLemmas.{closes_below, closes_fewer, closes_nothing, closes_then, goes_far_before, goes_far_here, goes_far_wider, leads_back_before, leads_back_here, leads_back_wider, traces_more}
use Rattle.graphql_cycles.proofs.SeenNameLemmas.{Marked, marked_grows, marked_is_seen, marked_only, names_at, off_path, one_too_many, stands_deeper, stands_still, was_marked}
use Rattle.graphql_cycles.specs.CycleSearches.{GoesOn, IsSeen, StandsOn, Traces}
use Rattle.graphql_variables.proofs.SelectionWalkLemmas.{stands_either}
use Rattle.graphql_variables.proofs.SplitLemmas.{split_at}
use Rattle.graphql_cycles.specs.References.{reference_of}
use Rattle.graphql_cycles.specs.declared.schema_references.Reference.{Reference}
use Rattle.graphql_cycles.proofs.InputObjectSearchLemmas.{one_type_found}
use Rattle.graphql_cycles.specs.DirectiveSearches.{BeginsAt, ClosesFrom, IsSeenBy, KeepsPaths, PassesPaths, SchemaName, StandsSeen, StopsBy, name_in, of_directive, of_type}
use Rattle.graphql_cycles.specs.declared.directives.DirectiveSearch.{DirectiveSearch}
use Rattle.graphql_cycles.specs.declared.directives.Progress.{Progress}

-- two names of a kind are the same
abbrev pub SameKey : SchemaName → SchemaName → Type 0
SameKey (of_directive a) (of_directive b) = SameName a b
SameKey (of_type a) (of_type b) = SameName a b
SameKey (of_directive a) (of_type b) = ⊥
SameKey (of_type a) (of_directive b) = ⊥

same_key_itself : (k : SchemaName) → SameKey k k
same_key_itself (of_directive a) = same_name_itself a
same_key_itself (of_type a) = same_name_itself a

-- names of one text find one definition, of a directive or of a type
pub one_directive_found : (schema : Schema) (a b : NameText) → SameName a b → directive_definition schema a ≡ directive_definition schema b
one_directive_found schema a b same = ap (λ (text : List ℕ). get_by (λ (key : NameText). bytes_eq text key.text) schema.directive_definitions) (same_text a b same)

one_part : (schema : Schema) (s r : SchemaReference) → SameKey (name_in s) (name_in r) → part_of schema s ≡ part_of schema r
one_part schema (by_directive a) (by_directive b) same = ap (option_map directive_part) (one_directive_found schema a.value.value.name b.value.value.name same)
one_part schema (by_type a) (by_type b) same = ap (option_map type_part) (one_type_found schema a b same)
one_part schema (by_directive a) (by_type b) same = absurd same
one_part schema (by_type a) (by_directive b) same = absurd same

-- references of one name lead back together
no_way_back : (root : Node DirectiveDefinition) (s r : SchemaReference) → SameKey (name_in s) (name_in r) → (¬ AppliesBack (directive_part root) r) →
    ¬ AppliesBack (directive_part root) s
no_way_back root (by_directive a) (by_directive b) same away back =
    away (same_name_then b.value.value.name a.value.value.name root.value.value.name (same_name_back a.value.value.name b.value.value.name same) back)
no_way_back root (by_type a) r same away back = absurd back
no_way_back root (by_directive a) (by_type b) same away back = absurd same

-- a name was not seen, and was marked
pub record MarkedBy (k : SchemaName) (old new : Progress) : Type 0 where
  pub grows : (j : SchemaName) → IsSeenBy old j → IsSeenBy new j
  pub seen : (j : SchemaName) → SameKey j k → IsSeenBy new j
  pub only : (j : SchemaName) → IsSeenBy new j → IsSeenBy old j ⊎ SameKey j k

pub directive_marked : {name : NameText} {old new : Progress} → Marked name old.seen_directives.keys new.seen_directives.keys →
    new.seen_types.keys ≡ old.seen_types.keys → MarkedBy (of_directive name) old new
directive_marked {name = name} {old = old} {new = new} m rest = record { grows = grows; seen = seen; only = only } where
  grows : (j : SchemaName) → IsSeenBy old j → IsSeenBy new j
  grows (of_directive n) h = marked_grows m n h
  grows (of_type n) h = subst (λ l. IsSeen l n) (sym rest) h

  seen : (j : SchemaName) → SameKey j (of_directive name) → IsSeenBy new j
  seen (of_directive n) same = marked_is_seen m n same
  seen (of_type n) same = absurd same

  only : (j : SchemaName) → IsSeenBy new j → IsSeenBy old j ⊎ SameKey j (of_directive name)
  only (of_directive n) h = marked_only m n h
  only (of_type n) h = inl (subst (λ l. IsSeen l n) rest h)

pub type_marked : {name : NameText} {old new : Progress} → Marked name old.seen_types.keys new.seen_types.keys →
    new.seen_directives.keys ≡ old.seen_directives.keys → MarkedBy (of_type name) old new
type_marked {name = name} {old = old} {new = new} m rest = record { grows = grows; seen = seen; only = only } where
  grows : (j : SchemaName) → IsSeenBy old j → IsSeenBy new j
  grows (of_type n) h = marked_grows m n h
  grows (of_directive n) h = subst (λ l. IsSeen l n) (sym rest) h

  seen : (j : SchemaName) → SameKey j (of_type name) → IsSeenBy new j
  seen (of_type n) same = marked_is_seen m n same
  seen (of_directive n) same = absurd same

  only : (j : SchemaName) → IsSeenBy new j → IsSeenBy old j ⊎ SameKey j (of_type name)
  only (of_type n) h = marked_only m n h
  only (of_directive n) h = inl (subst (λ l. IsSeen l n) rest h)

module _ (schema : Schema) (root : Node DirectiveDefinition) where
  -- a reference whose name was marked, and what its definition refers to was searched
  pub closes_into : (r : SchemaReference) (part : SchemaPart) (references : List SchemaReference) (old mid new : Progress) → MarkedBy (name_in r) old mid →
      (¬ AppliesBack (directive_part root) r) → part_of schema r ≡ Some part → references ≡ references_of part →
      ClosesFrom schema root references mid new → ClosesFrom schema root (r ∷ []) old new
  closes_into r part references old mid new m away found same c =
      closes_below {marked = λ k. SameKey k (name_in r)} m.grows
      (λ s begins. m.seen (name_in s) (subst (λ q. SameKey (name_in q) (name_in r)) (sym (only_one r s begins)) (same_key_itself (name_in r))))
      m.only (λ s one. no_way_back root s r one away)
      (λ s q one next. subst (λ l. Contains l q) (sym (same ∙ ap references_of (same_Some part next.definition (sym found ∙ sym (one_part schema s r one) ∙ next.leads)))) next.refers) c

  -- or it finds nothing
  pub closes_at : (r : SchemaReference) (old mid : Progress) → MarkedBy (name_in r) old mid → (¬ AppliesBack (directive_part root) r) → part_of schema r ≡ None →
      ClosesFrom schema root (r ∷ []) old mid
  closes_at r old mid m away none =
      closes_below {below = λ s. ⊥} {marked = λ k. SameKey k (name_in r)} m.grows
      (λ s begins. m.seen (name_in s) (subst (λ q. SameKey (name_in q) (name_in r)) (sym (only_one r s begins)) (same_key_itself (name_in r))))
      m.only (λ s one. no_way_back root s r one away)
      (λ s q one next. none-some next.definition (sym none ∙ sym (one_part schema s r one) ∙ next.leads)) (closes_nothing (λ s never. absurd never))

  -- one search after another
  pub closes_more : (xs ys : List SchemaReference) (old mid new : Progress) → ClosesFrom schema root xs old mid → ClosesFrom schema root ys mid new →
      ClosesFrom schema root (xs ++ ys) old new
  closes_more xs ys old mid new a b = closes_fewer (λ r among. Contains-append_cases xs ys r among) (closes_then a b)

  -- why a search stopped, seen from further off
  pub stops_wider : (references more : List SchemaReference) (progress : Progress) (e : CycleError Directive) → ((r : SchemaReference) → Contains references r → Contains more r) →
      StopsBy schema root references progress e → StopsBy schema root more progress e
  stops_wider references more progress (Recursed trace) wide s = leads_back_wider wide s
  stops_wider references more progress Limit wide s = goes_far_wider wide s
  stops_wider references more progress Memory wide s = tt

  -- the application leads back itself: its copy is all of the trace
  pub stops_at_root : (a : Node Directive) (progress : Progress) (none : Vec (Node Directive) Global) (after : CycleError Directive) →
      SameName a.value.value.name root.value.value.name → none.items ≡ [] → GoesOn a (Recursed none) after → StopsBy schema root (by_directive a ∷ []) progress after
  stops_at_root a progress none (Recursed more) back empty on =
      let nothing : Traces {T = Directive} [] [] = record { copies = tt } in
      leads_back_here (by_directive a) (stands_first (by_directive a) []) back (traces_more {trace = []} a on.0 (on.1 ∙ ap (λ l. l ++ on.0 ∷ []) empty) on.2 nothing)
  stops_at_root a progress none Limit back empty on = absurd on
  stops_at_root a progress none Memory back empty on = tt

  -- what a way passes behind a reference, it passes with it
  abbrev pub Lengthens : SchemaReference → Progress → Progress → Type 0
  Lengthens r before after = (way : List SchemaReference) → PassesPaths after way → PassesPaths before (r ∷ way)

  -- a search stopped one step on, by an application
  pub stops_behind_application : (a : Node Directive) (part : SchemaPart) (references : List SchemaReference) (before after : Progress) (e traced : CycleError Directive) →
      part_of schema (by_directive a) ≡ Some part → references ≡ references_of part → Lengthens (by_directive a) before after → GoesOn a e traced →
      StopsBy schema root references after e → StopsBy schema root (by_directive a ∷ []) before traced
  stops_behind_application a part references before after (Recursed trace) (Recursed more) found same longer on s =
      leads_back_before (by_directive a) part (stands_first (by_directive a) []) found (λ rs. traces_more a on.0 on.1 on.2)
      (leads_back_wider (λ q among. subst (λ l. Contains l q) same among) s)
  stops_behind_application a part references before after (Recursed trace) Limit found same longer on s = absurd on
  stops_behind_application a part references before after (Recursed trace) Memory found same longer on s = tt
  stops_behind_application a part references before after Limit (Recursed more) found same longer on s = absurd on
  stops_behind_application a part references before after Limit Limit found same longer on s =
      goes_far_before (by_directive a) part (stands_first (by_directive a) []) found longer
      (goes_far_wider (λ q among. subst (λ l. Contains l q) same among) s)
  stops_behind_application a part references before after Limit Memory found same longer on s = tt
  stops_behind_application a part references before after Memory (Recursed more) found same longer on s = absurd on
  stops_behind_application a part references before after Memory Limit found same longer on s = absurd on
  stops_behind_application a part references before after Memory Memory found same longer on s = tt

  -- or by the name of a type
  pub stops_behind_type : (name : NameText) (part : SchemaPart) (references : List SchemaReference) (before after : Progress) (e : CycleError Directive) →
      part_of schema (by_type name) ≡ Some part → references ≡ references_of part → Lengthens (by_type name) before after →
      StopsBy schema root references after e → StopsBy schema root (by_type name ∷ []) before e
  stops_behind_type name part references before after (Recursed trace) found same longer s =
      leads_back_before (by_type name) part (stands_first (by_type name) []) found (λ rs shows. shows)
      (leads_back_wider (λ q among. subst (λ l. Contains l q) same among) s)
  stops_behind_type name part references before after Limit found same longer s =
      goes_far_before (by_type name) part (stands_first (by_type name) []) found longer
      (goes_far_wider (λ q among. subst (λ l. Contains l q) same among) s)
  stops_behind_type name part references before after Memory found same longer s = tt

-- names that are among more
has_more : (count : ℕ) (xs ys : List NameText) → ((n : NameText) → Contains xs n → Contains ys n) → HasDifferentNames count xs → HasDifferentNames count ys
has_more count xs ys among h = (h.0, h.1, h.2, All-weaker (Contains xs) (Contains ys) among h.0 h.3)

-- the same of paths that are the same
pub names_on : (path now : List NameText) (limit bound : ℕ) (names : List NameText) → now ≡ path → bound ≡ limit →
    HasDifferentNames (bound + 1) (now ++ names) → HasDifferentNames (limit + 1) (path ++ names)
names_on path now limit bound names is_path is_limit h =
    subst (λ n. HasDifferentNames (n + 1) (path ++ names)) is_limit (subst (λ l. HasDifferentNames (bound + 1) (l ++ names)) is_path h)

pub stops_on : (schema : Schema) (root : Node DirectiveDefinition) (references : List SchemaReference) (old now : Progress) (e : CycleError Directive) → KeepsPaths old now →
    StopsBy schema root references now e → StopsBy schema root references old e
stops_on schema root references old now (Recursed trace) keeps s = s
stops_on schema root references old now Limit keeps s = record { way = s.way; is_way = s.is_way; is_long = still s.is_long } where
  still : PassesPaths now s.way → PassesPaths old s.way
  still passes = elim passes [
    | inl visited ↦
        inl (names_on (path_of old.directive_path) (path_of now.directive_path) (path_limit old.directive_path) (path_limit now.directive_path)
        (map (λ (r : Node Directive). r.value.value.name) (filter_map applied s.way)) keeps.directives keeps.directive_limit visited)
    | inr visited ↦ inr (names_on (path_of old.type_path) (path_of now.type_path) (path_limit old.type_path) (path_limit now.type_path) (filter_map named s.way) keeps.types keeps.type_limit visited)
  ]
stops_on schema root references old now Memory keeps s = tt

-- an application makes the path of directives longer
pub application_lengthens : (a : Node Directive) (before after : Progress) →
    path_of after.directive_path ≡ path_of before.directive_path ++ a.value.value.name ∷ [] → path_limit after.directive_path ≡ path_limit before.directive_path →
    path_of after.type_path ≡ path_of before.type_path → path_limit after.type_path ≡ path_limit before.type_path →
    (way : List SchemaReference) → PassesPaths after way → PassesPaths before (by_directive a ∷ way)
application_lengthens a before after longer limit types type_limit way passes = elim passes [
  | inl directives ↦
      let behind = map (λ (r : Node Directive). r.value.value.name) (filter_map applied way) in
      inl (subst (HasDifferentNames (path_limit before.directive_path + 1)) (append_assoc (path_of before.directive_path) (a.value.value.name ∷ []) behind)
      (names_on (path_of before.directive_path ++ a.value.value.name ∷ []) (path_of after.directive_path) (path_limit before.directive_path) (path_limit after.directive_path)
      behind longer limit directives))
  | inr visited ↦ inr (names_on (path_of before.type_path) (path_of after.type_path) (path_limit before.type_path) (path_limit after.type_path) (filter_map named way) types type_limit visited)
]

-- the name of a type makes the path of types longer, or is on the way only
pub type_lengthens : (name : NameText) (before after : Progress) →
    path_of after.type_path ≡ path_of before.type_path ++ name ∷ [] → path_limit after.type_path ≡ path_limit before.type_path →
    path_of after.directive_path ≡ path_of before.directive_path → path_limit after.directive_path ≡ path_limit before.directive_path →
    (way : List SchemaReference) → PassesPaths after way → PassesPaths before (by_type name ∷ way)
type_lengthens name before after longer limit directives directive_limit way passes = elim passes [
  | inl visited ↦
      inl (names_on (path_of before.directive_path) (path_of after.directive_path) (path_limit before.directive_path) (path_limit after.directive_path)
      (map (λ (r : Node Directive). r.value.value.name) (filter_map applied way)) directives directive_limit visited)
  | inr types ↦
      inr (subst (HasDifferentNames (path_limit before.type_path + 1)) (append_assoc (path_of before.type_path) (name ∷ []) (filter_map named way))
      (names_on (path_of before.type_path ++ name ∷ []) (path_of after.type_path) (path_limit before.type_path) (path_limit after.type_path) (filter_map named way) longer limit types))
]

pub type_passes : (name : NameText) (before : Progress) (way : List SchemaReference) → PassesPaths before way → PassesPaths before (by_type name ∷ way)
type_passes name before way passes = elim passes [
  | inl visited ↦ inl visited
  | inr types ↦
      let path = path_of before.type_path in
      let behind = filter_map named way in
      inr (has_more (path_limit before.type_path + 1) (path ++ behind) (path ++ name ∷ behind)
      (λ n among. elim (Contains-append_cases path behind n among) [
        | inl first ↦ Contains-append_left path (name ∷ behind) n first
        | inr last ↦ Contains-append_right path (name ∷ behind) n (Contains-append_right (name ∷ []) behind n last)
      ]) types)
]

-- a name with another text
abbrev apart_from : NameText → NameText
apart_from name = record { text = 0 ∷ name.text; location = None }

differs : (name : NameText) → DifferentNames name (apart_from name)
differs name =
    false_from_ne_true (same_name name (apart_from name)) (λ same.
    let longer : length name.text ≡ length (0 ∷ name.text) = ap length (same_text name (apart_from name) same) in
    omega (arith, longer))

-- the names of a path that were all seen, as those of a path with a root that is not there
as_rooted : {path : List NameText} {limit : ℕ} {seen : List (Bor NameText)} (root : NameText) → StandsSeen path limit seen → StandsOn root path limit seen
as_rooted root s = record { distinct = s.distinct; fits = s.fits; known = λ n on. inr (s.known n on) }

module _ {path : List NameText} {limit : ℕ} {old : List (Bor NameText)} (s : StandsSeen path limit old) (name : NameText)
    (unseen : IsFalse (stands_on (names_at old) name)) where
  -- a name that was not seen is not on the path
  pub type_off_path : IsFalse (stands_on path name)
  type_off_path = off_path (as_rooted (apart_from name) s) name unseen (differs name)

  -- it goes on the path
  pub type_deeper : {now : List NameText} {bound : ℕ} {new : List (Bor NameText)} → Marked name old new → length path < limit →
      now ≡ path ++ name ∷ [] → bound ≡ limit → StandsSeen now bound new
  type_deeper {new = new} m room longer same =
      let deeper = stands_still longer same (λ k h. h) (stands_deeper (as_rooted (apart_from name) s) name unseen (differs name) m room) in
      record {
        distinct = deeper.distinct;
        fits = deeper.fits;
        known = λ k on. elim (stands_either path name k (subst (λ l. IsTrue (stands_on l k)) longer on)) [
          | inl before ↦ marked_grows m k (s.known k before)
          | inr last ↦ marked_is_seen m k last
        ];
      }

  -- or makes one name too many
  pub type_too_many : limit ≤ length path → HasDifferentNames (limit + 1) (path ++ name ∷ [])
  type_too_many full = one_too_many (as_rooted (apart_from name) s) name unseen (differs name) full

-- where more was seen, the paths still are
pub types_still : {path now : List NameText} {limit bound : ℕ} {old new : List (Bor NameText)} → now ≡ path → bound ≡ limit →
    ((k : NameText) → IsSeen old k → IsSeen new k) → StandsSeen path limit old → StandsSeen now bound new
types_still is_path is_limit grows s = record {
  distinct = subst AreDistinct (sym is_path) s.distinct;
  fits = omega (arith, ap length is_path, s.fits);
  known = λ k on. grows k (s.known k (subst (λ l. IsTrue (stands_on l k)) is_path on));
}

pub begins_still : (search : DirectiveSearch) (old now : Progress) → KeepsPaths old now → ((k : SchemaName) → IsSeenBy old k → IsSeenBy now k) →
    BeginsAt search old → BeginsAt search now
begins_still search old now keeps grows b = record {
  directives = stands_still keeps.directives keeps.directive_limit (λ k. grows (of_directive k)) b.directives;
  types = types_still keeps.types keeps.type_limit (λ k. grows (of_type k)) b.types;
}

stands_at : (xs : List Reference) (i : ℕ) (x : Reference) → i < length xs → x ≡ get_or xs i x → Contains xs x
stands_at xs i x within item =
    subst (λ l. Contains l x) (sym (split_at xs i x within item)) (Contains-append_right (take i xs) (x ∷ drop (i + 1) xs) x (stands_first x (drop (i + 1) xs)))

-- the references of a list, one after another
pub closes_next : (schema : Schema) (root : Node DirectiveDefinition) (xs : List Reference) (i : ℕ) (x : Reference) (old mid new : Progress) → i < length xs → x ≡ get_or xs i x →
    ClosesFrom schema root (map reference_of (take i xs)) old mid → ClosesFrom schema root (reference_of x ∷ []) mid new →
    ClosesFrom schema root (map reference_of (take (i + 1) xs)) old new
closes_next schema root xs i x old mid new within item a b =
    subst (λ l. ClosesFrom schema root l old new) (sym (ap (map reference_of) (more_is xs i x within item) ∙ map-append reference_of (take i xs) (x ∷ [])))
    (closes_more schema root (map reference_of (take i xs)) (reference_of x ∷ []) old mid new a b)

-- a search that stops at one of them
pub stops_among : (schema : Schema) (root : Node DirectiveDefinition) (xs : List Reference) (i : ℕ) (x : Reference) (old now : Progress) (e : CycleError Directive) →
    i < length xs → x ≡ get_or xs i x → KeepsPaths old now → StopsBy schema root (reference_of x ∷ []) now e → StopsBy schema root (map reference_of xs) old e
stops_among schema root xs i x old now e within item keeps s =
    stops_on schema root (map reference_of xs) old now e keeps
    (stops_wider schema root (reference_of x ∷ []) (map reference_of xs) now e
    (λ r one. subst (Contains (map reference_of xs)) (sym (only_one (reference_of x) r one)) (stands_mapped reference_of xs x (stands_at xs i x within item))) s)

-- the error that a path gives for a name that is marked
pub application_refused : (schema : Schema) (root : Node DirectiveDefinition) (a : Node Directive) (progress : Progress) (e : CycleError Directive) →
    StandsOn root.value.value.name (path_of progress.directive_path) (path_limit progress.directive_path) progress.seen_directives.keys →
    IsFalse (stands_on (names_at progress.seen_directives.keys) a.value.value.name) → DifferentNames a.value.value.name root.value.value.name →
    Refuses progress.directive_path e → StopsBy schema root (by_directive a ∷ []) progress e
application_refused schema root a progress (Recursed trace) s unseen other refused = absurd refused
application_refused schema root a progress Limit s unseen other refused =
    goes_far_here (by_directive a) (stands_first (by_directive a) []) (inl (one_too_many s a.value.value.name unseen other refused))
application_refused schema root a progress Memory s unseen other refused = tt

pub type_refused : (schema : Schema) (root : Node DirectiveDefinition) (name : NameText) (progress : Progress) (e : CycleError Directive) →
    StandsSeen (path_of progress.type_path) (path_limit progress.type_path) progress.seen_types.keys →
    IsFalse (stands_on (names_at progress.seen_types.keys) name) → Refuses progress.type_path e → StopsBy schema root (by_type name ∷ []) progress e
type_refused schema root name progress (Recursed trace) s unseen refused = absurd refused
type_refused schema root name progress Limit s unseen refused =
    goes_far_here (by_type name) (stands_first (by_type name) []) (inr (type_too_many s name unseen refused))
type_refused schema root name progress Memory s unseen refused = tt

pub keeps_then : {old mid new : Progress} → KeepsPaths old mid → KeepsPaths mid new → KeepsPaths old new
keeps_then a b = record {
  directives = b.directives ∙ a.directives;
  directive_limit = b.directive_limit ∙ a.directive_limit;
  types = b.types ∙ a.types;
  type_limit = b.type_limit ∙ a.type_limit;
}

-- an application, and the root, of which the names are at hand
pub record Application (root : Node DirectiveDefinition) (a : Node Directive) (name own : NameText) : Type 0 where
  pub names : name ≡ a.value.value.name
  pub owns : own ≡ root.value.value.name

pub application_of : (root : Node DirectiveDefinition) (a : Node Directive) (held : Directive) (held_root : DirectiveDefinition) → held ≡ a.value.value →
    held_root ≡ root.value.value → Application root a held.name held_root.name
application_of root a held held_root is is_root = record {
  names = ap (λ (d : Directive). d.name) is;
  owns = ap (λ (d : DirectiveDefinition). d.name) is_root;
}

-- what a search does at an application
module _ (schema : Schema) (root : Node DirectiveDefinition) {a : Node Directive} {name own : NameText} (here : Application root a name own) where
  pub application_back : (progress : Progress) (none : Vec (Node Directive) Global) (after : CycleError Directive) → SameName name own → none.items ≡ [] →
      GoesOn a (Recursed none) after → StopsBy schema root (by_directive a ∷ []) progress after
  application_back progress none after back empty on =
      stops_at_root schema root a progress none after (subst (λ n. SameName n root.value.value.name) here.names (subst (SameName name) here.owns back)) empty on

  -- its name was not seen, and is marked
  module _ (old mid : Progress) (is_new : Bool) (is : is_new ≡ not (stands_on (names_at old.seen_directives.keys) name))
      (names : names_at mid.seen_directives.keys ≡ with_name (names_at old.seen_directives.keys) name) (new_is : is_new ≡ true)
      (rest : mid.seen_types.keys ≡ old.seen_types.keys) (apart : DifferentNames name own) where
    marked : Marked a.value.value.name old.seen_directives.keys mid.seen_directives.keys
    marked =
        subst (λ n. Marked n old.seen_directives.keys mid.seen_directives.keys) here.names
        (was_marked name old.seen_directives.keys mid.seen_directives.keys is_new is names new_is)

    other : DifferentNames a.value.value.name root.value.value.name
    other = subst (λ n. DifferentNames n root.value.value.name) here.names (subst (DifferentNames name) here.owns apart)

    away : ¬ AppliesBack (directive_part root) (by_directive a)
    away back = not_both a.value.value.name root.value.value.name back other

    -- it finds no definition
    pub application_closes_at : None ≡ directive_definition schema name → ClosesFrom schema root (by_directive a ∷ []) old mid
    application_closes_at none =
        closes_at schema root (by_directive a) old mid (directive_marked {old = old} {new = mid} marked rest) away
        (ap (λ n. option_map directive_part (directive_definition schema n)) (sym here.names) ∙ ap (option_map directive_part) (sym none))

    -- or the path refuses it
    pub application_stops : (search : DirectiveSearch) (e : CycleError Directive) → search.root.now ≡ root → BeginsAt search old → Refuses old.directive_path e →
        StopsBy schema root (by_directive a ∷ []) old e
    application_stops search e same begins refused =
        application_refused schema root a old e
        (subst (λ (r : Node DirectiveDefinition). StandsOn r.value.value.name (path_of old.directive_path) (path_limit old.directive_path) old.seen_directives.keys) same begins.directives)
        marked.unseen other refused

    -- or it goes on the path
    pub application_begins : (search : DirectiveSearch) (deep : Progress) → search.root.now ≡ root → BeginsAt search old → HasRoom old.directive_path →
        path_of deep.directive_path ≡ path_of old.directive_path ++ name ∷ [] → path_limit deep.directive_path ≡ path_limit old.directive_path →
        path_of deep.type_path ≡ path_of old.type_path → path_limit deep.type_path ≡ path_limit old.type_path →
        deep.seen_directives.keys ≡ mid.seen_directives.keys → deep.seen_types.keys ≡ mid.seen_types.keys → BeginsAt search deep
    application_begins search deep same begins room longer limit types type_limit seen seen_types =
        let stands = subst (λ (r : Node DirectiveDefinition). StandsOn r.value.value.name (path_of old.directive_path) (path_limit old.directive_path) old.seen_directives.keys) same begins.directives in
        record {
          directives = subst (λ (r : Node DirectiveDefinition). StandsOn r.value.value.name (path_of deep.directive_path) (path_limit deep.directive_path) deep.seen_directives.keys) (sym same)
              (stands_still (subst (λ n. path_of deep.directive_path ≡ path_of old.directive_path ++ n ∷ []) here.names longer) limit
              (λ k h. subst (λ l. IsSeen l k) (sym seen) h)
              (stands_deeper stands a.value.value.name marked.unseen other marked room));
          types = types_still types type_limit (λ k h. subst (λ l. IsSeen l k) (sym (seen_types ∙ rest)) h) begins.types;
        }

    -- and its definition is searched
    pub application_closes : (d : Node DirectiveDefinition) (references : List SchemaReference) (new : Progress) → Some d ≡ directive_definition schema name →
        references ≡ references_of (directive_part d) → ClosesFrom schema root references mid new → ClosesFrom schema root (by_directive a ∷ []) old new
    application_closes d references new found same c =
        closes_into schema root (by_directive a) (directive_part d) references old mid new (directive_marked {old = old} {new = mid} marked rest) away
        (ap (λ n. option_map directive_part (directive_definition schema n)) (sym here.names) ∙ ap (option_map directive_part) (sym found)) same c

  -- or the search of its definition stops
  pub application_stops_below : (d : Node DirectiveDefinition) (references : List SchemaReference) (before after : Progress) (e traced : CycleError Directive) →
      Some d ≡ directive_definition schema name → references ≡ references_of (directive_part d) →
      path_of after.directive_path ≡ path_of before.directive_path ++ name ∷ [] → path_limit after.directive_path ≡ path_limit before.directive_path →
      path_of after.type_path ≡ path_of before.type_path → path_limit after.type_path ≡ path_limit before.type_path → GoesOn a e traced →
      StopsBy schema root references after e → StopsBy schema root (by_directive a ∷ []) before traced
  application_stops_below d references before after e traced found same longer limit types type_limit on stops =
      stops_behind_application schema root a (directive_part d) references before after e traced
      (ap (λ n. option_map directive_part (directive_definition schema n)) (sym here.names) ∙ ap (option_map directive_part) (sym found)) same
      (application_lengthens a before after (subst (λ n. path_of after.directive_path ≡ path_of before.directive_path ++ n ∷ []) here.names longer) limit types type_limit)
      on stops

-- what a search does at the name of a type that was not seen, and is marked
module _ (schema : Schema) (root : Node DirectiveDefinition) (name : NameText) (old mid : Progress) (is_new : Bool)
    (is : is_new ≡ not (stands_on (names_at old.seen_types.keys) name)) (names : names_at mid.seen_types.keys ≡ with_name (names_at old.seen_types.keys) name)
    (new_is : is_new ≡ true) (rest : mid.seen_directives.keys ≡ old.seen_directives.keys) where
  type_is_marked : Marked name old.seen_types.keys mid.seen_types.keys
  type_is_marked = was_marked name old.seen_types.keys mid.seen_types.keys is_new is names new_is

  -- it finds no type
  pub type_closes_at : None ≡ type_definition schema name → ClosesFrom schema root (by_type name ∷ []) old mid
  type_closes_at none =
      closes_at schema root (by_type name) old mid (type_marked {old = old} {new = mid} type_is_marked rest) (λ back. back) (ap (option_map type_part) (sym none))

  -- or its type is searched
  pub type_closes : (d : ExtendedType) (references : List SchemaReference) (new : Progress) → Some d ≡ type_definition schema name →
      references ≡ references_of (type_part d) → ClosesFrom schema root references mid new → ClosesFrom schema root (by_type name ∷ []) old new
  type_closes d references new found same c =
      closes_into schema root (by_type name) (type_part d) references old mid new (type_marked {old = old} {new = mid} type_is_marked rest) (λ back. back)
      (ap (option_map type_part) (sym found)) same c

  -- or the path refuses it
  pub type_stops : (search : DirectiveSearch) (e : CycleError Directive) → BeginsAt search old → Refuses old.type_path e → StopsBy schema root (by_type name ∷ []) old e
  type_stops search e begins refused = type_refused schema root name old e begins.types type_is_marked.unseen refused

  -- or it goes on the path, or on none
  pub type_begins : (search : DirectiveSearch) (deep : Progress) → BeginsAt search old → HasRoom old.type_path →
      path_of deep.type_path ≡ path_of old.type_path ++ name ∷ [] → path_limit deep.type_path ≡ path_limit old.type_path →
      path_of deep.directive_path ≡ path_of old.directive_path → path_limit deep.directive_path ≡ path_limit old.directive_path →
      deep.seen_types.keys ≡ mid.seen_types.keys → deep.seen_directives.keys ≡ mid.seen_directives.keys → BeginsAt search deep
  type_begins search deep begins room longer limit directives directive_limit seen seen_directives = record {
    directives = stands_still directives directive_limit (λ k h. subst (λ l. IsSeen l k) (sym (seen_directives ∙ rest)) h) begins.directives;
    types = types_still refl refl (λ k h. subst (λ l. IsSeen l k) (sym seen) h) (type_deeper begins.types name type_is_marked.unseen type_is_marked room longer limit);
  }

  pub type_begins_off_path : (search : DirectiveSearch) → BeginsAt search old → path_of mid.type_path ≡ path_of old.type_path → path_limit mid.type_path ≡ path_limit old.type_path →
      path_of mid.directive_path ≡ path_of old.directive_path → path_limit mid.directive_path ≡ path_limit old.directive_path → BeginsAt search mid
  type_begins_off_path search begins types limit directives directive_limit = record {
    directives = stands_still directives directive_limit (λ k h. subst (λ l. IsSeen l k) (sym rest) h) begins.directives;
    types = types_still types limit (marked_grows type_is_marked) begins.types;
  }

-- the search of the type stops, which is on the path, or on none
pub type_stops_below : (schema : Schema) (root : Node DirectiveDefinition) (name : NameText) (d : ExtendedType) (references : List SchemaReference) (before after : Progress)
    (e : CycleError Directive) → Some d ≡ type_definition schema name → references ≡ references_of (type_part d) →
    path_of after.type_path ≡ path_of before.type_path ++ name ∷ [] → path_limit after.type_path ≡ path_limit before.type_path →
    path_of after.directive_path ≡ path_of before.directive_path → path_limit after.directive_path ≡ path_limit before.directive_path →
    StopsBy schema root references after e → StopsBy schema root (by_type name ∷ []) before e
type_stops_below schema root name d references before after e found same longer limit directives directive_limit stops =
    stops_behind_type schema root name (type_part d) references before after e (ap (option_map type_part) (sym found)) same
    (type_lengthens name before after longer limit directives directive_limit) stops

pub type_stops_off_path : (schema : Schema) (root : Node DirectiveDefinition) (name : NameText) (d : ExtendedType) (references : List SchemaReference) (before : Progress)
    (e : CycleError Directive) → Some d ≡ type_definition schema name → references ≡ references_of (type_part d) →
    StopsBy schema root references before e → StopsBy schema root (by_type name ∷ []) before e
type_stops_off_path schema root name d references before e found same stops =
    stops_behind_type schema root name (type_part d) references before before e (ap (option_map type_part) (sym found)) same (type_passes name before) stops
