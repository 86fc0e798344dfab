-- The required fields among which a search for cycles of input objects goes on, and what it does at one.
use Rattle.std.proofs.Common.{◌≡◌, ℕ, ◌+◌, ◌-◌, ◌*◌, ◌<◌, inl, inr, Bool, true, List, [], ◌∷◌, ◌++◌, Some, length, map, not, refl, sym, ap, ◌∙◌, subst, arith, Contains, length-append}
use Rattle.std.specs.Prelude.{IsSome}
use Rattle.std.specs.Option.{option_and_then}
use Rattle.std.specs.Str.{bytes_eq}
use Rattle.indexmap.specs.IndexMap.{get_by}
use Rattle.std.specs.Borrow.{Bor}
use Rattle.std.specs.declared.alloc.Global.{Global}
use Rattle.std.specs.declared.vec.Vec.{Vec}
use Rattle.std.proofs.lemmas.Option.{none-some, same_Some}
use Rattle.std.proofs.lemmas.List.{map-append}
use Rattle.std.proofs.lemmas.List.Elements.{Contains-append_cases}
use Rattle.graphql_documents.proofs.ListLemmas.{only_one, stands_first, stands_mapped, stands_next}
use Rattle.graphql_nodes.proofs.NameLemmas.{same_text}
use Rattle.graphql_nodes.specs.Names.{DifferentNames, NameText, SameName, stands_on, with_name}
use Rattle.graphql_specification.specs.InputObjectCycles.{RequiresBy, input_object_of, required_name}
use Rattle.graphql_documents.specs.Schemas.{as_input_object, input_object_named, type_definition}
use Rattle.graphql_documents.specs.TypeReferences.{inner_named_type}
use Rattle.graphql_documents.specs.declared.documents.components.Component.{Component}
use Rattle.graphql_documents.specs.declared.documents.definitions.InputValueDefinition.{InputValueDefinition}
use Rattle.graphql_nodes.specs.declared.nodes.Node.{Node}
use Rattle.graphql_documents.specs.declared.documents.schemas.InputObjectType.{InputObjectType}
use Rattle.graphql_documents.specs.declared.documents.schemas.Schema.{Schema}
use Rattle.graphql_documents.specs.declared.documents.type_references.Type.{«Type»}
use Rattle.graphql_documents.specs.declared.documents.type_references.Type.TheVariants.{Named, NonNullNamed, List', NonNullList'}
use Rattle.graphql_guards.specs.Guards.{HasRoom, Refuses, path_limit, path_of}
use Rattle.graphql_guards.specs.declared.recursion.CycleError.{CycleError}
use Rattle.graphql_guards.specs.declared.recursion.CycleError.TheVariants.{Recursed}
use Rattle.graphql_guards.specs.declared.recursion.RecursionStack.{RecursionStack}
use Rattle.graphql_cycles.proofs.CycleLemmas.{ClosesNames, closes_fewer, closes_into, closes_then, stops_at_refusal, stops_at_root, stops_before, stops_wider}
use Rattle.graphql_cycles.proofs.SeenNameLemmas.{Marked, names_at, stands_deeper, stands_still, was_marked}
use Rattle.graphql_cycles.specs.CycleSearches.{GoesOn, StandsOn, StopsBy}
use Rattle.graphql_cycles.specs.InputObjectSearches.{RequiresAmong}

-- the name of the type of a field, and the fields of an input object
abbrev pub name_of : Node InputValueDefinition → NameText
name_of field = inner_named_type field.value.value.ty.value.value

abbrev pub nodes_of : List (NameText × Component InputValueDefinition) → List (Node InputValueDefinition)
nodes_of entries = map (λ entry. entry.1.node) entries

-- the searches of input objects
module _ (schema : Schema) (root : NameText) where
  -- what one has done
  abbrev pub ClosesOver : (Node InputValueDefinition → Type 0) → (old new : List (Bor NameText)) → Type 0
  ClosesOver begins old new = ClosesNames (RequiresBy schema) (input_object_of schema) name_of root begins old new

  -- why one stopped
  abbrev pub StopsOver : (Node InputValueDefinition → Type 0) → List NameText → ℕ → CycleError InputValueDefinition → Type 0
  StopsOver begins path limit e = StopsBy (RequiresBy schema) (input_object_of schema) name_of root begins path limit e

-- one field that is known
pub among_one : (schema : Schema) (field p : Node InputValueDefinition) → RequiresAmong schema (field ∷ []) p → p ≡ field
among_one schema field p among = only_one field p among.0

pub one_among : (schema : Schema) (field p : Node InputValueDefinition) → IsSome (input_object_of schema field) → p ≡ field → RequiresAmong schema (field ∷ []) p
one_among schema field p some same = subst (RequiresAmong schema (field ∷ [])) (sym same) (stands_first field [], some)

-- the fields of an input object
pub among_fields : (schema : Schema) (d : Node InputObjectType) (p : Node InputValueDefinition) →
    RequiresAmong schema (nodes_of d.value.value.fields.entries) p → RequiresBy schema d p
among_fields schema d p among = record { stands = among.0; requires = among.1 }

pub fields_among : (schema : Schema) (d : Node InputObjectType) (p : Node InputValueDefinition) →
    RequiresBy schema d p → RequiresAmong schema (nodes_of d.value.value.fields.entries) p
fields_among schema d p by = (by.stands, by.requires)

module _ (schema : Schema) (root : NameText) where
  -- a search of one field more, and of all
  pub closes_next : (done : List (NameText × Component InputValueDefinition)) (x : NameText × Component InputValueDefinition) (old mid new : List (Bor NameText)) →
      ClosesOver schema root (RequiresAmong schema (nodes_of done)) old mid → ClosesOver schema root (RequiresAmong schema (x.1.node ∷ [])) mid new →
      ClosesOver schema root (RequiresAmong schema (nodes_of (done ++ x ∷ []))) old new
  closes_next done x old mid new a b =
      closes_fewer (λ p among.
      elim (Contains-append_cases (nodes_of done) (x.1.node ∷ []) p (subst (λ l. Contains l p) (map-append (λ (e : NameText × Component InputValueDefinition). e.1.node) done (x ∷ [])) among.0)) [
        | inl before ↦ inl (before, among.1)
        | inr last ↦ inr (last, among.1)
      ]) (closes_then a b)

  -- a search that stops at one of the fields
  pub stops_among : (entries done left rest : List (NameText × Component InputValueDefinition)) (x : NameText × Component InputValueDefinition)
      {path now : List NameText} {limit bound : ℕ} (e : CycleError InputValueDefinition) →
      entries ≡ done ++ left → left ≡ x ∷ rest → now ≡ path → bound ≡ limit →
      StopsOver schema root (RequiresAmong schema (x.1.node ∷ [])) now bound e → StopsOver schema root (RequiresAmong schema (nodes_of entries)) path limit e
  stops_among entries done left rest x {path = path} {now = now} {limit = limit} {bound = bound} e all next is_path is_limit stops =
      let stands = stands_mapped (λ (e : NameText × Component InputValueDefinition). e.1.node) entries x (stands_next entries done left rest x all next) in
      subst (λ n. StopsOver schema root (RequiresAmong schema (nodes_of entries)) path n e) is_limit
      (subst (λ l. StopsOver schema root (RequiresAmong schema (nodes_of entries)) l bound e) is_path
      (stops_wider (RequiresBy schema) (input_object_of schema) name_of root (RequiresAmong schema (x.1.node ∷ [])) (RequiresAmong schema (nodes_of entries)) now bound e
      (λ p among. (subst (Contains (nodes_of entries)) (sym (among_one schema x.1.node p among)) stands, among.1)) stops))

-- names of one text find one type
pub one_type_found : (schema : Schema) (a b : NameText) → SameName a b → type_definition schema a ≡ type_definition schema b
one_type_found schema a b same = ap (λ (text : List ℕ). get_by (λ (key : NameText). bytes_eq text key.text) schema.types) (same_text a b same)

-- fields whose types have one name lead to one input object, or to none
pub one_target : (schema : Schema) (p : Node InputValueDefinition) (d : Node InputObjectType) → input_object_named schema (name_of p) ≡ Some d →
    (q : Node InputValueDefinition) (e : Node InputObjectType) → SameName (name_of q) (name_of p) → input_object_of schema q ≡ Some e → e ≡ d
one_target schema p d found q e same leads = at q.value.value.ty.value.value same leads where
  at : (t : «Type») → SameName (inner_named_type t) (name_of p) →
      option_and_then as_input_object (option_and_then (type_definition schema) (required_name t)) ≡ Some e → e ≡ d
  at (NonNullNamed n) same leads = same_Some e d (sym leads ∙ ap (option_and_then as_input_object) (one_type_found schema n (name_of p) same) ∙ found)
  at (Named n) same leads = absurd (none-some e leads)
  at (List' place t) same leads = absurd (none-some e leads)
  at (NonNullList' place t) same leads = absurd (none-some e leads)

-- a field is of a non-null type of this name that is no list, and leads to this input object
pub record Leads (schema : Schema) (field : Node InputValueDefinition) (name : NameText) (d : Node InputObjectType) : Type 0 where
  pub names : name ≡ name_of field
  pub target : input_object_of schema field ≡ Some d
  pub named : input_object_named schema (name_of field) ≡ Some d

pub leads_to : (schema : Schema) (field : Node InputValueDefinition) (held : InputValueDefinition) (ty : «Type») (name : NameText) (d : Node InputObjectType) →
    held ≡ field.value.value → ty ≡ held.ty.value.value → ty ≡ NonNullNamed name → Some d ≡ input_object_named schema name → Leads schema field name d
leads_to schema field held ty name d is of_type required found =
    let typed : field.value.value.ty.value.value ≡ NonNullNamed name = ap (λ (h : InputValueDefinition). h.ty.value.value) (sym is) ∙ sym of_type ∙ required in
    record {
      names = sym (ap inner_named_type typed);
      target = ap (λ (t : «Type»). option_and_then as_input_object (option_and_then (type_definition schema) (required_name t))) typed ∙ sym found;
      named = ap (λ (t : «Type»). input_object_named schema (inner_named_type t)) typed ∙ sym found;
    }

-- what a search does at such a field
module _ (schema : Schema) (root : NameText) {field : Node InputValueDefinition} {name : NameText} {d : Node InputObjectType} (l : Leads schema field name d) where
  begins_here : RequiresAmong schema (field ∷ []) field
  begins_here = (stands_first field [], subst IsSome (sym l.target) refl)

  -- it leads back to the root
  pub stops_here : (path : List NameText) (limit : ℕ) (none : Vec (Node InputValueDefinition) Global) (after : CycleError InputValueDefinition) →
      SameName name root → none.items ≡ [] → GoesOn field (Recursed none) after → StopsOver schema root (RequiresAmong schema (field ∷ [])) path limit after
  stops_here path limit none after back empty on =
      stops_at_root (RequiresBy schema) (input_object_of schema) name_of root (RequiresAmong schema (field ∷ [])) path limit field none after begins_here
      (subst (λ n. SameName n root) l.names back) empty on

  module _ (old mid : List (Bor NameText)) (is_new : Bool) (is : is_new ≡ not (stands_on (names_at old) name)) (names : names_at mid ≡ with_name (names_at old) name)
      (new_is : is_new ≡ true) (apart : DifferentNames name root) where
    marked : Marked (name_of field) old mid
    marked = subst (λ n. Marked n old mid) l.names (was_marked name old mid is_new is names new_is)

    other : DifferentNames (name_of field) root
    other = subst (λ n. DifferentNames n root) l.names apart

    -- its name is marked, and goes on the path
    pub stands_below : (before after : RecursionStack) → StandsOn root (path_of before) (path_limit before) old → HasRoom before →
        path_of after ≡ path_of before ++ name ∷ [] → path_limit after ≡ path_limit before → StandsOn root (path_of after) (path_limit after) mid
    stands_below before after s room longer limit =
        stands_still (subst (λ n. path_of after ≡ path_of before ++ n ∷ []) l.names longer) limit (λ k h. h) (stands_deeper s (name_of field) marked.unseen other marked room)

    -- or the path refuses it
    pub stops_refused : (stack : RecursionStack) (e : CycleError InputValueDefinition) → StandsOn root (path_of stack) (path_limit stack) old → Refuses stack e →
        StopsOver schema root (RequiresAmong schema (field ∷ [])) (path_of stack) (path_limit stack) e
    stops_refused stack e s refused =
        stops_wider (RequiresBy schema) (input_object_of schema) name_of root (λ p. p ≡ field) (RequiresAmong schema (field ∷ [])) (path_of stack) (path_limit stack) e
        (λ p same. subst (RequiresAmong schema (field ∷ [])) (sym same) begins_here)
        (stops_at_refusal (RequiresBy schema) (input_object_of schema) name_of root stack old field e s marked.unseen other refused)

    -- and its input object is searched
    pub closes_here : (new : List (Bor NameText)) → ClosesOver schema root (RequiresAmong schema (nodes_of d.value.value.fields.entries)) mid new →
        ClosesOver schema root (RequiresAmong schema (field ∷ [])) old new
    closes_here new c =
        closes_fewer (among_one schema field)
        (closes_into (RequiresBy schema) (input_object_of schema) name_of root field marked other d new (one_target schema field d l.named)
        (closes_fewer (fields_among schema d) c))

  -- or the search of its input object stops
  pub stops_below : (before after : RecursionStack) (e traced : CycleError InputValueDefinition) → path_of after ≡ path_of before ++ name ∷ [] →
      path_limit after ≡ path_limit before → GoesOn field e traced →
      StopsOver schema root (RequiresAmong schema (nodes_of d.value.value.fields.entries)) (path_of after) (path_limit after) e →
      StopsOver schema root (RequiresAmong schema (field ∷ [])) (path_of before) (path_limit before) traced
  stops_below before after e traced longer limit on stops =
      stops_before (RequiresBy schema) (input_object_of schema) name_of root (RequiresAmong schema (field ∷ [])) (path_of before) (path_limit before) field d e traced
      begins_here l.target on
      (subst (λ n. StopsOver schema root (RequiresBy schema d) n (path_limit before) e) (subst (λ n. path_of after ≡ path_of before ++ n ∷ []) l.names longer)
      (subst (λ n. StopsOver schema root (RequiresBy schema d) (path_of after) n e) limit
      (stops_wider (RequiresBy schema) (input_object_of schema) name_of root (RequiresAmong schema (nodes_of d.value.value.fields.entries)) (RequiresBy schema d)
      (path_of after) (path_limit after) e (among_fields schema d) stops)))

-- a search from the root's own fields, of which the name is at hand
module _ (schema : Schema) (d : Node InputObjectType) (held : InputObjectType) (is : held ≡ d.value.value) where
  pub closes_from_root : (old new : List (Bor NameText)) → ClosesOver schema held.name (RequiresAmong schema (nodes_of d.value.value.fields.entries)) old new →
      ClosesOver schema d.value.value.name (RequiresBy schema d) old new
  closes_from_root old new c =
      closes_fewer (fields_among schema d)
      (subst (λ (o : InputObjectType). ClosesOver schema o.name (RequiresAmong schema (nodes_of d.value.value.fields.entries)) old new) is c)

  pub stops_from_root : (path : List NameText) (limit : ℕ) (e : CycleError InputValueDefinition) →
      StopsOver schema held.name (RequiresAmong schema (nodes_of d.value.value.fields.entries)) path limit e →
      StopsOver schema d.value.value.name (RequiresBy schema d) path limit e
  stops_from_root path limit e stops =
      stops_wider (RequiresBy schema) (input_object_of schema) name_of d.value.value.name (RequiresAmong schema (nodes_of d.value.value.fields.entries)) (RequiresBy schema d)
      path limit e (among_fields schema d)
      (subst (λ (o : InputObjectType). StopsOver schema o.name (RequiresAmong schema (nodes_of d.value.value.fields.entries)) path limit e) is stops)

-- a path that is longer leaves less room
pub room_falls : (before after : RecursionStack) (name : NameText) (measure : ℕ) → HasRoom before → path_limit after ≡ path_limit before →
    path_of after ≡ path_of before ++ name ∷ [] → 2 * (path_limit before - length (path_of before)) ≡ measure →
    2 * (path_limit after - length (path_of after)) + 1 < measure
room_falls before after name measure room limit longer now =
    subst (λ n. 2 * (path_limit after - length (path_of after)) + 1 < n) now
    (falls (path_limit before) (path_limit after) (length (path_of before)) (length (path_of after)) room limit
    (ap length longer ∙ length-append (path_of before) (name ∷ []))) where
      falls : (limit bound count longer : ℕ) → count < limit → bound ≡ limit → longer ≡ count + 1 → 2 * (bound - longer) + 1 < 2 * (limit - count)
      falls limit bound count longer room same is =
          let e : limit - count ≡ (bound - longer) + 1 = omega arith in
          rw e (omega arith)
