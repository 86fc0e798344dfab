-- The map of implementers that is made type by type is the one that its definition says.
use Rattle.std.proofs.Common.{◌≡◌, Bool, true, false, cond, ◌||◌, ◌&&◌, List, [], ◌∷◌, ◌++◌, map, refl, sym, ap, ◌∙◌}
use Rattle.std.specs.Prelude.{Some, None, filter, flat_map, fold, unwrap_or}
use Rattle.std.specs.Borrow.{Bor}
use Rattle.std.specs.Cmp.Lexicographic.{nat_list_eq_equiv}
use Rattle.std.specs.List.{list_any}
use Rattle.std.specs.Map.{lookup, set_value}
use Rattle.std.specs.Option.{option_map}
use Rattle.std.specs.Str.{bytes_eq}
use Rattle.std.proofs.lemmas.Grind.{flat_map-append, fold-append}
use Rattle.std.proofs.lemmas.List.{append-nil, append_assoc, map-append}
use Rattle.std.proofs.lemmas.List.Elements.{filter-append}
use Rattle.indexmap.specs.IndexMap.{insert_entry}
use Rattle.indexmap.specs.IndexSet.{insert_key}
use Rattle.graphql_documents.specs.Implementers.{Listing, implementer_entries, implementer_names, listings_of, no_implementers, with_implementer, with_own_name}
use Rattle.graphql_nodes.specs.Names.{NameText, SameName, different_names, same_name, stands_on, with_name}
use Rattle.graphql_documents.specs.Schemas.{ImplementerNames, implementers_map, interfaces_of, is_interface_type, is_object_type, lists_interface, own_name}
use Rattle.graphql_documents.specs.declared.documents.components.ComponentName.{ComponentName}
use Rattle.graphql_documents.specs.declared.documents.implementers.Implementers.{Implementers}
use Rattle.graphql_documents.specs.declared.documents.schemas.ExtendedType.{ExtendedType}
use Rattle.graphql_documents.specs.declared.documents.schemas.Schema.{Schema}
use Rattle.graphql_nodes.proofs.NameLemmas.{same_name_itself, same_text}

or_false : (b : Bool) → (b || false) ≡ b
or_false true = refl
or_false false = refl

or_assoc : (a b c : Bool) → ((a || b) || c) ≡ (a || (b || c))
or_assoc true b c = refl
or_assoc false b c = refl

pub neither : (a b : Bool) → (a || b) ≡ false → (a ≡ false) × (b ≡ false)
neither true b e = absurd (let h : ⊥ = cc in h)
neither false b e = (refl, e)

and_false : (b : Bool) → (b && false) ≡ false
and_false true = refl
and_false false = refl

or_true : (b : Bool) → (b || true) ≡ true
or_true true = refl
or_true false = refl

and_true : (b : Bool) → (b && true) ≡ b
and_true true = refl
and_true false = refl

-- names are the same in either order
pub same_swapped : (a b : NameText) → same_name a b ≡ same_name b a
same_swapped a b = nat_list_eq_equiv.symm a.text b.text

-- the same names are in a list
pub stands_same : (xs : List NameText) (a b : NameText) → SameName a b → stands_on xs a ≡ stands_on xs b
stands_same xs a b same = ap (λ t. list_any (λ (y : NameText). bytes_eq t y.text) xs) (same_text a b same)

stands_push : (xs : List NameText) (x n : NameText) → stands_on (xs ++ x ∷ []) n ≡ (stands_on xs n || same_name n x)
stands_push [] x n = or_false (same_name n x)
stands_push (y ∷ ys) x n = ap (λ b. same_name n y || b) (stands_push ys x n) ∙ sym (or_assoc (same_name n y) (stands_on ys n) (same_name n x))

-- what is among names with one more
pub stands_with : (xs : List NameText) (x n : NameText) → stands_on (with_name xs x) n ≡ (stands_on xs n || same_name n x)
stands_with xs x n = by (stands_on xs x) refl (same_name n x) refl where
  by : (b : Bool) → stands_on xs x ≡ b → (d : Bool) → same_name n x ≡ d → stands_on (with_name xs x) n ≡ (stands_on xs n || same_name n x)
  by true known true same = rw (known, same, stands_same xs n x same ∙ known) refl
  by true known false other = rw (known, other) (sym (or_false (stands_on xs n)))
  by false unknown d is = rw unknown (stands_push xs x n)

-- the different names of a list are those that are in it
pub stands_folded : (known names : List NameText) (n : NameText) → stands_on (fold with_name known names) n ≡ (stands_on known n || stands_on names n)
stands_folded known [] n = sym (or_false (stands_on known n))
stands_folded known (x ∷ xs) n =
    stands_folded (with_name known x) xs n ∙ ap (λ b. b || stands_on xs n) (stands_with known x n) ∙
    or_assoc (stands_on known n) (same_name n x) (stands_on xs n)

-- no name is twice
abbrev pub Apart : List NameText → Type 0
Apart [] = Unit {0}
Apart (x ∷ xs) = (stands_on xs x ≡ false) × Apart xs

apart_push : (xs : List NameText) (n : NameText) → stands_on xs n ≡ false → Apart xs → Apart (xs ++ n ∷ [])
apart_push [] n none apart = (refl, tt)
apart_push (x ∷ xs) n none apart =
    let parts = neither (same_name n x) (stands_on xs n) none in
    (stands_push xs n x ∙ ap (λ b. b || same_name x n) apart.0 ∙ same_swapped x n ∙ parts.0, apart_push xs n parts.1 apart.1)

apart_with : (xs : List NameText) (n : NameText) → Apart xs → Apart (with_name xs n)
apart_with xs n apart = by (stands_on xs n) refl where
  by : (b : Bool) → stands_on xs n ≡ b → Apart (with_name xs n)
  by true known = rw known apart
  by false unknown = rw unknown (apart_push xs n unknown apart)

pub apart_folded : (known names : List NameText) → Apart known → Apart (fold with_name known names)
apart_folded known [] apart = apart
apart_folded known (x ∷ xs) apart = apart_folded (with_name known x) xs (apart_with known x apart)

-- a value for each of some names, and what changes where one name's value takes a step
module _ {V : Type 0} (f g : NameText → V) (n : NameText) (step : V → V) (none : V)
    (stepped : (i : NameText) → same_name n i ≡ true → g i ≡ step (f i)) (others : (i : NameText) → same_name n i ≡ false → g i ≡ f i) where
  abbrev before : NameText → NameText × V
  before i = (i, f i)

  abbrev after : NameText → NameText × V
  after i = (i, g i)

  unchanged : (names : List NameText) → stands_on names n ≡ false → map before names ≡ map after names
  unchanged [] away = refl
  unchanged (x ∷ xs) away =
      let parts = neither (same_name n x) (stands_on xs n) away in
      ap (λ v. (x, v) ∷ map before xs) (sym (others x parts.0)) ∙ ap (λ l. (x, g x) ∷ l) (unchanged xs parts.1)

  none_found : (names : List NameText) → stands_on names n ≡ false → lookup (same_name n) (map before names) ≡ None
  none_found [] away = refl
  none_found (x ∷ xs) away =
      let parts = neither (same_name n x) (stands_on xs n) away in
      rw (parts.0) (none_found xs parts.1)

  appended : (names : List NameText) (v : V) → stands_on names n ≡ false → insert_entry same_name (map before names) n v ≡ map before names ++ (n, v) ∷ []
  appended [] v away = refl
  appended (x ∷ xs) v away =
      let parts = neither (same_name n x) (stands_on xs n) away in
      rw (parts.0) (ap (λ l. (x, f x) ∷ l) (appended xs v parts.1))

  abbrev stepped_value : List NameText → V
  stepped_value names = step (unwrap_or (lookup (same_name n) (map before names)) none)

  found : (names : List NameText) → Apart names → stands_on names n ≡ true →
      insert_entry same_name (map before names) n (stepped_value names) ≡ map after names
  found [] apart there = absurd (let h : ⊥ = cc in h)
  found (x ∷ xs) apart there = by (same_name n x) refl (found xs apart.1) where
    by : (b : Bool) → same_name n x ≡ b →
        (stands_on xs n ≡ true → insert_entry same_name (map before xs) n (stepped_value xs) ≡ map after xs) →
        insert_entry same_name (map before (x ∷ xs)) n (stepped_value (x ∷ xs)) ≡ map after (x ∷ xs)
    by true same behind =
        rw same (ap (λ v. (x, v) ∷ map before xs) (sym (stepped x same)) ∙ ap (λ l. (x, g x) ∷ l) (unchanged xs (stands_same xs n x same ∙ apart.0)))
    by false other behind =
        let there' : stands_on xs n ≡ true = ap (λ b. b || stands_on xs n) (sym other) ∙ there in
        rw other (ap (λ v. (x, v) ∷ insert_entry same_name (map before xs) n (stepped_value xs)) (sym (others x other)) ∙
        ap (λ l. (x, g x) ∷ l) (behind there'))

  pub inserted : (names : List NameText) → Apart names → (stands_on names n ≡ false → f n ≡ none) →
      insert_entry same_name (map before names) n (stepped_value names) ≡ map after (with_name names n)
  inserted names apart absent = by (stands_on names n) refl where
    by : (b : Bool) → stands_on names n ≡ b → insert_entry same_name (map before names) n (stepped_value names) ≡ map after (with_name names n)
    by true known = rw known (found names apart known)
    by false unknown =
        rw (unknown, none_found names unknown) (appended names (step none) unknown ∙ ap (λ l. l ++ (n, step none) ∷ []) (unchanged names unknown) ∙
        ap (λ v. map after names ++ (n, v) ∷ []) (ap step (sym (absent unknown)) ∙ sym (stepped n (same_name_itself n))) ∙
        sym (map-append after names (n ∷ [])))

-- the own names of the types of a kind among those with which an interface is listed
abbrev names_listed : (ExtendedType → Bool) → List Listing → NameText → List NameText
names_listed test listings interface =
    different_names (map (λ l. own_name l.1) (filter (λ l. test l.1 && same_name l.0 interface) listings))

abbrev listed_with : List Listing → NameText → ImplementerNames
listed_with listings interface = record {
  objects = names_listed is_object_type listings interface;
  interfaces = names_listed is_interface_type listings interface;
}

abbrev made : List Listing → List (NameText × ImplementerNames)
made listings = map (λ interface. (interface, listed_with listings interface)) (different_names (map (λ l. l.0) listings))

last_named : (known : List NameText) (l : Listing) (b : Bool) →
    fold with_name known (map (λ l. own_name l.1) (cond b (l ∷ []) [])) ≡ cond b (with_name known (own_name l.1)) known
last_named known l true = refl
last_named known l false = refl

module _ (test : ExtendedType → Bool) (listings : List Listing) (l : Listing) where
  names_more : (interface : NameText) → names_listed test (listings ++ l ∷ []) interface ≡
      cond (test l.1 && same_name l.0 interface) (with_name (names_listed test listings interface) (own_name l.1)) (names_listed test listings interface)
  names_more interface =
      let passes = λ (l : Listing). test l.1 && same_name l.0 interface in
      let own = λ (l : Listing). own_name l.1 in
      ap (λ k. different_names (map own k)) (filter-append passes listings (l ∷ [])) ∙
      ap different_names (map-append own (filter passes listings) (filter passes (l ∷ []))) ∙
      fold-append with_name [] (map own (filter passes listings)) (map own (filter passes (l ∷ []))) ∙
      last_named (names_listed test listings interface) l (passes l)

  names_stepped : (interface : NameText) → same_name l.0 interface ≡ true → names_listed test (listings ++ l ∷ []) interface ≡
      cond (test l.1) (with_name (names_listed test listings interface) (own_name l.1)) (names_listed test listings interface)
  names_stepped interface same =
      let choose = λ (b : Bool). cond b (with_name (names_listed test listings interface) (own_name l.1)) (names_listed test listings interface) in
      names_more interface ∙ ap (λ b. choose (test l.1 && b)) same ∙ ap choose (and_true (test l.1))

  names_kept : (interface : NameText) → same_name l.0 interface ≡ false → names_listed test (listings ++ l ∷ []) interface ≡ names_listed test listings interface
  names_kept interface other =
      let choose = λ (b : Bool). cond b (with_name (names_listed test listings interface) (own_name l.1)) (names_listed test listings interface) in
      names_more interface ∙ ap (λ b. choose (test l.1 && b)) other ∙ ap choose (and_false (test l.1))

none_kept : (test : ExtendedType → Bool) (listings : List Listing) (n : NameText) → stands_on (map (λ l. l.0) listings) n ≡ false →
    filter (λ l. test l.1 && same_name l.0 n) listings ≡ []
none_kept test [] n away = refl
none_kept test (l ∷ ls) n away =
    let parts = neither (same_name n l.0) (stands_on (map (λ l. l.0) ls) n) away in
    rw (same_swapped l.0 n ∙ parts.0, and_false (test l.1)) (none_kept test ls n parts.1)

pub names_are : {a b c d : List NameText} → a ≡ c → b ≡ d →
    let x : ImplementerNames = record { objects = a; interfaces = b } in let y : ImplementerNames = record { objects = c; interfaces = d } in x ≡ y
names_are p q = λ j. record { objects = p j; interfaces = q j }

-- one more type that lists an interface
made_more : (listings : List Listing) (l : Listing) → with_implementer (made listings) l ≡ made (listings ++ l ∷ [])
made_more listings l =
    let keys = map (λ (l : Listing). l.0) listings in
    inserted (listed_with listings) (listed_with (listings ++ l ∷ [])) l.0 (λ names. with_own_name names l.1) no_implementers
    (λ i same. names_are (names_stepped is_object_type listings l i same) (names_stepped is_interface_type listings l i same))
    (λ i other. names_are (names_kept is_object_type listings l i other) (names_kept is_interface_type listings l i other))
    (different_names keys) (apart_folded [] keys tt)
    (λ away.
    let away' : stands_on keys l.0 ≡ false = sym (stands_folded [] keys l.0) ∙ away in
    let own = λ (k : List Listing). different_names (map (λ l. own_name l.1) k) in
    names_are (ap own (none_kept is_object_type listings l.0 away')) (ap own (none_kept is_interface_type listings l.0 away'))) ∙
    ap (map (λ interface. (interface, listed_with (listings ++ l ∷ []) interface)))
    (sym (ap different_names (map-append (λ (l : Listing). l.0) listings (l ∷ [])) ∙ fold-append with_name [] keys (l.0 ∷ [])))

made_then : (listings more : List Listing) → fold with_implementer (made listings) more ≡ made (listings ++ more)
made_then listings [] = ap made (sym (append-nil listings))
made_then listings (l ∷ ls) =
    ap (λ known. fold with_implementer known ls) (made_more listings l) ∙ made_then (listings ++ l ∷ []) ls ∙
    ap made (append_assoc listings (l ∷ []) ls)

-- each interface that one of the types lists, with the type
abbrev pub listings_in : List (NameText × ExtendedType) → List Listing
listings_in types = flat_map (λ entry. listings_of entry.1) types

-- one more type that is gone over
pub listings_more : (types : List (NameText × ExtendedType)) (t : NameText × ExtendedType) →
    fold with_implementer [] (listings_in (types ++ t ∷ [])) ≡ fold with_implementer (fold with_implementer [] (listings_in types)) (listings_of t.1)
listings_more types t =
    ap (fold with_implementer []) (flat_map-append (λ (entry : NameText × ExtendedType). listings_of entry.1) types (t ∷ []) ∙
    ap (λ l. listings_in types ++ l) (append-nil (listings_of t.1))) ∙
    fold-append with_implementer [] (listings_in types) (listings_of t.1)

names_of_listings : (d : ExtendedType) (listed : List ComponentName) →
    map (λ (l : Listing). l.0) (map (λ (c : ComponentName). (c.name, d)) listed) ≡ map (λ (c : ComponentName). c.name) listed
names_of_listings d [] = refl
names_of_listings d (c ∷ cs) = ap (λ l. c.name ∷ l) (names_of_listings d cs)

listed_in_order : (types : List (NameText × ExtendedType)) →
    map (λ l. l.0) (listings_in types) ≡ flat_map (λ entry. map (λ listed. listed.name) (interfaces_of entry.1)) types
listed_in_order [] = refl
listed_in_order (t ∷ ts) =
    map-append (λ (l : Listing). l.0) (listings_of t.1) (listings_in ts) ∙
    ap (λ l. l ++ map (λ (l : Listing). l.0) (listings_in ts)) (names_of_listings t.1 (interfaces_of t.1)) ∙
    ap (λ l. map (λ (c : ComponentName). c.name) (interfaces_of t.1) ++ l) (listed_in_order ts)

either : {X : Type 0} (b : Bool) (x y : X) → x ≡ y → cond b x y ≡ y
either true x y e = e
either false x y e = refl

named_twice : (names : List NameText) (n : NameText) → with_name (with_name names n) n ≡ with_name names n
named_twice names n =
    let there : stands_on (with_name names n) n ≡ true = stands_with names n n ∙ ap (λ b. stands_on names n || b) (same_name_itself n) ∙ or_true (stands_on names n) in
    rw there refl

module _ (test : ExtendedType → Bool) (interface : NameText) where
  abbrev lists : NameText × ExtendedType → Bool
  lists entry = test entry.1 && lists_interface interface entry.1

  abbrev passes : Listing → Bool
  passes l = test l.1 && same_name l.0 interface

  abbrev own : Listing → NameText
  own l = own_name l.1

  -- a type that lists the interface, once or more often, is added once
  listed_once : (known : List NameText) (d : ExtendedType) (listed : List ComponentName) →
      fold with_name known (map own (filter passes (map (λ c. (c.name, d)) listed))) ≡
      cond (test d && list_any (λ c. same_name c.name interface) listed) (with_name known (own_name d)) known
  listed_once known d [] = rw (and_false (test d)) refl
  listed_once known d (c ∷ cs) = by (test d) refl (same_name c.name interface) refl (λ known. listed_once known d cs) where
    by : (b : Bool) → test d ≡ b → (s : Bool) → same_name c.name interface ≡ s →
        ((known : List NameText) → fold with_name known (map own (filter passes (map (λ c. (c.name, d)) cs))) ≡
        cond (test d && list_any (λ c. same_name c.name interface) cs) (with_name known (own_name d)) known) →
        fold with_name known (map own (filter passes (map (λ c. (c.name, d)) (c ∷ cs)))) ≡
        cond (test d && list_any (λ c. same_name c.name interface) (c ∷ cs)) (with_name known (own_name d)) known
    by true is true same behind =
        rw (is, same) (behind (with_name known (own_name d)) ∙
        either (test d && list_any (λ c. same_name c.name interface) cs) (with_name (with_name known (own_name d)) (own_name d)) (with_name known (own_name d))
        (named_twice known (own_name d)))
    by true is false other behind = rw (is, other) (rw is at (behind known))
    by false not s e behind = rw not (rw not at (behind known))

  kind_in_order : (known : List NameText) (types : List (NameText × ExtendedType)) →
      fold with_name known (map own (filter passes (listings_in types))) ≡ fold with_name known (map (λ entry. own_name entry.1) (filter lists types))
  kind_in_order known [] = refl
  kind_in_order known (t ∷ ts) =
      let here = filter passes (listings_of t.1) in
      let behind = filter passes (listings_in ts) in
      ap (λ k. fold with_name known (map own k)) (filter-append passes (listings_of t.1) (listings_in ts)) ∙
      ap (fold with_name known) (map-append own here behind) ∙ fold-append with_name known (map own here) (map own behind) ∙
      ap (λ k. fold with_name k (map own behind)) (listed_once known t.1 (interfaces_of t.1)) ∙
      kind_in_order (cond (lists t) (with_name known (own_name t.1)) known) ts ∙ next (lists t) where
        next : (b : Bool) → fold with_name (cond b (with_name known (own_name t.1)) known) (map (λ entry. own_name entry.1) (filter lists ts)) ≡
            fold with_name known (map (λ entry. own_name entry.1) (cond b (t ∷ filter lists ts) (filter lists ts)))
        next true = refl
        next false = refl

-- the map that is made of all types
pub made_of_types : (schema : Schema) → fold with_implementer [] (listings_in schema.types.entries) ≡ implementers_map schema
made_of_types schema =
    let types = schema.types.entries in
    made_then [] (listings_in types) ∙
    (λ j. map (λ interface. (
      interface,
      record {
        objects = kind_in_order is_object_type interface [] types j;
        interfaces = kind_in_order is_interface_type interface [] types j;
      },
    )) (different_names (listed_in_order types j)))

any_mapped : (keys : List (Bor NameText)) (n : NameText) → list_any (same_name n) (map (λ name. name.now) keys) ≡ list_any (λ b. same_name n b.now) keys
any_mapped [] n = refl
any_mapped (k ∷ ks) n = ap (λ b. same_name n k.now || b) (any_mapped ks n)

-- a key that goes into a set of names
pub key_inserted : (keys : List (Bor NameText)) (k : Bor NameText) →
    map (λ name. name.now) (insert_key (λ a b. same_name a.now b.now) keys k) ≡ with_name (map (λ name. name.now) keys) k.now
key_inserted keys k = by (list_any (λ b. same_name k.now b.now) keys) refl where
  by : (b : Bool) → list_any (λ b. same_name k.now b.now) keys ≡ b →
      map (λ name. name.now) (insert_key (λ a b. same_name a.now b.now) keys k) ≡ with_name (map (λ name. name.now) keys) k.now
  by true known = rw (known, any_mapped keys k.now ∙ known) refl
  by false unknown = rw (unknown, any_mapped keys k.now ∙ unknown) (map-append (λ (name : Bor NameText). name.now) keys (k ∷ []))

-- what is listed under a name is looked up in the entries as names
pub found_as_names : (entries : List (Bor NameText × Implementers)) (n : NameText) →
    lookup (same_name n) (implementer_entries entries) ≡ option_map implementer_names (lookup (λ b. same_name n b.now) entries)
found_as_names [] n = refl
found_as_names (e ∷ es) n = by (same_name n e.0.now) (found_as_names es n) where
  by : (b : Bool) → lookup (same_name n) (implementer_entries es) ≡ option_map implementer_names (lookup (λ b. same_name n b.now) es) →
      cond b (Some (implementer_names e.1)) (lookup (same_name n) (implementer_entries es)) ≡
      option_map implementer_names (cond b (Some e.1) (lookup (λ b. same_name n b.now) es))
  by true behind = refl
  by false behind = behind

module _ (new : Implementers) where
  set_inserted : (entries : List (Bor NameText × Implementers)) (n : NameText) (known : Implementers) → lookup (λ b. same_name n b.now) entries ≡ Some known →
      implementer_entries (set_value (λ b. same_name n b.now) entries new) ≡ insert_entry same_name (implementer_entries entries) n (implementer_names new)
  set_inserted [] n known e = absurd (let h : ⊥ = cc in h)
  set_inserted (entry ∷ es) n known e = by (same_name n entry.0.now) refl (set_inserted es n known) where
    by : (b : Bool) → same_name n entry.0.now ≡ b →
        (lookup (λ b. same_name n b.now) es ≡ Some known → implementer_entries (set_value (λ b. same_name n b.now) es new) ≡ insert_entry same_name (implementer_entries es) n (implementer_names new)) →
        implementer_entries (set_value (λ b. same_name n b.now) (entry ∷ es) new) ≡ insert_entry same_name (implementer_entries (entry ∷ es)) n (implementer_names new)
    by true same behind = rw same refl
    by false other behind = rw other (ap (λ l. (entry.0.now, implementer_names entry.1) ∷ l) (behind (rw other at e)))

  entry_inserted : (entries : List (Bor NameText × Implementers)) (k : Bor NameText) →
      implementer_entries (insert_entry (λ a b. same_name a.now b.now) entries k new) ≡ insert_entry same_name (implementer_entries entries) k.now (implementer_names new)
  entry_inserted [] k = refl
  entry_inserted (entry ∷ es) k = by (same_name k.now entry.0.now) refl (entry_inserted es k) where
    by : (b : Bool) → same_name k.now entry.0.now ≡ b →
        implementer_entries (insert_entry (λ a b. same_name a.now b.now) es k new) ≡ insert_entry same_name (implementer_entries es) k.now (implementer_names new) →
        implementer_entries (insert_entry (λ a b. same_name a.now b.now) (entry ∷ es) k new) ≡ insert_entry same_name (implementer_entries (entry ∷ es)) k.now (implementer_names new)
    by true same behind = rw same refl
    by false other behind = rw other (ap (λ l. (entry.0.now, implementer_names entry.1) ∷ l) behind)

-- implementers that are put under a name that was there
pub set_as_names : (entries : List (Bor NameText × Implementers)) (n : NameText) (d : ExtendedType) (known new : Implementers) →
    lookup (λ b. same_name n b.now) entries ≡ Some known → implementer_names new ≡ with_own_name (implementer_names known) d →
    implementer_entries (set_value (λ b. same_name n b.now) entries new) ≡ with_implementer (implementer_entries entries) (n, d)
set_as_names entries n d known new e is =
    set_inserted new entries n known e ∙
    ap (insert_entry same_name (implementer_entries entries) n)
    (is ∙ ap (λ o. with_own_name (unwrap_or o no_implementers) d) (sym (found_as_names entries n ∙ ap (option_map implementer_names) e)))

-- implementers that are put under a new name
pub inserted_as_names : (entries : List (Bor NameText × Implementers)) (k : Bor NameText) (d : ExtendedType) (new : Implementers) →
    lookup (λ b. same_name k.now b.now) entries ≡ None → implementer_names new ≡ with_own_name no_implementers d →
    implementer_entries (insert_entry (λ a b. same_name a.now b.now) entries k new) ≡ with_implementer (implementer_entries entries) (k.now, d)
inserted_as_names entries k d new e is =
    entry_inserted new entries k ∙
    ap (insert_entry same_name (implementer_entries entries) k.now)
    (is ∙ ap (λ o. with_own_name (unwrap_or o no_implementers) d) (sym (found_as_names entries k.now ∙ ap (option_map implementer_names) e)))
