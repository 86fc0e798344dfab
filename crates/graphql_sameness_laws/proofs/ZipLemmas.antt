-- Lists and options that are related element by element.
use Rattle.std.proofs.Common.{◌≡◌, ◌<◌, Bool, true, false, cond, ◌||◌, List, [], ◌∷◌, ◌++◌, Option, None, Some, map, length, get_or, refl, sym, ap, ap₂, subst, arith}
use Rattle.std.specs.Prelude.{All, AllPairs, Any, Contains, IsSomeAnd, filter, find, flat_map, is_some, option_map, option_to_list}
use Rattle.std.specs.List.{AllZip, list_any}
use Rattle.std.specs.Option.{option_and_then}
use Rattle.std.proofs.lemmas.List.Elements.{AllZip-get_or, Contains-get_or, length_all_zip}
use Rattle.std.specs.Map.{lookup}
use Rattle.graphql_nodes.specs.Names.{NameText}
use Rattle.graphql_documents.specs.Contents.{SameIfAny}

-- ==== options

module _ {X : Type 0} (R : X → X → Type 0) where
  pub other_side : (o p : Option X) (x : X) → SameIfAny R o p → o ≡ Some x → (y : X) × (p ≡ Some y) × R x y
  other_side None None x same e = absurd (let h : ⊥ = cc in h)
  other_side None (Some y) x same e = absurd same
  other_side (Some z) None x same e = absurd same
  other_side (Some z) (Some y) x same e = let here : z ≡ x = cc in (y, refl, subst (λ z. R z y) here same)

  pub none_too : (o p : Option X) → SameIfAny R o p → o ≡ None → p ≡ None
  none_too None None same e = refl
  none_too None (Some y) same e = absurd same
  none_too (Some z) None same e = absurd same
  none_too (Some z) (Some y) same e = absurd (let h : ⊥ = cc in h)

  pub some_alike : (o p : Option X) → SameIfAny R o p → is_some o ≡ is_some p
  some_alike None None same = refl
  some_alike None (Some y) same = absurd same
  some_alike (Some z) None same = absurd same
  some_alike (Some z) (Some y) same = refl

  pub some_and : (P Q : X → Type 0) → ((x y : X) → R x y → P x → Q y) → (o p : Option X) → SameIfAny R o p → IsSomeAnd o P → IsSomeAnd p Q
  some_and P Q one None p same h = absurd h
  some_and P Q one (Some x) None same h = absurd same
  some_and P Q one (Some x) (Some y) same h = one x y same h

  pub options_back : (S : X → X → Type 0) → ((x y : X) → R x y → S y x) → (o p : Option X) → SameIfAny R o p → SameIfAny S p o
  options_back S one None None same = tt
  options_back S one None (Some y) same = absurd same
  options_back S one (Some x) None same = absurd same
  options_back S one (Some x) (Some y) same = one x y same

  pub options_mapped : {Y : Type 0} (S : Y → Y → Type 0) (f : X → Y) → ((x y : X) → R x y → S (f x) (f y)) → (o p : Option X) → SameIfAny R o p →
      SameIfAny S (option_map f o) (option_map f p)
  options_mapped S f one None None same = tt
  options_mapped S f one None (Some y) same = absurd same
  options_mapped S f one (Some x) None same = absurd same
  options_mapped S f one (Some x) (Some y) same = one x y same

  pub options_then : {Y : Type 0} (S : Y → Y → Type 0) (f g : X → Option Y) → ((x y : X) → R x y → SameIfAny S (f x) (g y)) → (o p : Option X) → SameIfAny R o p →
      SameIfAny S (option_and_then f o) (option_and_then g p)
  options_then S f g one None None same = tt
  options_then S f g one None (Some y) same = absurd same
  options_then S f g one (Some x) None same = absurd same
  options_then S f g one (Some x) (Some y) same = one x y same

  pub options_themselves : ((x : X) → R x x) → (o : Option X) → SameIfAny R o o
  options_themselves one None = tt
  options_themselves one (Some x) = one x

-- ==== lists

joined : {X : Type 0} (R : X → X → Type 0) (xs ys us vs : List X) → AllZip R xs ys → AllZip R us vs → AllZip R (xs ++ us) (ys ++ vs)
joined R [] [] us vs zip more = more
joined R [] (y ∷ ys) us vs zip more = absurd zip
joined R (x ∷ xs) [] us vs zip more = absurd zip
joined R (x ∷ xs) (y ∷ ys) us vs zip more = (zip.0, joined R xs ys us vs zip.1 more)

module _ {X : Type 0} (R : X → X → Type 0) where
  pub zip_back : (S : X → X → Type 0) → ((x y : X) → R x y → S y x) → (xs ys : List X) → AllZip R xs ys → AllZip S ys xs
  zip_back S one [] [] zip = tt
  zip_back S one [] (y ∷ ys) zip = absurd zip
  zip_back S one (x ∷ xs) [] zip = absurd zip
  zip_back S one (x ∷ xs) (y ∷ ys) zip = (one x y zip.0, zip_back S one xs ys zip.1)

  pub zip_weaker : (S : X → X → Type 0) → ((x y : X) → R x y → S x y) → (xs ys : List X) → AllZip R xs ys → AllZip S xs ys
  zip_weaker S one [] [] zip = tt
  zip_weaker S one [] (y ∷ ys) zip = absurd zip
  zip_weaker S one (x ∷ xs) [] zip = absurd zip
  zip_weaker S one (x ∷ xs) (y ∷ ys) zip = (one x y zip.0, zip_weaker S one xs ys zip.1)

  pub zip_itself : ((x : X) → R x x) → (xs : List X) → AllZip R xs xs
  zip_itself one [] = tt
  zip_itself one (x ∷ xs) = (one x, zip_itself one xs)

  pub zip_mapped : {Y : Type 0} (S : Y → Y → Type 0) (f : X → Y) → ((x y : X) → R x y → S (f x) (f y)) → (xs ys : List X) → AllZip R xs ys → AllZip S (map f xs) (map f ys)
  zip_mapped S f one [] [] zip = tt
  zip_mapped S f one [] (y ∷ ys) zip = absurd zip
  zip_mapped S f one (x ∷ xs) [] zip = absurd zip
  zip_mapped S f one (x ∷ xs) (y ∷ ys) zip = (one x y zip.0, zip_mapped S f one xs ys zip.1)

  pub zip_one : {Y : Type 0} (f : X → Y) → ((x y : X) → R x y → f x ≡ f y) → (xs ys : List X) → AllZip R xs ys → map f xs ≡ map f ys
  zip_one f one [] [] zip = refl
  zip_one f one [] (y ∷ ys) zip = absurd zip
  zip_one f one (x ∷ xs) [] zip = absurd zip
  zip_one f one (x ∷ xs) (y ∷ ys) zip = ap₂ ◌∷◌ (one x y zip.0) (zip_one f one xs ys zip.1)

  pub zip_joined : (xs ys us vs : List X) → AllZip R xs ys → AllZip R us vs → AllZip R (xs ++ us) (ys ++ vs)
  zip_joined = joined R

  pub zip_contains : (xs ys : List X) (x : X) → AllZip R xs ys → Contains xs x → (y : X) × Contains ys y × R x y
  zip_contains xs ys x zip c =
      let within : c.0 < length ys = subst (λ n. c.0 < n) (length_all_zip R xs ys zip) c.1 in
      (get_or ys c.0 x, Contains-get_or ys c.0 x within, subst (λ w. R w (get_or ys c.0 x)) c.2 (AllZip-get_or R xs ys c.0 x x zip c.1))

  pub zip_any : (P Q : X → Type 0) → ((x y : X) → R x y → P x → Q y) → (xs ys : List X) → AllZip R xs ys → Any P xs → Any Q ys
  zip_any P Q one xs ys zip any =
      let found = zip_contains xs ys any.1 zip (any.0, any.2, any.3) in
      (found.1.0, found.0, found.1.1, found.1.2, one any.1 found.0 found.2 any.4)

  pub zip_all : (P Q : X → Type 0) → ((x y : X) → R x y → P x → Q y) → (xs ys : List X) → AllZip R xs ys → All P xs → All Q ys
  zip_all P Q one xs ys zip all k d within =
      let before : k < length xs = subst (λ n. k < n) (sym (length_all_zip R xs ys zip)) within in
      one (get_or xs k d) (get_or ys k d) (AllZip-get_or R xs ys k d d zip before) (all k d before)

  pub zip_all_pairs : (P Q : X → X → Type 0) → ((x y u v : X) → R x u → R y v → P x y → Q u v) → (xs ys : List X) → AllZip R xs ys → AllPairs P xs → AllPairs Q ys
  zip_all_pairs P Q one xs ys zip all i j d lt within =
      let before : j < length xs = subst (λ n. j < n) (sym (length_all_zip R xs ys zip)) within in
      let first : i < length xs = omega (arith, lt, before) in
      one (get_or xs i d) (get_or xs j d) (get_or ys i d) (get_or ys j d) (AllZip-get_or R xs ys i d d zip first) (AllZip-get_or R xs ys j d d zip before)
      (all i j d lt before)

  pub zip_find : (f g : X → Bool) → ((x y : X) → R x y → f x ≡ g y) → (xs ys : List X) → AllZip R xs ys → SameIfAny R (find f xs) (find g ys)
  zip_find f g one [] [] zip = tt
  zip_find f g one [] (y ∷ ys) zip = absurd zip
  zip_find f g one (x ∷ xs) [] zip = absurd zip
  zip_find f g one (x ∷ xs) (y ∷ ys) zip = found_here (f x) (g y) (one x y zip.0) x y _ _ zip.0 (zip_find f g one xs ys zip.1)
    where
      found_here : (s t : Bool) → s ≡ t → (x y : X) (o p : Option X) → R x y → SameIfAny R o p → SameIfAny R (cond s (Some x) o) (cond t (Some y) p)
      found_here true true e x y o p here there = here
      found_here false false e x y o p here there = there
      found_here true false e x y o p here there = absurd (let h : ⊥ = cc in h)
      found_here false true e x y o p here there = absurd (let h : ⊥ = cc in h)

  pub zip_filter : (f g : X → Bool) → ((x y : X) → R x y → f x ≡ g y) → (xs ys : List X) → AllZip R xs ys → AllZip R (filter f xs) (filter g ys)
  zip_filter f g one [] [] zip = tt
  zip_filter f g one [] (y ∷ ys) zip = absurd zip
  zip_filter f g one (x ∷ xs) [] zip = absurd zip
  zip_filter f g one (x ∷ xs) (y ∷ ys) zip = kept (f x) (g y) (one x y zip.0) x y _ _ zip.0 (zip_filter f g one xs ys zip.1)
    where
      kept : (s t : Bool) → s ≡ t → (x y : X) (us vs : List X) → R x y → AllZip R us vs → AllZip R (cond s (x ∷ us) us) (cond t (y ∷ vs) vs)
      kept true true e x y us vs here there = (here, there)
      kept false false e x y us vs here there = there
      kept true false e x y us vs here there = absurd (let h : ⊥ = cc in h)
      kept false true e x y us vs here there = absurd (let h : ⊥ = cc in h)

  pub zip_flat : {Y : Type 0} (S : Y → Y → Type 0) (f : X → List Y) → ((x y : X) → R x y → AllZip S (f x) (f y)) → (xs ys : List X) → AllZip R xs ys →
      AllZip S (flat_map f xs) (flat_map f ys)
  zip_flat S f one [] [] zip = tt
  zip_flat S f one [] (y ∷ ys) zip = absurd zip
  zip_flat S f one (x ∷ xs) [] zip = absurd zip
  zip_flat S f one (x ∷ xs) (y ∷ ys) zip = joined S (f x) (f y) _ _ (one x y zip.0) (zip_flat S f one xs ys zip.1)

  pub zip_one_flat : {Y : Type 0} (f : X → List Y) → ((x y : X) → R x y → f x ≡ f y) → (xs ys : List X) → AllZip R xs ys → flat_map f xs ≡ flat_map f ys
  zip_one_flat f one [] [] zip = refl
  zip_one_flat f one [] (y ∷ ys) zip = absurd zip
  zip_one_flat f one (x ∷ xs) [] zip = absurd zip
  zip_one_flat f one (x ∷ xs) (y ∷ ys) zip = ap₂ ◌++◌ (one x y zip.0) (zip_one_flat f one xs ys zip.1)

  pub zip_list_any : (f g : X → Bool) → ((x y : X) → R x y → f x ≡ g y) → (xs ys : List X) → AllZip R xs ys → list_any f xs ≡ list_any g ys
  zip_list_any f g one [] [] zip = refl
  zip_list_any f g one [] (y ∷ ys) zip = absurd zip
  zip_list_any f g one (x ∷ xs) [] zip = absurd zip
  zip_list_any f g one (x ∷ xs) (y ∷ ys) zip = ap₂ ◌||◌ (one x y zip.0) (zip_list_any f g one xs ys zip.1)

  pub zip_empty : (xs ys : List X) → AllZip R xs ys → xs ≡ [] → ys ≡ []
  zip_empty [] [] zip e = refl
  zip_empty [] (y ∷ ys) zip e = absurd zip
  zip_empty (x ∷ xs) [] zip e = absurd zip
  zip_empty (x ∷ xs) (y ∷ ys) zip e = absurd (let h : ⊥ = cc in h)

  -- entries under one name
  pub zip_lookup : (test : NameText → Bool) → (xs ys : List (NameText × X)) → AllZip (λ a b. (a.0 ≡ b.0) × R a.1 b.1) xs ys →
      SameIfAny R (lookup test xs) (lookup test ys)
  zip_lookup test [] [] zip = tt
  zip_lookup test [] (y ∷ ys) zip = absurd zip
  zip_lookup test (x ∷ xs) [] zip = absurd zip
  zip_lookup test (x ∷ xs) (y ∷ ys) zip = found_here (test x.0) (test y.0) (ap test zip.0.0) x.1 y.1 _ _ zip.0.1 (zip_lookup test xs ys zip.1)
    where
      found_here : (s t : Bool) → s ≡ t → (x y : X) (o p : Option X) → R x y → SameIfAny R o p → SameIfAny R (cond s (Some x) o) (cond t (Some y) p)
      found_here true true e x y o p here there = here
      found_here false false e x y o p here there = there
      found_here true false e x y o p here there = absurd (let h : ⊥ = cc in h)
      found_here false true e x y o p here there = absurd (let h : ⊥ = cc in h)

  pub zip_option : (o p : Option X) → AllZip R (option_to_list o) (option_to_list p) → SameIfAny R o p
  zip_option None None zip = tt
  zip_option None (Some y) zip = absurd zip
  zip_option (Some x) None zip = absurd zip
  zip_option (Some x) (Some y) zip = zip.0
