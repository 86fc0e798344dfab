-- What is found in the first documents, and in one more.
use Rattle.std.proofs.Common.{◌≡◌, ◌∙◌, ◌||◌, ℕ, ◌+◌, add-one, List, [], ◌∷◌, ◌++◌, Bool, true, false, ap, append_assoc, flat_map, refl, sym, subst, Result, Ok, Err, IfOk, IfErr, IsErrAnd, IsOkUnless}
use Rattle.std.specs.List.{AllZip, list_any}
use Rattle.std.proofs.lemmas.Grind.{flat_map-append}
use Rattle.std.proofs.lemmas.List.{append-nil}
use Rattle.json.specs.Print.{print}
use Rattle.json.specs.Token.{Token, begin_array, end_array}
use Rattle.json.specs.Written.{Written}
use Rattle.graphql_documents.specs.declared.documents.schemas.Schema.{Schema}
use Rattle.graphql_answers.specs.declared.answers.Answer.{Answer}
use Rattle.graphql_answers.specs.declared.answers.Found.{Found}
use Rattle.graphql_answers.specs.declared.answers.Refusal.{Refusal}
use Rattle.graphql_answers.specs.declared.answers.Refusal.TheVariants.{OutOfMemory}
use Rattle.graphql_answers.specs.Answers.{Checks}
use Rattle.graphql_answers.specs.Batches.{AppendsChecked, ChecksFirst, Told, array, document_at, first_documents}
use Rattle.graphql_answers.specs.Objects.{IsAnswer}

-- before the first document nothing is reported, and nothing is written
pub nothing-first : (schema : Schema) (bytes ends : List ℕ) (json : Written) → AppendsChecked schema bytes ends 0 false json json
nothing-first schema bytes ends json = record {
  objects = [];
  checks = record { told = []; each = tt; reported_is = refl; objects_are = refl };
  appended = sym (append-nil json.tokens);
}

zip_pushed : {A B : Type 0} (R : A → B → Type 0) (xs : List A) (ys : List B) (x : A) (y : B) → AllZip R xs ys → R x y → AllZip R (xs ++ x ∷ []) (ys ++ y ∷ [])
zip_pushed R [] [] x y all r = (r, tt)
zip_pushed R [] (b ∷ ys) x y all r = absurd all
zip_pushed R (a ∷ xs) [] x y all r = absurd all
zip_pushed R (a ∷ xs) (b ∷ ys) x y all r = (all.0, zip_pushed R xs ys x y all.1 r)

or_assoc : (a b c : Bool) → (a || (b || c)) ≡ ((a || b) || c)
or_assoc true b c = refl
or_assoc false b c = refl

or_false : (a : Bool) → (a || false) ≡ a
or_false true = refl
or_false false = refl

or_true : (a : Bool) → (a || true) ≡ true
or_true true = refl
or_true false = refl

any_pushed : {X : Type 0} (f : X → Bool) (xs : List X) (x : X) → list_any f (xs ++ x ∷ []) ≡ (list_any f xs || f x)
any_pushed f [] x = or_false (f x)
any_pushed f (y ∷ ys) x = ap (λ b. f y || b) (any_pushed f ys x) ∙ or_assoc (f y) (list_any f ys) (f x)

checked_more : (schema : Schema) (bytes ends : List ℕ) (n : ℕ) (reported found : Bool) (objects object : List Token) →
    ChecksFirst schema bytes ends n reported objects → Checks schema (document_at bytes ends n) found object →
    ChecksFirst schema bytes ends (n + 1) (reported || found) (objects ++ object)
checked_more schema bytes ends n reported found objects object so more =
    let one : Told = record { reported = found; object = object } in
    record {
      told = so.told ++ one ∷ [];
      each = rw add-one
          (zip_pushed (λ document (t : Told). Checks schema document t.reported t.object) (first_documents bytes ends n) so.told (document_at bytes ends n) one so.each more);
      reported_is = ap (λ b. b || found) so.reported_is ∙ sym (any_pushed (λ (t : Told). t.reported) so.told one);
      objects_are = ap (λ l. l ++ object) so.objects_are ∙ ap (λ l. flat_map (λ (t : Told). t.object) so.told ++ l) (sym (append-nil object))
          ∙ sym (flat_map-append (λ (t : Told). t.object) so.told (one ∷ []));
    }

-- the object of one more document was appended
appended_more : (schema : Schema) (bytes ends : List ℕ) (n : ℕ) (reported found after : Bool) (old mid new : Written) →
    AppendsChecked schema bytes ends n reported old mid →
    (object : List Token) × Checks schema (document_at bytes ends n) found object × (new.tokens ≡ mid.tokens ++ object) →
    (reported || found) ≡ after → AppendsChecked schema bytes ends (n + 1) after old new
appended_more schema bytes ends n reported found after old mid new so (object, checks, appended) same = record {
  objects = so.objects ++ object;
  checks = subst (λ b. ChecksFirst schema bytes ends (n + 1) b (so.objects ++ object)) same
      (checked_more schema bytes ends n reported found so.objects object so.checks checks);
  appended = appended ∙ ap (λ l. l ++ object) so.appended ∙ append_assoc old.tokens so.objects object;
}

-- one more document, of which nothing is reported, changes nothing of what is found
pub without : (schema : Schema) (bytes ends : List ℕ) (n : ℕ) (reported : Bool) (old mid new : Written) →
    AppendsChecked schema bytes ends n reported old mid →
    (object : List Token) × Checks schema (document_at bytes ends n) false object × (new.tokens ≡ mid.tokens ++ object) →
    AppendsChecked schema bytes ends (n + 1) reported old new
without schema bytes ends n reported old mid new so one = appended_more schema bytes ends n reported false reported old mid new so one (or_false reported)

-- of one more document something is reported
pub with : (schema : Schema) (bytes ends : List ℕ) (n : ℕ) (reported : Bool) (old mid new : Written) →
    AppendsChecked schema bytes ends n reported old mid →
    (object : List Token) × Checks schema (document_at bytes ends n) true object × (new.tokens ≡ mid.tokens ++ object) →
    AppendsChecked schema bytes ends (n + 1) true old new
with schema bytes ends n reported old mid new so one = appended_more schema bytes ends n reported true true old mid new so one (or_true reported)

-- the array is written: its beginning, the objects and its end
pub array_written : (begun with_objects ended objects : List Token) → begun ≡ begin_array ∷ [] → with_objects ≡ begun ++ objects →
    ended ≡ with_objects ++ end_array ∷ [] → ended ≡ array objects
array_written begun with_objects ended objects e f g = g ∙ ap (λ l. l ++ end_array ∷ []) (f ∙ ap (λ l. l ++ objects) e)

-- the JSON of a writer that began with nothing
pub printed : (before items : List ℕ) (tokens object : List Token) → items ≡ before ++ print tokens → before ≡ [] → tokens ≡ object → items ≡ print object
printed before items tokens object is none same = is ∙ ap (λ b. b ++ print tokens) none ∙ ap print same

-- an answer tells what was found, and its JSON is that of what was found
pub told : (P : Found → List ℕ → Type 0) (r : Result Answer Refusal) (found : Found) (IsObject : List Token → Type 0) →
    IfOk r (IsAnswer found IsObject) → ((object : List Token) → IsObject object → P found (print object)) → IfOk r (λ a. P a.found a.json.items)
told P (Ok a) found IsObject is p =
    subst (λ f. P f a.json.items) (sym is.found_is) (subst (P found) (sym is.json_is) (p is.object is.is_object))
told P (Err e) found IsObject is p = tt

-- where memory alone can lack
pub memory_of : {T : Type 0} (r : Result T Refusal) (Q : Refusal → Type 0) → IsOkUnless r OutOfMemory → Q OutOfMemory → IfErr r Q
memory_of (Ok x) Q only q = tt
memory_of (Err e) Q only q = subst Q (sym only) q

-- at an exit that hands this refusal on
pub handed_on : {T : Type 0} (r : Result T Refusal) (e : Refusal) (Q : Refusal → Type 0) → IsErrAnd r (λ y. y ≡ e) → Q e → IfErr r Q
handed_on (Ok x) e Q h q = tt
handed_on (Err y) e Q h q = subst Q (sym h) q
