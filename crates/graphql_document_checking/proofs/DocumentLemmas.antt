-- The rules over all definitions of a document, in words of the checks.
use Rattle.std.proofs.Common.{◌≡◌, ◌↔◌, ℕ, ◌+◌, ◌<◌, ◌≤◌, ◌∙◌, List, [], ◌∷◌, ◌++◌, Bor, Bool, true, false, IsFalse, Option, Some, None, length, get_or, take, map, refl, sym, ap, subst, arith, All}
use Rattle.std.specs.List.{cons_option, filter_map}
use Rattle.std.specs.Option.{option_map}
use Rattle.std.specs.Prelude.{is_none, if◌then◌else◌}
use Rattle.std.proofs.lemmas.List.Elements.{All-cons, All-head, All-nil, All-tail}
use Rattle.graphql_nodes.specs.Names.{NameText}
use Rattle.graphql_documents.specs.declared.documents.schemas.Schema.{Schema}
use Rattle.graphql_nodes.specs.Names.{AreDistinct}
use Rattle.graphql_trees.specs.declared.documents.Definition.{Definition}
use Rattle.graphql_trees.specs.declared.documents.Definition.TheVariants as definition
use Rattle.graphql_trees.specs.declared.documents.Document.{Document}
use Rattle.graphql_trees.specs.declared.executable.OperationDefinition.{OperationDefinition}
use Rattle.graphql_repetitions.proofs.ReferenceLemmas.{passed_over_next, taken_next}
use Rattle.graphql_repetitions.specs.References.{nows}
use Rattle.graphql_document_building.specs.BuildingRules.{AnonymousOperationIsAlone, DefinitionBuilds, DocumentBuilds}
use Rattle.graphql_document_building.specs.Trees.{anonymous_operations_in, operations_in}
use Rattle.graphql_document_checking.specs.DocumentReports.{fragment_names, operation_names}

abbrev HasName : OperationDefinition → Type 0
HasName x = IsFalse (is_none x.name)

-- each operation has a name exactly where none is without one
all_named : (ds : List Definition) → All HasName (operations_in ds) ↔ (anonymous_operations_in ds ≡ [])
all_named [] = (λ _. refl, λ _. All-nil HasName)
all_named (definition.Operation x ∷ ds) = by (is_none x.name) refl (all_named ds) where
  by : (b : Bool) → is_none x.name ≡ b → (All HasName (operations_in ds) ↔ (anonymous_operations_in ds ≡ [])) →
      All HasName (x ∷ operations_in ds) ↔ (cons_option (if b then Some x else None) (anonymous_operations_in ds) ≡ [])
  by true none rest = (
    λ all. let named : HasName x = All-head HasName x (operations_in ds) all in absurd (let no : ⊥ = cc in no),
    λ (empty : x ∷ anonymous_operations_in ds ≡ []). absurd (let no : ⊥ = cc in no),
  )
  by false some rest = (
    λ all. rest.0 (All-tail HasName x (operations_in ds) all),
    λ empty. All-cons HasName x (operations_in ds) some (rest.1 empty),
  )
all_named (_ ∷ ds) = all_named ds

nothing : (xs : List OperationDefinition) → length xs < 1 → xs ≡ []
nothing [] few = refl
nothing (x ∷ xs) few = absurd (let no : ⊥ = omega (arith, few) in no)

-- where there is one operation at most, it is alone
pub few_alone : (ds : List Definition) → length (operations_in ds) < 2 → AnonymousOperationIsAlone ds
few_alone [] few = All-nil (λ (y : OperationDefinition). [] ≡ y ∷ [])
few_alone (definition.Operation x ∷ ds) few =
    let none : operations_in ds ≡ [] = nothing (operations_in ds) (omega (arith, few)) in
    let no_anonymous : anonymous_operations_in ds ≡ [] = (all_named ds).0 (subst (All HasName) (sym none) (All-nil HasName)) in
    subst (λ l. All (λ y. x ∷ l ≡ y ∷ []) (cons_option (if is_none x.name then Some x else None) (anonymous_operations_in ds))) (sym none)
    (subst (λ l. All (λ y. x ∷ [] ≡ y ∷ []) (cons_option (if is_none x.name then Some x else None) l)) (sym no_anonymous) (by (is_none x.name)))
  where
    by : (b : Bool) → All (λ y. x ∷ [] ≡ y ∷ []) (cons_option (if b then Some x else None) [])
    by true = All-cons (λ y. x ∷ [] ≡ y ∷ []) x [] refl (All-nil (λ y. x ∷ [] ≡ y ∷ []))
    by false = All-nil (λ y. x ∷ [] ≡ y ∷ [])
few_alone (_ ∷ ds) few = few_alone ds few

-- where there are several, each has a name exactly where one without is alone: there is none
pub several_alone : (ds : List Definition) → 2 ≤ length (operations_in ds) → All HasName (operations_in ds) ↔ AnonymousOperationIsAlone ds
several_alone ds several = (
  λ named. subst (All (λ x. operations_in ds ≡ x ∷ [])) (sym ((all_named ds).0 named)) (All-nil (λ x. operations_in ds ≡ x ∷ [])),
  λ alone. (all_named ds).1 (none (anonymous_operations_in ds) alone),
) where
  none : (xs : List OperationDefinition) → All (λ x. operations_in ds ≡ x ∷ []) xs → xs ≡ []
  none [] all = refl
  none (x ∷ xs) all =
      let only : operations_in ds ≡ x ∷ [] = All-head (λ x. operations_in ds ≡ x ∷ []) x xs all in
      absurd (let no : ⊥ = omega (arith, several, ap length only) in no)

-- the names of what a list gives, one by one
module _ {D X : Type 0} (h : D → Option (NameText × X)) where
  abbrev name_given : D → Option NameText
  name_given d = option_map (λ p. p.0) (h d)

  names_given : (ds : List D) → map (λ p. p.0) (filter_map h ds) ≡ filter_map name_given ds
  names_given [] = refl
  names_given (d ∷ ds) = by (h d) (names_given ds) where
    by : (o : Option (NameText × X)) → map (λ p. p.0) (filter_map h ds) ≡ filter_map name_given ds →
        map (λ p. p.0) (cons_option o (filter_map h ds)) ≡ cons_option (option_map (λ p. p.0) o) (filter_map name_given ds)
    by None rest = rest
    by (Some p) rest = ap (λ l. p.0 ∷ l) rest

  module _ (ds : List D) (i : ℕ) (d : D) (within : i < length ds) (item : d ≡ get_or ds i d) where
    pub no_name_more : (names : List NameText) → option_map (λ p. p.0) (h d) ≡ None →
        names ≡ map (λ p. p.0) (filter_map h (take i ds)) → names ≡ map (λ p. p.0) (filter_map h (take (i + 1) ds))
    no_name_more names none e =
        passed_over_next name_given ds i d within item names none (e ∙ names_given (take i ds)) ∙ sym (names_given (take (i + 1) ds))

    pub name_more : (name : Bor NameText) (names more : List (Bor NameText)) → more ≡ names ++ name ∷ [] → option_map (λ p. p.0) (h d) ≡ Some name.now →
        nows names ≡ map (λ p. p.0) (filter_map h (take i ds)) → nows more ≡ map (λ p. p.0) (filter_map h (take (i + 1) ds))
    name_more name names more is some e =
        taken_next name_given ds i d within item name names more is some (e ∙ names_given (take i ds)) ∙ sym (names_given (take (i + 1) ds))

pub builds_words : (schema : Option Schema) (x : Document) →
    (AnonymousOperationIsAlone x.definitions × (AreDistinct (operation_names x.definitions) × (AreDistinct (fragment_names x.definitions) ×
    All (DefinitionBuilds schema) x.definitions))) ↔ DocumentBuilds schema x
builds_words schema x = (
  λ p. record { definitions = p.1.1.1; anonymous_operation = p.0; operation_names = p.1.0; fragment_names = p.1.1.0 },
  λ b. (b.anonymous_operation, (b.operation_names, (b.fragment_names, b.definitions))),
)
