-- The rules in the words of the checks.
use Rattle.std.proofs.Common.{◌≡◌, ℕ, zero, suc, ◌-◌, ◌<◌, ◌≤◌, ◌↔◌, ◌∷◌, ◌∙◌, [], All, Bor, Bool, true, false, cond, IsFalse, IsTrue, List, Option, None, Some, drop, get_or, take, length, arith, refl, sym, ap, subst, map}
use Rattle.std.specs.Prelude.{Result, Ok, Err, filter, not, ◌&&◌}
use Rattle.std.proofs.lemmas.List.{length-map, take_all}
use Rattle.std.proofs.lemmas.List.Elements.{All-head, All-nil, All-weaker}
use Rattle.graphql_nodes.specs.Names.{AreDistinct, NameText, same_name}
use Rattle.graphql_nodes.specs.declared.operation_types.OperationType.{OperationType}
use Rattle.graphql_nodes.specs.declared.spans.SourceSpan.{SourceSpan}
use Rattle.graphql_documents.proofs.ListLemmas.{all_pass}
use Rattle.graphql_diagnostics.proofs.ReportLemmas.{ChecksList, checks_words}
use Rattle.graphql_trees.specs.declared.documents.Definition.{Definition}
use Rattle.graphql_trees.specs.declared.type_system.SchemaDefinition.{SchemaDefinition}
use Rattle.graphql_trees.specs.declared.type_system.TypeDefinition.{TypeDefinition}
use Rattle.graphql_schema_checking.specs.Definitions.{built_in_directive_names, executables, is_executable, kind_of, name_of, own_directive_names, parts_of, redefines_scalar, same_kind, schema_extensions, schemas, type_extensions, type_named, types}
use Rattle.graphql_schema_checking.specs.Rules.{NameRules, TypeRules, WholeRules}
use Rattle.graphql_schema_checking.specs.SchemaBuilds.{DefinitionsBuild, HasDistinctParts, IsNoOtherThanInterface, IsOfKind, all_interface_names, all_member_names, has_schema, implemented_names, roots}
use Rattle.graphql_repetitions.specs.Repetitions.{RepetitionReport, repetition_rule}
use Rattle.graphql_schema_checking.specs.SchemaReports.{DefinitionsReport, ExecutableReport, ExtensionReport, LaterReport, NonInterfaceReport, OrphanSchemaReport, PartsReport, ScalarReport, repeatable_type_names, root_places, schema_places, of_built_in_directive, of_directive, of_executable, of_extension, of_implemented, of_interface, of_member, of_orphan_schema, of_root, of_scalar, of_schema, of_type}
use Rattle.graphql_schema_checking.specs.Steps.{single_rule}
use Rattle.graphql_repetitions.specs.declared.repetitions.Repeated.TheVariants as repeated
use Rattle.graphql_building_reports.specs.declared.kinds.TypeKind.{TypeKind}
use Rattle.graphql_building_reports.specs.declared.rules.BuildingRule.TheVariants as rule
use Rattle.graphql_building_reports.specs.declared.lists.BuildingReport.{BuildingReport}
use Rattle.graphql_schema_checking.specs.declared.single.Single.{Single}
use Rattle.graphql_schema_checking.specs.declared.single.Single.TheVariants as single
use Rattle.graphql_schema_checking.proofs.ByNameLemmas.{all_first}

-- nothing is behind the first exactly where there is one at most
pub none_later : {X : Type 0} (x : X) (later : List X) → All (λ y. ⊥) later ↔ (length (x ∷ later) ≤ 1)
none_later x [] = (λ _. omega arith, λ _. All-nil (λ y. ⊥))
none_later x (y ∷ ys) = (λ all. absurd (All-head (λ y. ⊥) y ys all), λ few. absurd (let no : ⊥ = omega arith in no))

-- an element of a list, whatever is given for those behind its end
pub any_default : {X : Type 0} (xs : List X) (i : ℕ) (d e : X) → i < length xs → get_or xs i d ≡ get_or xs i e
any_default [] i d e within = absurd (let no : ⊥ = omega (arith, within) in no)
any_default (x ∷ xs) zero d e within = refl
any_default (x ∷ xs) (suc i) d e within = any_default xs i d e (omega (arith, within))

-- the first place, and those behind it
pub later_checked : {T E : Type 0} (r : Result T E) (places : List (Option SourceSpan)) (what : Single) (old new : List BuildingReport) → 1 ≤ length places →
    ChecksList r (All (λ place. ⊥) (take (length places - 1) (drop 1 places)))
    (LaterReport (get_or places 0 None ∷ take (length places - 1) (drop 1 places)) (single_rule what)) old new →
    ChecksList r (length places ≤ 1) (LaterReport places (single_rule what)) old new
later_checked r [] what old new some c = absurd (let no : ⊥ = omega (arith, some) in no)
later_checked r (x ∷ xs) what old new some c =
    let behind : take (length (x ∷ xs) - 1) xs ≡ xs = take_all (length (x ∷ xs) - 1) xs (omega arith) in
    checks_words r _ _ _ _ old new (none_later x xs) (λ e q. q)
    (subst (λ l. ChecksList r (All (λ place. ⊥) l) (LaterReport (x ∷ l) (single_rule what)) old new) behind c)

few_mapped : {X Y : Type 0} (f : X → Y) (xs : List X) → (length (map f xs) ≤ 1) ↔ (length xs ≤ 1)
few_mapped f xs = (λ few. rw (length-map xs f) at few, λ few. rw (length-map xs f) few)

-- each check of definitions, in words of all
module _ {T E : Type 0} (r : Result T E) (ds : List Definition) (old new : List BuildingReport) where
  pub executables_checked : (xs : List Definition) → xs ≡ executables ds →
      ChecksList r (All (λ d. IsFalse (is_executable d)) xs) (ExecutableReport xs) old new →
      ChecksList r (All (λ d. IsFalse (is_executable d)) (executables ds)) (DefinitionsReport ds) old new
  executables_checked xs is c =
      checks_words r _ _ _ _ old new (λ h. h, λ h. h) (λ e q. of_executable q)
      (subst (λ l. ChecksList r (All (λ d. IsFalse (is_executable d)) l) (ExecutableReport l) old new) is c)

  pub schemas_checked : (places : List (Option SourceSpan)) → places ≡ schema_places ds →
      ChecksList r (length places ≤ 1) (LaterReport places (single_rule single.Schema)) old new →
      ChecksList r (length (schemas ds) ≤ 1) (DefinitionsReport ds) old new
  schemas_checked places is c =
      checks_words r _ _ _ _ old new (few_mapped (λ d. Some d.span) (schemas ds)) (λ e q. of_schema q)
      (subst (λ l. ChecksList r (length l ≤ 1) (LaterReport l (single_rule single.Schema)) old new) is c)

  pub roots_checked : (operation : OperationType) (places : List (Option SourceSpan)) → places ≡ root_places ds operation →
      ChecksList r (length places ≤ 1) (LaterReport places (single_rule (single.Root operation))) old new →
      ChecksList r (length (roots ds operation) ≤ 1) (DefinitionsReport ds) old new
  roots_checked operation places is c =
      checks_words r _ _ _ _ old new (few_mapped (λ name. name.location) (roots ds operation)) (λ e q. of_root {operation = operation} q)
      (subst (λ l. ChecksList r (length l ≤ 1) (LaterReport l (single_rule (single.Root operation))) old new) is c)

  pub schema_extensions_checked : (b : Bool) (xs : List SchemaDefinition) → b ≡ has_schema ds → xs ≡ schema_extensions ds →
      ChecksList r (All (λ e. IsTrue b) xs) (OrphanSchemaReport b xs) old new →
      ChecksList r (All (λ e. IsTrue (has_schema ds)) (schema_extensions ds)) (DefinitionsReport ds) old new
  schema_extensions_checked b xs has is c =
      checks_words r _ _ _ _ old new (λ h. h, λ h. h) (λ e q. of_orphan_schema q)
      (subst (λ l. ChecksList r (All (λ e. IsTrue (has_schema ds)) l) (OrphanSchemaReport (has_schema ds) l) old new) is
      (subst (λ b. ChecksList r (All (λ e. IsTrue b) xs) (OrphanSchemaReport b xs) old new) has c))

  pub scalars_checked : (xs : List TypeDefinition) → xs ≡ types ds →
      ChecksList r (All (λ d. IsFalse (redefines_scalar d)) xs) (ScalarReport xs) old new →
      ChecksList r (All (λ d. IsFalse (redefines_scalar d)) (types ds)) (DefinitionsReport ds) old new
  scalars_checked xs is c =
      checks_words r _ _ _ _ old new (λ h. h, λ h. h) (λ e q. of_scalar q)
      (subst (λ l. ChecksList r (All (λ d. IsFalse (redefines_scalar d)) l) (ScalarReport l) old new) is c)

  pub types_checked : (names : List NameText) → names ≡ repeatable_type_names (types ds) →
      ChecksList r (AreDistinct names) (RepetitionReport names (repetition_rule repeated.Type)) old new →
      ChecksList r (AreDistinct (repeatable_type_names (types ds))) (DefinitionsReport ds) old new
  types_checked names is c =
      checks_words r _ _ _ _ old new (λ h. h, λ h. h) (λ e q. of_type q)
      (subst (λ l. ChecksList r (AreDistinct l) (RepetitionReport l (repetition_rule repeated.Type)) old new) is c)

  pub own_directives_checked : (names : List NameText) → names ≡ own_directive_names ds →
      ChecksList r (AreDistinct names) (RepetitionReport names (repetition_rule repeated.Directive)) old new →
      ChecksList r (AreDistinct (own_directive_names ds)) (DefinitionsReport ds) old new
  own_directives_checked names is c =
      checks_words r _ _ _ _ old new (λ h. h, λ h. h) (λ e q. of_directive q)
      (subst (λ l. ChecksList r (AreDistinct l) (RepetitionReport l (repetition_rule repeated.Directive)) old new) is c)

  pub built_in_directives_checked : (names : List NameText) → names ≡ built_in_directive_names ds →
      ChecksList r (AreDistinct names) (RepetitionReport names (repetition_rule repeated.Directive)) old new →
      ChecksList r (AreDistinct (built_in_directive_names ds)) (DefinitionsReport ds) old new
  built_in_directives_checked names is c =
      checks_words r _ _ _ _ old new (λ h. h, λ h. h) (λ e q. of_built_in_directive q)
      (subst (λ l. ChecksList r (AreDistinct l) (RepetitionReport l (repetition_rule repeated.Directive)) old new) is c)

  pub extensions_checked : (xs : List TypeDefinition) → xs ≡ type_extensions ds →
      ChecksList r (All (λ e. IsOfKind (type_named (types ds) (name_of e)) e) xs) (ExtensionReport (types ds) xs) old new →
      ChecksList r (All (λ e. IsOfKind (type_named (types ds) (name_of e)) e) (type_extensions ds)) (DefinitionsReport ds) old new
  extensions_checked xs is c =
      checks_words r _ _ _ _ old new (λ h. h, λ h. h) (λ e q. of_extension q)
      (subst (λ l. ChecksList r (All (λ e. IsOfKind (type_named (types ds) (name_of e)) e) l) (ExtensionReport (types ds) l) old new) is c)

  pub implemented_checked : (xs : List NameText) → xs ≡ implemented_names ds →
      ChecksList r (All (λ name. IsNoOtherThanInterface (type_named (types ds) name)) xs) (NonInterfaceReport (types ds) xs) old new →
      ChecksList r (All (λ name. IsNoOtherThanInterface (type_named (types ds) name)) (implemented_names ds)) (DefinitionsReport ds) old new
  implemented_checked xs is c =
      checks_words r _ _ _ _ old new (λ h. h, λ h. h) (λ e q. of_implemented q)
      (subst (λ l. ChecksList r (All (λ name. IsNoOtherThanInterface (type_named (types ds) name)) l) (NonInterfaceReport (types ds) l) old new) is c)

  -- parts of a type
  module _ (d : TypeDefinition) (k : TypeKind) (n : Bor NameText) (kind_is : k ≡ kind_of d) (name_is : n.now ≡ name_of d) (names : List NameText) where
    pub members_checked : names ≡ all_member_names ds d →
        ChecksList r (AreDistinct names) (RepetitionReport names (repetition_rule (repeated.Member k n))) old new →
        ChecksList r (AreDistinct (all_member_names ds d)) (PartsReport ds d) old new
    members_checked is c =
        checks_words r _ _ _ _ old new (λ h. h, λ h. h) (λ e q. of_member q)
        (subst (λ l. ChecksList r (AreDistinct l) (RepetitionReport l (rule.MemberNameCollision (kind_of d) (name_of d))) old new) is
        (subst (λ k. ChecksList r (AreDistinct names) (RepetitionReport names (rule.MemberNameCollision k (name_of d))) old new) kind_is
        (subst (λ m. ChecksList r (AreDistinct names) (RepetitionReport names (rule.MemberNameCollision k m)) old new) name_is c)))

    pub interfaces_checked : names ≡ all_interface_names ds d →
        ChecksList r (AreDistinct names) (RepetitionReport names (repetition_rule (repeated.Interface k n))) old new →
        ChecksList r (AreDistinct (all_interface_names ds d)) (PartsReport ds d) old new
    interfaces_checked is c =
        checks_words r _ _ _ _ old new (λ h. h, λ h. h) (λ e q. of_interface q)
        (subst (λ l. ChecksList r (AreDistinct l) (RepetitionReport l (rule.DuplicateImplementsInterface (kind_of d) (name_of d))) old new) is
        (subst (λ k. ChecksList r (AreDistinct names) (RepetitionReport names (rule.DuplicateImplementsInterface k (name_of d))) old new) kind_is
        (subst (λ m. ChecksList r (AreDistinct names) (RepetitionReport names (rule.DuplicateImplementsInterface k m)) old new) name_is c)))

-- a call that answered, and one that did not
abbrev pub answered : Result (Unit {0}) (Unit {0})
answered = Ok tt

abbrev pub refused : Result (Unit {0}) (Unit {0})
refused = Err tt

filter_both : {X : Type 0} (p q : X → Bool) (xs : List X) → filter q (filter p xs) ≡ filter (λ x. p x && q x) xs
filter_both p q [] = refl
filter_both {X} p q (x ∷ xs) = by (p x) (filter_both p q xs) where
  by : (b : Bool) → filter q (filter p xs) ≡ filter (λ x. p x && q x) xs →
      filter q (cond b (x ∷ filter p xs) (filter p xs)) ≡ cond (b && q x) (x ∷ filter (λ x. p x && q x) xs) (filter (λ x. p x && q x) xs)
  by true behind = ap (λ l. cond (q x) (x ∷ l) l) behind
  by false behind = behind

-- the extensions of a name that are of a kind extend the type
pub parts_are : (ds : List Definition) (d : TypeDefinition) (named : List TypeDefinition) →
    named ≡ filter (λ e. same_name (name_of d) (name_of e)) (type_extensions ds) →
    d ∷ filter (λ e. same_kind (kind_of d) (kind_of e)) named ≡ parts_of ds d
parts_are ds d named is =
    ap (λ l. d ∷ filter (λ e. same_kind (kind_of d) (kind_of e)) l) is ∙
    ap (λ l. d ∷ l) (filter_both (λ e. same_name (name_of d) (name_of e)) (λ e. same_kind (kind_of d) (kind_of e)) (type_extensions ds))

pub parts_words : (ds : List Definition) (d : TypeDefinition) →
    (AreDistinct (all_member_names ds d) × AreDistinct (all_interface_names ds d)) ↔ HasDistinctParts ds d
parts_words ds d = (λ p. record { members = p.0; interfaces = p.1 }, λ h. (h.members, h.interfaces))

-- each rule as it is defined
none_kept : (ds : List Definition) → All (λ d. IsFalse (is_executable d)) (executables ds) → executables ds ≡ []
none_kept [] all = refl
none_kept (d ∷ ds) all = by (is_executable d) refl (none_kept ds) all where
  by : (b : Bool) → is_executable d ≡ b → (All (λ d. IsFalse (is_executable d)) (executables ds) → executables ds ≡ []) →
      All (λ d. IsFalse (is_executable d)) (cond b (d ∷ executables ds) (executables ds)) → cond b (d ∷ executables ds) (executables ds) ≡ []
  by true e behind all =
      let not_it : IsFalse (is_executable d) = All-head (λ d. IsFalse (is_executable d)) d (executables ds) all in
      absurd (let no : ⊥ = cc in no)
  by false e behind all = behind all

passes_not : (b : Bool) → IsFalse b → not b ≡ true
passes_not true h = absurd (let no : ⊥ = cc in no)
passes_not false h = refl

all_repeatable : (ts : List TypeDefinition) → All (λ d. IsFalse (redefines_scalar d)) ts → repeatable_type_names ts ≡ map name_of ts
all_repeatable ts own =
    ap (map name_of) (all_pass (λ d. not (redefines_scalar d)) ts
    (All-weaker (λ d. IsFalse (redefines_scalar d)) (λ d. not (redefines_scalar d) ≡ true) (λ d. passes_not (redefines_scalar d)) ts own))

pub builds_words : (ds : List Definition) → ((WholeRules ds × NameRules ds) × TypeRules ds) ↔ DefinitionsBuild ds
builds_words ds = (
  λ p.
      let whole = p.0.0 in
      let named = p.0.1 in
      let distinct : AreDistinct (map name_of (types ds)) = subst AreDistinct (all_repeatable (types ds) named.0) named.1.0 in
      record {
        no_executables = none_kept ds whole.0;
        one_schema = whole.1.0;
        one_query = whole.1.1.0;
        one_mutation = whole.1.1.1.0;
        one_subscription = whole.1.1.1.1.0;
        own_scalars = named.0;
        unique_types = distinct;
        unique_directives = named.1.1.0;
        unique_built_in_directives = named.1.1.1;
        extensions_extend = p.1.0;
        schema_is_there = whole.1.1.1.1.1;
        implemented_are_interfaces = p.1.1.0;
        distinct_parts = subst (All (HasDistinctParts ds)) (all_first [] (types ds) distinct) p.1.1.1;
      },
  λ b. (
    (
      (
        subst (All (λ d. IsFalse (is_executable d))) (sym b.no_executables) (All-nil (λ d. IsFalse (is_executable d))),
        (b.one_schema, (b.one_query, (b.one_mutation, (b.one_subscription, b.schema_is_there)))),
      ),
      (
        b.own_scalars,
        (
          subst AreDistinct (sym (all_repeatable (types ds) b.own_scalars)) b.unique_types,
          (b.unique_directives, b.unique_built_in_directives),
        ),
      ),
    ),
    (b.extensions_extend, (b.implemented_are_interfaces, subst (All (HasDistinctParts ds)) (sym (all_first [] (types ds) b.unique_types)) b.distinct_parts)),
  ),
)
