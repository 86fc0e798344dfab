-- How much deeper a search for cycles of directives can go: as often as its paths have room, and by the
-- directives of a type that goes on no path.
use Rattle.std.proofs.Common.{◌≡◌, ℕ, ◌+◌, ◌-◌, ◌*◌, ◌<◌, ◌≤◌, Bool, true, false, ◌||◌, if◌then◌else◌, List, [], ◌∷◌, ◌++◌, flat_map, get_or, length, length-append, map, refl, sym, ap, ◌∙◌, arith}
use Rattle.std.specs.List.{list_any}
use Rattle.std.proofs.lemmas.List.Folds.{list_any-append, list_any_at}
use Rattle.graphql_nodes.specs.Names.{NameText}
use Rattle.graphql_specification.specs.DirectiveCycles.{SchemaReference, by_directive, by_type, references_of, type_part}
use Rattle.graphql_documents.specs.Directives.{directives_of_type}
use Rattle.graphql_documents.specs.declared.documents.components.Component.{Component}
use Rattle.graphql_documents.specs.declared.documents.definitions.EnumValueDefinition.{EnumValueDefinition}
use Rattle.graphql_documents.specs.declared.documents.directives.Directive.{Directive}
use Rattle.graphql_nodes.specs.declared.nodes.Node.{Node}
use Rattle.graphql_documents.specs.declared.documents.schemas.ExtendedType.{ExtendedType}
use Rattle.graphql_documents.specs.declared.documents.schemas.ExtendedType.TheVariants.{Scalar, Object, Interface, Union, Enum, InputObject}
use Rattle.graphql_guards.specs.Guards.{HasRoom, path_limit, path_of}
use Rattle.graphql_cycles.proofs.ReferenceLemmas.{value_references}
use Rattle.graphql_cycles.specs.DirectiveSearches.{KeepsPaths}
use Rattle.graphql_cycles.specs.References.{is_off_path, reference_of}
use Rattle.graphql_cycles.specs.declared.directives.Progress.{Progress}
use Rattle.graphql_cycles.specs.declared.schema_references.Reference.{Reference}

-- a reference by the name of a type
abbrev pub names_type : SchemaReference → Bool
names_type (by_directive d) = false
names_type (by_type name) = true

-- how many names the paths have room for
abbrev pub room : Progress → ℕ
room progress =
    (path_limit progress.directive_path - length (path_of progress.directive_path)) + (path_limit progress.type_path - length (path_of progress.type_path))

-- what references weigh, and one of them, as far as they name types
abbrev pub list_weight : Bool → ℕ
list_weight b = if b then 5 else 2

abbrev pub weight : Bool → ℕ
weight b = if b then 4 else 1

at_most_five : (b : Bool) → list_weight b ≤ 5
at_most_five true = omega arith
at_most_five false = omega arith

falls : (limit count other bound longer rest most least less : ℕ) → count < limit → bound ≡ limit → longer ≡ count + 1 → rest ≡ other → less ≤ 5 →
    6 * ((limit - count) + other) + least ≡ most → 6 * ((bound - longer) + rest) + less < most
falls limit count other bound longer rest most least less has_room is_limit is_longer is_other small is =
    let e : limit - count ≡ (bound - longer) + 1 = omega arith in
    omega (arith, e)

falls_beside : (limit count other bound longer rest most least less : ℕ) → count < limit → bound ≡ limit → longer ≡ count + 1 → rest ≡ other → less ≤ 5 →
    6 * (other + (limit - count)) + least ≡ most → 6 * (rest + (bound - longer)) + less < most
falls_beside limit count other bound longer rest most least less has_room is_limit is_longer is_other small is =
    let e : limit - count ≡ (bound - longer) + 1 = omega arith in
    omega (arith, e)

-- so a directive that goes on its path leaves less, and a type on its path
pub directive_falls : (before after : Progress) (name : NameText) (types : Bool) (measure : ℕ) → HasRoom before.directive_path →
    path_of after.directive_path ≡ path_of before.directive_path ++ name ∷ [] → path_limit after.directive_path ≡ path_limit before.directive_path →
    path_of after.type_path ≡ path_of before.type_path → path_limit after.type_path ≡ path_limit before.type_path →
    6 * room before + 0 ≡ measure → 6 * room after + list_weight types < measure
directive_falls before after name types measure has_room longer limit same same_limit is =
    falls (path_limit before.directive_path) (length (path_of before.directive_path)) (path_limit before.type_path - length (path_of before.type_path))
    (path_limit after.directive_path) (length (path_of after.directive_path)) (path_limit after.type_path - length (path_of after.type_path)) measure 0 (list_weight types)
    has_room limit (ap length longer ∙ length-append (path_of before.directive_path) (name ∷ []))
    (ap (λ n. n - length (path_of after.type_path)) same_limit ∙ ap (λ l. path_limit before.type_path - length l) same) (at_most_five types) is

pub type_falls : (before after : Progress) (name : NameText) (types : Bool) (measure : ℕ) → HasRoom before.type_path →
    path_of after.type_path ≡ path_of before.type_path ++ name ∷ [] → path_limit after.type_path ≡ path_limit before.type_path →
    path_of after.directive_path ≡ path_of before.directive_path → path_limit after.directive_path ≡ path_limit before.directive_path →
    6 * room before + 3 ≡ measure → 6 * room after + list_weight types < measure
type_falls before after name types measure has_room longer limit same same_limit is =
    falls_beside (path_limit before.type_path) (length (path_of before.type_path)) (path_limit before.directive_path - length (path_of before.directive_path))
    (path_limit after.type_path) (length (path_of after.type_path)) (path_limit after.directive_path - length (path_of after.directive_path)) measure 3 (list_weight types)
    has_room limit (ap length longer ∙ length-append (path_of before.type_path) (name ∷ []))
    (ap (λ n. n - length (path_of after.directive_path)) same_limit ∙ ap (λ l. path_limit before.directive_path - length l) same) (at_most_five types) is

-- a type that goes on no path refers to no type
none_either : (a b : Bool) → a ≡ false → b ≡ false → a || b ≡ false
none_either true b is none = is
none_either false b is none = none

no_type_applied : (directives : List (Node Directive)) → list_any names_type (map by_directive directives) ≡ false
no_type_applied [] = refl
no_type_applied (d ∷ ds) = no_type_applied ds

no_type_in_values : (values : List (NameText × Component EnumValueDefinition)) → list_any names_type (flat_map value_references values) ≡ false
no_type_in_values [] = refl
no_type_in_values (v ∷ vs) =
    list_any-append names_type (value_references v) (flat_map value_references vs) ∙
    none_either (list_any names_type (value_references v)) (list_any names_type (flat_map value_references vs))
    (no_type_applied v.1.node.value.value.directives.items) (no_type_in_values vs)

no_type_behind : (d : ExtendedType) (members : List SchemaReference) → list_any names_type members ≡ false →
    list_any names_type (map by_directive (directives_of_type d) ++ members) ≡ false
no_type_behind d members none =
    list_any-append names_type (map by_directive (directives_of_type d)) members ∙
    none_either (list_any names_type (map by_directive (directives_of_type d))) (list_any names_type members) (no_type_applied (directives_of_type d)) none

pub names_no_type : (d : ExtendedType) → is_off_path d ≡ true → list_any names_type (references_of (type_part d)) ≡ false
names_no_type (Scalar d) is = no_type_behind (Scalar d) [] refl
names_no_type (Object d) is = no_type_behind (Object d) [] refl
names_no_type (Interface d) is = no_type_behind (Interface d) [] refl
names_no_type (Union d) is = no_type_behind (Union d) [] refl
names_no_type (Enum d) is = no_type_behind (Enum d) (flat_map value_references d.value.value.values.entries) (no_type_in_values d.value.value.values.entries)
names_no_type (InputObject d) is = absurd (let h : ⊥ = cc in h)

-- so a search of it is less too, with the paths as they are
pub off_path_falls : (d : ExtendedType) (references : List SchemaReference) (progress : Progress) (measure : ℕ) → is_off_path d ≡ true →
    references ≡ references_of (type_part d) → 6 * room progress + 3 ≡ measure → 6 * room progress + list_weight (list_any names_type references) < measure
off_path_falls d references progress measure off same is =
    let none : list_any names_type references ≡ false = ap (list_any names_type) same ∙ names_no_type d off in
    rw none (omega (arith, is))

-- and one of the references of a list is less than all
one_falls : (whole one : Bool) → (one ≡ true → whole ≡ true) → weight one < list_weight whole
one_falls true true there = omega arith
one_falls true false there = omega arith
one_falls false true there = absurd (let h : false ≡ true = there refl in let no : ⊥ = cc in no)
one_falls false false there = omega arith

any_mapped : (xs : List Reference) → list_any (λ (x : Reference). names_type (reference_of x)) xs ≡ list_any names_type (map reference_of xs)
any_mapped [] = refl
any_mapped (x ∷ xs) = ap (λ b. names_type (reference_of x) || b) (any_mapped xs)

same_room : (before now : Progress) → KeepsPaths before now → room now ≡ room before
same_room before now k = omega (arith, ap length k.directives, k.directive_limit, ap length k.types, k.type_limit)

pub reference_falls : (xs : List Reference) (i : ℕ) (x : Reference) (before now : Progress) (measure : ℕ) → i < length xs → x ≡ get_or xs i x → KeepsPaths before now →
    6 * room before + list_weight (list_any names_type (map reference_of xs)) ≡ measure → 6 * room now + weight (names_type (reference_of x)) < measure
reference_falls xs i x before now measure within item keeps is =
    let p = λ (y : Reference). names_type (reference_of y) in
    let there : p x ≡ true → list_any names_type (map reference_of xs) ≡ true =
    λ h. sym (any_mapped xs) ∙ list_any_at p xs i x within (sym (ap p item) ∙ h) in
    let less = one_falls (list_any names_type (map reference_of xs)) (p x) there in
    omega (arith, same_room before now keeps, less, is)
