-- How much groups weigh: each field two at most, for itself and for its group.
use Rattle.std.proofs.Common.{◌≡◌, ℕ, ◌+◌, ◌*◌, ◌<◌, ◌≤◌, Bool, true, false, cond, drop, fold, get_or, length, take, List, [], ◌∷◌, ◌++◌, Option, Some, None, Vec, ap, subst, sum_by, sym, ◌∙◌, arith}
use Rattle.std.specs.Prelude.{unwrap_or}
use Rattle.std.specs.Borrow.{Bor}
use Rattle.std.specs.Map.{lookup}
use Rattle.std.specs.declared.alloc.Global.{Global}
use Rattle.std.proofs.lemmas.List.{length-append, length-map, map-append, take-append-drop}
use Rattle.std.proofs.lemmas.List.Sums.{sum_by-append, sum_by-cons}
use Rattle.indexmap.specs.IndexMap.{insert_entry}
use Rattle.graphql_documents.proofs.ListLemmas.{more_is}
use Rattle.graphql_documents.specs.Schemas.{type_definition}
use Rattle.graphql_documents.specs.declared.documents.schemas.Schema.{Schema}
use Rattle.graphql_nodes.specs.Names.{NameText, same_name}
use Rattle.graphql_specification.specs.MergedSets.{key_of, object_name, unless_empty}
use Rattle.graphql_specification.specs.Merging.{FieldSelection}
use Rattle.graphql_merging.specs.Groups.{NamedFields, by_keys, by_objects, fields_under, with_field, with_field_if, with_keyed, with_owned}
use Rattle.graphql_merging.specs.NumberedFields.{listed, lists_of, selection_of}
use Rattle.graphql_merging.specs.NumberedGroups.{named_fields}
use Rattle.graphql_merging.specs.Works.{arguments_compared, compared_in, count_of_arguments, weight}
use Rattle.graphql_merging.specs.declared.groups.Pass.{Pass}
use Rattle.graphql_merging.specs.declared.groups.Pass.TheVariants.{NamesAndArguments, Shapes}
use Rattle.graphql_merging.specs.declared.numbered_fields.NumberedField.{NumberedField}
use Rattle.graphql_merging.proofs.GroupLemmas.{keyed, owned}

-- a list behind others
pub weight_push : (lists : List (List FieldSelection)) (list : List FieldSelection) → weight (lists ++ list ∷ []) ≡ weight lists + (1 + length list)
weight_push lists list =
    let one : weight (list ∷ []) ≡ 1 + length list + weight [] = sum_by-cons (λ l. 1 + length l) list [] in
    let both : weight (lists ++ list ∷ []) ≡ weight lists + weight (list ∷ []) = sum_by-append (λ l. 1 + length l) lists (list ∷ []) in
    omega (arith, one, both)

-- a list behind others, unless it is empty
pub weight_unless_empty : (lists : List (List FieldSelection)) (list : List FieldSelection) → weight (lists ++ unless_empty list) ≤ weight lists + (1 + length list)
weight_unless_empty lists [] =
    let none : weight (lists ++ []) ≡ weight lists + weight [] = sum_by-append (λ l. 1 + length l) lists [] in
    omega (arith, none)
weight_unless_empty lists (x ∷ xs) = omega (arith, weight_push lists (x ∷ xs))

-- there are no more names than their fields weigh
pub names_within : (entries : List (Bor NameText × Vec NumberedField Global)) → length entries ≤ weight (fields_under (named_fields entries))
names_within [] = omega arith
names_within (e ∷ es) =
    let first : weight (fields_under (named_fields (e ∷ es))) ≡ 1 + length (listed e.1.items) + weight (fields_under (named_fields es)) =
    sum_by-cons (λ l. 1 + length l) (listed e.1.items) (fields_under (named_fields es)) in
    omega (arith, names_within es, first)

-- one more of the groups
pub weight_more : (groups : List (Vec NumberedField Global)) (i : ℕ) (group : Vec NumberedField Global) → i < length groups → group ≡ get_or groups i group →
    weight (lists_of (take (i + 1) groups)) ≡ weight (lists_of (take i groups)) + (1 + length group.items)
weight_more groups i group within stands =
    let more : lists_of (take (i + 1) groups) ≡ lists_of (take i groups) ++ listed group.items ∷ [] =
    ap lists_of (more_is groups i group within stands) ∙ map-append (λ g. listed g.items) (take i groups) (group ∷ []) in
    omega (arith, ap weight more, weight_push (lists_of (take i groups)) (listed group.items), length-map group.items selection_of)

-- the first of the groups weigh no more than all
pub weight_within : (groups : List (Vec NumberedField Global)) (i : ℕ) → weight (lists_of (take i groups)) ≤ weight (lists_of groups)
weight_within groups i =
    let parts : lists_of groups ≡ lists_of (take i groups) ++ lists_of (drop i groups) =
    ap lists_of (sym (take-append-drop i groups)) ∙ map-append (λ (g : Vec NumberedField Global). listed g.items) (take i groups) (drop i groups) in
    let sum : weight (lists_of (take i groups) ++ lists_of (drop i groups)) ≡ weight (lists_of (take i groups)) + weight (lists_of (drop i groups)) =
    sum_by-append (λ l. 1 + length l) (lists_of (take i groups)) (lists_of (drop i groups)) in
    omega (arith, ap weight parts, sum)

-- one more field is compared with the first
pub compared_more : (pass : Pass) (x : FieldSelection) (ys : List FieldSelection) (y : FieldSelection) →
    compared_in pass (x ∷ (ys ++ y ∷ [])) ≡ compared_in pass (x ∷ ys) + compared_in pass (x ∷ y ∷ [])
compared_more Shapes x ys y = omega arith
compared_more NamesAndArguments x ys y = sum_by-append (λ z. count_of_arguments x + count_of_arguments z) ys (y ∷ [])

-- the first fields that are compared with one have no more arguments than all
pub compared_within : (pass : Pass) (x : FieldSelection) (ys zs : List FieldSelection) → compared_in pass (x ∷ ys) ≤ compared_in pass (x ∷ (ys ++ zs))
compared_within Shapes x ys zs = omega arith
compared_within NamesAndArguments x ys zs = omega (arith, sum_by-append (λ z. count_of_arguments x + count_of_arguments z) ys zs)

-- a pass reads the arguments of fields that are compared, or none
pub compared_at_most : (pass : Pass) (fields : List FieldSelection) → compared_in pass fields ≤ arguments_compared fields
compared_at_most Shapes fields = omega arith
compared_at_most NamesAndArguments fields = omega arith

-- for shapes no arguments are read
pub none_compared : (lists : List (List FieldSelection)) → sum_by (compared_in Shapes) lists ≡ 0
none_compared [] = omega arith
none_compared (list ∷ lists) = omega (arith, sum_by-cons (compared_in Shapes) list lists, none_compared lists)

-- one more field is compared with one that has so many arguments
pub more_arguments : (n : ℕ) (fields : List NumberedField) (i : ℕ) (x : NumberedField) → i < length fields → x ≡ get_or fields i x →
    sum_by (λ y. n + count_of_arguments y) (listed (take (i + 1) fields)) ≡ sum_by (λ y. n + count_of_arguments y) (listed (take i fields)) + (n + count_of_arguments (selection_of x))
more_arguments n fields i x within stands =
    let each = λ (y : FieldSelection). n + count_of_arguments y in
    let more : listed (take (i + 1) fields) ≡ listed (take i fields) ++ selection_of x ∷ [] =
    ap listed (more_is fields i x within stands) ∙ map-append selection_of (take i fields) (x ∷ []) in
    let both : sum_by each (listed (take i fields) ++ selection_of x ∷ []) ≡ sum_by each (listed (take i fields)) + sum_by each (selection_of x ∷ []) =
    sum_by-append each (listed (take i fields)) (selection_of x ∷ []) in
    let one : sum_by each (selection_of x ∷ []) ≡ each (selection_of x) + sum_by each [] = sum_by-cons each (selection_of x) [] in
    omega (arith, ap (sum_by each) more, both, one)

-- a field that has at most so many arguments is compared with others
pub arguments_at_most : (n : ℕ) (x : FieldSelection) (ys : List FieldSelection) → count_of_arguments x ≤ n →
    arguments_compared (x ∷ ys) ≤ sum_by (λ y. n + count_of_arguments y) ys
arguments_at_most n x [] few = omega arith
arguments_at_most n x (y ∷ ys) few =
    let first : sum_by (λ z. count_of_arguments x + count_of_arguments z) (y ∷ ys) ≡ count_of_arguments x + count_of_arguments y + arguments_compared (x ∷ ys) =
    sum_by-cons (λ z. count_of_arguments x + count_of_arguments z) y ys in
    let most : sum_by (λ z. n + count_of_arguments z) (y ∷ ys) ≡ n + count_of_arguments y + sum_by (λ z. n + count_of_arguments z) ys =
    sum_by-cons (λ z. n + count_of_arguments z) y ys in
    omega (arith, few, first, most, arguments_at_most n x ys few)

-- the arguments of one more of the groups
pub arguments_more : (pass : Pass) (groups : List (Vec NumberedField Global)) (i : ℕ) (group : Vec NumberedField Global) → i < length groups → group ≡ get_or groups i group →
    sum_by (compared_in pass) (lists_of (take (i + 1) groups)) ≡ sum_by (compared_in pass) (lists_of (take i groups)) + compared_in pass (listed group.items)
arguments_more pass groups i group within stands =
    let more : lists_of (take (i + 1) groups) ≡ lists_of (take i groups) ++ listed group.items ∷ [] =
    ap lists_of (more_is groups i group within stands) ∙ map-append (λ g. listed g.items) (take i groups) (group ∷ []) in
    let both : sum_by (compared_in pass) (lists_of (take i groups) ++ listed group.items ∷ []) ≡ sum_by (compared_in pass) (lists_of (take i groups)) + sum_by (compared_in pass) (listed group.items ∷ []) =
    sum_by-append (compared_in pass) (lists_of (take i groups)) (listed group.items ∷ []) in
    let one : sum_by (compared_in pass) (listed group.items ∷ []) ≡ compared_in pass (listed group.items) + sum_by (compared_in pass) [] = sum_by-cons (compared_in pass) (listed group.items) [] in
    omega (arith, ap (sum_by (compared_in pass)) more, both, one)

-- the first of the groups have no more arguments than all
pub arguments_within : (pass : Pass) (groups : List (Vec NumberedField Global)) (i : ℕ) →
    sum_by (compared_in pass) (lists_of (take i groups)) ≤ sum_by (compared_in pass) (lists_of groups)
arguments_within pass groups i =
    let parts : lists_of groups ≡ lists_of (take i groups) ++ lists_of (drop i groups) =
    ap lists_of (sym (take-append-drop i groups)) ∙ map-append (λ (g : Vec NumberedField Global). listed g.items) (take i groups) (drop i groups) in
    let sum : sum_by (compared_in pass) (lists_of (take i groups) ++ lists_of (drop i groups)) ≡ sum_by (compared_in pass) (lists_of (take i groups)) + sum_by (compared_in pass) (lists_of (drop i groups)) =
    sum_by-append (compared_in pass) (lists_of (take i groups)) (lists_of (drop i groups)) in
    omega (arith, ap (sum_by (compared_in pass)) parts, sum)

-- the groups from one on
pub weight_first : (group : Vec NumberedField Global) (groups : List (Vec NumberedField Global)) →
    weight (lists_of (group ∷ groups)) ≡ (1 + length group.items) + weight (lists_of groups)
weight_first group groups =
    let first : weight (lists_of (group ∷ groups)) ≡ 1 + length (listed group.items) + weight (lists_of groups) = sum_by-cons (λ l. 1 + length l) (listed group.items) (lists_of groups) in
    omega (arith, first, length-map group.items selection_of)

-- fields that are put in place of those under a name, and are one more at most
put : (known : NamedFields) (name : NameText) (fields : List FieldSelection) → length fields ≤ 1 + length (unwrap_or (lookup (same_name name) known) []) →
    weight (fields_under (insert_entry same_name known name fields)) ≤ weight (fields_under known) + 2
put [] name fields few =
    let one : weight (fields ∷ []) ≡ 1 + length fields + weight [] = sum_by-cons (λ l. 1 + length l) fields [] in
    omega (arith, few, one)
put (e ∷ es) name fields few = at (same_name name e.0) few (put es name fields) where
  whole : weight (fields_under (e ∷ es)) ≡ 1 + length e.1 + weight (fields_under es)
  whole = sum_by-cons (λ l. 1 + length l) e.1 (fields_under es)

  at : (b : Bool) → length fields ≤ 1 + length (unwrap_or (cond b (Some e.1) (lookup (same_name name) es)) []) →
      (length fields ≤ 1 + length (unwrap_or (lookup (same_name name) es) []) → weight (fields_under (insert_entry same_name es name fields)) ≤ weight (fields_under es) + 2) →
      weight (fields_under (cond b ((e.0, fields) ∷ es) (e ∷ insert_entry same_name es name fields))) ≤ weight (fields_under (e ∷ es)) + 2
  at true few behind =
      let here : weight (fields_under ((e.0, fields) ∷ es)) ≡ 1 + length fields + weight (fields_under es) = sum_by-cons (λ l. 1 + length l) fields (fields_under es) in
      omega (arith, few, whole, here)
  at false few behind =
      let here : weight (fields_under (e ∷ insert_entry same_name es name fields)) ≡ 1 + length e.1 + weight (fields_under (insert_entry same_name es name fields)) =
      sum_by-cons (λ l. 1 + length l) e.1 (fields_under (insert_entry same_name es name fields)) in
      omega (arith, behind few, whole, here)

one_more_field : (known : NamedFields) (name : NameText) (x : FieldSelection) → weight (fields_under (with_field known name x)) ≤ weight (fields_under known) + 2
one_more_field known name x =
    let found = unwrap_or (lookup (same_name name) known) [] in
    put known name (found ++ x ∷ []) (omega (arith, length-append found (x ∷ [])))

one_more_if : (known : NamedFields) (name : Option NameText) (x : FieldSelection) → weight (fields_under (with_field_if known name x)) ≤ weight (fields_under known) + 2
one_more_if known None x = omega arith
one_more_if known (Some name) x = one_more_field known name x

folded : (with_one : NamedFields → FieldSelection → NamedFields) →
    ((known : NamedFields) (x : FieldSelection) → weight (fields_under (with_one known x)) ≤ weight (fields_under known) + 2) →
    (fields : List FieldSelection) (known : NamedFields) → weight (fields_under (fold with_one known fields)) ≤ weight (fields_under known) + 2 * length fields
folded with_one step [] known = omega arith
folded with_one step (x ∷ xs) known = omega (arith, folded with_one step xs (with_one known x), step known x)

-- fields by their response keys
pub weight_by_keys : (fields : List FieldSelection) → weight (fields_under (by_keys fields)) ≤ 2 * length fields
weight_by_keys fields =
    subst (λ known. weight (fields_under known) ≤ 2 * length fields) (keyed fields)
    (omega (arith, folded with_keyed (λ known x. one_more_field known (key_of x) x) fields []))

-- fields by the objects on which they are
pub weight_by_objects : (schema : Schema) (fields : List FieldSelection) → weight (fields_under (by_objects schema fields)) ≤ 2 * length fields
weight_by_objects schema fields =
    subst (λ known. weight (fields_under known) ≤ 2 * length fields) (owned schema fields)
    (omega (arith, folded (with_owned schema) (λ known x. one_more_if known (object_name (type_definition schema x.parent)) x) fields []))
