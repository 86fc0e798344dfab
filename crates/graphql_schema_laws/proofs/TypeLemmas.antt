-- What is in a schema under a name, and that it holds.
use Rattle.std.proofs.Common.{◌≡◌, List, [], ◌∷◌, Some, refl, ap, subst, Contains, Bool, true, false}
use Rattle.std.specs.Prelude.{IsTrue}
use Rattle.std.proofs.lemmas.List.Elements.{All-contains}
use Rattle.std.specs.Map.{lookup}
use Rattle.std.specs.Str.{bytes_eq}
use Rattle.indexmap.specs.IndexMap.{get_by}
use Rattle.graphql_nodes.specs.Names.{NameText, SameName, IsFreeName, same_name}
use Rattle.graphql_documents.specs.Schemas.{type_definition}
use Rattle.graphql_specification.specs.Types.{TypeHolds}
use Rattle.graphql_specification.specs.Schemas.{SchemaHolds}
use Rattle.graphql_documents.specs.declared.documents.schemas.Schema.{Schema}
use Rattle.graphql_documents.specs.declared.documents.schemas.ExtendedType.{ExtendedType}
use Rattle.graphql_nodes.proofs.NameLemmas.{same_text}
use Rattle.graphql_documents.proofs.ListLemmas.{stands_first, stands_behind}

-- what a look-up finds is an entry whose key passes
pub found_stands : {K V : Type 0} (test : K → Bool) (entries : List (K × V)) (v : V) → lookup test entries ≡ Some v →
    (key : K) × Contains entries (key, v) × IsTrue (test key)
found_stands test [] v e = absurd (let no : ⊥ = cc in no)
found_stands {K} {V} test (x ∷ xs) v e = by (test x.0) refl (found_stands test xs v) where
  by : (b : Bool) → test x.0 ≡ b → (lookup test xs ≡ Some v → (key : K) × Contains xs (key, v) × IsTrue (test key)) →
      (key : K) × Contains (x ∷ xs) (key, v) × IsTrue (test key)
  by true passes behind =
      let found : Some x.1 ≡ Some v = rw passes at e in
      let same : x.1 ≡ v = cc in
      (x.0, subst (λ w. Contains (x ∷ xs) (x.0, w)) same (stands_first x xs), passes)
  by false other behind =
      let found = behind (rw other at e) in
      (found.0, stands_behind x xs (found.0, v) found.1, found.2)

-- a defined type is in the schema under the name
pub type_stands : (schema : Schema) (name : NameText) (d : ExtendedType) → type_definition schema name ≡ Some d →
    (key : NameText) × Contains schema.types.entries (key, d) × SameName name key
type_stands schema name d is = found_stands (same_name name) schema.types.entries d is

-- names of one text find one type
pub same_type_found : (schema : Schema) (a b : NameText) → SameName a b → type_definition schema a ≡ type_definition schema b
same_type_found schema a b same = ap (λ (text : List _). get_by (λ (key : NameText). bytes_eq text key.text) schema.types) (same_text a b same)

-- where a schema holds, so does each of its types
pub type_holds : (schema : Schema) (key : NameText) (d : ExtendedType) → Contains schema.types.entries (key, d) → SchemaHolds schema → TypeHolds schema d
type_holds schema key d stands holds =
    (All-contains (λ entry. IsFreeName entry.0 × TypeHolds schema entry.1) schema.types.entries (key, d) holds.types stands).1
