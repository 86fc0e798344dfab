-- What the kind of a type says when a type of another kind is in its place. Specification: 3.4 Types.
use Rattle.std.proofs.Common.{◌≡◌, ◌∙◌, Bool, true, false, refl, sym}
use Rattle.std.specs.Prelude.{IsTrue, if◌then◌else◌}
use Rattle.graphql_documents.specs.Schemas.{is_built_in, is_composite, is_object_type, is_output_type}
use Rattle.graphql_documents.specs.declared.documents.schemas.ExtendedType.{ExtendedType}
use Rattle.graphql_documents.specs.declared.documents.schemas.ExtendedType.TheVariants.{Scalar, Object, Interface, Union, Enum, InputObject}
use Rattle.graphql_document_building.specs.Trees.{is_leaf_type}
use Rattle.graphql_change_kinds.specs.Breaks.{can_become}
use Rattle.graphql_change_kinds.specs.Kinds.{kind_of}
use Rattle.graphql_schema_comparison.specs.Comparisons.{KeepsContents, KeepsPlace}
use Rattle.graphql_shape_comparison.specs.Shapes.{ShapeTable}
use Rattle.graphql_nodes.specs.Names.{NameText}
use Rattle.graphql_documents.specs.declared.documents.schemas.Schema.{Schema}
use Rattle.graphql_change_kinds.specs.contracts.changes.TypeKindPartialEq.TheImpl as kind_impl
use Rattle.graphql_change_kinds.specs.declared.changes.TypeKind.{TypeKind}
use Rattle.graphql_change_kinds.specs.declared.changes.TypeKind.TheVariants as kind

-- ==== kinds

abbrev pub composite_kind : TypeKind → Bool
composite_kind kind.BuiltInScalar = false
composite_kind kind.CustomScalar = false
composite_kind kind.Object = true
composite_kind kind.Interface = true
composite_kind kind.Union = true
composite_kind kind.Enum = false
composite_kind kind.InputObject = false

abbrev pub leaf_kind : TypeKind → Bool
leaf_kind kind.BuiltInScalar = true
leaf_kind kind.CustomScalar = true
leaf_kind kind.Object = false
leaf_kind kind.Interface = false
leaf_kind kind.Union = false
leaf_kind kind.Enum = true
leaf_kind kind.InputObject = false

abbrev pub object_kind : TypeKind → Bool
object_kind kind.BuiltInScalar = false
object_kind kind.CustomScalar = false
object_kind kind.Object = true
object_kind kind.Interface = false
object_kind kind.Union = false
object_kind kind.Enum = false
object_kind kind.InputObject = false

pub composite_stays : (from to : TypeKind) → IsTrue (can_become from to) → IsTrue (composite_kind from) → IsTrue (composite_kind to)
composite_stays kind.BuiltInScalar kind.BuiltInScalar can is = absurd (let no : ⊥ = cc in no)
composite_stays kind.BuiltInScalar kind.CustomScalar can is = absurd (let no : ⊥ = cc in no)
composite_stays kind.BuiltInScalar kind.Object can is = refl
composite_stays kind.BuiltInScalar kind.Interface can is = refl
composite_stays kind.BuiltInScalar kind.Union can is = refl
composite_stays kind.BuiltInScalar kind.Enum can is = absurd (let no : ⊥ = cc in no)
composite_stays kind.BuiltInScalar kind.InputObject can is = absurd (let no : ⊥ = cc in no)
composite_stays kind.CustomScalar kind.BuiltInScalar can is = absurd (let no : ⊥ = cc in no)
composite_stays kind.CustomScalar kind.CustomScalar can is = absurd (let no : ⊥ = cc in no)
composite_stays kind.CustomScalar kind.Object can is = refl
composite_stays kind.CustomScalar kind.Interface can is = refl
composite_stays kind.CustomScalar kind.Union can is = refl
composite_stays kind.CustomScalar kind.Enum can is = absurd (let no : ⊥ = cc in no)
composite_stays kind.CustomScalar kind.InputObject can is = absurd (let no : ⊥ = cc in no)
composite_stays kind.Object kind.BuiltInScalar can is = absurd (let no : ⊥ = cc in no)
composite_stays kind.Object kind.CustomScalar can is = absurd (let no : ⊥ = cc in no)
composite_stays kind.Object kind.Object can is = refl
composite_stays kind.Object kind.Interface can is = refl
composite_stays kind.Object kind.Union can is = refl
composite_stays kind.Object kind.Enum can is = absurd (let no : ⊥ = cc in no)
composite_stays kind.Object kind.InputObject can is = absurd (let no : ⊥ = cc in no)
composite_stays kind.Interface kind.BuiltInScalar can is = absurd (let no : ⊥ = cc in no)
composite_stays kind.Interface kind.CustomScalar can is = absurd (let no : ⊥ = cc in no)
composite_stays kind.Interface kind.Object can is = refl
composite_stays kind.Interface kind.Interface can is = refl
composite_stays kind.Interface kind.Union can is = refl
composite_stays kind.Interface kind.Enum can is = absurd (let no : ⊥ = cc in no)
composite_stays kind.Interface kind.InputObject can is = absurd (let no : ⊥ = cc in no)
composite_stays kind.Union kind.BuiltInScalar can is = absurd (let no : ⊥ = cc in no)
composite_stays kind.Union kind.CustomScalar can is = absurd (let no : ⊥ = cc in no)
composite_stays kind.Union kind.Object can is = refl
composite_stays kind.Union kind.Interface can is = refl
composite_stays kind.Union kind.Union can is = refl
composite_stays kind.Union kind.Enum can is = absurd (let no : ⊥ = cc in no)
composite_stays kind.Union kind.InputObject can is = absurd (let no : ⊥ = cc in no)
composite_stays kind.Enum kind.BuiltInScalar can is = absurd (let no : ⊥ = cc in no)
composite_stays kind.Enum kind.CustomScalar can is = absurd (let no : ⊥ = cc in no)
composite_stays kind.Enum kind.Object can is = refl
composite_stays kind.Enum kind.Interface can is = refl
composite_stays kind.Enum kind.Union can is = refl
composite_stays kind.Enum kind.Enum can is = absurd (let no : ⊥ = cc in no)
composite_stays kind.Enum kind.InputObject can is = absurd (let no : ⊥ = cc in no)
composite_stays kind.InputObject kind.BuiltInScalar can is = absurd (let no : ⊥ = cc in no)
composite_stays kind.InputObject kind.CustomScalar can is = absurd (let no : ⊥ = cc in no)
composite_stays kind.InputObject kind.Object can is = refl
composite_stays kind.InputObject kind.Interface can is = refl
composite_stays kind.InputObject kind.Union can is = refl
composite_stays kind.InputObject kind.Enum can is = absurd (let no : ⊥ = cc in no)
composite_stays kind.InputObject kind.InputObject can is = absurd (let no : ⊥ = cc in no)

pub object_stays : (from to : TypeKind) → IsTrue (can_become from to) → IsTrue (object_kind from) → IsTrue (object_kind to)
object_stays kind.BuiltInScalar kind.BuiltInScalar can is = absurd (let no : ⊥ = cc in no)
object_stays kind.BuiltInScalar kind.CustomScalar can is = absurd (let no : ⊥ = cc in no)
object_stays kind.BuiltInScalar kind.Object can is = refl
object_stays kind.BuiltInScalar kind.Interface can is = absurd (let no : ⊥ = cc in no)
object_stays kind.BuiltInScalar kind.Union can is = absurd (let no : ⊥ = cc in no)
object_stays kind.BuiltInScalar kind.Enum can is = absurd (let no : ⊥ = cc in no)
object_stays kind.BuiltInScalar kind.InputObject can is = absurd (let no : ⊥ = cc in no)
object_stays kind.CustomScalar kind.BuiltInScalar can is = absurd (let no : ⊥ = cc in no)
object_stays kind.CustomScalar kind.CustomScalar can is = absurd (let no : ⊥ = cc in no)
object_stays kind.CustomScalar kind.Object can is = refl
object_stays kind.CustomScalar kind.Interface can is = absurd (let no : ⊥ = cc in no)
object_stays kind.CustomScalar kind.Union can is = absurd (let no : ⊥ = cc in no)
object_stays kind.CustomScalar kind.Enum can is = absurd (let no : ⊥ = cc in no)
object_stays kind.CustomScalar kind.InputObject can is = absurd (let no : ⊥ = cc in no)
object_stays kind.Object kind.BuiltInScalar can is = absurd (let no : ⊥ = cc in no)
object_stays kind.Object kind.CustomScalar can is = absurd (let no : ⊥ = cc in no)
object_stays kind.Object kind.Object can is = refl
object_stays kind.Object kind.Interface can is = absurd (let no : ⊥ = cc in no)
object_stays kind.Object kind.Union can is = absurd (let no : ⊥ = cc in no)
object_stays kind.Object kind.Enum can is = absurd (let no : ⊥ = cc in no)
object_stays kind.Object kind.InputObject can is = absurd (let no : ⊥ = cc in no)
object_stays kind.Interface kind.BuiltInScalar can is = absurd (let no : ⊥ = cc in no)
object_stays kind.Interface kind.CustomScalar can is = absurd (let no : ⊥ = cc in no)
object_stays kind.Interface kind.Object can is = refl
object_stays kind.Interface kind.Interface can is = absurd (let no : ⊥ = cc in no)
object_stays kind.Interface kind.Union can is = absurd (let no : ⊥ = cc in no)
object_stays kind.Interface kind.Enum can is = absurd (let no : ⊥ = cc in no)
object_stays kind.Interface kind.InputObject can is = absurd (let no : ⊥ = cc in no)
object_stays kind.Union kind.BuiltInScalar can is = absurd (let no : ⊥ = cc in no)
object_stays kind.Union kind.CustomScalar can is = absurd (let no : ⊥ = cc in no)
object_stays kind.Union kind.Object can is = refl
object_stays kind.Union kind.Interface can is = absurd (let no : ⊥ = cc in no)
object_stays kind.Union kind.Union can is = absurd (let no : ⊥ = cc in no)
object_stays kind.Union kind.Enum can is = absurd (let no : ⊥ = cc in no)
object_stays kind.Union kind.InputObject can is = absurd (let no : ⊥ = cc in no)
object_stays kind.Enum kind.BuiltInScalar can is = absurd (let no : ⊥ = cc in no)
object_stays kind.Enum kind.CustomScalar can is = absurd (let no : ⊥ = cc in no)
object_stays kind.Enum kind.Object can is = refl
object_stays kind.Enum kind.Interface can is = absurd (let no : ⊥ = cc in no)
object_stays kind.Enum kind.Union can is = absurd (let no : ⊥ = cc in no)
object_stays kind.Enum kind.Enum can is = absurd (let no : ⊥ = cc in no)
object_stays kind.Enum kind.InputObject can is = absurd (let no : ⊥ = cc in no)
object_stays kind.InputObject kind.BuiltInScalar can is = absurd (let no : ⊥ = cc in no)
object_stays kind.InputObject kind.CustomScalar can is = absurd (let no : ⊥ = cc in no)
object_stays kind.InputObject kind.Object can is = refl
object_stays kind.InputObject kind.Interface can is = absurd (let no : ⊥ = cc in no)
object_stays kind.InputObject kind.Union can is = absurd (let no : ⊥ = cc in no)
object_stays kind.InputObject kind.Enum can is = absurd (let no : ⊥ = cc in no)
object_stays kind.InputObject kind.InputObject can is = absurd (let no : ⊥ = cc in no)

pub leaf_stays : (from to : TypeKind) → IsTrue (can_become from to) → IsTrue (leaf_kind from) → IsTrue (leaf_kind to)
leaf_stays kind.BuiltInScalar kind.BuiltInScalar can is = refl
leaf_stays kind.BuiltInScalar kind.CustomScalar can is = refl
leaf_stays kind.BuiltInScalar kind.Object can is = absurd (let no : ⊥ = cc in no)
leaf_stays kind.BuiltInScalar kind.Interface can is = absurd (let no : ⊥ = cc in no)
leaf_stays kind.BuiltInScalar kind.Union can is = absurd (let no : ⊥ = cc in no)
leaf_stays kind.BuiltInScalar kind.Enum can is = refl
leaf_stays kind.BuiltInScalar kind.InputObject can is = absurd (let no : ⊥ = cc in no)
leaf_stays kind.CustomScalar kind.BuiltInScalar can is = refl
leaf_stays kind.CustomScalar kind.CustomScalar can is = refl
leaf_stays kind.CustomScalar kind.Object can is = absurd (let no : ⊥ = cc in no)
leaf_stays kind.CustomScalar kind.Interface can is = absurd (let no : ⊥ = cc in no)
leaf_stays kind.CustomScalar kind.Union can is = absurd (let no : ⊥ = cc in no)
leaf_stays kind.CustomScalar kind.Enum can is = refl
leaf_stays kind.CustomScalar kind.InputObject can is = absurd (let no : ⊥ = cc in no)
leaf_stays kind.Object kind.BuiltInScalar can is = refl
leaf_stays kind.Object kind.CustomScalar can is = refl
leaf_stays kind.Object kind.Object can is = absurd (let no : ⊥ = cc in no)
leaf_stays kind.Object kind.Interface can is = absurd (let no : ⊥ = cc in no)
leaf_stays kind.Object kind.Union can is = absurd (let no : ⊥ = cc in no)
leaf_stays kind.Object kind.Enum can is = refl
leaf_stays kind.Object kind.InputObject can is = absurd (let no : ⊥ = cc in no)
leaf_stays kind.Interface kind.BuiltInScalar can is = refl
leaf_stays kind.Interface kind.CustomScalar can is = refl
leaf_stays kind.Interface kind.Object can is = absurd (let no : ⊥ = cc in no)
leaf_stays kind.Interface kind.Interface can is = absurd (let no : ⊥ = cc in no)
leaf_stays kind.Interface kind.Union can is = absurd (let no : ⊥ = cc in no)
leaf_stays kind.Interface kind.Enum can is = refl
leaf_stays kind.Interface kind.InputObject can is = absurd (let no : ⊥ = cc in no)
leaf_stays kind.Union kind.BuiltInScalar can is = refl
leaf_stays kind.Union kind.CustomScalar can is = refl
leaf_stays kind.Union kind.Object can is = absurd (let no : ⊥ = cc in no)
leaf_stays kind.Union kind.Interface can is = absurd (let no : ⊥ = cc in no)
leaf_stays kind.Union kind.Union can is = absurd (let no : ⊥ = cc in no)
leaf_stays kind.Union kind.Enum can is = refl
leaf_stays kind.Union kind.InputObject can is = absurd (let no : ⊥ = cc in no)
leaf_stays kind.Enum kind.BuiltInScalar can is = refl
leaf_stays kind.Enum kind.CustomScalar can is = refl
leaf_stays kind.Enum kind.Object can is = absurd (let no : ⊥ = cc in no)
leaf_stays kind.Enum kind.Interface can is = absurd (let no : ⊥ = cc in no)
leaf_stays kind.Enum kind.Union can is = absurd (let no : ⊥ = cc in no)
leaf_stays kind.Enum kind.Enum can is = refl
leaf_stays kind.Enum kind.InputObject can is = absurd (let no : ⊥ = cc in no)
leaf_stays kind.InputObject kind.BuiltInScalar can is = refl
leaf_stays kind.InputObject kind.CustomScalar can is = refl
leaf_stays kind.InputObject kind.Object can is = absurd (let no : ⊥ = cc in no)
leaf_stays kind.InputObject kind.Interface can is = absurd (let no : ⊥ = cc in no)
leaf_stays kind.InputObject kind.Union can is = absurd (let no : ⊥ = cc in no)
leaf_stays kind.InputObject kind.Enum can is = refl
leaf_stays kind.InputObject kind.InputObject can is = absurd (let no : ⊥ = cc in no)

pub composite_is_no_leaf : (from to : TypeKind) → IsTrue (can_become from to) → IsTrue (composite_kind from) → leaf_kind to ≡ false
composite_is_no_leaf kind.BuiltInScalar kind.BuiltInScalar can is = absurd (let no : ⊥ = cc in no)
composite_is_no_leaf kind.BuiltInScalar kind.CustomScalar can is = absurd (let no : ⊥ = cc in no)
composite_is_no_leaf kind.BuiltInScalar kind.Object can is = refl
composite_is_no_leaf kind.BuiltInScalar kind.Interface can is = refl
composite_is_no_leaf kind.BuiltInScalar kind.Union can is = refl
composite_is_no_leaf kind.BuiltInScalar kind.Enum can is = absurd (let no : ⊥ = cc in no)
composite_is_no_leaf kind.BuiltInScalar kind.InputObject can is = refl
composite_is_no_leaf kind.CustomScalar kind.BuiltInScalar can is = absurd (let no : ⊥ = cc in no)
composite_is_no_leaf kind.CustomScalar kind.CustomScalar can is = absurd (let no : ⊥ = cc in no)
composite_is_no_leaf kind.CustomScalar kind.Object can is = refl
composite_is_no_leaf kind.CustomScalar kind.Interface can is = refl
composite_is_no_leaf kind.CustomScalar kind.Union can is = refl
composite_is_no_leaf kind.CustomScalar kind.Enum can is = absurd (let no : ⊥ = cc in no)
composite_is_no_leaf kind.CustomScalar kind.InputObject can is = refl
composite_is_no_leaf kind.Object kind.BuiltInScalar can is = absurd (let no : ⊥ = cc in no)
composite_is_no_leaf kind.Object kind.CustomScalar can is = absurd (let no : ⊥ = cc in no)
composite_is_no_leaf kind.Object kind.Object can is = refl
composite_is_no_leaf kind.Object kind.Interface can is = refl
composite_is_no_leaf kind.Object kind.Union can is = refl
composite_is_no_leaf kind.Object kind.Enum can is = absurd (let no : ⊥ = cc in no)
composite_is_no_leaf kind.Object kind.InputObject can is = refl
composite_is_no_leaf kind.Interface kind.BuiltInScalar can is = absurd (let no : ⊥ = cc in no)
composite_is_no_leaf kind.Interface kind.CustomScalar can is = absurd (let no : ⊥ = cc in no)
composite_is_no_leaf kind.Interface kind.Object can is = refl
composite_is_no_leaf kind.Interface kind.Interface can is = refl
composite_is_no_leaf kind.Interface kind.Union can is = refl
composite_is_no_leaf kind.Interface kind.Enum can is = absurd (let no : ⊥ = cc in no)
composite_is_no_leaf kind.Interface kind.InputObject can is = refl
composite_is_no_leaf kind.Union kind.BuiltInScalar can is = absurd (let no : ⊥ = cc in no)
composite_is_no_leaf kind.Union kind.CustomScalar can is = absurd (let no : ⊥ = cc in no)
composite_is_no_leaf kind.Union kind.Object can is = refl
composite_is_no_leaf kind.Union kind.Interface can is = refl
composite_is_no_leaf kind.Union kind.Union can is = refl
composite_is_no_leaf kind.Union kind.Enum can is = absurd (let no : ⊥ = cc in no)
composite_is_no_leaf kind.Union kind.InputObject can is = refl
composite_is_no_leaf kind.Enum kind.BuiltInScalar can is = absurd (let no : ⊥ = cc in no)
composite_is_no_leaf kind.Enum kind.CustomScalar can is = absurd (let no : ⊥ = cc in no)
composite_is_no_leaf kind.Enum kind.Object can is = refl
composite_is_no_leaf kind.Enum kind.Interface can is = refl
composite_is_no_leaf kind.Enum kind.Union can is = refl
composite_is_no_leaf kind.Enum kind.Enum can is = absurd (let no : ⊥ = cc in no)
composite_is_no_leaf kind.Enum kind.InputObject can is = refl
composite_is_no_leaf kind.InputObject kind.BuiltInScalar can is = absurd (let no : ⊥ = cc in no)
composite_is_no_leaf kind.InputObject kind.CustomScalar can is = absurd (let no : ⊥ = cc in no)
composite_is_no_leaf kind.InputObject kind.Object can is = refl
composite_is_no_leaf kind.InputObject kind.Interface can is = refl
composite_is_no_leaf kind.InputObject kind.Union can is = refl
composite_is_no_leaf kind.InputObject kind.Enum can is = absurd (let no : ⊥ = cc in no)
composite_is_no_leaf kind.InputObject kind.InputObject can is = refl

-- ==== types

scalar_kind : (test : TypeKind → Bool) (b c : Bool) → test kind.BuiltInScalar ≡ c → test kind.CustomScalar ≡ c → test (if b then kind.BuiltInScalar else kind.CustomScalar) ≡ c
scalar_kind test true c built_in custom = built_in
scalar_kind test false c built_in custom = custom

pub composite_is : (d : ExtendedType) → composite_kind (kind_of d) ≡ is_composite d
composite_is (Scalar d) = scalar_kind composite_kind (is_built_in (Scalar d)) false refl refl
composite_is (Object d) = refl
composite_is (Interface d) = refl
composite_is (Union d) = refl
composite_is (Enum d) = refl
composite_is (InputObject d) = refl

pub object_is : (d : ExtendedType) → object_kind (kind_of d) ≡ is_object_type d
object_is (Scalar d) = scalar_kind object_kind (is_built_in (Scalar d)) false refl refl
object_is (Object d) = refl
object_is (Interface d) = refl
object_is (Union d) = refl
object_is (Enum d) = refl
object_is (InputObject d) = refl

pub leaf_is : (d : ExtendedType) → leaf_kind (kind_of d) ≡ is_leaf_type d
leaf_is (Scalar d) = scalar_kind leaf_kind (is_built_in (Scalar d)) true refl refl
leaf_is (Object d) = refl
leaf_is (Interface d) = refl
leaf_is (Union d) = refl
leaf_is (Enum d) = refl
leaf_is (InputObject d) = refl

module _ (a b : ExtendedType) (can : IsTrue (can_become (kind_of a) (kind_of b))) where
  pub still_composite : IsTrue (is_composite a) → IsTrue (is_composite b)
  still_composite is = sym (composite_is b) ∙ composite_stays (kind_of a) (kind_of b) can (composite_is a ∙ is)

  pub still_object : IsTrue (is_object_type a) → IsTrue (is_object_type b)
  still_object is = sym (object_is b) ∙ object_stays (kind_of a) (kind_of b) can (object_is a ∙ is)

  pub still_leaf : IsTrue (is_leaf_type a) → IsTrue (is_leaf_type b)
  still_leaf is = sym (leaf_is b) ∙ leaf_stays (kind_of a) (kind_of b) can (leaf_is a ∙ is)

  pub still_no_leaf : IsTrue (is_composite a) → is_leaf_type b ≡ false
  still_no_leaf is = sym (leaf_is b) ∙ composite_is_no_leaf (kind_of a) (kind_of b) can (composite_is a ∙ is)

-- an output type is a leaf as before
pub leaf_alike : (a b : ExtendedType) → IsTrue (can_become (kind_of a) (kind_of b)) → IsTrue (is_output_type a) → is_leaf_type b ≡ is_leaf_type a
leaf_alike (Scalar a) b can is = still_leaf (Scalar a) b can refl
leaf_alike (Enum a) b can is = still_leaf (Enum a) b can refl
leaf_alike (Object a) b can is = still_no_leaf (Object a) b can refl
leaf_alike (Interface a) b can is = still_no_leaf (Interface a) b can refl
leaf_alike (Union a) b can is = still_no_leaf (Union a) b can refl
leaf_alike (InputObject a) b can is = absurd (let no : ⊥ = cc in no)

-- what could be selected on a composite type still can, if its place is kept
pub contents_of_composite : (table : ShapeTable) (old new : Schema) (merging : Bool) (name : NameText) (a b : ExtendedType) → IsTrue (is_composite a) →
    KeepsPlace table old new merging name a → KeepsContents table old new merging name a b
contents_of_composite table old new merging name (Object d) b is place = λ was is. place
contents_of_composite table old new merging name (Interface d) b is place = λ was is. place
contents_of_composite table old new merging name (Union d) b is place = λ was is. place
contents_of_composite table old new merging name (Scalar d) b is place = absurd (let no : ⊥ = cc in no)
contents_of_composite table old new merging name (Enum d) b is place = absurd (let no : ⊥ = cc in no)
contents_of_composite table old new merging name (InputObject d) b is place = absurd (let no : ⊥ = cc in no)

pub kind_itself : (k : TypeKind) → kind_impl.ghosts.eq k k ≡ true
kind_itself kind.BuiltInScalar = refl
kind_itself kind.CustomScalar = refl
kind_itself kind.Object = refl
kind_itself kind.Interface = refl
kind_itself kind.Union = refl
kind_itself kind.Enum = refl
kind_itself kind.InputObject = refl
