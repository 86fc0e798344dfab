-- The items and entries of an accepted value are accepted. Specification: 5.6.1 Values of Correct Type.
use Rattle.std.proofs.Common.{◌≡◌, ◌∙◌, List, Some, refl, sym, ap, subst}
use Rattle.std.specs.Prelude.{All, Contains, IsTrue, Vec}
use Rattle.std.specs.declared.alloc.Global.{Global}
use Rattle.graphql_nodes.specs.Names.{NameText}
use Rattle.graphql_nodes.specs.declared.nodes.Node.{Node}
use Rattle.graphql_documents.specs.Schemas.{IsInputObject, type_definition}
use Rattle.graphql_documents.specs.TypeReferences.{inner_named_type, item_type}
use Rattle.graphql_documents.specs.Values.{entry_named}
use Rattle.graphql_documents.specs.declared.documents.components.Component.{Component}
use Rattle.graphql_documents.specs.declared.documents.definitions.InputValueDefinition.{InputValueDefinition}
use Rattle.graphql_documents.specs.declared.documents.definitions.VariableDefinition.{VariableDefinition}
use Rattle.graphql_documents.specs.declared.documents.schemas.ExtendedType.{ExtendedType}
use Rattle.graphql_documents.specs.declared.documents.schemas.ExtendedType.TheVariants.{InputObject}
use Rattle.graphql_documents.specs.declared.documents.schemas.InputObjectType.{InputObjectType}
use Rattle.graphql_documents.specs.declared.documents.schemas.Schema.{Schema}
use Rattle.graphql_documents.specs.declared.documents.type_references.Type.{«Type»}
use Rattle.graphql_documents.specs.declared.documents.values.Value.{Value, out-Value}
use Rattle.graphql_documents.specs.declared.documents.values.Value.TheOpen as Open
use Rattle.graphql_documents.specs.declared.documents.values.Value.TheVariants as literal
use Rattle.graphql_specification.specs.Values.{Accepts, AcceptsLeaf, IsInputField, accepts_custom_object, accepts_leaf, accepts_list, accepts_null, accepts_object, accepts_undefined, accepts_variable, is_custom_scalar}
use Rattle.graphql_kept_rules.proofs.FoundLemmas.{one_some}
use Rattle.graphql_kept_rules.proofs.LeafContentLemmas.{no_leaf}

-- values of two forms are not one value
list_form : (v : Value) (items : Vec (Node Value) Global) → v ≡ literal.List items → out-Value v ≡ Open.List items
list_form v items e = ap out-Value e ∙ literal.outs-List items

object_form : (v : Value) (entries : Vec (NameText × Node Value) Global) → v ≡ literal.Object entries → out-Value v ≡ Open.Object entries
object_form v entries e = ap out-Value e ∙ literal.outs-Object entries

null_no_list : (items : Vec (Node Value) Global) → ¬ (literal.Null ≡ literal.List items)
null_no_list items e = let h : Open.Null ≡ Open.List items = sym literal.outs-Null ∙ list_form literal.Null items e in let no : ⊥ = cc in no

variable_no_list : (name : NameText) (items : Vec (Node Value) Global) → ¬ (literal.Variable name ≡ literal.List items)
variable_no_list name items e =
    let h : Open.Variable name ≡ Open.List items = sym (literal.outs-Variable name) ∙ list_form (literal.Variable name) items e in let no : ⊥ = cc in no

object_no_list : (entries : Vec (NameText × Node Value) Global) (items : Vec (Node Value) Global) → ¬ (literal.Object entries ≡ literal.List items)
object_no_list entries items e =
    let h : Open.Object entries ≡ Open.List items = sym (literal.outs-Object entries) ∙ list_form (literal.Object entries) items e in let no : ⊥ = cc in no

one_list : (xs ys : Vec (Node Value) Global) → literal.List xs ≡ literal.List ys → xs ≡ ys
one_list xs ys e = let h : Open.List xs ≡ Open.List ys = sym (literal.outs-List xs) ∙ list_form (literal.List xs) ys e in cc

null_no_object : (entries : Vec (NameText × Node Value) Global) → ¬ (literal.Null ≡ literal.Object entries)
null_no_object entries e = let h : Open.Null ≡ Open.Object entries = sym literal.outs-Null ∙ object_form literal.Null entries e in let no : ⊥ = cc in no

variable_no_object : (name : NameText) (entries : Vec (NameText × Node Value) Global) → ¬ (literal.Variable name ≡ literal.Object entries)
variable_no_object name entries e =
    let h : Open.Variable name ≡ Open.Object entries = sym (literal.outs-Variable name) ∙ object_form (literal.Variable name) entries e in let no : ⊥ = cc in no

one_object : (xs ys : Vec (NameText × Node Value) Global) → literal.Object xs ≡ literal.Object ys → xs ≡ ys
one_object xs ys e = let h : Open.Object xs ≡ Open.Object ys = sym (literal.outs-Object xs) ∙ object_form (literal.Object xs) ys e in cc

module _ (schema : Schema) (variables : List (Node VariableDefinition)) where
  pub item_accepted : {ty : «Type»} {v : Value} → Accepts schema variables ty v → (items : Vec (Node Value) Global) → v ≡ literal.List items →
      (x : ExtendedType) → type_definition schema (inner_named_type ty) ≡ Some x → (item : Node Value) → Contains items.items item →
      Accepts schema variables (item_type ty) item.value.value
  item_accepted (accepts_undefined none) items e x is item c = absurd (let no : ⊥ = cc in no)
  item_accepted (accepts_null null) items e x is item c = absurd (null_no_list items e)
  item_accepted (accepts_variable {name = name} defined input named same) items e x is item c = absurd (variable_no_list name items e)
  item_accepted (accepts_leaf {value = v} {d = d} defined leaf) items e x is item c =
      absurd (no_leaf d (literal.List items) _ (literal.outs-List items) refl (subst (AcceptsLeaf d) e leaf))
  item_accepted (accepts_list {ty = ty} xs defined lists input each) items e x is item c =
      each item (subst (λ (ys : Vec (Node Value) Global). Contains ys.items item) (sym (one_list xs items e)) c)
  item_accepted (accepts_custom_object entries defined custom) items e x is item c = absurd (object_no_list entries items e)
  item_accepted (accepts_object entries defined known given each) items e x is item c = absurd (object_no_list entries items e)

  pub record EntriesAccepted (d : Node InputObjectType) (entries : Vec (NameText × Node Value) Global) : Type 0 where
    pub known : All (λ entry. IsInputField d.value.value entry.0) entries.items
    pub each : (field : NameText × Component InputValueDefinition) (value : Node Value) →
        Contains d.value.value.fields.entries field → entry_named field.0 entries.items ≡ Some value →
        Accepts schema variables field.1.node.value.value.ty.value.value value.value.value

  pub entries_accepted : {ty : «Type»} {v : Value} → Accepts schema variables ty v → (entries : Vec (NameText × Node Value) Global) → v ≡ literal.Object entries →
      (d : Node InputObjectType) → IsInputObject schema (inner_named_type ty) d → EntriesAccepted d entries
  entries_accepted (accepts_undefined none) entries e d is = absurd (let no : ⊥ = cc in no)
  entries_accepted (accepts_null null) entries e d is = absurd (null_no_object entries e)
  entries_accepted (accepts_variable {name = name} defined input named same) entries e d is = absurd (variable_no_object name entries e)
  entries_accepted (accepts_leaf {value = v} {d = x} defined leaf) entries e d is =
      absurd (no_leaf x (literal.Object entries) _ (literal.outs-Object entries) refl (subst (AcceptsLeaf x) e leaf))
  entries_accepted (accepts_list xs defined lists input each) entries e d is = absurd (object_no_list entries xs (sym e))
  entries_accepted (accepts_custom_object {ty = ty} {d = x} xs defined custom) entries e d is =
      let one : x ≡ InputObject d = one_some (type_definition schema (inner_named_type ty)) x (InputObject d) defined is in
      let no : IsTrue (is_custom_scalar (InputObject d)) = subst (λ y. IsTrue (is_custom_scalar y)) one custom in
      absurd (let h : ⊥ = cc in h)
  entries_accepted (accepts_object {ty = ty} {d = y} xs defined known given each) entries e d is =
      let one_type : InputObject y ≡ InputObject d = one_some (type_definition schema (inner_named_type ty)) (InputObject y) (InputObject d) defined is in
      let one : y ≡ d = cc in
      subst (λ (zs : Vec (NameText × Node Value) Global). EntriesAccepted d zs) (one_object xs entries e)
      (subst (λ (z : Node InputObjectType). EntriesAccepted z xs) one (record { known = known; each = each }))
