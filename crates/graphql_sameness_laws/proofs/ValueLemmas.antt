-- Values that are the same: their forms, and that sameness goes both ways and is that of a value with itself.
use Rattle.std.proofs.Common.{◌≡◌, ◌∙◌, String, ℕ, List, [], ◌∷◌, Bool, map, get_or, All, refl, sym, ap, subst}
use Rattle.std.specs.Prelude.{Vec, string_bytes}
use Rattle.std.specs.List.{AllZip}
use Rattle.std.specs.declared.alloc.Global.{Global}
use Rattle.std.proofs.lemmas.List.Elements.{All-head, All-tail, All-map}
use denote.Hole.Holds
use Rattle.graphql_nodes.specs.Names.{NameText}
use Rattle.graphql_nodes.specs.declared.nodes.Node.{Node}
use Rattle.graphql_documents.specs.declared.documents.values.Value.{Value, out-Value, roll-Value}
use Rattle.graphql_documents.specs.declared.documents.values.Value.TheBlock.{the_family, member-Value}
use Rattle.graphql_documents.specs.declared.documents.values.Value.TheFolds.{ind-Value, map-Value, claims}
use Rattle.graphql_documents.specs.declared.documents.values.Value.TheOpen as Open
use Rattle.graphql_documents.specs.declared.documents.values.Value.TheVariants as literal
use Rattle.graphql_document_building.specs.SameDocuments.{SameUnderName}
use Rattle.graphql_document_building.specs.SameLeaves.{SameContents, SameFields, SameItems, SameValue, next_field, next_item, no_fields, no_items, same_boolean, same_enum, same_float, same_int, same_list, same_null, same_object, same_string, same_variable}

-- ==== both ways

mutual
  pub contents_back : {a b : Value} → SameContents a b → SameContents b a
  contents_back same_null = same_null
  contents_back same_enum = same_enum
  contents_back same_variable = same_variable
  contents_back (same_string a b e) = same_string b a (sym e)
  contents_back same_float = same_float
  contents_back same_int = same_int
  contents_back same_boolean = same_boolean
  contents_back (same_list xs ys items) = same_list ys xs (items_back items)
  contents_back (same_object xs ys fields) = same_object ys xs (fields_back fields)

  items_back : {xs ys : List (Node Value)} → SameItems xs ys → SameItems ys xs
  items_back no_items = no_items
  items_back (next_item first at rest) = next_item (contents_back first) (sym at) (items_back rest)

  fields_back : {xs ys : List (NameText × Node Value)} → SameFields xs ys → SameFields ys xs
  fields_back no_fields = no_fields
  fields_back (next_field named first at rest) = next_field (sym named) (contents_back first) (sym at) (fields_back rest)

pub value_back : (a b : Node Value) → SameValue a b → SameValue b a
value_back a b p = record { contents = contents_back p.contents; location = sym p.location }

-- ==== element by element

pub items_zip : {xs ys : List (Node Value)} → SameItems xs ys → AllZip SameValue xs ys
items_zip no_items = tt
items_zip (next_item first at rest) = (record { contents = first; location = at }, items_zip rest)

pub fields_zip : {xs ys : List (NameText × Node Value)} → SameFields xs ys → AllZip (SameUnderName SameValue) xs ys
fields_zip no_fields = tt
fields_zip (next_field named first at rest) = ((named, record { contents = first; location = at }), fields_zip rest)

-- ==== the forms

abbrev SameForm : Open.Value-F Value → Value → Type 0
SameForm Open.Null b = b ≡ literal.Null
SameForm (Open.Enum name) b = b ≡ literal.Enum name
SameForm (Open.Variable name) b = b ≡ literal.Variable name
SameForm (Open.String text) b = (other : String Global) × (string_bytes text ≡ string_bytes other) × (b ≡ literal.String other)
SameForm (Open.Float text) b = b ≡ literal.Float text
SameForm (Open.Int text) b = b ≡ literal.Int text
SameForm (Open.Boolean truth) b = b ≡ literal.Boolean truth
SameForm (Open.List xs) b = (ys : Vec (Node Value) Global) × AllZip SameValue xs.items ys.items × (b ≡ literal.List ys)
SameForm (Open.Object xs) b = (ys : Vec (NameText × Node Value) Global) × AllZip (SameUnderName SameValue) xs.items ys.items × (b ≡ literal.Object ys)

form_at : (a : Value) (x : Open.Value-F Value) (b : Value) → out-Value a ≡ x → SameForm x b → SameForm (out-Value a) b
form_at a x b e same = rw e same

form_of : {a b : Value} → SameContents a b → SameForm (out-Value a) b
form_of same_null = form_at _ _ _ literal.outs-Null refl
form_of (same_enum {name}) = form_at _ _ _ (literal.outs-Enum name) refl
form_of (same_variable {name}) = form_at _ _ _ (literal.outs-Variable name) refl
form_of (same_string a b e) = form_at _ _ _ (literal.outs-String a) (b, e, refl)
form_of (same_float {text}) = form_at _ _ _ (literal.outs-Float text) refl
form_of (same_int {text}) = form_at _ _ _ (literal.outs-Int text) refl
form_of (same_boolean {truth}) = form_at _ _ _ (literal.outs-Boolean truth) refl
form_of (same_list xs ys items) = form_at _ _ _ (literal.outs-List xs) (ys, items_zip items, refl)
form_of (same_object xs ys fields) = form_at _ _ _ (literal.outs-Object xs) (ys, fields_zip fields, refl)

form_here : (a b : Value) (x : Open.Value-F Value) → SameContents a b → out-Value a ≡ x → SameForm x b
form_here a b x same e = subst (λ x. SameForm x b) e (form_of same)

pub null_too : (a b : Value) → SameContents a b → a ≡ literal.Null → b ≡ literal.Null
null_too a b same e = form_here a b Open.Null same (ap out-Value e ∙ literal.outs-Null)

pub enum_too : (a b : Value) (name : NameText) → SameContents a b → a ≡ literal.Enum name → b ≡ literal.Enum name
enum_too a b name same e = form_here a b (Open.Enum name) same (ap out-Value e ∙ literal.outs-Enum name)

pub variable_too : (a b : Value) (name : NameText) → SameContents a b → a ≡ literal.Variable name → b ≡ literal.Variable name
variable_too a b name same e = form_here a b (Open.Variable name) same (ap out-Value e ∙ literal.outs-Variable name)

pub string_too : (a b : Value) (text : String Global) → SameContents a b → a ≡ literal.String text →
    (other : String Global) × (string_bytes text ≡ string_bytes other) × (b ≡ literal.String other)
string_too a b text same e = form_here a b (Open.String text) same (ap out-Value e ∙ literal.outs-String text)

pub float_too : (a b : Value) (text : List ℕ) → SameContents a b → a ≡ literal.Float text → b ≡ literal.Float text
float_too a b text same e = form_here a b (Open.Float text) same (ap out-Value e ∙ literal.outs-Float text)

pub int_too : (a b : Value) (text : List ℕ) → SameContents a b → a ≡ literal.Int text → b ≡ literal.Int text
int_too a b text same e = form_here a b (Open.Int text) same (ap out-Value e ∙ literal.outs-Int text)

pub boolean_too : (a b : Value) (truth : Bool) → SameContents a b → a ≡ literal.Boolean truth → b ≡ literal.Boolean truth
boolean_too a b truth same e = form_here a b (Open.Boolean truth) same (ap out-Value e ∙ literal.outs-Boolean truth)

pub list_too : (a b : Value) (xs : Vec (Node Value) Global) → SameContents a b → a ≡ literal.List xs →
    (ys : Vec (Node Value) Global) × AllZip SameValue xs.items ys.items × (b ≡ literal.List ys)
list_too a b xs same e = form_here a b (Open.List xs) same (ap out-Value e ∙ literal.outs-List xs)

pub object_too : (a b : Value) (xs : Vec (NameText × Node Value) Global) → SameContents a b → a ≡ literal.Object xs →
    (ys : Vec (NameText × Node Value) Global) × AllZip (SameUnderName SameValue) xs.items ys.items × (b ≡ literal.Object ys)
object_too a b xs same e = form_here a b (Open.Object xs) same (ap out-Value e ∙ literal.outs-Object xs)

-- ==== a value with itself

abbrev IsSameAsItself : Value → Type 0
IsSameAsItself v = SameContents v v

items_themselves : (xs : List (Node Value)) → All (λ n. IsSameAsItself n.value.value) xs → SameItems xs xs
items_themselves [] all = no_items
items_themselves (x ∷ xs) all =
    next_item (All-head (λ n. IsSameAsItself n.value.value) x xs all) refl (items_themselves xs (All-tail (λ n. IsSameAsItself n.value.value) x xs all))

fields_themselves : (xs : List (NameText × Node Value)) → All (λ e. IsSameAsItself e.1.value.value) xs → SameFields xs xs
fields_themselves [] all = no_fields
fields_themselves (x ∷ xs) all =
    next_field refl (All-head (λ e. IsSameAsItself e.1.value.value) x xs all) refl
    (fields_themselves xs (All-tail (λ e. IsSameAsItself e.1.value.value) x xs all))

abbrev Kept : Type 0
Kept = denote.Hole.Holds.Such the_family (claims IsSameAsItself) member-Value

abbrev item : Node Kept → Node Value
item n = record { value = record { ptr = n.value.ptr; value = n.value.value.0 }; location = n.location }

abbrev named_item : NameText × Node Kept → NameText × Node Value
named_item e = (e.0, item e.1)

open_itself : (y : Open.Value-F Kept) → IsSameAsItself (roll-Value (map-Value Kept Value (λ e. e.0) y))
open_itself Open.Null = rw literal.rolls-Null same_null
open_itself (Open.Enum a) = rw (literal.rolls-Enum a) same_enum
open_itself (Open.Variable a) = rw (literal.rolls-Variable a) same_variable
open_itself (Open.String a) = rw (literal.rolls-String a) (same_string a a refl)
open_itself (Open.Float a) = rw (literal.rolls-Float a) same_float
open_itself (Open.Int a) = rw (literal.rolls-Int a) same_int
open_itself (Open.Boolean a) = rw (literal.rolls-Boolean a) same_boolean
open_itself (Open.List a) = rw (literal.rolls-List _)
    (same_list _ _ (items_themselves (map item a.items) (All-map (λ n. IsSameAsItself n.value.value) item a.items (λ k d in'. (get_or a.items k d).value.value.1))))
open_itself (Open.Object a) = rw (literal.rolls-Object _)
    (same_object _ _ (fields_themselves (map named_item a.items)
    (All-map (λ e. IsSameAsItself e.1.value.value) named_item a.items (λ k d in'. (get_or a.items k d).1.value.value.1))))

contents_themselves : (v : Value) → SameContents v v
contents_themselves = ind-Value IsSameAsItself (λ x y e. subst (λ z. IsSameAsItself (roll-Value z)) e (open_itself y))

pub value_itself : (a : Node Value) → SameValue a a
value_itself a = record { contents = contents_themselves a.value.value; location = refl }
