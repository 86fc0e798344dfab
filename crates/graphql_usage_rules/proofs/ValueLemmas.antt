-- The usages in a value, kind by kind.
use Rattle.std.proofs.Common.{◌≡◌, ◌↔◌, refl, sym, ap, ◌∙◌, subst, Contains, Vec, Option, None, Some}
use Rattle.std.specs.declared.alloc.Global.{Global}
use Rattle.indexmap.specs.IndexMap.{get}
use Rattle.graphql_nodes.specs.Names.{NameText, same_name}
use Rattle.graphql_nodes.specs.declared.nodes.Node.{Node}
use Rattle.graphql_documents.specs.Schemas.{input_object_named}
use Rattle.graphql_documents.specs.TypeReferences.{inner_named_type}
use Rattle.graphql_documents.specs.declared.documents.components.Component.{Component}
use Rattle.graphql_documents.specs.declared.documents.definitions.InputValueDefinition.{InputValueDefinition}
use Rattle.graphql_documents.specs.declared.documents.schemas.InputObjectType.{InputObjectType}
use Rattle.graphql_documents.specs.declared.documents.schemas.Schema.{Schema}
use Rattle.graphql_documents.specs.declared.documents.values.Value.{Value, out-Value}
use Rattle.graphql_documents.specs.declared.documents.values.Value.TheOpen as Open
use Rattle.graphql_documents.specs.declared.documents.values.Value.TheVariants as literal
use Rattle.graphql_variables.proofs.UseLemmas.{any_has, has_any}
use Rattle.graphql_usage_rules.specs.Parts.{UsedInEntry, UsedInItem, UsedInList, UsedInObject}
use Rattle.graphql_usage_rules.specs.Usages.{Location, Usage, UsedIn, input_field_at, item_location, used_in_entry, used_in_item, used_itself}

-- a value is of one kind
pub variable_no_list : (name : NameText) (items : Vec (Node Value) Global) → ¬ (literal.Variable name ≡ literal.List items)
variable_no_list name items e =
    let opens : Open.Variable name ≡ Open.List items = sym (literal.outs-Variable name) ∙ ap out-Value e ∙ literal.outs-List items in
    let h : ⊥ = cc in h

pub variable_no_object : (name : NameText) (entries : Vec (NameText × Node Value) Global) → ¬ (literal.Variable name ≡ literal.Object entries)
variable_no_object name entries e =
    let opens : Open.Variable name ≡ Open.Object entries = sym (literal.outs-Variable name) ∙ ap out-Value e ∙ literal.outs-Object entries in
    let h : ⊥ = cc in h

pub object_no_list : (entries : Vec (NameText × Node Value) Global) (items : Vec (Node Value) Global) → ¬ (literal.Object entries ≡ literal.List items)
object_no_list entries items e =
    let opens : Open.Object entries ≡ Open.List items = sym (literal.outs-Object entries) ∙ ap out-Value e ∙ literal.outs-List items in
    let h : ⊥ = cc in h

pub same_variable : (a b : NameText) → literal.Variable a ≡ literal.Variable b → a ≡ b
same_variable a b e =
    let opens : Open.Variable a ≡ Open.Variable b = sym (literal.outs-Variable a) ∙ ap out-Value e ∙ literal.outs-Variable b in
    cc

pub same_items : (xs ys : Vec (Node Value) Global) → literal.List xs ≡ literal.List ys → xs ≡ ys
same_items xs ys e =
    let opens : Open.List xs ≡ Open.List ys = sym (literal.outs-List xs) ∙ ap out-Value e ∙ literal.outs-List ys in
    cc

pub same_entries : (xs ys : Vec (NameText × Node Value) Global) → literal.Object xs ≡ literal.Object ys → xs ≡ ys
same_entries xs ys e =
    let opens : Open.Object xs ≡ Open.Object ys = sym (literal.outs-Object xs) ∙ ap out-Value e ∙ literal.outs-Object ys in
    cc

-- an input field is one of the input object that is found
object_found : (schema : Schema) (location : Location) (name : NameText) (field : Component InputValueDefinition) →
    input_field_at schema location.ty name ≡ Some field →
    (d : Node InputObjectType) × (input_object_named schema (inner_named_type location.ty) ≡ Some d) × (get same_name d.value.value.fields name ≡ Some field)
object_found schema location name field is = by_object (input_object_named schema (inner_named_type location.ty)) refl where
  Found : Type 0
  Found = (d : Node InputObjectType) × (input_object_named schema (inner_named_type location.ty) ≡ Some d) × (get same_name d.value.value.fields name ≡ Some field)

  by_object : (o : Option (Node InputObjectType)) → input_object_named schema (inner_named_type location.ty) ≡ o → Found
  by_object None none = absurd (let e : None ≡ Some field = rw none at is in let no : ⊥ = cc in no)
  by_object (Some d) some = (d, some, rw some at is)

found_object : (schema : Schema) (location : Location) (name : NameText) (field : Component InputValueDefinition) (d : Node InputObjectType) →
    input_object_named schema (inner_named_type location.ty) ≡ Some d → get same_name d.value.value.fields name ≡ Some field →
    input_field_at schema location.ty name ≡ Some field
found_object schema location name field d is has = rw is has

module _ (schema : Schema) where
  -- a variable is the one usage in it
  in_variable : {location : Location} {value : Node Value} {usage : Usage} → UsedIn schema location value usage → (name : NameText) → value.value.value ≡ literal.Variable name →
      usage ≡ record { name = name; place = value.location; location = location }
  in_variable {location = location} {value = value} (used_itself found is) name e =
      ap (λ (n : NameText). let u : Usage = record { name = n; place = value.location; location = location } in u) (same_variable found name (sym is ∙ e))
  in_variable (used_in_item items item is listed stands more) name e = absurd (variable_no_list name items (sym e ∙ is))
  in_variable (used_in_entry entries entry field is stands defined more) name e = absurd (variable_no_object name entries (sym e ∙ is))

  pub variable_words : (location : Location) (value : Node Value) (name : NameText) → value.value.value ≡ literal.Variable name → (usage : Usage) →
      (usage ≡ record { name = name; place = value.location; location = location }) ↔ UsedIn schema location value usage
  variable_words location value name is usage = (
    λ e. subst (UsedIn schema location value) (sym e) (used_itself name is),
    λ used. in_variable used name is,
  )

  -- a list value has the usages in its items
  in_list : {location : Location} {value : Node Value} {usage : Usage} → UsedIn schema location value usage → (items : Vec (Node Value) Global) →
      value.value.value ≡ literal.List items → UsedInList schema location items.items usage
  in_list (used_itself name is) items e = absurd (variable_no_list name items (sym is ∙ e))
  in_list {location = location} {usage = usage} (used_in_item found item is listed stands more) items e = (
    listed,
    has_any (λ x. UsedInItem schema (item_location location) x usage) items.items item
        (subst (λ (l : Vec (Node Value) Global). Contains l.items item) (same_items found items (sym is ∙ e)) stands) more,
  )
  in_list (used_in_entry entries entry field is stands defined more) items e = absurd (object_no_list entries items (sym is ∙ e))

  pub list_words : (location : Location) (value : Node Value) (items : Vec (Node Value) Global) → value.value.value ≡ literal.List items → (usage : Usage) →
      UsedInList schema location items.items usage ↔ UsedIn schema location value usage
  list_words location value items is usage = (
    λ (listed, any).
        let h = any_has (λ x. UsedInItem schema (item_location location) x usage) items.items any in
        used_in_item items h.0 is listed h.1 h.2,
    λ used. in_list used items is,
  )

  -- an object value has the usages in its entries
  in_object : {location : Location} {value : Node Value} {usage : Usage} → UsedIn schema location value usage → (entries : Vec (NameText × Node Value) Global) →
      value.value.value ≡ literal.Object entries → UsedInObject schema location entries.items usage
  in_object (used_itself name is) entries e = absurd (variable_no_object name entries (sym is ∙ e))
  in_object (used_in_item items item is listed stands more) entries e = absurd (object_no_list entries items (sym e ∙ is))
  in_object {location = location} {usage = usage} (used_in_entry found entry field is stands defined more) entries e =
      let object = object_found schema location entry.0 field defined in (
        object.0,
        object.1,
        has_any (λ x. UsedInEntry schema object.0 x usage) entries.items entry
            (subst (λ (l : Vec (NameText × Node Value) Global). Contains l.items entry) (same_entries found entries (sym is ∙ e)) stands) (field, object.2, more),
      )

  pub object_words : (location : Location) (value : Node Value) (entries : Vec (NameText × Node Value) Global) → value.value.value ≡ literal.Object entries → (usage : Usage) →
      UsedInObject schema location entries.items usage ↔ UsedIn schema location value usage
  object_words location value entries is usage = (
    λ (d, found, any).
        let h = any_has (λ x. UsedInEntry schema d x usage) entries.items any in
        used_in_entry entries h.0 h.2.0 is h.1 (found_object schema location h.0.0 h.2.0 d found h.2.1) h.2.2,
    λ used. in_object used entries is,
  )

  -- no other value uses a variable
  pub not_in_others : {location : Location} {value : Node Value} {usage : Usage} → UsedIn schema location value usage →
      ((name : NameText) → value.value.value ≡ literal.Variable name → ⊥) → ((items : Vec (Node Value) Global) → value.value.value ≡ literal.List items → ⊥) →
      ((entries : Vec (NameText × Node Value) Global) → value.value.value ≡ literal.Object entries → ⊥) → ⊥
  not_in_others (used_itself name is) no_variable no_list no_object = no_variable name is
  not_in_others (used_in_item items item is listed stands more) no_variable no_list no_object = no_list items is
  not_in_others (used_in_entry entries entry field is stands defined more) no_variable no_list no_object = no_object entries is
