-- Applications of directives hold once a schema that has its built-in scalars is retained.
use Rattle.std.proofs.Common.{◌≡◌, Bool, true, false, List, [], ◌∷◌, Some, refl, sym, ap, subst, ◌∙◌, Contains}
use Rattle.std.specs.Prelude.{AllPairs, IsTrue, find}
use Rattle.std.proofs.lemmas.List.Elements.{All-weaker}
use Rattle.indexmap.specs.IndexMap.{get}
use Rattle.graphql_nodes.specs.Names.{NameText, SameName, same_name}
use Rattle.graphql_specification.specs.Arguments.{ArgumentsHold, ValueHoldsBy}
use Rattle.graphql_specification.specs.Directives.{ApplicationHolds, ApplicationsHold}
use Rattle.graphql_documents.specs.Directives.{directive_definition}
use Rattle.graphql_specification.specs.BuiltInScalars.{SchemaRetainsUsedBuiltInScalars, uses_type}
use Rattle.graphql_documents.specs.TypeReferences.{inner_named_type}
use Rattle.graphql_documents.specs.declared.documents.definitions.DirectiveDefinition.{DirectiveDefinition}
use Rattle.graphql_nodes.specs.declared.directive_locations.DirectiveLocation.{DirectiveLocation}
use Rattle.graphql_documents.specs.declared.documents.definitions.InputValueDefinition.{InputValueDefinition}
use Rattle.graphql_documents.specs.declared.documents.directives.Directive.{Directive}
use Rattle.graphql_documents.specs.declared.documents.schemas.Schema.{Schema}
use Rattle.graphql_nodes.specs.declared.nodes.Node.{Node}
use Rattle.graphql_documents.proofs.ListLemmas.{stands_behind, stands_first, stands_mapped}
use Rattle.graphql_schema_laws.specs.BuiltInNames.{BuiltInNamesAreOfScalars, HasItsScalars}
use Rattle.graphql_schema_laws.proofs.CarriedValueLemmas.{carried_value}
use Rattle.graphql_schema_laws.proofs.KeptTypeLemmas.{used_by_directive, used_goes_on, used_same}
use Rattle.graphql_schema_laws.proofs.TypeLemmas.{found_stands}

-- what is found is among the elements
found_is_one : {X : Type 0} (p : X → Bool) (xs : List X) (x : X) → find p xs ≡ Some x → Contains xs x
found_is_one p [] x found = absurd (let no : ⊥ = cc in no)
found_is_one {X} p (y ∷ ys) x found = by (p y) refl (found_is_one p ys x) where
  by : (b : Bool) → p y ≡ b → (find p ys ≡ Some x → Contains ys x) → Contains (y ∷ ys) x
  by true passes behind =
      let here : Some y ≡ Some x = rw passes at found in
      let same : y ≡ x = cc in
      subst (Contains (y ∷ ys)) same (stands_first y ys)
  by false other behind = stands_behind y ys x (behind (rw other at found))

module _ (schema retained : Schema) (scalars : BuiltInNamesAreOfScalars schema) (has : HasItsScalars schema) (is : SchemaRetainsUsedBuiltInScalars schema retained) where
  pub same_directive : (name : NameText) → directive_definition retained name ≡ directive_definition schema name
  same_directive name = ap (λ m. get same_name m name) is.directives

  -- the arguments are those of a directive of the schema
  arguments_after : (key : NameText) (definition : Node DirectiveDefinition) → Contains schema.directive_definitions.entries (key, definition) → (d : Directive) →
      ArgumentsHold schema [] definition.value.value.arguments.items d.arguments.items → ArgumentsHold retained [] definition.value.value.arguments.items d.arguments.items
  arguments_after key definition stands d hold = record {
    distinct = hold.distinct;
    names = hold.names;
    values =
        All-weaker (ValueHoldsBy schema [] definition.value.value.arguments.items) (ValueHoldsBy retained [] definition.value.value.arguments.items)
        (λ a holds input found.
        let one = holds input found in
        let among : Contains definition.value.value.arguments.items input =
        found_is_one (λ (d : Node InputValueDefinition). same_name d.value.value.name a.value.value.name) definition.value.value.arguments.items input found in
        let used = used_by_directive schema (inner_named_type input.value.value.ty.value.value) (key, definition) stands
        (stands_mapped (λ (d : Node InputValueDefinition). inner_named_type d.value.value.ty.value.value) definition.value.value.arguments.items input among) in
        record {
          usage = one.usage;
          accepted = carried_value schema retained [] (λ name. uses_type schema name.text ≡ true) (used_same schema retained scalars has is) (used_goes_on schema retained scalars has is) one.accepted used;
        })
        d.arguments.items hold.values;
  }

  application_after : (location : DirectiveLocation) (d : Directive) → ApplicationHolds (Some schema) [] location d → ApplicationHolds (Some retained) [] location d
  application_after location d hold =
      let same : hold.against ≡ schema = let e : Some schema ≡ Some hold.against = hold.has_schema in cc in
      let defined : directive_definition schema d.name ≡ Some hold.definition = subst (λ s. directive_definition s d.name ≡ Some hold.definition) same hold.defined in
      let there = found_stands (same_name d.name) schema.directive_definitions.entries hold.definition defined in
      record {
        against = retained;
        definition = hold.definition;
        has_schema = refl;
        defined = same_directive d.name ∙ defined;
        allowed = hold.allowed;
        arguments = arguments_after there.0 hold.definition there.1 d
            (subst (λ s. ArgumentsHold s [] hold.definition.value.value.arguments.items d.arguments.items) same hold.arguments);
      }

  pub applications_after : (location : DirectiveLocation) (directives : List (Node Directive)) → ApplicationsHold (Some schema) [] location directives →
      ApplicationsHold (Some retained) [] location directives
  applications_after location directives hold = record {
    each =
        All-weaker (λ (d : Node Directive). ApplicationHolds (Some schema) [] location d.value.value) (λ d. ApplicationHolds (Some retained) [] location d.value.value)
        (λ d holds. application_after location d.value.value holds) directives hold.each;
    repetitions =
        subst
        (λ m.
        AllPairs (λ (earlier later : Node Directive). SameName earlier.value.value.name later.value.value.name →
        (definition : Node DirectiveDefinition) → get same_name m later.value.value.name ≡ Some definition → IsTrue definition.value.value.repeatable)
        directives)
        (sym is.directives) hold.repetitions;
  }
