-- Directives may be applied where they might be, in a schema that keeps them. Specification: 5.7 Directives.
use Rattle.std.proofs.Common.{◌≡◌, List, Some, refl, sym, subst, subst₂}
use Rattle.std.specs.Prelude.{All, AllPairs, Contains, IsTrue}
use Rattle.std.specs.List.{AllZip}
use Rattle.graphql_nodes.specs.Names.{NameText, SameName}
use Rattle.graphql_nodes.specs.declared.directive_locations.DirectiveLocation.{DirectiveLocation}
use Rattle.graphql_nodes.specs.declared.nodes.Node.{Node}
use Rattle.graphql_documents.specs.Directives.{directive_definition}
use Rattle.graphql_documents.specs.Schemas.{IsInputObject}
use Rattle.graphql_documents.specs.TypeReferences.{inner_named_type}
use Rattle.graphql_documents.specs.declared.documents.components.Component.{Component}
use Rattle.graphql_documents.specs.declared.documents.definitions.DirectiveDefinition.{DirectiveDefinition}
use Rattle.graphql_documents.specs.declared.documents.definitions.InputValueDefinition.{InputValueDefinition}
use Rattle.graphql_documents.specs.declared.documents.definitions.VariableDefinition.{VariableDefinition}
use Rattle.graphql_documents.specs.declared.documents.directives.Directive.{Directive}
use Rattle.graphql_documents.specs.declared.documents.schemas.InputObjectType.{InputObjectType}
use Rattle.graphql_documents.specs.declared.documents.schemas.Schema.{Schema}
use Rattle.graphql_specification.specs.Arguments.{ArgumentsHold}
use Rattle.graphql_specification.specs.Directives.{ApplicationHolds, ApplicationsHold, IsRepeatable}
use Rattle.graphql_document_building.specs.SameLeaves.{SameDirective, SameDirectives, SameVariable}
use Rattle.graphql_schema_laws.specs.InputFields.{InputObjectsHaveFieldsOfMaps}
use Rattle.graphql_sameness_laws.proofs.ZipLemmas.{zip_all, zip_all_pairs}
use Rattle.graphql_schema_changes.specs.Keeps.{IsExecutable, KeepsDirective, KeepsDirectives, KeepsInput}
use Rattle.graphql_kept_rules.proofs.FoundLemmas.{one_some, some_and_found}
use Rattle.graphql_kept_rules.proofs.KeptArgumentLemmas.{arguments_still}

module _ (old new : Schema) (Input : NameText → Type 0) (inputs : (name : NameText) → Input name → KeepsInput old new name)
    (entries : (name : NameText) (d : Node InputObjectType) (field : NameText × Component InputValueDefinition) → Input name → IsInputObject old name d →
    Contains d.value.value.fields.entries field → Input (inner_named_type field.1.node.value.value.ty.value.value))
    (unique : InputObjectsHaveFieldsOfMaps new) (directives : KeepsDirectives old new)
    (typed : (name : NameText) (d : Node DirectiveDefinition) (a : Node InputValueDefinition) → directive_definition old name ≡ Some d → Contains d.value.value.arguments.items a →
    Input (inner_named_type a.value.value.ty.value.value))
    (variables others : List (Node VariableDefinition)) (alike : AllZip SameVariable variables others)
    (location : DirectiveLocation) (executable : IsExecutable old location) where
  -- an application by its definition in each schema
  pub record StillApplied (x : Node Directive) (d : Node DirectiveDefinition) : Type 0 where
    pub e : Node DirectiveDefinition
    pub is : directive_definition new x.value.value.name ≡ Some e
    pub kept : KeepsDirective old d.value.value e.value.value

  pub still_applied : (x : Node Directive) (d : Node DirectiveDefinition) → directive_definition old x.value.value.name ≡ Some d → Contains d.value.value.locations.items location → StillApplied x d
  still_applied x d was c =
      let e = some_and_found (directive_definition new x.value.value.name) (λ e. KeepsDirective old d.value.value e.value.value)
      (directives x.value.value.name d was (c.0, location, c.1, c.2, executable)) in
      record { e = e.0; is = e.1; kept = e.2 }

  -- the old schema is the one against which the application holds
  pub record OldApplication (x : Node Directive) : Type 0 where
    pub d : Node DirectiveDefinition
    pub was : directive_definition old x.value.value.name ≡ Some d
    pub allowed : Contains d.value.value.locations.items location
    pub arguments : ArgumentsHold old variables d.value.value.arguments.items x.value.value.arguments.items

  pub old_application : (x : Node Directive) → ApplicationHolds (Some old) variables location x.value.value → OldApplication x
  old_application x h =
      let one : h.against ≡ old = let e : Some old ≡ Some h.against = h.has_schema in cc in
      record {
        d = h.definition;
        was = subst (λ s. directive_definition s x.value.value.name ≡ Some h.definition) one h.defined;
        allowed = h.allowed;
        arguments = subst (λ s. ArgumentsHold s variables h.definition.value.value.arguments.items x.value.value.arguments.items) one h.arguments;
      }

  application_still : (x y : Node Directive) → SameDirective x y → ApplicationHolds (Some old) variables location x.value.value → ApplicationHolds (Some new) others location y.value.value
  application_still x y p holds =
      let h = old_application x holds in
      let s = still_applied x h.d h.was h.allowed in
      record {
        against = new;
        definition = s.e;
        has_schema = refl;
        defined = subst (λ n. directive_definition new n ≡ Some s.e) p.name s.is;
        allowed = s.kept.locations location executable h.allowed;
        arguments = arguments_still old new Input inputs entries unique variables others alike h.d.value.value.arguments.items s.e.value.value.arguments.items s.kept.arguments
            (λ a c. typed x.value.value.name h.d a h.was c) x.value.value.arguments.items y.value.value.arguments.items p.arguments h.arguments;
      }

  repeatable_still : (x y : Node Directive) → SameDirective x y → ApplicationHolds (Some old) variables location x.value.value → IsRepeatable (Some old) x.value.value.name →
      IsRepeatable (Some new) y.value.value.name
  repeatable_still x y p holds may e found =
      let h = old_application x holds in
      let s = still_applied x h.d h.was h.allowed in
      let one : s.e ≡ e = one_some (directive_definition new x.value.value.name) s.e e s.is (subst (λ n. directive_definition new n ≡ Some e) (sym p.name) found) in
      subst (λ (z : Node DirectiveDefinition). IsTrue z.value.value.repeatable) one (s.kept.repeatable (may h.d h.was))

  -- what is said of pairs, and of each element
  with_each : {X : Type 0} (P : X → X → Type 0) (Q : X → Type 0) (xs : List X) → AllPairs P xs → All Q xs → AllPairs (λ a b. P a b × Q b) xs
  with_each P Q xs pairs each i j d lt within = (pairs i j d lt within, each j d within)

  pub applications_still : (xs ys : List (Node Directive)) → SameDirectives xs ys → ApplicationsHold (Some old) variables location xs → ApplicationsHold (Some new) others location ys
  applications_still xs ys same h = record {
    each = zip_all SameDirective (λ d. ApplicationHolds (Some old) variables location d.value.value) (λ d. ApplicationHolds (Some new) others location d.value.value)
        application_still xs ys same h.each;
    repetitions = zip_all_pairs SameDirective
        (λ earlier later. (SameName earlier.value.value.name later.value.value.name → IsRepeatable (Some old) later.value.value.name) ×
        ApplicationHolds (Some old) variables location later.value.value)
        (λ earlier later. SameName earlier.value.value.name later.value.value.name → IsRepeatable (Some new) later.value.value.name)
        (λ x y u v p q may named. repeatable_still y v q may.1 (may.0 (subst₂ SameName (sym p.name) (sym q.name) named))) xs ys same
        (with_each (λ earlier later. SameName earlier.value.value.name later.value.value.name → IsRepeatable (Some old) later.value.value.name)
        (λ later. ApplicationHolds (Some old) variables location later.value.value) xs h.repetitions h.each);
  }
