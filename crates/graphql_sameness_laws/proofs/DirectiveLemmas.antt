-- Directives that are the same are applied as well. Specification: 5.7 Directives.
use Rattle.std.proofs.Common.{◌≡◌, ◌∙◌, List, Option, Some, sym, subst, subst₂}
use Rattle.std.specs.Prelude.{Contains}
use Rattle.std.specs.List.{AllZip}
use Rattle.graphql_nodes.specs.Names.{NameText, SameName}
use Rattle.graphql_nodes.specs.declared.directive_locations.DirectiveLocation.{DirectiveLocation}
use Rattle.graphql_nodes.specs.declared.nodes.Node.{Node}
use Rattle.graphql_documents.specs.Contents.{SameIfAny}
use Rattle.graphql_documents.specs.Directives.{directive_definition, directive_in}
use Rattle.graphql_documents.specs.declared.documents.definitions.VariableDefinition.{VariableDefinition}
use Rattle.graphql_documents.specs.declared.documents.directives.Directive.{Directive}
use Rattle.graphql_documents.specs.declared.documents.schemas.Schema.{Schema}
use Rattle.graphql_specification.specs.Directives.{ApplicationHolds, ApplicationsHold, IsRepeatable}
use Rattle.graphql_document_building.specs.SameLeaves.{SameDirective, SameDirectiveDefinition, SameDirectives, SameVariable}
use Rattle.graphql_building_laws.specs.SameSchemas.{SameSchema}
use Rattle.graphql_sameness_laws.proofs.ArgumentLemmas.{arguments_too}
use Rattle.graphql_sameness_laws.proofs.SchemaLookupLemmas.{directive_alike, directive_in_alike, schema_too}
use Rattle.graphql_sameness_laws.proofs.SchemaSamenessLemmas.{schema_back}
use Rattle.graphql_sameness_laws.proofs.ZipLemmas.{options_back, other_side, zip_all, zip_all_pairs}

pub schemas_back : (oa ob : Option Schema) → SameIfAny SameSchema oa ob → SameIfAny SameSchema ob oa
schemas_back = options_back SameSchema SameSchema schema_back

module _ (oa ob : Option Schema) (schemas : SameIfAny SameSchema oa ob) where
  repeatable_too : (name other : NameText) → name ≡ other → IsRepeatable oa name → IsRepeatable ob other
  repeatable_too name other e may definition found =
      let here = other_side SameDirectiveDefinition (directive_in ob other) (directive_in oa other) definition
      (directive_in_alike ob oa other (schemas_back oa ob schemas)) found in
      here.2.repeatable ∙ may here.0 (subst (λ n. directive_in oa n ≡ Some here.0) (sym e) here.1)

  module _ (variables others : List (Node VariableDefinition)) (alike : AllZip SameVariable variables others) (location : DirectiveLocation) where
    application_too : (x y : Node Directive) → SameDirective x y → ApplicationHolds oa variables location x.value.value → ApplicationHolds ob others location y.value.value
    application_too x y p h =
        let s = schema_too oa ob h.against schemas h.has_schema in
        let e = other_side SameDirectiveDefinition (directive_definition h.against x.value.value.name) (directive_definition s.0 x.value.value.name) h.definition
        (directive_alike h.against s.0 s.2 x.value.value.name) h.defined in
        record {
          against = s.0;
          definition = e.0;
          has_schema = s.1;
          defined = subst (λ n. directive_definition s.0 n ≡ Some e.0) p.name e.1;
          allowed = subst (λ xs. Contains xs location) e.2.locations h.allowed;
          arguments = arguments_too h.against s.0 s.2 variables others alike _ _ e.2.arguments _ _ p.arguments h.arguments;
        }

    pub applications_too : (xs ys : List (Node Directive)) → SameDirectives xs ys → ApplicationsHold oa variables location xs → ApplicationsHold ob others location ys
    applications_too xs ys same h = record {
      each = zip_all SameDirective (λ d. ApplicationHolds oa variables location d.value.value) (λ d. ApplicationHolds ob others location d.value.value) application_too xs ys same h.each;
      repetitions = zip_all_pairs SameDirective
          (λ earlier later. SameName earlier.value.value.name later.value.value.name → IsRepeatable oa later.value.value.name)
          (λ earlier later. SameName earlier.value.value.name later.value.value.name → IsRepeatable ob later.value.value.name)
          (λ x y u v p q may named. repeatable_too y.value.value.name v.value.value.name q.name (may (subst₂ SameName (sym p.name) (sym q.name) named))) xs ys same h.repetitions;
    }
