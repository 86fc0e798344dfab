use Rattle.std.proofs.Common.{◌≡◌, ◌∷◌, ◌++◌, [], refl, sym, subst, ap}
use Rattle.graphql_trees.specs.declared.documents.Definition.TheVariants as definition
use Rattle.graphql_trees.specs.declared.documents.Definition.{Definition}
use Rattle.graphql_schema_checking.specs.Definitions.{as_directive, as_schema, as_schema_extension, as_type, as_type_extension, is_executable}
use Rattle.graphql_schema_checking.specs.Sorting.{AreSorted}
use Rattle.graphql_repetitions.proofs.ReferenceLemmas.{kept_last, not_kept, passed_over, taken}
use Rattle.graphql_schema_checking.proofs.definitions.SortedDefinitions.add.Goals as goal

pub returns-in_ok-push-in-Schema : goal.returns-in_ok-push-in-Schema
returns-in_ok-push-in-Schema c = λ before s.
    let x : Definition = definition.Schema c.in-Schema.schema in
    subst (λ (x : Definition). AreSorted (before ++ x ∷ []) (record c.args.self.now { schemas = c.push.new.self })) (sym c.in-Schema.is)
    (record {
      executables_are = not_kept is_executable before x _ refl s.executables_are;
      schemas_are = taken as_schema before x _ _ _ c.in_ok-push-in-Schema.ensures.items refl s.schemas_are;
      schema_extensions_are = passed_over as_schema_extension before x _ refl s.schema_extensions_are;
      types_are = passed_over as_type before x _ refl s.types_are;
      type_extensions_are = passed_over as_type_extension before x _ refl s.type_extensions_are;
      directives_are = passed_over as_directive before x _ refl s.directives_are;
    })

pub returns-in_ok-push-in-SchemaExtension : goal.returns-in_ok-push-in-SchemaExtension
returns-in_ok-push-in-SchemaExtension c = λ before s.
    let x : Definition = definition.SchemaExtension c.in-SchemaExtension.schema in
    subst (λ (x : Definition). AreSorted (before ++ x ∷ []) (record c.args.self.now { schema_extensions = c.push-in-SchemaExtension.new.self })) (sym c.in-SchemaExtension.is)
    (record {
      executables_are = not_kept is_executable before x _ refl s.executables_are;
      schemas_are = passed_over as_schema before x _ refl s.schemas_are;
      schema_extensions_are = taken as_schema_extension before x _ _ _ c.in_ok-push-in-SchemaExtension.ensures.items refl s.schema_extensions_are;
      types_are = passed_over as_type before x _ refl s.types_are;
      type_extensions_are = passed_over as_type_extension before x _ refl s.type_extensions_are;
      directives_are = passed_over as_directive before x _ refl s.directives_are;
    })

pub returns-in_ok-push-in-Type : goal.returns-in_ok-push-in-Type
returns-in_ok-push-in-Type c = λ before s.
    let x : Definition = definition.Type c.in-Type.definition in
    subst (λ (x : Definition). AreSorted (before ++ x ∷ []) (record c.args.self.now { types = c.push-in-Type.new.self })) (sym c.in-Type.is)
    (record {
      executables_are = not_kept is_executable before x _ refl s.executables_are;
      schemas_are = passed_over as_schema before x _ refl s.schemas_are;
      schema_extensions_are = passed_over as_schema_extension before x _ refl s.schema_extensions_are;
      types_are = taken as_type before x _ _ _ c.in_ok-push-in-Type.ensures.items refl s.types_are;
      type_extensions_are = passed_over as_type_extension before x _ refl s.type_extensions_are;
      directives_are = passed_over as_directive before x _ refl s.directives_are;
    })

pub returns-in_ok-push-in-TypeExtension : goal.returns-in_ok-push-in-TypeExtension
returns-in_ok-push-in-TypeExtension c = λ before s.
    let x : Definition = definition.TypeExtension c.in-TypeExtension.definition in
    subst (λ (x : Definition). AreSorted (before ++ x ∷ []) (record c.args.self.now { type_extensions = c.push-in-TypeExtension.new.self })) (sym c.in-TypeExtension.is)
    (record {
      executables_are = not_kept is_executable before x _ refl s.executables_are;
      schemas_are = passed_over as_schema before x _ refl s.schemas_are;
      schema_extensions_are = passed_over as_schema_extension before x _ refl s.schema_extensions_are;
      types_are = passed_over as_type before x _ refl s.types_are;
      type_extensions_are = taken as_type_extension before x _ _ _ c.in_ok-push-in-TypeExtension.ensures.items refl s.type_extensions_are;
      directives_are = passed_over as_directive before x _ refl s.directives_are;
    })

pub returns-in_ok-push-in-Directive : goal.returns-in_ok-push-in-Directive
returns-in_ok-push-in-Directive c = λ before s.
    let x : Definition = definition.Directive c.in-Directive.directive in
    subst (λ (x : Definition). AreSorted (before ++ x ∷ []) (record c.args.self.now { directives = c.push-in-Directive.new.self })) (sym c.in-Directive.is)
    (record {
      executables_are = not_kept is_executable before x _ refl s.executables_are;
      schemas_are = passed_over as_schema before x _ refl s.schemas_are;
      schema_extensions_are = passed_over as_schema_extension before x _ refl s.schema_extensions_are;
      types_are = passed_over as_type before x _ refl s.types_are;
      type_extensions_are = passed_over as_type_extension before x _ refl s.type_extensions_are;
      directives_are = taken as_directive before x _ _ _ c.in_ok-push-in-Directive.ensures.items refl s.directives_are;
    })

pub returns-in_ok-push-in-Operation : goal.returns-in_ok-push-in-Operation
returns-in_ok-push-in-Operation c = λ before s.
    let x = c.args.definition.now in
    let kind : x ≡ definition.Operation _ = c.in-Operation.is in
    record {
      executables_are = kept_last is_executable before c.args.definition _ _ (ap is_executable kind) c.in_ok-push-in-Operation.ensures.items s.executables_are;
      schemas_are = passed_over as_schema before x _ (ap as_schema kind) s.schemas_are;
      schema_extensions_are = passed_over as_schema_extension before x _ (ap as_schema_extension kind) s.schema_extensions_are;
      types_are = passed_over as_type before x _ (ap as_type kind) s.types_are;
      type_extensions_are = passed_over as_type_extension before x _ (ap as_type_extension kind) s.type_extensions_are;
      directives_are = passed_over as_directive before x _ (ap as_directive kind) s.directives_are;
    }

pub returns-in_ok-push-in-Fragment : goal.returns-in_ok-push-in-Fragment
returns-in_ok-push-in-Fragment c = λ before s.
    let x = c.args.definition.now in
    let kind : x ≡ definition.Fragment _ = c.in-Fragment.is in
    record {
      executables_are = kept_last is_executable before c.args.definition _ _ (ap is_executable kind) c.in_ok-push-in-Fragment.ensures.items s.executables_are;
      schemas_are = passed_over as_schema before x _ (ap as_schema kind) s.schemas_are;
      schema_extensions_are = passed_over as_schema_extension before x _ (ap as_schema_extension kind) s.schema_extensions_are;
      types_are = passed_over as_type before x _ (ap as_type kind) s.types_are;
      type_extensions_are = passed_over as_type_extension before x _ (ap as_type_extension kind) s.type_extensions_are;
      directives_are = passed_over as_directive before x _ (ap as_directive kind) s.directives_are;
    }
