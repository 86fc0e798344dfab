use Rattle.std.proofs.Common.{◌∷◌, ◌++◌, [], All, Contains, sym, ap, subst, ◌∙◌}
use Rattle.std.proofs.lemmas.List.{append-nil}
use Rattle.graphql_diagnostics.specs.Diagnostics.{IsDiagnostic, entries}
use Rattle.graphql_nodes.specs.Names.{NameText}
use Rattle.graphql_diagnostics.specs.Reports.{Reports}
use Rattle.graphql_specification.specs.Types.{EnumValueHolds, TypeReport}
use Rattle.graphql_documents.specs.declared.documents.components.Component.{Component}
use Rattle.graphql_documents.specs.declared.documents.definitions.EnumValueDefinition.{EnumValueDefinition}
use Rattle.graphql_documents.specs.declared.documents.schemas.ExtendedType.TheVariants as types
use Rattle.graphql_diagnostics.proofs.ReportLemmas.{checks-err, done_more, kept_by, kept_then, kept_wider, wider}
use Rattle.graphql_documents.proofs.ListLemmas.{done_next, stands_next}
use Rattle.graphql_schemas.proofs.TypeLemmas.{names_enum_value}
use Rattle.graphql_schemas.proofs.enums.validate_values.Goals as goal

pub returns-in_err-validate_enum_value : goal.returns-in_err-validate_enum_value
returns-in_err-validate_enum_value c =
    let d = c.args.enum_type.now in
    let x : NameText × Component EnumValueDefinition = (c.in-Some.field-0-0.now, c.in-Some.enum_value.now) in
    let stands : Contains d.value.value.values.entries x =
    stands_next _ c.loop-enum_value.invariant.done c.loop-enum_value.enum_value-iterator c.next.new.self x c.loop-enum_value.invariant.all c.in-Some.ensures.steps in
    checks-err _ _ _ _ _ c.from_residual.ensures.0
    (kept_then (kept_by c.loop-enum_value.invariant.checked)
    (kept_wider (names_enum_value c.args.schema.now d x stands) c.in_err-validate_enum_value.ensures))

pub loop-enum_value-preserved : goal.loop-enum_value-preserved
loop-enum_value-preserved c =
    let d = c.args.enum_type.now in
    let schema = c.args.schema.now in
    let x : NameText × Component EnumValueDefinition = (c.in-Some.field-0-0.now, c.in-Some.enum_value.now) in
    let done = c.loop-enum_value.invariant.done in
    let stands : Contains d.value.value.values.entries x =
    stands_next _ done c.loop-enum_value.enum_value-iterator c.next.new.self x c.loop-enum_value.invariant.all c.in-Some.ensures.steps in
    record {
      can_next = tt;
      is_finite = tt;
      done = done ++ x ∷ [];
      all = done_next _ done c.loop-enum_value.enum_value-iterator c.next.new.self x c.loop-enum_value.invariant.all c.in-Some.ensures.steps;
      checked = done_more (λ (entry : NameText × Component EnumValueDefinition). EnumValueHolds schema entry.1.node.value.value)
          (IsDiagnostic (TypeReport schema (types.Enum d))) done x _ _ _ c.loop-enum_value.invariant.checked
          (wider (names_enum_value schema d x stands) c.in_ok-validate_enum_value.ensures);
    }

pub returns : goal.returns
returns c =
    let d = c.args.enum_type.now in
    let schema = c.args.schema.now in
    let done = c.loop-enum_value.invariant.done in
    subst (λ l. Reports (All (λ (entry : NameText × Component EnumValueDefinition). EnumValueHolds schema entry.1.node.value.value) l)
    (IsDiagnostic (TypeReport schema (types.Enum d))) (entries c.args.diagnostics.now) (entries c.loop-enum_value.diagnostics))
    (sym (c.loop-enum_value.invariant.all ∙ ap (λ l. done ++ l) c.in-None.ensures.steps.0 ∙ append-nil done))
    c.loop-enum_value.invariant.checked
