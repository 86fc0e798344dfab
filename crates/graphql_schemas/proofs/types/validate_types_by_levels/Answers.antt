use Rattle.std.proofs.Common.{◌≡◌, ◌∷◌, ◌++◌, [], All, Contains, sym, ap, subst, ◌∙◌, rules}
use Rattle.std.proofs.lemmas.List.{append-nil}
use Rattle.std.proofs.lemmas.List.Elements.{All-nil}
use Rattle.std.specs.Prelude.{flat_map}
use Rattle.graphql_diagnostics.specs.Diagnostics.{IsLimitEntry, entries}
use Rattle.graphql_nodes.specs.Names.{IsFreeName, NameText}
use Rattle.graphql_diagnostics.specs.Reports.{ReportsWithin}
use Rattle.graphql_specification.specs.Types.{TypeHolds}
use Rattle.graphql_specification.specs.BuiltInScalars.{types_referred_by}
use Rattle.graphql_documents.specs.declared.documents.schemas.ExtendedType.{ExtendedType}
use Rattle.graphql_diagnostics.proofs.ReportLemmas.{holds, kept_then, kept_wider}
use Rattle.graphql_documents.proofs.ListLemmas.{done_next, stands_next}
use Rattle.graphql_diagnostics.proofs.ReportWithinLemmas.{checks_refused_within, kept_within, wider_within, within}
use Rattle.graphql_field_definitions.specs.BuiltInScalarUses.{Records}
use Rattle.graphql_field_definitions.proofs.BuiltInScalarLemmas.{keeps_by, keeps_then, records_done, records_none}
use Rattle.graphql_schemas.proofs.NamedTypeLemmas.{TypesEntryReport, names_type}
use Rattle.graphql_schemas.proofs.TypeLemmas.{done_more_within}
use Rattle.graphql_schemas.proofs.types.validate_types_by_levels.Goals as goal

pub loop-name-init : goal.loop-name-init
loop-name-init c = record {
  can_next = tt;
  is_finite = tt;
  done = [];
  all = search rules;
  checked = within IsLimitEntry (holds _ _ _ (All-nil _));
  records = records_none c.args.built_in_scalars.now;
}

pub returns-in_err-validate_type_definition-clause-checks : goal.returns-in_err-validate_type_definition-clause-checks
returns-in_err-validate_type_definition-clause-checks c =
    let schema = c.args.levels.now.schema.now in
    let x : NameText × ExtendedType = (c.in-Some.name.now, c.in-Some.definition.now) in
    let stands : Contains schema.types.entries x =
    stands_next _ c.loop-name.invariant.done c.loop-name.name-iterator c.next.new.self x c.loop-name.invariant.all c.in-Some.ensures.steps in
    checks_refused_within IsLimitEntry _ _ _ _ _ c.from_residual.ensures.0
    (kept_then (kept_within IsLimitEntry c.loop-name.invariant.checked)
    (kept_wider (names_type schema x.0 x.1 stands) c.in_err-validate_type_definition.ensures.checks))

pub returns-in_err-validate_type_definition-clause-keeps : goal.returns-in_err-validate_type_definition-clause-keeps
returns-in_err-validate_type_definition-clause-keeps c =
    keeps_then (keeps_by c.loop-name.invariant.records) c.in_err-validate_type_definition.ensures.keeps

pub loop-name-preserved : goal.loop-name-preserved
loop-name-preserved c =
    let schema = c.args.levels.now.schema.now in
    let x : NameText × ExtendedType = (c.in-Some.name.now, c.in-Some.definition.now) in
    let done = c.loop-name.invariant.done in
    let stands : Contains schema.types.entries x =
    stands_next _ done c.loop-name.name-iterator c.next.new.self x c.loop-name.invariant.all c.in-Some.ensures.steps in
    record {
      can_next = tt;
      is_finite = tt;
      done = done ++ x ∷ [];
      all = done_next _ done c.loop-name.name-iterator c.next.new.self x c.loop-name.invariant.all c.in-Some.ensures.steps;
      checked = done_more_within (λ (entry : NameText × ExtendedType). IsFreeName entry.0 × TypeHolds schema entry.1) (TypesEntryReport schema) done x _ _ _
          c.loop-name.invariant.checked
          (wider_within IsLimitEntry (names_type schema x.0 x.1 stands) c.in_ok-validate_type_definition.ensures.checks);
      records = records_done (λ (entry : NameText × ExtendedType). types_referred_by entry.1) done x c.loop-name.invariant.records c.in_ok-validate_type_definition.ensures.records;
    }

pub returns : goal.returns
returns c =
    let schema = c.args.levels.now.schema.now in
    let done = c.loop-name.invariant.done in
    let are : done ≡ schema.types.entries =
    sym (c.loop-name.invariant.all ∙ ap (λ l. done ++ l) c.in-None.ensures.steps.0 ∙ append-nil done) in
    record {
      checks = subst (λ l. ReportsWithin IsLimitEntry (All (λ (entry : NameText × ExtendedType). IsFreeName entry.0 × TypeHolds schema entry.1) l) (TypesEntryReport schema)
          (entries c.args.diagnostics.now) (entries c.loop-name.diagnostics)) are c.loop-name.invariant.checked;
      records = subst (λ l. Records c.args.built_in_scalars.now c.loop-name.built_in_scalars (flat_map (λ (entry : NameText × ExtendedType). types_referred_by entry.1) l)) are
          c.loop-name.invariant.records;
      keeps = keeps_by c.loop-name.invariant.records;
    }
