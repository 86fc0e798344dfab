use Rattle.std.proofs.Common.{◌≡◌, ◌∙◌, ◌++◌, ap, sym, subst, All, Contains, List, [], Bor}
use Rattle.std.specs.Prelude.{flat_map}
use Rattle.graphql_diagnostics.proofs.ReportLemmas.{ChecksList, checks-err, checks_after, kept_by, kept_then}
use Rattle.graphql_nodes.specs.Names.{NameText}
use Rattle.graphql_trees.specs.declared.documents.Definition.{Definition}
use Rattle.graphql_trees.specs.declared.type_system.TypeDefinition.{TypeDefinition}
use Rattle.std.proofs.lemmas.Simd.{map-map}
use Rattle.graphql_building_reports.specs.Checks.{reports_of}
use Rattle.graphql_schema_checking.specs.Definitions.{interface_names, type_extensions, types}
use Rattle.graphql_schema_checking.specs.SchemaBuilds.{HasDistinctParts, implemented_names}
use Rattle.graphql_schema_checking.specs.SchemaReports.{DefinitionsReport}
use Rattle.graphql_repetitions.specs.References.{nows}
use Rattle.graphql_schema_checking.specs.Steps.{AreFirst, FindsAll, first_definitions}
use Rattle.graphql_schema_checking.proofs.ByNameLemmas.{first_among}
use Rattle.graphql_schema_checking.proofs.RuleLemmas.{answered, extensions_checked, implemented_checked, refused}
use Rattle.graphql_schema_checking.proofs.schema.check_types.Goals as goal

-- the names that were listed are all that types implement
are_implemented : (ds : List Definition) (names : List NameText) (ts es : List TypeDefinition) →
    names ≡ flat_map interface_names ts ++ flat_map interface_names es → ts ≡ types ds → es ≡ type_extensions ds → names ≡ implemented_names ds
are_implemented ds names ts es is t e = is ∙ ap (λ l. flat_map interface_names l ++ flat_map interface_names es) t ∙ ap (λ l. flat_map interface_names (types ds) ++ flat_map interface_names l) e

pub returns-in_err-check_type_extensions : goal.returns-in_err-check_type_extensions
returns-in_err-check_type_extensions c = λ definitions s.
    let first : AreFirst c.in_ok-first.first (types definitions) = subst (AreFirst c.in_ok-first.first) (ap nows c.deref.ensures.value ∙ s.types_are) c.in_ok-first.ensures in
    checks-err _ _ _ _ _ c.from_residual-in_err-check_type_extensions.ensures.0
    (extensions_checked refused definitions _ _ _ (ap nows c.deref-2.ensures.value ∙ s.type_extensions_are) (c.in_err-check_type_extensions.ensures (types definitions) first))

pub returns-in_err-implemented : goal.returns-in_err-implemented
returns-in_err-implemented c = λ definitions s.
    let first : AreFirst c.in_ok-first.first (types definitions) = subst (AreFirst c.in_ok-first.first) (ap nows c.deref.ensures.value ∙ s.types_are) c.in_ok-first.ensures in
    checks-err _ _ _ _ _ c.from_residual-in_err-implemented.ensures.0
    (kept_by (extensions_checked answered definitions _ _ _ (ap nows c.deref-2.ensures.value ∙ s.type_extensions_are) (c.in_ok-check_type_extensions.ensures (types definitions) first)))

pub returns-in_err-check_implemented : goal.returns-in_err-check_implemented
returns-in_err-check_implemented c = λ definitions s.
    let first : AreFirst c.in_ok-first.first (types definitions) = subst (AreFirst c.in_ok-first.first) (ap nows c.deref.ensures.value ∙ s.types_are) c.in_ok-first.ensures in
    checks-err _ _ _ _ _ c.from_residual-in_err-check_implemented.ensures.0
    (kept_then (kept_by (extensions_checked answered definitions _ _ _ (ap nows c.deref-2.ensures.value ∙ s.type_extensions_are) (c.in_ok-check_type_extensions.ensures (types definitions) first)))
    (implemented_checked refused definitions _ _ _ (are_implemented definitions _ _ _ (ap nows c.deref-5.ensures.value ∙ c.in_ok-implemented.ensures) (ap nows c.deref-3.ensures.value ∙ s.types_are) (ap nows c.deref-4.ensures.value ∙ s.type_extensions_are))
    (c.in_err-check_implemented.ensures (types definitions) first)))

pub returns-in_err-definitions : goal.returns-in_err-definitions
returns-in_err-definitions c = λ definitions s.
    let first : AreFirst c.in_ok-first.first (types definitions) = subst (AreFirst c.in_ok-first.first) (ap nows c.deref.ensures.value ∙ s.types_are) c.in_ok-first.ensures in
    checks-err _ _ _ _ _ c.from_residual-in_err-definitions.ensures.0
    (kept_then (kept_by (extensions_checked answered definitions _ _ _ (ap nows c.deref-2.ensures.value ∙ s.type_extensions_are) (c.in_ok-check_type_extensions.ensures (types definitions) first)))
    (kept_by (implemented_checked answered definitions _ _ _ (are_implemented definitions _ _ _ (ap nows c.deref-5.ensures.value ∙ c.in_ok-implemented.ensures) (ap nows c.deref-3.ensures.value ∙ s.types_are) (ap nows c.deref-4.ensures.value ∙ s.type_extensions_are))
    (c.in_ok-check_implemented.ensures (types definitions) first))))

pub returns-in_err-found : goal.returns-in_err-found
returns-in_err-found c = λ definitions s.
    let first : AreFirst c.in_ok-first.first (types definitions) = subst (AreFirst c.in_ok-first.first) (ap nows c.deref.ensures.value ∙ s.types_are) c.in_ok-first.ensures in
    checks-err _ _ _ _ _ c.from_residual-in_err-found.ensures.0
    (kept_then (kept_by (extensions_checked answered definitions _ _ _ (ap nows c.deref-2.ensures.value ∙ s.type_extensions_are) (c.in_ok-check_type_extensions.ensures (types definitions) first)))
    (kept_by (implemented_checked answered definitions _ _ _ (are_implemented definitions _ _ _ (ap nows c.deref-5.ensures.value ∙ c.in_ok-implemented.ensures) (ap nows c.deref-3.ensures.value ∙ s.types_are) (ap nows c.deref-4.ensures.value ∙ s.type_extensions_are))
    (c.in_ok-check_implemented.ensures (types definitions) first))))

pub returns : goal.returns
returns c = λ definitions s.
    let first : AreFirst c.in_ok-first.first (types definitions) = subst (AreFirst c.in_ok-first.first) (ap nows c.deref.ensures.value ∙ s.types_are) c.in_ok-first.ensures in
    let found : FindsAll c.in_ok-found.found (type_extensions definitions) =
    subst (FindsAll c.in_ok-found.found) (ap nows c.deref-6.ensures.value ∙ s.type_extensions_are) c.in_ok-found.ensures in
    let firsts : nows c.deref-7.result.now ≡ first_definitions (types definitions) =
    ap nows (c.deref-7.ensures.value ∙ c.in_ok-definitions.ensures) ∙
    map-map (λ (r : Bor TypeDefinition). r.now) (λ (e : Bor NameText × Bor TypeDefinition). e.1) c.in_ok-first.first.entries ∙ first.values_are in
    let among : All (Contains (types definitions)) (nows c.deref-7.result.now) =
    subst (All (Contains (types definitions))) (sym firsts) (first_among [] (types definitions)) in
    checks_after _ _ _ _ _ _ _ (extensions_checked answered definitions _ _ _ (ap nows c.deref-2.ensures.value ∙ s.type_extensions_are) (c.in_ok-check_type_extensions.ensures (types definitions) first))
    (checks_after _ _ _ _ _ _ _ (implemented_checked answered definitions _ _ _ (are_implemented definitions _ _ _ (ap nows c.deref-5.ensures.value ∙ c.in_ok-implemented.ensures) (ap nows c.deref-3.ensures.value ∙ s.types_are) (ap nows c.deref-4.ensures.value ∙ s.type_extensions_are))
    (c.in_ok-check_implemented.ensures (types definitions) first))
    (subst (λ l. ChecksList c.check_all_parts.result (All (HasDistinctParts definitions) l) (DefinitionsReport definitions) (reports_of c.check_implemented.new.reports) (reports_of c.check_all_parts.new.reports)) firsts
    (c.check_all_parts.ensures definitions among found)))
