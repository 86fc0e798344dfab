-- Each exit of the search.
use Rattle.std.proofs.Common.{rules, ◌≡◌, [], ◌∷◌, map, refl, sym, ap, ◌∙◌, subst}
use Rattle.std.specs.List.{list_any}
use Rattle.std.proofs.lemmas.Result.{MatchResult-weaker, err_from_is_err_and}
use Rattle.graphql_nodes.specs.Names.{DifferentNames}
use Rattle.graphql_specification.specs.DirectiveCycles.{by_directive, by_type, directive_part, references_of, type_part}
use Rattle.graphql_cycles.proofs.DirectiveRoomLemmas.{directive_falls, names_type, off_path_falls, reference_falls, type_falls}
use Rattle.graphql_cycles.proofs.DirectiveSearchLemmas.{application_back, application_begins, application_closes, application_closes_at, application_of, application_stops, application_stops_below, begins_still, closes_next, keeps_then, stops_among, stops_on, type_begins, type_begins_off_path, type_closes, type_closes_at, type_stops, type_stops_below, type_stops_off_path}
use Rattle.graphql_cycles.specs.DirectiveSearches.{StopsBy}
use Rattle.graphql_cycles.specs.References.{reference_of}
use Rattle.graphql_cycles.specs.declared.directives.Progress.{Progress}
use Rattle.graphql_cycles.proofs.directives.DirectiveSearch.+search.Goals as goal

pub search_references-search_reference-requires : goal.search_references-search_reference-requires
search_references-search_reference-requires t c =
    let self = c.args.self.now in
    let keeps = c.loop-reference.invariant.keeps in (
      reference_falls c.args.references.now c.loop-reference.reference-index c.reference-item.result c.args.progress.now c.loop-reference.progress t
          c.loop-reference-test.true c.reference-item.is keeps c.decreases,
      begins_still self c.args.progress.now c.loop-reference.progress keeps c.loop-reference.invariant.closes.grows c.requires,
    )

pub search_references-returns-in_err-search_reference-clause-searches : goal.search_references-returns-in_err-search_reference-clause-searches
search_references-returns-in_err-search_reference-clause-searches t c =
    let self = c.args.self.now in
    let old = c.args.progress.now in
    let r = err_from_is_err_and c.from_residual.result c.from_residual.ensures.1 in
    let e = c.in_err-search_reference.field-0.0 in
    let is_error : r.0 ≡ e = r.2 in
    rw r.1 (subst (StopsBy self.schema.now self.root.now (map reference_of c.args.references.now) old) (sym is_error)
    (stops_among self.schema.now self.root.now c.args.references.now c.loop-reference.reference-index c.reference-item.result old c.loop-reference.progress e
    c.loop-reference-test.true c.reference-item.is c.loop-reference.invariant.keeps c.in_err-search_reference.ensures.searches))

pub search_references-loop-reference-preserved : goal.search_references-loop-reference-preserved
search_references-loop-reference-preserved t c =
    let self = c.args.self.now in
    record {
      keeps = keeps_then c.loop-reference.invariant.keeps c.in_ok-search_reference.ensures.paths;
      closes = closes_next self.schema.now self.root.now c.args.references.now c.loop-reference.reference-index c.reference-item.result
          c.args.progress.now c.loop-reference.progress c.search_reference.new.progress c.loop-reference-test.true c.reference-item.is
          c.loop-reference.invariant.closes c.in_ok-search_reference.ensures.searches;
    }

pub search_application-returns-then-leads_back-clause-searches : goal.search_application-returns-then-leads_back-clause-searches
search_application-returns-then-leads_back-clause-searches t c =
    let self = c.args.self.now in
    let old = c.args.progress.now in
    let a = c.args.application.now in
    let here = application_of self.root.now a c.deref.result.now c.deref-2.result.now c.deref.ensures c.deref-2.ensures in
    application_back self.schema.now self.root.now here old c.new.result c.trace_step.result (search rules) c.new.ensures.items c.trace_step.ensures

pub search_application-returns-in_default-clause-searches : goal.search_application-returns-in_default-clause-searches
search_application-returns-in_default-clause-searches t c =
    let self = c.args.self.now in
    let old = c.args.progress.now in
    let a = c.args.application.now in
    let here = application_of self.root.now a c.deref.result.now c.deref-2.result.now c.deref.ensures c.deref-2.ensures in
    let mid : Progress = record { directive_path = old.directive_path; type_path = old.type_path; seen_directives = c.mark.new.seen; seen_types = old.seen_types } in
    let apart : DifferentNames c.deref.result.now.name c.deref-2.result.now.name = search rules in
    application_closes_at self.schema.now self.root.now here old mid c.in_ok-mark.field-0 c.in_ok-mark.ensures.is_new c.in_ok-mark.ensures.names c.if-not-branch.false refl apart
    c.in_default.ensures.value

pub search_application-returns-in_err-enter-clause-searches : goal.search_application-returns-in_err-enter-clause-searches
search_application-returns-in_err-enter-clause-searches t c =
    let self = c.args.self.now in
    let old = c.args.progress.now in
    let a = c.args.application.now in
    let here = application_of self.root.now a c.deref.result.now c.deref-2.result.now c.deref.ensures c.deref-2.ensures in
    let mid : Progress = record { directive_path = old.directive_path; type_path = old.type_path; seen_directives = c.mark.new.seen; seen_types = old.seen_types } in
    let apart : DifferentNames c.deref.result.now.name c.deref-2.result.now.name = search rules in
    let r = err_from_is_err_and c.from_residual-in_err-enter.result c.from_residual-in_err-enter.ensures.1 in
    let e = c.in_err-enter.field-0.0 in
    let is_error : r.0 ≡ e = r.2 in
    rw r.1 (subst (StopsBy self.schema.now self.root.now (by_directive a ∷ []) old) (sym is_error)
    (application_stops self.schema.now self.root.now here old mid c.in_ok-mark.field-0 c.in_ok-mark.ensures.is_new c.in_ok-mark.ensures.names c.if-not-branch.false refl apart
    self e refl c.requires c.in_err-enter.ensures.bound))

pub search_application-search_references-requires : goal.search_application-search_references-requires
search_application-search_references-requires t c =
    let self = c.args.self.now in
    let old = c.args.progress.now in
    let a = c.args.application.now in
    let here = application_of self.root.now a c.deref.result.now c.deref-2.result.now c.deref.ensures c.deref-2.ensures in
    let mid : Progress = record { directive_path = old.directive_path; type_path = old.type_path; seen_directives = c.mark.new.seen; seen_types = old.seen_types } in
    let apart : DifferentNames c.deref.result.now.name c.deref-2.result.now.name = search rules in
    let deep : Progress = record { directive_path = c.enter.new.self; type_path = old.type_path; seen_directives = c.mark.new.seen; seen_types = old.seen_types } in
    let types = list_any names_type (map reference_of c.deref-3.result.now) in (
      directive_falls old deep c.deref.result.now.name types t c.in_ok-enter.ensures.bound c.in_ok-enter.ensures.visited_fragments c.in_ok-enter.ensures.limit refl refl c.decreases,
      application_begins self.schema.now self.root.now here old mid c.in_ok-mark.field-0 c.in_ok-mark.ensures.is_new c.in_ok-mark.ensures.names c.if-not-branch.false refl apart
          self deep refl c.requires c.in_ok-enter.ensures.bound c.in_ok-enter.ensures.visited_fragments c.in_ok-enter.ensures.limit refl refl refl refl,
    )

pub search_application-returns-in-Ok-search_references-clause-searches : goal.search_application-returns-in-Ok-search_references-clause-searches
search_application-returns-in-Ok-search_references-clause-searches t c =
    let self = c.args.self.now in
    let old = c.args.progress.now in
    let a = c.args.application.now in
    let here = application_of self.root.now a c.deref.result.now c.deref-2.result.now c.deref.ensures c.deref-2.ensures in
    let mid : Progress = record { directive_path = old.directive_path; type_path = old.type_path; seen_directives = c.mark.new.seen; seen_types = old.seen_types } in
    let apart : DifferentNames c.deref.result.now.name c.deref-2.result.now.name = search rules in
    let same : map reference_of c.deref-3.result.now ≡ references_of (directive_part c.in-Some.definition.now) = ap (map reference_of) c.deref-3.ensures.value ∙ c.in-Ok.ensures in
    application_closes self.schema.now self.root.now here old mid c.in_ok-mark.field-0 c.in_ok-mark.ensures.is_new c.in_ok-mark.ensures.names c.if-not-branch.false refl apart
    c.in-Some.definition.now (map reference_of c.deref-3.result.now) c.search_references.new.progress c.in-Some.ensures.value same
    c.in-Ok-search_references.ensures.searches

pub search_application-returns-clause-searches : goal.search_application-returns-clause-searches
search_application-returns-clause-searches t c =
    let self = c.args.self.now in
    let old = c.args.progress.now in
    let a = c.args.application.now in
    let here = application_of self.root.now a c.deref.result.now c.deref-2.result.now c.deref.ensures c.deref-2.ensures in
    let deep : Progress = record { directive_path = c.enter.new.self; type_path = old.type_path; seen_directives = c.mark.new.seen; seen_types = old.seen_types } in
    let same : map reference_of c.deref-3.result.now ≡ references_of (directive_part c.in-Some.definition.now) = ap (map reference_of) c.deref-3.ensures.value ∙ c.in-Ok.ensures in
    application_stops_below self.schema.now self.root.now here c.in-Some.definition.now (map reference_of c.deref-3.result.now) old deep c.in-Err.error c.trace_step-in-Err.result
    c.in-Some.ensures.value same c.in_ok-enter.ensures.visited_fragments c.in_ok-enter.ensures.limit refl refl c.trace_step-in-Err.ensures c.in-Err.ensures.searches

pub search_type-returns-in_default-clause-searches : goal.search_type-returns-in_default-clause-searches
search_type-returns-in_default-clause-searches t c =
    let self = c.args.self.now in
    let old = c.args.progress.now in
    let name = c.args.name.now in
    let mid : Progress = record { directive_path = old.directive_path; type_path = old.type_path; seen_directives = old.seen_directives; seen_types = c.mark.new.seen } in
    type_closes_at self.schema.now self.root.now name old mid c.in_ok-mark.field-0 c.in_ok-mark.ensures.is_new c.in_ok-mark.ensures.names c.if-not-branch.false refl c.in_default.ensures.value

pub search_type-search_references-requires : goal.search_type-search_references-requires
search_type-search_references-requires t c =
    let self = c.args.self.now in
    let old = c.args.progress.now in
    let name = c.args.name.now in
    let mid : Progress = record { directive_path = old.directive_path; type_path = old.type_path; seen_directives = old.seen_directives; seen_types = c.mark.new.seen } in
    let d = c.in-Some.definition.now in
    let references = map reference_of c.deref.result.now in
    let same : references ≡ references_of (type_part d) = ap (map reference_of) c.deref.ensures.value ∙ c.in-Ok.ensures in (
      off_path_falls d references mid t (sym c.is_off_path.ensures ∙ c.if-is_off_path.true) same c.decreases,
      type_begins_off_path self.schema.now self.root.now name old mid c.in_ok-mark.field-0 c.in_ok-mark.ensures.is_new c.in_ok-mark.ensures.names c.if-not-branch.false refl
          self c.requires refl refl refl refl,
    )

pub search_type-returns-then-is_off_path-clause-searches : goal.search_type-returns-then-is_off_path-clause-searches
search_type-returns-then-is_off_path-clause-searches t c =
    let self = c.args.self.now in
    let old = c.args.progress.now in
    let name = c.args.name.now in
    let mid : Progress = record { directive_path = old.directive_path; type_path = old.type_path; seen_directives = old.seen_directives; seen_types = c.mark.new.seen } in
    let d = c.in-Some.definition.now in
    let references = map reference_of c.deref.result.now in
    let same : references ≡ references_of (type_part d) = ap (map reference_of) c.deref.ensures.value ∙ c.in-Ok.ensures in
    MatchResult-weaker c.search_references.result c.search_references.ensures.searches
    (λ x closes. type_closes self.schema.now self.root.now name old mid c.in_ok-mark.field-0 c.in_ok-mark.ensures.is_new c.in_ok-mark.ensures.names c.if-not-branch.false refl
    d references c.search_references.new.progress c.in-Some.ensures.value same closes)
    (λ e stops. type_stops_off_path self.schema.now self.root.now name d references old e c.in-Some.ensures.value same
    (stops_on self.schema.now self.root.now references old mid e (record { directives = refl; directive_limit = refl; types = refl; type_limit = refl }) stops))

pub search_type-returns-in_err-enter-clause-searches : goal.search_type-returns-in_err-enter-clause-searches
search_type-returns-in_err-enter-clause-searches t c =
    let self = c.args.self.now in
    let old = c.args.progress.now in
    let name = c.args.name.now in
    let mid : Progress = record { directive_path = old.directive_path; type_path = old.type_path; seen_directives = old.seen_directives; seen_types = c.mark.new.seen } in
    let r = err_from_is_err_and c.from_residual-in_err-enter.result c.from_residual-in_err-enter.ensures.1 in
    let e = c.in_err-enter.field-0.0 in
    let is_error : r.0 ≡ e = r.2 in
    rw r.1 (subst (StopsBy self.schema.now self.root.now (by_type name ∷ []) old) (sym is_error)
    (type_stops self.schema.now self.root.now name old mid c.in_ok-mark.field-0 c.in_ok-mark.ensures.is_new c.in_ok-mark.ensures.names c.if-not-branch.false refl
    self e c.requires c.in_err-enter.ensures.bound))

pub search_type-search_references-requires-2 : goal.search_type-search_references-requires-2
search_type-search_references-requires-2 t c =
    let self = c.args.self.now in
    let old = c.args.progress.now in
    let name = c.args.name.now in
    let mid : Progress = record { directive_path = old.directive_path; type_path = old.type_path; seen_directives = old.seen_directives; seen_types = c.mark.new.seen } in
    let deep : Progress = record { directive_path = old.directive_path; type_path = c.enter.new.self; seen_directives = old.seen_directives; seen_types = c.mark.new.seen } in
    let types = list_any names_type (map reference_of c.deref-2.result.now) in (
      type_falls old deep name types t c.in_ok-enter.ensures.bound c.in_ok-enter.ensures.visited_fragments c.in_ok-enter.ensures.limit refl refl c.decreases,
      type_begins self.schema.now self.root.now name old mid c.in_ok-mark.field-0 c.in_ok-mark.ensures.is_new c.in_ok-mark.ensures.names c.if-not-branch.false refl
          self deep c.requires c.in_ok-enter.ensures.bound c.in_ok-enter.ensures.visited_fragments c.in_ok-enter.ensures.limit refl refl refl refl,
    )

pub search_type-returns-in_err-search_references-clause-searches : goal.search_type-returns-in_err-search_references-clause-searches
search_type-returns-in_err-search_references-clause-searches t c =
    let self = c.args.self.now in
    let old = c.args.progress.now in
    let name = c.args.name.now in
    let deep : Progress = record { directive_path = old.directive_path; type_path = c.enter.new.self; seen_directives = old.seen_directives; seen_types = c.mark.new.seen } in
    let d = c.in-Some.definition.now in
    let references = map reference_of c.deref-2.result.now in
    let same : references ≡ references_of (type_part d) = ap (map reference_of) c.deref-2.ensures.value ∙ c.in-Ok.ensures in
    let r = err_from_is_err_and c.from_residual-in_err-search_references.result c.from_residual-in_err-search_references.ensures.1 in
    let e = c.in_err-search_references.field-0.0 in
    let is_error : r.0 ≡ e = r.2 in
    rw r.1 (subst (StopsBy self.schema.now self.root.now (by_type name ∷ []) old) (sym is_error)
    (type_stops_below self.schema.now self.root.now name d references old deep e c.in-Some.ensures.value same
    c.in_ok-enter.ensures.visited_fragments c.in_ok-enter.ensures.limit refl refl c.in_err-search_references.ensures.searches))

pub search_type-returns-clause-searches : goal.search_type-returns-clause-searches
search_type-returns-clause-searches t c =
    let self = c.args.self.now in
    let old = c.args.progress.now in
    let name = c.args.name.now in
    let mid : Progress = record { directive_path = old.directive_path; type_path = old.type_path; seen_directives = old.seen_directives; seen_types = c.mark.new.seen } in
    let d = c.in-Some.definition.now in
    let references = map reference_of c.deref-2.result.now in
    let same : references ≡ references_of (type_part d) = ap (map reference_of) c.deref-2.ensures.value ∙ c.in-Ok.ensures in
    type_closes self.schema.now self.root.now name old mid c.in_ok-mark.field-0 c.in_ok-mark.ensures.is_new c.in_ok-mark.ensures.names c.if-not-branch.false refl
    d references c.search_references-2.new.progress c.in-Some.ensures.value same c.in_ok-search_references.ensures.searches
