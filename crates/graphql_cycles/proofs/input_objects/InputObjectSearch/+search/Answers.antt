-- Each exit of the search.
use Rattle.std.proofs.Common.{rules, ◌≡◌, [], ◌∷◌, ◌++◌, sym, ap, ◌∙◌, subst}
use Rattle.std.proofs.lemmas.List.{append-nil}
use Rattle.std.proofs.lemmas.Result.{err_from_is_err_and}
use Rattle.graphql_documents.proofs.ListLemmas.{done_next}
use Rattle.graphql_nodes.specs.Names.{DifferentNames, NameText}
use Rattle.graphql_documents.specs.declared.documents.components.Component.{Component}
use Rattle.graphql_documents.specs.declared.documents.definitions.InputValueDefinition.{InputValueDefinition}
use Rattle.graphql_guards.specs.Guards.{path_limit, path_of}
use Rattle.graphql_cycles.proofs.InputObjectSearchLemmas.{ClosesOver, StopsOver, closes_here, closes_next, leads_to, nodes_of, room_falls, stands_below, stops_among, stops_below, stops_here, stops_refused}
use Rattle.graphql_cycles.specs.InputObjectSearches.{RequiresAmong}
use Rattle.graphql_cycles.proofs.input_objects.InputObjectSearch.+search.Goals as goal

pub search_field-returns-then-leads_back-clause-searches : goal.search_field-returns-then-leads_back-clause-searches
search_field-returns-then-leads_back-clause-searches t c =
    let self = c.args.self.now in
    let l = leads_to self.schema.now c.args.field.now c.deref.result.now c.deref-2.result.now c.in-NonNullNamed.name c.in-Some.input_object.now
    c.deref.ensures c.deref-2.ensures c.in-NonNullNamed.is c.in-Some.ensures in
    stops_here self.schema.now self.root.now l (path_of c.args.path.now) (path_limit c.args.path.now) c.new.result c.trace_step.result
    (search rules) c.new.ensures.items c.trace_step.ensures

pub search_field-returns-in_err-enter-clause-searches : goal.search_field-returns-in_err-enter-clause-searches
search_field-returns-in_err-enter-clause-searches t c =
    let self = c.args.self.now in
    let l = leads_to self.schema.now c.args.field.now c.deref.result.now c.deref-2.result.now c.in-NonNullNamed.name c.in-Some.input_object.now
    c.deref.ensures c.deref-2.ensures c.in-NonNullNamed.is c.in-Some.ensures in
    let apart : DifferentNames c.in-NonNullNamed.name self.root.now = search rules in
    let r = err_from_is_err_and c.from_residual-in_err-enter.result c.from_residual-in_err-enter.ensures.1 in
    let e = c.in_err-enter.field-0.0 in
    let same : r.0 ≡ e = r.2 in
    rw r.1 (subst (StopsOver self.schema.now self.root.now (RequiresAmong self.schema.now (c.args.field.now ∷ [])) (path_of c.args.path.now) (path_limit c.args.path.now)) (sym same)
    (stops_refused self.schema.now self.root.now l c.args.seen.now.keys c.mark.new.seen.keys c.in_ok-mark.field-0 c.in_ok-mark.ensures.is_new c.in_ok-mark.ensures.names c.if-not-branch.false apart
    c.args.path.now e c.requires c.in_err-enter.ensures.bound))

pub search_field-search_fields-requires : goal.search_field-search_fields-requires
search_field-search_fields-requires t c =
    let self = c.args.self.now in
    let l = leads_to self.schema.now c.args.field.now c.deref.result.now c.deref-2.result.now c.in-NonNullNamed.name c.in-Some.input_object.now
    c.deref.ensures c.deref-2.ensures c.in-NonNullNamed.is c.in-Some.ensures in
    let apart : DifferentNames c.in-NonNullNamed.name self.root.now = search rules in (
      room_falls c.args.path.now c.enter.new.self c.in-NonNullNamed.name t c.in_ok-enter.ensures.bound c.in_ok-enter.ensures.limit c.in_ok-enter.ensures.visited_fragments c.decreases,
      stands_below self.schema.now self.root.now l c.args.seen.now.keys c.mark.new.seen.keys c.in_ok-mark.field-0 c.in_ok-mark.ensures.is_new c.in_ok-mark.ensures.names c.if-not-branch.false apart
          c.args.path.now c.enter.new.self c.requires c.in_ok-enter.ensures.bound c.in_ok-enter.ensures.visited_fragments c.in_ok-enter.ensures.limit,
    )

pub search_field-returns-in-Ok-clause-searches : goal.search_field-returns-in-Ok-clause-searches
search_field-returns-in-Ok-clause-searches t c =
    let self = c.args.self.now in
    let l = leads_to self.schema.now c.args.field.now c.deref.result.now c.deref-2.result.now c.in-NonNullNamed.name c.in-Some.input_object.now
    c.deref.ensures c.deref-2.ensures c.in-NonNullNamed.is c.in-Some.ensures in
    let apart : DifferentNames c.in-NonNullNamed.name self.root.now = search rules in
    closes_here self.schema.now self.root.now l c.args.seen.now.keys c.mark.new.seen.keys c.in_ok-mark.field-0 c.in_ok-mark.ensures.is_new c.in_ok-mark.ensures.names c.if-not-branch.false apart
    c.search_fields.new.seen.keys c.in-Ok.ensures.searches

pub search_field-returns-in-Err-clause-searches : goal.search_field-returns-in-Err-clause-searches
search_field-returns-in-Err-clause-searches t c =
    let self = c.args.self.now in
    let l = leads_to self.schema.now c.args.field.now c.deref.result.now c.deref-2.result.now c.in-NonNullNamed.name c.in-Some.input_object.now
    c.deref.ensures c.deref-2.ensures c.in-NonNullNamed.is c.in-Some.ensures in
    stops_below self.schema.now self.root.now l c.args.path.now c.enter.new.self c.in-Err.error c.trace_step-in-Err.result
    c.in_ok-enter.ensures.visited_fragments c.in_ok-enter.ensures.limit c.trace_step-in-Err.ensures c.in-Err.ensures.searches

pub search_fields-loop-field-preserved : goal.search_fields-loop-field-preserved
search_fields-loop-field-preserved t c =
    let self = c.args.self.now in
    let x : NameText × Component InputValueDefinition = (c.in-Some.field-0-0.now, c.in-Some.field.now) in
    let done = c.loop-field.invariant.done in
    record {
      can_next = tt;
      is_finite = tt;
      done = done ++ x ∷ [];
      all = done_next _ done c.loop-field.field-iterator c.next.new.self x c.loop-field.invariant.all c.in-Some.ensures.steps;
      path = search rules;
      limit = search rules;
      closes = closes_next self.schema.now self.root.now done x c.args.seen.now.keys c.loop-field.seen.keys c.search_field.new.seen.keys
          c.loop-field.invariant.closes c.in_ok-search_field.ensures.searches;
    }

pub search_fields-returns-in_err-search_field-clause-searches : goal.search_fields-returns-in_err-search_field-clause-searches
search_fields-returns-in_err-search_field-clause-searches t c =
    let self = c.args.self.now in
    let x : NameText × Component InputValueDefinition = (c.in-Some.field-0-0.now, c.in-Some.field.now) in
    let entries = c.args.input_object.now.value.value.fields.entries in
    let p = err_from_is_err_and c.from_residual.result c.from_residual.ensures.1 in
    let e = c.in_err-search_field.field-0.0 in
    let same : p.0 ≡ e = p.2 in
    rw p.1 (subst (StopsOver self.schema.now self.root.now (RequiresAmong self.schema.now (nodes_of entries)) (path_of c.args.path.now) (path_limit c.args.path.now)) (sym same)
    (stops_among self.schema.now self.root.now entries c.loop-field.invariant.done c.loop-field.field-iterator c.next.new.self x e
    c.loop-field.invariant.all c.in-Some.ensures.steps c.loop-field.invariant.path c.loop-field.invariant.limit c.in_err-search_field.ensures.searches))

pub search_fields-returns-clause-searches : goal.search_fields-returns-clause-searches
search_fields-returns-clause-searches t c =
    let self = c.args.self.now in
    let done : c.args.input_object.now.value.value.fields.entries ≡ c.loop-field.invariant.done =
    c.loop-field.invariant.all ∙ ap (λ l. c.loop-field.invariant.done ++ l) c.in-None.ensures.steps.0 ∙ append-nil c.loop-field.invariant.done in
    subst (λ entries. ClosesOver self.schema.now self.root.now (RequiresAmong self.schema.now (nodes_of entries)) c.args.seen.now.keys c.loop-field.seen.keys) (sym done)
    c.loop-field.invariant.closes
