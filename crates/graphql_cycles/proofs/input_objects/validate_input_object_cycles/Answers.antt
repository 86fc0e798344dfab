-- What the search from the fields of the input object says of it.
use Rattle.std.proofs.Common.{◌≡◌, ◌+◌, List, [], ◌∷◌, ◌++◌, map, ap, ◌∙◌, subst}
use Rattle.graphql_diagnostics.proofs.ReportLemmas.{holds}
use Rattle.graphql_diagnostics.proofs.ReportWithinLemmas.{within}
use Rattle.graphql_diagnostics.specs.Diagnostics.{IsLimitEntry}
use Rattle.graphql_specification.specs.InputObjectCycles.{input_object_depth_limit, RequiresBack, RequiresBy, input_object_of}
use Rattle.graphql_nodes.specs.Names.{HasDifferentNames, NameText}
use Rattle.graphql_documents.specs.declared.documents.schemas.InputObjectType.{InputObjectType}
use Rattle.graphql_guards.specs.Guards.{path_limit, path_of}
use Rattle.graphql_cycles.proofs.CycleLemmas.{closed_no_way_back, cycle_of, long_path}
use Rattle.graphql_cycles.proofs.InputObjectSearchLemmas.{StopsOver, closes_from_root, name_of, stops_from_root}
use Rattle.graphql_cycles.proofs.SeenNameLemmas.{nothing_seen}
use Rattle.graphql_cycles.specs.CycleSearches.{GoesFar, LeadsBack, Traces}
use Rattle.graphql_cycles.proofs.input_objects.validate_input_object_cycles.Goals as goal

pub returns-in-Ok : goal.returns-in-Ok
returns-in-Ok c =
    let d = c.args.input_object.now in
    let old = c.with_hasher-seen.result.keys in
    within IsLimitEntry (holds _ _ _ (closed_no_way_back {IsBack = RequiresBack} d (nothing_seen old c.with_hasher-seen.ensures.empty)
    (closes_from_root c.args.schema.now d c.deref.result.now c.deref.ensures old c.search_fields-searched.new.seen.keys c.in-Ok.ensures.searches)))

pub returns-in-Err-Recursed : goal.returns-in-Err-Recursed
returns-in-Err-Recursed c =
    let schema = c.args.schema.now in
    let d = c.args.input_object.now in
    let path = path_of c.in_ok-path.path in
    let limit = path_limit c.in_ok-path.path in
    let leads : LeadsBack (RequiresBy schema) (input_object_of schema) (RequiresBack d) (RequiresBy schema d) (Traces c.in-Err-Recursed.trace.items) =
    subst (StopsOver schema d.value.value.name (RequiresBy schema d) path limit) c.in-Err-Recursed.field-0-is
    (stops_from_root schema d c.deref.result.now c.deref.ensures path limit c.in-Err-Recursed.field-0 c.in-Err-Recursed.ensures.searches) in
    c.report_cycle.ensures schema (leads.before ++ leads.last ∷ []) (cycle_of {IsBack = RequiresBack} d leads) leads.shows

pub returns-in-Err-Limit : goal.returns-in-Err-Limit
returns-in-Err-Limit c =
    let schema = c.args.schema.now in
    let d = c.args.input_object.now in
    let own = d.value.value.name in
    let path = path_of c.in_ok-path.path in
    let limit = path_limit c.in_ok-path.path in
    let from_root : path ≡ own ∷ [] =
    c.in_ok-path.ensures.path ∙ ap (λ (n : NameText). n ∷ []) (c.in_ok-clone.ensures.cases ∙ ap (λ (o : InputObjectType). o.name) c.deref.ensures) in
    let far : GoesFar (RequiresBy schema) (input_object_of schema) (RequiresBy schema d) (λ way. HasDifferentNames (input_object_depth_limit + 1) (own ∷ map name_of way)) =
    subst (StopsOver schema own (RequiresBy schema d) (own ∷ []) input_object_depth_limit) c.in-Err-Limit.field-0-is
    (subst (λ n. StopsOver schema own (RequiresBy schema d) (own ∷ []) n c.in-Err-Limit.field-0) c.in_ok-path.ensures.limit
    (subst (λ (names : List NameText). StopsOver schema own (RequiresBy schema d) names limit c.in-Err-Limit.field-0) from_root
    (stops_from_root schema d c.deref.result.now c.deref.ensures path limit c.in-Err-Limit.field-0 c.in-Err-Limit.ensures.searches))) in
    c.report_nesting.ensures schema (long_path {name_of = name_of} own d far)
