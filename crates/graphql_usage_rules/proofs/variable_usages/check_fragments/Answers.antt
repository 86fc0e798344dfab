use Rattle.std.proofs.Common.{◌≡◌, ◌∙◌, ◌++◌, ◌∷◌, [], Bor, ap}
use Rattle.std.proofs.lemmas.List.{append-nil}
use Rattle.graphql_nodes.specs.Names.{NameText}
use Rattle.graphql_documents.proofs.ListLemmas.{done_next, stands_next}
use Rattle.graphql_documents.specs.Selections.{fragments_of}
use Rattle.graphql_usage_rules.specs.Parts.{UsedInFragment}
use Rattle.graphql_usage_rules.specs.Usages.{Usage}
use Rattle.graphql_usage_rules.proofs.WalkLemmas.{all_done, done_refused, made_checked, made_reported, nothing_done, place_done}
use Rattle.graphql_usage_rules.proofs.variable_usages.check_fragments.Goals as goal

abbrev text : Bor NameText → NameText
text reference = reference.now

pub loop-name-init : goal.loop-name-init
loop-name-init c = record {
  can_next = tt;
  is_finite = tt;
  done = [];
  all = let e : c.args.names.now.keys ≡ c.into_iter-name-iterator.result = cc in e;
  reported = nothing_done c.args.variables.now (λ (name : Bor NameText). UsedInFragment c.args.schema.now (fragments_of c.args.document.now) name.now) c.args.names.now.keys
      c.args.reports.now.kept.items;
}

pub loop-name-preserved : goal.loop-name-preserved
loop-name-preserved c =
    let v = c.args.variables.now in
    let In : Bor NameText → Usage → Type 0 = λ name. UsedInFragment c.args.schema.now (fragments_of c.args.document.now) name.now in
    let all = c.args.names.now.keys in
    let x : Bor NameText = c.in-Some.name.now in
    let done = c.loop-name.invariant.done in
    let next : c.loop-name.name-iterator ≡ x ∷ c.next.new.self = c.in-Some.ensures.steps in
    record {
      can_next = tt;
      is_finite = tt;
      done = done ++ x ∷ [];
      all = done_next all done c.loop-name.name-iterator c.next.new.self x c.loop-name.invariant.all next;
      reported = place_done v In all done x c.args.reports.now.kept.items c.loop-name.reports.kept.items c.check_fragment_named.new.reports.kept.items
          (stands_next all done c.loop-name.name-iterator c.next.new.self x c.loop-name.invariant.all next) c.loop-name.invariant.reported
          c.in_ok-check_fragment_named.ensures;
    }

pub returns-in_err-check_fragment_named : goal.returns-in_err-check_fragment_named
returns-in_err-check_fragment_named c =
    let v = c.args.variables.now in
    let Used = UsedInFragment c.args.schema.now (fragments_of c.args.document.now) in
    let In : Bor NameText → Usage → Type 0 = λ name. Used name.now in
    let all = c.args.names.now.keys in
    let x : Bor NameText = c.in-Some.name.now in
    let done = c.loop-name.invariant.done in
    let old = c.args.reports.now.kept.items in
    let new = c.check_fragment_named.new.reports.kept.items in
    let next : c.loop-name.name-iterator ≡ x ∷ c.next.new.self = c.in-Some.ensures.steps in
    made_checked v text Used all c.from_residual.result old new
    (done_refused v In all c.from_residual.result done x old c.loop-name.reports.kept.items new c.from_residual.ensures.0
    (stands_next all done c.loop-name.name-iterator c.next.new.self x c.loop-name.invariant.all next) c.loop-name.invariant.reported
    c.in_err-check_fragment_named.ensures)

pub returns : goal.returns
returns c =
    let v = c.args.variables.now in
    let Used = UsedInFragment c.args.schema.now (fragments_of c.args.document.now) in
    let In : Bor NameText → Usage → Type 0 = λ name. Used name.now in
    let all = c.args.names.now.keys in
    let done : all ≡ c.loop-name.invariant.done =
    c.loop-name.invariant.all ∙ ap (λ l. c.loop-name.invariant.done ++ l) c.in-None.ensures.steps.0 ∙ append-nil c.loop-name.invariant.done in
    made_reported v text Used all c.args.reports.now.kept.items c.loop-name.reports.kept.items
    (all_done v In all c.loop-name.invariant.done c.args.reports.now.kept.items c.loop-name.reports.kept.items done c.loop-name.invariant.reported)
