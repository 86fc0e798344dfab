use Rattle.std.proofs.Common.{◌∷◌, ◌++◌, [], All, ap, subst, sym, ◌∙◌}
use Rattle.std.proofs.lemmas.List.{append-nil}
use Rattle.std.proofs.lemmas.List.Elements.{All-push}
use Rattle.graphql_nodes.specs.Names.{NameText}
use Rattle.graphql_documents.specs.declared.documents.schemas.ExtendedType.{ExtendedType}
use Rattle.graphql_documents.proofs.ListLemmas.{done_next}
use Rattle.graphql_specification.specs.DirectiveCycles.{type_part}
use Rattle.graphql_cycles.specs.DirectiveRanks.{TypeEntryLeadsNoHigher, LeadsNoHigher}
use Rattle.graphql_cycles.proofs.directive_ranks.types_lead_no_higher.Goals as goal

pub loop-name-preserved : goal.loop-name-preserved
loop-name-preserved c =
    let ranks = c.args.ranks.now in
    let x : NameText × ExtendedType = (c.in-Some.name.now, c.in-Some.definition.now) in
    let done = c.loop-name.invariant.done in
    record {
      can_next = tt;
      is_finite = tt;
      done = done ++ x ∷ [];
      all = done_next _ done c.loop-name.name-iterator c.next.new.self x c.loop-name.invariant.all c.in-Some.ensures.steps;
      leads = All-push (TypeEntryLeadsNoHigher ranks) done x c.loop-name.invariant.leads
          (subst (λ rank. LeadsNoHigher ranks rank (type_part x.1)) c.place_of-rank.ensures (c.in_ok-no_higher.ensures c.if-not-no_higher.false));
    }

pub returns : goal.returns
returns c = λ yes.
    let done = c.loop-name.invariant.done in
    subst (All (TypeEntryLeadsNoHigher c.args.ranks.now))
    (sym (c.loop-name.invariant.all ∙ ap (λ l. done ++ l) c.in-None.ensures.steps.0 ∙ append-nil done)) c.loop-name.invariant.leads
