use Rattle.std.proofs.Common.{◌≡◌, ◌++◌, [], ◌∷◌, fold, sym, ap, ◌∙◌}
use Rattle.std.proofs.lemmas.List.{append-nil}
use Rattle.graphql_documents.specs.Implementers.{listings_of, with_implementer}
use Rattle.graphql_nodes.specs.Names.{NameText}
use Rattle.graphql_documents.specs.declared.documents.schemas.ExtendedType.{ExtendedType}
use Rattle.graphql_documents.proofs.ImplementerLemmas.{listings_in, listings_more, made_of_types}
use Rattle.graphql_documents.proofs.ListLemmas.{done_next}
use Rattle.graphql_documents.proofs.documents.schemas.Schema.implementers_map.Goals as goal

pub loop-definition-preserved : goal.loop-definition-preserved
loop-definition-preserved c =
    let x : NameText × ExtendedType = (c.in-Some.field-0-0.now, c.in-Some.definition.now) in
    let done = c.loop-definition.invariant.done in
    record {
      can_next = tt;
      is_finite = tt;
      done = done ++ x ∷ [];
      all = done_next _ done c.loop-definition.definition-iterator c.next.new.self x c.loop-definition.invariant.all c.in-Some.ensures.steps;
      made = c.in_ok-add_type.ensures ∙ ap (λ known. fold with_implementer known (listings_of x.1)) c.loop-definition.invariant.made ∙ sym (listings_more done x);
    }

pub returns : goal.returns
returns c =
    let done : c.args.self.now.types.entries ≡ c.loop-definition.invariant.done =
    c.loop-definition.invariant.all ∙ ap (λ l. c.loop-definition.invariant.done ++ l) c.in-None.ensures.steps.0 ∙ append-nil c.loop-definition.invariant.done in
    c.loop-definition.invariant.made ∙ ap (λ types. fold with_implementer [] (listings_in types)) (sym done) ∙ made_of_types c.args.self.now
