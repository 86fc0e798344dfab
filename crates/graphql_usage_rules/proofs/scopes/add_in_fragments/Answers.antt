use Rattle.std.proofs.Common.{◌≡◌, ◌∙◌, ◌++◌, ◌∷◌, [], Bor, ap, sym, subst}
use Rattle.std.specs.Prelude.{Any}
use Rattle.std.proofs.lemmas.List.{append-nil}
use Rattle.graphql_nodes.specs.Names.{NameText}
use Rattle.graphql_nodes.specs.declared.nodes.Node.{Node}
use Rattle.graphql_documents.proofs.ListLemmas.{done_next}
use Rattle.graphql_documents.specs.Selections.{fragments_of}
use Rattle.graphql_documents.specs.declared.documents.values.Value.{Value}
use Rattle.graphql_reach.specs.Reached.{names_at}
use Rattle.graphql_usage_rules.specs.Scopes.{Adds, InFragmentNamed, InFragments, values_at}
use Rattle.graphql_usage_rules.proofs.AddLemmas.{adds_done, adds_none_done, adds_words, any_made}
use Rattle.graphql_usage_rules.proofs.scopes.add_in_fragments.Goals as goal

abbrev text : Bor NameText → NameText
text reference = reference.now

pub loop-name-init : goal.loop-name-init
loop-name-init c = record {
  can_next = tt;
  is_finite = tt;
  done = [];
  all = let e : c.args.names.now.keys ≡ c.into_iter-name-iterator.result = cc in e;
  added = adds_none_done (λ (name : Bor NameText). InFragmentNamed (fragments_of c.args.document.now) name.now) [] (values_at c.args.variables.now.items);
}

pub loop-name-preserved : goal.loop-name-preserved
loop-name-preserved c =
    let all = c.args.names.now.keys in
    let x : Bor NameText = c.in-Some.name.now in
    let done = c.loop-name.invariant.done in
    let next : c.loop-name.name-iterator ≡ x ∷ c.next.new.self = c.in-Some.ensures.steps in
    record {
      can_next = tt;
      is_finite = tt;
      done = done ++ x ∷ [];
      all = done_next all done c.loop-name.name-iterator c.next.new.self x c.loop-name.invariant.all next;
      added = adds_done (λ (name : Bor NameText). InFragmentNamed (fragments_of c.args.document.now) name.now) done x (values_at c.args.variables.now.items)
          (values_at c.loop-name.variables.items) (values_at c.add_in_fragment.new.variables.items) c.loop-name.invariant.added c.in_ok-add_in_fragment.ensures;
    }

pub returns : goal.returns
returns c =
    let fragments = fragments_of c.args.document.now in
    let all = c.args.names.now.keys in
    let In : Bor NameText → Node Value → Type 0 = λ name. InFragmentNamed fragments name.now in
    let old = values_at c.args.variables.now.items in
    let new = values_at c.loop-name.variables.items in
    let done : c.loop-name.invariant.done ≡ all =
    sym (c.loop-name.invariant.all ∙ ap (λ l. c.loop-name.invariant.done ++ l) c.in-None.ensures.steps.0 ∙ append-nil c.loop-name.invariant.done) in
    adds_words (λ v. Any (λ name. In name v) all) (InFragments fragments (names_at all)) old new (any_made text (InFragmentNamed fragments) all)
    (subst (λ l. Adds (λ v. Any (λ name. In name v) l) old new) done c.loop-name.invariant.added)
