use Rattle.std.proofs.Common.{rules, ◌≡◌, ◌∙◌, ◌++◌, [], ◌∷◌, refl, sym, ap, subst, All, Contains}
use Rattle.std.proofs.lemmas.List.{append-nil}
use Rattle.std.proofs.lemmas.List.Elements.{All-append, All-cons, All-nil}
use Rattle.graphql_built.proofs.BuiltLemmas.{one_fails}
use Rattle.graphql_built.specs.BuiltSelections.{FragmentIsBuilt}
use Rattle.graphql_documents.proofs.ListLemmas.{done_next, stands_next}
use Rattle.graphql_nodes.specs.Names.{NameText}
use Rattle.graphql_documents.specs.declared.documents.executables.Fragment.{Fragment}
use Rattle.graphql_nodes.specs.declared.nodes.Node.{Node}
use Rattle.graphql_built.proofs.built.fragments_are_built.Goals as goal

abbrev Entry : Type 0
Entry = NameText × Node Fragment

pub loop-name-init : goal.loop-name-init
loop-name-init c = record {
  can_next = tt;
  is_finite = tt;
  done = [];
  all = sym c.into_iter-name-iterator.ensures.into_iter_gives.0;
  built = All-nil (λ (e : Entry). FragmentIsBuilt c.args.schema.now e.0 e.1.value.value);
}

pub loop-name-preserved : goal.loop-name-preserved
loop-name-preserved c =
    let P = λ (e : Entry). FragmentIsBuilt c.args.schema.now e.0 e.1.value.value in
    let x : Entry = (c.in-Some.name.now, c.in-Some.fragment.now) in
    let done = c.loop-name.invariant.done in
    let next : c.loop-name.name-iterator ≡ x ∷ c.next.new.self = c.in-Some.ensures.steps in
    let here : P x = c.fragment_is_built.ensures.0 (search rules) in
    record {
      can_next = tt;
      is_finite = tt;
      done = done ++ x ∷ [];
      all = done_next _ done c.loop-name.name-iterator c.next.new.self x c.loop-name.invariant.all next;
      built = All-append P done (x ∷ []) c.loop-name.invariant.built (All-cons P x [] here (All-nil P));
    }

pub returns-then-not-fragment_is_built : goal.returns-then-not-fragment_is_built
returns-then-not-fragment_is_built c =
    let P = λ (e : Entry). FragmentIsBuilt c.args.schema.now e.0 e.1.value.value in
    let x : Entry = (c.in-Some.name.now, c.in-Some.fragment.now) in
    let next : c.loop-name.name-iterator ≡ x ∷ c.next.new.self = c.in-Some.ensures.steps in
    let stands : Contains c.args.fragments.now.entries x =
    stands_next _ c.loop-name.invariant.done c.loop-name.name-iterator c.next.new.self x c.loop-name.invariant.all next in
    one_fails P c.args.fragments.now.entries x c.fragment_is_built.result stands c.fragment_is_built.ensures (search rules)

pub returns : goal.returns
returns c =
    let P = λ (e : Entry). FragmentIsBuilt c.args.schema.now e.0 e.1.value.value in
    let done : c.args.fragments.now.entries ≡ c.loop-name.invariant.done =
    c.loop-name.invariant.all ∙ ap (λ l. c.loop-name.invariant.done ++ l) c.in-None.ensures.steps.0 ∙ append-nil c.loop-name.invariant.done in
    (λ e. subst (All P) (sym done) c.loop-name.invariant.built, λ all. refl)
