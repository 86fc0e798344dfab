use Rattle.std.proofs.Common.{◌≡◌, ◌<◌, ◌∷◌, [], All, ap, subst, sym, take, ◌∙◌, List}
use Rattle.std.specs.Prelude.{unwrap_or}
use Rattle.std.proofs.lemmas.List.{take_all}
use Rattle.std.proofs.lemmas.List.Elements.{All-append, All-map}
use Rattle.graphql_nodes.specs.declared.nodes.Node.{Node}
use Rattle.graphql_documents.specs.Selections.{fragments_of}
use Rattle.graphql_documents.specs.declared.documents.executables.Fragment.{Fragment}
use Rattle.graphql_documents.proofs.ListLemmas.{more_is}
use Rattle.graphql_nesting.specs.Nesting.{FragmentNests}
use Rattle.graphql_nesting.specs.Spreads.{known_at}
use Rattle.graphql_nesting.specs.declared.fragments.FragmentNesting.{FragmentNesting}
use Rattle.graphql_nesting.proofs.CheckLemmas.{definition_report, fragment_at, fragment_is_deep, fragment_nests, fragment_first, one_of_one, read_by}
use Rattle.graphql_nesting.proofs.nesting.check_fragments.Goals as goal

pub returns-in-Some : goal.returns-in-Some
returns-in-Some c = λ document settled.
    let x = c.nesting-item.result in
    let number = c.loop-number.number in
    let found = c.args.fragments.now in
    let at = read_by found.fragments.items c.deref-nesting-items.result.now number x c.deref-nesting-items.ensures.value c.loop-number-test.true c.nesting-item.is in
    let levels : c.unwrap_or-levels.result ≡ unwrap_or (known_at found.known.items number) 0 = c.unwrap_or-levels.ensures ∙ ap (λ o. unwrap_or o 0) c.levels_at.ensures in (
      x.fragment.now,
      fragment_first document found settled c.args.most number x at
          (subst (λ (l : List FragmentNesting). All (λ (x : FragmentNesting). FragmentNests (fragments_of document) c.args.most x.fragment.now) (take number l)) c.deref-nesting-items.ensures.value (c.loop-number.invariant document settled)),
      fragment_is_deep document c.args.most x.fragment.now (known_at found.known.items number) c.in-Some.report (fragment_at document found settled number x at)
          (subst (λ n. c.args.most < n) levels c.in-Some.ensures.0)
          (c.in-Some.ensures.1 ∙ ap (λ n. definition_report n c.args.most x.fragment.now.location) levels),
    )

pub loop-number-preserved : goal.loop-number-preserved
loop-number-preserved c = λ document settled.
    let x = c.nesting-item.result in
    let number = c.loop-number.number in
    let found = c.args.fragments.now in
    let items = c.deref-nesting-items.result.now in
    let P = λ (x : FragmentNesting). FragmentNests (fragments_of document) c.args.most x.fragment.now in
    let at = read_by found.fragments.items items number x c.deref-nesting-items.ensures.value c.loop-number-test.true c.nesting-item.is in
    let levels : c.unwrap_or-levels.result ≡ unwrap_or (known_at found.known.items number) 0 = c.unwrap_or-levels.ensures ∙ ap (λ o. unwrap_or o 0) c.levels_at.ensures in
    let here : P x =
    fragment_nests document c.args.most x.fragment.now (known_at found.known.items number) (fragment_at document found settled number x at)
    (subst (λ n. ¬ (c.args.most < n)) levels c.in_default.ensures) in
    subst (All P) (sym (more_is items number x c.loop-number-test.true c.nesting-item.is))
    (All-append P (take number items) (x ∷ []) (c.loop-number.invariant document settled) (one_of_one P x here))

pub returns : goal.returns
returns c = λ document settled.
    let found = c.args.fragments.now in
    let items = c.deref-nesting-items.result.now in
    let P = λ (d : Node Fragment). FragmentNests (fragments_of document) c.args.most d in
    let node_of = λ (x : FragmentNesting). x.fragment.now in
    let all = take_all c.loop-number.number items c.loop-number-test.false ∙ c.deref-nesting-items.ensures.value in
    subst (All P) settled.listed.all
    (All-map P node_of found.fragments.items (subst (All (λ (x : FragmentNesting). P (node_of x))) all (c.loop-number.invariant document settled)))
