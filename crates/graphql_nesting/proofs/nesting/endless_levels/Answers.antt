use Rattle.std.proofs.Common.{◌≡◌, ◌+◌, ◌++◌, ◌∷◌, [], List, None, Some, ap, arith, map, subst, sym, take, ◌∙◌}
use Rattle.std.proofs.lemmas.List.Elements.{All-nil}
use Rattle.std.proofs.lemmas.List.{map-append, take_all}
use Rattle.graphql_nodes.specs.declared.nodes.Node.{Node}
use Rattle.graphql_documents.specs.Selections.{fragments_of}
use Rattle.graphql_documents.specs.declared.documents.executables.Fragment.{Fragment}
use Rattle.graphql_documents.proofs.ListLemmas.{more_is}
use Rattle.graphql_nesting.specs.Checks.{EndlessFound}
use Rattle.graphql_nesting.specs.Nesting.{no_more, HasSomeLevels}
use Rattle.graphql_nesting.specs.Spreads.{known_at}
use Rattle.graphql_nesting.specs.declared.fragments.FragmentNesting.{FragmentNesting}
use Rattle.graphql_nesting.specs.declared.nesting.EndlessLevels.{EndlessLevels}
use Rattle.graphql_nesting.proofs.CheckLemmas.{endless_at, known_levels_at, none_is, read_by, some_is, with_endless, with_other}
use Rattle.graphql_nesting.proofs.SearchLemmas.{listed_at, written_in}
use Rattle.graphql_nesting.proofs.nesting.endless_levels.Goals as goal
use Rattle.graphql_nesting.proofs.nesting.endless_levels.Goals.{then-is_none+in_ok-endless, else-is_none}

abbrev node_of : FragmentNesting → Node Fragment
node_of x = x.fragment.now

pub loop-number-init : goal.loop-number-init
loop-number-init c = λ document settled. record { together = no_more; none = λ zero. All-nil (HasSomeLevels (fragments_of document)); first = λ some. absurd (omega arith) }

pub loop-number-preserved : goal.loop-number-preserved
loop-number-preserved c = λ document settled.
    let x = c.nesting-item.result in
    let number = c.loop-number.number in
    let found = c.args.fragments.now in
    let items = c.deref-nesting-items.result.now in
    let F = fragments_of document in
    let d = x.fragment.now in
    let ds = map node_of (take number items) in
    let at = read_by found.fragments.items items number x c.deref-nesting-items.ensures.value c.loop-number-test.true c.nesting-item.is in
    let place = listed_at document found.fragments.items settled.listed number x at in
    let before = c.loop-number.invariant document settled in
    let more : map node_of (take (number + 1) items) ≡ ds ++ d ∷ [] =
    ap (map node_of) (more_is items number x c.loop-number-test.true c.nesting-item.is) ∙ map-append node_of (take number items) (x ∷ []) in
    subst (λ l. EndlessFound F l c.if-is_none.endless.levels c.if-is_none.endless.location) (sym more)
    (elim c.if-is_none.branch [
      | then-is_none+in_ok-endless w ↦
          let none : known_at found.known.items number ≡ None = sym c.levels_at.ensures ∙ none_is c.levels_at.result c.is_none.result c.is_none.ensures w.if-is_none.true in
          subst (λ (e : EndlessLevels). EndlessFound F (ds ++ d ∷ []) e.levels e.location) (sym w.endless-is)
          (with_endless F ds d c.loop-number.endless.levels x.written.levels w.in_ok-endless.endless.levels c.loop-number.endless.location w.in_ok-endless.endless.location
          (endless_at document found settled number d none place) (written_in document found.fragments.items settled.listed number x at).levels
          w.in_ok-endless.ensures.levels w.in_ok-endless.ensures.first w.in_ok-endless.ensures.later before)
      | else-is_none w ↦
          let (n, is) = some_is c.levels_at.result c.is_none.result c.is_none.ensures w.if-is_none.false in
          let known : known_at found.known.items number ≡ Some n = sym c.levels_at.ensures ∙ is in
          subst (λ (e : EndlessLevels). EndlessFound F (ds ++ d ∷ []) e.levels e.location) (sym w.endless-is)
          (with_other F ds d c.loop-number.endless.levels n c.loop-number.endless.location (known_levels_at document found settled number n d known place) before)
    ])

pub returns : goal.returns
returns c = λ document settled.
    let items = c.deref-nesting-items.result.now in
    let all = take_all c.loop-number.number items c.loop-number-test.false ∙ c.deref-nesting-items.ensures.value in
    subst (λ l. EndlessFound (fragments_of document) l c.loop-number.endless.levels c.loop-number.endless.location) settled.listed.all
    (subst (λ (l : List FragmentNesting). EndlessFound (fragments_of document) (map node_of l) c.loop-number.endless.levels c.loop-number.endless.location) all (c.loop-number.invariant document settled))
