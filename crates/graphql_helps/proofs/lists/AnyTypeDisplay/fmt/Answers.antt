use Rattle.std.proofs.Common.{◌≡◌, ◌+◌, List, ℕ, [], ◌++◌, codes, flat_map, take, rules}
use Rattle.std.proofs.Output.{has_written_append, has_written_of_eq}
use Rattle.std.proofs.lemmas.List.{flat_map_more, take_more}
use Rattle.graphql_nodes.specs.Names.{NameText}
use Rattle.graphql_helps.specs.HelpWords.{on_type}
use Rattle.graphql_helps.proofs.lists.AnyTypeDisplay.fmt.Goals as goal

pub loop-other-preserved : goal.loop-other-preserved
loop-other-preserved g c = λ plain.
    let others = c.in-Some.others.now in
    let i = c.loop-other.other-index in
    let other = c.other-item.result in
    let F : NameText → List ℕ = λ other. codes " or " ++ on_type c.args.self.now.field.now other in
    let same : flat_map F (take i others) ++ F other ≡ flat_map F (take (i + 1) others) =
    rw (take_more others i other c.loop-other-test.true, ← c.other-item.is) (flat_map_more F [] (take i others) other) in
    has_written_of_eq _ _ _ _ _ same (has_written_append _ _ _ _ _ _ (c.loop-other.invariant plain) (search rules))
