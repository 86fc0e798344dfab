use Rattle.std.proofs.Common.{◌≡◌, ◌∷◌, [], rules, subst, sym}
use Rattle.std.proofs.lemmas.List.Elements.{All-cons, All-nil}
use Rattle.graphql_merging.specs.NumberedFields.{AreGroupsNumbered, AreNumberedIn, IsNumberedIn}
use Rattle.graphql_merging.proofs.NumberedGroupLemmas.{IsGroupNumbered}
use Rattle.graphql_merging.proofs.groups.groups_of_one.Goals as goal

pub returns-in_ok-vec-in-Shapes-clause-numbered : goal.returns-in_ok-vec-in-Shapes-clause-numbered
returns-in_ok-vec-in-Shapes-clause-numbered c contents own =
    let group = c.in_ok-group.group in
    let groups : c.in_ok-vec-in-Shapes.field-0.items ≡ group ∷ [] = search rules in
    let fields : group.items ≡ c.args.field ∷ [] = search rules in
    subst (AreGroupsNumbered contents) (sym groups)
    (All-cons (IsGroupNumbered contents) group []
    (subst (AreNumberedIn contents) (sym fields) (All-cons (IsNumberedIn contents) c.args.field [] own (All-nil (IsNumberedIn contents)))) (All-nil (IsGroupNumbered contents)))
