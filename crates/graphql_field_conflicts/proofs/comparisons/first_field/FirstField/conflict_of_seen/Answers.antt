use Rattle.std.proofs.Common.{◌≡◌, ◌+◌, ◌∷◌, ◌++◌, [], List, None, All, Bor, ap, drop, map, rules, subst, sym, take, ◌∙◌}
use Rattle.std.specs.Prelude.{MatchOption}
use Rattle.std.proofs.lemmas.List.{map-append, take_all}
use Rattle.std.proofs.lemmas.List.Elements.{All-append, All-cons, All-nil}
use Rattle.graphql_documents.proofs.ListLemmas.{more_is}
use Rattle.graphql_documents.specs.declared.documents.directives.Argument.{Argument}
use Rattle.graphql_nodes.specs.declared.nodes.Node.{Node}
use Rattle.graphql_variables.proofs.SplitLemmas.{split_at}
use Rattle.graphql_field_conflicts.proofs.FirstFieldLemmas.{first_reachable, firsts_stand}
use Rattle.graphql_field_conflicts.specs.Comparisons.{ArgumentConflicts, HasArgument}
use Rattle.graphql_field_conflicts.specs.FirstFields.{arguments_of, firsts_behind}
use Rattle.graphql_field_conflicts.proofs.comparisons.first_field.FirstField.conflict_of_seen.Goals as goal

abbrev nows : List (Bor (Node Argument)) → List (Node Argument)
nows references = map (λ r. r.now) references

pub returns-in-Some : goal.returns-in-Some
returns-in-Some c =
    let others = c.args.others.now in
    let first = c.args.self.now in
    let items = first.distinct.items in
    let i = c.loop-argument.argument-index in
    let given = c.argument-item.result in
    let x = given.now in
    let split : items ≡ take i items ++ given ∷ drop (i + 1) items =
    subst (λ (l : List (Bor (Node Argument))). l ≡ take i l ++ given ∷ drop (i + 1) l) c.deref-argument-items.ensures.value
    (split_at c.deref-argument-items.result.now i given c.loop-argument-test.true c.argument-item.is) in
    let firsts : firsts_behind [] first.seen ≡ nows (take i items) ++ x ∷ nows (drop (i + 1) items) =
    sym c.requires.distinct ∙ ap nows split ∙ map-append (λ r. r.now) (take i items) (given ∷ drop (i + 1) items) in
    record {
      argument = x;
      reachable = first_reachable others (arguments_of first) first.seen c.requires.further (nows (take i items)) x (nows (drop (i + 1) items))
          c.requires.begins firsts c.loop-argument.invariant;
      conflicts = subst (λ o. MatchOption o (HasArgument others x.value.value.name x) (ArgumentConflicts others x)) c.in-Some.is c.in_ok-conflict.ensures;
    }

pub loop-argument-preserved : goal.loop-argument-preserved
loop-argument-preserved c =
    let others = c.args.others.now in
    let items = c.args.self.now.distinct.items in
    let i = c.loop-argument.argument-index in
    let given = c.argument-item.result in
    let x = given.now in
    let Has = λ (y : Node Argument). HasArgument others y.value.value.name y in
    let none : c.in_ok-conflict.field-0 ≡ None = search rules in
    let has = subst (λ o. MatchOption o (HasArgument others x.value.value.name x) (ArgumentConflicts others x)) none c.in_ok-conflict.ensures in
    let more : take (i + 1) items ≡ take i items ++ given ∷ [] =
    subst (λ (l : List (Bor (Node Argument))). take (i + 1) l ≡ take i l ++ given ∷ []) c.deref-argument-items.ensures.value
    (more_is c.deref-argument-items.result.now i given c.loop-argument-test.true c.argument-item.is) in
    subst (All Has) (sym (ap nows more ∙ map-append (λ r. r.now) (take i items) (given ∷ [])))
    (All-append Has (nows (take i items)) (x ∷ []) c.loop-argument.invariant (All-cons Has x [] has (All-nil Has)))

pub returns : goal.returns
returns c =
    let others = c.args.others.now in
    let i = c.loop-argument.argument-index in
    let whole = subst (λ (l : List (Bor (Node Argument))). take i l ≡ l) c.deref-argument-items.ensures.value
    (take_all i c.deref-argument-items.result.now c.loop-argument-test.false) in
    firsts_stand others c.args.self.now.seen
    (subst (All (λ (y : Node Argument). HasArgument others y.value.value.name y)) (ap nows whole ∙ c.requires.distinct) c.loop-argument.invariant)
