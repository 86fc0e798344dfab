use Rattle.std.proofs.Common.{◌≡◌, List, None, Some, find, rules, sym, subst}
use Rattle.graphql_specification.specs.Merging.{SameNameAndArguments}
use Rattle.graphql_nodes.specs.Names.{SameName}
use Rattle.graphql_documents.specs.declared.documents.directives.Argument.{Argument}
use Rattle.graphql_documents.specs.declared.documents.executables.Field.{Field}
use Rattle.graphql_nodes.specs.declared.nodes.Node.{Node}
use Rattle.graphql_field_conflicts.specs.Comparisons.{Conflicts, StandAmong}
use Rattle.graphql_field_conflicts.specs.declared.comparisons.arguments.FieldConflict.TheVariants.{SecondAlone}
use Rattle.graphql_field_conflicts.proofs.ArgumentComparisonLemmas.{lacks, missing_reachable, same_arguments}
use Rattle.graphql_field_conflicts.proofs.comparisons.arguments.same_name_and_arguments.Goals as goal

pub returns-in-Some-missing_argument : goal.returns-in-Some-missing_argument
returns-in-Some-missing_argument c =
    let first = c.deref-first.result.now in
    let second = c.deref-second.result.now in
    let same : SameName first.name second.name = search rules in
    let stand : StandAmong first.arguments.items second.arguments.items =
    subst (λ (l : List (Node Argument)). StandAmong l second.arguments.items) c.deref.ensures.value
    (subst (λ (l : List (Node Argument)). StandAmong c.deref.result.now l) c.deref-2.ensures.value c.in-None.ensures) in
    let y = c.in-Some-missing_argument.argument in
    let found : find (lacks first.arguments.items) second.arguments.items ≡ Some y.now =
    subst (λ (l : List (Node Argument)). find (lacks first.arguments.items) l ≡ Some y.now) c.deref-in-None.ensures.value
    (subst (λ (l : List (Node Argument)). find (lacks l) c.deref-in-None.result.now ≡ Some y.now) c.deref-in-None-2.ensures.value (sym c.in-Some-missing_argument.ensures)) in
    let missing = missing_reachable second.arguments.items first.arguments.items y.now found in
    subst (λ (f : Field). Conflicts f c.args.b.field.now.value.value (SecondAlone y)) c.deref-first.ensures
    (subst (λ (f : Field). Conflicts first f (SecondAlone y)) c.deref-second.ensures (same, stand, missing.0, missing.1))

pub returns-in-None-missing_argument : goal.returns-in-None-missing_argument
returns-in-None-missing_argument c =
    let first = c.deref-first.result.now in
    let second = c.deref-second.result.now in
    let same : SameName first.name second.name = search rules in
    let stand : StandAmong first.arguments.items second.arguments.items =
    subst (λ (l : List (Node Argument)). StandAmong l second.arguments.items) c.deref.ensures.value
    (subst (λ (l : List (Node Argument)). StandAmong c.deref.result.now l) c.deref-2.ensures.value c.in-None.ensures) in
    let none : find (lacks first.arguments.items) second.arguments.items ≡ None =
    subst (λ (l : List (Node Argument)). find (lacks first.arguments.items) l ≡ None) c.deref-in-None.ensures.value
    (subst (λ (l : List (Node Argument)). find (lacks l) c.deref-in-None.result.now ≡ None) c.deref-in-None-2.ensures.value (sym c.in-None-missing_argument.ensures)) in
    let agree : SameNameAndArguments first second = record { name = same; arguments = same_arguments first.arguments.items second.arguments.items stand none } in
    subst (λ (f : Field). SameNameAndArguments f c.args.b.field.now.value.value) c.deref-first.ensures
    (subst (λ (f : Field). SameNameAndArguments first f) c.deref-second.ensures agree)
