use Rattle.std.proofs.Common.{◌≡◌, List, None, Some, find, rules, sym, subst, ◌∙◌}
use Rattle.std.specs.Prelude.{MatchOption}
use Rattle.graphql_specification.specs.Merging.{SameNameAndArguments}
use Rattle.graphql_nodes.specs.Names.{SameName}
use Rattle.graphql_documents.specs.declared.documents.directives.Argument.{Argument}
use Rattle.graphql_documents.specs.declared.documents.executables.Field.{Field}
use Rattle.graphql_nodes.specs.declared.nodes.Node.{Node}
use Rattle.graphql_field_conflicts.specs.Comparisons.{ArgumentsConflict, Conflicts, StandAmong}
use Rattle.graphql_field_conflicts.specs.FirstFields.{arguments_of}
use Rattle.graphql_field_conflicts.specs.declared.comparisons.arguments.FieldConflict.TheVariants.{SecondAlone}
use Rattle.graphql_field_conflicts.proofs.ArgumentComparisonLemmas.{lacks, missing_reachable, same_arguments}
use Rattle.graphql_field_conflicts.proofs.comparisons.first_field.FirstField.find_conflict.Goals as goal

pub returns-in-Some-missing_argument-clause-conflict : goal.returns-in-Some-missing_argument-clause-conflict
returns-in-Some-missing_argument-clause-conflict c =
    let first = c.deref.result.now in
    let second = c.deref-second.result.now in
    let same : SameName first.name second.name = search rules in
    let given = arguments_of c.args.self.now in
    let others = c.in_ok-others.others in
    let agree = subst (λ o. MatchOption o (StandAmong given others × (c.conflict_of_arguments.new.self.seen ≡ given)) (ArgumentsConflict given others)) c.in-None.is c.in_ok-conflict.ensures.conflict in
    let stand = subst (λ (l : List (Node Argument)). StandAmong given l) (c.in_ok-others.ensures ∙ c.deref-2.ensures.value) agree.0 in
    let y = c.in-Some-missing_argument.argument in
    let found : find (lacks given) second.arguments.items ≡ Some y.now =
    subst (λ (l : List (Node Argument)). find (lacks given) l ≡ Some y.now) c.deref-in-None.ensures.value
    (subst (λ (l : List (Node Argument)). find (lacks l) c.deref-in-None.result.now ≡ Some y.now) agree.1 (sym c.in-Some-missing_argument.ensures)) in
    let missing = missing_reachable second.arguments.items given y.now found in
    subst (λ (f : Field). Conflicts c.args.self.now.selection.field.now.value.value f (SecondAlone y)) c.deref-second.ensures
    (subst (λ (f : Field). SameName f.name second.name) c.deref.ensures same, stand, missing.0, missing.1)

pub returns-clause-conflict : goal.returns-clause-conflict
returns-clause-conflict c =
    let first = c.deref.result.now in
    let second = c.deref-second.result.now in
    let same : SameName first.name second.name = search rules in
    let given = arguments_of c.args.self.now in
    let others = c.in_ok-others.others in
    let agree = subst (λ o. MatchOption o (StandAmong given others × (c.conflict_of_arguments.new.self.seen ≡ given)) (ArgumentsConflict given others)) c.in-None.is c.in_ok-conflict.ensures.conflict in
    let stand = subst (λ (l : List (Node Argument)). StandAmong given l) (c.in_ok-others.ensures ∙ c.deref-2.ensures.value) agree.0 in
    let none : find (lacks given) second.arguments.items ≡ None =
    subst (λ (l : List (Node Argument)). find (lacks given) l ≡ None) c.deref-in-None.ensures.value
    (subst (λ (l : List (Node Argument)). find (lacks l) c.deref-in-None.result.now ≡ None) agree.1 (sym c.in-None-missing_argument.ensures)) in
    subst (λ (f : Field). SameNameAndArguments c.args.self.now.selection.field.now.value.value f) c.deref-second.ensures (record {
      name = subst (λ (f : Field). SameName f.name second.name) c.deref.ensures same;
      arguments = same_arguments given second.arguments.items stand none;
    })
