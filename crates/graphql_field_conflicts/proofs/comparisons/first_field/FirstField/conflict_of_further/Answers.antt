use Rattle.std.proofs.Common.{◌≡◌, ◌↔◌, ◌+◌, ◌++◌, List, None, ap, arith, drop, inl, inr, length, refl, rules, subst, sym, take, ◌∙◌}
use Rattle.std.specs.Prelude.{IsNone, IsTrue, MatchOption}
use Rattle.std.proofs.Math.Seq.{take-append_seam}
use Rattle.std.proofs.lemmas.List.{length-append, take-append-drop, take_all}
use Rattle.graphql_documents.specs.Directives.{argument_named}
use Rattle.graphql_documents.specs.declared.documents.directives.Argument.{Argument}
use Rattle.graphql_documents.specs.declared.documents.executables.Field.{Field}
use Rattle.graphql_nodes.specs.declared.nodes.Node.{Node}
use Rattle.graphql_field_conflicts.proofs.ArgumentComparisonLemmas.{more_among, reachable_at}
use Rattle.graphql_name_tables.proofs.PlaceLemmas.{is_nothing, is_something}
use Rattle.graphql_field_conflicts.specs.Comparisons.{ArgumentConflicts, ArgumentsConflict, HasArgument, StandAmong}
use Rattle.graphql_field_conflicts.specs.FirstFields.{arguments_of}
use Rattle.graphql_field_conflicts.specs.declared.field_selections.FieldSelection.{FieldSelection}
use Rattle.graphql_field_conflicts.proofs.comparisons.first_field.FirstField.conflict_of_further.Goals as goal
use Rattle.graphql_field_conflicts.proofs.comparisons.first_field.FirstField.conflict_of_further.Goals.{else-branch-via-else-branch, else-branch-via-then-branch+in_ok-conflict+in-None-1}

pub loop-i-init : goal.loop-i-init
loop-i-init c =
    let seen = c.args.self.now.seen in
    let further = c.requires.read.further in
    let given = c.as_slice-arguments.result.now in
    let n : c.len-i.result ≡ length seen = c.len-i.ensures in
    let split : given ≡ seen ++ further =
    c.as_slice-arguments.ensures.value ∙ ap (λ (f : Field). f.arguments.items) c.deref.ensures ∙ c.requires.read.begins in
    let count : length given ≡ length seen + length further = ap length split ∙ length-append seen further in
    let start : seen ≡ take c.len-i.result given =
    sym (take-append_seam seen further) ∙ ap (take (length seen)) (sym split) ∙ ap (λ k. take k given) (sym n) in
    record {
      within = omega arith;
      seen = start;
      distinct = c.requires.read.distinct;
      agree = subst (λ (l : List (Node Argument)). StandAmong l c.args.others.now) start c.requires.agree;
      selection = refl;
    }

pub returns-in-loop-i-clause-conflict : goal.returns-in-loop-i-clause-conflict
returns-in-loop-i-clause-conflict c =
    let others = c.args.others.now in
    let given = c.as_slice-arguments.result.now in
    let given_is : given ≡ arguments_of c.args.self.now = c.as_slice-arguments.ensures.value ∙ ap (λ (f : Field). f.arguments.items) c.deref.ensures in
    let i = c.loop-i.i in
    let x = c.index-arguments-i.result in
    let first = subst (λ (l : List (Node Argument)). IsTrue c.in_ok-read.field-0 ↔ IsNone (argument_named x.value.value.name l)) c.loop-i.invariant.seen c.in_ok-read.ensures.first in
    subst (λ (l : List (Node Argument)). ArgumentsConflict l others c.in-Some.conflict) given_is (record {
      argument = x;
      reachable = reachable_at given i x others c.loop-i-test.true c.index-arguments-i.is c.loop-i.invariant.agree
          (is_nothing (argument_named x.value.value.name (take i given)) (first.0 c.if-branch.true));
      conflicts = subst (λ o. MatchOption o (HasArgument others x.value.value.name x) (ArgumentConflicts others x)) c.in-Some.is c.in_ok-conflict.ensures;
    })

pub returns-in-loop-i-clause-read : goal.returns-in-loop-i-clause-read
returns-in-loop-i-clause-read c =
    let given = c.as_slice-arguments.result.now in
    let given_is : given ≡ arguments_of c.args.self.now = c.as_slice-arguments.ensures.value ∙ ap (λ (f : Field). f.arguments.items) c.deref.ensures in
    let next = c.loop-i.i + 1 in
    record {
      further = drop next given;
      begins = ap (λ (s : FieldSelection). s.field.now.value.value.arguments.items) (c.read.ensures.selection ∙ c.loop-i.invariant.selection) ∙ sym given_is ∙
          sym (take-append-drop next given) ∙ ap (λ l. l ++ drop next given) (sym c.in_ok-read.ensures.seen);
      distinct = c.in_ok-read.ensures.distinct;
    }

pub loop-i-preserved : goal.loop-i-preserved
loop-i-preserved c =
    let others = c.args.others.now in
    let given = c.as_slice-arguments.result.now in
    let i = c.loop-i.i in
    let x = c.index-arguments-i.result in
    let first = subst (λ (l : List (Node Argument)). IsTrue c.in_ok-read.field-0 ↔ IsNone (argument_named x.value.value.name l)) c.loop-i.invariant.seen c.in_ok-read.ensures.first in
    record {
      within = omega (arith, c.loop-i-test.true);
      seen = c.in_ok-read.ensures.seen;
      distinct = c.in_ok-read.ensures.distinct;
      agree = more_among given i x others c.loop-i-test.true c.index-arguments-i.is c.loop-i.invariant.agree
          (elim c.else-branch.branch [
            | else-branch-via-else-branch w ↦
                inl (is_something (argument_named x.value.value.name (take i given)) (λ none. let is = first.1 none in let no : ⊥ = cc in no))
            | else-branch-via-then-branch+in_ok-conflict+in-None-1 w ↦
                let none : w.in_ok-conflict.field-0 ≡ None = search rules in
                inr (subst (λ o. MatchOption o (HasArgument others x.value.value.name x) (ArgumentConflicts others x)) none w.in_ok-conflict.ensures)
          ]);
      selection = c.read.ensures.selection ∙ c.loop-i.invariant.selection;
    }

pub returns-clause-conflict : goal.returns-clause-conflict
returns-clause-conflict c =
    let given = c.as_slice-arguments.result.now in
    let given_is : given ≡ arguments_of c.args.self.now = c.as_slice-arguments.ensures.value ∙ ap (λ (f : Field). f.arguments.items) c.deref.ensures in
    let whole = take_all c.loop-i.i given c.loop-i-test.false ∙ given_is in
    (subst (λ (l : List (Node Argument)). StandAmong l c.args.others.now) whole c.loop-i.invariant.agree, c.loop-i.invariant.seen ∙ whole)
