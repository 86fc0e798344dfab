use Rattle.std.proofs.Common.{All, subst, sym}
use Rattle.graphql_input_comparison.specs.Inputs.{KeepsArgument, WasRequired}
use Rattle.graphql_input_comparison.specs.Owners.{HasArguments}
use Rattle.graphql_change_kinds.proofs.FindsLemmas.{found_both, found_words}
use Rattle.graphql_input_comparison.proofs.arguments.compare_arguments.Goals as goal

pub returns : goal.returns
returns c =
    found_words (λ merging h given. record {
      kept = subst (λ l. All (KeepsArgument l) c.args.old.now) c.in_ok-new_by_name.ensures (h.0 given);
      required = subst (λ l. All (WasRequired l) c.args.new.now) c.in_ok-old_by_name.ensures (h.1 given (subst (λ l. All (KeepsArgument c.in_ok-new_by_name.new_by_name) l) (sym c.in_ok-old_by_name.ensures) (h.0 given)));
    })
    (found_both c.in_ok-compare_old_arguments.ensures c.in_ok-compare_new_arguments.ensures)

pub compare_old_arguments-requires-clause-is : goal.compare_old_arguments-requires-clause-is
compare_old_arguments-requires-clause-is c =
    subst (λ l. HasArguments c.args.pair.new.now c.args.owner l) (sym c.in_ok-new_by_name.ensures) c.requires.is

pub compare_new_arguments-requires-clause-was : goal.compare_new_arguments-requires-clause-was
compare_new_arguments-requires-clause-was c =
    subst (λ l. HasArguments c.args.pair.old.now c.args.owner l) (sym c.in_ok-old_by_name.ensures) c.requires.was
