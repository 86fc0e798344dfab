use Rattle.std.proofs.Common.{◌≡◌}
use Rattle.std.specs.Prelude.{Result, Ok, Err, OnErr}
use Rattle.std.specs.declared.alloc.AllocError.{AllocError}
use Rattle.graphql_nodes.specs.Names.{NameText}
use Rattle.graphql_value_numbers.specs.NamedNumbers.{number_under}
use Rattle.graphql_value_numbers.proofs.NamedNumberLemmas.{under_after, under_unchanged}
use Rattle.graphql_value_numbers.proofs.named_numbers.NamedNumbers.insert.Goals as goal

pub returns-in_err-insert-clause-unchanged : goal.returns-in_err-insert-clause-unchanged
returns-in_err-insert-clause-unchanged c =
    by c.from_residual.result where
      by : (r : Result (Unit {0}) AllocError) → OnErr r ((name : NameText) → number_under (record { numbers = c.insert.new.self }) name ≡ number_under c.args.self.now name)
      by (Ok x) = tt
      by (Err e) = under_unchanged c.args.self.now (record { numbers = c.insert.new.self }) c.in_err-insert.ensures.err

pub returns-clause-inserted : goal.returns-clause-inserted
returns-clause-inserted c =
    under_after c.args.self.now (record { numbers = c.insert.new.self }) c.as_str.result c.args.name.now c.args.number c.as_str.ensures.text c.in_ok-insert.ensures.updates
