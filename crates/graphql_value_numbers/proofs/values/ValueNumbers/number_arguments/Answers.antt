use Rattle.graphql_value_numbers.specs.Tables.{shapes_of}
use Rattle.graphql_value_numbers.proofs.NumberingLemmas.{arguments_numbered}
use Rattle.graphql_value_numbers.proofs.values.ValueNumbers.number_arguments.Goals as goal

pub returns-clause-number : goal.returns-clause-number
returns-clause-number c =
    arguments_numbered c.add.result (shapes_of c.number_named.new.self) (shapes_of c.add.new.self) c.add.ensures.grows c.args.arguments.now c.in_ok-numbers.numbers
    c.in_ok-numbers.ensures.numbers c.add.ensures.number
