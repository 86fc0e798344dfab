use Rattle.std.proofs.Common.{◌≡◌}
use Rattle.graphql_answers.specs.Batches.{AppendsChecked}
use Rattle.graphql_answers.proofs.batches.add_each.Given as goal

abbrev pub invariant-loop-k : goal.invariant-loop-k
invariant-loop-k l = record {
  before : l.json.before ≡ l.fn.json.before;
  checks : AppendsChecked l.schema l.fn.documents.bytes.now l.fn.documents.ends.now l.k l.is_reported l.fn.json l.json;
}
