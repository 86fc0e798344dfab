use Rattle.std.proofs.Common.{◌≡◌, ◌++◌, List, take}
use Rattle.json.specs.Token.{Token}
use Rattle.graphql_change_formats.specs.ChangeJson.{AreChanges}
use Rattle.graphql_change_formats.proofs.json_format.add_each.Given as goal

abbrev pub invariant-loop-shown : goal.invariant-loop-shown
invariant-loop-shown l = record {
  before : l.json.before ≡ l.fn.json.before;
  appended : (more : List Token) × AreChanges l.texts (take l.shown-index l.changes) more × (l.json.tokens ≡ l.fn.json.tokens ++ more);
}
