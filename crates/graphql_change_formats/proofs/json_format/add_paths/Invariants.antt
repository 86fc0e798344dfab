use Rattle.std.proofs.Common.{◌≡◌, ◌++◌, take}
use Rattle.graphql_change_formats.specs.ChangeJson.{path_strings}
use Rattle.graphql_change_formats.proofs.json_format.add_paths.Given as goal

abbrev pub invariant-loop-path : goal.invariant-loop-path
invariant-loop-path l = record {
  before : l.json.before ≡ l.fn.json.before;
  appended : l.json.tokens ≡ l.fn.json.tokens ++ path_strings (take l.path-index l.paths);
}
