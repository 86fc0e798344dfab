use Rattle.std.proofs.Common.{◌≡◌, ◌++◌, refl}
use Rattle.std.proofs.lemmas.Result.{on_ok_weaker}
use Rattle.graphql_change_formats.specs.ChangeJson.{change_object}
use Rattle.graphql_change_formats.proofs.json_format.add_change.Goals as goal

pub returns : goal.returns
returns c =
    let name = c.name.result.now in
    let message = c.as_str.result.now in
    let object = change_object c.args.texts.now c.args.shown.now name message in
    record {
      before = c.add_worded.ensures.before;
      appended = on_ok_weaker {P = c.add_worded.new.json.tokens ≡ c.args.json.now.tokens ++ object} c.add_worded.result
          (λ e. (object, (name, message, refl), e)) c.add_worded.ensures.appended;
    }
