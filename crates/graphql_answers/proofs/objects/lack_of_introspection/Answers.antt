use Rattle.std.proofs.Common.{◌∙◌, ◌++◌, ap, refl}
use Rattle.graphql_answers.specs.Answers.{error_of_lack}
use Rattle.graphql_answers.proofs.AnswerLemmas.{printed}
use Rattle.graphql_answers.proofs.objects.lack_of_introspection.Goals as goal

pub returns-clause-found : goal.returns-clause-found
returns-clause-found c =
    let json = c.add_lack.new.json in
    let added = c.in_ok-add_lack.ensures.added in
    record {
      found_is = c.answer.ensures.found;
      object = error_of_lack;
      is_object = refl;
      json_is = printed json.before c.answer.result.json.items json.tokens error_of_lack c.answer.ensures.json
          (added.before ∙ c.new-json.ensures.before ∙ c.new.ensures.items)
          (added.appended ∙ ap (λ l. l ++ error_of_lack) c.new-json.ensures.tokens);
    }
