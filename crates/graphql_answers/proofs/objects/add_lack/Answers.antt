use Rattle.std.proofs.Common.{◌≡◌, ◌∙◌, ◌++◌, List, ap, append_assoc}
use Rattle.json.specs.Token.{Token}
use Rattle.graphql_answers.proofs.objects.add_lack.Goals as goal

-- behind some tokens are those of three calls
joined : (t u v w a b d : List Token) → u ≡ t ++ a → v ≡ u ++ b → w ≡ v ++ d → w ≡ t ++ (a ++ (b ++ d))
joined t u v w a b d first second third =
    third ∙ ap (λ l. l ++ d) (second ∙ ap (λ l. l ++ b) first) ∙ append_assoc (t ++ a) b d ∙ append_assoc t a (b ++ d)

pub returns-clause-added : goal.returns-clause-added
returns-clause-added c = record {
  before = c.in_ok-end.ensures.before ∙ (c.in_ok-add_error.ensures.before ∙ c.in_ok-begin.ensures.before);
  appended = joined _ _ _ _ _ _ _ c.in_ok-begin.ensures.appended c.in_ok-add_error.ensures.appended c.in_ok-end.ensures.appended;
}
