use Rattle.std.proofs.Common.{◌≡◌, Ok, rules}
use Rattle.graphql_frontend.specs.declared.verdicts.Verdict.TheVariants.{Valid}
use Rattle.graphql_uses.proofs.is_valid.Goals as goal
use Rattle.graphql_uses.proofs.is_valid.Goals.{in-Valid, in_default}

pub returns : goal.returns
returns c = λ e. elim c.match-branch-2.branch [
  | in-Valid w ↦
      let same : c.validate_texts.result ≡ Ok Valid = search rules in
      c.validate_texts.ensures.valid same
  | in_default w ↦ absurd (let no : ⊥ = search rules in no)
]
