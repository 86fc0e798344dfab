-- The levels that a configuration gives to rules.
use Rattle.std.specs.Prelude.{◌≡◌, Some, IsSomeAnd, IsTrue, string_bytes}
use Rattle.gqlvalidate_levels.specs.Levels.{level_named, may_be_off}
use Rattle.gqlvalidate_levels.specs.declared.levels.Level.TheVariants.{Off}
use Rattle.gqlvalidate_levels.specs.declared.levels.RuleLevel.{RuleLevel}
use Rattle.gqlvalidate_settings.specs.Settings.{Member, as_text}

-- a member gives this level to this rule: its key is the name of the rule, and its value that of the level
pub record GivesLevel (member : Member) (given : RuleLevel) : Type 0 where
  pub rule_is : given.rule.now ≡ string_bytes member.0
  pub level_is : IsSomeAnd (as_text member.1) (λ name. level_named name ≡ Some given.level)
  pub may_be : given.level ≡ Off → IsTrue (may_be_off (string_bytes member.0))
