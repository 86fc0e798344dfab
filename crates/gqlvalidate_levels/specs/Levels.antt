-- The levels of rules, and when a run fails.
use Rattle.std.specs.Prelude.{ℕ, ◌<◌, ◌⊎◌, ◌||◌, Bool, true, false, not, List, Option, None, Some, IsSomeAnd, codes, filter, find, option_map, unwrap_or, if◌then◌else◌}
use Rattle.std.specs.Str.{bytes_eq}
use Rattle.gqlvalidate_levels.specs.declared.levels.Level.{Level}
use Rattle.gqlvalidate_levels.specs.declared.levels.Level.TheVariants.{Off, Warning, Error}
use Rattle.gqlvalidate_levels.specs.declared.levels.Levels.{Levels}
use Rattle.gqlvalidate_levels.specs.declared.levels.RuleLevel.{RuleLevel}

-- reports are not shown
abbrev pub is_off : Level → Bool
is_off Off = true
is_off Warning = false
is_off Error = false

abbrev pub is_error : Level → Bool
is_error Off = false
is_error Warning = false
is_error Error = true

-- the name of a rule, or of a level
abbrev pub Text : Type 0
Text = List ℕ

abbrev pub level_named : Text → Option Level
level_named name =
    if bytes_eq name (codes "off") then Some Off
    else if bytes_eq name (codes "warning") then Some Warning
    else if bytes_eq name (codes "error") then Some Error
    else None

-- rules whose reports are warnings, unless a user says otherwise
abbrev pub is_mild : Text → Bool
is_mild rule = bytes_eq rule (codes "DeprecatedUsage") || bytes_eq rule (codes "UnusedIgnore")

-- the level of a rule to which no user gives one
abbrev pub usual_level : Text → Level
usual_level rule = if is_mild rule then Warning else Error

-- rules on which no other check depends
abbrev pub may_be_off : Text → Bool
may_be_off rule =
    bytes_eq rule (codes "UnusedVariable") || bytes_eq rule (codes "UnusedFragment") || bytes_eq rule (codes "DeprecatedUsage") || bytes_eq rule (codes "UnusedIgnore")

-- the level that a user gives to a rule: the latest one
abbrev pub given_level : Levels → Text → Option Level
given_level levels rule = option_map (λ given. given.level) (find (λ given. bytes_eq given.rule.now rule) levels.given.items)

-- what a user gives to other rules than this one
abbrev pub others_than : Text → List RuleLevel → List RuleLevel
others_than rule given = filter (λ g. not (bytes_eq g.rule.now rule)) given

-- the level of a rule
abbrev pub level_of : Levels → Text → Level
level_of levels rule = unwrap_or (given_level levels rule) (usual_level rule)

-- reports of a rule are shown
abbrev pub shows : Levels → Text → Bool
shows levels rule = not (is_off (level_of levels rule))

-- a run with so many errors and warnings fails: there is an error, or there are more warnings than may be
abbrev pub Fails : ℕ → ℕ → Option ℕ → Type 0
Fails errors warnings max_warnings = (0 < errors) ⊎ IsSomeAnd max_warnings (λ most. most < warnings)
