-- What is shown of reports, and what it means that nothing is.
use Rattle.std.specs.Prelude.{◌≡◌, Bool, true, false, List, All, filter}
use Rattle.gqlvalidate_levels.specs.Levels.{Text, shows}
use Rattle.gqlvalidate_levels.specs.declared.levels.Level.{Level}
use Rattle.gqlvalidate_levels.specs.declared.levels.Level.TheVariants.{Off, Warning, Error}
use Rattle.gqlvalidate_levels.specs.declared.levels.Levels.{Levels}

abbrev pub is_warning : Level → Bool
is_warning Off = false
is_warning Warning = true
is_warning Error = false

-- of reports, by the names of their rules, those that are shown
abbrev pub shown : Levels → List Text → List Text
shown levels reports = filter (shows levels) reports

-- documents with these reports, by the names of their rules, keep all rules that are not off: each report is of a rule that is off
abbrev pub HoldsBut : Levels → List Text → Type 0
HoldsBut levels reports = All (λ rule. shows levels rule ≡ false) reports
