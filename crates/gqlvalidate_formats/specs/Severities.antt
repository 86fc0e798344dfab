-- How grave reports are.
use Rattle.gqlvalidate_levels.specs.Levels.{Text, level_of}
use Rattle.gqlvalidate_levels.specs.declared.levels.Level.{Level}
use Rattle.gqlvalidate_levels.specs.declared.levels.Level.TheVariants as level
use Rattle.gqlvalidate_levels.specs.declared.levels.Levels.{Levels}
use Rattle.gqlvalidate_formats.specs.declared.severities.Severity.{Severity}
use Rattle.gqlvalidate_formats.specs.declared.severities.Severity.TheVariants as severity

-- the severity of reports that are shown at this level
abbrev pub severity_at : Level → Severity
severity_at level.Off = severity.Warning
severity_at level.Warning = severity.Warning
severity_at level.Error = severity.Error

-- the severity of the reports of a rule
abbrev pub severity_of : Levels → Text → Severity
severity_of levels rule = severity_at (level_of levels rule)
