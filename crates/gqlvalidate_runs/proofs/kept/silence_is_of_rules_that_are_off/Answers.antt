use Rattle.gqlvalidate_levels.specs.Levels.{shows}
use Rattle.gqlvalidate_runs.proofs.KeptLemmas.{each_passes, none_passes}
use Rattle.gqlvalidate_runs.proofs.kept.silence_is_of_rules_that_are_off.Goals as goal

pub returns-clause-silent : goal.returns-clause-silent
returns-clause-silent c = λ levels rules none. none_passes (shows levels) rules none

pub returns-clause-nothing_off : goal.returns-clause-nothing_off
returns-clause-nothing_off c = λ levels rules on. each_passes (shows levels) on rules
