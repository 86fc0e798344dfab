use Rattle.std.proofs.Common.{map, string_bytes, take}
use Rattle.std.specs.List.{AllZip}
use Rattle.gqlvalidate_settings.specs.Configurations.{IsNamedProject}
use Rattle.gqlvalidate_settings.proofs.configurations.each_project.Given as goal

abbrev pub invariant-loop-member : goal.invariant-loop-member
invariant-loop-member l = AllZip (IsNamedProject l.folder (map string_bytes l.shared)) (take l.member-index l.named) l.projects.items
