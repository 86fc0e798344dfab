use Rattle.std.proofs.Common.{◌++◌, codes, flat_map, take}
use Rattle.std.specs.Fmt.{HasWritten, IsPlainFormatter}
use Rattle.graphql_helps.specs.HelpWords.{quoted}
use Rattle.graphql_helps.proofs.lists.AnyNameDisplay.fmt.Given as goal

abbrev pub invariant-loop-other : goal.invariant-loop-other
invariant-loop-other g l = IsPlainFormatter l.initial.f →
    HasWritten g.W.Write.write_str_gives l.initial.f (flat_map (λ other. codes " or " ++ quoted other) (take l.other-index l.others)) l.f
