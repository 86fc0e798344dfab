use Rattle.std.proofs.Common.{◌≡◌, [], sym, subst, arith}
use Rattle.std.proofs.lemmas.Bool.Decides.{nat_tests}
use Rattle.std.specs.Option.{option_copied}
use Rattle.std.proofs.lemmas.List.{nil_from_length}
use Rattle.std.proofs.lemmas.List.Elements.{All-nil}
use Rattle.graphql_specification.specs.Directives.{ApplicationsHold}
use Rattle.graphql_diagnostics.proofs.ReportLemmas.{holds}
use Rattle.graphql_values.proofs.directive.check_each_directive.Goals as goal

pub returns-then-is_empty : goal.returns-then-is_empty
returns-then-is_empty c =
    let none : c.args.directives.now ≡ [] = nil_from_length c.args.directives.now (grind (arith, nat_tests, c.if-is_empty.ensures)) in
    holds _ _ _ (subst (ApplicationsHold (option_copied c.args.schema) c.args.variables.now c.args.location) (sym none)
    (record { each = All-nil _; repetitions = λ i j d lt h. absurd (let nothing : ⊥ = omega arith in nothing) }))
