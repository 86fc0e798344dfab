use Rattle.std.proofs.Common.{map, sym, ◌∙◌}
use Rattle.std.proofs.lemmas.Option.{none-some}
use Rattle.std.specs.Prelude.{find}
use Rattle.graphql_nodes.specs.Names.{NameText, same_name}
use Rattle.graphql_diagnostics.proofs.ReportLemmas.{checks_words, holds}
use Rattle.graphql_variables.proofs.FirstPlaceLemmas.{first_found, none_mapped, place_of_first}
use Rattle.graphql_repetitions.specs.Repetitions.{met_name}
use Rattle.graphql_input_rules.proofs.values.check_name.Goals as goal

pub returns-in-Some-clause-checks : goal.returns-in-Some-clause-checks
returns-in-Some-clause-checks c = λ all before next r.
    let name = c.args.name.now in
    let place = sym (place_of_first met_name before name) ∙ sym (c.in_ok-original.ensures.found (map met_name before) r) ∙ c.in-Some.is in
    let first = first_found (λ (n : NameText). n.location) (find (λ n. same_name n name) before) c.in-Some.original place in
    checks_words c.report_repetition.result _ _ _ _ _ _ (λ no. absurd no, λ is_new. none-some first.0 (sym is_new ∙ first.1)) (λ e q. q)
    (c.report_repetition.ensures all before first.0 next first.1 first.2)

pub returns-in-None-clause-checks : goal.returns-in-None-clause-checks
returns-in-None-clause-checks c = λ all before next r.
    let name = c.args.name.now in
    let place = sym (place_of_first met_name before name) ∙ sym (c.in_ok-original.ensures.found (map met_name before) r) ∙ c.in-None.is in
    holds _ _ _ (none_mapped (λ (n : NameText). n.location) (find (λ n. same_name n name) before) place)
