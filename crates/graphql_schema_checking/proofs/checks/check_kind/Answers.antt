use Rattle.std.proofs.Common.{IsFalse, IsTrue, rules}
use Rattle.graphql_diagnostics.proofs.ReportLemmas.{checks_words}
use Rattle.graphql_schema_checking.specs.Definitions.{is_built_in_name, kind_of, name_of, same_kind}
use Rattle.graphql_schema_checking.proofs.checks.check_kind.Goals as goal

pub returns-then-is_built_in : goal.returns-then-is_built_in
returns-then-is_built_in c = λ types all defined among.
    let built_in : IsTrue (is_built_in_name (name_of c.args.definition.now)) = search rules in
    checks_words c.report_built_in.result _ _ _ _ _ _ (λ no. absurd no, λ yes. let own = yes.0 in let no : ⊥ = cc in no) (λ e q. q)
    (c.report_built_in.ensures types all defined among)

pub returns-else-same_kind : goal.returns-else-same_kind
returns-else-same_kind c = λ types all defined among.
    let differ : IsFalse (same_kind (kind_of c.args.definition.now) (kind_of c.args.extension.now)) = search rules in
    checks_words c.report_mismatch.result _ _ _ _ _ _ (λ no. absurd no, λ yes. let same = yes.1 in let no : ⊥ = cc in no) (λ e q. q)
    (c.report_mismatch.ensures types all defined among)
