use Rattle.std.proofs.Common.{◌∙◌, ap, refl, sym}
use Rattle.graphql_diagnostics.specs.declared.details.Details.TheVariants as details
use Rattle.graphql_documents.proofs.ListLemmas.{kept_by_filter}
use Rattle.graphql_diagnostics.proofs.ReportLemmas.{checks-push}
use Rattle.graphql_operations.proofs.OperationDeferLemmas.{not_false}
use Rattle.graphql_operations.specs.OperationDefers.{Meets, is_defer}
use Rattle.graphql_operations.proofs.defer.rules.DeferRule.check_directive.Goals as goal

pub returns : goal.returns
returns c = λ directives stands.
    let d = c.args.directive.now in
    let deferred = sym c.is_defer.ensures ∙ c.if-not-is_defer.false in
    let breaks : ¬ Meets c.args.self d = λ meets. not_false _ (c.is_visited_by.ensures.1 meets) c.if-is_visited_by.false in
    checks-push _ _ _ _ _ _ c.push.ensures.ok c.push.ensures.err (λ meets. breaks (meets deferred)) (record {
      d = d;
      deferred = kept_by_filter is_defer directives d stands deferred;
      breaks = breaks;
      details_are = ap details.Build c.broken.ensures;
      at_is = refl;
    })
