use Rattle.std.proofs.Common.{◌≡◌, ◌∷◌, [], None, Some, rules, subst}
use Rattle.graphql_documents.proofs.ListLemmas.{stands_first}
use Rattle.graphql_frontend.specs.Documents.{ValidatesDocument}
use Rattle.graphql_frontend.specs.declared.reports.Reports.TheVariants.{DocumentRules}
use Rattle.graphql_kept_projects.specs.Left.{AreSomeOf, AreTrueOfOne}
use Rattle.graphql_kept_projects.proofs.LeftLemmas.{on_ok}
use Rattle.graphql_project_checking.proofs.TruthLemmas.{adds_so}
use Rattle.graphql_kept_projects.proofs.certain.add_certain_of.Goals as goal

pub returns-in-Some-DocumentRules : goal.returns-in-Some-DocumentRules
returns-in-Some-DocumentRules c =
    let source = c.args.source in
    let all = c.in-Some-DocumentRules.reports in
    let is : c.in_ok-reported.reported ≡ Some (DocumentRules all) = search rules in
    let old = c.args.found.now.lists.items in
    let new = c.add_reports.new.found.lists.items in
    let One = AreTrueOfOne c.args.bounds (source ∷ []) in
    on_ok c.add_reports.result _ _
    (adds_so (AreSomeOf all) One old new (λ r are. record {
      source = source;
      among = stands_first source [];
      all = all;
      validated = subst (ValidatesDocument c.args.bounds None source) is c.in_ok-reported.ensures;
      are = are;
    })) c.add_reports.ensures
