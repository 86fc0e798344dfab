use Rattle.std.proofs.Common.{◌≡◌, [], ◌∷◌, subst, take}
use Rattle.std.proofs.lemmas.Result.{on_ok_weaker}
use Rattle.graphql_building_reports.specs.Checks.{reports_of}
use Rattle.graphql_shown_reports.specs.Shown.{Shows, ShowsBuilding, ShowsEntry, ShowsMore, ShowsNesting, ShowsReach, ShowsSyntax, ShowsWork, building, nesting, reach, syntax, validation, work}
use Rattle.graphql_shown_reports.proofs.ShownLemmas.{alone}
use Rattle.graphql_shown_reports.proofs.shown.push_reports.Goals as goal

pub returns-in-Syntax : goal.returns-in-Syntax
returns-in-Syntax c =
    let One = ShowsSyntax c.args.sources.now c.args.bounds in
    let errors = c.in-Syntax.errors.items in
    let old = c.args.shown.now.items in
    let new = c.push_syntax.new.shown.items in
    let are : c.first.result.now ≡ take c.args.most errors = cc in
    rw c.in-Syntax.is (on_ok_weaker {P = ShowsMore One c.first.result.now old new} c.push_syntax.result
    (λ so. alone syntax (Shows c.args.sources.now c.args.bounds) c.args.most errors old new (subst (λ l. ShowsMore One l old new) are so))
    c.push_syntax.ensures)

pub returns-in-Building : goal.returns-in-Building
returns-in-Building c =
    let list = reports_of c.in-Building.list in
    let old = c.args.shown.now.items in
    let new = c.push_building.new.shown.items in
    let are : c.first-in-Building.result.now ≡ take c.args.most list = cc in
    rw c.in-Building.is (on_ok_weaker {P = ShowsMore ShowsBuilding c.first-in-Building.result.now old new} c.push_building.result
    (λ so. alone building (Shows c.args.sources.now c.args.bounds) c.args.most list old new (subst (λ l. ShowsMore ShowsBuilding l old new) are so))
    c.push_building.ensures)

pub returns-in-Nesting : goal.returns-in-Nesting
returns-in-Nesting c =
    let one = c.in-Nesting.report ∷ [] in
    let old = c.args.shown.now.items in
    let new = c.push_nesting.new.shown.items in
    rw c.in-Nesting.is (on_ok_weaker {P = ShowsMore ShowsNesting (take c.args.most one) old new} c.push_nesting.result
    (λ so. alone nesting (Shows c.args.sources.now c.args.bounds) c.args.most one old new so)
    c.push_nesting.ensures)

pub returns-in-Reach : goal.returns-in-Reach
returns-in-Reach c =
    let one = c.in-Reach.report ∷ [] in
    let old = c.args.shown.now.items in
    let new = c.push_reach.new.shown.items in
    rw c.in-Reach.is (on_ok_weaker {P = ShowsMore ShowsReach (take c.args.most one) old new} c.push_reach.result
    (λ so. alone reach (Shows c.args.sources.now c.args.bounds) c.args.most one old new so)
    c.push_reach.ensures)

pub returns-in-SchemaRules : goal.returns-in-SchemaRules
returns-in-SchemaRules c = rw c.in-SchemaRules.is (c.push_schema.ensures c.args.sources.now c.args.bounds)

pub returns-in-DocumentRules : goal.returns-in-DocumentRules
returns-in-DocumentRules c = rw c.in-DocumentRules.is (c.push_document.ensures c.args.sources.now c.args.bounds)

pub returns-in-Work : goal.returns-in-Work
returns-in-Work c =
    let one = c.in-Work.report ∷ [] in
    let old = c.args.shown.now.items in
    let new = c.push_work.new.shown.items in
    rw c.in-Work.is (on_ok_weaker {P = ShowsMore ShowsWork (take c.args.most one) old new} c.push_work.result
    (λ so. alone work (Shows c.args.sources.now c.args.bounds) c.args.most one old new so)
    c.push_work.ensures)

pub returns-in-FirstBuilding : goal.returns-in-FirstBuilding
returns-in-FirstBuilding c = rw c.in-FirstBuilding.is (c.push_first_building.ensures c.args.sources.now c.args.bounds)

pub returns-in-FirstSchemaRules : goal.returns-in-FirstSchemaRules
returns-in-FirstSchemaRules c = rw c.in-FirstSchemaRules.is (c.push_first_rules.ensures c.args.sources.now c.args.bounds)

pub returns-in-FirstDocumentRules : goal.returns-in-FirstDocumentRules
returns-in-FirstDocumentRules c = rw c.in-FirstDocumentRules.is (c.push_first_rules-in-FirstDocumentRules.ensures c.args.sources.now c.args.bounds)
