use Rattle.std.proofs.Common.{◌≡◌, Some, rules}
use Rattle.std.proofs.Math.Logic.{∥∥₁_elim}
use Rattle.graphql_name_tables.specs.Places.{place_under}
use Rattle.graphql_cycles.proofs.DirectiveLevelLemmas.{no_longer_directive_path, no_longer_type_path, no_way_back, where_ok}
use Rattle.graphql_cycles.proofs.directive_levels.DirectiveLevels.is_known_without_cycle.Goals as goal

pub returns-clause-no_cycle : goal.returns-clause-no_cycle
returns-clause-no_cycle c =
    let levels = c.args.self.now.levels in
    let schema = c.args.self.now.schema.now in
    let d = c.args.definition.now in
    let own = c.in-Some.level in
    let at : place_under levels.directives d.value.value.name ≡ Some own = search rules in
    where_ok c.directive_leads_lower.result
    (λ known leads yes path cycle. ∥∥₁_elim c.args.self.now.lower (λ x y. absurd x) (λ are. no_way_back levels schema are d own at (leads yes) path cycle))
    c.directive_leads_lower.ensures

pub returns-clause-no_long_directive_path : goal.returns-clause-no_long_directive_path
returns-clause-no_long_directive_path c =
    let levels = c.args.self.now.levels in
    let schema = c.args.self.now.schema.now in
    let d = c.args.definition.now in
    let own = c.in-Some.level in
    let at : place_under levels.directives d.value.value.name ≡ Some own = search rules in
    where_ok c.directive_leads_lower.result
    (λ known leads yes long. ∥∥₁_elim c.args.self.now.lower (λ x y. absurd x) (λ are. no_longer_directive_path levels schema are d own at (leads yes) long))
    c.directive_leads_lower.ensures

pub returns-clause-no_long_type_path : goal.returns-clause-no_long_type_path
returns-clause-no_long_type_path c =
    let levels = c.args.self.now.levels in
    let schema = c.args.self.now.schema.now in
    let d = c.args.definition.now in
    let own = c.in-Some.level in
    let at : place_under levels.directives d.value.value.name ≡ Some own = search rules in
    where_ok c.directive_leads_lower.result
    (λ known leads yes long. ∥∥₁_elim c.args.self.now.lower (λ x y. absurd x) (λ are. no_longer_type_path levels schema are d own at (leads yes) long))
    c.directive_leads_lower.ensures
