use Rattle.std.proofs.Common.{◌≡◌, Some, rules}
use Rattle.std.proofs.Math.Logic.{∥∥₁_elim}
use Rattle.graphql_name_tables.specs.Places.{place_under}
use Rattle.graphql_cycles.proofs.InputObjectLevelLemmas.{fields_lower, no_longer_path, no_way_back}
use Rattle.graphql_cycles.proofs.input_object_levels.InputObjectLevels.is_known_without_cycle.Goals as goal

pub returns-in-Some-clause-no_cycle : goal.returns-in-Some-clause-no_cycle
returns-in-Some-clause-no_cycle c = λ known path cycle.
    let levels = c.args.self.now.levels in
    let schema = c.args.self.now.schema.now in
    let d = c.args.input_object.now in
    let own = c.in-Some.level in
    let at : place_under levels d.value.value.name ≡ Some own = search rules in
    let lower = fields_lower levels schema d own (c.requires_lower.ensures.0 known) in
    ∥∥₁_elim c.args.self.now.lower (λ x y. absurd x) (λ are. no_way_back levels schema are d own at lower path cycle)

pub returns-in-Some-clause-no_long_path : goal.returns-in-Some-clause-no_long_path
returns-in-Some-clause-no_long_path c = λ known long.
    let levels = c.args.self.now.levels in
    let schema = c.args.self.now.schema.now in
    let d = c.args.input_object.now in
    let own = c.in-Some.level in
    let at : place_under levels d.value.value.name ≡ Some own = search rules in
    let lower = fields_lower levels schema d own (c.requires_lower.ensures.0 known) in
    ∥∥₁_elim c.args.self.now.lower (λ x y. absurd x) (λ are. no_longer_path levels schema are d own at lower long)
