use Rattle.std.proofs.Common.{subst, sym}
use Rattle.graphql_merging.specs.Groups.{pass_of}
use Rattle.graphql_pair_merging.specs.NumberedSets.{field_of}
use Rattle.graphql_pair_merging.specs.Pairs.{DecidesAlone}
use Rattle.graphql_pair_merging.proofs.pairs.PairPass.decides_alone.Goals as goal

pub returns-in-Shapes : goal.returns-in-Shapes
returns-in-Shapes c found =
    subst (λ p. DecidesAlone c.args.self.now.schema.now (pass_of p) (field_of c.args.field)) (sym c.in-Shapes.is) (c.has_defined_type.ensures found)
