-- One wrapper fewer may follow.
use Rattle.graphql_introspection.proofs.references.+read_reference.Given as goal

abbrev pub decreases-read_reference : goal.decreases-read_reference
decreases-read_reference l = l.depth
