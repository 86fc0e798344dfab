use Rattle.graphql_notation.proofs.build.type_references.+nested_type.Given as goal

abbrev pub decreases-nested_type : goal.decreases-nested_type
decreases-nested_type l = l.depth
