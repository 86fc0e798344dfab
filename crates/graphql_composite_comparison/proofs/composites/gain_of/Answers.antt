use Rattle.graphql_composite_comparison.proofs.composites.gain_of.Goals as goal

pub returns-then-not-applies_to : goal.returns-then-not-applies_to
returns-then-not-applies_to c =
    (c.names_object_type.ensures.0 c.if-names_object_type.true, λ applies. let there = c.applies_to.ensures.1 applies in let no : ⊥ = cc in no)
