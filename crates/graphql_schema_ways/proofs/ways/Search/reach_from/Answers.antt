use Rattle.graphql_schema_ways.proofs.ways.Search.reach_from.Goals as goal

pub returns-in_ok-reach_conditions-in-Some-get : goal.returns-in_ok-reach_conditions-in-Some-get
returns-in_ok-reach_conditions-in-Some-get c = λ lead.
    c.in_ok-reach_conditions-in-Some-get.ensures (c.in_ok-reach_field-2.ensures (c.in_ok-reach_field.ensures (c.in_ok-reach_below.ensures lead)))
