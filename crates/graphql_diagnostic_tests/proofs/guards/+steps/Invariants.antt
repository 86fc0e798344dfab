use Rattle.graphql_diagnostic_tests.proofs.guards.+steps.Given as goal

abbrev pub decreases-steps : goal.decreases-steps
decreases-steps l = l.most
