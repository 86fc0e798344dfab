use Rattle.std.proofs.Common.{length}
use Rattle.graphql_lone_fields.proofs.keys.+few_have_lone_keys.Given as goal

abbrev pub decreases-few_have_lone_keys : goal.decreases-few_have_lone_keys
decreases-few_have_lone_keys g l = length l.fields.now
