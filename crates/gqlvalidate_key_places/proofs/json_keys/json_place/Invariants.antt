-- Each token shortens what is left.
use Rattle.std.proofs.Common.{length}
use Rattle.gqlvalidate_key_places.proofs.json_keys.json_place.Given as goal

abbrev pub decreases-loop-token : goal.decreases-loop-token
decreases-loop-token l = length l.reader
