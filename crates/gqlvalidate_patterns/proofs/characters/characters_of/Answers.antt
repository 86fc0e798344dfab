-- What `collect` gathers are the characters.
use Rattle.std.proofs.Common.{rules}
use Rattle.std.proofs.lemmas.Str.{chars_from_encodes}
use Rattle.gqlvalidate_patterns.proofs.characters.characters_of.Goals as goal

pub returns : goal.returns
returns c = search (rules, chars_from_encodes)
