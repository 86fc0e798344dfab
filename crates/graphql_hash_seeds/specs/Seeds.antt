-- Hashes that depend on a seed.
use Rattle.std.specs.Prelude.{ℕ, ◌*◌, ◌/◌, ◌-◌, ◌^◌, List, fold, bit_and, bit_or, bit_xor}
use Rattle.std.specs.Hash as fed
use Rattle.std.specs.Hash.FoldHasher as folding
use Rattle.std.specs.Hash.DefaultHasher as sip
use Rattle.graphql_hash_seeds.specs.declared.seeds.HashSeed.{HashSeed}
use Rattle.graphql_hash_seeds.specs.declared.seeds.SeededHasher.{SeededHasher}

-- the word of this index that a seed's number stands for: the SipHash of both
unfoldable pub word_of : ℕ → ℕ → ℕ
word_of number index = sip.finish (fold sip.write (fold sip.write sip.initial (fed.u64 number)) (fed.u64 index))

-- the seed that a number stands for
unfoldable pub seed_of : ℕ → HashSeed
seed_of number = record {
  prefixed = fold folding.write folding.initial (fed.u64 (word_of number 0));
  mask = word_of number 1;
  multiplier = bit_or (word_of number 2) 1;
}

-- the number that a text stands for: its SipHash
unfoldable pub digest_of : List ℕ → ℕ
digest_of text = sip.finish (sip.write sip.initial text)

-- the hasher of a seed, to which nothing was written
abbrev pub initial_hasher : HashSeed → SeededHasher
initial_hasher seed = record { inner = seed.prefixed; mask = seed.mask; multiplier = seed.multiplier }

-- the two halves of the 128 bits of a * b, joined by xor
unfoldable pub folded_multiply : ℕ → ℕ → ℕ
folded_multiply a b = bit_xor (bit_and (a * b) (2 ^ 64 - 1)) (a * b / 2 ^ 64)

-- the hasher after these bytes
abbrev pub write : SeededHasher → List ℕ → SeededHasher
write h bytes = record { inner = folding.write h.inner bytes; mask = h.mask; multiplier = h.multiplier }

-- what was written is hashed behind the seed's prefix, and what comes of it once more by the seed's other words
abbrev pub finish : SeededHasher → ℕ
finish h = folded_multiply (bit_xor (folding.finish h.inner) h.mask) h.multiplier
