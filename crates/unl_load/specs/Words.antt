-- The random words that the input of the command `load` is generated from: the 32-bit words of the generator PCG XSH RR 64/32
-- (O'Neill), in order.
use Rattle.std.specs.Prelude.{ℕ, zero, suc}
use Rattle.rand_pcg.specs.Lcg.{Lcg, started, increment_of}
use Rattle.rand_pcg.specs.Pcg.{multiplier_64, pcg32}

-- the generator for this seed, at stream 1
unfoldable pub generator : ℕ → Lcg
generator seed = started 64 multiplier_64 seed (increment_of 64 1)

-- the next word
unfoldable pub next_word : Lcg → ℕ
next_word words = (pcg32 words).0

-- the generator after the next word
unfoldable pub next : Lcg → Lcg
next words = (pcg32 words).1

-- the generator after `n` words
unfoldable pub behind : ℕ → Lcg → Lcg
behind zero words = words
behind (suc n) words = behind n (next words)
