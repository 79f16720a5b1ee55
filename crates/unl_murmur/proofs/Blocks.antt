-- The first four bytes of a list, as a block.
use Rattle.std.proofs.Common.{◌≡◌, ℕ, ◌+◌, ◌*◌, ◌≤◌, List, [], ◌∷◌, ◌++◌, length, drop, get_or, ap, arith}
use Rattle.unl_murmur.specs.Murmur3.{state_after, after_block}

-- The first four bytes as a number, lowest byte first.
abbrev pub first_block : List ℕ → ℕ
first_block bytes = get_or bytes 0 0 + get_or bytes 1 0 * 256 + get_or bytes 2 0 * 65536 + get_or bytes 3 0 * 16777216

-- The first four bytes are mixed in as a block.
pub block_first : (state : ℕ) (bytes : List ℕ) → 4 ≤ length bytes → (more : List ℕ)
    → state_after state (bytes ++ more) ≡ state_after (after_block state (first_block bytes)) (drop 4 bytes ++ more)
block_first state (a ∷ b ∷ c ∷ d ∷ rest) four more = ap (λ n. state_after (after_block state n) (rest ++ more)) (omega arith)
block_first state (a ∷ b ∷ c ∷ []) four more = absurd (omega arith)
block_first state (a ∷ b ∷ []) four more = absurd (omega arith)
block_first state (a ∷ []) four more = absurd (omega arith)
block_first state [] four more = absurd (omega arith)
