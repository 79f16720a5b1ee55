-- The effect of an input line with a book of tokens.
use Rattle.std.proofs.Common.{◌≡◌, ◌≢◌, ℕ, List, ap, cond}
use Rattle.unl_tokens.specs.declared.token.Token.{Token}
use Rattle.unl_core.specs.DeskStates.{DeskState, with_book}
use Rattle.unl_core.proofs.Same.{same_book-refl, same_book-other}
use Rattle.unl_replay.specs.Replay.{DeskEffect, put_tokens, same_line, tokens_line}

abbrev either : ℕ → List Token → DeskState → DeskEffect
either k tokens d = record { text = tokens_line k (with_book tokens d).board.generation (with_book tokens d).front; desk = with_book tokens d }

-- the effect if the book equals the current one
pub kept : (k : ℕ) (tokens : List Token) (d : DeskState) → tokens ≡ d.board.book → put_tokens k tokens d ≡ record { text = same_line k; desk = d }
kept k tokens d same =
    ap (λ b. cond b (let r : DeskEffect = record { text = same_line k; desk = d } in r) (either k tokens d)) (same_book-refl tokens d.board.book same)

-- the effect if the book differs from the current one
pub taken : (k : ℕ) (tokens : List Token) (d : DeskState) → tokens ≢ d.board.book
    → put_tokens k tokens d ≡ record { text = tokens_line k (with_book tokens d).board.generation (with_book tokens d).front; desk = with_book tokens d }
taken k tokens d other =
    ap (λ b. cond b (let r : DeskEffect = record { text = same_line k; desk = d } in r) (either k tokens d)) (same_book-other tokens d.board.book other)
