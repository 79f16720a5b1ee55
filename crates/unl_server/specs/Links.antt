-- The state of a link. A part that is not observable is `None`.
use Rattle.std.specs.Prelude.{ℕ, List, Option}

-- the bytes that can still be read from a link, the bytes sent to it, and its fault count
pub record LinkView : Type 0 where
  pub left : Option (List ℕ)
  pub sent : Option (List ℕ)
  pub faults : ℕ

-- the `LinkView` of these bytes to come, sent bytes and fault count
abbrev pub link_view : Option (List ℕ) → Option (List ℕ) → ℕ → LinkView
link_view left sent faults = record { left = left; sent = sent; faults = faults }
