-- The index of tokens by text: their positions in the order of their texts.
use Rattle.std.specs.Prelude.{◌≡◌, ◌<◌, ℕ, List, [], length, All, AllPairs, Bool, true, false, Option, Some, None, slice_get, if◌then◌else◌}
use Rattle.std.specs.Cmp.Lexicographic.{slice_cmp}
use Rattle.std.specs.List.Sorted.{IsPartitionPoint}
use Rattle.std.specs.Option.{option_map_or}
use Rattle.std.specs.Ordering.{nat_cmp, is_lt}
use Rattle.std.specs.Str.{bytes_eq}
use Rattle.std.specs.declared.cmp.Ordering.TheVariants.{Less}
use Rattle.unl_tokens.specs.declared.token.Token.{Token}

-- the text of the token at a position, or the empty text past the end of the list
abbrev pub text_at : List Token → ℕ → List ℕ
text_at tokens place = option_map_or (λ t. t.text) (slice_get tokens place) []

-- the text at position a is less than the text at position b
abbrev pub ComesBefore : List Token → ℕ → ℕ → Type 0
ComesBefore tokens a b = slice_cmp nat_cmp (text_at tokens a) (text_at tokens b) ≡ Less

-- the position is in the list
abbrev pub IsListed : ℕ → List ℕ → Type 0
IsListed place places = (at : ℕ) × (slice_get places at ≡ Some place)

-- a valid index: the position of each token, once, in the order of the texts
pub record IsTextIndex (tokens : List Token) (places : List ℕ) : Type 0 where
  pub within : All (λ place. place < length tokens) places
  pub rising : AllPairs (ComesBefore tokens) places
  pub whole : (place : ℕ) → place < length tokens → IsListed place places

-- whether the text at a position is less than this text
abbrev pub is_below : List Token → List ℕ → ℕ → Bool
is_below tokens text place = is_lt (slice_cmp nat_cmp (text_at tokens place) text)

-- `at` is the point of a text in the index: the entries before `at` are the positions of the tokens with lesser texts
abbrev pub IsPointOf : List Token → List ℕ → List ℕ → ℕ → Type 0
IsPointOf tokens text places at =
    IsPartitionPoint (λ place. is_below tokens text place ≡ true) (λ place. is_below tokens text place ≡ false) places at

-- the position, if the token there has this text
abbrev pub if_text : List Token → List ℕ → ℕ → Option ℕ
if_text tokens text place = if bytes_eq (text_at tokens place) text then Some place else None
