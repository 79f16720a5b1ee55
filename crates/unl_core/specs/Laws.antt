-- The statements of the theorems `tag_is_of_its_number` and `tag_is_read`. They relate the tag of a reply to the version number in the tag.
-- `place` is the position of the request's token in the book, and `epoch` is the epoch of the content.
use Rattle.std.specs.Prelude.{◌≡◌, ℕ, ◌<◌, ◌^◌, List, Some}
use Rattle.unl_core.specs.declared.board.Board.{Board}
use Rattle.unl_core.specs.Tag.{number_of_tag, tag_text}

-- If `number_of_tag` reads a number from a tag, `tag_text` of that number is exactly that tag.
abbrev pub TagIsOfItsNumber : Type 0
TagIsOfItsNumber = (board : Board) (place epoch : ℕ) (tag : List ℕ) (n : ℕ)
    → number_of_tag board place epoch tag ≡ Some n → tag ≡ tag_text board place (record { epoch = epoch; number = n })

-- From `tag_text` of a number below 2 ^ 64, `number_of_tag` reads the same number.
abbrev pub TagIsRead : Type 0
TagIsRead = (board : Board) (place epoch n : ℕ)
    → n < 2 ^ 64 → number_of_tag board place epoch (tag_text board place (record { epoch = epoch; number = n })) ≡ Some n
