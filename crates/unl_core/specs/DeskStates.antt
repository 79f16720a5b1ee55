-- The state of a single-threaded desk, which answers requests and installs changes: a board (the known tokens, and a slot for each
-- environment), the place of each slot, and the number of publications. A place has the slot's version, if any, and whether the slot is
-- held: a held slot missed a batch of events, and takes only a batch that begins with a hydration (an event that contains the whole state).
use Rattle.std.specs.Prelude.{◌≡◌, ℕ, ◌+◌, List, [], ◌∷◌, ◌++◌, length, map, All, Bool, ◌&&◌, ◌||◌, not, nat_lt, if◌then◌else◌, is_some}
use Rattle.std.specs.Prelude.{slice_get, slice_set, Option, option_and_then, Some, None, true, false}
use Rattle.unl_tokens.specs.declared.token.Token.{Token}
use Rattle.unl_delta.specs.declared.batch.Batch.{Batch}
use Rattle.unl_delta.specs.declared.version.EnvVersion.{EnvVersion}
use Rattle.unl_delta.specs.declared.version.Place.{Place}
use Rattle.unl_delta.specs.Batch.{empty_place, next_version}
use Rattle.unl_delta.specs.Installing.{Installed, place_of}
use Rattle.unl_delta.specs.Valid.{IsValidPlace}
use Rattle.unl_core.specs.declared.board.Board.{Board}
use Rattle.unl_core.specs.declared.board.Slot.{Slot}
use Rattle.unl_core.specs.Board.{AreSlots, place_in, empty_slot, with_snapshot, with_tokens}

-- The board, the place of each of its slots, and the number of publications so far.
pub record DeskState : Type 0 where
  pub board : Board
  pub places : List Place
  pub front : ℕ

-- The slots and the places are valid, and the place of each slot has the slot's version.
pub record PlacesMatch (board : Board) (places : List Place) : Type 0 where
  pub slots : AreSlots board.slots
  pub versions : map (λ place. place.version) places ≡ map (λ slot. slot.snapshot) board.slots
  pub valid : All IsValidPlace places

-- The place of a slot that is not held, with the slot's version, if any.
abbrev pub place_at : Slot → Place
place_at slot = record { version = slot.snapshot; held = false }

-- The version of the slot at an index. `None` if there is no such slot, or if the slot has no version.
abbrev pub snapshot_at : List Slot → ℕ → Option EnvVersion
snapshot_at slots slot = option_and_then (λ s. s.snapshot) (slice_get slots slot)

-- The part of a desk that the `Installer` trait knows: places, number of publications and token book. Earlier publications are not
-- observable.
abbrev pub installed_by : DeskState → Installed
installed_by s = record { places = s.places; front = s.front; book = s.board.book; publications = None }

-- Whether the environment is new and the board has fewer than eight slots.
abbrev pub is_added : List ℕ → List Slot → Bool
is_added environment slots = not (is_some (place_in environment slots)) && nat_lt (length slots) 8

-- Whether the environment has a slot or the board has fewer than eight slots.
abbrev pub has_room : List ℕ → List Slot → Bool
has_room environment slots = is_some (place_in environment slots) || nat_lt (length slots) 8

-- The desk with an empty slot for the environment and an empty place appended.
abbrev pub with_slot : List ℕ → DeskState → DeskState
with_slot environment s = record {
  board = record s.board { slots = s.board.slots ++ empty_slot environment ∷ [] };
  places = s.places ++ empty_place ∷ [];
  front = s.front;
}

-- The desk after `name_slot`: a new environment gets a slot if there is room.
abbrev pub with_name : List ℕ → DeskState → DeskState
with_name environment s = if is_added environment s.board.slots then with_slot environment s else s

-- The desk with another place at a slot.
abbrev pub with_place : ℕ → Place → DeskState → DeskState
with_place slot place s = record { board = s.board; places = slice_set s.places slot place; front = s.front }

-- The desk after a version is published at a slot, which is then not held.
abbrev pub with_version : ℕ → EnvVersion → DeskState → DeskState
with_version slot version s = record {
  board = with_snapshot slot version s.board;
  places = slice_set s.places slot (record { version = Some version; held = false });
  front = s.front + 1;
}

-- The desk after a batch is applied to a slot and the new version is published.
abbrev pub with_batch : ℕ → Batch → DeskState → DeskState
with_batch slot batch s = with_version slot (next_version (place_of (installed_by s) slot) batch) s

-- The desk after a slot is held. The slot keeps its version.
abbrev pub with_hold : ℕ → DeskState → DeskState
with_hold slot s = with_place slot (record { version = (place_of (installed_by s) slot).version; held = true }) s

-- The desk after a token book is published: one more publication.
abbrev pub with_book : List Token → DeskState → DeskState
with_book book s = record { board = with_tokens book s.board; places = s.places; front = s.front + 1 }
