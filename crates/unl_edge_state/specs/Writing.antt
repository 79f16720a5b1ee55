-- What a writer of the board has published, and the places that it keeps. An install is one published change of the board. The place
-- of a slot has the slot's version, if any, and whether the slot is held. Only a batch that begins with a hydration (an event that contains
-- the whole state) applies to a held slot.
use Rattle.std.specs.Prelude.{◌≡◌, ℕ, ◌<◌, [], ◌∷◌, List, length, map, Bool, true, ⊤, is_some, slice_set, Option, Some, false, IfSome}
use Rattle.unl_core.specs.declared.board.Install.{Install}
use Rattle.unl_core.specs.declared.board.Install.TheVariants.{Tokens, Env}
use Rattle.unl_core.specs.Board.{board_after}
use Rattle.unl_core.specs.DeskStates.{PlacesMatch}
use Rattle.unl_delta.specs.declared.batch.Batch.{Batch}
use Rattle.unl_delta.specs.declared.version.EnvVersion.{EnvVersion}
use Rattle.unl_delta.specs.declared.version.Place.{Place}
use Rattle.unl_delta.specs.Batch.{next_version}
use Rattle.unl_delta.specs.Installing.{Installed, Publication, PublishedBook, PublishedVersion, place_of}
use Rattle.unl_edge_state.specs.Editions.{BoardAt, board_known}
use Rattle.unl_publication.specs.declared.knowledge.Knowledge.{Knowledge}
use Rattle.unl_publication.specs.Rule.{with_installs}

-- What was published, the place of each slot, and whether every later publication fails.
pub record Writing : Type 0 where
  pub known : Knowledge BoardAt Install
  pub places : List Place
  pub closed : Bool

-- The invariant of a writer: its opening board is known, and each place has the version of its slot on the published board. The board's
-- slots (at most eight, each for a different environment) and the places are valid.
pub record IsWriting (known : Knowledge BoardAt Install) (places : List Place) : Type 0 where
  pub begun : is_some known.opening ≡ true
  pub represents : PlacesMatch (board_known known) places

-- The publication that an install is.
abbrev pub publication_of : Install → Publication
publication_of (Tokens book) = PublishedBook book
publication_of (Env slot version) = PublishedVersion slot version

-- The part of the writer's state that the trait `Installer` knows: the places, the number of publications, the board's token book, and all
-- publications.
abbrev pub installed_by : Writing → Installed
installed_by w = record {
  places = w.places;
  front = length w.known.installs;
  book = (board_known w.known).book;
  publications = Some (map publication_of w.known.installs);
}

-- `installed` is the state after the opening board and these installs: its front is the number of the installs, they are its publications,
-- and its book and the version of each place are those of the board after them. The places and the slots of that board are valid. `edition`
-- is the opening board; if it is `None`, only the front and the publications are claimed.
pub record LeadsTo (edition : Option BoardAt) (installs : List Install) (installed : Installed) : Type 0 where
  pub front : installed.front ≡ length installs
  pub publications : installed.publications ≡ Some (map publication_of installs)
  pub book : IfSome edition (λ opening. installed.book ≡ (board_after opening.board installs).book)
  pub places : IfSome edition (λ opening. PlacesMatch (board_after opening.board installs) installed.places)

-- The writer after it publishes an install that changes no place.
abbrev pub with_install : Install → Writing → Writing
with_install what w = record w { known = with_installs (what ∷ []) w.known }

-- The writer after a version is published at a slot. `held` says whether the slot is then held.
abbrev pub with_version : ℕ → EnvVersion → Bool → Writing → Writing
with_version slot version held w = record {
  known = with_installs (Env slot version ∷ []) w.known;
  places = slice_set w.places slot (record { version = Some version; held = held });
  closed = w.closed;
}

-- The writer after an install is published. Whether a slot is held doesn't change.
abbrev pub after_publish : Install → Writing → Writing
after_publish (Tokens book) w = with_install (Tokens book) w
after_publish (Env slot version) w = with_version slot version (place_of (installed_by w) slot).held w

-- The writer after a batch applied at a slot and the resulting version was published. The slot is then not held.
abbrev pub writer_after_batch : ℕ → Batch → Writing → Writing
writer_after_batch slot batch w = with_version slot (next_version (place_of (installed_by w) slot) batch) false w

-- The writer after a slot becomes held. The slot's version doesn't change, and nothing is published.
abbrev pub writer_after_hold : ℕ → Writing → Writing
writer_after_hold slot w =
    record w { places = slice_set w.places slot (record { version = (place_of (installed_by w) slot).version; held = true }) }

-- Nothing was published and no place changed. Only `closed`, whether every later publication fails, may have changed.
abbrev pub Stays : Writing → Writing → Type 0
Stays old new = new ≡ record old { closed = new.closed }

-- The slot of the install, if it has one, is below `slots`.
abbrev pub HasSlotBelow : Install → ℕ → Type 0
HasSlotBelow (Tokens book) slots = ⊤
HasSlotBelow (Env slot version) slots = slot < slots
