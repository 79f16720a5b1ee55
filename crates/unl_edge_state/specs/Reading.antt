-- What a reader of the published board knows: the opening board, and a list of the published installs, which the reader gets when it
-- looks at the board. A reader can also learn a longer list from a report of the writer, without a look. The reader then continues from
-- the learned list: this list replaces the reader's own, and the list of the next look starts with it. From that look on, the field
-- `before` of the reader's knowledge has the boards after 0, 1, 2, .. installs, as the reader knew them before it continued from the
-- learned list. The front of a board is the number of installs that led to it.
use Rattle.std.specs.Prelude.{◌≡◌, ◌⊎◌, ℕ, ◌≤◌, true, List, [], ◌∷◌, ◌++◌, length, Option, Some, None, IfSome}
use Rattle.std.specs.Prelude.{option_and_then, option_map, unwrap_or}
use Rattle.unl_core.specs.declared.board.Board.{Board}
use Rattle.unl_core.specs.declared.board.Install.{Install}
use Rattle.unl_core.specs.Board.{board_after}
use Rattle.unl_core.specs.DeskStates.{snapshot_at}
use Rattle.unl_edge_state.specs.declared.reader.EdgeReader.{EdgeReader}
use Rattle.unl_delta.specs.History.{IsNotBelow}
use Rattle.unl_edge_state.specs.Continued.{Continued}
use Rattle.unl_edge_state.specs.Editions.{BoardAt, edited}
use Rattle.unl_edge_state.specs.Orderly.{KnowsOrderly, is_orderly}
use Rattle.unl_publication.specs.declared.knowledge.Knowledge.{Knowledge}
use Rattle.unl_publication.specs.Meaning.{before_of, known, value_at}
use Rattle.unl_publication.specs.Rule.{StartsWith, knows_nothing}
use Rattle.unl_publication.specs.Seen.{next, past, seen, learned_front}

-- What the reader knew when it last looked, or when it was created if it has not looked.
abbrev pub seen_by : EdgeReader → Knowledge BoardAt Install
seen_by reader = unwrap_or (option_map seen reader.seat) knows_nothing

-- The knowledge that the reader continues from. The list that the reader gets at its next look starts with the installs of this knowledge.
abbrev pub continuation_of : EdgeReader → Knowledge BoardAt Install
continuation_of reader = unwrap_or (option_map next reader.seat) knows_nothing

-- The same as `seen_by`, if the reader has continued from a learned list since its last look (or its creation); otherwise `None`.
abbrev pub past_of : EdgeReader → Option (Knowledge BoardAt Install)
past_of reader = option_and_then past reader.seat

-- The largest number of published installs in the reports that the reader has learned, or 0 if it has learned none. The front of each
-- board that the reader answers from later is at least this number.
abbrev pub learned_front_of : EdgeReader → ℕ
learned_front_of reader = unwrap_or (option_map learned_front reader.seat) 0

-- The board that is known at front `k`: the one that the field `before` has for `k`, otherwise the opening board after the first `k`
-- installs. `None` if the list has fewer than `k` installs, or if that board isn't known.
abbrev pub board_of : Knowledge BoardAt Install → ℕ → Option Board
board_of known k = option_map (λ edition. edition.board) (value_at edited known k)

-- The field `before` has no board, or only this opening board. So before the look that gave the reader this knowledge, the reader never
-- continued from a learned list, or only when it knew no board but the opening board.
abbrev pub ContinuedFromOpening : BoardAt → Knowledge BoardAt Install → Type 0
ContinuedFromOpening opening known = (known.before ≡ []) ⊎ (known.before ≡ Some opening ∷ [])

-- A condition under which the board known at `front` is the opening board after the first `front` installs of the known list. The boards
-- that the reader knew before it continued from a learned list, other than the opening board, need not result from that list. So the
-- condition is: the reader never continued from a learned list, or knew only the opening board when it did, or knew no board at `front`
-- yet when it did.
abbrev pub IsOfList : BoardAt → Knowledge BoardAt Install → ℕ → Type 0
IsOfList opening known front = ContinuedFromOpening opening known ⊎ (length known.before ≤ front)

-- A new reader: it knows exactly `known`, and has learned nothing from the writer.
pub record HasBegun (known : Knowledge BoardAt Install) (reader : EdgeReader) : Type 0 where
  pub seen : seen_by reader ≡ known
  pub next : continuation_of reader ≡ known
  pub learned_none : learned_front_of reader ≡ 0
  pub past : past_of reader ≡ None

-- ---- readers that learned a list before their first look

-- The boards after 0, 1, 2, .. installs, as the reader knew them before it continued from a learned list. Empty if it never did.
abbrev pub earlier_of : EdgeReader → List (Option BoardAt)
earlier_of reader = before_of edited (past_of reader) (continuation_of reader)

-- The reader continues from exactly these installs, on the opening board `edition`. The reader has seen no installs, and when it last
-- looked or was created it had not continued from a learned list. Before it continued from these installs, it knew no board but `edition`.
pub record StartsReader (edition : Option BoardAt) (installs : List Install) (reader : EdgeReader) : Type 0 where
  pub opening : (continuation_of reader).opening ≡ edition
  pub list : (continuation_of reader).installs ≡ installs
  pub earlier : (earlier_of reader ≡ []) ⊎ (earlier_of reader ≡ edition ∷ [])
  pub seen_opening : (seen_by reader).opening ≡ edition
  pub seen_before : (seen_by reader).before ≡ []
  pub seen_none : (seen_by reader).installs ≡ []

-- The relation `Continued` from an earlier state of the reader, in which `past_of` was `past` and `continuation_of` was `now`, to the
-- present state. Among other things, the present list of installs starts with the earlier list. Looks preserve this relation.
abbrev pub ContinuesFrom : Option (Knowledge BoardAt Install) → Knowledge BoardAt Install → EdgeReader → Type 0
ContinuesFrom past now reader = Continued past now (past_of reader) (continuation_of reader)

-- If the opening board `edition` is known, `board` is the opening board after a list of `front` installs that starts with `installs`.
abbrev pub IsAfter : Option BoardAt → List Install → ℕ → Board → Type 0
IsAfter edition installs front board = IfSome edition (λ opening. (more : List Install) × (length (installs ++ more) ≡ front)
    × (board ≡ board_after opening.board (installs ++ more)))

-- The opening board of the list that the reader last saw is `edition`. If that list is at least as long as `installs`, the list starts with
-- `installs`. If `edition` is known, each board that the reader knew at its last look, at a front of at least `length installs`, is the
-- opening board after a list that starts with `installs`. Before its last look, the reader never continued from a learned list, or only
-- when it knew no board but the opening board.
pub record AnswersAfter (edition : Option BoardAt) (installs : List Install) (reader : EdgeReader) : Type 0 where
  pub opening : (seen_by reader).opening ≡ edition
  pub continued : IfSome edition (λ opening. ContinuedFromOpening opening (seen_by reader))
  pub list : length installs ≤ length (seen_by reader).installs → StartsWith (seen_by reader).installs installs
  pub boards : (front : ℕ) (board : Board) → length installs ≤ front → board_of (seen_by reader) front ≡ Some board
      → IsAfter edition installs front board

-- ---- readers of an orderly publication

-- `board_at` gives the board at a front, if there is one. Of two such boards, the one at the larger front has no older version at any
-- slot than the other board, and has a version at each slot where the other board has one.
abbrev pub NeverFalls : (ℕ → Option Board) → Type 0
NeverFalls board_at =
    (j k slot : ℕ) (first later : Board) → j ≤ k → board_at j ≡ Some first → board_at k ≡ Some later
    → IsNotBelow (snapshot_at first.slots slot) (snapshot_at later.slots slot)

-- A reader of an orderly publication that knows the opening board and no installs, and never continued from a learned list.
pub record IsNewReader (reader : EdgeReader) : Type 0 where
  pub orderly : is_orderly (continuation_of reader) ≡ true
  pub past : past_of reader ≡ None
  pub installs : (continuation_of reader).installs ≡ []
  pub before : (continuation_of reader).before ≡ []

-- The publication is orderly, and the reader never continued from a learned list, or only when it knew no board but the opening board.
-- The field `seen` states the second condition for the time before the reader's last look, and `next` states it for the time up to now.
-- The opening board is the same at both times. `past` is `past_of` the reader, and `now` is `continuation_of` the reader.
pub record ReadsOneList (past : Option (Knowledge BoardAt Install)) (now : Knowledge BoardAt Install) : Type 0 where
  pub orderly : is_orderly now ≡ true
  pub opening : (known past now).opening ≡ now.opening
  pub seen : ((known past now).before ≡ []) ⊎ ((known past now).before ≡ now.opening ∷ [])
  pub next : (before_of edited past now ≡ []) ⊎ (before_of edited past now ≡ now.opening ∷ [])

-- `ReadsOneList` is true of the present state of the reader.
abbrev pub IsSteady : EdgeReader → Type 0
IsSteady reader = ReadsOneList (past_of reader) (continuation_of reader)

-- The list that the reader last saw is orderly: each version results from the slot's previous version, if there is one, by one batch
-- that applies. From each board that the reader knew at its last look to one at a larger front, no slot gets an older version or becomes
-- empty.
pub record SeesInOrder (reader : EdgeReader) : Type 0 where
  pub list : ∥ KnowsOrderly (seen_by reader) ∥₁
  pub boards : NeverFalls (board_of (seen_by reader))
