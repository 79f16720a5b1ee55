-- The notes of the requests that were answered on a connection. There is one note for each: its draw (a time and a random word), and
-- its front (the number of installs that led to the board from which it was answered).
use Rattle.std.specs.Prelude.{◌≡◌, ℕ, ◌≤◌, ◌⊎◌, List, [], ◌∷◌, ◌++◌, map, Option, Some}
use Rattle.unl_base.specs.declared.draws.Draw.{Draw}
use Rattle.unl_base.specs.Draws.{TakesDraw, TakesAtMostOne}
use Rattle.unl_http_api.specs.declared.end.End.{End}
use Rattle.unl_http_api.specs.declared.end.End.TheVariants.{Memory}
use Rattle.unl_http_api.specs.declared.reply.Reply.{Reply}
use Rattle.unl_http_api.specs.declared.request.Request.{Request}
use Rattle.unl_core.specs.declared.board.Board.{Board}
use Rattle.unl_core.specs.Answer.{answer_of}
use Rattle.unl_core.specs.Desk.{Keeps, Enters, EntersAtMostOnce}
use Rattle.unl_core.specs.Histories.{AllRepresented, Histories, ShowsRevisions}
use Rattle.unl_core.specs.Recording.{final_book, final_reply}
use Rattle.unl_metrics.specs.Book.{Book}
use Rattle.unl_connection.specs.declared.served.ServedOne.{ServedOne}

-- the notes of the answered requests, and the metrics book to which their reports were added
pub record Noted : Type 0 where
  pub ones : List ServedOne
  pub book : Book

-- notes and a metrics book as one value
abbrev pub noted : List ServedOne → Book → Noted
noted ones book = record { ones = ones; book = book }

-- The effect of one answer: one more note, `one`, is appended. The answer is computed from the board that `board_at` gives for the
-- note's front, with the note's draw. The answer's reply is sent, and the answer's report, if there is one, is added to the metrics
-- book. But if the book has no room for the report, the reply is a 503 and the book is unchanged. If each version on the board
-- represents the line of its environment (one history of changes per epoch), each token sees one revision of its environment's line.
pub record Notes
    (board_at : ℕ → Option Board) (before : Noted) (request : Request) (reply : Reply) (after : Noted) : Type 0 where
  pub one : ServedOne
  pub board : Board
  pub added : after.ones ≡ before.ones ++ one ∷ []
  pub known : board_at one.front ≡ Some board
  pub is : reply ≡ final_reply before.book (answer_of board request one.draw)
  pub summed : after.book ≡ final_book before.book (answer_of board request one.draw)
  pub revisions : (histories : Histories) → AllRepresented histories board.slots → ShowsRevisions histories board

-- nothing is noted or added to the book for a request
abbrev pub NotesNothing : Noted → Request → Noted → Type 0
NotesNothing before request after = after ≡ before

-- the fronts of the notes never decrease, start at `first` or above, and end at `last` or below; without notes, `first` is at most `last`
abbrev pub FrontsRise : ℕ → List ServedOne → ℕ → Type 0
FrontsRise first [] last = first ≤ last
FrontsRise first (one ∷ ones) last = (first ≤ one.front) × FrontsRise one.front ones last

-- the front of each note
abbrev pub fronts_of : List ServedOne → List ℕ
fronts_of ones = map (λ one. one.front) ones

-- For each note, the desk looked once and found the board of the note's front. If memory ran out, it may have looked once more.
-- `fronts` and `fronts_after` are the fronts of all looks of the desk before and after, or `None` if these are not observable.
abbrev pub LooksFor : Option (List ℕ) → List ServedOne → End → Option (List ℕ) → Type 0
LooksFor fronts ones end fronts_after =
    Enters fronts (fronts_of ones) fronts_after
    ⊎ ((end ≡ Memory) × (front : ℕ) × Enters fronts (fronts_of ones ++ front ∷ []) fronts_after)

-- The draws of the notes were taken in the order of the notes, and no other draws were taken. `coming` and `after` are the draws still
-- to come, before and after: a list and then a last draw that is repeated for ever, or `None` if the draws are not observable.
abbrev pub TakesDraws : Option (List Draw × Draw) → List ServedOne → Option (List Draw × Draw) → Type 0
TakesDraws coming [] after = after ≡ coming
TakesDraws coming (one ∷ ones) after =
    (middle : Option (List Draw × Draw)) × TakesDraw coming one.draw middle × TakesDraws middle ones after

-- the draws of the notes were taken in order, and then at most one more draw
abbrev pub DrawsAtLeast : Option (List Draw × Draw) → List ServedOne → Option (List Draw × Draw) → Type 0
DrawsAtLeast coming ones after = (middle : Option (List Draw × Draw)) × TakesDraws coming ones middle × TakesAtMostOne middle after

-- What is known of a desk: `front`, the front of the board that it found at its last look; `board_at`, the board of each front, if the
-- desk knows that board; and `fronts`, the fronts of the boards found at all its looks, or `None` if the looks are not observable.
pub record KnownDesk : Type 0 where
  pub front : ℕ
  pub board_at : ℕ → Option Board
  pub fronts : Option (List ℕ)

-- what is known of a desk, from the specification-only members `front`, `board_at` and `fronts` of its `Desk` implementation
abbrev pub known_by : {D : Type 0} → (D → ℕ) → (D → ℕ → Option Board) → (D → Option (List ℕ)) → D → KnownDesk
known_by front board_at fronts desk = record { front = front desk; board_at = board_at desk; fronts = fronts desk }

-- what is known of a desk, the notes of its answers, and the book
pub record DeskNotes : Type 0 where
  pub desk : KnownDesk
  pub noted : Noted

-- what is known of a desk, a list of notes, and a metrics book, as one value
abbrev pub desk_notes : KnownDesk → List ServedOne → Book → DeskNotes
desk_notes desk ones book = record { desk = desk; noted = noted ones book }

-- The desk looked once and answered the request from the board that it found. One note was appended, with that board's front and the
-- draw. The answer's report, if it has one, was added to the metrics book; if the book had no room for the report, the reply is a 503
-- and the book is unchanged. The desk's front did not fall, and the desk still knows each board that it knew before.
pub record AnswersFromBoard (before : DeskNotes) (request : Request) (draw : Draw) (reply : Reply) (after : DeskNotes) : Type 0 where
  pub board : Board
  pub known : after.desk.board_at after.desk.front ≡ Some board
  pub is : reply ≡ final_reply before.noted.book (answer_of board request draw)
  pub summed : after.noted.book ≡ final_book before.noted.book (answer_of board request draw)
  pub one : ServedOne
  pub added : after.noted.ones ≡ before.noted.ones ++ one ∷ []
  pub its_front : one.front ≡ after.desk.front
  pub its_draw : one.draw ≡ draw
  pub rises : before.desk.front ≤ after.desk.front
  pub keeps : Keeps before.desk.board_at after.desk.board_at
  pub entered : Enters before.desk.fronts (after.desk.front ∷ []) after.desk.fronts

-- Memory ran out: nothing was noted or added to the book, and the desk looked at most once. The desk's front did not fall, and the
-- desk still knows each board that it knew before.
pub record AnswersNothing (before after : DeskNotes) : Type 0 where
  pub same : after.noted.ones ≡ before.noted.ones
  pub same_book : after.noted.book ≡ before.noted.book
  pub rises : before.desk.front ≤ after.desk.front
  pub keeps : Keeps before.desk.board_at after.desk.board_at
  pub entered : EntersAtMostOnce before.desk.fronts after.desk.fronts
