-- How the state of an edge's worker changes when the worker serves a link (a client's connection). The worker answers requests from the
-- newest board (the known tokens and each environment's version) that its reader sees. The metrics that clients report are added to a
-- book, which the worker hands over, through a queue, to the thread that polls the upstream. A front is a number of installs (published
-- changes of the board). The board at a front is the board after that many installs.
use Rattle.std.specs.Prelude.{◌≡◌, ◌≤◌, ℕ, List, [], All, length, max, Option, Some}
use Rattle.unl_core.specs.declared.board.Board.{Board}
use Rattle.unl_core.specs.Desk.{Keeps}
use Rattle.unl_edge.specs.declared.link_handler.EdgeLinkHandler.{EdgeLinkHandler}
use Rattle.unl_edge_state.specs.declared.reader.EdgeReader.{EdgeReader}
use Rattle.unl_core.specs.declared.board.Install.{Install}
use Rattle.unl_core.specs.Histories.{AreLines, Histories, ShowsRevisions}
use Rattle.unl_delta.specs.History.{Era, IsLine}
use Rattle.unl_delta.specs.View.{Sees}
use Rattle.unl_edge_state.specs.Editions.{BoardAt}
use Rattle.unl_edge_state.specs.Histories.{ComesFromHistories, SlotComesFromLine, SlotRepresented}
use Rattle.unl_edge_state.specs.Reading.{StartsReader, ContinuesFrom, IsAfter, board_of, continuation_of, past_of, seen_by}
use Rattle.unl_edge_state.specs.Reading.{learned_front_of}
use Rattle.unl_server.specs.Handling.{Coming}
use Rattle.unl_server.specs.Conversation.{Converses}
use Rattle.unl_server.specs.Links.{LinkView}
use Rattle.unl_http_api.specs.declared.end.End.{End}
use Rattle.unl_edge.specs.WorkerBooks.{WorkerBook, book_of}
use Rattle.unl_metrics.specs.Book.{Book}
use Rattle.unl_publication.specs.declared.knowledge.Knowledge.{Knowledge}
use Rattle.unl_publication.specs.Looking.{SameOrigin}
use Rattle.unl_publication.specs.Meaning.{front_seen}
use Rattle.unl_connection.specs.Notes.{DrawsAtLeast, LooksFor, Notes, NotesNothing, FrontsRise, noted}
use Rattle.unl_connection.specs.declared.served.ServedOne.{ServedOne}
use Rattle.unl_refresh.specs.MetricsQueues.{HandsOver}

-- The reader reads the publication of the writer whose knowledge is `known`: both have the same table, which identifies a publication, and
-- the same opening board (the board that was published first). The reader's last look had that opening board too.
pub record IsOfOrigin (known : Knowledge BoardAt Install) (reader : EdgeReader) : Type 0 where
  pub next : SameOrigin known (continuation_of reader)
  pub seen : (seen_by reader).opening ≡ known.opening

-- A new reader that has learned all installs in `known`, so it answers from no earlier board. It has the opening board of `known`, has not
-- seen a later board yet, and continues from exactly the installs in `known`.
pub record HasLearned (known : Knowledge BoardAt Install) (reader : EdgeReader) : Type 0 where
  pub least : length known.installs ≤ learned_front_of reader
  pub opens : (seen_by reader).opening ≡ known.opening
  pub begins : StartsReader known.opening known.installs reader

-- A lower bound on the fronts of the boards that a reader answers from: the number of installs that the reader learned of, or the number
-- that it saw at its last look, whichever is larger.
abbrev pub least_front : EdgeReader → ℕ
least_front reader = max (learned_front_of reader) (front_seen (seen_by reader))

-- A later state of a reader: its `least_front` did not fall, and the boards that the reader knew are still known.
pub record ReadsOn (before after : EdgeReader) : Type 0 where
  pub rises : least_front before ≤ least_front after
  pub keeps : Keeps (board_of (seen_by before)) (board_of (seen_by after))

-- A link was served with a reader, by one look for each answer. Each answered request has a note with a draw (a time and a random word) and
-- a front: the request was answered with that draw from the board at that front. The fronts of the notes never fall. The draws of the notes
-- were taken in order, and then at most one more draw. If memory ran out, the reader may have looked once more. The metrics that clients
-- reported were added to the worker's book; then the book was put into the queue, or the worker kept it. The boards that the reader knew
-- are still known, and the reader's new list of installs starts with its old one.
pub record ServesOver
    (before : EdgeReader) (book : WorkerBook) (coming : Coming) (link link_after : LinkView) (after : EdgeReader) (book_after : WorkerBook)
    (coming_after : Coming) : Type 0 where
  pub end : End
  pub ones : List ServedOne
  pub summed : Book
  pub converses : Converses (Notes (board_of (seen_by after))) NotesNothing link (noted [] book.counts) end (noted ones summed)
      (length ones) link_after
  pub fronts : FrontsRise (least_front before) ones (least_front after)
  pub looks : LooksFor (Some (seen_by before).fronts) ones end (Some (seen_by after).fronts)
  pub drawn : DrawsAtLeast coming ones coming_after
  pub handed : HandsOver book.handed summed book_after.handed book_after.counts
  pub keeps : Keeps (board_of (seen_by before)) (board_of (seen_by after))
  pub continues : ContinuesFrom (past_of before) (continuation_of before) after

-- The reader knows the board at the front of this note. This board is the opening board `edition`, if that is known, after a list of
-- installs that starts with `installs`. The length of the list is the front.
abbrev pub NotedAfter : Option BoardAt → List Install → EdgeReader → ServedOne → Type 0
NotedAfter edition installs reader one =
    (board : Board) × (board_of (seen_by reader) one.front ≡ Some board) × IsAfter edition installs one.front board

-- The reader knows the board at the front of this note. At this slot, that board has one revision of the line, without the features of
-- projects that aren't visible by `sees`, or no version yet.
abbrev pub NotedSlotRevision : List Era → Sees → ℕ → EdgeReader → ServedOne → Type 0
NotedSlotRevision line sees slot reader one =
    (board : Board) × (board_of (seen_by reader) one.front ≡ Some board) × SlotRepresented line sees slot board

-- The reader knows the board at the front of this note. On that board, each token sees one revision of its environment's line.
abbrev pub NotedTokenRevisions : Histories → EdgeReader → ServedOne → Type 0
NotedTokenRevisions histories reader one =
    (board : Board) × (board_of (seen_by reader) one.front ≡ Some board) × ShowsRevisions histories board

-- Which revisions the answers of these notes were computed from, if the versions in the list that the reader last saw came by batches sent
-- from lines of histories. `opening` is the opening board. A line has the histories of an environment, one for each epoch.
pub record AnswersFromRevisions (opening : BoardAt) (reader : EdgeReader) (ones : List ServedOne) : Type 0 where
  -- If a slot comes from a line, the board of each answer has one revision of the line at the slot, or no version yet.
  pub slots : (line : List Era) (sees : Sees) (slot : ℕ) → IsLine line → SlotComesFromLine line sees slot opening (seen_by reader).installs
      → All (NotedSlotRevision line sees slot reader) ones
  -- If each slot comes from the line of its environment, each token sees one revision of its line on the board of each answer.
  pub tokens : (histories : Histories) → AreLines histories → ComesFromHistories histories opening (seen_by reader).installs
      → All (NotedTokenRevisions histories reader) ones

-- A worker served a link: `ServesOver` holds for the reader, the metrics and the draws (times and random words) in the worker's state.
abbrev pub ServesAt :
    {W : Type 0} → EdgeLinkHandler W → Coming → LinkView → LinkView → EdgeLinkHandler W → Coming → Type 0
ServesAt before coming link link_after after coming_after =
    ServesOver before.desk.reader (book_of before) coming link link_after after.desk.reader (book_of after) coming_after

-- A later state of a worker: its reader is in a later state, and the worker still hands over its metrics through the same queue.
abbrev pub ReadsOnAt : {W : Type 0} → EdgeLinkHandler W → EdgeLinkHandler W → Type 0
ReadsOnAt before after = ReadsOn before.desk.reader after.desk.reader × (after.sender.queue ≡ before.sender.queue)
