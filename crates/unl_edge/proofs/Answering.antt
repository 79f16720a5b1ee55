-- The boards from which a worker answers, if its reader began with a list of installs.
use Rattle.std.proofs.Common.{◌≡◌, ◌≤◌, ◌+◌, ◌⊎◌, inl, inr, ℕ, List, [], ◌∷◌, length, Option, Some, None, arith, subst, sym}
use Rattle.std.specs.Prelude.{All, IfSome}
use Rattle.std.proofs.Math.Nat.{le-max_left}
use Rattle.std.proofs.lemmas.List.Elements.{All-cons, All-head, All-nil, All-push, All-tail}
use Rattle.unl_connection.specs.Notes.{Noted, Notes, NotesNothing, FrontsRise, noted}
use Rattle.unl_connection.specs.declared.served.ServedOne.{ServedOne}
use Rattle.unl_core.specs.declared.board.Board.{Board}
use Rattle.unl_core.specs.declared.board.Install.{Install}
use Rattle.unl_core.specs.Histories.{ShowsRevisions}
use Rattle.unl_edge.specs.EdgeServices.{EdgeWorker, WorkerServes}
use Rattle.unl_edge.specs.LinkHandling.{AnswersFromRevisions, HasLearned, NotedAfter, ServesOver, least_front}
use Rattle.unl_edge_state.specs.Editions.{BoardAt}
use Rattle.unl_edge_state.specs.Histories.{SeesRevisions, SlotRepresented}
use Rattle.unl_edge_state.specs.Reading.{AnswersAfter, StartsReader, ContinuesFrom, board_of, learned_front_of, continuation_of, past_of, seen_by}
use Rattle.unl_edge_state.specs.declared.reader.EdgeReader.{EdgeReader}
use Rattle.unl_edge_state.specs.Continued.{continued_on}
use Rattle.unl_edge_state.proofs.Continuing.{answers_after, itself}
use Rattle.unl_edge_state.proofs.FromLines.{sees_revisions}
use Rattle.unl_http_api.specs.declared.end.End.{End}
use Rattle.unl_http_api.specs.declared.end.End.TheVariants.{Memory}
use Rattle.unl_http_api.specs.declared.request.Request.{Request}
use Rattle.unl_publication.specs.declared.knowledge.Knowledge.{Knowledge}
use Rattle.unl_publication.specs.Meaning.{front_seen}
use Rattle.unl_server.specs.Conversation.{AreAnswered, Reaches}
use Rattle.unl_server.specs.Links.{LinkView}

-- If fronts rise from `first` to `last`, then `first <= last`.
pub risen : (first last : ℕ) (ones : List ServedOne) → FrontsRise first ones last → first ≤ last
risen first last [] rise = rise
risen first last (one ∷ ones) rise = let later = risen one.front last ones rise.1 in omega (arith, rise.0, later)

-- ---- the boards of the notes

-- the board of this note is known
abbrev IsKnown : (ℕ → Option Board) → ServedOne → Type 0
IsKnown board_at one = (board : Board) × (board_at one.front ≡ Some board)

-- each answer on a connection adds a note whose board is known
answered_known : (board_at : ℕ → Option Board) (count : ℕ) (before after : Noted) (requests : List Request) (text : List ℕ)
    → All (IsKnown board_at) before.ones → AreAnswered (Notes board_at) count before requests text after → All (IsKnown board_at) after.ones
answered_known board_at count before after [] text known answered =
    subst (λ (n : Noted). All (IsKnown board_at) n.ones) (sym answered.1) known
answered_known board_at count before after (q ∷ requests) text known (reply, middle, more, step, split, rest) =
    answered_known board_at (count + 1) middle after requests more
    (subst (λ (ones : List ServedOne). All (IsKnown board_at) ones) (sym step.added)
    (All-push (IsKnown board_at) before.ones step.one known (step.board, step.known)))
    rest

-- a request that is not answered adds no note
nothing_noted : (reached after : Noted) (end : End)
    → (after ≡ reached) ⊎ ((end ≡ Memory) × (request : Request) × NotesNothing reached request after) → after ≡ reached
nothing_noted reached after end (inl same) = same
nothing_noted reached after end (inr (is, request, same)) = same

-- the board of each note of a connection is known
all_known : (board_at : ℕ → Option Board) (before after : Noted) (end : End) (count : ℕ) → All (IsKnown board_at) before.ones
    → Reaches (Notes board_at) NotesNothing before end after count → All (IsKnown board_at) after.ones
all_known board_at before after end count known reached =
    subst (λ (n : Noted). All (IsKnown board_at) n.ones) (sym (nothing_noted reached.reached after end reached.next))
    (answered_known board_at 0 before reached.reached reached.requests reached.text known reached.answered)

-- ---- a reader that began with installs

-- The reader began with these installs, and has only looked since. It answers from no board at a smaller front.
pub record Began (edition : Option BoardAt) (installs : List Install) (reader : EdgeReader) : Type 0 where
  pub first : EdgeReader
  pub begins : StartsReader edition installs first
  pub continues : ContinuesFrom (past_of first) (continuation_of first) reader
  pub least : length installs ≤ least_front reader

-- a reader that has learned all known installs (`HasLearned`) began with them
pub began : (known : Knowledge BoardAt Install) (reader : EdgeReader) → HasLearned known reader → Began known.opening known.installs reader
began known reader learned = record {
  first = reader;
  begins = learned.begins;
  continues = itself reader;
  least = omega (arith, learned.least, le-max_left (learned_front_of reader) (front_seen (seen_by reader)));
}

-- each board that a reader answers from, if it began with these installs, results from a list that starts with them
pub known_after : (edition : Option BoardAt) (installs : List Install) (reader : EdgeReader) → Began edition installs reader
    → AnswersAfter edition installs reader
known_after edition installs reader h = answers_after edition installs h.first reader h.begins h.continues

-- If the fronts of the notes start at `length installs` or above, and the boards of the notes are known, each of these boards results from
-- a list that starts with these installs.
notes_after : (edition : Option BoardAt) (installs : List Install) (reader : EdgeReader) (first last : ℕ) (ones : List ServedOne)
    → AnswersAfter edition installs reader → length installs ≤ first → FrontsRise first ones last
    → All (IsKnown (board_of (seen_by reader))) ones → All (NotedAfter edition installs reader) ones
notes_after edition installs reader first last [] answers low rise known = All-nil (NotedAfter edition installs reader)
notes_after edition installs reader first last (one ∷ ones) answers low rise known =
    let there = All-head (IsKnown (board_of (seen_by reader))) one ones known in
    let high : length installs ≤ one.front = omega (arith, low, rise.0) in
    All-cons (NotedAfter edition installs reader) one ones (there.0, there.1, answers.boards one.front there.0 high there.1)
    (notes_after edition installs reader one.front last ones answers high rise.1
    (All-tail (IsKnown (board_of (seen_by reader))) one ones known))

-- if `Holds` is true of each known board, it is true of the board of each note
notes_hold : (Holds : Board → Type 0) (board_at : ℕ → Option Board) (ones : List ServedOne)
    → ((front : ℕ) (board : Board) → board_at front ≡ Some board → Holds board) → All (IsKnown board_at) ones
    → All (λ one. (board : Board) × (board_at one.front ≡ Some board) × Holds board) ones
notes_hold Holds board_at [] holds known = All-nil (λ (one : ServedOne). (board : Board) × (board_at one.front ≡ Some board) × Holds board)
notes_hold Holds board_at (one ∷ ones) holds known =
    let there = All-head (IsKnown board_at) one ones known in
    All-cons (λ (one : ServedOne). (board : Board) × (board_at one.front ≡ Some board) × Holds board) one ones
    (there.0, there.1, holds one.front there.0 there.1) (notes_hold Holds board_at ones holds (All-tail (IsKnown board_at) one ones known))

-- if the reader sees revisions, the answers of the notes are from revisions
from_revisions : (edition : Option BoardAt) (reader : EdgeReader) (ones : List ServedOne) → SeesRevisions edition reader
    → All (IsKnown (board_of (seen_by reader))) ones → IfSome edition (λ opening. AnswersFromRevisions opening reader ones)
from_revisions None reader ones revisions known = tt
from_revisions (Some opening) reader ones revisions known = record {
  slots = λ line sees slot h comes.
      notes_hold (SlotRepresented line sees slot) (board_of (seen_by reader)) ones (revisions.slots line sees slot h comes) known;
  tokens = λ histories lines comes.
      notes_hold (ShowsRevisions histories) (board_of (seen_by reader)) ones (revisions.tokens histories lines comes) known;
}

-- ---- a link

-- after a reader that began with installs served a link, `Began` still holds
link_began : (edition : Option BoardAt) (installs : List Install) (before after : EdgeWorker) (link link_after : LinkView)
    → Began edition installs before.reader
    → ServesOver before.reader before.book before.coming link link_after after.reader after.book after.coming
    → Began edition installs after.reader
link_began edition installs before after link link_after h served = record {
  first = h.first;
  begins = h.begins;
  continues = continued_on (past_of h.first) (past_of before.reader) (past_of after.reader) (continuation_of h.first) (continuation_of before.reader)
      (continuation_of after.reader) h.continues served.continues;
  least = omega (arith, h.least, risen (least_front before.reader) (least_front after.reader) served.ones served.fronts);
}

-- if a worker whose reader began with installs served a link, `WorkerServes` holds, and the reader still began with these installs
pub serves_after : (edition : Option BoardAt) (installs : List Install) (before after : EdgeWorker) (link link_after : LinkView)
    → Began edition installs before.reader
    → ServesOver before.reader before.book before.coming link link_after after.reader after.book after.coming
    → WorkerServes edition installs before link link_after after × Began edition installs after.reader
serves_after edition installs before after link link_after h served =
    let later = link_began edition installs before after link link_after h served in
    let answers = known_after edition installs after.reader later in
    let known = all_known (board_of (seen_by after.reader)) (noted [] before.book.counts) (noted served.ones served.summed) served.end
    (length served.ones) (All-nil (IsKnown (board_of (seen_by after.reader)))) served.converses.answered in (
      record {
        served = served;
        over = notes_after edition installs after.reader (least_front before.reader) (least_front after.reader) served.ones answers h.least
            served.fronts known;
        revisions = from_revisions edition after.reader served.ones (sees_revisions edition installs after.reader answers) known;
      },
      later,
    )
