-- How an edge makes its first turn, and then serves links concurrently. In a turn, the poller asks the upstream for the token book and
-- then for the state of each slot. An install is one change of the board. The front of a board is the number of installs that led to it.
use Rattle.std.specs.Prelude.{◌≡◌, ◌≤◌, ℕ, zero, suc, List, [], All, length, map, IfSome, Option, Some}
use Rattle.std.specs.List.{AllZip}
use Rattle.unl_core.specs.Board.{empty_slot}
use Rattle.unl_core.specs.DeskStates.{place_at}
use Rattle.unl_core.specs.declared.board.Board.{Board}
use Rattle.unl_core.specs.declared.board.Install.{Install}
use Rattle.unl_delta.specs.Installing.{Installed}
use Rattle.unl_edge.specs.LinkHandling.{AnswersFromRevisions, NotedAfter, ServesOver}
use Rattle.unl_edge.specs.Polling.{PollsUpstream}
use Rattle.unl_edge.specs.WorkerBooks.{WorkerBook, book_of}
use Rattle.unl_edge.specs.declared.link_handler.EdgeLinkHandler.{EdgeLinkHandler}
use Rattle.unl_edge_state.specs.Editions.{BoardAt, orderly_opening}
use Rattle.unl_edge_state.specs.Histories.{SeesRevisions}
use Rattle.unl_edge_state.specs.Reading.{AnswersAfter, StartsReader, SeesInOrder, seen_by, learned_front_of}
use Rattle.unl_edge_state.specs.Writing.{LeadsTo, publication_of}
use Rattle.unl_edge_state.specs.declared.reader.EdgeReader.{EdgeReader}
use Rattle.unl_server.specs.Handling.{Coming}
use Rattle.unl_server.specs.Links.{LinkView}
use Rattle.unl_refresh.specs.Delivery.{AreSlotLines, HasRevisions, PublishesRevision, SlotLines, TurnReceivesSent}
use Rattle.unl_refresh.specs.Exchange.{PeerView}
use Rattle.unl_refresh.specs.SlotParameters.{no_tags, slot_parameters}
use Rattle.unl_refresh.specs.Turns.{Duty, poll_state}
use Rattle.unl_words.specs.Lists.{environment_of}
use Rattle.unl_words.specs.declared.words.EdgeArguments.{EdgeArguments}
use Rattle.unl_workers.specs.declared.worker.WorkerSlot.{WorkerSlot}

-- what an edge service starts from: what its poller works with, what is installed before the first turn, the opening board (`edition`;
-- `None` if it is not known), and the number of workers
pub record EdgeService : Type 0 where
  pub duty : Duty
  pub opening : Installed
  pub edition : Option BoardAt
  pub workers : ℕ

-- what is installed if no install has changed this board: the places of its slots and its book, at front 0
abbrev pub opened : Board → Installed
opened board = record { places = map place_at board.slots; front = 0; book = board.book; publications = Some [] }

-- the board that an edge begins with: its boot number (a random number, drawn at each start), its host, an empty slot for each of the
-- upstream's tokens, and an empty token book
abbrev pub begun_board : ℕ → List ℕ → List (List ℕ) → Board
begun_board boot host upstream_tokens =
    record { boot = boot; host = host; generation = 0; book = []; slots = map empty_slot (map environment_of upstream_tokens) }

-- the edge service with this duty, this opening board and this many workers
abbrev pub service_at : Duty → Board → ℕ → EdgeService
service_at duty board workers =
    record { duty = duty; opening = opened board; edition = Some (orderly_opening board); workers = workers }

-- what the poller works with, from the arguments; at the start it has no entity tags, and no metrics to send
abbrev pub duty_of : EdgeArguments → Duty
duty_of words = record {
  known = words.tokens;
  slots = length words.upstream_tokens;
  slot_pollers = slot_parameters words.upstream words.delta words.upstream_tokens (map environment_of words.upstream_tokens);
  upstream = words.upstream;
  tags = no_tags words.upstream_tokens;
  metrics = [];
}

-- the edge service that begins with these arguments and this boot number
abbrev pub service_of : EdgeArguments → ℕ → EdgeService
service_of words boot = service_at (duty_of words) (begun_board boot words.host words.upstream_tokens) words.workers

-- a worker's state: its reader, its metrics, and the draws to come
pub record EdgeWorker : Type 0 where
  pub reader : EdgeReader
  pub book : WorkerBook
  pub coming : Coming

-- a worker's state, from its worker slot; `coming_of` maps the slot's source of draws to the draws to come
abbrev pub edge_worker : {W R : Type 0} → (R → Coming) → WorkerSlot (EdgeLinkHandler W) R → EdgeWorker
edge_worker coming_of pool_slot =
    record { reader = pool_slot.server.desk.reader; book = book_of pool_slot.server; coming = coming_of pool_slot.draws }

-- A worker served this link. It computed each of its answers from the opening board after a list of installs that starts with `installs`.
-- If each version in the list that the worker's reader last saw came by a batch that can be sent from the line of its environment, each
-- answer was computed from one revision of that line, as the token sees it.
pub record WorkerServes
    (edition : Option BoardAt) (installs : List Install) (before : EdgeWorker) (link link_after : LinkView)
    (after : EdgeWorker) : Type 0 where
  pub served : ServesOver before.reader before.book before.coming link link_after after.reader after.book after.coming
  pub over : All (NotedAfter edition installs after.reader) served.ones
  pub revisions : IfSome edition (λ opening. AnswersFromRevisions opening after.reader served.ones)

-- a worker served some link
pub record ServesALink (edition : Option BoardAt) (installs : List Install) (before after : EdgeWorker) : Type 0 where
  pub link : LinkView
  pub link_after : LinkView
  pub served : WorkerServes edition installs before link link_after after

-- a worker served `n` links, one after another
abbrev pub WorkerServesLinks : Option BoardAt → List Install → ℕ → EdgeWorker → EdgeWorker → Type 0
WorkerServesLinks edition installs zero before after = after ≡ before
WorkerServesLinks edition installs (suc n) before after =
    (middle : EdgeWorker) × WorkerServesLinks edition installs n before middle × ServesALink edition installs middle after

-- a worker served some number of links
abbrev pub Works : Option BoardAt → List Install → EdgeWorker → EdgeWorker → Type 0
Works edition installs before after = (links : ℕ) × WorkerServesLinks edition installs links before after

-- `workers` workers served links concurrently. Before its first link, each worker knew the opening board `edition` and exactly the
-- installs `installs`. It computed each answer from the opening board after a list of installs that starts with `installs`. The list
-- that each worker saw is orderly: each version in it results from a batch that applies to the slot's previous version. From each board
-- that a worker knows to one at a larger front, no slot gets an older version or becomes empty. If each version in the list that a
-- worker saw came by a batch that can be sent from the line of its environment, each board that the worker knows has revisions of these
-- lines (`SeesRevisions`).
pub record WorkConcurrently (workers : ℕ) (edition : Option BoardAt) (installs : List Install) : Type 0 where
  pub begun : List EdgeWorker
  pub ended : List EdgeWorker
  pub many : length begun ≡ workers
  pub opens : All (λ worker. (seen_by worker.reader).opening ≡ edition) begun
  pub learned : All (λ worker. length installs ≤ learned_front_of worker.reader) begun
  pub begins : All (λ worker. StartsReader edition installs worker.reader) begun
  pub worked : AllZip (Works edition installs) begun ended
  pub over : All (λ worker. AnswersAfter edition installs worker.reader) ended
  pub ordered : All (λ worker. SeesInOrder worker.reader) ended
  pub revisions : All (λ worker. SeesRevisions edition worker.reader) ended

-- The upstream was polled. In the first turn the book and each slot were asked for, and what was installed is what the replies say; the
-- peer may have failed in an exchange. Each later turn was made too, or ended early because memory ran out; of a later turn nothing is
-- said if the front was near 2^64 or there were fewer places than slots. `installs` leads from the opening board to what the first turn
-- installed, and is exactly what that turn published. If each batch that it received was sent from the line of the slot that it was
-- received for, each version in `installs` represents that line. After that turn the workers began with `installs`, and each answer on
-- each link was computed from the opening board after a list of installs that starts with `installs`.
pub record RunsService (service : EdgeService) (peer peer_after : PeerView) : Type 0 where
  pub first : Installed
  pub installs : List Install
  pub leads : LeadsTo service.edition installs first
  pub polls : PollsUpstream service.duty service.opening peer first peer_after
  pub revisions : (lines : SlotLines) → AreSlotLines lines
      → TurnReceivesSent lines service.duty.known service.duty.upstream service.duty.slot_pollers
      (poll_state service.opening service.duty.tags service.duty.metrics peer) polls.begun polls.turn
      → HasRevisions lines service.opening → All (PublishesRevision lines) (map publication_of installs)
  pub work : WorkConcurrently service.workers service.edition installs
