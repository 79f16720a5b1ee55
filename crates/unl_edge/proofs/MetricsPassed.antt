-- The metrics that workers handed over are those that the poller's turns took and those that still wait in the queue.
use Rattle.std.proofs.Common.{◌≡◌, ◌∙◌, ◌<◌, ◌+◌, ◌-◌, ◌^◌, ℕ, List, [], ◌∷◌, ◌++◌, length, map, Option, Result, Ok, Err}
use Rattle.std.proofs.Common.{ap, append-nil, append_assoc, arith, refl, subst, sym}
use Rattle.std.specs.Prelude.{All, IfOk, OnOk, flat_map}
use Rattle.std.specs.List.{AllZip}
use Rattle.std.proofs.lemmas.List.Elements.{All-cons, All-head, All-nil, All-push, All-tail}
use Rattle.unl_base.specs.Doors.{DoorState}
use Rattle.unl_core.specs.declared.board.Install.{Install}
use Rattle.unl_edge.specs.EdgeLinks.{WorkDuringTurns}
use Rattle.unl_edge.specs.EdgeServices.{EdgeWorker, edge_worker}
use Rattle.unl_edge.specs.Edges.{accepted_in}
use Rattle.unl_edge.specs.LinkHandling.{HasLearned, ReadsOnAt, ServesAt}
use Rattle.unl_edge.specs.Polling.{KeepsReceiver, PollsOn, refreshing}
use Rattle.unl_edge.specs.WorkerBooks.{HandsTo, HasNewBook, handed_at, new_book}
use Rattle.unl_edge.specs.declared.link_handler.EdgeLinkHandler.{EdgeLinkHandler}
use Rattle.unl_edge.proofs.ServingEachLink.{each_served}
use Rattle.unl_edge.proofs.Working.{work_concurrently}
use Rattle.unl_edge_state.specs.Editions.{BoardAt}
use Rattle.unl_metrics.specs.Book.{Book}
use Rattle.unl_publication.specs.declared.knowledge.Knowledge.{Knowledge}
use Rattle.unl_refresh.specs.Handovers.{SameBooks, weigh}
use Rattle.unl_refresh.specs.MetricsQueues.{Intake, Receiving, no_intake}
use Rattle.unl_refresh.specs.Turns.{Duty, PollState}
use Rattle.unl_server.specs.Handling.{Coming}
use Rattle.unl_workers.specs.Serving.{ServesSlot}
use Rattle.unl_workers.specs.Shares.{EachLinkServedOnce}
use Rattle.unl_workers.specs.declared.acceptor.AcceptOutcome.{AcceptOutcome}
use Rattle.unl_workers.specs.declared.pool.PoolFault.{PoolFault}
use Rattle.unl_workers.specs.declared.pool.PoolOutcome.{PoolOutcome}
use Rattle.unl_workers.specs.declared.worker.WorkerSlot.{WorkerSlot}

-- ---- slots with new books

-- If a receiver gives one more part (a share of the right to use the queue) to a sender, still only its number of parts has changed.
pub less_parts : (first v w : Receiving) → v ≡ record first { parts = v.parts } → w ≡ record v { parts = v.parts - 1 }
    → w ≡ record first { parts = w.parts }
less_parts first v w kept less = λ i. record {
  queue = (ap (λ (r : Receiving). r.queue) less ∙ ap (λ (r : Receiving). r.queue) kept) i;
  parts = w.parts;
  handed = (ap (λ (r : Receiving). r.handed) less ∙ ap (λ (r : Receiving). r.handed) kept) i;
  intake = (ap (λ (r : Receiving). r.intake) less ∙ ap (λ (r : Receiving). r.intake) kept) i;
}

-- if each slot has a new book, so has each slot after one more slot with a new book was appended
pub books_more : {W R : Type 0} (first now : Receiving) (pool_slots longer : List (WorkerSlot (EdgeLinkHandler W) R))
    (pool_slot : WorkerSlot (EdgeLinkHandler W) R) → now ≡ record first { parts = now.parts } → longer ≡ pool_slots ++ pool_slot ∷ []
    → All (λ pool_slot. HasNewBook first pool_slot.server) pool_slots → HasNewBook now pool_slot.server
    → All (λ pool_slot. HasNewBook first pool_slot.server) longer
books_more {W} {R} first now pool_slots longer pool_slot same more books one =
    subst (λ (all : List (WorkerSlot (EdgeLinkHandler W) R)). All (λ p. HasNewBook first p.server) all) (sym more)
    (All-push (λ (p : WorkerSlot (EdgeLinkHandler W) R). HasNewBook first p.server) pool_slots pool_slot books
    (record { new = one.new; queue = one.queue ∙ ap (λ (r : Receiving). r.queue) same }))

-- the workers of slots with new books begin with new books
all_new : {W R : Type 0} (coming_of : R → Coming) (receiver : Receiving) (pool_slots : List (WorkerSlot (EdgeLinkHandler W) R))
    → All (λ pool_slot. HasNewBook receiver pool_slot.server) pool_slots
    → All (λ worker. worker.book ≡ new_book) (map (edge_worker coming_of) pool_slots)
all_new coming_of receiver [] books = All-nil (λ (worker : EdgeWorker). worker.book ≡ new_book)
all_new {W} {R} coming_of receiver (pool_slot ∷ pool_slots) books =
    All-cons (λ (worker : EdgeWorker). worker.book ≡ new_book) (edge_worker coming_of pool_slot) (map (edge_worker coming_of) pool_slots)
    (All-head (λ (p : WorkerSlot (EdgeLinkHandler W) R). HasNewBook receiver p.server) pool_slot pool_slots books).new
    (all_new coming_of receiver pool_slots (All-tail (λ (p : WorkerSlot (EdgeLinkHandler W) R). HasNewBook receiver p.server) pool_slot pool_slots books))

-- ---- senders that are taken back

-- if one more sender is taken back, still only the receiver's number of parts and its list of books handed over have changed
pub more_parts : (first v w : Receiving) (parts : ℕ) (handed : List Book) → v ≡ record first { parts = v.parts; handed = v.handed }
    → w ≡ record v { parts = parts; handed = handed } → w ≡ record first { parts = w.parts; handed = w.handed }
more_parts first v w parts handed kept more = λ i. record {
  queue = (ap (λ (r : Receiving). r.queue) more ∙ ap (λ (r : Receiving). r.queue) kept) i;
  parts = w.parts;
  handed = w.handed;
  intake = (ap (λ (r : Receiving). r.intake) more ∙ ap (λ (r : Receiving). r.intake) kept) i;
}

-- if the books of the senders taken back so far and of those left are all books, this still holds after one more sender was taken back
pub handed_more : {W R : Type 0} (handed now : List Book) (pool_slot : WorkerSlot (EdgeLinkHandler W) R)
    (before rest : List (WorkerSlot (EdgeLinkHandler W) R)) (all : List Book) → handed ++ flat_map handed_at before ≡ all
    → before ≡ pool_slot ∷ rest → now ≡ handed ++ handed_at pool_slot → now ++ flat_map handed_at rest ≡ all
handed_more {W} {R} handed now pool_slot before rest all so_far steps more =
    ap (λ (list : List Book). list ++ flat_map handed_at rest) more
    ∙ (append_assoc handed (handed_at pool_slot) (flat_map handed_at rest)
    ∙ (ap (λ (list : List (WorkerSlot (EdgeLinkHandler W) R)). handed ++ flat_map handed_at list) (sym steps) ∙ so_far))

-- if all senders were taken back, the books that they handed over are those that were taken and those that wait
pub counted_all : {W R : Type 0} (first last : Receiving) (rest all : List (WorkerSlot (EdgeLinkHandler W) R))
    → last ≡ record first { parts = last.parts; handed = last.handed } → last.handed ++ flat_map handed_at rest ≡ flat_map handed_at all
    → length rest ≡ 0 → ((waiting : List Book) × SameBooks last.handed (last.intake.taken ++ waiting))
    → (waiting : List Book) × SameBooks (flat_map handed_at all) (first.intake.taken ++ waiting)
counted_all first last [] all kept handed none counted = (
  counted.0,
  subst (λ (list : List Book). SameBooks list (first.intake.taken ++ counted.0)) (sym (append-nil last.handed) ∙ handed)
      (subst (λ (r : Receiving). SameBooks last.handed (r.intake.taken ++ counted.0)) kept counted.1),
)
counted_all first last (pool_slot ∷ rest) all kept handed none counted = absurd (omega (arith, none))

-- ---- slots that were served

zip_length : {W R : Type 0} (coming_of : R → Coming) (before after : List (WorkerSlot (EdgeLinkHandler W) R))
    → AllZip (ServesSlot ServesAt ReadsOnAt coming_of) before after → length after ≡ length before
zip_length coming_of [] [] all = refl
zip_length coming_of [] (last ∷ after) all = absurd all
zip_length coming_of (first ∷ before) [] all = absurd all
zip_length coming_of (first ∷ before) (last ∷ after) all = let rest = zip_length coming_of before after all.1 in omega arith

all_hand_to : {W R : Type 0} (coming_of : R → Coming) (receiver last_receiver : Receiving)
    (before after : List (WorkerSlot (EdgeLinkHandler W) R)) → last_receiver.queue ≡ receiver.queue
    → All (λ pool_slot. HasNewBook receiver pool_slot.server) before → AllZip (ServesSlot ServesAt ReadsOnAt coming_of) before after
    → All (HandsTo last_receiver) after
all_hand_to {W} {R} coming_of receiver last_receiver [] [] same books all = All-nil (HandsTo {W = W} {R = R} last_receiver)
all_hand_to coming_of receiver last_receiver [] (last ∷ after) same books all = absurd all
all_hand_to coming_of receiver last_receiver (first ∷ before) [] same books all = absurd all
all_hand_to {W} {R} coming_of receiver last_receiver (first ∷ before) (last ∷ after) same books all =
    let New : WorkerSlot (EdgeLinkHandler W) R → Type 0 = λ p. HasNewBook receiver p.server in
    All-cons (HandsTo last_receiver) last after (all.0.keeps.1 ∙ ((All-head New first before books).queue ∙ sym same))
    (all_hand_to coming_of receiver last_receiver before after same (All-tail New first before books) all.1)

-- the senders put books into the queue of the receiver
pub hand_to : {W R : Type 0} (coming_of : R → Coming) (receiver now last : Receiving) (before : List (WorkerSlot (EdgeLinkHandler W) R))
    (served : Result (PoolOutcome (EdgeLinkHandler W) R) PoolFault) → now.queue ≡ receiver.queue
    → All (λ pool_slot. HasNewBook receiver pool_slot.server) before → OnOk served (KeepsReceiver now last)
    → IfOk served (λ outcome. AllZip (ServesSlot ServesAt ReadsOnAt coming_of) before outcome.slots.items)
    → IfOk served (λ outcome. All (HandsTo last) outcome.slots.items)
hand_to coming_of receiver now last before (Ok outcome) same books keeps slots =
    all_hand_to coming_of receiver last before outcome.slots.items (ap (λ (r : Receiving). r.queue) keeps ∙ same) books slots
hand_to coming_of receiver now last before (Err fault) same books keeps slots = tt

-- the senders have all parts that the receiver doesn't have
pub parts_back : {W R : Type 0} (coming_of : R → Coming) (now last : Receiving) (before : List (WorkerSlot (EdgeLinkHandler W) R))
    (served : Result (PoolOutcome (EdgeLinkHandler W) R) PoolFault) → now.parts + length before ≡ 18446744073709551616
    → OnOk served (KeepsReceiver now last) → IfOk served (λ outcome. AllZip (ServesSlot ServesAt ReadsOnAt coming_of) before outcome.slots.items)
    → IfOk served (λ outcome. last.parts + length outcome.slots.items ≡ 18446744073709551616)
parts_back coming_of now last before (Ok outcome) all keeps slots =
    omega (arith, all, ap (λ (r : Receiving). r.parts) keeps, zip_length coming_of before outcome.slots.items slots)
parts_back coming_of now last before (Err fault) all keeps slots = tt

-- ---- the workers and the turns

handed_by_workers : {W R : Type 0} (coming_of : R → Coming) (pool_slots : List (WorkerSlot (EdgeLinkHandler W) R))
    → flat_map (λ (worker : EdgeWorker). worker.book.handed) (map (edge_worker coming_of) pool_slots) ≡ flat_map handed_at pool_slots
handed_by_workers coming_of [] = refl
handed_by_workers coming_of (pool_slot ∷ pool_slots) =
    ap (λ (rest : List Book). handed_at pool_slot ++ rest) (handed_by_workers coming_of pool_slots)

-- The workers served each link once, turns were made, and what the workers handed over was taken or waits.
pub work_during_turns : {W R L : Type 0} (coming_of : R → Coming) (left sent : L → Option (List ℕ)) (faults : L → ℕ) (door door_after : DoorState)
    (known : Knowledge BoardAt Install) (before : List (WorkerSlot (EdgeLinkHandler W) R)) (workers : ℕ) (receiver : Receiving) (duty : Duty)
    (first last : PollState) (intake : Intake) (served : Result (PoolOutcome (EdgeLinkHandler W) R) PoolFault)
    (result : Result AcceptOutcome PoolFault) → result ≡ accepted_in served
    → length before ≡ workers → All (λ pool_slot. HasLearned known pool_slot.server.desk.reader) before
    → All (λ pool_slot. HasNewBook receiver pool_slot.server) before
    → IfOk served (λ outcome. AllZip (ServesSlot ServesAt ReadsOnAt coming_of) before outcome.slots.items)
    → IfOk served (λ outcome. 0 < length before
    → EachLinkServedOnce ServesAt coming_of left sent faults door door_after outcome.accepted.links before outcome.slots.items)
    → OnOk served (PollsOn duty (refreshing first no_intake) (refreshing last intake))
    → IfOk served (λ outcome. (waiting : List Book) × SameBooks (flat_map handed_at outcome.slots.items) (intake.taken ++ waiting))
    → IfOk result (λ accepted. 0 < workers
    → WorkDuringTurns workers known.opening known.installs duty first last door door_after accepted.links)
unfolding work_concurrently
work_during_turns coming_of left sent faults door door_after known before workers receiver duty first last intake (Ok outcome) result is many learned books
    all every polls counted =
    subst (λ (r : Result AcceptOutcome PoolFault).
    IfOk r (λ accepted. 0 < workers → WorkDuringTurns workers known.opening known.installs duty first last door door_after accepted.links))
    (sym is)
    (λ some. record {
      links = record {
        work = work_concurrently coming_of known before outcome.slots.items workers many learned all;
        each = each_served coming_of left sent faults door door_after known outcome.accepted.links before outcome.slots.items learned
            (every (subst (λ (n : ℕ). 0 < n) (sym many) some));
      };
      intake = intake;
      turns = polls;
      metrics = record {
        begins = all_new coming_of receiver before books;
        waiting = counted.0;
        same = λ h. ap (weigh h) (handed_by_workers coming_of outcome.slots.items) ∙ counted.1 h;
      };
    })
work_during_turns coming_of left sent faults door door_after known before workers receiver duty first last intake (Err fault) result is many learned books
    all every polls counted =
    subst (λ (r : Result AcceptOutcome PoolFault).
    IfOk r (λ accepted. 0 < workers → WorkDuringTurns workers known.opening known.installs duty first last door door_after accepted.links))
    (sym is) tt
