-- Lemmas that turn facts about worker slots into facts about the workers of an edge (`EdgeWorker`).
use Rattle.std.proofs.Common.{◌≡◌, ◌≤◌, ◌+◌, ◌∙◌, ℕ, zero, suc, List, [], ◌∷◌, ◌++◌, length, map, Option, Some, Result, Ok, Err}
use Rattle.std.proofs.Common.{ap, arith, refl, subst, sym}
use Rattle.std.specs.Prelude.{All, IfSome, OnOk}
use Rattle.std.specs.List.{AllZip}
use Rattle.std.proofs.lemmas.List.{length-map}
use Rattle.std.proofs.lemmas.List.Elements.{All-cons, All-head, All-nil, All-push, All-tail}
use Rattle.unl_base.specs.Doors.{DoorState}
use Rattle.unl_core.specs.declared.board.Install.{Install}
use Rattle.unl_edge.specs.LinkHandling.{HasLearned, IsOfOrigin, ReadsOnAt, ServesAt}
use Rattle.unl_edge.specs.EdgeServices.{WorkConcurrently, EdgeWorker, WorkerServesLinks, Works, edge_worker}
use Rattle.unl_edge.specs.WorkerBooks.{book_of}
use Rattle.unl_edge.proofs.Answering.{Began, began, known_after, serves_after}
use Rattle.unl_edge.specs.declared.link_handler.EdgeLinkHandler.{EdgeLinkHandler}
use Rattle.unl_edge_state.specs.Editions.{BoardAt}
use Rattle.unl_edge_state.specs.Reading.{AnswersAfter, StartsReader, IsNewReader, SeesInOrder, seen_by, learned_front_of}
use Rattle.unl_edge_state.specs.Histories.{SeesRevisions}
use Rattle.unl_edge_state.proofs.Looks.{sees_in_order}
use Rattle.unl_edge_state.proofs.FromLines.{sees_revisions}
use Rattle.unl_edge_state.specs.Writing.{Writing, installed_by}
use Rattle.unl_edge.specs.Edges.{accepted_in}
use Rattle.unl_edge.specs.Polling.{PollsOn, Refreshing, refreshing}
use Rattle.unl_refresh.specs.Exchange.{PeerView}
use Rattle.unl_refresh.specs.MetricsQueues.{Intake}
use Rattle.unl_refresh.specs.Turns.{Duty, poll_state}
use Rattle.unl_workers.specs.declared.pool.PoolOutcome.{PoolOutcome}
use Rattle.unl_edge_state.specs.declared.reader.EdgeReader.{EdgeReader}
use Rattle.unl_server.specs.Handling.{Coming}
use Rattle.unl_metrics.specs.Book.{Book}
use Rattle.unl_publication.specs.declared.knowledge.Knowledge.{Knowledge}
use Rattle.unl_publication.specs.Rule.{shared_knowledge}
use Rattle.unl_refresh.proofs.Connecting.{connects_still}
use Rattle.unl_refresh.specs.Connects.{Connects}
use Rattle.unl_workers.specs.Pool.{AcceptedIn, HasCauses}
use Rattle.unl_workers.specs.Serving.{ServesSlot, ServesMany, ServerAndDraws, serving}
use Rattle.unl_workers.specs.declared.acceptor.AcceptOutcome.{AcceptOutcome}
use Rattle.unl_workers.specs.declared.pool.PoolFault.{PoolFault}
use Rattle.unl_workers.specs.declared.pool.PoolFault.TheVariants.{Spawner, Memory}
use Rattle.unl_workers.specs.declared.worker.WorkerSlot.{WorkerSlot}

-- a worker's state, from its link handler and its draws to come
works_by : {W : Type 0} → ServerAndDraws (EdgeLinkHandler W) → EdgeWorker
works_by serving = record { reader = serving.server.desk.reader; book = book_of serving.server; coming = serving.coming }

-- if a link handler served `n` links with a reader that began with installs, `WorkerServesLinks` and `Began` hold afterwards
links_served : {W : Type 0} (edition : Option BoardAt) (installs : List Install) (n : ℕ) (before after : ServerAndDraws (EdgeLinkHandler W))
    → Began edition installs before.server.desk.reader → ServesMany ServesAt n before after
    → WorkerServesLinks edition installs n (works_by before) (works_by after) × Began edition installs after.server.desk.reader
unfolding works_by
links_served {W} edition installs zero before after start many =
    (ap works_by many, subst (λ (s : ServerAndDraws (EdgeLinkHandler W)). Began edition installs s.server.desk.reader) (sym many) start)
links_served edition installs (suc n) before after start many =
    let earlier = links_served edition installs n before many.0 start many.1 in
    let one = many.2 in
    let last = serves_after edition installs (works_by many.0) (works_by after) one.link one.link_after earlier.1 one.served in
    ((works_by many.0, earlier.0, record { link = one.link; link_after = one.link_after; served = last.0 }), last.1)

-- the worker of a slot served some number of links (`Works`), and `AnswersAfter` holds of its reader afterwards
served_links : {W R : Type 0} (coming_of : R → Coming) (edition : Option BoardAt) (installs : List Install)
    (before after : WorkerSlot (EdgeLinkHandler W) R) → Began edition installs before.server.desk.reader
    → ServesSlot ServesAt ReadsOnAt coming_of before after
    → Works edition installs (edge_worker coming_of before) (edge_worker coming_of after) × AnswersAfter edition installs after.server.desk.reader
unfolding works_by
served_links coming_of edition installs before after start attends =
    let links = links_served edition installs after.links (serving before.server (coming_of before.draws))
    (serving after.server (coming_of after.draws)) start attends.served in
    ((after.links, links.0), known_after edition installs after.server.desk.reader links.1)

-- as `served_links`, for the workers of all slots
pub all_served_links : {W R : Type 0} (coming_of : R → Coming) (known : Knowledge BoardAt Install) (before after : List (WorkerSlot (EdgeLinkHandler W) R))
    → All (λ pool_slot. HasLearned known pool_slot.server.desk.reader) before → AllZip (ServesSlot ServesAt ReadsOnAt coming_of) before after
    → AllZip (Works known.opening known.installs) (map (edge_worker coming_of) before) (map (edge_worker coming_of) after)
    × All (λ worker. AnswersAfter known.opening known.installs worker.reader) (map (edge_worker coming_of) after)
all_served_links coming_of known [] [] learned all =
    (tt, All-nil (λ (worker : EdgeWorker). AnswersAfter known.opening known.installs worker.reader))
all_served_links coming_of known [] (last ∷ after) learned all = absurd all
all_served_links coming_of known (first ∷ before) [] learned all = absurd all
all_served_links {W} {R} coming_of known (first ∷ before) (last ∷ after) learned all =
    let one = served_links coming_of known.opening known.installs first last (began known first.server.desk.reader
    (All-head (λ (p : WorkerSlot (EdgeLinkHandler W) R). HasLearned known p.server.desk.reader) first before learned)) all.0 in
    let others = all_served_links coming_of known before after
    (All-tail (λ (p : WorkerSlot (EdgeLinkHandler W) R). HasLearned known p.server.desk.reader) first before learned) all.1 in (
      (one.0, others.0),
      All-cons (λ (worker : EdgeWorker). AnswersAfter known.opening known.installs worker.reader) (edge_worker coming_of last)
          (map (edge_worker coming_of) after) one.1 others.1,
    )

-- the readers of the slots have learned of at least all known installs
pub all_learned : {W R : Type 0} (coming_of : R → Coming) (known : Knowledge BoardAt Install) (pool_slots : List (WorkerSlot (EdgeLinkHandler W) R))
    → All (λ pool_slot. HasLearned known pool_slot.server.desk.reader) pool_slots
    → All (λ worker. length known.installs ≤ learned_front_of worker.reader) (map (edge_worker coming_of) pool_slots)
all_learned coming_of known [] learned = All-nil (λ (worker : EdgeWorker). length known.installs ≤ learned_front_of worker.reader)
all_learned {W} {R} coming_of known (pool_slot ∷ pool_slots) learned =
    All-cons (λ (worker : EdgeWorker). length known.installs ≤ learned_front_of worker.reader) (edge_worker coming_of pool_slot) (map (edge_worker coming_of) pool_slots)
    (All-head (λ (p : WorkerSlot (EdgeLinkHandler W) R). HasLearned known p.server.desk.reader) pool_slot pool_slots learned).least
    (all_learned coming_of known pool_slots (All-tail (λ (p : WorkerSlot (EdgeLinkHandler W) R). HasLearned known p.server.desk.reader) pool_slot pool_slots learned))

-- the readers of the slots have seen the opening board of `known`
pub all_open : {W R : Type 0} (coming_of : R → Coming) (known : Knowledge BoardAt Install) (pool_slots : List (WorkerSlot (EdgeLinkHandler W) R))
    → All (λ pool_slot. HasLearned known pool_slot.server.desk.reader) pool_slots
    → All (λ worker. (seen_by worker.reader).opening ≡ known.opening) (map (edge_worker coming_of) pool_slots)
all_open coming_of known [] learned = All-nil (λ (worker : EdgeWorker). (seen_by worker.reader).opening ≡ known.opening)
all_open {W} {R} coming_of known (pool_slot ∷ pool_slots) learned =
    All-cons (λ (worker : EdgeWorker). (seen_by worker.reader).opening ≡ known.opening) (edge_worker coming_of pool_slot) (map (edge_worker coming_of) pool_slots)
    (All-head (λ (p : WorkerSlot (EdgeLinkHandler W) R). HasLearned known p.server.desk.reader) pool_slot pool_slots learned).opens
    (all_open coming_of known pool_slots (All-tail (λ (p : WorkerSlot (EdgeLinkHandler W) R). HasLearned known p.server.desk.reader) pool_slot pool_slots learned))

-- a reader that begins with a report of the writer begins with the writer's installs
pub begins_shared : (known : Knowledge BoardAt Install) (reported : Option (Knowledge BoardAt Install)) (reader : EdgeReader)
    → IfSome reported (λ list. list ≡ shared_knowledge known)
    → (list : Knowledge BoardAt Install) × (reported ≡ Some list) × StartsReader list.opening list.installs reader
    → StartsReader known.opening known.installs reader
begins_shared known reported reader shared said =
    let same : said.0 ≡ shared_knowledge known =
    subst (λ (o : Option (Knowledge BoardAt Install)). IfSome o (λ list. list ≡ shared_knowledge known)) said.1 shared in
    subst (λ (list : Knowledge BoardAt Install). StartsReader list.opening list.installs reader) same said.2

-- the readers of the slots begin with the installs of `known`
pub all_begin : {W R : Type 0} (coming_of : R → Coming) (known : Knowledge BoardAt Install) (pool_slots : List (WorkerSlot (EdgeLinkHandler W) R))
    → All (λ pool_slot. HasLearned known pool_slot.server.desk.reader) pool_slots
    → All (λ worker. StartsReader known.opening known.installs worker.reader) (map (edge_worker coming_of) pool_slots)
all_begin coming_of known [] learned = All-nil (λ (worker : EdgeWorker). StartsReader known.opening known.installs worker.reader)
all_begin {W} {R} coming_of known (pool_slot ∷ pool_slots) learned =
    All-cons (λ (worker : EdgeWorker). StartsReader known.opening known.installs worker.reader) (edge_worker coming_of pool_slot) (map (edge_worker coming_of) pool_slots)
    (All-head (λ (p : WorkerSlot (EdgeLinkHandler W) R). HasLearned known p.server.desk.reader) pool_slot pool_slots learned).begins
    (all_begin coming_of known pool_slots (All-tail (λ (p : WorkerSlot (EdgeLinkHandler W) R). HasLearned known p.server.desk.reader) pool_slot pool_slots learned))

-- the lists and boards that the readers of the slots see are in order
pub all_ordered : {W R : Type 0} (coming_of : R → Coming) (pool_slots : List (WorkerSlot (EdgeLinkHandler W) R))
    → All (λ worker. SeesInOrder worker.reader) (map (edge_worker coming_of) pool_slots)
all_ordered coming_of [] = All-nil (λ (worker : EdgeWorker). SeesInOrder worker.reader)
all_ordered {W} {R} coming_of (pool_slot ∷ pool_slots) =
    All-cons (λ (worker : EdgeWorker). SeesInOrder worker.reader) (edge_worker coming_of pool_slot) (map (edge_worker coming_of) pool_slots)
    (sees_in_order pool_slot.server.desk.reader pool_slot.server.desk.steady) (all_ordered coming_of pool_slots)

-- workers that answer from boards after these installs see revisions
pub all_see_revisions : (edition : Option BoardAt) (installs : List Install) (workers : List EdgeWorker)
    → All (λ worker. AnswersAfter edition installs worker.reader) workers → All (λ worker. SeesRevisions edition worker.reader) workers
all_see_revisions edition installs [] answers = All-nil (λ (worker : EdgeWorker). SeesRevisions edition worker.reader)
all_see_revisions edition installs (worker ∷ workers) answers =
    All-cons (λ (worker : EdgeWorker). SeesRevisions edition worker.reader) worker workers
    (sees_revisions edition installs worker.reader
    (All-head (λ (worker : EdgeWorker). AnswersAfter edition installs worker.reader) worker workers answers))
    (all_see_revisions edition installs workers
    (All-tail (λ (worker : EdgeWorker). AnswersAfter edition installs worker.reader) worker workers answers))

-- with one more slot whose reader has learned `known`, all readers have
pub learned_more : {W R : Type 0} (known now : Knowledge BoardAt Install) (pool_slots longer : List (WorkerSlot (EdgeLinkHandler W) R)) (pool_slot : WorkerSlot (EdgeLinkHandler W) R)
    → now ≡ known → longer ≡ pool_slots ++ pool_slot ∷ [] → All (λ pool_slot. HasLearned known pool_slot.server.desk.reader) pool_slots → HasLearned now pool_slot.server.desk.reader
    → All (λ pool_slot. HasLearned known pool_slot.server.desk.reader) longer
learned_more {W} {R} known now pool_slots longer pool_slot same more learned one =
    subst (λ (all : List (WorkerSlot (EdgeLinkHandler W) R)). All (λ p. HasLearned known p.server.desk.reader) all) (sym more)
    (All-push (λ (p : WorkerSlot (EdgeLinkHandler W) R). HasLearned known p.server.desk.reader) pool_slots pool_slot learned
    (subst (λ (k : Knowledge BoardAt Install). HasLearned k pool_slot.server.desk.reader) same one))

-- if all readers of a list have the writer's origin, so have those after the first
pub others_of : (known : Knowledge BoardAt Install) (readers rest : List EdgeReader) (reader : EdgeReader) → readers ≡ reader ∷ rest
    → All (IsOfOrigin known) readers → All (IsOfOrigin known) rest
others_of known readers rest reader steps all =
    All-tail (IsOfOrigin known) reader rest (subst (λ (rs : List EdgeReader). All (IsOfOrigin known) rs) steps all)

-- if all readers of a list are new, so are those after the first
pub others_new : (readers rest : List EdgeReader) (reader : EdgeReader) → readers ≡ reader ∷ rest → All IsNewReader readers → All IsNewReader rest
others_new readers rest reader steps all =
    All-tail IsNewReader reader rest (subst (λ (rs : List EdgeReader). All IsNewReader rs) steps all)

-- the workers of these slots worked concurrently
unfoldable pub work_concurrently : {W R : Type 0} (coming_of : R → Coming) (known : Knowledge BoardAt Install) (before after : List (WorkerSlot (EdgeLinkHandler W) R))
    (workers : ℕ) → length before ≡ workers → All (λ pool_slot. HasLearned known pool_slot.server.desk.reader) before
    → AllZip (ServesSlot ServesAt ReadsOnAt coming_of) before after → WorkConcurrently workers known.opening known.installs
work_concurrently coming_of known before after workers many learned all =
    let works = all_served_links coming_of known before after learned all in record {
      begun = map (edge_worker coming_of) before;
      ended = map (edge_worker coming_of) after;
      many = length-map before (edge_worker coming_of) ∙ many;
      opens = all_open coming_of known before learned;
      learned = all_learned coming_of known before learned;
      begins = all_begin coming_of known before learned;
      worked = works.0;
      over = works.1;
      ordered = all_ordered coming_of after;
      revisions = all_see_revisions known.opening known.installs (map (edge_worker coming_of) after) works.1;
    }

-- ---- what the door handed out

-- the door handed out as many links as the pool says
pub accepted_so : {S R : Type 0} (served : Result (PoolOutcome S R) PoolFault) (result : Result AcceptOutcome PoolFault)
    (before after : DoorState) → result ≡ accepted_in served
    → AcceptedIn (λ (outcome : PoolOutcome S R). outcome.accepted) served before after
    → AcceptedIn (λ (accepted : AcceptOutcome). accepted) result before after
accepted_so (Ok outcome) result before after is accepts =
    subst (λ (r : Result AcceptOutcome PoolFault). AcceptedIn (λ (accepted : AcceptOutcome). accepted) r before after) (sym is) accepts
accepted_so (Err fault) result before after is accepts =
    subst (λ (r : Result AcceptOutcome PoolFault). AcceptedIn (λ (accepted : AcceptOutcome). accepted) r before after) (sym is) accepts

-- the door failed, or a thread couldn't be started, only if the pool says so
pub caused_so : {S R : Type 0} (served : Result (PoolOutcome S R) PoolFault) (result : Result AcceptOutcome PoolFault)
    (door door_after threads threads_after : ℕ) → result ≡ accepted_in served
    → HasCauses (λ (outcome : PoolOutcome S R). outcome.accepted) served door door_after threads threads_after
    → HasCauses (λ (accepted : AcceptOutcome). accepted) result door door_after threads threads_after
caused_so {S} {R} served result door door_after threads threads_after is causes =
    subst (λ (r : Result AcceptOutcome PoolFault). HasCauses (λ (accepted : AcceptOutcome). accepted) r door door_after threads threads_after)
    (sym is) (by_result served causes)
  where
    by_result : (served : Result (PoolOutcome S R) PoolFault)
        → HasCauses (λ (outcome : PoolOutcome S R). outcome.accepted) served door door_after threads threads_after
        → HasCauses (λ (accepted : AcceptOutcome). accepted) (accepted_in served) door door_after threads threads_after
    by_result (Ok outcome) causes = record {
      door_later = causes.door_later;
      spawner_later = causes.spawner_later;
      door = causes.door;
      spawner = λ same. absurd (cc same);
    }
    by_result (Err Spawner) causes = record {
      door_later = causes.door_later;
      spawner_later = causes.spawner_later;
      door = tt;
      spawner = λ same. causes.spawner refl;
    }
    by_result (Err Memory) causes = record {
      door_later = causes.door_later;
      spawner_later = causes.spawner_later;
      door = tt;
      spawner = λ same. absurd (cc same);
    }

-- ---- an edge service

-- the connections of the first turn count for the whole run, whatever later turns add
pub asked_first : (slots places : ℕ) {replies later : Option (List (List ℕ))} (last : Option (List (List ℕ))) {faults middle : ℕ} (after : ℕ)
    (served : Result AcceptOutcome PoolFault)
    → slots ≡ places → Connects (slots + 1) replies faults later middle → OnOk served (Connects 0 later middle last after)
    → OnOk served (Connects (places + 1) replies faults last after)
asked_first slots places {replies} last {faults} after (Ok accepted) count first then =
    subst (λ (n : ℕ). Connects (n + 1) replies faults last after) count (connects_still first then)
asked_first slots places last after (Err fault) count first then = tt

-- the turns that were made while links were served, stated from an equal state of the writer and an equal intake of the receiver
pub polls_through : {W R : Type 0} (served : Result (PoolOutcome (EdgeLinkHandler W) R) PoolFault) (duty : Duty) (writer same_writer : Writing)
    (tags : List (Option (List ℕ))) (metrics : Book) (peer : PeerView) (intake same_intake : Intake) (after : Refreshing)
    → OnOk served (PollsOn duty (refreshing (poll_state (installed_by same_writer) tags metrics peer) same_intake) after)
    → same_writer ≡ writer → same_intake ≡ intake
    → OnOk served (PollsOn duty (refreshing (poll_state (installed_by writer) tags metrics peer) intake) after)
polls_through served duty writer same_writer tags metrics peer intake same_intake after polls writers intakes =
    subst (λ (w : Writing). OnOk served (PollsOn duty (refreshing (poll_state (installed_by w) tags metrics peer) intake) after)) writers
    (subst (λ (i : Intake). OnOk served (PollsOn duty (refreshing (poll_state (installed_by same_writer) tags metrics peer) i) after)) intakes polls)
