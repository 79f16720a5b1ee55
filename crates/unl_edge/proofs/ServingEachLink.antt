-- Lemmas that turn facts about the links of worker slots into facts about the links of an edge's workers (`EachLinkServed`).
use Rattle.std.proofs.Common.{◌≡◌, ◌∙◌, ◌<◌, ℕ, ◌+◌, List, [], ◌∷◌, ◌++◌, length, map, Option, Some, Result, Ok, Err, Bool, true, ap, refl, subst, sym}
use Rattle.std.specs.Prelude.{All, IfOk, IfSome, OnOk, flat_map}
use Rattle.std.specs.List.{AllZip}
use Rattle.std.proofs.lemmas.List.{length-map, map-append}
use Rattle.std.proofs.lemmas.List.Elements.{All-head, All-tail}
use Rattle.unl_base.specs.Doors.{DoorState, listening_at}
use Rattle.unl_core.specs.declared.board.Board.{Board}
use Rattle.unl_core.specs.declared.board.Install.{Install}
use Rattle.unl_delta.specs.Installing.{Installed, Publication}
use Rattle.unl_edge.specs.EdgeLinks.{EachLinkServed, ServesEachLink, ServesShares, WorkDuringTurns}
use Rattle.unl_edge.specs.EdgeServices.{EdgeService, EdgeWorker, WorkerServes, opened, service_at, edge_worker}
use Rattle.unl_edge.specs.Polling.{refreshing}
use Rattle.unl_edge.specs.WorkerBooks.{book_of}
use Rattle.unl_edge.specs.LinkHandling.{HasLearned, ReadsOnAt, ServesAt}
use Rattle.unl_edge.specs.declared.link_handler.EdgeLinkHandler.{EdgeLinkHandler}
use Rattle.unl_edge.proofs.Answering.{Began, began, serves_after}
use Rattle.unl_edge.proofs.Polling.{polls_same}
use Rattle.unl_edge_state.specs.Editions.{BoardAt, orderly_opening}
use Rattle.unl_edge_state.specs.Writing.{LeadsTo, publication_of}
use Rattle.unl_publication.specs.declared.knowledge.Knowledge.{Knowledge}
use Rattle.unl_refresh.proofs.Delivering.{turn_kept}
use Rattle.unl_refresh.specs.Delivery.{HasRevisions, PublishesRevision, SlotLines}
use Rattle.unl_refresh.specs.Exchange.{PeerView}
use Rattle.unl_refresh.specs.MetricsQueues.{no_intake}
use Rattle.unl_refresh.specs.Turns.{Duty, KeepsDuty, MakesTurn, PollState, poll_state}
use Rattle.unl_server.specs.Handling.{Coming}
use Rattle.unl_server.specs.Links.{LinkView, link_view}
use Rattle.unl_workers.specs.Queueing.{HandsOutEach}
use Rattle.unl_workers.specs.Serving.{ServerAndDraws, ServesSlot, serving}
use Rattle.unl_workers.specs.Shares.{EachLinkServedOnce, ServedAtEach}
use Rattle.unl_workers.specs.Taking.{ServesEach, with_draws}
use Rattle.unl_workers.specs.Tallies.{SameLinks, weigh}
use Rattle.unl_workers.specs.declared.acceptor.AcceptOutcome.{AcceptOutcome}
use Rattle.unl_workers.specs.declared.pool.PoolFault.{PoolFault}
use Rattle.unl_workers.specs.declared.pool.PoolOutcome.{PoolOutcome}
use Rattle.unl_workers.specs.declared.worker.WorkerSlot.{WorkerSlot}

-- ---- links by their states

weigh_map : {X Y : Type 0} (h : Y → ℕ) (f : X → Y) (xs : List X) → weigh h (map f xs) ≡ weigh (λ x. h (f x)) xs
weigh_map h f [] = refl
weigh_map h f (x ∷ xs) = ap (λ (n : ℕ). h (f x) + n) (weigh_map h f xs)

map_shares : {X Y : Type 0} (f : X → Y) (shares : List (List X))
    → flat_map (λ (share : List Y). share) (map (λ (share : List X). map f share) shares) ≡ map f (flat_map (λ (share : List X). share) shares)
map_shares f [] = refl
map_shares {X} {Y} f (share ∷ shares) = ap (λ (rest : List Y). map f share ++ rest) (map_shares f shares)
    ∙ sym (map-append f share (flat_map (λ (share : List X). share) shares))

same_states : {X Y : Type 0} (f : X → Y) (xs ys : List X) → SameLinks xs ys → SameLinks (map f xs) (map f ys)
same_states f xs ys same h = weigh_map h f xs ∙ same (λ x. h (f x)) ∙ sym (weigh_map h f ys)

states_handed : {L : Type 0} (left sent : L → Option (List ℕ)) (faults : L → ℕ) (links : List L) (before after : DoorState)
    → HandsOutEach left sent faults links before after
    → HandsOutEach (λ (link : LinkView). link.left) (λ (link : LinkView). link.sent) (λ (link : LinkView). link.faults)
    (map (λ (link : L). link_view (left link) (sent link) (faults link)) links) before after
states_handed left sent faults [] before after none = none
states_handed left sent faults (link ∷ links) before after many =
    (many.0, many.1, many.2, many.3, states_handed left sent faults links many.0 after many.4)

-- ---- slots as workers

-- a worker's state, from its link handler and its draws to come
abbrev worker_in : {W : Type 0} → ServerAndDraws (EdgeLinkHandler W) → EdgeWorker
worker_in serving = record { reader = serving.server.desk.reader; book = book_of serving.server; coming = serving.coming }

share_served : {W : Type 0} (edition : Option BoardAt) (installs : List Install) (links : List LinkView) (before after : ServerAndDraws (EdgeLinkHandler W))
    → Began edition installs before.server.desk.reader → ServesEach (with_draws ServesAt) links before after
    → ServesEach (WorkerServes edition installs) links (worker_in before) (worker_in after)
share_served {W} edition installs [] before after start none = ap (λ (s : ServerAndDraws (EdgeLinkHandler W)). worker_in s) none
share_served edition installs (link ∷ links) before after start many =
    let one = serves_after edition installs (worker_in before) (worker_in many.0) link many.1.link_after start many.1.served in (
      worker_in many.0,
      record { link_after = many.1.link_after; served = one.0 },
      share_served edition installs links many.0 after one.1 many.2,
    )

shares_served : {W R L : Type 0} (coming_of : R → Coming) (state_of : L → LinkView) (known : Knowledge BoardAt Install) (shares : List (List L))
    (before after : List (WorkerSlot (EdgeLinkHandler W) R)) → All (λ pool_slot. HasLearned known pool_slot.server.desk.reader) before
    → ServedAtEach ServesAt coming_of state_of shares before after
    → ServesShares known.opening known.installs (map (λ (share : List L). map state_of share) shares)
    (map (edge_worker coming_of) before) (map (edge_worker coming_of) after)
shares_served coming_of state_of known [] [] [] learned served = tt
shares_served coming_of state_of known [] [] (b ∷ after) learned served = absurd served
shares_served coming_of state_of known [] (a ∷ before) after learned served = absurd served
shares_served coming_of state_of known (share ∷ shares) [] after learned served = absurd served
shares_served coming_of state_of known (share ∷ shares) (a ∷ before) [] learned served = absurd served
shares_served {W} {R} coming_of state_of known (share ∷ shares) (a ∷ before) (b ∷ after) learned served = (
  share_served known.opening known.installs (map state_of share) (serving a.server (coming_of a.draws)) (serving b.server (coming_of b.draws))
      (began known a.server.desk.reader
      (All-head (λ (p : WorkerSlot (EdgeLinkHandler W) R). HasLearned known p.server.desk.reader) a before learned))
      served.0.served,
  shares_served coming_of state_of known shares before after
      (All-tail (λ (p : WorkerSlot (EdgeLinkHandler W) R). HasLearned known p.server.desk.reader) a before learned) served.1,
)

-- each link was served once, by one of the workers
pub each_served : {W R L : Type 0} (coming_of : R → Coming) (left sent : L → Option (List ℕ)) (faults : L → ℕ) (door door_after : DoorState)
    (known : Knowledge BoardAt Install) (count : ℕ) (before after : List (WorkerSlot (EdgeLinkHandler W) R))
    → All (λ pool_slot. HasLearned known pool_slot.server.desk.reader) before
    → EachLinkServedOnce ServesAt coming_of left sent faults door door_after count before after
    → EachLinkServed known.opening known.installs door door_after count (map (edge_worker coming_of) before) (map (edge_worker coming_of) after)
each_served {W} {R} {L} coming_of left sent faults door door_after known count before after learned every =
    let state_of : L → LinkView = λ link. link_view (left link) (sent link) (faults link) in
    let all : List L = flat_map (λ (share : List L). share) every.shares in
    record {
      given = map state_of every.given;
      shares = map (λ (share : List L). map state_of share) every.shares;
      handed = states_handed left sent faults every.given door door_after every.handed;
      counted = length-map every.given state_of ∙ every.counted;
      served = shares_served coming_of state_of known every.shares before after learned every.served;
      same = λ h. same_states state_of every.given all every.same h ∙ ap (weigh h) (sym (map_shares state_of every.shares));
    }

-- ---- an edge service

-- if all publications represent lines, so do the installs that they are
installs_represent : (lines : SlotLines) (installs : List Install) (installed : Installed) → installed.publications ≡ Some (map publication_of installs)
    → HasRevisions lines installed → All (PublishesRevision lines) (map publication_of installs)
installs_represent lines installs installed is has =
    subst (λ (o : Option (List Publication)). IfSome o (All (PublishesRevision lines))) is has.published

-- the first turn was made, and after it each link was served while later turns were made
pub each_after_turn : (service : EdgeService) (now : Duty) (begun ended : PollState) (peer peer_after : PeerView) (door door_after : DoorState)
    (served : Result AcceptOutcome PoolFault)
    → MakesTurn service.duty.known service.duty.upstream service.duty.slot_pollers
    (poll_state service.opening service.duty.tags service.duty.metrics peer) begun
    → KeepsDuty service.duty now → ended.peer ≡ peer_after → (edition : Option BoardAt) (installs : List Install)
    → edition ≡ service.edition → LeadsTo edition installs begun.installed
    → IfOk served (λ accepted. 0 < service.workers
    → WorkDuringTurns service.workers edition installs now begun ended door door_after accepted.links)
    → IfOk served (λ accepted. 0 < service.workers → ServesEachLink service peer peer_after door door_after accepted.links)
each_after_turn service now begun ended peer peer_after door door_after (Ok accepted) turn keeps same edition installs opens leads every = λ some.
    let each = subst (λ (e : Option BoardAt). WorkDuringTurns service.workers e installs now begun ended door door_after accepted.links) opens
    (every some) in
    record {
      runs = record {
        first = begun.installed;
        installs = installs;
        leads = subst (λ (e : Option BoardAt). LeadsTo e installs begun.installed) opens leads;
        polls = record {
          begun = begun;
          installed = refl;
          turn = turn;
          ended = refreshing ended each.intake;
          later = polls_same service.duty now (refreshing begun no_intake) (refreshing ended each.intake) keeps each.turns;
          peer_ended = same;
        };
        revisions = λ lines are sent has.
            installs_represent lines installs begun.installed leads.publications
            (turn_kept lines service.duty.known service.duty.upstream service.duty.slot_pollers
            (poll_state service.opening service.duty.tags service.duty.metrics peer) begun are turn sent has);
        work = each.links.work;
      };
      each = each.links.each;
      metrics = each.metrics;
    }
each_after_turn service now begun ended peer peer_after door door_after (Err fault) turn keeps same edition installs opens leads every = tt

-- what holds for an edge service that is given by its parts holds for `service_at`
pub same_service : (duty : Duty) (board : Board) (begun : Installed) (edition : Option BoardAt) (workers readers : ℕ)
    (peer peer_after : PeerView) (door door_after : DoorState) (served : Result AcceptOutcome PoolFault)
    → begun ≡ opened board → edition ≡ Some (orderly_opening board) → readers ≡ workers → 0 < workers
    → IfOk served (λ accepted. 0 < readers
    → ServesEachLink (record { duty = duty; opening = begun; edition = edition; workers = readers }) peer peer_after door door_after
    accepted.links)
    → IfOk served (λ accepted. ServesEachLink (service_at duty board workers) peer peer_after door door_after accepted.links)
same_service duty board begun edition workers readers peer peer_after door door_after (Ok accepted) same opens count some serves =
    subst (λ (service : EdgeService). ServesEachLink service peer peer_after door door_after accepted.links)
    (λ i. record { duty = duty; opening = same i; edition = opens i; workers = count i })
    (serves (subst (λ (n : ℕ). 0 < n) (sym count) some))
same_service duty board begun edition workers readers peer peer_after door door_after (Err fault) same opens count some serves = tt

-- the links that were served are those of the door after it began to listen at this port
pub serves_at : (service : EdgeService) (port served : ℕ) (could : Bool) (peer peer_after : PeerView) (before door after : DoorState)
    → could ≡ true → door ≡ listening_at port could before → ServesEachLink service peer peer_after door after served
    → ServesEachLink service peer peer_after (listening_at port true before) after served
serves_at service port served could peer peer_after before door after did listens serves =
    subst (λ (d : DoorState). ServesEachLink service peer peer_after d after served)
    (listens ∙ ap (λ (b : Bool). listening_at port b before) did) serves
