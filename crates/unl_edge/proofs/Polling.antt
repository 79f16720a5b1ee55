-- The turns of an edge's poller, one after another.
use Rattle.std.proofs.Common.{◌≡◌, ◌⊎◌, ◌<◌, ◌≤◌, ◌+◌, ◌-◌, ◌^◌, ◌∙◌, ℕ, zero, suc, Option, List, length, Result, Ok, Err, ap, inl, inr, refl, subst, sym}
use Rattle.unl_delta.specs.Installing.{Installed}
use Rattle.unl_documents.specs.declared.memory.Memory.{Memory}
use Rattle.unl_edge.specs.Polling.{LaterTurn, PollsOn, Refreshing, SameWork, refreshing}
use Rattle.unl_metrics.specs.Book.{Book}
use Rattle.unl_refresh.specs.Exchange.{PeerView}
use Rattle.unl_refresh.specs.MetricsQueues.{Intake, Merges}
use Rattle.unl_refresh.specs.Turns.{ByResult, Duty, KeepsDuty, MakesTurn, PollState, StopsInTurn, poll_state}
use Rattle.unl_workers.specs.Periodic.{MakesTurns, Turns}

-- ---- one later turn

ends_so : (result : Result Unit Memory) (Done Stopped : PollState → PollState → Type 0) (before after : PollState)
    → ByResult result Done Stopped before after → Done before after ⊎ Stopped before after
ends_so (Ok u) Done Stopped before after done = inl done
ends_so (Err e) Done Stopped before after stopped = inr stopped

-- `TurnEnds`, by the result of the turn: it was made on `Ok`, and stopped on `Err`
abbrev TurnEndsByResult : Result Unit Memory → Duty → List (Option (List ℕ)) → Book → Installed → PeerView → PollState → Type 0
TurnEndsByResult result duty tags metrics installed peer after =
    installed.front + duty.slots + 1 < 2 ^ 64 - 1 → duty.slots ≤ length installed.places
    → ByResult result (MakesTurn duty.known duty.upstream duty.slot_pollers) (StopsInTurn duty.known duty.upstream duty.slot_pollers)
    (poll_state installed tags metrics peer) after

-- if metrics were taken, and then a turn was made or stopped, `LaterTurn` holds
pub later_made : (duty drained last : Duty) (installed installed_last : Installed) (peer peer_last : PeerView) (result : Result Unit Memory)
    (intake intake_after : Intake) → drained ≡ record duty { metrics = drained.metrics }
    → Merges duty.metrics intake drained.metrics intake_after → KeepsDuty drained last
    → TurnEndsByResult result drained drained.tags drained.metrics installed peer (poll_state installed_last last.tags last.metrics peer_last)
    → LaterTurn duty (refreshing (poll_state installed duty.tags duty.metrics peer) intake)
    (refreshing (poll_state installed_last last.tags last.metrics peer_last) intake_after) × SameWork duty last
later_made duty drained last installed installed_last peer peer_last result intake intake_after same merges keeps ends = (
  record {
    metrics = drained.metrics;
    merges = merges;
    ends = λ room slots. ends_so result (MakesTurn duty.known duty.upstream duty.slot_pollers) (StopsInTurn duty.known duty.upstream duty.slot_pollers)
        (poll_state installed duty.tags drained.metrics peer) (poll_state installed_last last.tags last.metrics peer_last) (at_duty room slots);
  },
  record {
    known = ap (λ (d : Duty). d.known) keeps ∙ ap (λ (d : Duty). d.known) same;
    slots = ap (λ (d : Duty). d.slots) keeps ∙ ap (λ (d : Duty). d.slots) same;
    slot_pollers = ap (λ (d : Duty). d.slot_pollers) keeps ∙ ap (λ (d : Duty). d.slot_pollers) same;
    upstream = ap (λ (d : Duty). d.upstream) keeps ∙ ap (λ (d : Duty). d.upstream) same;
  },
)
  where
    at_duty :
        TurnEndsByResult result duty duty.tags drained.metrics installed peer (poll_state installed_last last.tags last.metrics peer_last)
    at_duty =
        subst (λ (d : Duty). TurnEndsByResult result d d.tags drained.metrics installed peer
        (poll_state installed_last last.tags last.metrics peer_last)) same ends

-- ---- several later turns

work_on : (first middle last : Duty) → SameWork first middle → SameWork middle last → SameWork first last
work_on first middle last one two = record {
  known = two.known ∙ one.known;
  slots = two.slots ∙ one.slots;
  slot_pollers = two.slot_pollers ∙ one.slot_pollers;
  upstream = two.upstream ∙ one.upstream;
}

-- a later turn of a poller is also a later turn of any poller with the same fixed parameters
same_turn : (first now : Duty) (before after : Refreshing) → SameWork first now → LaterTurn now before after → LaterTurn first before after
same_turn first now before after same turn =
    let moved : LaterTurn (record first { tags = now.tags; metrics = now.metrics }) before after =
    subst (λ (d : Duty). LaterTurn d before after) path turn in
    record { metrics = moved.metrics; merges = moved.merges; ends = moved.ends }
  where
    path : now ≡ record first { tags = now.tags; metrics = now.metrics }
    path = λ i. record {
      known = same.known i;
      slots = same.slots i;
      slot_pollers = same.slot_pollers i;
      upstream = same.upstream i;
      tags = now.tags;
      metrics = now.metrics;
    }

-- if only the tags and the metrics change, the fixed parameters stay the same
work_of : (first now : Duty) → KeepsDuty first now → SameWork first now
work_of first now keeps = record {
  known = ap (λ (d : Duty). d.known) keeps;
  slots = ap (λ (d : Duty). d.slots) keeps;
  slot_pollers = ap (λ (d : Duty). d.slot_pollers) keeps;
  upstream = ap (λ (d : Duty). d.upstream) keeps;
}

turns_same : (first now : Duty) → SameWork first now → (n : ℕ) (before after : Refreshing) → Turns (LaterTurn now) n before after
    → Turns (LaterTurn first) n before after
turns_same first now same zero before after made = made
turns_same first now same (suc n) before after made =
    (made.0, turns_same first now same n before made.0 made.1, same_turn first now made.0 after same made.2)

-- the turns after the first, stated for the poller as it was before the first
pub polls_same : (first now : Duty) (before after : Refreshing) → KeepsDuty first now → PollsOn now before after → PollsOn first before after
polls_same first now before after keeps polls =
    record { turns = polls.turns; made = turns_same first now (work_of first now keeps) polls.turns before after polls.made }

turns_on : {N : Type 0} (state_of : N → Refreshing) (duty_of : N → Duty) (Turned : N → N → Type 0)
    → ((x y : N) → Turned x y → LaterTurn (duty_of x) (state_of x) (state_of y) × SameWork (duty_of x) (duty_of y))
    → (n : ℕ) (before after : N) → Turns Turned n before after
    → Turns (LaterTurn (duty_of before)) n (state_of before) (state_of after) × SameWork (duty_of before) (duty_of after)
turns_on state_of duty_of Turned one zero before after same = (
  ap state_of same,
  subst (λ d. SameWork (duty_of before) (duty_of d)) (sym same) (record { known = refl; slots = refl; slot_pollers = refl; upstream = refl }),
)
turns_on state_of duty_of Turned one (suc n) before after many =
    let earlier = turns_on state_of duty_of Turned one n before many.0 many.1 in
    let last = one many.0 after many.2 in (
      (state_of many.0, earlier.0, same_turn (duty_of before) (duty_of many.0) (state_of many.0) (state_of after) earlier.1 last.0),
      work_on (duty_of before) (duty_of many.0) (duty_of after) earlier.1 last.1,
    )

-- the turns of a periodic task are later turns of its poller
pub polls_on : {N : Type 0} (after before : N) (Turned Keeps : N → N → Type 0) (n : ℕ) (pace pace_after : Option ℕ)
    → MakesTurns Turned Keeps n before after pace pace_after → (state_of : N → Refreshing) (duty_of : N → Duty)
    → ((x y : N) → Turned x y → LaterTurn (duty_of x) (state_of x) (state_of y) × SameWork (duty_of x) (duty_of y))
    → PollsOn (duty_of before) (state_of before) (state_of after)
polls_on after before Turned Keeps n pace pace_after makes state_of duty_of one =
    record { turns = n; made = (turns_on state_of duty_of Turned one n before after makes.made).0 }
