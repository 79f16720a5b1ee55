-- The exchanges of a turn, from the results of the calls that make them.
use Rattle.std.proofs.Common.{◌≡◌, ◌∙◌, ◌<◌, ◌≤◌, ℕ, ◌+◌, List, [], ◌∷◌, ◌++◌, drop, get_or, length, map, set, take, Option, Some, None, Result, Ok, Err, ap, refl, subst, sym, arith, inl, inr}
use Rattle.std.proofs.lemmas.List.{drop_all, drop_more, get_or-map, length-map, map-set}
use Rattle.std.proofs.Math.Seq.{take-append_seam}
use Rattle.std.specs.Prelude.{◌≢◌, option_map, IfOk, OnErr, OnOk}
use Rattle.serde_json.specs.Data.{Data}
use Rattle.unl_base.specs.Doors.{next_of}
use Rattle.unl_delta.specs.Installing.{Installed}
use Rattle.unl_documents.specs.declared.memory.Memory.{Memory}
use Rattle.unl_metrics.specs.Book.{Book}
use Rattle.unl_metrics.specs.Bulk.{bulk}
use Rattle.unl_refresh.specs.Exchange.{HasPeerCause, PeerView}
use Rattle.unl_refresh.specs.Metrics.{AsksBulk, AsksBulkAtMostOnce, SendsBulk, SentMetrics, book_after}
use Rattle.unl_refresh.specs.Once.{RefreshedOnce, refresh_state}
use Rattle.unl_refresh.specs.Refresh.{Refreshed}
use Rattle.unl_refresh.specs.SlotParameters.{SlotParameters, parameters_of, tag_of}
use Rattle.unl_refresh.specs.Tokens.{RefreshedTokens}
use Rattle.unl_refresh.specs.Turns.{ByResult, Duty, KeepsDuty, MakesTurn, PollsSlot, PollsSlotsFrom, PollState, SendsIfAny, SendsMetrics, StopsAtBook, StopsAtSlot, StopsFrom}
use Rattle.unl_refresh.specs.Turns.{StopsIfAny, StopsInTurn, StopsRefreshing, StopsSending, TakesBook, TakesSlot, poll_state, tag_at}
use Rattle.unl_refresh.specs.declared.ask.Ask.{Ask}
use Rattle.unl_refresh.specs.declared.outcome.MetricsOutcome.{MetricsOutcome}
use Rattle.unl_refresh.specs.declared.outcome.Outcome.{Outcome}
use Rattle.unl_refresh.specs.declared.outcome.RefreshFault.{RefreshFault}
use Rattle.unl_refresh.specs.declared.outcome.RefreshFault.TheVariants.{PeerFault as peer_fault, Memory as out_of_memory}
use Rattle.unl_refresh.specs.declared.slot_poller.SlotPoller.{SlotPoller}

-- ---- one exchange

-- the exchange for the book; the call's host is the poller's
pub book_polled : (texts : List (List ℕ)) (asked host : List ℕ) (before after : Installed) (peer peer_after : PeerView)
    (tags : List (Option (List ℕ))) (metrics : Book) (reported : Result Outcome RefreshFault) (result : Result Unit Memory) → asked ≡ host
    → OnOk result (reported ≢ Err out_of_memory) → OnErr result (reported ≡ Err out_of_memory)
    → RefreshedTokens texts asked before peer reported after peer_after → HasPeerCause reported peer.faults peer_after.faults
    → ByResult result (TakesBook texts host) (StopsAtBook texts host) (poll_state before tags metrics peer) (poll_state after tags metrics peer_after)
book_polled texts asked host before after peer peer_after tags metrics reported result same some is leaves causes =
    by_result reported result some is causes
    (subst (λ (h : List ℕ). RefreshedTokens texts h before peer reported after peer_after) same leaves)
  where
    by_result : (reported : Result Outcome RefreshFault) (result : Result Unit Memory)
        → OnOk result (reported ≢ Err out_of_memory) → OnErr result (reported ≡ Err out_of_memory) → HasPeerCause reported peer.faults peer_after.faults
        → RefreshedTokens texts host before peer reported after peer_after
        → ByResult result (TakesBook texts host) (StopsAtBook texts host) (poll_state before tags metrics peer) (poll_state after tags metrics peer_after)
    by_result reported (Err e) some is causes leaves = record {
      installed = subst (λ (r : Result Outcome RefreshFault). OnErr r (after ≡ before)) is leaves.fault;
      tags = refl;
      metrics = refl;
      once = leaves.once;
      still = causes.untouched is;
    }
    by_result (Ok outcome) (Ok u) some is causes leaves = record {
      received = Some leaves.takes.reading;
      meets = (leaves.takes.is_read, leaves.asks, causes.still);
      applies = (outcome, leaves.takes.installs);
      tags = refl;
      metrics = refl;
    }
    by_result (Err peer_fault) (Ok u) some is causes leaves = record {
      received = None;
      meets = (leaves.once, causes.cause refl);
      applies = leaves.fault;
      tags = refl;
      metrics = refl;
    }
    by_result (Err out_of_memory) (Ok u) some is causes leaves = absurd (some refl)

-- the request parameters of an ask, for an environment
abbrev parameters_for : List ℕ → Ask → SlotParameters
parameters_for environment ask = record { environment = environment; host = ask.host; token = ask.token; delta = ask.delta }

-- the exchange for what is new in a slot
pub slot_refreshed : (slot : ℕ) (environment : List ℕ) (ask ask_after : Ask) (before after : Installed) (peer peer_after : PeerView)
    (tags : List (Option (List ℕ))) (metrics : Book) (reported : Result Outcome RefreshFault) (result : Result Unit Memory)
    → OnOk result (reported ≢ Err out_of_memory) → OnErr result (reported ≡ Err out_of_memory)
    → RefreshedOnce slot (refresh_state before ask peer) reported (refresh_state after ask_after peer_after)
    → HasPeerCause reported peer.faults peer_after.faults
    → ByResult result (TakesSlot slot (parameters_for environment ask) ask.tag) (StopsRefreshing slot (parameters_for environment ask) ask.tag)
    (poll_state before tags metrics peer) (poll_state after (set tags slot ask_after.tag) metrics peer_after)
slot_refreshed slot environment ask ask_after before after peer peer_after tags metrics reported (Err e) some is leaves causes = record {
  installed = subst (λ (r : Result Outcome RefreshFault). OnErr r (after ≡ before)) is leaves.fault;
  tags = ap (λ (t : Option (List ℕ)). set tags slot t)
      (subst (λ (r : Result Outcome RefreshFault). OnErr r (ask_after.tag ≡ None)) is leaves.no_tag);
  metrics = refl;
  once = leaves.once;
  still = causes.untouched is;
}
slot_refreshed slot environment ask ask_after before after peer peer_after tags metrics (Ok outcome) (Ok u) some is leaves causes = record {
  received = Some leaves.takes.reading;
  meets = (leaves.takes.is_read, leaves.asks, causes.still);
  installed = ap (λ (r : Refreshed). r.installed) leaves.takes.gives;
  tags = ap (λ (r : Refreshed). set tags slot r.tag) leaves.takes.gives;
  metrics = refl;
}
slot_refreshed slot environment ask ask_after before after peer peer_after tags metrics (Err peer_fault) (Ok u) some is leaves causes = record {
  received = None;
  meets = (leaves.once, causes.cause refl);
  installed = leaves.fault;
  tags = ap (λ (t : Option (List ℕ)). set tags slot t) leaves.no_tag;
  metrics = refl;
}
slot_refreshed slot environment ask ask_after before after peer peer_after tags metrics (Err out_of_memory) (Ok u) some is leaves causes =
    absurd (some refl)

-- nothing was sent, so nothing was dropped
none_dropped : (environment : List ℕ) (coming : Option (List ℕ)) (before after : Book) (reported : Result MetricsOutcome RefreshFault)
    → IfOk reported (SendsBulk None coming) → IfOk reported (λ outcome. after ≡ book_after environment outcome before) → OnErr reported (after ≡ before)
    → after ≡ before
none_dropped environment coming before after (Ok outcome) sends book fault =
    book ∙ ap (λ (o : MetricsOutcome). book_after environment o before) sends
none_dropped environment coming before after (Err e) sends book fault = fault

-- the exchange for a report of metrics, if there is one
report_sent : (found : Option (Data × ℕ)) (parameters : SlotParameters) (installed : Installed) (tags : List (Option (List ℕ)))
    (before after : Book) (peer peer_after : PeerView) (reported : Result MetricsOutcome RefreshFault) (result : Result Unit Memory)
    → OnOk result (reported ≢ Err out_of_memory) → OnErr result (reported ≡ Err out_of_memory)
    → IfOk reported (SendsBulk found (option_map next_of peer.replies))
    → IfOk reported (λ outcome. after ≡ book_after parameters.environment outcome before) → OnErr reported (after ≡ before)
    → OnOk reported (AsksBulk found parameters.host parameters.token peer.replies peer.history peer_after.replies peer_after.history)
    → AsksBulkAtMostOnce found parameters.host parameters.token peer.replies peer.history peer_after.replies peer_after.history
    → HasPeerCause reported peer.faults peer_after.faults → (found ≡ None → peer_after ≡ peer)
    → ByResult result (SendsIfAny found parameters) (StopsIfAny found parameters)
    (poll_state installed tags before peer) (poll_state installed tags after peer_after)
report_sent None parameters installed tags before after peer peer_after reported (Ok u) some is sends book fault asks once causes silent =
    λ i. poll_state installed tags (none_dropped parameters.environment (option_map next_of peer.replies) before after reported sends book fault i)
    (silent refl i)
report_sent None parameters installed tags before after peer peer_after reported (Err e) some is sends book fault asks once causes silent =
    λ i. poll_state installed tags (none_dropped parameters.environment (option_map next_of peer.replies) before after reported sends book fault i)
    (silent refl i)
report_sent (Some (report, count)) parameters installed tags before after peer peer_after reported (Err e) some is sends book fault asks once causes silent = record {
  installed = refl;
  tags = refl;
  metrics = subst (λ (r : Result MetricsOutcome RefreshFault). OnErr r (after ≡ before)) is fault;
  once = once;
  still = causes.untouched is;
}
report_sent (Some (report, count)) parameters installed tags before after peer peer_after (Ok outcome) (Ok u) some is sends book fault asks once causes silent = record {
  received = Some sends.reading;
  meets = (sends.is_read, asks, causes.still);
  metrics = book ∙ ap (λ (o : MetricsOutcome). book_after parameters.environment o before) sends.gives;
  installed = refl;
  tags = refl;
}
report_sent (Some (report, count)) parameters installed tags before after peer peer_after (Err peer_fault) (Ok u) some is sends book fault asks once causes silent = record {
  received = None;
  meets = (once, causes.cause refl);
  metrics = fault;
  installed = refl;
  tags = refl;
}
report_sent (Some (report, count)) parameters installed tags before after peer peer_after (Err out_of_memory) (Ok u) some is sends book fault asks once causes silent =
    absurd (some refl)

-- the exchange for the metrics of a slot's environment; the call's texts are those of the slot
pub metrics_sent : (parameters : SlotParameters) (environment host token : List ℕ) (installed : Installed) (tags : List (Option (List ℕ)))
    (before after : Book) (peer peer_after : PeerView) (reported : Result MetricsOutcome RefreshFault) (result : Result Unit Memory)
    → environment ≡ parameters.environment → host ≡ parameters.host → token ≡ parameters.token
    → OnOk result (reported ≢ Err out_of_memory) → OnErr result (reported ≡ Err out_of_memory)
    → SentMetrics environment host token before peer reported after peer_after
    → HasPeerCause reported peer.faults peer_after.faults → (bulk environment before ≡ None → peer_after ≡ peer)
    → ByResult result (SendsMetrics parameters) (StopsSending parameters)
    (poll_state installed tags before peer) (poll_state installed tags after peer_after)
metrics_sent parameters environment host token installed tags before after peer peer_after reported result named asked shown some is leaves causes silent =
    by_result result some is
    (subst (λ (e : List ℕ). SentMetrics e parameters.host parameters.token before peer reported after peer_after) named
    (subst (λ (h : List ℕ). SentMetrics environment h parameters.token before peer reported after peer_after) asked
    (subst (λ (t : List ℕ). SentMetrics environment host t before peer reported after peer_after) shown leaves)))
    (subst (λ (e : List ℕ). bulk e before ≡ None → peer_after ≡ peer) named silent)
  where
    by_result : (result : Result Unit Memory) → OnOk result (reported ≢ Err out_of_memory) → OnErr result (reported ≡ Err out_of_memory)
        → SentMetrics parameters.environment parameters.host parameters.token before peer reported after peer_after
        → (bulk parameters.environment before ≡ None → peer_after ≡ peer)
        → ByResult result (SendsMetrics parameters) (StopsSending parameters)
        (poll_state installed tags before peer) (poll_state installed tags after peer_after)
    by_result (Ok u) some is leaves silent =
        report_sent (bulk parameters.environment before) parameters installed tags before after peer peer_after reported (Ok u) some is
        leaves.sends leaves.book leaves.fault leaves.asks leaves.once causes silent
    by_result (Err e) some is leaves silent =
        report_sent (bulk parameters.environment before) parameters installed tags before after peer peer_after reported (Err e) some is
        leaves.sends leaves.book leaves.fault leaves.asks leaves.once causes silent

-- ---- a slot

-- a slot was refreshed, and then the metrics of its environment were sent, or memory ran out
pub slot_polled : (result : Result Unit Memory) (slot : ℕ) (parameters now : SlotParameters) (tag : Option (List ℕ))
    (before middle after : PollState) → TakesSlot slot parameters tag before middle
    → ByResult result (SendsMetrics now) (StopsSending now) middle after → now ≡ parameters → tag_at before.tags slot ≡ tag
    → ByResult result (PollsSlot slot parameters) (StopsAtSlot slot parameters) before after
slot_polled (Ok u) slot parameters now tag before middle after takes sends same at = (
  middle,
  subst (λ (t : Option (List ℕ)). TakesSlot slot parameters t before middle) (sym at) takes,
  subst (λ (p : SlotParameters). SendsMetrics p middle after) same sends,
)
slot_polled (Err e) slot parameters now tag before middle after takes stops same at = inr (
  middle,
  subst (λ (t : Option (List ℕ)). TakesSlot slot parameters t before middle) (sym at) takes,
  subst (λ (p : SlotParameters). StopsSending p middle after) same stops,
)

-- memory ran out while the slot was refreshed
pub slot_stopped : (slot : ℕ) (parameters : SlotParameters) (tag : Option (List ℕ)) (before after : PollState)
    → StopsRefreshing slot parameters tag before after → tag_at before.tags slot ≡ tag → StopsAtSlot slot parameters before after
slot_stopped slot parameters tag before after stops at =
    inl (subst (λ (t : Option (List ℕ)). StopsRefreshing slot parameters t before after) (sym at) stops)

-- ---- all slots

-- what holds of one polled slot for any tags (`Polls`) holds for the tags of the pollers
pub polled_here : (Polls : PollState → PollState → Type 0) (slot_pollers : List SlotPoller) (slot : ℕ) (other new : SlotPoller)
    (before after : Installed) (metrics metrics_last : Book) (peer peer_after : PeerView) → slot < length slot_pollers
    → ((tags : List (Option (List ℕ))) → tag_at tags slot ≡ tag_of (get_or slot_pollers slot other)
    → Polls (poll_state before tags metrics peer) (poll_state after (set tags slot (tag_of new)) metrics_last peer_after))
    → Polls (poll_state before (map tag_of slot_pollers) metrics peer)
    (poll_state after (map tag_of (set slot_pollers slot new)) metrics_last peer_after)
polled_here Polls slot_pollers slot other new before after metrics metrics_last peer peer_after inside polls =
    subst (λ (ts : List (Option (List ℕ))). Polls (poll_state before (map tag_of slot_pollers) metrics peer) (poll_state after ts metrics_last peer_after))
    (sym (map-set tag_of slot_pollers slot new))
    (polls (map tag_of slot_pollers) (get_or-map tag_of slot_pollers slot other None inside))

-- the slots from `slot` on are this one and those after it
split_at : (slot_pollers initial : List SlotPoller) (slot : ℕ) (other : SlotPoller) → slot < length slot_pollers
    → map parameters_of slot_pollers ≡ map parameters_of initial
    → drop slot (map parameters_of initial) ≡ parameters_of (get_or slot_pollers slot other) ∷ drop (slot + 1) (map parameters_of initial)
split_at slot_pollers initial slot other inside same =
    drop_more (map parameters_of initial) slot (parameters_of other) (omega (arith, inside, as_many))
    ∙ ap (λ (f : SlotParameters). f ∷ drop (slot + 1) (map parameters_of initial)) here
  where
    here : get_or (map parameters_of initial) slot (parameters_of other) ≡ parameters_of (get_or slot_pollers slot other)
    here = ap (λ (fs : List SlotParameters). get_or fs slot (parameters_of other)) (sym same)
        ∙ get_or-map parameters_of slot_pollers slot other (parameters_of other) inside

    as_many : length slot_pollers ≡ length (map parameters_of initial)
    as_many = sym (length-map slot_pollers parameters_of) ∙ ap length same

-- one more slot was polled; polling the slots after it polls all
pub polls_next : (slot_pollers initial : List SlotPoller) (slot : ℕ) (other : SlotPoller) (start now next : PollState) → slot < length slot_pollers
    → map parameters_of slot_pollers ≡ map parameters_of initial
    → ((last : PollState) → PollsSlotsFrom slot (drop slot (map parameters_of initial)) now last → PollsSlotsFrom 0 (map parameters_of initial) start last)
    → PollsSlot slot (parameters_of (get_or slot_pollers slot other)) now next
    → (last : PollState) → PollsSlotsFrom (slot + 1) (drop (slot + 1) (map parameters_of initial)) next last
    → PollsSlotsFrom 0 (map parameters_of initial) start last
polls_next slot_pollers initial slot other start now next inside same before one last behind =
    before last (subst (λ (fs : List SlotParameters). PollsSlotsFrom slot fs now last) (sym (split_at slot_pollers initial slot other inside same))
    (next, one, behind))

-- one slot was polled; if memory runs out at a slot after it, it runs out at one of all slots
pub stops_next : (slot_pollers initial : List SlotPoller) (slot : ℕ) (other : SlotPoller) (start now next : PollState) → slot < length slot_pollers
    → map parameters_of slot_pollers ≡ map parameters_of initial
    → ((last : PollState) → StopsFrom slot (drop slot (map parameters_of initial)) now last → StopsFrom 0 (map parameters_of initial) start last)
    → PollsSlot slot (parameters_of (get_or slot_pollers slot other)) now next
    → (last : PollState) → StopsFrom (slot + 1) (drop (slot + 1) (map parameters_of initial)) next last
    → StopsFrom 0 (map parameters_of initial) start last
stops_next slot_pollers initial slot other start now next inside same before one last behind =
    before last (subst (λ (fs : List SlotParameters). StopsFrom slot fs now last) (sym (split_at slot_pollers initial slot other inside same))
    (inr (next, one, behind)))

-- the slots before this one were polled, and memory ran out at this one
pub stops_here : (slot_pollers initial : List SlotPoller) (slot : ℕ) (other : SlotPoller) (start now last : PollState) → slot < length slot_pollers
    → map parameters_of slot_pollers ≡ map parameters_of initial
    → ((last : PollState) → StopsFrom slot (drop slot (map parameters_of initial)) now last → StopsFrom 0 (map parameters_of initial) start last)
    → StopsAtSlot slot (parameters_of (get_or slot_pollers slot other)) now last → StopsFrom 0 (map parameters_of initial) start last
stops_here slot_pollers initial slot other start now last inside same before one =
    before last (subst (λ (fs : List SlotParameters). StopsFrom slot fs now last) (sym (split_at slot_pollers initial slot other inside same))
    (inl one))

-- no slot is left, so all were polled
pub polled_all : (slot_pollers : List SlotPoller) (slot : ℕ) (start now : PollState) → length slot_pollers ≤ slot
    → ((last : PollState) → PollsSlotsFrom slot (drop slot (map parameters_of slot_pollers)) now last → PollsSlotsFrom 0 (map parameters_of slot_pollers) start last)
    → PollsSlotsFrom 0 (map parameters_of slot_pollers) start now
polled_all slot_pollers slot start now many before =
    before now (subst (λ (fs : List SlotParameters). PollsSlotsFrom slot fs now now) (sym none) refl)
  where
    as_many : length slot_pollers ≡ length (map parameters_of slot_pollers)
    as_many = sym (length-map slot_pollers parameters_of)

    none : drop slot (map parameters_of slot_pollers) ≡ []
    none = drop_all slot (map parameters_of slot_pollers) (omega (arith, many, as_many))

-- ---- the turn

-- the state of a poller, by its parts
abbrev duty_of : List (List ℕ) → List ℕ → Book → List SlotPoller → Duty
duty_of known upstream book slot_pollers = record {
  known = known;
  slots = length slot_pollers;
  slot_pollers = map parameters_of slot_pollers;
  upstream = upstream;
  tags = map tag_of slot_pollers;
  metrics = book;
}

-- by the result: a whole turn of a poller was made, or the turn ended because memory ran out
abbrev Turns : Result Unit Memory → Duty → Installed → PeerView → PollState → Type 0
Turns result duty before peer after =
    ByResult result (MakesTurn duty.known duty.upstream duty.slot_pollers) (StopsInTurn duty.known duty.upstream duty.slot_pollers)
    (poll_state before duty.tags duty.metrics peer) after

-- the book was asked for, and then the slots were polled, or memory ran out at one of them
pub turn_made : (result : Result Unit Memory) (known : List (List ℕ)) (upstream : List ℕ) (book : Book) (lent items : List SlotPoller) (duty : Duty)
    (before : Installed) (peer : PeerView) (middle after : PollState) → lent ≡ items → duty_of known upstream book items ≡ duty
    → TakesBook known upstream (poll_state before (map tag_of lent) book peer) middle
    → ByResult result (PollsSlotsFrom 0 (map parameters_of lent)) (StopsFrom 0 (map parameters_of lent)) middle after
    → Turns result duty before peer after
turn_made result known upstream book lent items duty before peer middle after same is takes polls =
    subst (λ (d : Duty). Turns result d before peer after) (ap (duty_of known upstream book) same ∙ is) (both result polls)
  where
    both : (result : Result Unit Memory)
        → ByResult result (PollsSlotsFrom 0 (map parameters_of lent)) (StopsFrom 0 (map parameters_of lent)) middle after
        → Turns result (duty_of known upstream book lent) before peer after
    both (Ok u) polls = (middle, takes, polls)
    both (Err e) stops = inr (middle, takes, stops)

-- how a turn ended, stated for the vector that the pollers were lent from: its items afterwards are the `count` lent pollers
pub turn_left : (result : Result Unit Memory) (duty : Duty) (before installed : Installed) (peer peer_after : PeerView) (metrics : Book) (count : ℕ)
    (lent rest : List SlotPoller) → length lent ≡ count
    → Turns result duty before peer (poll_state installed (map tag_of lent) metrics peer_after)
    → Turns result duty before peer (poll_state installed (map tag_of (take count (lent ++ rest))) metrics peer_after)
turn_left result duty before installed peer peer_after metrics count lent rest many turns =
    subst (λ (ps : List SlotPoller). Turns result duty before peer (poll_state installed (map tag_of ps) metrics peer_after)) (sym all) turns
  where
    all : take count (lent ++ rest) ≡ lent
    all = subst (λ (n : ℕ). take n (lent ++ rest) ≡ lent) many (take-append_seam lent rest)

-- there are as many pollers as before
pub many_left : (lent items left : List SlotPoller) → lent ≡ items → map parameters_of left ≡ map parameters_of lent → length left ≡ length items
many_left lent items left same kept =
    sym (length-map left parameters_of) ∙ ap length kept ∙ length-map lent parameters_of ∙ ap length same

-- only the tags and the metrics of the poller changed
pub duty_kept : (known : List (List ℕ)) (upstream : List ℕ) (book metrics : Book) (duty : Duty) (count : ℕ) (lent items left rest : List SlotPoller)
    → lent ≡ items → map parameters_of left ≡ map parameters_of lent → length left ≡ count → duty_of known upstream book items ≡ duty
    → KeepsDuty duty (duty_of known upstream metrics (take count (left ++ rest)))
duty_kept known upstream book metrics duty count lent items left rest same kept many is = λ i. record {
  known = ap (λ (d : Duty). d.known) is i;
  slots = (ap length all ∙ many_left lent items left same kept ∙ ap (λ (d : Duty). d.slots) is) i;
  slot_pollers = (ap (map parameters_of) all ∙ kept ∙ ap (map parameters_of) same ∙ ap (λ (d : Duty). d.slot_pollers) is) i;
  upstream = ap (λ (d : Duty). d.upstream) is i;
  tags = map tag_of (take count (left ++ rest));
  metrics = metrics;
}
  where
    all : take count (left ++ rest) ≡ left
    all = subst (λ (n : ℕ). take n (left ++ rest) ≡ left) many (take-append_seam left rest)

-- memory ran out while the book was asked for
pub turn_stopped : (known : List (List ℕ)) (upstream : List ℕ) (book : Book) (items : List SlotPoller) (duty : Duty)
    (before after : Installed) (peer peer_after : PeerView) → duty_of known upstream book items ≡ duty
    → StopsAtBook known upstream (poll_state before (map tag_of items) book peer) (poll_state after (map tag_of items) book peer_after)
    → StopsInTurn duty.known duty.upstream duty.slot_pollers (poll_state before duty.tags duty.metrics peer)
    (poll_state after duty.tags duty.metrics peer_after)
turn_stopped known upstream book items duty before after peer peer_after is stops =
    subst (λ (d : Duty). StopsInTurn d.known d.upstream d.slot_pollers (poll_state before d.tags d.metrics peer) (poll_state after d.tags d.metrics peer_after))
    is (inl stops)
