-- A turn of a poller: its exchanges with the upstream, one after another, and what each of them changes. The first exchange asks for
-- the token book. Then each slot, which holds one environment, has two: the first asks for the changes of the environment (or, by
-- the mode of the slot, for its whole feed), and the second sends the metrics of the environment. A tag is an ETag.
use Rattle.std.specs.Prelude.{◌≡◌, ◌≤◌, ◌+◌, ◌⊎◌, ℕ, Bool, List, [], ◌∷◌, Option, Some, None, Result, Ok, Err, get_or, length, set}
use Rattle.serde_json.specs.Data.{Data}
use Rattle.unl_delta.specs.Installing.{Installed}
use Rattle.unl_documents.specs.declared.memory.Memory.{Memory}
use Rattle.unl_metrics.specs.Book.{Book}
use Rattle.unl_metrics.specs.Bulk.{bulk}
use Rattle.unl_refresh.specs.Exchange.{AsksAtMostOnce, Meets, PeerView, ReplyOrFault}
use Rattle.unl_refresh.specs.Metrics.{book_after, metrics_request, sent_by}
use Rattle.unl_refresh.specs.Refresh.{after_reading, refresh_request}
use Rattle.unl_refresh.specs.Tokens.{Installs, book_in_reply, tokens_request}
use Rattle.unl_refresh.specs.declared.outcome.Outcome.{Outcome}
use Rattle.unl_refresh.specs.SlotParameters.{SlotParameters}

-- The state of a poller. Fixed: the texts of the tokens that the token book may contain, the number of slots, the request parameters of
-- each slot, and the host that is asked for the token book. Changed by turns: the tag of each slot's next request, and the metrics that are
-- not sent yet.
pub record Duty : Type 0 where
  pub known : List (List ℕ)
  pub slots : ℕ
  pub slot_pollers : List SlotParameters
  pub upstream : List ℕ
  pub tags : List (Option (List ℕ))
  pub metrics : Book

-- what a turn changes: what is installed, the tag of each slot's next request, the metrics that are not sent yet, and the peer
pub record PollState : Type 0 where
  pub installed : Installed
  pub tags : List (Option (List ℕ))
  pub metrics : Book
  pub peer : PeerView

-- a constructor of `PollState`
abbrev pub poll_state : Installed → List (Option (List ℕ)) → Book → PeerView → PollState
poll_state installed tags metrics peer = record { installed = installed; tags = tags; metrics = metrics; peer = peer }

-- The number of slots is unchanged, and at most one publication (of a version or a book) was made.
pub record PublishesAtMostOnce (before after : Installed) : Type 0 where
  pub places : length after.places ≡ length before.places
  pub front : after.front ≤ before.front + 1

-- one of two effects, by the result of a call: the first if it succeeded, the second if memory ran out
abbrev pub ByResult :
    Result Unit Memory → (PollState → PollState → Type 0) → (PollState → PollState → Type 0) → PollState → PollState → Type 0
ByResult (Ok u) Done Stopped before after = Done before after
ByResult (Err e) Done Stopped before after = Stopped before after

-- Memory ran out in an exchange: nothing was installed, and the metrics are unchanged. No connection was made, or one, on which the request
-- or a prefix of it was sent. The peer didn't fail. The tags afterwards are `tags_after`.
pub record StopsPolling (request : List ℕ) (tags_after : List (Option (List ℕ))) (before after : PollState) : Type 0 where
  pub installed : after.installed ≡ before.installed
  pub tags : after.tags ≡ tags_after
  pub metrics : after.metrics ≡ before.metrics
  pub once : AsksAtMostOnce request before.peer.replies before.peer.history after.peer.replies after.peer.history
  pub still : after.peer.faults ≡ before.peer.faults

-- ---- the book

-- The book in the reply, limited to the tokens with these texts, is installed unless it is the current one. If the reply has no book, or
-- the peer failed (`None`), nothing changes.
abbrev pub AppliesBook : List (List ℕ) → ReplyOrFault → Installed → Installed → Type 0
AppliesBook texts None before after = after ≡ before
AppliesBook texts (Some reading) before after = (outcome : Outcome) × Installs (book_in_reply texts reading) before outcome after

-- The server at this host was asked which of the tokens with these texts it knows, and the reply was applied; or the peer failed. The tags
-- and the metrics are unchanged.
pub record TakesBook (texts : List (List ℕ)) (host : List ℕ) (before after : PollState) : Type 0 where
  pub received : ReplyOrFault
  pub meets : Meets received (tokens_request texts host) before.peer after.peer
  pub applies : AppliesBook texts received before.installed after.installed
  pub tags : after.tags ≡ before.tags
  pub metrics : after.metrics ≡ before.metrics

-- Memory ran out while the server was asked for the token book.
abbrev pub StopsAtBook : List (List ℕ) → List ℕ → PollState → PollState → Type 0
StopsAtBook texts host before after = StopsPolling (tokens_request texts host) before.tags before after

-- ---- a slot

-- the tag of a slot's next request; none if there is no such slot
abbrev pub tag_at : List (Option (List ℕ)) → ℕ → Option (List ℕ)
tag_at tags slot = get_or tags slot None

-- the request of a slot: to its server, with its token, in its mode, and with this tag
abbrev pub slot_request : SlotParameters → Option (List ℕ) → List ℕ
slot_request parameters tag = refresh_request parameters.delta parameters.host parameters.token tag

-- what is installed after a slot's request with this tag: the effect of the reply; a fault of the peer changes nothing
abbrev pub installed_after : ℕ → Bool → Option (List ℕ) → Installed → ReplyOrFault → Installed
installed_after slot delta tag before None = before
installed_after slot delta tag before (Some reading) = (after_reading slot delta tag before reading).installed

-- the tag of the slot's next request after a request with this tag; none after a fault of the peer
abbrev pub tag_then : ℕ → Bool → Option (List ℕ) → Installed → ReplyOrFault → Option (List ℕ)
tag_then slot delta tag before None = None
tag_then slot delta tag before (Some reading) = (after_reading slot delta tag before reading).tag

-- The slot's request was made with this tag, and the reply was applied; or the peer failed. The metrics and the tags of the other slots are
-- unchanged.
pub record TakesSlot (slot : ℕ) (parameters : SlotParameters) (tag : Option (List ℕ)) (before after : PollState) : Type 0 where
  pub received : ReplyOrFault
  pub meets : Meets received (slot_request parameters tag) before.peer after.peer
  pub installed : after.installed ≡ installed_after slot parameters.delta tag before.installed received
  pub tags : after.tags ≡ set before.tags slot (tag_then slot parameters.delta tag before.installed received)
  pub metrics : after.metrics ≡ before.metrics

-- Memory ran out in the slot's request. The slot's next request has no tag.
abbrev pub StopsRefreshing : ℕ → SlotParameters → Option (List ℕ) → PollState → PollState → Type 0
StopsRefreshing slot parameters tag before after = StopsPolling (slot_request parameters tag) (set before.tags slot None) before after

-- ---- metrics

-- the metrics after a report of the first `count` keys of an environment: these keys are dropped if the server accepted the report; else,
-- or if the peer failed (`None`), the metrics are unchanged
abbrev pub metrics_after : List ℕ → ℕ → ReplyOrFault → Book → Book
metrics_after environment count None book = book
metrics_after environment count (Some reading) book = book_after environment (sent_by count reading) book

-- A report of `count` keys was sent to the slot's server, with the slot's token, and its keys were dropped if the server accepted it; or
-- the peer failed. Nothing else changes.
pub record SendsReport (report : Data) (count : ℕ) (parameters : SlotParameters) (before after : PollState) : Type 0 where
  pub received : ReplyOrFault
  pub meets : Meets received (metrics_request parameters.host parameters.token report) before.peer after.peer
  pub metrics : after.metrics ≡ metrics_after parameters.environment count received before.metrics
  pub installed : after.installed ≡ before.installed
  pub tags : after.tags ≡ before.tags

-- If there is a report, `SendsReport` holds: it was sent, or the peer failed. If there is none, nothing changes.
abbrev pub SendsIfAny : Option (Data × ℕ) → SlotParameters → PollState → PollState → Type 0
SendsIfAny None parameters before after = after ≡ before
SendsIfAny (Some (report, count)) parameters before after = SendsReport report count parameters before after

-- If there is a report, memory ran out while it was sent. If there is none, memory ran out before anything was sent, and nothing changes.
abbrev pub StopsIfAny : Option (Data × ℕ) → SlotParameters → PollState → PollState → Type 0
StopsIfAny None parameters before after = after ≡ before
StopsIfAny (Some (report, count)) parameters before after =
    StopsPolling (metrics_request parameters.host parameters.token report) before.tags before after

-- One bulk report of the metrics of the slot's environment was sent, or the peer failed. If the environment has no metrics, nothing
-- changes.
abbrev pub SendsMetrics : SlotParameters → PollState → PollState → Type 0
SendsMetrics parameters before after = SendsIfAny (bulk parameters.environment before.metrics) parameters before after

-- Memory ran out before or while the bulk report of the slot's environment was sent.
abbrev pub StopsSending : SlotParameters → PollState → PollState → Type 0
StopsSending parameters before after = StopsIfAny (bulk parameters.environment before.metrics) parameters before after

-- ---- the turn

-- The slot's request was made with the slot's tag, and then a report of its environment's metrics was sent, if there are any. The peer may
-- have failed in each of the two exchanges.
abbrev pub PollsSlot : ℕ → SlotParameters → PollState → PollState → Type 0
PollsSlot slot parameters before after =
    (middle : PollState) × TakesSlot slot parameters (tag_at before.tags slot) before middle × SendsMetrics parameters middle after

-- Memory ran out in the slot's request; or that was made, and memory ran out at the report of the environment's metrics.
abbrev pub StopsAtSlot : ℕ → SlotParameters → PollState → PollState → Type 0
StopsAtSlot slot parameters before after =
    StopsRefreshing slot parameters (tag_at before.tags slot) before after
    ⊎ ((middle : PollState) × TakesSlot slot parameters (tag_at before.tags slot) before middle × StopsSending parameters middle after)

-- Each slot from `slot` on was polled (`PollsSlot`), in order. The list has the parameters of these slots.
abbrev pub PollsSlotsFrom : ℕ → List SlotParameters → PollState → PollState → Type 0
PollsSlotsFrom slot [] before after = after ≡ before
PollsSlotsFrom slot (parameters ∷ more) before after =
    (middle : PollState) × PollsSlot slot parameters before middle × PollsSlotsFrom (slot + 1) more middle after

-- Memory ran out at one of the slots from `slot` on. Of these, the slots before that one were polled, and those after it were not.
abbrev pub StopsFrom : ℕ → List SlotParameters → PollState → PollState → Type 0
StopsFrom slot [] before after = ⊥
StopsFrom slot (parameters ∷ more) before after =
    StopsAtSlot slot parameters before after
    ⊎ ((middle : PollState) × PollsSlot slot parameters before middle × StopsFrom (slot + 1) more middle after)

-- A turn: the server at this host was asked for the token book, limited to these texts, and then each slot was polled.
abbrev pub MakesTurn : List (List ℕ) → List ℕ → List SlotParameters → PollState → PollState → Type 0
MakesTurn texts host parameters before after =
    (middle : PollState) × TakesBook texts host before middle × PollsSlotsFrom 0 parameters middle after

-- A turn that ended because memory ran out.
abbrev pub StopsInTurn : List (List ℕ) → List ℕ → List SlotParameters → PollState → PollState → Type 0
StopsInTurn texts host parameters before after =
    StopsAtBook texts host before after
    ⊎ ((middle : PollState) × TakesBook texts host before middle × StopsFrom 0 parameters middle after)

-- Of all that a poller works with, only the tags and the metrics change.
abbrev pub KeepsDuty : Duty → Duty → Type 0
KeepsDuty before after = after ≡ record before { tags = after.tags; metrics = after.metrics }
