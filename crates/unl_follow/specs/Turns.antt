-- The turns of a run, their effect on the replica, and the lines that they print. In each turn the program sends one request to the
-- peer, applies the reply to its replica of one environment, and prints a line. In a list of turns the last turn comes first.
use Rattle.std.specs.Prelude.{◌≡◌, ℕ, ◌+◌, ◌⊎◌, Bool, List, [], ◌∷◌, ◌++◌, drop, length, Option, Some, None, option_map}
use Rattle.unl_base.specs.declared.draws.Draw.{Draw}
use Rattle.unl_base.specs.Doors.{next_of}
use Rattle.unl_base.specs.Draws.{TakesDraw}
use Rattle.unl_delta.specs.declared.version.EnvVersion.{EnvVersion}
use Rattle.unl_delta.specs.Installing.{Installed, place_of}
use Rattle.unl_refresh.specs.declared.ask.Ask.{Ask}
use Rattle.unl_refresh.specs.declared.outcome.Outcome.{Outcome}
use Rattle.unl_refresh.specs.Exchange.{AddsPrefix, AddsText, IsParsedFrom, ReplyOrFault}
use Rattle.unl_refresh.specs.Refresh.{Refreshed, after_reading, refresh_request}
use Rattle.unl_strategies.specs.Moment.{Moment}
use Rattle.unl_follow.specs.Line.{line_of, number_text, on_text, word_of}
use Rattle.unl_follow.specs.Replica.{Subject, found_in, installed_by, new_replica}

-- a turn: its draw, and the reply to its request, or a fault
pub record Turn : Type 0 where
  pub draw : Draw
  pub received : ReplyOrFault

-- the state between two turns: what is installed in the replica, and the tag (`If-None-Match`) of the next request, if it has one
pub record TurnState : Type 0 where
  pub installed : Installed
  pub tag : Option (List ℕ)

-- the effect of a turn: its outcome (none if the peer failed) and the state after it
pub record TurnEffect : Type 0 where
  pub outcome : Option Outcome
  pub turn_state : TurnState

-- the state before the first turn
abbrev pub first_state : TurnState
first_state = record { installed = installed_by new_replica; tag = None }

-- the effect of a turn whose request was answered, from the result of the refresh
abbrev pub turned_by : Refreshed → TurnEffect
turned_by after = record { outcome = Some after.outcome; turn_state = record { installed = after.installed; tag = after.tag } }

-- the effect of a turn, by the reply or the fault; after a fault nothing is applied, and the next request has no tag. `delta` says
-- whether deltas or whole feeds are requested
unfoldable pub turned_to : Bool → TurnState → ReplyOrFault → TurnEffect
turned_to delta before None = record { outcome = None; turn_state = record { installed = before.installed; tag = None } }
turned_to delta before (Some reading) = turned_by (after_reading 0 delta before.tag before.installed reading)

-- the state after these turns
unfoldable pub state_after : Bool → List Turn → TurnState
state_after delta [] = first_state
state_after delta (turn ∷ earlier) = (turned_to delta (state_after delta earlier) turn.received).turn_state

-- the replica's version in this state, if it has one
abbrev pub version_in : TurnState → Option EnvVersion
version_in turn_state = (place_of turn_state.installed 0).version

-- the moment of a draw, on a host without a name
abbrev pub moment_of : Draw → Moment
moment_of draw = record { now = draw.now; word = draw.word; host = [] }

-- the line of turn `k`, by its draw and effect
unfoldable pub turn_line : Subject → ℕ → Draw → TurnEffect → List ℕ
turn_line subject k draw turned =
    line_of k (word_of turned.outcome) (number_text (version_in turned.turn_state))
    (on_text (found_in (version_in turned.turn_state) subject.feature subject.context (moment_of draw)))

-- the text printed for these turns, one line for each, in order; `delta` says whether deltas or whole feeds are requested
unfoldable pub follow_text : Bool → Subject → List Turn → List ℕ
follow_text delta subject [] = []
follow_text delta subject (turn ∷ earlier) =
    follow_text delta subject earlier
    ++ turn_line subject (length earlier + 1) turn.draw (turned_to delta (state_after delta earlier) turn.received)

-- ---- the replies, requests and draws of the turns

-- the reply on connection number `j`, counted from 0, if the replies are observable; empty if there are no more replies
abbrev pub reply_at : Option (List (List ℕ)) → ℕ → Option (List ℕ)
reply_at replies j = option_map (λ list. next_of (drop j list)) replies

-- A turn received a reply or a fault. Before the turn, `i` replies were used up and there were `k` faults; after it, these
-- counts are `j` and `m`. If a reply was received, it was parsed from the next item of the list (if the list is observable), and
-- that item is used up. A fault adds one to the faults, and may have used up a reply.
abbrev pub IsReceived : Option (List (List ℕ)) → ReplyOrFault → ℕ → ℕ → ℕ → ℕ → Type 0
IsReceived replies (Some reading) i k j m = IsParsedFrom (reply_at replies i) reading × (j ≡ i + 1) × (m ≡ k)
IsReceived replies None i k j m = ((j ≡ i) ⊎ (j ≡ i + 1)) × (m ≡ k + 1)

-- these turns used up `j` of the replies and had `m` faults
abbrev pub HaveTurned : Option (List (List ℕ)) → List Turn → ℕ → ℕ → Type 0
HaveTurned replies [] j m = (j ≡ 0) × (m ≡ 0)
HaveTurned replies (turn ∷ earlier) j m =
    (i : ℕ) × (k : ℕ) × HaveTurned replies earlier i k × IsReceived replies turn.received i k j m

-- the request of a turn: for the ask's host and token, for a delta or a whole feed as `ask.delta` says, with the tag before the turn
abbrev pub request_at : Ask → TurnState → List ℕ
request_at ask turn_state = refresh_request ask.delta ask.host ask.token turn_state.tag

-- The texts that were sent to the peer, one for each connection, before and after a turn. If the turn had a reply, its request is
-- added as one more text. If the peer failed, a prefix of the request is added (perhaps all of it), or nothing.
abbrev pub IsAsked : ReplyOrFault → List ℕ → Option (List (List ℕ)) → Option (List (List ℕ)) → Type 0
IsAsked (Some reading) request asked asked_after = AddsText asked request asked_after
IsAsked None request asked asked_after = (asked_after ≡ asked) ⊎ AddsPrefix asked request asked_after

-- the texts that were sent to the peer before (`asked`) and after (`asked_after`) these turns
abbrev pub HaveAsked : Ask → Option (List (List ℕ)) → List Turn → Option (List (List ℕ)) → Type 0
HaveAsked ask asked [] asked_after = asked_after ≡ asked
HaveAsked ask asked (turn ∷ earlier) asked_after =
    (between : Option (List (List ℕ))) × HaveAsked ask asked earlier between
    × IsAsked turn.received (request_at ask (state_after ask.delta earlier)) between asked_after

-- these turns took their draws one after another
abbrev pub HaveDrawn : Option (List Draw × Draw) → List Turn → Option (List Draw × Draw) → Type 0
HaveDrawn coming [] after = after ≡ coming
HaveDrawn coming (turn ∷ earlier) after =
    (between : Option (List Draw × Draw)) × HaveDrawn coming earlier between × TakesDraw between turn.draw after
