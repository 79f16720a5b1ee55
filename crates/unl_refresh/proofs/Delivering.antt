-- If each batch that was received in a turn was sent from the line of the slot that it was received for, the published versions represent
-- these lines.
use Rattle.std.proofs.Common.{◌≡◌, ◌+◌, ◌⊎◌, ◌∙◌, ℕ, zero, suc, Bool, false, true, All, List, [], ◌∷◌, Option, Some, None, Result, Ok, Err, IfSome, ap, get_or, inl, inr, refl, subst, sym}
use Rattle.std.proofs.Math.ListN.{set}
use Rattle.std.specs.Prelude.{slice_set}
use Rattle.std.proofs.lemmas.List.Elements.{All-push}
use Rattle.std.proofs.lemmas.Option.{unwrap_or-slice_get}
use Rattle.serde_json.specs.Data.{Data}
use Rattle.unl_delta.specs.declared.batch.Batch.{Batch}
use Rattle.unl_delta.specs.declared.batch.Verdict.{Verdict}
use Rattle.unl_delta.specs.declared.batch.Verdict.TheVariants.{Apply, Repeat, Old, Gap, Held}
use Rattle.unl_delta.specs.declared.version.EnvVersion.{EnvVersion}
use Rattle.unl_delta.specs.declared.version.Place.{Place}
use Rattle.unl_delta.specs.Batch.{empty_place, next_version, verdict_of}
use Rattle.unl_delta.specs.History.{IsSent, PlaceRepresents, RepresentsLine}
use Rattle.unl_delta.specs.Installing.{Installed, Publication, PublishedBook, PublishedVersion, one_more, place_of, with_place}
use Rattle.unl_delta.proofs.Delivery.{next_follows}
use Rattle.unl_metrics.specs.Bulk.{bulk}
use Rattle.unl_refresh.specs.declared.outcome.Outcome.{Outcome}
use Rattle.unl_refresh.specs.declared.outcome.Outcome.TheVariants.{Published, Unchanged, Repeat as repeat, Old as old, Gap as gap, Held as held, Refused, BadAnswer}
use Rattle.unl_refresh.specs.Delivery.{AllReceiveSent, AreSlotLines, FirstReceiveSent, HasRevisions, PublishesRevision, ReceivesSent, SlotLines, SlotReceivesSent, StopReceivesSent, TurnReceivesSent}
use Rattle.unl_refresh.specs.Exchange.{ReplyOrFault}
use Rattle.unl_refresh.specs.Refresh.{after_verdict}
use Rattle.unl_refresh.specs.SlotParameters.{SlotParameters}
use Rattle.unl_refresh.specs.Tokens.{Installs, book_in_reply}
use Rattle.unl_refresh.specs.Turns.{AppliesBook, MakesTurn, PollState, PollsSlotsFrom, SendsIfAny, SendsMetrics, StopsAtSlot, StopsFrom, StopsIfAny, StopsSending, TakesBook, TakesSlot, installed_after}
use Rattle.unl_refresh.proofs.Leaving.{reading_leaves}
use Rattle.unl_tokens.specs.declared.token.Token.{Token}

-- ---- one batch

-- after an item is set, each item is the one that was set or the one from before
set_cases : {A : Type 0} (xs : List A) (i j : ℕ) (x d : A) → (get_or (set xs i x) j d ≡ get_or xs j d) ⊎ ((j ≡ i) × (get_or (set xs i x) j d ≡ x))
set_cases [] i j x d = inl refl
set_cases (y ∷ ys) zero zero x d = inr (refl, refl)
set_cases (y ∷ ys) zero (suc j) x d = inl refl
set_cases (y ∷ ys) (suc i) zero x d = inl refl
set_cases (y ∷ ys) (suc i) (suc j) x d = next (set_cases ys i j x d)
  where
    next : (get_or (set ys i x) j d ≡ get_or ys j d) ⊎ ((j ≡ i) × (get_or (set ys i x) j d ≡ x))
        → (get_or (set ys i x) j d ≡ get_or ys j d) ⊎ ((suc j ≡ suc i) × (get_or (set ys i x) j d ≡ x))
    next (inl same) = inl same
    next (inr here) = inr (ap suc here.0, here.1)

-- each place after one is set is the one that was set or the one from before
place_cases : (now : Installed) (slot j : ℕ) (place : Place)
    → (place_of (with_place slot place now) j ≡ place_of now j) ⊎ ((j ≡ slot) × (place_of (with_place slot place now) j ≡ place))
place_cases now slot j place = by (set_cases now.places slot j place empty_place)
  where
    here : place_of (with_place slot place now) j ≡ get_or (set now.places slot place) j empty_place
    here = unwrap_or-slice_get (slice_set now.places slot place) j empty_place

    by : (get_or (set now.places slot place) j empty_place ≡ get_or now.places j empty_place)
        ⊎ ((j ≡ slot) × (get_or (set now.places slot place) j empty_place ≡ place))
        → (place_of (with_place slot place now) j ≡ place_of now j) ⊎ ((j ≡ slot) × (place_of (with_place slot place now) j ≡ place))
    by (inl same) = inl (here ∙ same ∙ sym (unwrap_or-slice_get now.places j empty_place))
    by (inr set) = inr (set.0, here ∙ set.1)

-- if the version of a new place represents the line of its slot, the version of each place does
placed : (lines : SlotLines) (now : Installed) (slot : ℕ) (place : Place)
    → ((j : ℕ) → PlaceRepresents (lines.line j) (lines.sees j) (place_of now j)) → PlaceRepresents (lines.line slot) (lines.sees slot) place
    → (j : ℕ) → PlaceRepresents (lines.line j) (lines.sees j) (place_of (with_place slot place now) j)
placed lines now slot place before here j = by (place_cases now slot j place)
  where
    by : (place_of (with_place slot place now) j ≡ place_of now j) ⊎ ((j ≡ slot) × (place_of (with_place slot place now) j ≡ place))
        → PlaceRepresents (lines.line j) (lines.sees j) (place_of (with_place slot place now) j)
    by (inl same) = subst (PlaceRepresents (lines.line j) (lines.sees j)) (sym same) (before j)
    by (inr set) = subst (PlaceRepresents (lines.line j) (lines.sees j)) (sym set.1)
        (subst (λ (k : ℕ). PlaceRepresents (lines.line k) (lines.sees k) place) (sym set.0) here)

-- one more publication
published_more : (P : Publication → Type 0) (publications : Option (List Publication)) (what : Publication)
    → IfSome publications (All P) → P what → IfSome (one_more what publications) (All P)
published_more P None what all one = tt
published_more P (Some list) what all one = All-push P list what all one

-- a batch that was sent from the line of its slot, with its verdict
verdict_kept : (lines : SlotLines) (slot : ℕ) (batch : Batch) (tag : Option (List ℕ)) (before : Installed) (verdict : Verdict) → AreSlotLines lines
    → verdict ≡ verdict_of (place_of before slot) batch → IsSent (lines.line slot) (lines.sees slot) batch → HasRevisions lines before
    → HasRevisions lines (after_verdict slot batch tag before verdict).installed
verdict_kept lines slot batch tag before Apply are is sent has =
    let version : EnvVersion = next_version (place_of before slot) batch in
    let represents : RepresentsLine (lines.line slot) (lines.sees slot) version =
    (next_follows (place_of before slot) batch version (sym is) refl).represents (lines.line slot) (lines.sees slot) (are slot) (has.places slot) sent in
    record {
      places = placed lines before slot (record { version = Some version; held = false }) has.places represents;
      published = published_more (PublishesRevision lines) before.publications (PublishedVersion slot version) has.published represents;
    }
verdict_kept lines slot batch tag before Gap are is sent has = record {
  places = placed lines before slot (record { version = (place_of before slot).version; held = true }) has.places (has.places slot);
  published = has.published;
}
verdict_kept lines slot batch tag before Repeat are is sent has = has
verdict_kept lines slot batch tag before Old are is sent has = has
verdict_kept lines slot batch tag before Held are is sent has = has

-- ---- one exchange

received_kept : (lines : SlotLines) (slot : ℕ) (delta : Bool) (tag : Option (List ℕ)) (before : Installed) (received : ReplyOrFault) → AreSlotLines lines
    → ReceivesSent (lines.line slot) (lines.sees slot) delta (place_of before slot) received → HasRevisions lines before
    → HasRevisions lines (installed_after slot delta tag before received)
received_kept lines slot delta tag before None are sent has = has
received_kept lines slot delta tag before (Some reading) are sent has =
    reading_leaves (HasRevisions lines) slot before delta tag (λ got. Some reading ≡ Some (Ok got)) reading
    (record {
      stays = has;
      takes = λ got batch is status reads.
          verdict_kept lines slot batch got.tag before (verdict_of (place_of before slot) batch) are refl (sent got batch is status reads) has;
    })
    (λ got is. ap Some is)

-- the request of a slot
slot_kept : {slot : ℕ} {parameters : SlotParameters} {tag : Option (List ℕ)} {before after : PollState} (lines : SlotLines) → AreSlotLines lines
    → (takes : TakesSlot slot parameters tag before after) → SlotReceivesSent lines slot parameters before takes.received
    → HasRevisions lines before.installed → HasRevisions lines after.installed
slot_kept {slot} {parameters} {tag} {before} lines are takes sent has =
    subst (HasRevisions lines) (sym takes.installed) (received_kept lines slot parameters.delta tag before.installed takes.received are sent has)

-- a report of metrics changes nothing of what is installed
report_same : (found : Option (Data × ℕ)) (parameters : SlotParameters) (before after : PollState) → SendsIfAny found parameters before after
    → after.installed ≡ before.installed
report_same None parameters before after sends = ap (λ (s : PollState). s.installed) sends
report_same (Some report) parameters before after sends = sends.installed

report_kept : (lines : SlotLines) (parameters : SlotParameters) (before after : PollState) → SendsMetrics parameters before after
    → HasRevisions lines before.installed → HasRevisions lines after.installed
report_kept lines parameters before after sends has =
    subst (HasRevisions lines) (sym (report_same (bulk parameters.environment before.metrics) parameters before after sends)) has

-- nor does one at which memory ran out
stop_same : (found : Option (Data × ℕ)) (parameters : SlotParameters) (before after : PollState) → StopsIfAny found parameters before after
    → after.installed ≡ before.installed
stop_same None parameters before after stops = ap (λ (s : PollState). s.installed) stops
stop_same (Some report) parameters before after stops = stops.installed

stop_kept : (lines : SlotLines) (parameters : SlotParameters) (before after : PollState) → StopsSending parameters before after
    → HasRevisions lines before.installed → HasRevisions lines after.installed
stop_kept lines parameters before after stops has =
    subst (HasRevisions lines) (sym (stop_same (bulk parameters.environment before.metrics) parameters before after stops)) has

-- the book
installs_kept : (lines : SlotLines) (read : Result (List Token) Outcome) (before : Installed) (outcome : Outcome) (after : Installed)
    → Installs read before outcome after → HasRevisions lines before → HasRevisions lines after
installs_kept lines (Err other) before outcome after installs has = subst (HasRevisions lines) (sym installs.1) has
installs_kept lines (Ok book) before (Published front) after installs has = subst (HasRevisions lines) (sym installs.2) (record {
  places = has.places;
  published = published_more (PublishesRevision lines) before.publications (PublishedBook book) has.published tt;
})
installs_kept lines (Ok book) before repeat after installs has = subst (HasRevisions lines) (sym installs.1) has
installs_kept lines (Ok book) before Unchanged after installs has = absurd installs
installs_kept lines (Ok book) before old after installs has = absurd installs
installs_kept lines (Ok book) before gap after installs has = absurd installs
installs_kept lines (Ok book) before held after installs has = absurd installs
installs_kept lines (Ok book) before (Refused status) after installs has = absurd installs
installs_kept lines (Ok book) before (BadAnswer bad) after installs has = absurd installs

pub book_kept : {texts : List (List ℕ)} {host : List ℕ} {before after : PollState} (lines : SlotLines) → TakesBook texts host before after
    → HasRevisions lines before.installed → HasRevisions lines after.installed
book_kept {texts} {before = before} {after = after} lines takes has = applied takes.received takes.applies
  where
    applied : (received : ReplyOrFault) → AppliesBook texts received before.installed after.installed → HasRevisions lines after.installed
    applied None applies = subst (HasRevisions lines) (sym applies) has
    applied (Some reading) applies =
        installs_kept lines (book_in_reply texts reading) before.installed applies.0 after.installed applies.1 has

-- ---- the slots of a turn

pub slots_kept : (lines : SlotLines) (slot : ℕ) (parameters : List SlotParameters) (before after : PollState) → AreSlotLines lines
    → (polls : PollsSlotsFrom slot parameters before after) → AllReceiveSent lines slot parameters before after polls
    → HasRevisions lines before.installed → HasRevisions lines after.installed
slots_kept lines slot [] before after are polls sent has = subst (λ (s : PollState). HasRevisions lines s.installed) (sym polls) has
slots_kept lines slot (parameters ∷ more) before after are polls sent has =
    slots_kept lines (slot + 1) more polls.0 after are polls.2 sent.1
    (report_kept lines parameters polls.1.0 polls.0 polls.1.2 (slot_kept lines are polls.1.1 sent.0 has))

stop_at_kept : (lines : SlotLines) (slot : ℕ) (parameters : SlotParameters) (before after : PollState) → AreSlotLines lines
    → (stops : StopsAtSlot slot parameters before after) → StopReceivesSent lines slot parameters before after stops
    → HasRevisions lines before.installed → HasRevisions lines after.installed
stop_at_kept lines slot parameters before after are (inl stops) sent has = subst (HasRevisions lines) (sym stops.installed) has
stop_at_kept lines slot parameters before after are (inr stops) sent has =
    stop_kept lines parameters stops.0 after stops.2 (slot_kept lines are stops.1 sent has)

pub stops_kept : (lines : SlotLines) (slot : ℕ) (parameters : List SlotParameters) (before after : PollState) → AreSlotLines lines
    → (stops : StopsFrom slot parameters before after) → FirstReceiveSent lines slot parameters before after stops
    → HasRevisions lines before.installed → HasRevisions lines after.installed
stops_kept lines slot [] before after are stops sent has = absurd stops
stops_kept lines slot (parameters ∷ more) before after are (inl here) sent has = stop_at_kept lines slot parameters before after are here sent has
stops_kept lines slot (parameters ∷ more) before after are (inr later) sent has =
    stops_kept lines (slot + 1) more later.0 after are later.2 sent.1
    (report_kept lines parameters later.1.0 later.0 later.1.2 (slot_kept lines are later.1.1 sent.0 has))

-- ---- a whole turn

pub turn_kept : (lines : SlotLines) (texts : List (List ℕ)) (host : List ℕ) (parameters : List SlotParameters) (before after : PollState)
    → AreSlotLines lines → (turn : MakesTurn texts host parameters before after) → TurnReceivesSent lines texts host parameters before after turn
    → HasRevisions lines before.installed → HasRevisions lines after.installed
turn_kept lines texts host parameters before after are turn sent has =
    slots_kept lines 0 parameters turn.0 after are turn.2 sent (book_kept lines turn.1 has)
