-- If a peer's replies are observable, the effect of a call is that of the next reply.
use Rattle.std.proofs.Common.{◌≡◌, ◌≢◌, ◌+◌, ◌==◌, not, ℕ, Bool, List, Option, Some, None, Result, Ok, Err, IfOk, OnOk, drop, ap, ◌∙◌, refl, subst, if◌then◌else◌}
use Rattle.std.specs.Option.{option_map}
use Rattle.serde_json.specs.Data.{Data}
use Rattle.unl_base.specs.Doors.{next_of}
use Rattle.unl_delta.specs.declared.batch.Batch.{Batch}
use Rattle.unl_delta.specs.declared.batch.Verdict.TheVariants.{Apply}
use Rattle.unl_delta.specs.Batch.{verdict_of}
use Rattle.unl_delta.specs.Installing.{Installed, after_install, place_of}
use Rattle.unl_http_api.specs.declared.got.BadReply.{BadReply}
use Rattle.unl_http_api.specs.declared.got.Got.{Got}
use Rattle.unl_http_api.specs.Received.{IsReply}
use Rattle.unl_refresh.specs.declared.ask.Ask.{Ask}
use Rattle.unl_refresh.specs.declared.outcome.MetricsOutcome.{MetricsOutcome}
use Rattle.unl_refresh.specs.declared.outcome.Outcome.{Outcome}
use Rattle.unl_refresh.specs.declared.outcome.Outcome.TheVariants.{Published, Unchanged, Refused}
use Rattle.unl_refresh.specs.declared.outcome.RefreshFault.{RefreshFault}
use Rattle.unl_refresh.specs.declared.outcome.RefreshFault.TheVariants.{PeerFault, Memory}
use Rattle.unl_refresh.specs.Exchange.{Asks}
use Rattle.unl_refresh.specs.Metrics.{OutcomeFromReply, SendsBulk, sent_by}
use Rattle.unl_refresh.specs.Refresh.{Refreshed, Refreshes, after_body, after_reading, after_verdict, batch_in, number_held}
use Rattle.unl_refresh.specs.Tokens.{Installs, RefreshesTokens, book_in_reply}
use Rattle.unl_refresh.proofs.Receiving.{same_reading}

-- ---- one reply

-- Unless the peer failed or memory ran out, exactly one reply is used up.
pub takes_one : {T : Type 0} (result : Result T RefreshFault) (request : List ℕ) (replies after : Option (List (List ℕ)))
    (history history_after : Option (List (List ℕ))) (Rises : Type 0)
    → OnOk result (Asks request replies history after history_after) → (result ≡ Err PeerFault → Rises) → ¬ Rises
    → result ≢ Err Memory → after ≡ option_map (λ list. drop 1 list) replies
takes_one (Ok x) request replies after history history_after Rises asks cause calm found = asks.one_reply
takes_one (Err PeerFault) request replies after history history_after Rises asks cause calm found = absurd (calm (cause refl))
takes_one (Err Memory) request replies after history history_after Rises asks cause calm found = absurd (found refl)

-- ---- a slot

pub refreshed_by_reply : (result : Result Outcome RefreshFault) (slot : ℕ) (ask : Ask) (before after : Installed)
    (tag : Option (List ℕ)) (replies : Option (List (List ℕ))) (list : List (List ℕ)) (reading : Result Got BadReply)
    → IfOk result (λ outcome. Refreshes slot ask before (option_map next_of replies)
    (record { outcome = outcome; installed = after; tag = tag }))
    → replies ≡ Some list → IsReply (next_of list) reading
    → IfOk result (λ outcome. record { outcome = outcome; installed = after; tag = tag }
    ≡ after_reading slot ask.delta ask.tag before reading)
refreshed_by_reply (Ok outcome) slot ask before after tag replies list reading takes observed is =
    takes.gives
    ∙ ap (after_reading slot ask.delta ask.tag before) (same_reading replies list takes.reading reading takes.is_read observed is)
refreshed_by_reply (Err fault) slot ask before after tag replies list reading takes observed is = _

-- A batch that applies is published.
pub applies : (slot : ℕ) (delta : Bool) (tag : Option (List ℕ)) (before : Installed) (got : Got) (batch : Batch)
    → got.status ≡ 200 → batch_in delta (number_held (place_of before slot)) got.body ≡ Ok batch
    → verdict_of (place_of before slot) batch ≡ Apply
    → after_reading slot delta tag before (Ok got)
    ≡ record { outcome = Published (before.front + 1); installed = after_install slot batch before; tag = got.tag }
applies slot delta tag before got batch status is verdict =
    ap (λ (n : ℕ).
    if n == 304 then record { outcome = Unchanged; installed = before; tag = tag }
    else if not (n == 200) then record { outcome = Refused n; installed = before; tag = tag }
    else after_body slot got.tag before (batch_in delta (number_held (place_of before slot)) got.body)) status
    ∙ ap (after_body slot got.tag before) is
    ∙ ap (after_verdict slot batch got.tag before) verdict

pub completes : (result : Result Outcome RefreshFault) (given wanted : Refreshed) (after : Installed)
    (tag : Option (List ℕ)) (Rises : Type 0)
    → IfOk result (λ outcome. record { outcome = outcome; installed = after; tag = tag } ≡ given) → given ≡ wanted
    → (result ≡ Err PeerFault → Rises) → ¬ Rises → result ≢ Err Memory
    → (result ≡ Ok wanted.outcome) × (after ≡ wanted.installed)
completes (Ok outcome) given wanted after tag Rises is same cause calm found =
    (ap (λ (r : Refreshed). Ok r.outcome) (is ∙ same), ap (λ (r : Refreshed). r.installed) (is ∙ same))
completes (Err PeerFault) given wanted after tag Rises is same cause calm found = absurd (calm (cause refl))
completes (Err Memory) given wanted after tag Rises is same cause calm found = absurd (found refl)

-- ---- a book

pub installed_by_reply : (result : Result Outcome RefreshFault) (texts : List (List ℕ)) (before after : Installed)
    (replies : Option (List (List ℕ))) (list : List (List ℕ)) (reading : Result Got BadReply)
    → IfOk result (λ outcome. RefreshesTokens texts before (option_map next_of replies) outcome after)
    → replies ≡ Some list → IsReply (next_of list) reading
    → IfOk result (λ outcome. Installs (book_in_reply texts reading) before outcome after)
installed_by_reply (Ok outcome) texts before after replies list reading takes observed is =
    subst (λ (r : Result Got BadReply). Installs (book_in_reply texts r) before outcome after)
    (same_reading replies list takes.reading reading takes.is_read observed is) takes.installs
installed_by_reply (Err fault) texts before after replies list reading takes observed is = _

-- ---- metrics

pub outcome_by_reply : (result : Result MetricsOutcome RefreshFault) (found : Option (Data × ℕ))
    (replies : Option (List (List ℕ))) (list : List (List ℕ)) (reading : Result Got BadReply)
    → IfOk result (SendsBulk found (option_map next_of replies))
    → replies ≡ Some list → IsReply (next_of list) reading → IfOk result (OutcomeFromReply found reading)
outcome_by_reply (Ok outcome) None replies list reading sends observed is = sends
outcome_by_reply (Ok outcome) (Some (report, count)) replies list reading sends observed is =
    sends.gives ∙ ap (sent_by count) (same_reading replies list sends.reading reading sends.is_read observed is)
outcome_by_reply (Err fault) found replies list reading sends observed is = _
