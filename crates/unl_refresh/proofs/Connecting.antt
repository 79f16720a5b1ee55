-- The number of connections to a peer, and what a refresh preserves of what is installed.
use Rattle.std.proofs.Common.{◌≡◌, ◌≤◌, ◌+◌, ◌==◌, ◌∙◌, ℕ, Bool, true, false, cond, not, List, drop, Option, Some, None, Result, Ok, Err, refl, sym, ap, subst, arith, inl, inr}
use Rattle.std.specs.Prelude.{◌≢◌, option_map, IfOk, OnErr, OnOk}
use Rattle.std.proofs.lemmas.List.{drop-drop, length-set}
use Rattle.serde_json.specs.Data.{Data}
use Rattle.unl_base.specs.Faults.{Rose}
use Rattle.unl_delta.specs.declared.batch.Batch.{Batch as TheBatch}
use Rattle.unl_delta.specs.declared.batch.Verdict.{Verdict}
use Rattle.unl_delta.specs.declared.batch.Verdict.TheVariants as verdict
use Rattle.unl_delta.specs.Batch.{verdict_of}
use Rattle.unl_delta.specs.Installing.{Installed, place_of}
use Rattle.unl_documents.specs.declared.memory.Memory.{Memory}
use Rattle.unl_refresh.specs.Connects.{Connects}
use Rattle.unl_refresh.specs.Turns.{PublishesAtMostOnce}
use Rattle.unl_http_api.specs.declared.got.BadReply.{BadReply}
use Rattle.unl_http_api.specs.declared.got.Got.{Got}
use Rattle.unl_refresh.specs.declared.ask.Ask.{Ask}
use Rattle.unl_refresh.specs.declared.outcome.Bad.{Bad}
use Rattle.unl_refresh.specs.declared.outcome.Outcome.{Outcome}
use Rattle.unl_refresh.specs.declared.outcome.Outcome.TheVariants.{Published, Unchanged, Repeat, Old, Gap, Held, Refused, BadAnswer}
use Rattle.unl_refresh.specs.declared.outcome.RefreshFault.{RefreshFault}
use Rattle.unl_refresh.specs.declared.outcome.RefreshFault.TheVariants.{PeerFault as peer_fault, Memory as out_of_memory}
use Rattle.unl_refresh.specs.Exchange.{Asks, AsksAtMostOnce}
use Rattle.unl_refresh.specs.Metrics.{AsksBulkAtMostOnce}
use Rattle.unl_refresh.specs.Refresh.{Refreshed, Refreshes, after_body, after_reading, after_verdict, batch_in, number_held}
use Rattle.unl_refresh.specs.Tokens.{Installs, RefreshesTokens, book_in_reply}
use Rattle.unl_tokens.specs.declared.token.Token.{Token}

-- ---- counting connections

-- a fault count that rose within a period rose within any longer one
rose_within : (before first last after : ℕ) → before ≤ first → last ≤ after → Rose first last → Rose before after
rose_within before first last after begins ends rose = omega (arith, begins, ends, rose)

-- if no connection is made, no reply is used up
pub none_taken : (replies : Option (List (List ℕ))) → replies ≡ option_map (λ list. drop 0 list) replies
none_taken None = refl
none_taken (Some list) = refl

-- `some` connections and then `more` others use up `some + more` replies
taken_both : (replies middle last : Option (List (List ℕ))) (some more : ℕ) → middle ≡ option_map (λ list. drop some list) replies
    → last ≡ option_map (λ list. drop more list) middle → last ≡ option_map (λ list. drop (some + more) list) replies
taken_both None middle last some more first then = then ∙ ap (option_map (λ list. drop more list)) first
taken_both (Some list) middle last some more first then =
    then ∙ ap (option_map (λ list. drop more list)) first ∙ ap Some (drop-drop more some list)

-- if nothing changed, at least zero connections were made
pub connects_nothing : (replies : Option (List (List ℕ))) (faults : ℕ) → Connects 0 replies faults replies faults
connects_nothing replies faults = record { later = omega arith; made = λ none. (0, omega arith, none_taken replies) }

-- after a fault of the peer, `Connects` holds with any lower bound
pub after_fault : (least : ℕ) (replies replies_after : Option (List (List ℕ))) (faults faults_after : ℕ)
    → faults ≤ faults_after → Rose faults faults_after → Connects least replies faults replies_after faults_after
after_fault least replies replies_after faults faults_after later rose = record { later = later; made = λ none. absurd (none rose) }

-- an exchange makes one connection
pub one_connect : {request : List ℕ} {replies replies_after history history_after : Option (List (List ℕ))} {faults faults_after : ℕ}
    → Asks request replies history replies_after history_after → faults ≤ faults_after → Connects 1 replies faults replies_after faults_after
one_connect asks later = record { later = later; made = λ none. (1, omega arith, asks.one_reply) }

-- at most one exchange makes at least zero connections
pub none_or_one : {request : List ℕ} {replies replies_after history history_after : Option (List (List ℕ))} {faults faults_after : ℕ}
    → AsksAtMostOnce request replies history replies_after history_after → faults ≤ faults_after → Connects 0 replies faults replies_after faults_after
none_or_one {replies = replies} (inl (same, silent)) later = record { later = later; made = λ none. (0, omega arith, same ∙ none_taken replies) }
none_or_one (inr part) later = record { later = later; made = λ none. (1, omega arith, part.one_reply) }

-- as `none_or_one`, for a report of metrics that may be absent
pub report_at_most_once : (found : Option (Data × ℕ)) (host token : List ℕ) (replies replies_after history history_after : Option (List (List ℕ)))
    (faults faults_after : ℕ) → AsksBulkAtMostOnce found host token replies history replies_after history_after → faults ≤ faults_after
    → Connects 0 replies faults replies_after faults_after
report_at_most_once None host token replies replies_after history history_after faults faults_after asks later =
    record { later = later; made = λ none. (0, omega arith, asks.0 ∙ none_taken replies) }
report_at_most_once (Some (report, count)) host token replies replies_after history history_after faults faults_after asks later = none_or_one asks later

-- some connections, and then others: the lower bounds add up
pub connects_both : {least more : ℕ} {replies middle last : Option (List (List ℕ))} {faults faults_middle faults_last : ℕ}
    → Connects least replies faults middle faults_middle → Connects more middle faults_middle last faults_last
    → Connects (least + more) replies faults last faults_last
connects_both {least} {more} {replies} {middle} {last} {faults} {faults_middle} {faults_last} first then = record {
  later = omega (arith, first.later, then.later);
  made = λ none.
      let some = first.made (λ rose. none (rose_within faults faults faults_middle faults_last (omega arith) then.later rose)) in
      let others = then.made (λ rose. none (rose_within faults faults_middle faults_last faults_last first.later (omega arith) rose)) in
      (some.0 + others.0, omega (arith, some.1, others.1), taken_both replies middle last some.0 others.0 some.2 others.2);
}

-- a smaller lower bound
pub connects_fewer : {least fewer : ℕ} {replies replies_after : Option (List (List ℕ))} {faults faults_after : ℕ}
    → fewer ≤ least → Connects least replies faults replies_after faults_after → Connects fewer replies faults replies_after faults_after
connects_fewer few connects = record {
  later = connects.later;
  made = λ none. let some = connects.made none in (some.0, omega (arith, few, some.1), some.2);
}

-- ---- what is installed after a refresh

-- at most one publication was made if what is installed is unchanged
pub same_at_most_once : (before after : Installed) → after ≡ before → PublishesAtMostOnce before after
same_at_most_once before after same = subst (PublishesAtMostOnce before) (sym same) (record { places = refl; front = omega arith })

verdict_at_most_once : (slot : ℕ) (batch : TheBatch) (tag : Option (List ℕ)) (before : Installed) (verdict : Verdict)
    → PublishesAtMostOnce before (after_verdict slot batch tag before verdict).installed
verdict_at_most_once slot batch tag before verdict.Apply = record { places = length-set _ _ _; front = omega arith }
verdict_at_most_once slot batch tag before verdict.Repeat = same_at_most_once before before refl
verdict_at_most_once slot batch tag before verdict.Old = same_at_most_once before before refl
verdict_at_most_once slot batch tag before verdict.Gap = record { places = length-set _ _ _; front = omega arith }
verdict_at_most_once slot batch tag before verdict.Held = same_at_most_once before before refl

batch_at_most_once : (slot : ℕ) (tag : Option (List ℕ)) (before : Installed) (read : Result TheBatch Bad) → PublishesAtMostOnce before (after_body slot tag before read).installed
batch_at_most_once slot tag before (Ok batch) = verdict_at_most_once slot batch tag before (verdict_of (place_of before slot) batch)
batch_at_most_once slot tag before (Err bad) = same_at_most_once before before refl

reading_at_most_once : (slot : ℕ) (delta : Bool) (tag : Option (List ℕ)) (before : Installed) (reading : Result Got BadReply)
    → PublishesAtMostOnce before (after_reading slot delta tag before reading).installed
reading_at_most_once slot delta tag before (Err bad) = same_at_most_once before before refl
reading_at_most_once slot delta tag before (Ok got) = by_status (got.status == 304) (got.status == 200)
  where
    taken : Refreshed
    taken = after_body slot got.tag before (batch_in delta (number_held (place_of before slot)) got.body)

    by_status : (unchanged found : Bool)
        → PublishesAtMostOnce before (cond unchanged (record { outcome = Unchanged; installed = before; tag = tag })
        (cond (not found) (record { outcome = Refused got.status; installed = before; tag = tag }) taken)).installed
    by_status true found = same_at_most_once before before refl
    by_status false true = batch_at_most_once slot got.tag before (batch_in delta (number_held (place_of before slot)) got.body)
    by_status false false = same_at_most_once before before refl

-- the effect of refreshing a slot is at most one publication
pub slot_at_most_once : {slot : ℕ} {ask : Ask} {before : Installed} {coming : Option (List ℕ)} {after : Refreshed}
    → Refreshes slot ask before coming after → PublishesAtMostOnce before after.installed
slot_at_most_once {slot} {ask} {before} refreshes =
    subst (λ (r : Refreshed). PublishesAtMostOnce before r.installed) (sym refreshes.gives) (reading_at_most_once slot ask.delta ask.tag before refreshes.reading)

installs_at_most_once : (read : Result (List Token) Outcome) (before : Installed) (outcome : Outcome) (after : Installed) → Installs read before outcome after
    → PublishesAtMostOnce before after
installs_at_most_once (Err other) before outcome after installs = same_at_most_once before after installs.1
installs_at_most_once (Ok book) before (Published front) after installs =
    subst (PublishesAtMostOnce before) (sym installs.2) (record { places = refl; front = omega arith })
installs_at_most_once (Ok book) before Repeat after installs = same_at_most_once before after installs.1
installs_at_most_once (Ok book) before Unchanged after installs = absurd installs
installs_at_most_once (Ok book) before Old after installs = absurd installs
installs_at_most_once (Ok book) before Gap after installs = absurd installs
installs_at_most_once (Ok book) before Held after installs = absurd installs
installs_at_most_once (Ok book) before (Refused status) after installs = absurd installs
installs_at_most_once (Ok book) before (BadAnswer bad) after installs = absurd installs

-- the effect of refreshing the book is at most one publication
pub book_at_most_once : {texts : List (List ℕ)} {before : Installed} {coming : Option (List ℕ)} {outcome : Outcome} {after : Installed}
    → RefreshesTokens texts before coming outcome after → PublishesAtMostOnce before after
book_at_most_once {texts} {before} {coming} {outcome} {after} refreshes =
    installs_at_most_once (book_in_reply texts refreshes.reading) before outcome after refreshes.installs

-- ---- from the result of a refresh

-- as `book_at_most_once`, whatever the result is
pub book_result_at_most_once : (texts : List (List ℕ)) {before after : Installed} (coming : Option (List ℕ)) (reported : Result Outcome RefreshFault)
    → IfOk reported (λ outcome. RefreshesTokens texts before coming outcome after) → OnErr reported (after ≡ before) → PublishesAtMostOnce before after
book_result_at_most_once texts coming (Ok outcome) takes fault = book_at_most_once takes
book_result_at_most_once texts {before} {after} coming (Err e) takes fault = same_at_most_once before after fault

-- as `slot_at_most_once`, whatever the result is
pub slot_result_at_most_once : (slot : ℕ) (ask : Ask) {before after : Installed} (coming tag : Option (List ℕ)) (reported : Result Outcome RefreshFault)
    → IfOk reported (λ outcome. Refreshes slot ask before coming (record { outcome = outcome; installed = after; tag = tag }))
    → OnErr reported (after ≡ before) → PublishesAtMostOnce before after
slot_result_at_most_once slot ask coming tag (Ok outcome) takes fault = slot_at_most_once takes
slot_result_at_most_once slot ask {before} {after} coming tag (Err e) takes fault = same_at_most_once before after fault

-- unless memory ran out, one connection was made, or the peer failed
pub asked_once : {A : Type 0} (request : List ℕ) (replies replies_after history history_after : Option (List (List ℕ))) {faults faults_after : ℕ}
    (reported : Result A RefreshFault) (result : Result Unit Memory) → OnOk result (reported ≢ Err out_of_memory) → OnOk reported (Asks request replies history replies_after history_after)
    → (reported ≡ Err peer_fault → Rose faults faults_after) → faults ≤ faults_after → OnOk result (Connects 1 replies faults replies_after faults_after)
asked_once request replies replies_after history history_after reported (Err e) some asks cause later = tt
asked_once request replies replies_after history history_after (Ok outcome) (Ok _) some asks cause later = one_connect asks later
asked_once request replies replies_after history history_after (Err peer_fault) (Ok _) some asks cause later = after_fault _ _ _ _ _ later (cause refl)
asked_once request replies replies_after history history_after (Err out_of_memory) (Ok _) some asks cause later = absurd (some refl)

-- a fact that holds in any case holds if the result is `Ok`
pub if_ok : {A E X : Type 0} (result : Result A E) → X → OnOk result X
if_ok (Ok a) x = x
if_ok (Err e) x = tt

-- one connection for the book, and then some for the slots
pub one_and_more : {A E : Type 0} {fewer : ℕ} (more : ℕ) {replies middle : Option (List (List ℕ))} (last : Option (List (List ℕ)))
    {faults faults_middle : ℕ} (faults_last : ℕ) (result : Result A E)
    → fewer ≤ more + 1 → Connects 1 replies faults middle faults_middle → OnOk result (Connects more middle faults_middle last faults_last)
    → OnOk result (Connects fewer replies faults last faults_last)
one_and_more more last faults_last (Ok a) few first then =
    let count : 1 + more ≡ more + 1 = omega arith in
    connects_fewer (omega (arith, few, count)) (connects_both first then)
one_and_more more last faults_last (Err e) few first then = tt

-- some connections, and then perhaps others: the lower bound of the former still holds
pub connects_still : {least : ℕ} {replies middle last : Option (List (List ℕ))} {faults faults_middle faults_last : ℕ}
    → Connects least replies faults middle faults_middle → Connects 0 middle faults_middle last faults_last → Connects least replies faults last faults_last
connects_still {least} first then =
    let few : least ≤ least + 0 = omega arith in
    connects_fewer few (connects_both first then)
