-- Reading the events of a batch one after the other gives a well-formed batch.
use Rattle.std.proofs.Common.{◌≡◌, ◌&&◌, not, ℕ, ◌+◌, ◌<◌, ◌≤◌, Bool, true, false, cond, ltb, List, [], ◌∷◌, ◌++◌, length, get_or, drop, Option, Some, None, Result, Ok, Err, refl, sym, ap, subst, ◌∙◌, append_assoc, add-one, drop-cons, arith}
use Rattle.std.specs.Prelude.{◌≢◌, IfOk, IfSome, ok_or, option_and_then, option_map}
use Rattle.std.specs.List.{AllByRecursion as Every}
use Rattle.std.specs.Option.{option_or}
use Rattle.std.proofs.lemmas.Bool.Decides.{nat_tests}
use Rattle.std.proofs.lemmas.List.{append-nil, drop_all}
use Rattle.serde_json.specs.Data.{Data, Items, no_items, item}
use Rattle.serde_json.specs.Find.{as_array}
use Rattle.serde_json.specs.View.{view, items_view}
use Rattle.serde_json.specs.declared.value.Value.{Value}
use Rattle.unl_documents.specs.declared.feed.Feed.{Feed}
use Rattle.unl_documents.specs.declared.field.Field.TheVariants as field
use Rattle.unl_documents.specs.Kinds.{at, any_whole, defaulted, optional}
use Rattle.unl_documents.specs.Results.{◌>>=◌, Gives}
use Rattle.unl_documents.specs.States.{IsValidState}
use Rattle.unl_delta.specs.declared.batch.Batch.{Batch}
use Rattle.unl_delta.specs.declared.event.Event.{Event}
use Rattle.unl_delta.specs.declared.event.Event.TheVariants.{Hydration}
use Rattle.unl_delta.specs.declared.fault.BadBatch.{BadBatch}
use Rattle.unl_delta.specs.declared.fault.BadBatch.TheVariants.{NotJson, HydrationNotFirst, NotRising, Memory}
use Rattle.unl_delta.specs.Reading.{event_of, at_place, in_order, event_at, events_from, or_not_json, batch_of, batch_of_feed}
use Rattle.unl_delta.specs.State.{number_of, is_change}
use Rattle.unl_delta.specs.Valid.{NeverFall, IsBatch, IsValidEvent, IsValidBatch}
use Rattle.unl_delta.proofs.Every.{every_append}

-- the events read so far (`prefix`), followed by those that `reading` gives, or the fault of `reading`
abbrev pub with_prefix : List Event → Result (List Event) BadBatch → Result (List Event) BadBatch
with_prefix prefix reading = reading >>= λ others. Ok (prefix ++ others)

regroup : (prefix : List Event) (e : Event) (reading : Result (List Event) BadBatch) → with_prefix prefix (reading >>= λ others. Ok (e ∷ others)) ≡ with_prefix (prefix ++ e ∷ []) reading
regroup prefix e (Ok others) = ap Ok (sym (append_assoc prefix (e ∷ []) others))
regroup prefix e (Err fault) = refl

pub goes_on : (prefix : List Event) (values : List Value) (i before : ℕ) (d : Value) (e : Event) (total : Result (List Event) BadBatch) → i < length values → event_at i before (view (get_or values i d)) ≡ Ok e
    → with_prefix prefix (events_from i before (items_view (drop i values))) ≡ total → with_prefix (prefix ++ e ∷ []) (events_from (i + 1) (number_of e) (items_view (drop (i + 1) values))) ≡ total
unfolding events_from
goes_on prefix values i before d e total lt here so_far =
    let parts : drop i values ≡ get_or values i d ∷ drop (i + 1) values = rw add-one (drop-cons values i d lt) in
    let one : with_prefix prefix (events_from i before (items_view (drop i values))) ≡ with_prefix (prefix ++ e ∷ []) (events_from (i + 1) (number_of e) (items_view (drop (i + 1) values))) =
    rw (parts, here) (regroup prefix e (events_from (i + 1) (number_of e) (items_view (drop (i + 1) values)))) in
    sym one ∙ so_far

pub ends : (fault : BadBatch) (prefix : List Event) (values : List Value) (i before : ℕ) (d : Value) (total : Result (List Event) BadBatch) → i < length values → (fault ≢ Memory → event_at i before (view (get_or values i d)) ≡ Err fault)
    → with_prefix prefix (events_from i before (items_view (drop i values))) ≡ total → fault ≢ Memory → total ≡ Err fault
unfolding events_from
ends fault prefix values i before d total lt here so_far known =
    let parts = drop-cons values i d lt in
    let found : event_at i before (view (get_or values i d)) ≡ Err fault = here known in
    let one : with_prefix prefix (events_from i before (items_view (drop i values))) ≡ Err fault = rw (parts, found) refl in
    sym so_far ∙ one

pub is_done : (prefix : List Event) (values : List Value) (i before : ℕ) (total : Result (List Event) BadBatch) → length values ≤ i → with_prefix prefix (events_from i before (items_view (drop i values))) ≡ total → total ≡ Ok prefix
unfolding events_from
is_done prefix values i before total le so_far =
    let nothing : drop i values ≡ [] = drop_all i values le in
    let one : with_prefix prefix (events_from i before (items_view (drop i values))) ≡ Ok prefix = rw nothing (ap Ok (append-nil prefix)) in
    sym so_far ∙ one

pub each_more : (prefix : List Event) (e : Event) → Every IsValidEvent prefix → IsValidEvent e → Every IsValidEvent (prefix ++ e ∷ [])
each_more prefix e each valid = every_append IsValidEvent prefix (e ∷ []) each (valid, tt)

-- ---- the order of the events read

-- the event is allowed at index `place`: it is a change unless it is first, and its number is not below `before`
record Fits (place before : ℕ) (e : Event) : Type 0 where
  pub change : 0 < place → is_change e ≡ true
  pub rises : before ≤ number_of e

fits_from : (place before : ℕ) (e x : Event) → in_order place before e ≡ Ok x → Fits place before x
unfolding in_order
fits_from place before e x is = decided (ltb 0 place) (is_change e) (ltb (number_of e) before) refl refl refl is
  where
    decided : (later change falls : Bool) → ltb 0 place ≡ later → is_change e ≡ change → ltb (number_of e) before ≡ falls → cond (later && not change) (Err (HydrationNotFirst place)) (cond falls (Err (NotRising place)) (Ok e)) ≡ Ok x → Fits place before x
    decided true false falls l c f so = absurd cc
    decided true true true l c f so = absurd cc
    decided false change true l c f so = absurd cc
    decided true true false l c f so =
        let same : e ≡ x = cc in
        subst (Fits place before) same (record { change = λ _. c; rises = grind (arith, nat_tests, f) })
    decided false change false l c f so =
        let same : e ≡ x = cc in
        subst (Fits place before) same (record { change = λ more. absurd (grind (arith, nat_tests, l, more)); rises = grind (arith, nat_tests, f) })

fits_at : (place before : ℕ) (value : Data) (x : Event) → event_at place before value ≡ Ok x → Fits place before x
unfolding event_at
fits_at place before value x is = decided (at_place place (event_of value)) is
  where
    decided : (r : Result Event BadBatch) → (r >>= in_order place before) ≡ Ok x → Fits place before x
    decided (Ok e) so = fits_from place before e x so
    decided (Err fault) so = absurd cc

-- the events from index `place` on: all are changes if `place` is not 0, and their numbers never decrease and are not below `before`
record AreInOrder (place before : ℕ) (es : List Event) : Type 0 where
  pub changes : 0 < place → Every (λ e. is_change e ≡ true) es
  pub numbers : NeverFall number_of before es

in_order_from : (place before : ℕ) (values : Items) (es : List Event) → events_from place before values ≡ Ok es → AreInOrder place before es
unfolding events_from
in_order_from place before no_items es is =
    let same : [] ≡ es = cc in
    subst (AreInOrder place before) same (record { changes = λ _. tt; numbers = tt })
in_order_from place before (item value values) es is = decided (λ low xs so. in_order_from (place + 1) low values xs so) (event_at place before value) refl is
  where
    more : ((low : ℕ) (xs : List Event) → events_from (place + 1) low values ≡ Ok xs → AreInOrder (place + 1) low xs) → (e : Event) (r : Result (List Event) BadBatch) → event_at place before value ≡ Ok e → events_from (place + 1) (number_of e) values ≡ r
        → (r >>= λ others. Ok (e ∷ others)) ≡ Ok es → AreInOrder place before es
    more again e (Err fault) one rest so = absurd cc
    more again e (Ok others) one rest so =
        let same : e ∷ others ≡ es = cc in
        let first : Fits place before e = fits_at place before value e one in
        let later : AreInOrder (place + 1) (number_of e) others = again (number_of e) others rest in
        subst (AreInOrder place before) same (record { changes = λ after. (first.change after, later.changes (omega arith)); numbers = (first.rises, later.numbers) })

    decided : ((low : ℕ) (xs : List Event) → events_from (place + 1) low values ≡ Ok xs → AreInOrder (place + 1) low xs) → (r : Result Event BadBatch) → event_at place before value ≡ r
        → (r >>= λ e. events_from (place + 1) (number_of e) values >>= λ others. Ok (e ∷ others)) ≡ Ok es → AreInOrder place before es
    decided again (Err fault) one so = absurd cc
    decided again (Ok e) one so = more again e (events_from (place + 1) (number_of e) values) one refl so

-- events read from the first position on are those of a well-formed batch
pub read_in_order : (values : Items) (es : List Event) → events_from 0 0 values ≡ Ok es → Every (λ e. is_change e ≡ true) (drop 1 es) × NeverFall number_of 0 es
unfolding events_from
read_in_order no_items es is =
    let same : [] ≡ es = cc in
    subst (λ (xs : List Event). Every (λ (e : Event). is_change e ≡ true) (drop 1 xs) × NeverFall number_of 0 xs) same (tt, tt)
read_in_order (item value values) es is = decided (event_at 0 0 value) is
  where
    more : (e : Event) (r : Result (List Event) BadBatch) → events_from 1 (number_of e) values ≡ r → (r >>= λ others. Ok (e ∷ others)) ≡ Ok es → Every (λ (e : Event). is_change e ≡ true) (drop 1 es) × NeverFall number_of 0 es
    more e (Err fault) rest so = absurd cc
    more e (Ok others) rest so =
        let same : e ∷ others ≡ es = cc in
        let later : AreInOrder 1 (number_of e) others = in_order_from 1 (number_of e) values others rest in
        subst (λ (xs : List Event). Every (λ (x : Event). is_change x ≡ true) (drop 1 xs) × NeverFall number_of 0 xs) same (later.changes (omega arith), (omega arith, later.numbers))

    decided : (r : Result Event BadBatch) → (r >>= λ e. events_from 1 (number_of e) values >>= λ others. Ok (e ∷ others)) ≡ Ok es → Every (λ (e : Event). is_change e ≡ true) (drop 1 es) × NeverFall number_of 0 es
    decided (Err fault) so = absurd cc
    decided (Ok e) so = more e (events_from 1 (number_of e) values) refl so

batch_in_order : (held : Option ℕ) (value : Data) (batch : Batch) → batch_of held value ≡ Ok batch → IsBatch batch
unfolding batch_of
batch_in_order held value batch is = decided (ok_or (option_and_then as_array (at field.Events value)) NotJson) (or_not_json (defaulted 0 any_whole field.Epoch value)) (or_not_json (optional any_whole field.After value)) is
  where
    events : (values : Items) (epoch : ℕ) (after : Option ℕ) (r : Result (List Event) BadBatch) → events_from 0 0 values ≡ r → (r >>= λ es. Ok (record { epoch = epoch; after = option_or after held; events = es })) ≡ Ok batch → IsBatch batch
    events values epoch after (Err fault) one so = absurd cc
    events values epoch after (Ok es) one so =
        let same : record { epoch = epoch; after = option_or after held; events = es } ≡ batch = cc in
        let order = read_in_order values es one in
        subst IsBatch same (record { changes = order.0; numbers = order.1 })

    decided : (r : Result Items BadBatch) (q : Result ℕ BadBatch) (s : Result (Option ℕ) BadBatch) → (r >>= λ values. q >>= λ epoch. s >>= λ after. events_from 0 0 values >>= λ es. Ok (record { epoch = epoch; after = option_or after held; events = es })) ≡ Ok batch
        → IsBatch batch
    decided (Err fault) q s so = absurd cc
    decided (Ok values) (Err fault) s so = absurd cc
    decided (Ok values) (Ok epoch) (Err fault) so = absurd cc
    decided (Ok values) (Ok epoch) (Ok after) so = events values epoch after (events_from 0 0 values) refl so

pub read_is_valid : (held : Option ℕ) (value : Data) (r : Result Batch BadBatch) → Gives Memory r (batch_of held value) → IfOk r (λ batch. Every IsValidEvent batch.events) → IfOk r IsValidBatch
read_is_valid held value (Ok batch) gives valid = record { order = batch_in_order held value batch gives; events = valid }
read_is_valid held value (Err fault) gives valid = tt

pub feed_is_valid : (feed : Feed) → IsValidState feed.state → IfSome (batch_of_feed feed) IsValidBatch
feed_is_valid feed valid = decided feed.number
  where
    decided : (number : Option ℕ) → IfSome (option_map (λ n. record { epoch = feed.epoch; after = None; events = Hydration n feed.state ∷ [] }) number) IsValidBatch
    decided None = tt
    decided (Some n) = record { order = record { changes = tt; numbers = (omega arith, tt) }; events = (valid, tt) }
