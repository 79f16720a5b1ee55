-- The hour of an instant that was read from a text is at most `last_hour`, the latest hour whose text can be read.
use Rattle.std.proofs.Common.{◌≡◌, ℕ, ◌≤◌, ◌/◌, ◌||◌, Bool, true, false, cond, List, Option, Some, None, Result, Ok, Err, refl, sym, subst, ap, T, nat_lt, arith, ℤ, pos, negsuc, neg_ℤ, ◌-ℤ◌, ◌≤ℤ◌}
use Rattle.std.proofs.lemmas.Int.{ints}
use Rattle.std.specs.Prelude.{IfSome, option_and_then, int_lt, is_ok, is_some, unwrap_or}
use Rattle.std.specs.Result.{result_ok}
use Rattle.jiff.proofs.SpanFacts.{signed_arith}
use Rattle.jiff_core.specs.declared.error.Error.{Error}
use Rattle.jiff_core.specs.declared.error.Error.TheVariants.{Missing}
use Rattle.jiff_core.specs.declared.error.Part.TheVariants as Part
use Rattle.jiff_core.specs.Timestamp.{nanos_of_seconds}
use Rattle.jiff_fmt.specs.Offset as Offset
use Rattle.jiff_fmt.specs.Reader.{◌>>=◌, or_err}
use Rattle.jiff_fmt.specs.Temporal.{temporal_datetime, full, parse_timestamp, to_timestamp, instant, parts_nanos}
use Rattle.unl_constraints.specs.Instant.{instant_of}
use Rattle.unl_metrics.specs.Hours.{hour_of}

bind_is : {A B : Type 0} (r : Result A Error) (f : A → Result B Error) (b : B) → (r >>= f) ≡ Ok b → (a : A) × (f a ≡ Ok b)
bind_is (Ok a) f b e = (a, e)
bind_is (Err x) f b e = absurd (subst T (sym (ap is_ok e)) tt)

value_or : Result ℤ Error → ℤ → ℤ
value_or (Ok n) m = n
value_or (Err e) m = m

in_range : (early late : Bool) (m n : ℤ) (x : Error) → cond (early || late) (Err x) (Ok m) ≡ Ok n → (late ≡ false) × (m ≡ n)
unfolding value_or
in_range true late m n x e = absurd (subst T (sym (ap is_ok e)) tt)
in_range false true m n x e = absurd (subst T (sym (ap is_ok e)) tt)
in_range false false m n x e = (refl, ap (λ r. value_or r m) e)

not_late : (m : ℤ) → int_lt (pos 253402207200999999999) m ≡ false → m ≤ℤ pos 253402207200999999999
not_late m e = grind (arith, ints, e)

is_soon : (m n : ℤ) → instant m ≡ Ok n → n ≤ℤ pos 253402207200999999999
is_soon m n e =
    let found = in_range (int_lt m (neg_ℤ (pos 377705023201000000000))) (int_lt (pos 253402207200999999999) m) m n _ e in
    subst (λ z. z ≤ℤ pos 253402207200999999999) found.1 (not_late m found.0)

parsed_soon : (text : List ℕ) (n : ℤ) → parse_timestamp text ≡ Ok n → n ≤ℤ pos 253402207200999999999
parsed_soon text n e =
    let p = bind_is (full (temporal_datetime text)) to_timestamp n e in
    let time = bind_is (or_err (Missing Part.Time) p.0.time) (λ time. or_err (Missing Part.Offset) p.0.offset >>= λ offset. Offset.to_offset offset >>= λ seconds. instant (parts_nanos p.0.date time -ℤ nanos_of_seconds seconds)) n p.1 in
    let offset = bind_is (or_err (Missing Part.Offset) p.0.offset) (λ offset. Offset.to_offset offset >>= λ seconds. instant (parts_nanos p.0.date time.0 -ℤ nanos_of_seconds seconds)) n time.1 in
    let seconds = bind_is (Offset.to_offset offset.0) (λ seconds. instant (parts_nanos p.0.date time.0 -ℤ nanos_of_seconds seconds)) n offset.1 in
    is_soon (parts_nanos p.0.date time.0 -ℤ nanos_of_seconds seconds.0) n seconds.1

hour_is : (lt : Bool) (n h : ℕ) → cond lt (Some n) None ≡ Some h → n ≡ h
hour_is true n h e = ap (λ o. unwrap_or o n) e
hour_is false n h e = absurd (subst T (ap is_some (sym e)) tt)

soon_hour : (n : ℤ) (h : ℕ) → n ≤ℤ pos 253402207200999999999 → hour_of n ≡ Some h → h ≤ 70389502
unfolding hour_of
soon_hour (pos k) h soon e =
    let same = hour_is (nat_lt (k / 3600000000000) 70389528) (k / 3600000000000) h e in
    omega (arith, signed_arith, same, soon)
soon_hour (negsuc k) h soon e = absurd (subst T (ap is_some (sym e)) tt)

by_reading : (r : Result ℤ Error) (h : ℕ) → ((n : ℤ) → r ≡ Ok n → n ≤ℤ pos 253402207200999999999) → option_and_then hour_of (result_ok r) ≡ Some h → h ≤ 70389502
by_reading (Ok n) h soon e = soon_hour n h (soon n refl) e
by_reading (Err x) h soon e = absurd (subst T (ap is_some (sym e)) tt)

-- The hour of an instant that was read is at most 70389502, which is `last_hour`.
pub has_instant : (text : List ℕ) (h : ℕ) → option_and_then hour_of (instant_of text) ≡ Some h → h ≤ 70389502
unfolding instant_of
has_instant text h e = by_reading (parse_timestamp text) h (parsed_soon text) e

pub has_instant_if_any : (text : List ℕ) (found : Option ℕ) → found ≡ option_and_then hour_of (instant_of text) → IfSome found (λ h. h ≤ 70389502)
has_instant_if_any text None is = tt
has_instant_if_any text (Some h) is = has_instant text h (sym is)
