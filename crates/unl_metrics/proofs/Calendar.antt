-- Days and hours since 1970, and their texts.
use Rattle.std.proofs.Common.{◌≡◌, ℕ, zero, suc, ◌+◌, ◌-◌, ◌*◌, ◌/◌, ◌%◌, ◌<◌, ◌≤◌, inl, inr, true, false, ◌∷◌, ◌++◌, refl, sym, subst, ap, ◌∙◌, append_assoc, nat_lt, arith, ℤ, pos, negsuc, ◌+ℤ◌, ◌<ℤ◌, rules}
use Rattle.std.proofs.lemmas.Bool.{cases_lt}
use Rattle.std.proofs.lemmas.Bool.Decides.{nat_tests}
use Rattle.std.proofs.lemmas.Int.{by_lt_z}
use Rattle.std.specs.Int.{IsInRange}
use Rattle.std.specs.Prelude.{codes, None, Ok}
use Rattle.jiff.proofs.SpanFacts.{signed_arith}
use Rattle.jiff.specs.Words as jiff
use Rattle.jiff.proofs.Family.{parse_timestamp-text}
use Rattle.jiff.specs.Words.{civil_nanos, parse_timestamp, IsYear, IsYmd, IsHms, epoch_day, days_in_year, days_in_month, iso_datetime_text}
use Rattle.jiff_core.proofs.CalendarLemmas.{days_from_civil-day_count, day_count-epoch, day_count-next_year, day_count-later_year, day_count-day_of_year, day_of_year_bound, days_of_months-zero, days_of_months_more, days_of_months_mono, days_in_month_bounds}
use Rattle.jiff_core.proofs.DateLemmas.{civil, days_from_civil-day, days_from_civil-next_month, days_from_civil-next_year, days_from_civil-max}
use Rattle.jiff_core.specs.Calendar.{day_count, day_of_year, days_of_months, days_from_civil}
use Rattle.jiff_core.specs.declared.civil.date.Date.{Date}
use Rattle.jiff_core.specs.declared.civil.datetime.DateTime.{DateTime}
use Rattle.jiff_core.specs.declared.civil.time.Time.{Time}
use Rattle.jiff_core.specs.declared.timestamp.Timestamp.{Timestamp}
use Rattle.unl_metrics.specs.Hours.{year_and_days, month_and_days, two_digits, four_digits, date_text, hour_text}

pub epoch_is_zero : (d : Date) → IsYmd (pos 1970) (pos 1) (pos 1) d → epoch_day d ≡ pos 0
unfolding days_from_civil
epoch_is_zero d is =
    let month : d.month ≡ 1 = omega (arith, signed_arith, is.1) in
    let day : d.day ≡ 1 = omega (arith, signed_arith, is.2) in
    rw (is.0, month, day) (omega (arith, signed_arith))

-- ---- the year and the month of a day

pub year_steps : (years start days year rest : ℕ) → start ≤ year → year < start + years → days + day_count (pos start) 1 1 ≡ day_count (pos year) 1 1 + rest → rest < days_in_year (pos year) → year_and_days years start days ≡ (year, rest)
unfolding year_and_days
year_steps zero start days year rest low high is within = absurd (omega arith)
year_steps (suc years) start days year rest low high is within =
    elim (cases_lt start year) [
      | inl before ↦
          let next = day_count-next_year (pos start) (pos (start + 1)) (omega (arith, signed_arith)) (omega (arith, signed_arith)) in
          let later = day_count-later_year (pos start) (pos year) (omega (arith, signed_arith)) (omega (arith, signed_arith)) in
          let passed : nat_lt days (days_in_year (pos start)) ≡ false = grind (arith, nat_tests, is, later) in
          rw passed (year_steps years (start + 1) (days - days_in_year (pos start)) year rest (omega arith) (omega arith) (omega (arith, is, next, later)) within)
      | inr from ↦
          let same : start ≡ year = omega arith in
          let all : days ≡ rest = omega (arith, ap (λ y. day_count (pos y) 1 1) same, is) in
          let stays : nat_lt days (days_in_year (pos start)) ≡ true = rw (same, all) (grind (arith, nat_tests, within)) in
          rw stays (λ i. (same i, all i))
    ]

pub month_steps : (year months start days month rest : ℕ) → 1 ≤ start → start ≤ month → month < start + months → days + days_of_months (pos year) (start - 1) ≡ days_of_months (pos year) (month - 1) + rest → rest < days_in_month (pos year) month → month_and_days year months start days ≡ (month, rest)
unfolding month_and_days
month_steps year zero start days month rest one low high is within = absurd (omega arith)
month_steps year (suc months) start days month rest one low high is within =
    elim (cases_lt start month) [
      | inl before ↦
          let here = days_of_months_more (pos year) start one in
          let later = days_of_months_mono (pos year) start (month - 1) (omega arith) in
          let back : start + 1 - 1 ≡ start = omega arith in
          let passed : nat_lt days (days_in_month (pos year) start) ≡ false = grind (arith, nat_tests, is, here, later) in
          rw passed (month_steps year months (start + 1) (days - days_in_month (pos year) start) month rest (omega arith) (omega arith) (omega arith) (rw back (omega (arith, is, here, later))) within)
      | inr from ↦
          let same : start ≡ month = omega arith in
          let all : days ≡ rest = omega (arith, ap (λ m. days_of_months (pos year) (m - 1)) same, is) in
          let stays : nat_lt days (days_in_month (pos year) start) ≡ true = rw (same, all) (grind (arith, nat_tests, within)) in
          rw stays (λ i. (same i, all i))
    ]

-- The text of a date has its year, month and day.
pub date_is : (d : Date) (year days : ℕ) → d.year ≡ pos year → days < 2932897 → epoch_day d ≡ pos days → date_text days ≡ four_digits year ++ 45 ∷ two_digits d.month ++ 45 ∷ two_digits d.day
unfolding date_text
date_is d year days named most is =
    let count : days + 4371953 ≡ day_count d.year d.month d.day = omega (arith, signed_arith, days_from_civil-day_count d.year d.month d.day, is) in
    let of_year = day_count-day_of_year d.year d.month d.day d.day_in.0 in
    let bound = day_of_year_bound d.year d.month d.day (civil d) in
    let low : 1970 ≤ year = elim (cases_lt year 1970) [
      | inl before ↦ absurd (omega (arith, count, of_year, bound, day_count-epoch, day_count-later_year d.year (pos 1970) (omega (arith, signed_arith, d.year_in.0)) (rw named (omega (arith, signed_arith)))))
      | inr from ↦ from
    ] in
    let high : year < 1970 + 8030 = omega (arith, signed_arith, rw named at d.year_in.1) in
    let rest = day_of_year d.year d.month d.day - 1 in
    let from_1970 : days + day_count (pos 1970) 1 1 ≡ day_count (pos year) 1 1 + rest = rw (← named) (omega (arith, count, of_year, day_count-epoch, d.day_in.0)) in
    let within : rest < days_in_year (pos year) = subst (λ y. rest < days_in_year y) named (omega (arith, bound, d.day_in.0)) in
    let of_month : rest + days_of_months (pos year) (1 - 1) ≡ days_of_months (pos year) (d.month - 1) + (d.day - 1) = subst (λ y. rest + days_of_months y 0 ≡ days_of_months y (d.month - 1) + (d.day - 1)) named (omega (arith, days_of_months-zero d.year, d.day_in.0)) in
    let inside : d.day - 1 < days_in_month (pos year) d.month = subst (λ y. d.day - 1 < days_in_month y d.month) named (omega (arith, d.day_in.0, d.day_in.1)) in
    let same_year = year_steps 8030 1970 days year rest low high from_1970 within in
    let same_month = month_steps year 12 1 rest d.month (d.day - 1) (omega arith) d.month_in.0 (omega (arith, d.month_in.1)) of_month inside in
    let day : d.day - 1 + 1 ≡ d.day = omega (arith, d.day_in.0) in
    rw (same_year, same_month, day) refl

years_from_1970 : (d : Date) (days : ℕ) → epoch_day d ≡ pos days → (year : ℕ) × (d.year ≡ pos year)
years_from_1970 d days is = by d.year refl
  where
    by : (y : ℤ) → d.year ≡ y → (year : ℕ) × (d.year ≡ pos year)
    by (pos year) e = (year, e)
    by (negsuc n) e =
        let count : days + 4371953 ≡ day_count d.year d.month d.day = omega (arith, signed_arith, days_from_civil-day_count d.year d.month d.day, is) in
        let later = day_count-later_year d.year (pos 1970) (omega (arith, signed_arith, d.year_in.0)) (rw e (omega (arith, signed_arith))) in
        absurd (omega (arith, count, later, day_count-day_of_year d.year d.month d.day d.day_in.0, day_of_year_bound d.year d.month d.day (civil d), day_count-epoch))

-- `jiff` prints a date as `YYYY-MM-DD` and the start of an hour as `HH:00:00`.
date_part : (y : ℤ) (year m d : ℕ) (y_in : IsYear y) (m_in : IsInRange 1 12 m) (d_in : IsInRange 1 (days_in_month y m) d) → y ≡ pos year → jiff.date_text (record { year = y; month = m; day = d; year_in = y_in; month_in = m_in; day_in = d_in }) ≡ four_digits year ++ 45 ∷ two_digits m ++ 45 ∷ two_digits d
date_part (pos n) year m d y_in m_in d_in e =
    let same : n ≡ year = omega (arith, signed_arith, e) in
    ap (λ k. four_digits k ++ 45 ∷ two_digits m ++ 45 ∷ two_digits d) same
date_part (negsuc n) year m d y_in m_in d_in e = absurd (omega (arith, signed_arith, e))

time_part : (h m s n : ℕ) (h_in : h < 24) (m_in : m < 60) (s_in : s < 60) (n_in : n < 1000000000) → m ≡ 0 → s ≡ 0 → n ≡ 0 → jiff.time_text None (record { hour = h; minute = m; second = s; subsec_nanosecond = n; hour_in = h_in; minute_in = m_in; second_in = s_in; subsec_in = n_in }) ≡ two_digits h ++ codes ":00:00"
time_part h zero zero zero h_in m_in s_in n_in a b c = refl
time_part h (suc m) s n h_in m_in s_in n_in a b c = absurd (omega (arith, a))
time_part h zero (suc s) n h_in m_in s_in n_in a b c = absurd (omega (arith, b))
time_part h zero zero (suc n) h_in m_in s_in n_in a b c = absurd (omega (arith, c))

-- The text of an hour is that of its first instant.
pub hour_is : (dt : DateTime) (hour : ℕ) → hour < 70389528 → epoch_day dt.date ≡ pos (hour / 24) → IsHms (pos (hour % 24)) (pos 0) (pos 0) (pos 0) dt.time → iso_datetime_text dt ++ codes "Z" ≡ hour_text hour
unfolding hour_text date_text
hour_is dt hour most day clock =
    let year = years_from_1970 dt.date (hour / 24) day in
    let date = date_is dt.date year.0 (hour / 24) year.1 (omega arith) day in
    let shown = date_part dt.date.year year.0 dt.date.month dt.date.day dt.date.year_in dt.date.month_in dt.date.day_in year.1 in
    let h : dt.time.hour ≡ hour % 24 = omega (arith, signed_arith, clock.0) in
    let m : dt.time.minute ≡ 0 = omega (arith, signed_arith, clock.1) in
    let s : dt.time.second ≡ 0 = omega (arith, signed_arith, clock.2) in
    let n : dt.time.subsec_nanosecond ≡ 0 = omega (arith, signed_arith, clock.3) in
    let time = time_part dt.time.hour dt.time.minute dt.time.second dt.time.subsec_nanosecond dt.time.hour_in dt.time.minute_in dt.time.second_in dt.time.subsec_in m s n ∙ ap (λ k. two_digits k ++ codes ":00:00") h in
    ap (λ ds. (ds ++ 84 ∷ jiff.time_text None dt.time) ++ codes "Z") (shown ∙ sym date)
    ∙ ap (λ ts. (date_text (hour / 24) ++ 84 ∷ ts) ++ codes "Z") time
    ∙ append_assoc (date_text (hour / 24)) (84 ∷ two_digits (hour % 24) ++ codes ":00:00") (codes "Z")

-- ---- each day has a date

next_day : (d : Date) → epoch_day d <ℤ pos 2932896 → (e : Date) × (epoch_day e ≡ epoch_day d +ℤ pos 1)
next_day d before =
    elim (cases_lt d.day (days_in_month d.year d.month)) [
      | inl inside ↦ (
        record { year = d.year; month = d.month; day = d.day + 1; year_in = d.year_in; month_in = d.month_in; day_in = (omega arith, omega arith) },
        omega (arith, signed_arith, days_from_civil-day d.year d.month d.day (d.day + 1) d.day_in.0 (omega arith)),
      )
      | inr last ↦
          let end : d.day ≡ days_in_month d.year d.month = omega (arith, d.day_in.1) in
          elim (cases_lt d.month 12) [
            | inl within ↦ (
              record { year = d.year; month = d.month + 1; day = 1; year_in = d.year_in; month_in = (omega arith, omega arith); day_in = (omega arith, omega (arith, days_in_month_bounds d.year (d.month + 1))) },
              days_from_civil-next_month d.year d.month d.day d.month_in.0 end,
            )
            | inr december ↦
                let month : d.month ≡ 12 = omega (arith, d.month_in.1) in
                let day : d.day ≡ 31 = end ∙ ap (days_in_month d.year) month in
                let here : epoch_day d ≡ days_from_civil d.year 12 31 = (λ i. days_from_civil d.year (month i) (day i)) in
                by_lt_z d.year (pos 9999)
                (λ early. (
                  record { year = d.year +ℤ pos 1; month = 1; day = 1; year_in = (omega (arith, signed_arith, d.year_in.0), omega (arith, signed_arith, early)); month_in = (omega arith, omega arith); day_in = (omega arith, omega arith) },
                  days_from_civil-next_year d.year (d.year +ℤ pos 1) (omega (arith, signed_arith, d.year_in.0)) refl ∙ ap (λ z. z +ℤ pos 1) (sym here),
                ))
                (λ late. let y : d.year ≡ pos 9999 = omega (arith, signed_arith, late, d.year_in.1) in
                absurd (omega (arith, signed_arith, before, here ∙ ap (λ z. days_from_civil z 12 31) y ∙ days_from_civil-max)))
          ]
    ]

first_day : Date
first_day = record { year = pos 1970; month = 1; day = 1; year_in = search rules; month_in = search rules; day_in = search rules }

pub date_at : (days : ℕ) → days < 2932897 → (d : Date) × (epoch_day d ≡ pos days)
unfolding first_day
date_at zero most = (first_day, epoch_is_zero first_day (refl, refl, refl))
date_at (suc days) most =
    let before = date_at days (omega arith) in
    let next = next_day before.0 (rw before.1 (omega (arith, signed_arith))) in
    (next.0, next.1 ∙ ap (λ z. z +ℤ pos 1) before.1 ∙ omega (arith, signed_arith))

-- ---- the text of an hour is read as its first instant

pub hour_back : (hour : ℕ) → hour ≤ 70389502 → parse_timestamp (hour_text hour) ≡ Ok (pos (hour * 3600000000000))
hour_back hour most =
    let day = date_at (hour / 24) (omega arith) in
    let time : Time = record { hour = hour % 24; minute = 0; second = 0; subsec_nanosecond = 0; hour_in = omega arith; minute_in = omega arith; second_in = omega arith; subsec_in = omega arith } in
    let dt : DateTime = record { date = day.0; time = time } in
    let t : Timestamp = record { nanosecond = pos (hour * 3600000000000); in_range = (omega (arith, signed_arith), omega (arith, signed_arith)) } in
    let text : iso_datetime_text dt ++ codes "Z" ≡ hour_text hour = hour_is dt hour (omega arith) day.1 (refl, refl, refl, refl) in
    let instant : civil_nanos dt ≡ pos (hour * 3600000000000) = unfold civil_nanos in rw day.1 (omega (arith, signed_arith)) in
    rw (← text) (parse_timestamp-text dt t instant)
