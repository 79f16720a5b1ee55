-- The hour of an instant, in whole hours since 1970, and the text of an hour.
use Rattle.std.specs.Prelude.{ℕ, zero, suc, ◌+◌, ◌-◌, ◌/◌, ◌%◌, List, ◌∷◌, [], ◌++◌, codes, nat_lt, if◌then◌else◌, ℤ, pos, negsuc, Option}
use Rattle.std.specs.Prelude.{Some, None}
use Rattle.jiff.specs.Words.{days_in_year, days_in_month}

-- The number of hours from 1970 to the end of 9999.
abbrev pub hours_of_years : ℕ
hours_of_years = 70389528

-- The hour, if it is in the years 1970 to 9999.
abbrev pub if_of_years : ℕ → Option ℕ
if_of_years hour = if nat_lt hour hours_of_years then Some hour else None

-- The hour of an instant, in whole hours since 1970. The instant is given in nanoseconds since 1970. `None` if the instant is not in the
-- years 1970 to 9999.
unfoldable pub hour_of : ℤ → Option ℕ
hour_of (pos nanoseconds) = if_of_years (nanoseconds / 3600000000000)
hour_of (negsuc n) = None

-- ---- the text of an hour

-- The year and the days since its start, for the day that is `days` days after the start of `year`. The first argument bounds
-- the recursion: the number of years that may be skipped.
unfoldable pub year_and_days : ℕ → ℕ → ℕ → ℕ × ℕ
year_and_days zero year days = (year, days)
year_and_days (suc years) year days =
    if nat_lt days (days_in_year (pos year)) then (year, days) else year_and_days years (year + 1) (days - days_in_year (pos year))

-- The month and the days since its start, for the day that is `days` days after the start of `month`. The second argument
-- bounds the recursion: the number of months that may be skipped.
unfoldable pub month_and_days : ℕ → ℕ → ℕ → ℕ → ℕ × ℕ
month_and_days year zero month days = (month, days)
month_and_days year (suc months) month days =
    if nat_lt days (days_in_month (pos year) month) then (month, days)
    else month_and_days year months (month + 1) (days - days_in_month (pos year) month)

-- A number below 100, in two digits.
abbrev pub two_digits : ℕ → List ℕ
two_digits n = (48 + n / 10) ∷ (48 + n % 10) ∷ []

-- A number below 10,000, in four digits.
abbrev pub four_digits : ℕ → List ℕ
four_digits n = two_digits (n / 100) ++ two_digits (n % 100)

-- `MM-DD`, from the month and the days since its start.
abbrev pub month_text : ℕ × ℕ → List ℕ
month_text (month, days) = two_digits month ++ 45 ∷ two_digits (days + 1)

-- `YYYY-MM-DD`, from the year and the days since its start.
abbrev pub year_text : ℕ × ℕ → List ℕ
year_text (year, days) = four_digits year ++ 45 ∷ month_text (month_and_days year 12 1 days)

-- The date `YYYY-MM-DD`, `days` days after 1970-01-01.
unfoldable pub date_text : ℕ → List ℕ
date_text days = year_text (year_and_days 8030 1970 days)

-- The text of an hour (given in whole hours since 1970), `YYYY-MM-DDTHH:00:00Z`.
unfoldable pub hour_text : ℕ → List ℕ
hour_text hour = date_text (hour / 24) ++ 84 ∷ two_digits (hour % 24) ++ codes ":00:00Z"
