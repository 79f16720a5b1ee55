-- Invariants of what the writer and a reader know, and how each step of a reader changes what it knows. A look of a reader shows it the
-- published value and the list of installs so far; the front of the look is the length of that list. A reader can also learn a longer
-- list from a report of the writer, and then continues from it. `now` is the knowledge that the reader continues from. `past` is its
-- knowledge at the last look if it has learned a longer list since, otherwise `None`.
use Rattle.std.specs.Prelude.{◌≡◌, ℕ, ◌<◌, ◌≤◌, [], ◌∷◌, ◌++◌, ◌⊎◌, length, fold, leb, if◌then◌else◌}
use Rattle.std.specs.Prelude.{Option, Some, None, option_map, unwrap_or}
use Rattle.unl_publication.specs.declared.knowledge.Knowledge.{Knowledge}
use Rattle.unl_publication.specs.Rule.{KnowsAllowed, Rise, StartsWith}
use Rattle.unl_publication.specs.Meaning.{known, before_of, front_seen, value_at}

module _ {S I : Type 0} where
  -- Both know the same table, which identifies the publication, or both know none. Likewise for the opening value.
  abbrev pub SameOrigin : Knowledge S I → Knowledge S I → Type 0
  SameOrigin v w = (v.table ≡ w.table) × (v.opening ≡ w.opening)

  -- The front of the value is the number of known installs. If the opening value is known, the value is the opening value after them.
  pub record Shows (installed : S → I → S) (front_of : S → ℕ) (value : S) (v : Knowledge S I) : Type 0 where
    pub value_is : (o : S) → v.opening ≡ Some o → value ≡ fold installed o v.installs
    pub front_is : front_of value ≡ length v.installs

  -- In the order of the looks, their fronts never fall, and none is above the number of known installs.
  abbrev pub AreFronts : Knowledge S I → Type 0
  AreFronts v = Rise 0 v.fronts (length v.installs)

  -- If the reader continues from a learned list, that list is longer than the list of its last look. Otherwise `before`, the known values
  -- after 0, 1, 2, .. installs, has at most as many items as the list of installs.
  abbrev pub IsAhead : Option (Knowledge S I) → Knowledge S I → Type 0
  IsAhead (Some past) now = length past.installs < length now.installs
  IsAhead None now = length now.before ≤ length now.installs

  -- The invariant of a reader that is not looking.
  pub record IsBetweenLooks (past : Option (Knowledge S I)) (now : Knowledge S I) : Type 0 where
    pub fronts : AreFronts (known past now)
    pub ahead : IsAhead past now

  -- The installs that the reader saw, and those that it continues from, are allowed, each by the value before it.
  pub record AreBothAllowed (installed : S → I → S) (allows : S → I → Type 0) (past : Option (Knowledge S I)) (now : Knowledge S I)
      : Type 0 where
    pub seen : KnowsAllowed installed allows (known past now)
    pub next : KnowsAllowed installed allows now

  -- The invariant of a reader that is looking.
  pub record IsLooking (v : Knowledge S I) : Type 0 where
    pub fronts : AreFronts v
    pub before : length v.before ≤ length v.installs

  -- The effect of a look. `past` and `now` are from before the look, `new` is the reader's knowledge afterwards. The reader took the
  -- published list, which starts with the list of `now`. `before` keeps the values that the reader knew before it continued from a learned
  -- list. The length of the new list is appended to the fronts.
  pub record Takes (installed : S → I → S) (past : Option (Knowledge S I)) (now new : Knowledge S I) : Type 0 where
    pub same : new ≡ record {
      table = now.table;
      opening = now.opening;
      installs = new.installs;
      before = before_of installed past now;
      fronts = (known past now).fronts ++ length new.installs ∷ [];
    }
    pub seen : StartsWith new.installs now.installs

  -- The effect of a failed call of `enter`, which begins a look: the reader is unchanged, or it took a list, as `Takes` says, ended the
  -- look, and has no `past` any more.
  abbrev pub StaysOrTakes :
      (S → I → S) → Option (Knowledge S I) → Knowledge S I → Option (Knowledge S I) → Knowledge S I → Type 0
  StaysOrTakes installed past now past_after after =
      ((past_after ≡ past) × (after ≡ now)) ⊎ ((past_after ≡ None) × Takes installed past now after)

  -- No knowledge is lost: the number of known installs doesn't fall, and each known value is still known.
  pub record Follows (installed : S → I → S) (old new : Knowledge S I) : Type 0 where
    pub rises : front_seen old ≤ front_seen new
    pub keeps : (k : ℕ) (value : S) → value_at installed old k ≡ Some value → value_at installed new k ≡ Some value

  -- The reader did not look, or it looked once and saw fewer than `least` installs.
  abbrev pub LooksBelow : ℕ → Knowledge S I → Knowledge S I → Type 0
  LooksBelow least old new = (new.fronts ≡ old.fronts) ⊎ ((front : ℕ) × (new.fronts ≡ old.fronts ++ front ∷ []) × (front < least))

  -- What a reader continues from after it learned a report: the reported list, if there is one and the reported front is above the
  -- reader's own; otherwise its own list.
  abbrev pub continues_from : ℕ → Option (Knowledge S I) → Knowledge S I → Knowledge S I
  continues_from front reported own = if leb front (front_seen own) then own else unwrap_or reported own

  -- What a reader remembers of its last look after it learned a report: what it knew at that look, if it now continues from the
  -- reported list; otherwise what it remembered before.
  abbrev pub remembers : ℕ → Option (Knowledge S I) → Option (Knowledge S I) → Knowledge S I → Option (Knowledge S I)
  remembers front reported past own =
      if leb front (front_seen own) then past else unwrap_or (option_map (λ _. Some (known past own)) reported) past
