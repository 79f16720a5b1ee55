-- The values that a writer or a reader knows, computed from its `Knowledge`.
use Rattle.std.specs.Prelude.{ℕ, zero, suc, leb, length, take, fold, Bool, true, false, List, [], ◌∷◌, Option, Some, None, option_map}
use Rattle.unl_publication.specs.declared.knowledge.Knowledge.{Knowledge}

-- The option if the test is true, otherwise `None`.
abbrev pub some_if : {A : Type 0} → Bool → Option A → Option A
some_if true x = x
some_if false x = None

module _ {A : Type 0} where
  -- The item at an index, or `other` if the list is too short.
  abbrev pub item_or : List A → ℕ → A → A
  item_or [] k other = other
  item_or (x ∷ xs) zero other = x
  item_or (x ∷ xs) (suc k) other = item_or xs k other

  -- The values of a function at 0, 1, .. up to `n - 1`.
  abbrev pub first_of : (ℕ → A) → ℕ → List A
  first_of f zero = []
  first_of f (suc n) = f 0 ∷ first_of (λ k. f (suc k)) n

module _ {S I : Type 0} where
  -- The number of known installs, which is the front of the value after them.
  abbrev pub front_seen : Knowledge S I → ℕ
  front_seen v = length v.installs

  -- The value after the first `k` installs, or `None` if the list has fewer or the value is not known. `before` has the values that were
  -- known before the reader continued from a learned list. Past its end, values are computed from the opening value and the list.
  abbrev pub value_at : (S → I → S) → Knowledge S I → ℕ → Option S
  value_at installed v k = some_if (leb k (length v.installs))
      (item_or v.before k (option_map (λ opening. fold installed opening (take k v.installs)) v.opening))

  -- The values after 0, 1, 2, .. installs, up to the whole list. A value that is not known is `None`.
  abbrev pub values : (S → I → S) → Knowledge S I → List (Option S)
  values installed v = first_of (value_at installed v) (suc (length v.installs))

  -- What a reader knew when it last looked at the published value. The first argument is its knowledge at that look if it has continued
  -- from a learned list since. Otherwise it is `None`, and the reader's knowledge `now` is unchanged since the look.
  abbrev pub known : Option (Knowledge S I) → Knowledge S I → Knowledge S I
  known (Some past) now = past
  known None now = now

  -- The values that were known before the reader last continued from a learned list.
  abbrev pub before_of : (S → I → S) → Option (Knowledge S I) → Knowledge S I → List (Option S)
  before_of installed (Some past) now = values installed past
  before_of installed None now = now.before
