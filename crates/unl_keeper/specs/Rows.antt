-- The rows of a keeper, which stores texts in numbered rows. They are an option: `None` for a keeper whose rows are not observable.
use Rattle.std.specs.Prelude.{ℕ, List, [], ◌∷◌, ◌++◌, take, Option, option_map}

-- the kept rows: the first `count` rows
abbrev pub kept : ℕ → Option (List (List ℕ)) → Option (List (List ℕ))
kept count rows = option_map (λ list. take count list) rows

-- the kept rows (the first `count`), then `text`
abbrev pub with_row : ℕ → List ℕ → Option (List (List ℕ)) → Option (List (List ℕ))
with_row count text rows = option_map (λ list. take count list ++ text ∷ []) rows
