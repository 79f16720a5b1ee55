-- The line that the command `load` writes. An ask is one evaluation of a feature for a user.
use Rattle.std.specs.Prelude.{ℕ, ◌-◌, List, ◌++◌, codes, decimal}
use Rattle.std.specs.List.{count_by}
use Rattle.unl_load.specs.Input.{asks_of, is_on_for, generated_state}

-- the line for `count` asks; for `on` of them, the feature is on
unfoldable pub line_of : ℕ → ℕ → List ℕ
line_of count on =
    codes "features 1000 asks "
    ++ (decimal count ++ (codes " on " ++ (decimal on ++ (codes " off " ++ (decimal (count - on) ++ codes "\n")))))

-- the number of asks whose feature is on for their user, among the `count` asks that are generated from a seed
abbrev pub on_of : ℕ → ℕ → ℕ
on_of seed count = count_by (is_on_for (generated_state seed)) (asks_of seed count)

-- the line that is written for the `count` asks that are generated from a seed
abbrev pub load_line : ℕ → ℕ → List ℕ
load_line seed count = line_of count (on_of seed count)
