-- The metrics books that passed through a queue. Each user of the queue holds a pass, which knows the books that its holder has put and
-- taken. A pass has a number of parts, which can be split among several passes; all passes of a queue together have 2^64.
use Rattle.std.specs.Prelude.{◌≡◌, ℕ, ◌+◌, ◌-◌, List, [], ◌∷◌, ◌++◌}
use Rattle.unl_metrics.specs.Book.{Book}
use Rattle.unl_refresh.specs.declared.handover.Handover.{Handover}

-- the weight of a list: the sum of the weights of its items
abbrev pub weigh : {X : Type 0} → (X → ℕ) → List X → ℕ
weigh h [] = 0
weigh h (x ∷ xs) = h x + weigh h xs

-- Both lists have the same books, with the same multiplicities, in any order. This is stated by sums: for each function that gives every
-- book a weight, the weights of both lists have the same sum.
abbrev pub SameBooks : List Book → List Book → Type 0
SameBooks xs ys = (h : Book → ℕ) → weigh h xs ≡ weigh h ys

-- what a pass knows, from its number of parts, the books put with it, and the books taken with it
abbrev pub handover : ℕ → List Book → List Book → Handover
handover parts handed taken = record { parts = parts; handed = handed; taken = taken }

-- the pass with all 2^64 parts, before anything was put
abbrev pub first_handover : Handover
first_handover = handover 18446744073709551616 [] []

-- a pass with no part, which has put and taken nothing
abbrev pub empty_handover : Handover
empty_handover = handover 0 [] []

-- a pass with one part, which has put and taken nothing
abbrev pub new_handover : Handover
new_handover = handover 1 [] []

-- a pass after one part was split off
abbrev pub less_a_part : Handover → Handover
less_a_part v = handover (v.parts - 1) v.handed v.taken

-- a pass that has the parts and the books of two passes
abbrev pub both_handovers : Handover → Handover → Handover
both_handovers v w = handover (v.parts + w.parts) (v.handed ++ w.handed) (v.taken ++ w.taken)

-- a pass after a book was put
abbrev pub handing : Handover → Book → Handover
handing v book = handover v.parts (v.handed ++ book ∷ []) v.taken

-- a pass after a book was taken
abbrev pub taking : Handover → Book → Handover
taking v book = handover v.parts v.handed (v.taken ++ book ∷ [])
