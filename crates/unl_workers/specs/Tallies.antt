-- The tallies of the passes of a queue. Each thread that puts or takes links has a pass. In contracts, its tally records the links that
-- were put and taken with the pass. All passes of a queue share 2^64 parts: a pass that is split off takes one part with it.
use Rattle.std.specs.Prelude.{◌≡◌, ℕ, ◌+◌, ◌-◌, List, [], ◌∷◌, ◌++◌}
use Rattle.unl_workers.specs.declared.tally.QueueEntry.{QueueEntry}
use Rattle.unl_workers.specs.declared.tally.QueueEntry.TheVariants.{Link, End}
use Rattle.unl_workers.specs.declared.tally.QueueTally.{QueueTally}

-- the sum of the weights of the items
abbrev pub weigh : {X : Type 0} → (X → ℕ) → List X → ℕ
weigh h [] = 0
weigh h (x ∷ xs) = h x + weigh h xs

-- Both lists have the same links, each the same number of times, perhaps in another order: for every weight `h`, they have the same sum.
abbrev pub SameLinks : {L : Type 0} → List L → List L → Type 0
SameLinks {L} xs ys = (h : L → ℕ) → weigh h xs ≡ weigh h ys

module _ {L : Type 0} where
  -- the `QueueTally` with these fields
  abbrev pub tally : ℕ → List L → List L → ℕ → ℕ → QueueTally L
  tally parts put taken may_put ends_seen =
      record { parts = parts; put = put; taken = taken; may_put = may_put; ends_seen = ends_seen }

  -- the tally of the pass with all 2^64 parts, before anything was put
  abbrev pub first_tally : QueueTally L
  first_tally = tally 18446744073709551616 [] [] 1 0

  -- the tally of a pass with no part
  abbrev pub empty_tally : QueueTally L
  empty_tally = tally 0 [] [] 0 0

  -- the tally of a pass with one part, which has put and taken nothing and may not put links
  abbrev pub new_tally : QueueTally L
  new_tally = tally 1 [] [] 0 0

  -- the tally of a pass after one part was split off
  abbrev pub less_a_part : QueueTally L → QueueTally L
  less_a_part v = tally (v.parts - 1) v.put v.taken v.may_put v.ends_seen

  -- the tally of two passes that are joined
  abbrev pub both_tallies : QueueTally L → QueueTally L → QueueTally L
  both_tallies v w =
      tally (v.parts + w.parts) (v.put ++ w.put) (v.taken ++ w.taken) (v.may_put + w.may_put) (v.ends_seen + w.ends_seen)

  -- the tally after an entry was put: a link, or the end marker, after which the pass may not put links
  abbrev pub putting : QueueTally L → QueueEntry L → QueueTally L
  putting v (Link link) = tally v.parts (v.put ++ link ∷ []) v.taken v.may_put v.ends_seen
  putting v End = tally v.parts v.put v.taken 0 v.ends_seen

  -- the tally after an entry was taken: a link, or the end marker (the entry that closes the queue)
  abbrev pub taking : QueueTally L → QueueEntry L → QueueTally L
  taking v (Link link) = tally v.parts v.put (v.taken ++ link ∷ []) v.may_put v.ends_seen
  taking v End = tally v.parts v.put v.taken v.may_put 1
