-- The invariant of a queue of links. Each entry is a link, or the end marker that closes the queue. Each thread has a pass, its right to
-- use the queue, with a tally of the links that the thread put and took. The invariant relates the queued entries (`items`) to the
-- tallies of all passes (`views`). A weight is any function from links to numbers: two lists have the same links, in any order, if
-- they have the same sum for every weight.
use Rattle.std.specs.Prelude.{◌≡◌, ◌⊎◌, ◌<◌, ℕ, ◌+◌, List, [], ◌∷◌}
use mathlib.Core.Option.{some}
use lib.ListN.{get_elem?}
use Rattle.unl_workers.specs.declared.tally.QueueEntry.{QueueEntry}
use Rattle.unl_workers.specs.declared.tally.QueueEntry.TheVariants.{Link, End}
use Rattle.unl_workers.specs.declared.tally.QueueTally.{QueueTally}
use Rattle.unl_workers.specs.Tallies.{weigh, empty_tally}

module _ {L : Type 0} where
  -- the weight of an entry: that of the link, or 0 for the end marker
  abbrev pub of_link : (L → ℕ) → QueueEntry L → ℕ
  of_link h (Link link) = h link
  of_link h End = 0

  -- the weight that counts end markers: 1 for an end marker, 0 for a link
  abbrev pub of_end : QueueEntry L → ℕ
  of_end (Link link) = 0
  of_end End = 1

  -- the number of links among the entries
  abbrev pub links_in : List (QueueEntry L) → ℕ
  links_in items = weigh (of_link (λ _. 1)) items

  -- the number of end markers among the entries
  abbrev pub ends_in : List (QueueEntry L) → ℕ
  ends_in items = weigh of_end items

  -- the number of links behind the first end marker
  abbrev pub late : List (QueueEntry L) → ℕ
  late [] = 0
  late (Link link ∷ items) = late items
  late (End ∷ items) = links_in items

  -- exactly one pass may put links, and the end marker was neither put nor taken
  pub record IsOpenQueue (items : List (QueueEntry L)) (views : List (QueueTally L)) : Type 0 where
    pub may_put : weigh (λ v. v.may_put) views ≡ 1
    pub ends_seen : weigh (λ v. v.ends_seen) views ≡ 0
    pub ends : ends_in items ≡ 0

  -- No pass may put links, and no link is behind an end marker. Once the end marker was taken, no link is queued.
  pub record IsClosedQueue (items : List (QueueEntry L)) (views : List (QueueTally L)) : Type 0 where
    pub may_put : weigh (λ v. v.may_put) views ≡ 0
    pub late : late items ≡ 0
    pub none_left : 0 < weigh (λ v. v.ends_seen) views → links_in items ≡ 0

  -- The parts of all passes add up to 2^64. For every weight `h`, the links that were put have the same sum as those that were taken and
  -- those that are queued. A pass with no part has an empty tally. And the queue is open or closed.
  pub record IsBalanced (items : List (QueueEntry L)) (views : List (QueueTally L)) : Type 0 where
    pub whole : weigh (λ v. v.parts) views ≡ 18446744073709551616
    pub balanced : (h : L → ℕ) → weigh (λ v. weigh h v.put) views ≡ weigh (λ v. weigh h v.taken) views + weigh (of_link h) items
    pub idle : (pass : ℕ) (v : QueueTally L) → get_elem? views pass ≡ some v → v.parts ≡ 0 → v ≡ empty_tally
    pub phase : IsOpenQueue items views ⊎ IsClosedQueue items views
