-- The rule of a queue of metrics books: no book is lost or duplicated. Each user of the queue holds a pass, which takes no memory at run
-- time. In contracts a pass has a view: the books that its holder put and took, and a number of parts. A split divides the parts.
use Rattle.std.specs.Prelude.{◌≡◌, ℕ, ◌+◌, List}
use mathlib.Core.Option.{some}
use lib.ListN.{get_elem?}
use Rattle.unl_metrics.specs.Book.{Book}
use Rattle.unl_refresh.specs.Handovers.{empty_handover, weigh}
use Rattle.unl_refresh.specs.declared.handover.Handover.{Handover}

-- `items` are the books that wait in the queue, and `views` are the views of all passes. `whole`: together the passes have all 2^64 parts.
-- `conserved`: the books that were put are those that were taken and those that wait, counted with multiplicity. This is stated by sums:
-- for each function `h` that gives every book a weight, both sides have the same sum. `idle`: a pass with no part has put and taken
-- nothing.
pub record IsConserved (items : List Book) (views : List Handover) : Type 0 where
  pub whole : weigh (λ v. v.parts) views ≡ 18446744073709551616
  pub conserved : (h : Book → ℕ) → weigh (λ v. weigh h v.handed) views ≡ weigh (λ v. weigh h v.taken) views + weigh h items
  pub idle : (pass : ℕ) (v : Handover) → get_elem? views pass ≡ some v → v.parts ≡ 0 → v ≡ empty_handover
