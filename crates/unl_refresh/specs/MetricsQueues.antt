-- The two ends of a queue of metrics books: many senders, and one receiver.
use Rattle.std.specs.Prelude.{◌≡◌, ◌⊎◌, ℕ, List, [], ◌∷◌, ◌++◌, Option, Some, None, fold, option_to_list}
use Rattle.atomic_table.specs.Seated.{TableId}
use Rattle.crossbeam_queue.specs.Passes.{Pass, IsPassOf, view}
use Rattle.unl_metrics.specs.Book.{Book, sum_of}
use Rattle.unl_refresh.specs.declared.handover.Handover.{Handover}
use Rattle.unl_refresh.specs.declared.metrics_queue.MetricsQueue.{MetricsQueue}

-- the pass (the right of one thread to use a queue) belongs to this queue
abbrev pub IsPassOfMetrics : MetricsQueue → Pass Book Handover → Type 0
IsPassOfMetrics queue pass = IsPassOf queue.books pass

-- what a pass knows: its number of parts, and the books that were put and taken with it
abbrev pub known_by : Pass Book Handover → Handover
known_by pass = view pass

-- the queue of a sender, and the books that it has handed over, in order
pub record Sending : Type 0 where
  pub queue : TableId
  pub handed : List Book

-- What a receiver has taken in: `taken` are the books that it has taken, in order, and `held` is the last of them if it is not merged yet.
pub record Intake : Type 0 where
  pub taken : List Book
  pub held : Option Book

-- A receiver: its queue; how many of the queue's 2^64 parts it has (each sender has one); the books handed over by those senders
-- that it took back; and what it has taken in.
pub record Receiving : Type 0 where
  pub queue : TableId
  pub parts : ℕ
  pub handed : List Book
  pub intake : Intake

-- a sender that has handed nothing over
abbrev pub new_sending : TableId → Sending
new_sending queue = record { queue = queue; handed = [] }

-- the intake of a receiver that has taken nothing
abbrev pub no_intake : Intake
no_intake = record { taken = []; held = None }

-- the intake after one more book was taken, which is now held (not merged yet)
abbrev pub taking_in : Intake → Book → Intake
taking_in intake book = record { taken = intake.taken ++ book ∷ []; held = Some book }

-- a receiver that has taken nothing and has no senders
abbrev pub new_receiving : TableId → Receiving
new_receiving queue = record { queue = queue; parts = 18446744073709551616; handed = []; intake = no_intake }

-- The book was appended to those handed over, and an empty book is in its place; or it is unchanged, and nothing was handed over.
abbrev pub HandsOver : List Book → Book → List Book → Book → Type 0
HandsOver handed book handed_after book_after =
    ((book_after ≡ []) × (handed_after ≡ handed ++ book ∷ [])) ⊎ ((book_after ≡ book) × (handed_after ≡ handed))

-- the sum of a book and the books of a list, which are added one after another
abbrev pub total : Book → List Book → Book
total book books = fold sum_of book books

-- Some books were taken (`books`). The book that was held before, if any, and then these are merged into the metrics, one after another.
-- The last of them is not merged if it is held now.
pub record Merges (metrics : Book) (before : Intake) (metrics_after : Book) (after : Intake) : Type 0 where
  pub books : List Book
  pub taken : after.taken ≡ before.taken ++ books
  pub merged : List Book
  pub rest : option_to_list before.held ++ books ≡ merged ++ option_to_list after.held
  pub summed : metrics_after ≡ total metrics merged
