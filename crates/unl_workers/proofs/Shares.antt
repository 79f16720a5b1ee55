-- Lemmas: the tallies of the passes of finished workers, and those of all passes together, prove that each link was served once.
use Rattle.std.proofs.Common.{◌≡◌, ℕ, ◌+◌, ◌-◌, ◌<◌, List, [], ◌∷◌, ◌++◌, length, length-append, map, refl, sym, ap, ◌∙◌, subst, arith}
use Rattle.std.specs.Prelude.{flat_map, sum_by}
use Rattle.std.specs.List.{All, AllZip}
use Rattle.std.proofs.lemmas.List.Elements.{All-cons, All-head, All-nil, All-tail}
use Rattle.std.proofs.lemmas.List.Sums.{sum_by-cons}
use Rattle.crossbeam_queue.specs.Passes.{Pass, view, IsSamePass}
use Rattle.unl_workers.specs.declared.tally.QueueEntry.{QueueEntry}
use Rattle.unl_workers.specs.declared.tally.QueueTally.{QueueTally}
use Rattle.unl_workers.specs.Tallies.{SameLinks, first_tally, tally, new_tally, weigh}
use Rattle.unl_workers.specs.declared.worker.WorkerSlot.{WorkerSlot}
use Rattle.unl_workers.specs.declared.worker.Worker.{Worker}
use Rattle.unl_server.specs.Handling.{Coming}
use Rattle.unl_workers.specs.Pool.{RunsWorker, slot_of, taken_by}
use Rattle.unl_workers.specs.Shares.{ServedAt, ServedAtEach}
use Rattle.unl_server.specs.Links.{LinkView}
use Rattle.unl_workers.specs.Serving.{ServesSlot, serving}
use Rattle.unl_workers.specs.Taking.{ServesEach, with_draws}

module _ {S R L W : Type 0} (Serves : S → Coming → LinkView → LinkView → S → Coming → Type 0) (Keeps : S → S → Type 0)
    (coming_of : R → Coming) (state_of : L → LinkView)
    (Fits : Pass (QueueEntry L) (QueueTally L) → Type 0) (fits_on : (p q : Pass (QueueEntry L) (QueueTally L)) → IsSamePass p q → Fits p → Fits q) where
  abbrev Ready : Worker S R L W → Type 0
  Ready worker = Fits worker.pass × (view worker.pass ≡ new_tally)

  abbrev Done : Worker S R L W → Type 0
  Done worker = Fits worker.pass × (view worker.pass ≡ tally 1 [] (taken_by worker) 0 1)

  -- what a worker took is what it served
  took : (before after : Worker S R L W) (work : RunsWorker Serves Keeps coming_of state_of before after) → Ready before
      → view after.pass ≡ tally 1 [] work.took.links 0 1
  took before after work ready = work.took.taken
      ∙ ap (λ (v : QueueTally L). tally v.parts v.put (v.taken ++ work.took.links) v.may_put 1) ready.1

  done_one : (before after : Worker S R L W) → RunsWorker Serves Keeps coming_of state_of before after → Ready before → Done after
  done_one before after work ready = let is = took before after work ready in (
    fits_on before.pass after.pass work.same ready.0,
    is ∙ ap (λ (links : List L). tally 1 [] links 0 1) (sym (ap (λ (v : QueueTally L). v.taken) is)),
  )

  served_one : (before after : Worker S R L W) → RunsWorker Serves Keeps coming_of state_of before after → Ready before
      → ServedAt Serves coming_of state_of (taken_by after) before.slot after.slot
  served_one before after work ready =
      let same : work.took.links ≡ taken_by after = sym (ap (λ (v : QueueTally L). v.taken) (took before after work ready)) in
      record {
        served = subst (λ (links : List L). ServesEach (with_draws Serves) (map state_of links)
            (serving before.slot.server (coming_of before.slot.draws)) (serving after.slot.server (coming_of after.slot.draws)))
            same work.took.served;
        counted = ap length (sym same) ∙ work.took.counted;
      }

  pub all_done : (was done : List (Worker S R L W)) → AllZip (RunsWorker Serves Keeps coming_of state_of) was done
      → All Ready was → All Done done
  all_done [] [] zip ready = All-nil Done
  all_done [] (after ∷ done) zip ready = absurd zip
  all_done (before ∷ was) [] zip ready = absurd zip
  all_done (before ∷ was) (after ∷ done) zip ready = All-cons Done after done
      (done_one before after zip.0 (All-head Ready before was ready))
      (all_done was done zip.1 (All-tail Ready before was ready))

  pub all_served : (was done : List (Worker S R L W)) → AllZip (RunsWorker Serves Keeps coming_of state_of) was done → All Ready was
      → ServedAtEach Serves coming_of state_of (map taken_by done) (map slot_of was) (map slot_of done)
  all_served [] [] zip ready = tt
  all_served [] (after ∷ done) zip ready = absurd zip
  all_served (before ∷ was) [] zip ready = absurd zip
  all_served (before ∷ was) (after ∷ done) zip ready =
      (served_one before after zip.0 (All-head Ready before was ready), all_served was done zip.1 (All-tail Ready before was ready))

pub all_slots : {S R L W : Type 0} (Serves : S → Coming → LinkView → LinkView → S → Coming → Type 0) (Keeps : S → S → Type 0)
    (coming_of : R → Coming) (state_of : L → LinkView) (was done : List (Worker S R L W))
    → AllZip (RunsWorker Serves Keeps coming_of state_of) was done
    → AllZip (ServesSlot Serves Keeps coming_of) (map slot_of was) (map slot_of done)
all_slots Serves Keeps coming_of state_of [] [] zip = tt
all_slots Serves Keeps coming_of state_of [] (after ∷ done) zip = absurd zip
all_slots Serves Keeps coming_of state_of (before ∷ was) [] zip = absurd zip
all_slots Serves Keeps coming_of state_of (before ∷ was) (after ∷ done) zip =
    (zip.0.slot, all_slots Serves Keeps coming_of state_of was done zip.1)

pub pieces_of : {X Y : Type 0} (f : X → List Y) (xs : List X) → flat_map f xs ≡ flat_map (λ piece. piece) (map f xs)
pieces_of f [] = refl
pieces_of f (x ∷ xs) = ap (λ ys. f x ++ ys) (pieces_of f xs)

weigh_ones : {L : Type 0} (xs : List L) → weigh (λ _. 1) xs ≡ length xs
weigh_ones [] = refl
weigh_ones (x ∷ xs) = let rest = weigh_ones xs in omega (arith, rest)

counted_each : {S R L : Type 0} (Serves : S → Coming → LinkView → LinkView → S → Coming → Type 0) (coming_of : R → Coming)
    (state_of : L → LinkView) (shares : List (List L)) (slots done : List (WorkerSlot S R))
    → ServedAtEach Serves coming_of state_of shares slots done
    → sum_by (λ (slot : WorkerSlot S R). slot.links) done ≡ length (flat_map (λ (share : List L). share) shares)
counted_each Serves coming_of state_of [] [] [] served = refl
counted_each Serves coming_of state_of [] [] (after ∷ done) served = absurd served
counted_each Serves coming_of state_of [] (before ∷ slots) done served = absurd served
counted_each Serves coming_of state_of (links ∷ shares) [] done served = absurd served
counted_each Serves coming_of state_of (links ∷ shares) (before ∷ slots) [] served = absurd served
counted_each {S} {R} {L} Serves coming_of state_of (links ∷ shares) (before ∷ slots) (after ∷ done) served =
    let rest = counted_each Serves coming_of state_of shares slots done served.1 in
    omega (
      arith,
      rest,
      served.0.counted,
      sum_by-cons (λ (slot : WorkerSlot S R). slot.links) after done,
      length-append links (flat_map (λ (share : List L). share) shares),
    )

-- the counts of the slots add up to the number of links that were handed out
pub all_counted : {S R L : Type 0} (Serves : S → Coming → LinkView → LinkView → S → Coming → Type 0) (coming_of : R → Coming)
    (state_of : L → LinkView) (given : List L) (shares : List (List L)) (slots done : List (WorkerSlot S R))
    → ServedAtEach Serves coming_of state_of shares slots done
    → SameLinks given (flat_map (λ (share : List L). share) shares)
    → sum_by (λ (slot : WorkerSlot S R). slot.links) done ≡ length given
all_counted {S} {R} {L} Serves coming_of state_of given shares slots done served same =
    counted_each Serves coming_of state_of shares slots done served ∙ sym (weigh_ones (flat_map (λ (share : List L). share) shares))
    ∙ sym (same (λ _. 1)) ∙ weigh_ones given

-- The tallies of the acceptor's pass: at first, after a part was split off for each worker (`ready`), after the acceptor's work
-- (`accepted`), and after the workers' passes were joined to it, so that it has all parts again (`whole`).
module _ {L : Type 0} (first ready accepted whole : QueueTally L) (n k : ℕ) (links pieces : List L) (is_first : first ≡ first_tally)
    (splits : ready ≡ tally (first.parts - n) first.put first.taken first.may_put first.ends_seen)
    (accepts : accepted ≡ tally ready.parts (ready.put ++ links) ready.taken 0 ready.ends_seen)
    (joins : whole ≡ tally (accepted.parts + k) accepted.put (accepted.taken ++ pieces) accepted.may_put (accepted.ends_seen + k)) where
  pub whole_parts : k ≡ n → 0 < ready.parts → whole.parts ≡ 18446744073709551616
  whole_parts all some =
      let at_first = ap (λ (v : QueueTally L). v.parts) is_first in
      let at_splits = ap (λ (v : QueueTally L). v.parts) splits in
      let at_accepts = ap (λ (v : QueueTally L). v.parts) accepts in
      let at_joins = ap (λ (v : QueueTally L). v.parts) joins in
      omega (arith, all, some, at_first, at_splits, at_accepts, at_joins)

  pub whole_put : whole.put ≡ links
  whole_put = ap (λ (v : QueueTally L). v.put) joins ∙ ap (λ (v : QueueTally L). v.put) accepts
      ∙ ap (λ (list : List L). list ++ links) (ap (λ (v : QueueTally L). v.put) splits ∙ ap (λ (v : QueueTally L). v.put) is_first)

  pub whole_taken : whole.taken ≡ pieces
  whole_taken = ap (λ (v : QueueTally L). v.taken) joins
      ∙ ap (λ (list : List L). list ++ pieces)
      (ap (λ (v : QueueTally L). v.taken) accepts ∙ ap (λ (v : QueueTally L). v.taken) splits ∙ ap (λ (v : QueueTally L). v.taken) is_first)
