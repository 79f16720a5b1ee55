-- Lemmas: each operation on a queue of links keeps the rule `IsBalanced`, by which the links that were put are those that were taken and
-- those that are queued.
use Rattle.std.proofs.Common.{◌≡◌, ◌≢◌, ℕ, ◌<◌, inl, inr, ⊎_elim, List, [], ◌∷◌, ◌++◌, set, sym, refl, ap, ◌∙◌, subst, arith}
use mathlib.Core.Option.{some, some-ne-none}
use lib.ListN.{get_elem?}
use Rattle.crossbeam_queue.specs.Fifo.{Pushes, Pops, Forks, Merges, Learns}
use Rattle.crossbeam_queue.proofs.Lists.{at_set, at_snoc}
use Rattle.unl_workers.specs.declared.tally.QueueEntry.{QueueEntry}
use Rattle.unl_workers.specs.declared.tally.QueueEntry.TheVariants.{Link, End}
use Rattle.unl_workers.specs.declared.tally.QueueTally.{QueueTally}
use Rattle.unl_workers.specs.Tallies.{SameLinks, weigh, first_tally, empty_tally, new_tally, less_a_part, both_tallies, putting, taking}
use Rattle.unl_workers.specs.Balance.{IsBalanced, IsOpenQueue, IsClosedQueue, of_link, of_end, links_in, ends_in, late}
use Rattle.unl_workers.proofs.Weights.{weigh_append, weigh_set, weigh_at, weigh_alone}

module _ {L : Type 0} where
  late_none : (items : List (QueueEntry L)) → ends_in items ≡ 0 → late items ≡ 0
  late_none [] none = refl
  late_none (Link link ∷ items) none = late_none items (omega (arith, none))
  late_none (End ∷ items) none = absurd (omega (arith, none))

  late_end : (items : List (QueueEntry L)) → late (items ++ End ∷ []) ≡ late items
  late_end [] = refl
  late_end (Link link ∷ items) = late_end items
  late_end (End ∷ items) = let more = weigh_append (of_link (λ (_ : L). 1)) items (End ∷ []) in omega (arith, more)

  late_within : (items : List (QueueEntry L)) → links_in items ≡ 0 → late items ≡ 0
  late_within [] none = refl
  late_within (Link link ∷ items) none = absurd (omega (arith, none))
  late_within (End ∷ items) none = omega (arith, none)

  no_weight : (h : L → ℕ) (items : List (QueueEntry L)) → links_in items ≡ 0 → weigh (of_link h) items ≡ 0
  no_weight h [] none = refl
  no_weight h (Link link ∷ items) none = absurd (omega (arith, none))
  no_weight h (End ∷ items) none = let rest = no_weight h items (omega (arith, none)) in omega (arith, rest)

  abbrev Idle : List (QueueTally L) → Type 0
  Idle views = (pass : ℕ) (v : QueueTally L) → get_elem? views pass ≡ some v → v.parts ≡ 0 → v ≡ empty_tally

  idle_set : (views : List (QueueTally L)) (pass : ℕ) (w : QueueTally L) → (w.parts ≡ 0 → w ≡ empty_tally) → Idle views → Idle (set views pass w)
  idle_set views pass w mine old j u at none =
      ⊎_elim (λ (x : (j ≡ pass) × (w ≡ u)). subst (λ (y : QueueTally L). y.parts ≡ 0 → y ≡ empty_tally) x.1 mine none)
      (λ (x : (j ≢ pass) × (get_elem? views j ≡ some u)). old j u x.1 none) (at_set views pass j w u at)

  idle_more : (views : List (QueueTally L)) (w : QueueTally L) → (w.parts ≡ 0 → w ≡ empty_tally) → Idle views → Idle (views ++ w ∷ [])
  idle_more views w mine old j u at none =
      ⊎_elim (λ (x : get_elem? views j ≡ some u). old j u x none)
      (λ (x : w ≡ u). subst (λ (y : QueueTally L). y.parts ≡ 0 → y ≡ empty_tally) x mine none) (at_snoc views w u j at)

  pub begins : IsBalanced {L = L} [] (first_tally ∷ [])
  begins = record {
    whole = refl;
    balanced = λ h. refl;
    idle = idle_more [] first_tally (λ none. absurd (omega (arith, none))) (λ j u at. absurd (some-ne-none u (sym at)));
    phase = inl (record { may_put = refl; ends_seen = refl; ends = refl });
  }

  pub puts_link : (n pass : ℕ) (v : QueueTally L) (link : L) → 0 < v.parts → v.may_put ≡ 1
      → Pushes IsBalanced n pass v (Link link) (λ w. w ≡ putting v (Link link))
  puts_link n pass v link part may_put items views room held at = let w : QueueTally L = putting v (Link link) in
      let of_parts = weigh_set (λ (u : QueueTally L). u.parts) views pass v w at in
      let of_may_put = weigh_set (λ (u : QueueTally L). u.may_put) views pass v w at in
      let of_ends_seen = weigh_set (λ (u : QueueTally L). u.ends_seen) views pass v w at in (
        w,
        record {
          whole = omega (arith, of_parts, held.whole);
          balanced = λ h.
              let of_put = weigh_set (λ (u : QueueTally L). weigh h u.put) views pass v w at in
              let of_taken = weigh_set (λ (u : QueueTally L). weigh h u.taken) views pass v w at in
              omega (
                arith,
                of_put,
                of_taken,
                held.balanced h,
                weigh_append h v.put (link ∷ []),
                weigh_append (of_link h) items (Link link ∷ []),
              );
          idle = idle_set views pass w (λ none. absurd (omega (arith, none, part))) held.idle;
          phase = ⊎_elim
              (λ (opened : IsOpenQueue items views). inl (record {
                may_put = omega (arith, of_may_put, opened.may_put);
                ends_seen = omega (arith, of_ends_seen, opened.ends_seen);
                ends = omega (arith, weigh_append of_end items (Link link ∷ []), opened.ends);
              }))
              (λ (closed : IsClosedQueue items views).
              absurd (omega (arith, may_put, closed.may_put, weigh_at (λ (u : QueueTally L). u.may_put) views pass v at)))
              held.phase;
        },
        refl,
      )

  pub puts_end : (n pass : ℕ) (v : QueueTally L) → 0 < v.parts → v.may_put ≡ 1
      → Pushes IsBalanced n pass v End (λ w. w ≡ putting v End)
  puts_end n pass v part may_put items views room held at = let w : QueueTally L = putting v End in
      let of_parts = weigh_set (λ (u : QueueTally L). u.parts) views pass v w at in
      let of_may_put = weigh_set (λ (u : QueueTally L). u.may_put) views pass v w at in
      let of_ends_seen = weigh_set (λ (u : QueueTally L). u.ends_seen) views pass v w at in (
        w,
        record {
          whole = omega (arith, of_parts, held.whole);
          balanced = λ h.
              let of_put = weigh_set (λ (u : QueueTally L). weigh h u.put) views pass v w at in
              let of_taken = weigh_set (λ (u : QueueTally L). weigh h u.taken) views pass v w at in
              omega (arith, of_put, of_taken, held.balanced h, weigh_append (of_link h) items (End ∷ []));
          idle = idle_set views pass w (λ none. absurd (omega (arith, none, part))) held.idle;
          phase = ⊎_elim
              (λ (opened : IsOpenQueue items views). inr (record {
                may_put = omega (arith, may_put, of_may_put, opened.may_put);
                late = late_end items ∙ late_none items opened.ends;
                none_left = λ some. absurd (omega (arith, some, of_ends_seen, opened.ends_seen));
              }))
              (λ (closed : IsClosedQueue items views).
              absurd (omega (arith, may_put, closed.may_put, weigh_at (λ (u : QueueTally L). u.may_put) views pass v at)))
              held.phase;
        },
        refl,
      )

  pub returns_end : (n pass : ℕ) (v : QueueTally L) → 0 < v.parts → 0 < v.ends_seen → Pushes IsBalanced n pass v End (λ w. w ≡ v)
  returns_end n pass v part ends_seen items views room held at =
      let of_parts = weigh_set (λ (u : QueueTally L). u.parts) views pass v v at in
      let of_may_put = weigh_set (λ (u : QueueTally L). u.may_put) views pass v v at in
      let of_ends_seen = weigh_set (λ (u : QueueTally L). u.ends_seen) views pass v v at in
      let mine = weigh_at (λ (u : QueueTally L). u.ends_seen) views pass v at in (
        v,
        record {
          whole = omega (arith, of_parts, held.whole);
          balanced = λ h.
              let of_put = weigh_set (λ (u : QueueTally L). weigh h u.put) views pass v v at in
              let of_taken = weigh_set (λ (u : QueueTally L). weigh h u.taken) views pass v v at in
              omega (arith, of_put, of_taken, held.balanced h, weigh_append (of_link h) items (End ∷ []));
          idle = idle_set views pass v (λ none. absurd (omega (arith, none, part))) held.idle;
          phase = ⊎_elim
              (λ (opened : IsOpenQueue items views). absurd (omega (arith, ends_seen, mine, opened.ends_seen)))
              (λ (closed : IsClosedQueue items views). inr (record {
                may_put = omega (arith, of_may_put, closed.may_put);
                late = late_end items ∙ closed.late;
                none_left = λ some.
                    let none : links_in items ≡ 0 = closed.none_left (omega (arith, ends_seen, mine)) in
                    omega (arith, none, weigh_append (of_link (λ (_ : L). 1)) items (End ∷ []));
              }))
              held.phase;
        },
        refl,
      )

  pub takes : (pass : ℕ) (v : QueueTally L) → 0 < v.parts → Pops IsBalanced pass v (λ x w. w ≡ taking v x)
  takes pass v part (Link link) items views held at = let w : QueueTally L = taking v (Link link) in
      let of_parts = weigh_set (λ (u : QueueTally L). u.parts) views pass v w at in
      let of_may_put = weigh_set (λ (u : QueueTally L). u.may_put) views pass v w at in
      let of_ends_seen = weigh_set (λ (u : QueueTally L). u.ends_seen) views pass v w at in (
        w,
        record {
          whole = omega (arith, of_parts, held.whole);
          balanced = λ h.
              let of_put = weigh_set (λ (u : QueueTally L). weigh h u.put) views pass v w at in
              let of_taken = weigh_set (λ (u : QueueTally L). weigh h u.taken) views pass v w at in
              omega (arith, of_put, of_taken, held.balanced h, weigh_append h v.taken (link ∷ []));
          idle = idle_set views pass w (λ none. absurd (omega (arith, none, part))) held.idle;
          phase = ⊎_elim
              (λ (opened : IsOpenQueue (Link link ∷ items) views). inl (record {
                may_put = omega (arith, of_may_put, opened.may_put);
                ends_seen = omega (arith, of_ends_seen, opened.ends_seen);
                ends = omega (arith, opened.ends);
              }))
              (λ (closed : IsClosedQueue (Link link ∷ items) views). inr (record {
                may_put = omega (arith, of_may_put, closed.may_put);
                late = closed.late;
                none_left = λ some. let none = closed.none_left (omega (arith, some, of_ends_seen)) in absurd (omega (arith, none));
              }))
              held.phase;
        },
        refl,
      )
  takes pass v part End items views held at = let w : QueueTally L = taking v End in
      let of_parts = weigh_set (λ (u : QueueTally L). u.parts) views pass v w at in
      let of_may_put = weigh_set (λ (u : QueueTally L). u.may_put) views pass v w at in (
        w,
        record {
          whole = omega (arith, of_parts, held.whole);
          balanced = λ h.
              let of_put = weigh_set (λ (u : QueueTally L). weigh h u.put) views pass v w at in
              let of_taken = weigh_set (λ (u : QueueTally L). weigh h u.taken) views pass v w at in
              omega (arith, of_put, of_taken, held.balanced h);
          idle = idle_set views pass w (λ none. absurd (omega (arith, none, part))) held.idle;
          phase = ⊎_elim
              (λ (opened : IsOpenQueue (End ∷ items) views). absurd (omega (arith, opened.ends)))
              (λ (closed : IsClosedQueue (End ∷ items) views). inr (record {
                may_put = omega (arith, of_may_put, closed.may_put);
                late = late_within items closed.late;
                none_left = λ some. closed.late;
              }))
              held.phase;
        },
        refl,
      )

  pub forks : (pass : ℕ) (v : QueueTally L) → 1 < v.parts → Forks IsBalanced pass v (less_a_part v) new_tally
  forks pass v parts items views held at = let w : QueueTally L = less_a_part v in let vs : List (QueueTally L) = set views pass w in
      let of_parts = weigh_set (λ (u : QueueTally L). u.parts) views pass v w at in
      let of_may_put = weigh_set (λ (u : QueueTally L). u.may_put) views pass v w at in
      let of_ends_seen = weigh_set (λ (u : QueueTally L). u.ends_seen) views pass v w at in
      let more_may_put = weigh_append (λ (u : QueueTally L). u.may_put) vs (new_tally ∷ []) in
      let more_ends_seen = weigh_append (λ (u : QueueTally L). u.ends_seen) vs (new_tally ∷ []) in
      record {
        whole = omega (arith, parts, of_parts, held.whole, weigh_append (λ (u : QueueTally L). u.parts) vs (new_tally ∷ []));
        balanced = λ h.
            let of_put = weigh_set (λ (u : QueueTally L). weigh h u.put) views pass v w at in
            let of_taken = weigh_set (λ (u : QueueTally L). weigh h u.taken) views pass v w at in
            let more_put = weigh_append (λ (u : QueueTally L). weigh h u.put) vs (new_tally ∷ []) in
            let more_taken = weigh_append (λ (u : QueueTally L). weigh h u.taken) vs (new_tally ∷ []) in
            omega (arith, of_put, of_taken, more_put, more_taken, held.balanced h);
        idle = idle_more vs new_tally (λ none. absurd (omega (arith, none)))
            (idle_set views pass w (λ none. absurd (omega (arith, none, parts))) held.idle);
        phase = ⊎_elim
            (λ (opened : IsOpenQueue items views). inl (record {
              may_put = omega (arith, of_may_put, more_may_put, opened.may_put);
              ends_seen = omega (arith, of_ends_seen, more_ends_seen, opened.ends_seen);
              ends = opened.ends;
            }))
            (λ (closed : IsClosedQueue items views). inr (record {
              may_put = omega (arith, of_may_put, more_may_put, closed.may_put);
              late = closed.late;
              none_left = λ some. closed.none_left (omega (arith, some, of_ends_seen, more_ends_seen));
            }))
            held.phase;
      }

  pub merges : (pass : ℕ) (v : QueueTally L) (other : ℕ) (u : QueueTally L) → 0 < v.parts
      → Merges IsBalanced pass v other u (both_tallies v u) empty_tally
  merges pass v other u part items views held at two at_other = let w : QueueTally L = both_tallies v u in
      let vs : List (QueueTally L) = set views pass w in
      let of_parts = weigh_set (λ (u : QueueTally L). u.parts) views pass v w at in
      let of_may_put = weigh_set (λ (u : QueueTally L). u.may_put) views pass v w at in
      let of_ends_seen = weigh_set (λ (u : QueueTally L). u.ends_seen) views pass v w at in
      let less_parts = weigh_set (λ (u : QueueTally L). u.parts) vs other u empty_tally at_other in
      let less_may_put = weigh_set (λ (u : QueueTally L). u.may_put) vs other u empty_tally at_other in
      let less_ends_seen = weigh_set (λ (u : QueueTally L). u.ends_seen) vs other u empty_tally at_other in
      record {
        whole = omega (arith, of_parts, less_parts, held.whole);
        balanced = λ h.
            let of_put = weigh_set (λ (u : QueueTally L). weigh h u.put) views pass v w at in
            let of_taken = weigh_set (λ (u : QueueTally L). weigh h u.taken) views pass v w at in
            let less_put = weigh_set (λ (u : QueueTally L). weigh h u.put) vs other u empty_tally at_other in
            let less_taken = weigh_set (λ (u : QueueTally L). weigh h u.taken) vs other u empty_tally at_other in
            omega (
              arith,
              of_put,
              of_taken,
              less_put,
              less_taken,
              held.balanced h,
              weigh_append h v.put u.put,
              weigh_append h v.taken u.taken,
            );
        idle = idle_set vs other empty_tally (λ none. refl)
            (idle_set views pass w (λ none. absurd (omega (arith, none, part))) held.idle);
        phase = ⊎_elim
            (λ (opened : IsOpenQueue items views). inl (record {
              may_put = omega (arith, of_may_put, less_may_put, opened.may_put);
              ends_seen = omega (arith, of_ends_seen, less_ends_seen, opened.ends_seen);
              ends = opened.ends;
            }))
            (λ (closed : IsClosedQueue items views). inr (record {
              may_put = omega (arith, of_may_put, less_may_put, closed.may_put);
              late = closed.late;
              none_left = λ some. closed.none_left (omega (arith, some, of_ends_seen, less_ends_seen));
            }))
            held.phase;
      }

  pub learns_all_taken : (pass : ℕ) (v : QueueTally L) → v.parts ≡ 18446744073709551616
      → Learns IsBalanced pass v (λ items. 0 < v.ends_seen → SameLinks v.put v.taken)
  learns_all_taken pass v whole items views held at ends_seen h =
      let all : weigh (λ (u : QueueTally L). u.parts) views ≡ v.parts = held.whole ∙ sym whole in
      let put = weigh_alone (λ (u : QueueTally L). u.parts) (λ (u : QueueTally L). weigh h u.put) views pass v at all
      (λ j u at_u none. ap (λ (y : QueueTally L). weigh h y.put) (held.idle j u at_u none)) in
      let taken = weigh_alone (λ (u : QueueTally L). u.parts) (λ (u : QueueTally L). weigh h u.taken) views pass v at all
      (λ j u at_u none. ap (λ (y : QueueTally L). weigh h y.taken) (held.idle j u at_u none)) in
      let mine = weigh_at (λ (u : QueueTally L). u.ends_seen) views pass v at in
      let none : links_in items ≡ 0 = ⊎_elim
      (λ (opened : IsOpenQueue items views). absurd (omega (arith, ends_seen, mine, opened.ends_seen)))
      (λ (closed : IsClosedQueue items views). closed.none_left (omega (arith, ends_seen, mine)))
      held.phase in
      omega (arith, put, taken, held.balanced h, no_weight h items none)
