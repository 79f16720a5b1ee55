-- Each step of a queue of metrics books keeps its rule `IsConserved`.
use Rattle.std.proofs.Common.{◌≡◌, ◌≢◌, ℕ, ◌<◌, ⊎_elim, List, [], ◌∷◌, ◌++◌, set, sym, refl, ap, ◌∙◌, subst, arith}
use mathlib.Core.Option.{some, some-ne-none}
use lib.ListN.{get_elem?}
use Rattle.crossbeam_queue.specs.Fifo.{Pushes, Pops, Forks, Merges, Learns}
use Rattle.crossbeam_queue.proofs.Lists.{at_set, at_snoc}
use Rattle.unl_metrics.specs.Book.{Book}
use Rattle.unl_refresh.specs.declared.handover.Handover.{Handover}
use Rattle.unl_refresh.specs.Handovers.{SameBooks, weigh, first_handover, empty_handover, new_handover, less_a_part, both_handovers, handing, taking}
use Rattle.unl_refresh.specs.Conservation.{IsConserved}
use Rattle.unl_refresh.proofs.Weights.{weigh_append, weigh_set, weigh_alone}

abbrev Idle : List Handover → Type 0
Idle views = (pass : ℕ) (v : Handover) → get_elem? views pass ≡ some v → v.parts ≡ 0 → v ≡ empty_handover

idle_set : (views : List Handover) (pass : ℕ) (w : Handover) → (w.parts ≡ 0 → w ≡ empty_handover) → Idle views → Idle (set views pass w)
idle_set views pass w mine old j u at none =
    ⊎_elim (λ (x : (j ≡ pass) × (w ≡ u)). subst (λ (y : Handover). y.parts ≡ 0 → y ≡ empty_handover) x.1 mine none)
    (λ (x : (j ≢ pass) × (get_elem? views j ≡ some u)). old j u x.1 none) (at_set views pass j w u at)

idle_more : (views : List Handover) (w : Handover) → (w.parts ≡ 0 → w ≡ empty_handover) → Idle views → Idle (views ++ w ∷ [])
idle_more views w mine old j u at none =
    ⊎_elim (λ (x : get_elem? views j ≡ some u). old j u x none)
    (λ (x : w ≡ u). subst (λ (y : Handover). y.parts ≡ 0 → y ≡ empty_handover) x mine none) (at_snoc views w u j at)

pub begins : IsConserved [] (first_handover ∷ [])
begins = record {
  whole = refl;
  conserved = λ h. refl;
  idle = idle_more [] first_handover (λ none. absurd (omega (arith, none))) (λ j u at. absurd (some-ne-none u (sym at)));
}

pub puts : (n pass : ℕ) (v : Handover) (x : Book) → 0 < v.parts → Pushes IsConserved n pass v x (λ w. w ≡ handing v x)
puts n pass v x part items views room kept at = let w : Handover = handing v x in (
  w,
  record {
    whole = omega (arith, weigh_set (λ (u : Handover). u.parts) views pass v w at, kept.whole);
    conserved = λ h.
        let of_handed = weigh_set (λ (u : Handover). weigh h u.handed) views pass v w at in
        let of_taken = weigh_set (λ (u : Handover). weigh h u.taken) views pass v w at in
        omega (arith, of_handed, of_taken, kept.conserved h, weigh_append h v.handed (x ∷ []), weigh_append h items (x ∷ []));
    idle = idle_set views pass w (λ none. absurd (omega (arith, none, part))) kept.idle;
  },
  refl,
)

pub takes : (pass : ℕ) (v : Handover) → 0 < v.parts → Pops IsConserved pass v (λ x w. w ≡ taking v x)
takes pass v part x items views kept at = let w : Handover = taking v x in (
  w,
  record {
    whole = omega (arith, weigh_set (λ (u : Handover). u.parts) views pass v w at, kept.whole);
    conserved = λ h.
        let of_handed = weigh_set (λ (u : Handover). weigh h u.handed) views pass v w at in
        let of_taken = weigh_set (λ (u : Handover). weigh h u.taken) views pass v w at in
        omega (arith, of_handed, of_taken, kept.conserved h, weigh_append h v.taken (x ∷ []));
    idle = idle_set views pass w (λ none. absurd (omega (arith, none, part))) kept.idle;
  },
  refl,
)

pub forks : (pass : ℕ) (v : Handover) → 1 < v.parts → Forks IsConserved pass v (less_a_part v) new_handover
forks pass v parts items views kept at = let w : Handover = less_a_part v in let vs : List Handover = set views pass w in
    let of_parts = weigh_set (λ (u : Handover). u.parts) views pass v w at in
    record {
      whole = omega (arith, parts, of_parts, kept.whole, weigh_append (λ (u : Handover). u.parts) vs (new_handover ∷ []));
      conserved = λ h.
          let of_handed = weigh_set (λ (u : Handover). weigh h u.handed) views pass v w at in
          let of_taken = weigh_set (λ (u : Handover). weigh h u.taken) views pass v w at in
          let more_handed = weigh_append (λ (u : Handover). weigh h u.handed) vs (new_handover ∷ []) in
          let more_taken = weigh_append (λ (u : Handover). weigh h u.taken) vs (new_handover ∷ []) in
          omega (arith, of_handed, of_taken, more_handed, more_taken, kept.conserved h);
      idle = idle_more vs new_handover (λ none. absurd (omega (arith, none)))
          (idle_set views pass w (λ none. absurd (omega (arith, none, parts))) kept.idle);
    }

pub merges : (pass : ℕ) (v : Handover) (other : ℕ) (u : Handover) → 0 < v.parts → Merges IsConserved pass v other u (both_handovers v u) empty_handover
merges pass v other u part items views kept at two at_other = let w : Handover = both_handovers v u in let vs : List Handover = set views pass w in
    let of_parts = weigh_set (λ (u : Handover). u.parts) views pass v w at in
    let less_parts = weigh_set (λ (u : Handover). u.parts) vs other u empty_handover at_other in
    record {
      whole = omega (arith, of_parts, less_parts, kept.whole);
      conserved = λ h.
          let of_handed = weigh_set (λ (u : Handover). weigh h u.handed) views pass v w at in
          let of_taken = weigh_set (λ (u : Handover). weigh h u.taken) views pass v w at in
          let less_handed = weigh_set (λ (u : Handover). weigh h u.handed) vs other u empty_handover at_other in
          let less_taken = weigh_set (λ (u : Handover). weigh h u.taken) vs other u empty_handover at_other in
          omega (arith, of_handed, of_taken, less_handed, less_taken, kept.conserved h, weigh_append h v.handed u.handed, weigh_append h v.taken u.taken);
      idle = idle_set vs other empty_handover (λ none. refl)
          (idle_set views pass w (λ none. absurd (omega (arith, none, part))) kept.idle);
    }

pub settles : (pass : ℕ) (v : Handover) → v.parts ≡ 18446744073709551616 → Learns IsConserved pass v (λ items. SameBooks v.handed (v.taken ++ items))
settles pass v whole items views kept at h =
    let all : weigh (λ (u : Handover). u.parts) views ≡ v.parts = kept.whole ∙ sym whole in
    let handed = weigh_alone (λ (u : Handover). u.parts) (λ (u : Handover). weigh h u.handed) views pass v at all
    (λ j u at_u none. ap (λ (y : Handover). weigh h y.handed) (kept.idle j u at_u none)) in
    let taken = weigh_alone (λ (u : Handover). u.parts) (λ (u : Handover). weigh h u.taken) views pass v at all
    (λ j u at_u none. ap (λ (y : Handover). weigh h y.taken) (kept.idle j u at_u none)) in
    omega (arith, handed, taken, kept.conserved h, weigh_append h v.taken items)
