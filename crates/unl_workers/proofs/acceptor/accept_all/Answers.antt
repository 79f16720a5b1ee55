use Rattle.std.proofs.Common.{◌≡◌, ℕ, ◌+◌, List, ◌++◌, ◌∷◌, [], refl, rules, arith, ap, sym, subst, ◌∙◌}
use Rattle.unl_base.specs.Doors.{DoorState}
use Rattle.unl_workers.proofs.Handing.{hands_more, hands_none}
use Rattle.std.proofs.lemmas.List.{length-append}
use Rattle.unl_workers.proofs.TakingLemmas.{queues_more, queues_none}
use Rattle.unl_workers.proofs.acceptor.accept_all.Goals as goal

pub loop-count-init : goal.loop-count-init
loop-count-init g c = record {
  hands = hands_none _;
  listens = c.requires.listens;
  same = search rules;
  puts = ([], queues_none _ _ _ _ _, refl);
  later = omega arith;
}

pub loop-count-preserved : goal.loop-count-preserved
loop-count-preserved g c =
    let accepted = rw (c.in-Ok-Some.field-0-is) at c.in-Ok-Some.ensures.accepts in
    let fresh = rw (c.in-Ok-Some.field-0-is) at c.in-Ok-Some.ensures.fresh in
    let so_far = c.loop-count.invariant.puts in
    record {
      hands = hands_more c.loop-count.count _ _ _ c.loop-count.invariant.hands accepted.0 accepted.1;
      listens = subst (λ (ports : List ℕ). ¬ (ports ≡ [])) (sym (ap (λ (door : DoorState). door.ports) accepted.1))
          c.loop-count.invariant.listens;
      same = search rules;
      puts = (
        so_far.0 ++ c.in-Ok-Some.link ∷ [],
        queues_more _ _ _ so_far.0 c.in-Ok-Some.link _ _ _ _ _ _ so_far.1 c.put.ensures.puts accepted.0 accepted.1 fresh,
        length-append _ _ ∙ ap (λ (k : ℕ). k + 1) so_far.2,
      );
      later = omega (arith, c.loop-count.invariant.later, c.in-Ok-Some.ensures.cause.later);
    }
