use Rattle.std.proofs.Common.{◌≢◌, ◌∙◌, ap, refl}
use Rattle.std.specs.Prelude.{option_and_then}
use Rattle.unl_base.specs.Faults.{Rose}
use Rattle.unl_keeper.specs.State.{kept_rows}
use Rattle.unl_upstream.proofs.NewKeepers.{never_failed, rose_before}
use Rattle.unl_edge.proofs.Commands.{ends_kept}
use Rattle.unl_edge.proofs.upstreams.run_kept.Goals as goal

pub returns-in-Ok-clause-ends : goal.returns-in-Ok-clause-ends
returns-in-Ok-clause-ends g c =
    let last = g.Q.K.Keeper.state c.run_reopened-end.result.1 in
    let before = g.Q.KeepMaker.state c.world.inside.keep in
    let made = g.Q.KeepMaker.state c.make.new.self in
    let after = g.Q.KeepMaker.state c.back.new.self in
    let rose : last.faults ≢ 0 → Rose before.faults after.faults =
    λ some. rose_before before.faults made.faults after.faults c.in-Ok.ensures.cause.later (c.back.ensures.faults.rose some) in
    rw (← c.world.view_is, ← c.into_upstream-up.ensures.same)
    (ends_kept c.into_upstream-up.result c.args.port c.run_reopened-end.result.0 (g.Q.K.Keeper.state c.in-Ok.keeper) last _ _
    c.in-Ok.ensures.made c.run_reopened-end.ensures.ends
    (record {
      held = c.back.ensures.held ∙ ap (option_and_then (λ _. kept_rows last)) c.in-Ok.ensures.same_held;
      rose = rose;
      no_faults = never_failed last.faults rose;
    }))

pub run_reopened-end-requires-clause-opens : goal.run_reopened-end-requires-clause-opens
run_reopened-end-requires-clause-opens g c = c.into_upstream-up.ensures.new.opens

pub run_reopened-end-requires-clause-faultless : goal.run_reopened-end-requires-clause-faultless
run_reopened-end-requires-clause-faultless g c = c.in-Ok.ensures.made.faultless

pub returns-in-Ok-clause-frame : goal.returns-in-Ok-clause-frame
returns-in-Ok-clause-frame g c = rw (← c.world.view_is) refl

pub returns-in-Err-Fault-clause-frame : goal.returns-in-Err-Fault-clause-frame
returns-in-Err-Fault-clause-frame g c = rw (← c.world.view_is) refl
