use Rattle.std.proofs.Common.{◌≡◌, ap, false, inl, refl, rules, true}
use Rattle.std.specs.Prelude.{is_ok}
use Rattle.unl_base.proofs.Listening.{listens_after}
use Rattle.unl_base.specs.Doors.{DoorState}
use Rattle.unl_upstream.specs.Running.{upstream_facing}
use Rattle.unl_keeper.specs.State.{HasKept}
use Rattle.unl_upstream.specs.Kept.{kept_state}
use Rattle.unl_upstream.proofs.AfterLines.{listened_nowhere, serves_none}
use Rattle.unl_upstream.proofs.running.serve_links.Goals as goal

pub serve_kept_door-requires-clause-listening : goal.serve_kept_door-requires-clause-listening
serve_kept_door-requires-clause-listening g c =
    let could : is_ok c.listen.result ≡ true = search rules in listens_after _ _ _ _ could c.listen.ensures.listens

pub returns-then-is_err-clause-ends : goal.returns-then-is_err-clause-ends
returns-then-is_err-clause-ends g c =
    let couldnt : is_ok c.listen.result ≡ false = search rules in
    let has : HasKept (g.K.Keeper.state c.args.keeper.now) = search rules in
    let listens = c.listen.ensures.listens in (
      0,
      serves_none (kept_state c.args.up.now (g.K.Keeper.state c.args.keeper.now))
          (upstream_facing (g.O.Sink.sent c.args.output.now) (g.D.Door.state c.args.door.now) (g.R.Draws.coming c.args.draws.now))
          (upstream_facing (g.O.Sink.sent c.args.output.now) (g.D.Door.state c.listen.new.self) (g.R.Draws.coming c.args.draws.now))
          has refl (ap (λ (s : DoorState). s.given) listens) (ap (λ (s : DoorState). s.back) listens)
          (ap (λ (s : DoorState). s.links) listens) (ap (λ (s : DoorState). s.returned) listens),
      inl (refl, listened_nowhere _ _ _ _ couldnt listens),
      refl,
    )

-- the next three lemmas: the count of served links was printed, writing it failed, or memory ran out
pub returns-in-Ok-print_connections-clause-ends : goal.returns-in-Ok-print_connections-clause-ends
returns-in-Ok-print_connections-clause-ends g c = (c.in-Ok.served, search rules, search rules, search rules)

pub returns-in-Err-WriteFault-clause-ends : goal.returns-in-Err-WriteFault-clause-ends
returns-in-Err-WriteFault-clause-ends g c = (c.in-Ok.served, search rules, search rules, search rules)

pub returns-in-Err-Memory-clause-ends : goal.returns-in-Err-Memory-clause-ends
returns-in-Err-Memory-clause-ends g c = (c.in-Ok.served, search rules, search rules, search rules)
