use Rattle.std.proofs.Common.{List, subst}
use Rattle.std.proofs.lemmas.Result.{on_ok_weaker}
use Rattle.serde_json.specs.Data.{Data}
use Rattle.unl_compiled.proofs.collect.collect.Goals as goal

pub returns-in-None : goal.returns-in-None
returns-in-None g c =
    on_ok_weaker c.collect_seen.result (λ is. subst (λ (ds : List Data). g.S.ToggleSink.appends ds c.args.sink.now c.collect_seen.new.sink) c.chunks.ensures.toggles is) c.collect_seen.ensures

pub returns-in-Some : goal.returns-in-Some
returns-in-Some g c =
    on_ok_weaker c.collect_at.result (λ is. subst (λ (ds : List Data). g.S.ToggleSink.appends ds c.args.sink.now c.collect_at.new.sink) (rw c.in-Some.is at c.places.ensures) is) c.collect_at.ensures
