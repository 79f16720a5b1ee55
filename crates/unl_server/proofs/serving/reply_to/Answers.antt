use Rattle.std.proofs.Common.{refl}
use Rattle.unl_server.specs.Handling.{RunsOutOfMemory}
use Rattle.unl_server.proofs.ExchangeLemmas.{replied_so}
use Rattle.unl_server.proofs.serving.reply_to.Goals as goal

pub returns-clause-replied : goal.returns-clause-replied
returns-clause-replied g c =
    replied_so _ (RunsOutOfMemory g.A.RequestHandler.out_of_memory) c.args.request.now c.args.close _ _ c.in-Ok.reply _ c.send.result _
    (record {
      draw = c.draw-draw.result;
      taken = c.draw-draw.ensures.drawn;
      given = c.in-Ok.ensures.gives;
      counted = refl;
    })
    c.send.ensures.writes
