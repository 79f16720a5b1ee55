use Rattle.std.proofs.Common.{refl}
use Rattle.unl_upstream.proofs.Carrying.{keeps_more}
use Rattle.unl_upstream.proofs.keeping_door.DurableUpstreamServer.serve_link.Goals as goal

pub returns-clause-keeps : goal.returns-clause-keeps
returns-clause-keeps g c =
    let served = c.serve_kept.ensures.keeps in
    (refl, refl, λ start reached. keeps_more start _ _ served.tried reached served.keeps)
