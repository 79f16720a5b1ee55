use Rattle.unl_upstream.proofs.Served.{obeys_requests}
use Rattle.unl_upstream.proofs.upstream.Upstream.serve.Goals as goal

pub returns-clause-obeyed : goal.returns-clause-obeyed
returns-clause-obeyed g c = obeys_requests _ _ c.serve_requests.result.1 _ c.serve_requests.ensures.converses.answered
