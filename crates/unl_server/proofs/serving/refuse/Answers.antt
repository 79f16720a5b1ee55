use Rattle.std.proofs.Common.{refl}
use Rattle.unl_http_api.specs.Reply.{refusal_text}
use Rattle.unl_server.proofs.ExchangeLemmas.{refused_end}
use Rattle.unl_server.proofs.serving.refuse.Goals as goal

pub returns-in-None-clause-refuses : goal.returns-in-None-clause-refuses
unfolding refusal_text
returns-in-None-clause-refuses g c = (refl, rw c.new.ensures at c.in-None.ensures.writes)

pub returns-clause-refuses : goal.returns-clause-refuses
unfolding refusal_text
returns-clause-refuses g c =
    refused_end c.args.status _ _ _ c.in-Some.end (rw c.new.ensures refl) c.in-Some.ensures.writes
