use Rattle.std.proofs.Common.{ℕ, List, [], Ok, sym, ap, subst, append-nil}
use Rattle.unl_http_api.specs.Requests.{IsBad}
use Rattle.unl_server.proofs.ReceiveLemmas.{Takes_nothing}
use Rattle.unl_server.proofs.receive.turn.Goals as goal

pub returns-in-Ok-Bad-clause-turn : goal.returns-in-Ok-Bad-clause-turn
returns-in-Ok-Bad-clause-turn g c =
    let bad = rw c.in-Ok-Bad.field-0-is at c.in-Ok-Bad.ensures.read in
    record {
      read = [];
      took = Takes_nothing _;
      next = (
        subst (λ (b : List ℕ). IsBad b c.in-Ok-Bad.status) (sym (append-nil c.args.reader.now)) bad.0,
        c.in-Ok-Bad.ensures.status c.in-Ok-Bad.status (ap Ok c.in-Ok-Bad.field-0-is),
      );
    }
