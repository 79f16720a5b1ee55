use Rattle.unl_refresh.proofs.Leaving.{delivered}
use Rattle.unl_refresh.proofs.NextReply.{applies, completes, refreshed_by_reply, takes_one}
use Rattle.unl_refresh.proofs.refreshing.refresh_once.Goals as goal

pub returns-clause-next_reply : goal.returns-clause-next_reply
returns-clause-next_reply g c =
    let leaves = c.refresh.ensures.leaves in
    let causes = c.refresh.ensures.causes in
    record {
      next_reply = λ list reading known is. refreshed_by_reply _ _ _ _ _ _ _ list reading leaves.takes known is;
      complete = λ list got batch known is status batch_is verdict calm found.
          completes _ _ _ _ _ _ (refreshed_by_reply _ _ _ _ _ _ _ list _ leaves.takes known is)
          (applies _ _ _ _ got batch status batch_is verdict) causes.cause calm found;
      one_reply = λ calm found. takes_one _ _ _ _ _ _ _ leaves.asks causes.cause calm found;
    }

pub returns-clause-delivery : goal.returns-clause-delivery
returns-clause-delivery g c line sees is_line represents brings =
    let leaves = c.refresh.ensures.leaves in
    delivered _ _ _ _ _ _ _ line sees c.requires.slot leaves.takes leaves.fault is_line represents brings
