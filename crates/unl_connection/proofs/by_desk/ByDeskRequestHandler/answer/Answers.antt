use Rattle.unl_core.proofs.Statuses.{final_status}
use Rattle.unl_connection.proofs.by_desk.ByDeskRequestHandler.answer.Goals as goal

pub returns-clause-status : goal.returns-clause-status
returns-clause-status g c =
    let answered = c.in_ok-front.ensures.answer in
    final_status c.in_ok-reply.reply c.args.state.now.book.now c.in_ok-front.answer answered.0 c.args.request.now c.args.draw.now c.in_ok-reply.ensures.reply answered.2
