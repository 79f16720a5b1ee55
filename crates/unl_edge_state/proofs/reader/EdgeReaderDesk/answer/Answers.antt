use Rattle.std.proofs.Common.{◌≡◌, ap, sym, ◌∙◌, true, is_some, option_map, unwrap_or}
use Rattle.std.specs.Option.{option_and_then}
use Rattle.unl_core.specs.declared.board.Board.{Board}
use Rattle.unl_core.specs.Answer.{answer_of}
use Rattle.unl_edge_state.specs.Editions.{board_known}
use Rattle.unl_edge_state.specs.Reading.{continuation_of, past_of, seen_by}
use Rattle.unl_edge_state.proofs.Boards.{keeps_left, seen_left, shown_known}
use Rattle.unl_edge_state.proofs.Continuing.{looked}
use Rattle.unl_edge_state.proofs.Looks.{took_back, took_left}
use Rattle.unl_edge_state.proofs.Ordered.{keeps_order}
use Rattle.unl_publication.specs.Rule.{knows_nothing}
use Rattle.unl_publication.specs.Seen.{next, past, seen, taken}
use Rattle.unl_edge_state.proofs.reader.EdgeReaderDesk.answer.Goals as goal

pub returns-in_err-given-in-Ok-clause-keeps : goal.returns-in_err-given-in-Ok-clause-keeps
returns-in_err-given-in-Ok-clause-keeps c =
    keeps_left (seen_by c.args.self.now) (seen c.leave.result) (seen c.in-Some.seat) (taken c.in-Ok.guard)
    (ap (λ o. unwrap_or (option_map seen o) knows_nothing) (sym c.in-Some.ensures.value))
    (seen_left (past c.leave.result) (next c.leave.result) (taken c.in-Ok.guard) c.leave.ensures.past c.leave.ensures.same) c.in-Ok.ensures.follows

pub returns-in_ok-given-in-Ok-clause-keeps : goal.returns-in_ok-given-in-Ok-clause-keeps
returns-in_ok-given-in-Ok-clause-keeps c =
    keeps_left (seen_by c.args.self.now) (seen c.leave.result) (seen c.in-Some.seat) (taken c.in-Ok.guard)
    (ap (λ o. unwrap_or (option_map seen o) knows_nothing) (sym c.in-Some.ensures.value))
    (seen_left (past c.leave.result) (next c.leave.result) (taken c.in-Ok.guard) c.leave.ensures.past c.leave.ensures.same) c.in-Ok.ensures.follows

pub returns-in_ok-given-in-Ok-clause-over : goal.returns-in_ok-given-in-Ok-clause-over
returns-in_ok-given-in-Ok-clause-over c =
    let there : is_some (taken c.in-Ok.guard).opening ≡ true = ap (λ o. is_some o) c.in-Ok.ensures.origin.1
    ∙ (ap (λ o. is_some (unwrap_or (option_map next o) knows_nothing).opening) c.in-Some.ensures.value ∙ c.args.self.now.has_opening) in
    c.in_ok-given-in-Ok.ensures.answer ∙ ap (λ (b : Board). answer_of b c.args.request.now c.args.draw.now)
    (c.board.ensures.board ∙ shown_known (taken c.in-Ok.guard) c.value.result.now there c.value.ensures.list
    ∙ ap board_known (sym (seen_left (past c.leave.result) (next c.leave.result) (taken c.in-Ok.guard) c.leave.ensures.past c.leave.ensures.same)))

pub returns-in_ok-given-in-Ok-clause-orderly : goal.returns-in_ok-given-in-Ok-clause-orderly
returns-in_ok-given-in-Ok-clause-orderly c =
    keeps_order (taken c.in-Ok.guard) (seen c.leave.result)
    (seen_left (past c.leave.result) (next c.leave.result) (taken c.in-Ok.guard) c.leave.ensures.past c.leave.ensures.same) c.in-Ok.ensures.allowed

pub returns-in_err-given-in-Ok-clause-stays_or_takes : goal.returns-in_err-given-in-Ok-clause-stays_or_takes
returns-in_err-given-in-Ok-clause-stays_or_takes c =
    took_left (past_of c.args.self.now) (past c.in-Some.seat) (past c.leave.result) (continuation_of c.args.self.now) (next c.in-Some.seat) (next c.leave.result) (taken c.in-Ok.guard)
    (ap (λ o. option_and_then past o) (sym c.in-Some.ensures.value)) (ap (λ o. unwrap_or (option_map next o) knows_nothing) (sym c.in-Some.ensures.value))
    c.leave.ensures.past c.leave.ensures.same c.in-Ok.ensures.takes

pub returns-in_ok-given-in-Ok-clause-stays_or_takes : goal.returns-in_ok-given-in-Ok-clause-stays_or_takes
returns-in_ok-given-in-Ok-clause-stays_or_takes c =
    took_left (past_of c.args.self.now) (past c.in-Some.seat) (past c.leave.result) (continuation_of c.args.self.now) (next c.in-Some.seat) (next c.leave.result) (taken c.in-Ok.guard)
    (ap (λ o. option_and_then past o) (sym c.in-Some.ensures.value)) (ap (λ o. unwrap_or (option_map next o) knows_nothing) (sym c.in-Some.ensures.value))
    c.leave.ensures.past c.leave.ensures.same c.in-Ok.ensures.takes

pub returns-in-Err-clause-stays_or_takes : goal.returns-in-Err-clause-stays_or_takes
returns-in-Err-clause-stays_or_takes c =
    took_back (past_of c.args.self.now) (past c.in-Some.seat) (past c.in-Err.seat) (continuation_of c.args.self.now) (next c.in-Some.seat) (next c.in-Err.seat)
    (ap (λ o. option_and_then past o) (sym c.in-Some.ensures.value)) (ap (λ o. unwrap_or (option_map next o) knows_nothing) (sym c.in-Some.ensures.value))
    c.in-Err.ensures.kept

pub returns-in_err-given-in-Ok-clause-continues : goal.returns-in_err-given-in-Ok-clause-continues
returns-in_err-given-in-Ok-clause-continues c =
    looked (past_of c.args.self.now) (past c.leave.result) (continuation_of c.args.self.now) (next c.leave.result)
    (took_left (past_of c.args.self.now) (past c.in-Some.seat) (past c.leave.result) (continuation_of c.args.self.now) (next c.in-Some.seat) (next c.leave.result) (taken c.in-Ok.guard)
    (ap (λ o. option_and_then past o) (sym c.in-Some.ensures.value)) (ap (λ o. unwrap_or (option_map next o) knows_nothing) (sym c.in-Some.ensures.value))
    c.leave.ensures.past c.leave.ensures.same c.in-Ok.ensures.takes)

pub returns-in_ok-given-in-Ok-clause-continues : goal.returns-in_ok-given-in-Ok-clause-continues
returns-in_ok-given-in-Ok-clause-continues c =
    looked (past_of c.args.self.now) (past c.leave.result) (continuation_of c.args.self.now) (next c.leave.result)
    (took_left (past_of c.args.self.now) (past c.in-Some.seat) (past c.leave.result) (continuation_of c.args.self.now) (next c.in-Some.seat) (next c.leave.result) (taken c.in-Ok.guard)
    (ap (λ o. option_and_then past o) (sym c.in-Some.ensures.value)) (ap (λ o. unwrap_or (option_map next o) knows_nothing) (sym c.in-Some.ensures.value))
    c.leave.ensures.past c.leave.ensures.same c.in-Ok.ensures.takes)

pub returns-in-Err-clause-continues : goal.returns-in-Err-clause-continues
returns-in-Err-clause-continues c =
    looked (past_of c.args.self.now) (past c.in-Err.seat) (continuation_of c.args.self.now) (next c.in-Err.seat)
    (took_back (past_of c.args.self.now) (past c.in-Some.seat) (past c.in-Err.seat) (continuation_of c.args.self.now) (next c.in-Some.seat) (next c.in-Err.seat)
    (ap (λ o. option_and_then past o) (sym c.in-Some.ensures.value)) (ap (λ o. unwrap_or (option_map next o) knows_nothing) (sym c.in-Some.ensures.value))
    c.in-Err.ensures.kept)
