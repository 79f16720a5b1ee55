use Rattle.std.proofs.Common.{◌≡◌, length, rules, Some}
use Rattle.unl_server.specs.Conversation.{Converses}
use Rattle.unl_server.specs.Links.{link_view}
use Rattle.unl_server.proofs.ShowsLemmas.{Converses_seen}
use Rattle.unl_connection.specs.declared.by_desk.DeskHandler.{DeskHandler}
use Rattle.unl_connection.specs.Notes.{DrawsAtLeast, LooksFor, Notes, NotesNothing, FrontsRise, known_by, noted, desk_notes}
use Rattle.unl_connection.proofs.NotesLemmas.{ReflectsNotes, shows, reflects}
use Rattle.unl_connection.proofs.serve.serve_connection.Goals as goal

-- Proves the clauses of `serve_connection` from those of `serve_requests`, which are about the values behind the references in the
-- handler's final state. These references are the ones that were passed to `serve_connection`.
pub returns-clause-converses : goal.returns-clause-converses
returns-clause-converses g c =
    let after = c.serve_requests-conversed.new.state in
    let counted : length after.served.now ≡ c.serve_requests-conversed.result.0 = c.serve_requests-conversed.ensures.fits in
    let fact : Converses (Notes (g.D.Desk.board_at after.desk.now)) NotesNothing
    (link_view (g.L.Source.left c.args.link.now) (g.L.Sink.sent c.args.link.now) (g.L.Source.faults c.args.link.now))
    (noted c.args.served.now c.args.book.now) c.serve_requests-conversed.result.1 (noted after.served.now after.book.now) (length after.served.now)
    (link_view (g.L.Source.left c.serve_requests-conversed.new.link) (g.L.Sink.sent c.serve_requests-conversed.new.link)
    (g.L.Source.faults c.serve_requests-conversed.new.link)) =
    rw (counted) (Converses_seen _ c.serve_requests-conversed.result.1 c.serve_requests-conversed.result.0 _
    (shows (λ (s : DeskHandler g.row.D.Denot). desk_notes (known_by g.D.Desk.front g.D.Desk.board_at g.D.Desk.fronts s.desk.now) s.served.now s.book.now) _ _)
    c.serve_requests-conversed.ensures.converses) in
    search rules

pub returns-clause-fronts : goal.returns-clause-fronts
returns-clause-fronts g c =
    let after = c.serve_requests-conversed.new.state in
    let reflected : ReflectsNotes (known_by g.D.Desk.front g.D.Desk.board_at g.D.Desk.fronts c.args.desk.now) (g.R.Draws.coming c.args.draws.now)
    c.serve_requests-conversed.result.1 (known_by g.D.Desk.front g.D.Desk.board_at g.D.Desk.fronts after.desk.now)
    (g.R.Draws.coming c.serve_requests-conversed.new.draws) after.served.now =
    reflects (λ (s : DeskHandler g.row.D.Denot). desk_notes (known_by g.D.Desk.front g.D.Desk.board_at g.D.Desk.fronts s.desk.now) s.served.now s.book.now)
    _ _ c.serve_requests-conversed.result.1 c.serve_requests-conversed.result.0 c.requires c.serve_requests-conversed.ensures.converses.answered in
    let fact : FrontsRise (g.D.Desk.front c.args.desk.now) after.served.now (g.D.Desk.front after.desk.now) = reflected.fronts in
    search rules

pub returns-clause-looks : goal.returns-clause-looks
returns-clause-looks g c =
    let after = c.serve_requests-conversed.new.state in
    let reflected : ReflectsNotes (known_by g.D.Desk.front g.D.Desk.board_at g.D.Desk.fronts c.args.desk.now) (g.R.Draws.coming c.args.draws.now)
    c.serve_requests-conversed.result.1 (known_by g.D.Desk.front g.D.Desk.board_at g.D.Desk.fronts after.desk.now)
    (g.R.Draws.coming c.serve_requests-conversed.new.draws) after.served.now =
    reflects (λ (s : DeskHandler g.row.D.Denot). desk_notes (known_by g.D.Desk.front g.D.Desk.board_at g.D.Desk.fronts s.desk.now) s.served.now s.book.now)
    _ _ c.serve_requests-conversed.result.1 c.serve_requests-conversed.result.0 c.requires c.serve_requests-conversed.ensures.converses.answered in
    let fact : LooksFor (g.D.Desk.fronts c.args.desk.now) after.served.now c.serve_requests-conversed.result.1 (g.D.Desk.fronts after.desk.now) = reflected.looks in
    search rules

pub returns-clause-drawn : goal.returns-clause-drawn
returns-clause-drawn g c =
    let after = c.serve_requests-conversed.new.state in
    let reflected : ReflectsNotes (known_by g.D.Desk.front g.D.Desk.board_at g.D.Desk.fronts c.args.desk.now) (g.R.Draws.coming c.args.draws.now)
    c.serve_requests-conversed.result.1 (known_by g.D.Desk.front g.D.Desk.board_at g.D.Desk.fronts after.desk.now)
    (g.R.Draws.coming c.serve_requests-conversed.new.draws) after.served.now =
    reflects (λ (s : DeskHandler g.row.D.Denot). desk_notes (known_by g.D.Desk.front g.D.Desk.board_at g.D.Desk.fronts s.desk.now) s.served.now s.book.now)
    _ _ c.serve_requests-conversed.result.1 c.serve_requests-conversed.result.0 c.requires c.serve_requests-conversed.ensures.converses.answered in
    let fact : DrawsAtLeast (g.R.Draws.coming c.args.draws.now) after.served.now (g.R.Draws.coming c.serve_requests-conversed.new.draws) = reflected.drawn in
    search rules

pub returns-clause-keeps : goal.returns-clause-keeps
returns-clause-keeps g c k board there =
    let after = c.serve_requests-conversed.new.state in
    let reflected : ReflectsNotes (known_by g.D.Desk.front g.D.Desk.board_at g.D.Desk.fronts c.args.desk.now) (g.R.Draws.coming c.args.draws.now)
    c.serve_requests-conversed.result.1 (known_by g.D.Desk.front g.D.Desk.board_at g.D.Desk.fronts after.desk.now)
    (g.R.Draws.coming c.serve_requests-conversed.new.draws) after.served.now =
    reflects (λ (s : DeskHandler g.row.D.Denot). desk_notes (known_by g.D.Desk.front g.D.Desk.board_at g.D.Desk.fronts s.desk.now) s.served.now s.book.now)
    _ _ c.serve_requests-conversed.result.1 c.serve_requests-conversed.result.0 c.requires c.serve_requests-conversed.ensures.converses.answered in
    let fact : g.D.Desk.board_at after.desk.now k ≡ Some board = reflected.keeps k board there in
    search rules
