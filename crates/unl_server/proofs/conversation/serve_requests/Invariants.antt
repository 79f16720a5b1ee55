use Rattle.std.proofs.Common.{◌≡◌, ◌≤◌, List, [], length}
use Rattle.unl_http_api.specs.declared.request.Request.{Request}
use Rattle.unl_http_api.specs.Session.{StayOpen}
use Rattle.unl_server.specs.Handling.{HandlesRequest, handler_state}
use Rattle.unl_server.proofs.ConversationLemmas.{Talk}
use Rattle.unl_server.proofs.conversation.serve_requests.Given as goal

-- the loop invariant of `serve_requests`: each turn so far answered one request, and none of these requests ends the connection
abbrev pub invariant-loop-turn : goal.invariant-loop-turn
invariant-loop-turn g l = record {
  requests : List Request;
  talk : Talk (HandlesRequest g.A.RequestHandler.gives)
      (record {
        held = [];
        left = g.L.Source.left l.initial.link;
        state = handler_state l.initial.state 0 (g.R.Draws.coming l.initial.draws);
        sent = g.L.Sink.sent l.initial.link;
      })
      (record {
        held = l.reader;
        left = g.L.Source.left l.link;
        state = handler_state l.state l.count (g.R.Draws.coming l.draws);
        sent = g.L.Sink.sent l.link;
      })
      requests;
  stay : StayOpen requests;
  asked : length requests ≡ l.turn;
  counted : l.count ≡ l.turn;
  fits : g.A.RequestHandler.fits l.count l.state;
  keeps : g.A.RequestHandler.keeps l.initial.state l.state;
  later : g.L.Source.faults l.initial.link ≤ g.L.Source.faults l.link;
}
