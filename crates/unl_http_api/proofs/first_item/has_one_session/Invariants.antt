use Rattle.std.proofs.Common.{◌≡◌, List, length}
use Rattle.unl_http_api.specs.declared.request.Request.{Request}
use Rattle.unl_http_api.specs.Session.{ReadsRequests, StayOpen}
use Rattle.unl_http_api.proofs.first_item.has_one_session.Given as goal

-- one request was read in each turn so far, and none of these requests ends the connection
abbrev pub invariant-loop-turn : goal.invariant-loop-turn
invariant-loop-turn l = record {
  asked : List Request;
  reads : ReadsRequests l.bytes asked l.rest;
  stay : StayOpen asked;
  count : length asked ≡ l._turn;
}
