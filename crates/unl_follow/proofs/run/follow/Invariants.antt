use Rattle.std.proofs.Common.{◌≡◌, ◌≤◌}
use Rattle.std.specs.Prelude.{IsTrue}
use Rattle.unl_http_api.specs.RequestText.{fits_if_any}
use Rattle.unl_refresh.specs.Refresh.{with_tag}
use Rattle.unl_follow.specs.Replica.{installed_by}
use Rattle.unl_follow.proofs.Turning.{Paced, Reached}
use Rattle.unl_follow.proofs.run.follow.Given as goal

-- the invariant of the loop of `follow`: `made` turns were made, which published at most `made` versions; the ask has changed only in
-- its tag, which fits in a header line; and the fault count of the sink has not fallen
abbrev pub invariant-loop-made : goal.invariant-loop-made
invariant-loop-made g l = record {
  reached : Reached l.initial.ask l.subject
      (record {
        peer = g.P.Peer.state l.initial.peer;
        faults = g.P.Source.faults l.initial.peer;
        coming = g.R.Draws.coming l.initial.draws;
        sent = g.K.Sink.sent l.initial.sink;
      })
      l.made
      (record { installed = installed_by l.replica; tag = l.ask.tag })
      (record {
        peer = g.P.Peer.state l.peer;
        faults = g.P.Source.faults l.peer;
        coming = g.R.Draws.coming l.draws;
        sent = g.K.Sink.sent l.sink;
      });
  paced : Paced (g.T.Pace.turns l.initial.pace) (g.T.Pace.turns l.pace) l.made;
  front : l.replica.front ≤ l.made;
  same : l.ask ≡ with_tag l.ask.tag l.initial.ask;
  tag : IsTrue (fits_if_any l.ask.tag);
  later : g.K.Sink.faults l.initial.sink ≤ g.K.Sink.faults l.sink;
}
