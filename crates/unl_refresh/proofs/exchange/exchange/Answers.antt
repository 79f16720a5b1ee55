use Rattle.unl_refresh.proofs.Asked.{asked_whole, at_most_once}
use Rattle.unl_refresh.proofs.exchange.exchange.Goals as goal

pub returns-clause-once : goal.returns-clause-once
returns-clause-once g c =
    let laws = g.met.P.Peer in
    at_most_once (asked_whole (g.P.Peer.state c.args.peer.now) (g.P.Peer.state c.connect.new.self) (g.P.Peer.state c.write_all.new.sink)
    (g.P.Peer.state c.read_reply.new.peer) _ _ _ _ _ _ _ _ c.args.request.now
    (record {
      connects = c.in_ok-connect.ensures.connects;
      begun = laws.writes c.connect.new.self;
      same = c.in_ok-write_all.ensures.other_parts;
      ended = laws.writes c.write_all.new.sink;
    })
    c.in_ok-write_all.ensures.ok
    (record {
      begun = laws.reads c.write_all.new.sink;
      same = c.read_reply.ensures.other_parts;
      ended = laws.reads c.read_reply.new.peer;
    }))
