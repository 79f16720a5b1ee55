-- How the command `follow` ends. It makes turns: in each it makes one request to the peer (the server that it polls), and writes one line
-- to the output.
use Rattle.std.specs.Prelude.{None, Result}
use Rattle.unl_edge.specs.Scene.{Scene}
use Rattle.unl_follow.specs.Replica.{Subject}
use Rattle.unl_follow.specs.Run.{Endpoints, Runs}
use Rattle.unl_follow.specs.declared.fault.FollowFault.{FollowFault}
use Rattle.unl_refresh.specs.declared.ask.Ask.{Ask}
use Rattle.unl_words.specs.declared.words.FollowArguments.{FollowArguments}

-- the endpoints that a run of turns uses: the peer, its fault count, the upcoming draws and the bytes sent to the output
abbrev pub ends_in : Scene → Endpoints
ends_in scene =
    record { peer = scene.peer.state; faults = scene.peer.faults; coming = scene.draws; sent = scene.output.sent }

-- the parameters of the first request, from the arguments: no entity tag yet
abbrev pub ask_of : FollowArguments → Ask
ask_of words = record { host = words.upstream; token = words.token; delta = words.delta; tag = None }

-- the feature that each line is about, and the context that it is evaluated for, from the arguments
abbrev pub subject_of : FollowArguments → Subject
subject_of words = record { feature = words.feature; context = words.context }

-- How `follow` ends with these arguments. On success it made `words.turns` turns, or fewer if the pace (which each turn after the first
-- waits for) ended earlier, and sent all their lines. After a failed write, a prefix of the lines was sent. If memory ran out, only whole
-- lines were sent.
abbrev pub FollowEnds : FollowArguments → Result (Unit {0}) FollowFault → Scene → Scene → Type 0
FollowEnds words end before after =
    Runs words.turns before.pace (ask_of words) (subject_of words) (ends_in before) end (ends_in after)
