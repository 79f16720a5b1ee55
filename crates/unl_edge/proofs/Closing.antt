-- How an edge ends after it took its first draw and tried to listen.
use Rattle.std.proofs.Common.{◌≡◌, ◌<◌, ◌≤◌, ◌∙◌, ℕ, Bool, List, length, Option, Some, None, Result, Ok, Err, IfSome, ap, arith, inl, inr, sym, subst}
use Rattle.std.proofs.Common.{true}
use Rattle.std.specs.Prelude.{OnErr, OnOk}
use Rattle.unl_base.specs.Draws.{TakesDraw}
use Rattle.unl_base.specs.Doors.{DoorState, IsClosed, IsClosedAt, ListenedAt, ListenedOnlyAt, ServedOnlyAt, listening_at}
use Rattle.unl_base.specs.Streams.{Sends, SendsPrefix}
use Rattle.unl_base.specs.declared.draws.Draw.{Draw}
use Rattle.unl_core.specs.declared.board.Board.{Board}
use Rattle.unl_edge.specs.Edges.{EdgeEnds, EdgeRuns, HandsLinks, IsServed, RunsEdge, StopsEarly}
use Rattle.unl_edge.specs.Scene.{Scene}
use Rattle.unl_edge.specs.EdgeServices.{EdgeService, begun_board, duty_of, service_at, service_of}
use Rattle.unl_server.specs.Handling.{Coming}
use Rattle.unl_refresh.proofs.Connecting.{none_taken}
use Rattle.unl_refresh.specs.Turns.{Duty}
use Rattle.unl_upstream.specs.Ends.{connections_line, line_end}
use Rattle.unl_upstream.specs.declared.ends.ServingEnd.{ServingEnd}
use Rattle.unl_upstream.specs.declared.ends.ServingEnd.TheVariants.{Closed, WriteFault, DoorFault, OutOfMemory}
use Rattle.unl_words.specs.declared.words.EdgeArguments.{EdgeArguments}
use Rattle.unl_input.specs.Refusal.{WritesLine}
use Rattle.unl_input.specs.declared.refusal.WriteLineFault.{WriteLineFault}
use Rattle.unl_input.specs.declared.refusal.WriteLineFault.TheVariants as say
use Rattle.unl_workers.specs.Accepting.{HandsOut}

-- ---- the door

-- if a result is `Ok`, what holds of it on `Ok` holds
pub once_ok : {A E X : Type 0} (result : Result A E) (a : A) → result ≡ Ok a → OnOk result X → X
once_ok (Ok b) a is x = x
once_ok (Err e) a is x = absurd (cc is)

-- if a result is `Err`, what holds of it on `Err` holds
pub once_err : {A E X : Type 0} (result : Result A E) (e : E) → result ≡ Err e → OnErr result X → X
once_err (Ok a) e is x = absurd (cc is)
once_err (Err d) e is x = x

-- ---- the links

-- if the door began to listen and then handed out links, and nothing of the input was read, `HandsLinks` holds
pub hands_links : (served port : ℕ) (could : Bool) (before after : Scene) (door : DoorState) → door ≡ listening_at port could before.door.state
    → HandsOut served door after.door.state → after.input.left ≡ before.input.left → HandsLinks served before after
hands_links served port could before after door listens hands unread = record {
  given = ap (λ (d : DoorState). d.given) same.door;
  had = same.had;
  none_back = ap (λ (d : DoorState). d.back) same.door;
  left = ap (λ (d : DoorState). d.links) same.door;
  unread = unread;
}
  where
    same : HandsOut served (listening_at port could before.door.state) after.door.state
    same = subst (λ (d : DoorState). HandsOut served d after.door.state) listens hands

none_had : (links : Option (List (List ℕ))) → IfSome links (λ list. 0 ≤ length list)
none_had None = tt
none_had (Some list) = omega arith

-- the door listened once more, at this port
pub listened_at : (port : ℕ) (could : Bool) (before door : DoorState) → could ≡ true → door ≡ listening_at port could before
    → ListenedAt port before door
listened_at port could before door did listens =
    ap (λ (d : DoorState). d.ports) listens ∙ ap (λ (b : Bool). (listening_at port b before).ports) did

-- the door listened once more, at this port, and nothing else changed it
pub listened_at_last : (port : ℕ) (could : Bool) (before door after : DoorState) → could ≡ true → door ≡ listening_at port could before
    → after ≡ door → ListenedAt port before after
listened_at_last port could before door after did listens same =
    ap (λ (d : DoorState). d.ports) same ∙ listened_at port could before door did listens

-- a door that listened at this port and then handed out links has listened once more, at this port
pub port_of_links : (served port : ℕ) (could : Bool) (before door after : DoorState) → could ≡ true → door ≡ listening_at port could before
    → HandsOut served door after → ListenedAt port before after
port_of_links served port could before door after did listens hands =
    ap (λ (d : DoorState). d.ports) hands.door ∙ listened_at port could before door did listens

-- if the door did no more than listen, and nothing of the input was read, no link was handed out
pub hands_none : (port : ℕ) (could : Bool) (before after : Scene) → after.door.state ≡ listening_at port could before.door.state
    → after.input.left ≡ before.input.left → HandsLinks 0 before after
hands_none port could before after listens unread = record {
  given = ap (λ (d : DoorState). d.given) listens ∙ omega arith;
  had = none_had before.door.state.links;
  none_back = ap (λ (d : DoorState). d.back) listens;
  left = ap (λ (d : DoorState). d.links) listens ∙ none_taken before.door.state.links;
  unread = unread;
}

-- a door that listened at this port, handed out links and is closed now was closed at this port
pub closes_at : (served port : ℕ) (could : Bool) (before door after : DoorState) → could ≡ true → door ≡ listening_at port could before
    → HandsOut served door after → IsClosed after → IsClosedAt port before after
closes_at served port could before door after did listens hands closed =
    record { closed = closed; at = port_of_links served port could before door after did listens hands }

-- ---- the first draw

-- memory ran out before anything was handed out or sent
pub stops_at_once : (port : ℕ) (before after middle : Scene) → before ≡ middle → after.door.state ≡ middle.door.state
    → after.input.left ≡ middle.input.left → after.output.sent ≡ middle.output.sent → StopsEarly port before after
stops_at_once port before after middle same shut unread silent =
    subst (λ (scene : Scene). StopsEarly port scene after) (sym same) (none, inl (ap (λ (d : DoorState). d.ports) shut), silent)
  where
    none : HandsLinks 0 middle after
    none = record {
      given = ap (λ (d : DoorState). d.given) shut ∙ omega arith;
      had = none_had middle.door.state.links;
      none_back = ap (λ (d : DoorState). d.back) shut;
      left = ap (λ (d : DoorState). d.links) shut ∙ none_taken middle.door.state.links;
      unread = unread;
    }

-- how an edge ends after it took a draw
edge_runs : (words : EdgeArguments) (end : ServingEnd) (before after : Scene) (draw : Draw) (coming : Coming) → TakesDraw before.draws draw coming
    → EdgeEnds (service_of words draw.word) words.port end (record before { draws = coming }) after → EdgeRuns words end before after
edge_runs words end before after draw coming taken ends = by_end end ends
  where
    runs : (end : ServingEnd) → EdgeEnds (service_of words draw.word) words.port end (record before { draws = coming }) after → RunsEdge words end before after
    runs end ends = record { draw = draw; coming = coming; taken = taken; ends = ends }

    by_end : (end : ServingEnd) → EdgeEnds (service_of words draw.word) words.port end (record before { draws = coming }) after → EdgeRuns words end before after
    by_end Closed ends = runs Closed ends
    by_end WriteFault ends = runs WriteFault ends
    by_end DoorFault ends = runs DoorFault ends
    by_end OutOfMemory ends = inr (runs OutOfMemory ends)

-- as `edge_runs`, with equations for the scene after the draw and for the parts of the edge service
pub begun_ends : (words : EdgeArguments) (duty : Duty) (board : Board) (end : ServingEnd) (before middle after : Scene)
    (draw : Draw) (coming : Coming) → duty ≡ duty_of words → board ≡ begun_board draw.word words.host words.upstream_tokens
    → before ≡ middle → TakesDraw middle.draws draw coming
    → EdgeEnds (service_at duty board words.workers) words.port end (record middle { draws = coming }) after
    → EdgeRuns words end before after
begun_ends words duty board end before middle after draw coming polls begins same taken ends =
    subst (λ (scene : Scene). EdgeRuns words end scene after) (sym same)
    (edge_runs words end middle after draw coming taken
    (subst (λ (service : EdgeService). EdgeEnds service words.port end (record middle { draws = coming }) after)
    (λ i. service_at (polls i) (begins i) words.workers) ends))

-- ---- the last line

-- the door was closed, and the last line was sent
pub closed_ends : (service : EdgeService) (port served : ℕ) (before middle after : Scene) → before ≡ middle → HandsLinks served middle after
    → IsServed service port served middle after → Sends middle.output.sent (connections_line served) after.output.sent
    → IsClosedAt port middle.door.state after.door.state → EdgeEnds service port Closed before after
closed_ends service port served before middle after same hands serves sent closed =
    subst (λ (scene : Scene). EdgeEnds service port Closed scene after) (sym same) ends
  where
    ends : EdgeEnds service port Closed middle after
    ends = (served, hands, serves, sent, closed)

-- the door was closed, and a prefix of the last line was sent
pub broken_ends : (service : EdgeService) (port served : ℕ) (before middle after : Scene) → before ≡ middle → HandsLinks served middle after
    → IsServed service port served middle after → SendsPrefix middle.output.sent (connections_line served) after.output.sent
    → IsClosedAt port middle.door.state after.door.state → EdgeEnds service port WriteFault before after
broken_ends service port served before middle after same hands serves sent closed =
    subst (λ (scene : Scene). EdgeEnds service port WriteFault scene after) (sym same) ends
  where
    ends : EdgeEnds service port WriteFault middle after
    ends = (served, hands, serves, sent, closed)

-- if no link was handed out, any statement about handed-out links holds
pub none_served : {X : Type 0} → 0 < 0 → X
none_served some = absurd (omega (arith, some))

-- the door failed, or no thread could be started
pub failed_ends : (service : EdgeService) (port served : ℕ) (before middle after : Scene) → before ≡ middle → HandsLinks served middle after
    → (0 < served → IsServed service port served middle after) → ServedOnlyAt port served middle.door.state after.door.state
    → after.output.sent ≡ middle.output.sent → EdgeEnds service port DoorFault before after
failed_ends service port served before middle after same hands serves received silent =
    subst (λ (scene : Scene). EdgeEnds service port DoorFault scene after) (sym same) ends
  where
    ends : EdgeEnds service port DoorFault middle after
    ends = (served, hands, serves, received, silent)

-- memory ran out before the first link
pub stopped_early : (service : EdgeService) (port : ℕ) (before middle after : Scene) → before ≡ middle → HandsLinks 0 middle after
    → ListenedOnlyAt port middle.door.state after.door.state → after.output.sent ≡ middle.output.sent
    → EdgeEnds service port OutOfMemory before after
stopped_early service port before middle after same hands listened silent =
    subst (λ (scene : Scene). EdgeEnds service port OutOfMemory scene after) (sym same) (inl (hands, listened, silent))

-- memory ran out before the last line could be printed
pub stopped_at_line : (service : EdgeService) (port served : ℕ) (before middle after : Scene) → before ≡ middle
    → HandsLinks served middle after → IsServed service port served middle after → after.output.sent ≡ middle.output.sent
    → IsClosedAt port middle.door.state after.door.state → EdgeEnds service port OutOfMemory before after
stopped_at_line service port served before middle after same hands serves silent closed =
    subst (λ (scene : Scene). EdgeEnds service port OutOfMemory scene after) (sym same) (inr (served, hands, serves, silent, closed))

-- how an edge ends after its door was closed, from the result of printing the last line
pub printed_ends : (service : EdgeService) (port served : ℕ) (printed : Result Unit WriteLineFault) (end : ServingEnd) (before middle after : Scene)
    → end ≡ line_end printed → before ≡ middle → HandsLinks served middle after → IsServed service port served middle after
    → WritesLine printed (connections_line served) middle.output.sent after.output.sent → IsClosedAt port middle.door.state after.door.state
    → EdgeEnds service port end before after
printed_ends service port served printed end before middle after is same hands serves said closed =
    subst (λ (e : ServingEnd). EdgeEnds service port e before after) (sym is) (by_printed printed said)
  where
    by_printed : (printed : Result Unit WriteLineFault) → WritesLine printed (connections_line served) middle.output.sent after.output.sent
        → EdgeEnds service port (line_end printed) before after
    by_printed (Ok u) said = closed_ends service port served before middle after same hands serves said closed
    by_printed (Err say.WriteFault) said = broken_ends service port served before middle after same hands serves said closed
    by_printed (Err say.Memory) said = stopped_at_line service port served before middle after same hands serves said closed
