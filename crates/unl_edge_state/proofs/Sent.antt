-- Readers and writers are `Send` because their parts are.
use denote.Param.Send.{IsSend, IsSync, sendable, view_send}
use denote.Param.SendFields.{declared_send}
use denote.RattleType.{RattleType}
use denote.Ref.{NamedLft}
use Rattle.std.proofs.Crossing.{crosses}
use Rattle.unl_core.specs.contracts.board.Install as Install
use Rattle.unl_edge_state.specs.contracts.edition.Edition as Edition
use Rattle.unl_edge_state.specs.contracts.edition.EditionAbsorbInstall.TheImpl as absorb
use Rattle.unl_edge_state.specs.contracts.edition.EditionCountedInstall.TheImpl as counted
use Rattle.unl_delta.specs.contracts.version.Place as Place
use Rattle.unl_edge_state.specs.contracts.reader.EdgeReader as EdgeReader
use Rattle.unl_edge_state.specs.contracts.writer.EdgeWriter.TheInside as Inside
use Rattle.unl_edge_state.specs.Crossing.{publisher_type, publishing_type, reader_type, seat_type, writer_type}
use Rattle.unl_publication.specs.contracts.publisher.Publisher as Publisher
use Rattle.unl_publication.specs.contracts.reader.Reader as Reader
use Rattle.unl_publication.specs.contracts.rule.Ruled as Ruled
use Rattle.unl_publication.specs.contracts.rule.RuledProtocolKnowledgeState.TheImpl as ruled

-- A reader is `Send` if its `left_right` reader is.
reader_send : IsSend seat_type → IsSend reader_type
reader_send seat =
    declared_send
    (Reader.the_type Edition.the_row Install.the_row (Ruled.the_row Install.the_row) Edition.the_row counted.ghosts absorb.ghosts
    (ruled.ghosts Edition.the_row Install.the_row Edition.the_row counted.ghosts ruled.no_dict absorb.ghosts ruled.no_dict ruled.no_dict))
    (seat, (search (sendable, crosses) depth 20, (search sendable, (search sendable, tt))))

-- An edge's reader is `Send` if its `left_right` reader is.
pub edge_reader_send : IsSend seat_type → IsSend EdgeReader.the_row
edge_reader_send seat = let reader : IsSend reader_type = reader_send seat in search (sendable, crosses) depth 20

-- A publisher is `Send` if its writer is `Send` and its `Wait` is `Sync`.
publisher_send : (lifetime : NamedLft) (wait : RattleType) → IsSync wait → IsSend publishing_type → IsSend (publisher_type lifetime wait)
publisher_send lifetime wait shared publishing =
    declared_send
    (Publisher.the_type lifetime wait Edition.the_row Install.the_row (Ruled.the_row Install.the_row) Edition.the_row counted.ghosts absorb.ghosts
    (ruled.ghosts Edition.the_row Install.the_row Edition.the_row counted.ghosts ruled.no_dict absorb.ghosts ruled.no_dict ruled.no_dict))
    (search (sendable, crosses) depth 20, (search (sendable, crosses) depth 20, tt))

-- An edge's writer is `Send` if the writer of its publication and its places are `Send` and its `Wait` is `Sync`.
pub edge_writer_send : (lifetime : NamedLft) (wait : RattleType) → IsSync wait → IsSend publishing_type → IsSend Place.the_row
    → IsSend (writer_type lifetime wait)
edge_writer_send lifetime wait shared publishing place =
    let publisher : IsSend (publisher_type lifetime wait) = publisher_send lifetime wait shared publishing in
    view_send (Inside.the_row lifetime wait) _ _ _ _
    (declared_send (Inside.the_type lifetime wait) (search (sendable, crosses) depth 20, (search (sendable, crosses) depth 20, tt)))
