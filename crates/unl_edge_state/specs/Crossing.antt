-- The types of the readers and writers of editions, and of the `left_right` readers and writers inside them. An edition is a board, the
-- number of installs that led to it, and whether its publication is orderly. `left_right` is the crate that shares a value between a
-- writer and several readers. Contracts use the types to state that values of these types can be sent to another thread.
use denote.RattleType.{RattleType}
use denote.Ref.{NamedLft}
use Rattle.left_right.specs.contracts.reader.Reader as Seat
use Rattle.left_right.specs.contracts.writer.Writer as Sides
use Rattle.std.specs.contracts.alloc.Global as Global
use Rattle.std.specs.contracts.impls.GlobalAllocator.TheImpl as global
use Rattle.unl_core.specs.contracts.board.Install as Install
use Rattle.unl_edge_state.specs.contracts.edition.Edition as Edition
use Rattle.unl_edge_state.specs.contracts.edition.EditionAbsorbInstall.TheImpl as absorb
use Rattle.unl_edge_state.specs.contracts.edition.EditionCountedInstall.TheImpl as counted
use Rattle.unl_edge_state.specs.contracts.writer.EdgeWriter as Writer
use Rattle.unl_publication.specs.contracts.knowledge.Knowledge as Knowledge
use Rattle.unl_publication.specs.contracts.publisher.Publisher as Publisher
use Rattle.unl_publication.specs.contracts.reader.Reader as Reader
use Rattle.unl_publication.specs.contracts.rule.Ruled as Ruled
use Rattle.unl_publication.specs.contracts.writer.Writer as Publishing
use Rattle.unl_publication.specs.contracts.rule.RuledProtocolKnowledgeState.TheImpl as ruled

-- The type of the `left_right` reader inside a reader of editions.
abbrev pub seat_type : RattleType
seat_type =
    Seat.the_row Edition.the_row (Knowledge.the_row Edition.the_row Install.the_row) (Ruled.the_row Install.the_row) Global.the_row
    (ruled.ghosts Edition.the_row Install.the_row Edition.the_row counted.ghosts ruled.no_dict absorb.ghosts ruled.no_dict ruled.no_dict)
    global.ghosts

-- The type of a reader of editions.
abbrev pub reader_type : RattleType
reader_type =
    Reader.the_row Edition.the_row Install.the_row (Ruled.the_row Install.the_row) Edition.the_row counted.ghosts absorb.ghosts
    (ruled.ghosts Edition.the_row Install.the_row Edition.the_row counted.ghosts ruled.no_dict absorb.ghosts ruled.no_dict ruled.no_dict)

-- The type of the `left_right` writer inside a writer of editions.
abbrev pub sides_type : RattleType
sides_type =
    Sides.the_row Edition.the_row Install.the_row (Knowledge.the_row Edition.the_row Install.the_row) (Ruled.the_row Install.the_row)
    Global.the_row Edition.the_row absorb.ghosts
    (ruled.ghosts Edition.the_row Install.the_row Edition.the_row counted.ghosts ruled.no_dict absorb.ghosts ruled.no_dict ruled.no_dict)
    global.ghosts

-- The type of a writer of editions.
abbrev pub publishing_type : RattleType
publishing_type =
    Publishing.the_row Edition.the_row Install.the_row (Ruled.the_row Install.the_row) Edition.the_row counted.ghosts absorb.ghosts
    (ruled.ghosts Edition.the_row Install.the_row Edition.the_row counted.ghosts ruled.no_dict absorb.ghosts ruled.no_dict ruled.no_dict)

-- The type of a publisher of editions: a writer of editions, with a reference to the value of type `wait` with which the publisher waits
-- for readers. `lifetime` is the lifetime of this reference.
abbrev pub publisher_type : NamedLft → RattleType → RattleType
publisher_type lifetime wait =
    Publisher.the_row lifetime wait Edition.the_row Install.the_row (Ruled.the_row Install.the_row) Edition.the_row counted.ghosts
    absorb.ghosts
    (ruled.ghosts Edition.the_row Install.the_row Edition.the_row counted.ghosts ruled.no_dict absorb.ghosts ruled.no_dict ruled.no_dict)

-- The type of a board's writer, which holds a publisher. `wait` and `lifetime` are those of the publisher.
abbrev pub writer_type : NamedLft → RattleType → RattleType
writer_type lifetime wait = Writer.the_row lifetime wait
