-- The lines of a replay that were answered: the text that they print, and the properties of their answers.
use Rattle.std.specs.Prelude.{◌≡◌, ⊤, ℕ, ◌+◌, List, [], ◌∷◌, ◌++◌, length, map, take, Option, IfOk, Result, Ok, Err}
use Rattle.std.specs.List.{AllByRecursion}
use Rattle.unl_base.specs.Streams.{Sends, SendsPrefix, Takes}
use Rattle.unl_core.specs.Board.{snapshot_in}
use Rattle.unl_core.specs.Histories.{AllRepresented, AreLines, Histories, ShowsRevisions}
use Rattle.unl_delta.specs.History.{IsNotBelow}
use Rattle.unl_delta.specs.declared.version.EnvVersion.{EnvVersion}
use Rattle.unl_input.specs.Lines.{ended_lines, lines}
use Rattle.unl_input.specs.Taken.{Ending, ending_text, refused_text, take_line}
use Rattle.unl_input.specs.Whole.{TakesLines}
use Rattle.unl_input.specs.declared.taking.LinesFault.{LinesFault}
use Rattle.unl_input.specs.declared.taking.LinesFault.TheVariants.{Bad, ReadFault, WriteFault, Memory}
use Rattle.unl_replay.specs.Delivery.{IsSentFromHistory, asked, brought}
use Rattle.unl_replay.specs.Replay.{line_answer, empty_replay, put_ask}
use Rattle.unl_replay.specs.declared.ask.LineAsk.{LineAsk}
use Rattle.unl_replay.specs.declared.replay_state.ReplayState.{ReplayState}

-- ---- answered lines

-- an answered line: its number, the state before it, its bytes, what it prints, and the state after it
pub record ReplayedLine : Type 0 where
  pub number : ℕ
  pub before : ReplayState
  pub line : List ℕ
  pub text : List ℕ
  pub after : ReplayState

-- the bytes of each line
abbrev pub bytes_of : List ReplayedLine → List (List ℕ)
bytes_of ones = map (λ one. one.line) ones

-- the texts that the lines print, one after another
abbrev pub text_of : List ReplayedLine → List ℕ
text_of [] = []
text_of (one ∷ more) = one.text ++ text_of more

-- the line prints its `text` and changes the state from `before` to `after`
abbrev pub IsReplayed : ReplayedLine → Type 0
IsReplayed one = take_line line_answer one.number one.before one.line ≡ Ok (record { text = one.text; desk = one.after })

-- The lines are numbered from `k` on. The first is answered in `state`, and each later one in the state after the line before it.
abbrev pub AreReplayed : ℕ → ReplayState → List ReplayedLine → Type 0
AreReplayed k state [] = ⊤
AreReplayed k state (one ∷ more) = (one.number ≡ k) × (one.before ≡ state) × IsReplayed one × AreReplayed (k + 1) one.after more

-- ---- one revision

-- Every batch or feed in the lines was sent from these histories. For each environment they have one history of changes per epoch.
abbrev pub AllSentFrom : Histories → List ReplayedLine → Type 0
AllSentFrom histories ones = AllByRecursion (λ one. IfOk (brought one.before one.line) (IsSentFromHistory histories)) ones

-- The printed text is the answer to the ask, from a board on which every version is a revision in the histories of its environment,
-- restricted to the projects that the recipient of the batches sees. The features that a token sees on this board are those of one
-- revision.
pub record AnswersRevision (histories : Histories) (one : ReplayedLine) (ask : LineAsk) : Type 0 where
  pub answers : put_ask one.number one.before ask ≡ record { text = one.text; desk = one.after }
  pub represented : AllRepresented histories one.before.desk.board.slots
  pub shows : ShowsRevisions histories one.before.desk.board

-- `AnswersRevision` for each ask among the lines
abbrev pub AllAnswerRevisions : Histories → List ReplayedLine → Type 0
AllAnswerRevisions histories ones = AllByRecursion (λ one. IfOk (asked one.line) (AnswersRevision histories one)) ones

-- If every batch or feed in the lines was sent from the same valid histories (epochs rise, and event numbers never fall within an
-- epoch), each ask among the lines is answered from these histories. Batches may be lost, duplicated or out of order.
abbrev pub LinesDeliverRevisions : List ReplayedLine → Type 0
LinesDeliverRevisions ones = (histories : Histories) → AreLines histories → AllSentFrom histories ones → AllAnswerRevisions histories ones

-- ---- revisions never fall

-- the version of an environment, if it has one
abbrev pub version_in : List ℕ → ReplayState → Option EnvVersion
version_in environment state = snapshot_in environment state.desk.board.slots

-- No line removes the version of an environment or replaces it by an older one: the version's epoch never falls, and its number never
-- falls within an epoch. This holds for any batches.
abbrev pub VersionsNeverFall : List ReplayedLine → Type 0
VersionsNeverFall ones = (environment : List ℕ)
    → AllByRecursion (λ one. IsNotBelow (version_in environment one.before) (version_in environment one.after)) ones

-- ---- the whole replay

-- The text that was sent, by the result. `bytes` were read, and `ones` are the lines that were answered. `Ok`: the text of all lines.
-- `Bad`: the text of the answered lines, and the report of a refused line. `ReadFault`: the text of the lines that end with a line feed.
-- `WriteFault`: a prefix of the text of the answered lines and the report of a refused line, if there is one. `Memory`: the text of the
-- answered lines.
abbrev pub SendsAnswers : Result (Unit {0}) LinesFault → List ℕ → List ReplayedLine → Option (List ℕ) → Option (List ℕ) → Type 0
SendsAnswers (Ok u) bytes ones old new = (bytes_of ones ≡ lines bytes) × Sends old (text_of ones) new
SendsAnswers (Err Bad) bytes ones old new = (k : ℕ) × (cause : List ℕ) × Sends old (text_of ones ++ refused_text k cause) new
SendsAnswers (Err ReadFault) bytes ones old new = (bytes_of ones ≡ ended_lines bytes) × Sends old (text_of ones) new
SendsAnswers (Err WriteFault) bytes ones old new = (ending : Ending) × SendsPrefix old (text_of ones ++ ending_text ending) new
SendsAnswers (Err Memory) bytes ones old new = Sends old (text_of ones) new

-- The first lines of these bytes were answered, one after another, and their text was sent as `SendsAnswers` says. If the batches of
-- these lines were sent from the same valid histories, each ask among the lines is answered from these histories. The version of an
-- environment is never replaced by an older one.
pub record AnswersLines (bytes : List ℕ) (end : Result (Unit {0}) LinesFault) (old new : Option (List ℕ)) : Type 0 where
  pub ones : List ReplayedLine
  pub first : bytes_of ones ≡ take (length ones) (lines bytes)
  pub replayed : AreReplayed 1 empty_replay ones
  pub sent : SendsAnswers end bytes ones old new
  pub revisions : LinesDeliverRevisions ones
  pub rising : VersionsNeverFall ones

-- The effect of a replay, by its result `end`. `left` and `left_after` are the bytes still to be read before and after, and `old` and
-- `new` are the bytes sent before and after; each is `None` if it is not observable. `takes` states the text that was sent, by the
-- specification of each line. `read` are bytes that were read, and `answered` lists the lines in them that were answered.
pub record Replays (end : Result (Unit {0}) LinesFault) (left left_after old new : Option (List ℕ)) : Type 0 where
  pub takes : TakesLines line_answer empty_replay end left left_after old new
  pub read : List ℕ
  pub took : Takes left read left_after
  pub answered : AnswersLines read end old new
