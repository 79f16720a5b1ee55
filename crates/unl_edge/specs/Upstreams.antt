-- How the command `upstream` ends. It creates an upstream and a keeper (the store of the upstream's commands), reopens the upstream on the
-- keeper (applies the stored commands), runs the upstream, and returns the keeper to the maker that created it.
use Rattle.std.specs.Prelude.{◌≡◌, ◌⊎◌, ℕ, List, [], ◌++◌, Option, Some, IfSome, option_map}
use Rattle.unl_base.specs.Draws.{TakesDraw}
use Rattle.unl_base.specs.declared.draws.Draw.{Draw}
use Rattle.unl_edge.specs.Scene.{Scene}
use Rattle.unl_edge.specs.Status.{code_of, ending_status}
use Rattle.unl_input.specs.Taken.{Taking, lines_outcome}
use Rattle.unl_keeper.specs.State.{IsNewKeeper, KeeperState}
use Rattle.unl_server.specs.Handling.{Coming}
use Rattle.unl_upstream.specs.Kept.{KeptState, commands_in, kept_commands, kept_state}
use Rattle.unl_upstream.specs.KeptLines.{keeping, kept_lines_of}
use Rattle.unl_upstream.specs.PlainLines.{obeying}
use Rattle.unl_upstream.specs.Running.{ComesBack, IsUntouched, KeeperEnd, RefusesUpstreamRow, ReopensUpstream, UpstreamFacing}
use Rattle.unl_upstream.specs.Running.{upstream_facing}
use Rattle.unl_upstream.specs.Upstream.{UpstreamState, opening}
use Rattle.unl_upstream.specs.declared.command.Command.{Command}
use Rattle.unl_upstream.specs.declared.ends.UpstreamEnd.{UpstreamEnd}
use Rattle.unl_upstream.specs.declared.ends.UpstreamEnd.TheVariants.{OutOfMemory as NoMemory, KeeperFault, Row, Lines, Links}
use Rattle.unl_words.specs.OwnBook.{own_book}
use Rattle.unl_words.specs.declared.words.UpstreamArguments.{UpstreamArguments}

-- of the scene: the bytes sent to the output, the state of the door, and the draws to come
abbrev pub facing_of : Scene → UpstreamFacing
facing_of scene = upstream_facing scene.output.sent scene.door.state scene.draws

-- ---- the keeper

-- A maker created a keeper for an upstream, the upstream ended with `end`, and the maker got the keeper back. If the rows that the
-- maker holds are observable, reopening on the new keeper leaves the upstream unchanged, and the keeper has no commands at that time.
-- So in the end the maker holds just the commands kept since: those of the lines and then, if links were served, those of the links.
pub record EndsKept (start : UpstreamState) (port : ℕ) (end : UpstreamEnd) (before after : Scene) : Type 0 where
  pub made : KeeperState
  pub is_new_keeper : IsNewKeeper before.keep.held made
  pub plain : (reopened : ℕ) (opened : KeptState) → ReopensUpstream (kept_state start made) reopened opened
      → IfSome before.keep.held (λ _. kept_lines_of opened ≡ record { up = start; count = 0; commands = Some [] })
  pub last : KeeperState
  pub ends : KeeperEnd (kept_state start made) port end last before.input.left after.input.left (facing_of before) (facing_of after)
  pub back : ComesBack last before.keep after.keep
  pub holds : (reopened : ℕ) (opened : KeptState) (commands : List Command) → ReopensUpstream (kept_state start made) reopened opened
      → kept_commands last ≡ option_map (λ kept. kept ++ commands) (kept_commands opened.keeper)
      → IfSome after.keep.held (λ texts. commands_in texts ≡ commands)

-- How an upstream ends from its start state, with a door that is to listen at this port. If the keeper failed or none could be
-- created, or memory ran out before lines were taken, nothing was sent and the door is unchanged. Otherwise `EndsKept` holds.
abbrev pub UpstreamEnds : UpstreamState → ℕ → UpstreamEnd → Scene → Scene → Type 0
UpstreamEnds start port NoMemory before after = IsUntouched (facing_of before) (facing_of after)
UpstreamEnds start port KeeperFault before after = IsUntouched (facing_of before) (facing_of after)
UpstreamEnds start port (Row written) before after = EndsKept start port (Row written) before after
UpstreamEnds start port (Lines fault) before after = EndsKept start port (Lines fault) before after
UpstreamEnds start port (Links end) before after = EndsKept start port (Links end) before after

-- ---- the command

-- an upstream with these arguments has the state `start` at its start; its boot number is the random word of the draw that was taken
pub record Begins (words : UpstreamArguments) (coming : Coming) (start : UpstreamState) (coming_after : Coming) : Type 0 where
  pub draw : Draw
  pub taken : TakesDraw coming draw coming_after
  pub opens : start ≡ opening draw.word words.secret words.environments (own_book words.client_tokens words.frontend_tokens) words.epoch

-- an upstream with these arguments began, and ended with `end`
pub record RunsUpstream (words : UpstreamArguments) (end : UpstreamEnd) (before after : Scene) : Type 0 where
  pub start : UpstreamState
  pub coming : Coming
  pub begins : Begins words before.draws start coming
  pub ends : UpstreamEnds start words.port end (record before { draws = coming }) after

-- how an upstream with these arguments ends; if memory ran out before lines were taken, nothing was sent and the door is unchanged, and
-- nothing is said of the draw
abbrev pub UpstreamRuns : UpstreamArguments → UpstreamEnd → Scene → Scene → Type 0
UpstreamRuns words NoMemory before after = IsUntouched (facing_of before) (facing_of after)
UpstreamRuns words KeeperFault before after = RunsUpstream words KeeperFault before after
UpstreamRuns words (Row written) before after = RunsUpstream words (Row written) before after
UpstreamRuns words (Lines fault) before after = RunsUpstream words (Lines fault) before after
UpstreamRuns words (Links end) before after = RunsUpstream words (Links end) before after

-- ---- what determines the exit code if nothing fails and memory doesn't run out

-- the exit code if the lines of these bytes are taken and nothing fails: 0 if all lines are accepted, 3 if one is refused
abbrev pub lines_code : {D : Type 0} → Taking D → D → List ℕ → ℕ
lines_code taking desk bytes = code_of (ending_status (lines_outcome taking desk bytes).ending)

-- The exit code is 3 if a row of the keeper is missing or refused. Otherwise, if the input `left` is observable, it is the code for its
-- lines (`lines_code`).
abbrev pub IsDecidedFrom : KeptState → ℕ → Option (List ℕ) → Type 0
IsDecidedFrom start code left =
    ((place : ℕ) × RefusesUpstreamRow start place × (code ≡ 3))
    ⊎ ((reopened : ℕ) × (opened : KeptState) × ReopensUpstream start reopened opened
    × IfSome left (λ bytes. code ≡ lines_code keeping (kept_lines_of opened) bytes))

-- The exit code, for an upstream that starts with these arguments and is reopened on a new keeper: as `IsDecidedFrom` says. If the
-- maker's rows and the input are observable, it is the code for the input's lines when they are taken without a keeper.
pub record IsDecidedByLines (words : UpstreamArguments) (code : ℕ) (before : Scene) : Type 0 where
  pub start : UpstreamState
  pub coming : Coming
  pub begins : Begins words before.draws start coming
  pub made : KeeperState
  pub is_new_keeper : IsNewKeeper before.keep.held made
  pub reopened : IsDecidedFrom (kept_state start made) code before.input.left
  pub decided : IfSome before.keep.held (λ _. IfSome before.input.left (λ bytes. code ≡ lines_code obeying start bytes))
