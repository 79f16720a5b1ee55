-- Properties that hold for an upstream after any commands, from its initial state on.
use Rattle.std.specs.Prelude.{◌≡◌, ℕ, List, [], ◌∷◌, is_some}
use Rattle.std.specs.List.{list_any}
use Rattle.unl_core.specs.Board.{same_text, snapshot_in}
use Rattle.unl_delta.specs.declared.version.EnvVersion.{EnvVersion}
use Rattle.unl_delta.specs.History.{Era, IsLine, RepresentsLine, everything}
use Rattle.unl_tokens.specs.declared.token.Token.{Token}
use Rattle.unl_upstream.specs.declared.command.Command.{Command}
use Rattle.unl_upstream.specs.Upstream.{opening}
use Rattle.unl_upstream.specs.History.{AreHistories, IsHistoryOf, accepted, after_commands, history_of}

-- the line (a list of histories, one per epoch) of an upstream with this epoch: only the history of these commands
abbrev pub line_of : ℕ → List Command → List Era
line_of epoch commands = record { epoch = epoch; history = history_of commands } ∷ []

-- each environment's version represents the history of its accepted commands, in the epoch that the upstream began with
abbrev pub VersionsMatchHistory : Type 0
VersionsMatchHistory =
    (boot : ℕ) (secret : List ℕ) (environments : List (List ℕ)) (book : List Token) (epoch : ℕ) (commands : List Command)
    → AreHistories epoch (accepted commands (opening boot secret environments book epoch))
    (after_commands commands (opening boot secret environments book epoch))

-- a version that represents the history of some commands also represents their line, for a client that sees all projects
abbrev pub VersionsBelongToLines : Type 0
VersionsBelongToLines = (epoch : ℕ) (commands : List Command) (v : EnvVersion) → IsHistoryOf epoch commands v
    → IsLine (line_of epoch commands) × RepresentsLine (line_of epoch commands) everything v

-- after any commands, an environment has a version exactly if the upstream was created with this environment
abbrev pub EnvironmentsStay : Type 0
EnvironmentsStay =
    (boot : ℕ) (secret : List ℕ) (environments : List (List ℕ)) (book : List Token) (epoch : ℕ) (commands : List Command)
    (environment : List ℕ)
    → is_some (snapshot_in environment (after_commands commands (opening boot secret environments book epoch)).board.slots)
    ≡ list_any (λ name. same_text name environment) environments
