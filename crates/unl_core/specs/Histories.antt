-- Boards whose versions come from the histories of their environments. A line of histories has, for each epoch of an environment, the list
-- of the changes in that epoch. A revision of a line is the state after the changes of one epoch up to some number.
use Rattle.std.specs.Prelude.{◌≡◌, ℕ, List, Some, Ok, option_map, Option, IfSome}
use Rattle.std.specs.List.{AllByRecursion}
use Rattle.unl_delta.specs.declared.version.EnvVersion.{EnvVersion}
use Rattle.unl_delta.specs.History.{Era, IsLine, RepresentsLine, revision_in}
use Rattle.unl_delta.specs.Revision.{revision_of}
use Rattle.unl_delta.specs.View.{Sees, both, view_of}
use Rattle.unl_http_api.specs.declared.request.Request.{Request}
use Rattle.unl_tokens.specs.declared.kind.Kind.{Kind}
use Rattle.unl_tokens.specs.Names.{sees}
use Rattle.unl_core.specs.declared.board.Board.{Board}
use Rattle.unl_core.specs.declared.board.Slot.{Slot}
use Rattle.unl_core.specs.Answer.{seen}
use Rattle.unl_core.specs.Shown.{Ready, ready_by}

-- The line of histories of each environment, and the set of projects that are visible in the board's copy of the environment.
pub record Histories : Type 0 where
  pub line : List ℕ → List Era
  pub sees : List ℕ → Sees

-- The line of each environment is valid: its epochs increase strictly, and each epoch has only changes, whose numbers start at 1 or above
-- and never decrease.
abbrev pub AreLines : Histories → Type 0
AreLines histories = (environment : List ℕ) → IsLine (histories.line environment)

-- The version of an environment, if there is one, is a revision of its line, with only the visible projects.
abbrev pub RepresentedAt : Histories → List ℕ → Option EnvVersion → Type 0
RepresentedAt histories environment version = IfSome version (RepresentsLine (histories.line environment) (histories.sees environment))

-- `RepresentedAt` holds for the environment and the version of each slot.
abbrev pub AllRepresented : Histories → List Slot → Type 0
AllRepresented histories slots = AllByRecursion (λ slot. RepresentedAt histories slot.environment slot.snapshot) slots

-- The projects that are visible both in the board's copy of the token's environment and to the token.
abbrev pub both_see : Histories → Ready → Sees
both_see histories ready = both (histories.sees ready.token.environment) (sees ready.token.projects)

-- The state that the request's token sees is the revision of its environment's line at the version's epoch and number, with only the
-- projects of `both_see`.
abbrev pub ShowsRevision : Histories → Ready → Type 0
ShowsRevision histories ready =
    option_map (view_of (both_see histories ready)) (revision_in (histories.line ready.token.environment) (revision_of ready.version))
    ≡ Some (seen ready)

-- For each request and kind of token that `ready_by` accepts, the request's token sees one revision.
abbrev pub ShowsRevisions : Histories → Board → Type 0
ShowsRevisions histories board =
    (q : Request) (kind : Kind) (ready : Ready) → ready_by board q kind ≡ Ok ready → ShowsRevision histories ready
