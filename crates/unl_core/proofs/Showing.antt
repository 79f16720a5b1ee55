-- If the versions of a board are revisions of lines of histories, a token sees one revision and is sent events of its environment's line.
use Rattle.std.proofs.Common.{◌≡◌, ℕ, Bool, true, false, cond, List, [], ◌∷◌, Option, Some, None, Result, Ok, Err, refl, subst}
use Rattle.std.specs.Prelude.{IfSome, option_and_then, find}
use Rattle.unl_delta.specs.declared.batch.Batch.{Batch}
use Rattle.unl_delta.specs.declared.batch.DeltaAnswer.TheVariants.{Batch as Sent}
use Rattle.unl_delta.specs.declared.version.EnvVersion.{EnvVersion}
use Rattle.unl_delta.specs.Batch.{delta_answer}
use Rattle.unl_delta.specs.History.{IsSent, RepresentsLine}
use Rattle.unl_delta.proofs.Asked.{answer_sent, seen_in}
use Rattle.unl_http_api.specs.declared.request.Request.{Request}
use Rattle.unl_tokens.specs.declared.kind.Kind.{Kind}
use Rattle.unl_tokens.specs.Names.{sees}
use Rattle.unl_core.specs.declared.board.Board.{Board}
use Rattle.unl_core.specs.declared.board.Slot.{Slot}
use Rattle.unl_core.specs.declared.shown.TokenRefusal.{TokenRefusal}
use Rattle.unl_core.specs.Board.{is_named, snapshot_in}
use Rattle.unl_core.specs.Histories.{AllRepresented, Histories, ShowsRevision, both_see}
use Rattle.unl_core.specs.Shown.{Ready, Shown, ready_by, ready_for, shown_by, with_its_version}
use Rattle.unl_core.proofs.Same.{text_same}

-- The version found for an environment is a revision of its line.
pub version_represents : (histories : Histories) (environment : List ℕ) (slots : List Slot) (v : EnvVersion) → AllRepresented histories slots → snapshot_in environment slots ≡ Some v
    → RepresentsLine (histories.line environment) (histories.sees environment) v
version_represents histories environment [] v all is = absurd cc
version_represents histories environment (slot ∷ slots) v all is = decided (is_named environment slot) refl is (version_represents histories environment slots v all.1)
  where
    decided : (t : Bool) → is_named environment slot ≡ t → option_and_then (λ (s : Slot). s.snapshot) (cond t (Some slot) (find (is_named environment) slots)) ≡ Some v
        → (snapshot_in environment slots ≡ Some v → RepresentsLine (histories.line environment) (histories.sees environment) v) → RepresentsLine (histories.line environment) (histories.sees environment) v
    decided true named so more =
        let same : slot.environment ≡ environment = text_same slot.environment environment named in
        subst (λ (e : List ℕ). RepresentsLine (histories.line e) (histories.sees e) v) same
        (subst (λ (o : Option EnvVersion). IfSome o (RepresentsLine (histories.line slot.environment) (histories.sees slot.environment))) so all.0)
    decided false named so more = more so

-- The version that a token sees is that of its environment.
ready_version : (board : Board) (shown : Result Shown TokenRefusal) (ready : Ready) → ready_for board shown ≡ Ok ready
    → snapshot_in ready.token.environment board.slots ≡ Some ready.version
ready_version board (Err unseen) ready is = absurd cc
ready_version board (Ok shown) ready is = decided (snapshot_in shown.token.environment board.slots) refl is
  where
    decided : (o : Option EnvVersion) → snapshot_in shown.token.environment board.slots ≡ o → with_its_version shown o ≡ Ok ready
        → snapshot_in ready.token.environment board.slots ≡ Some ready.version
    decided None here so = absurd cc
    decided (Some version) here so =
        let same : record { place = shown.place; token = shown.token; version = version } ≡ ready = cc in
        subst (λ (r : Ready). snapshot_in r.token.environment board.slots ≡ Some r.version) same here

ready_is : (histories : Histories) (board : Board) (q : Request) (kind : Kind) (ready : Ready) → AllRepresented histories board.slots → ready_by board q kind ≡ Ok ready
    → RepresentsLine (histories.line ready.token.environment) (histories.sees ready.token.environment) ready.version
ready_is histories board q kind ready all is =
    version_represents histories ready.token.environment board.slots ready.version all (ready_version board (shown_by board q kind) ready is)

-- The state that a token sees is one revision of its environment's line.
pub shows_revision : (histories : Histories) (board : Board) (q : Request) (kind : Kind) (ready : Ready) → AllRepresented histories board.slots → ready_by board q kind ≡ Ok ready
    → ShowsRevision histories ready
shows_revision histories board q kind ready all is =
    seen_in (histories.line ready.token.environment) (histories.sees ready.token.environment) (sees ready.token.projects) ready.version (ready_is histories board q kind ready all is)

-- The batch that a token is sent can be sent from its environment's line.
pub batch_of_line : (histories : Histories) (board : Board) (q : Request) (kind : Kind) (ready : Ready) (since : Option ℕ) (batch : Batch) → AllRepresented histories board.slots
    → ready_by board q kind ≡ Ok ready → delta_answer ready.version since (sees ready.token.projects) ≡ Sent batch
    → IsSent (histories.line ready.token.environment) (both_see histories ready) batch
batch_of_line histories board q kind ready since batch all is answer =
    answer_sent (histories.line ready.token.environment) (histories.sees ready.token.environment) ready.version since (sees ready.token.projects) batch
    (ready_is histories board q kind ready all is) answer
