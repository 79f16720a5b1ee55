-- The state of a replica in contracts, and the result of an evaluation with its version. A replica is a local copy of one
-- environment; newer versions come from a server that is polled.
use Rattle.std.specs.Prelude.{ℕ, List, [], ◌∷◌, Option, Some, None, Result, Ok, Err}
use Rattle.unl_context.specs.Context.{Fields}
use Rattle.unl_delta.specs.declared.version.EnvVersion.{EnvVersion}
use Rattle.unl_delta.specs.declared.version.Place.{Place}
use Rattle.unl_delta.specs.Batch.{empty_place}
use Rattle.unl_delta.specs.Installing.{Installed}
use Rattle.unl_dependencies.specs.declared.evaluation.Evaluation.{Evaluation}
use Rattle.unl_dependencies.specs.Evaluation.{evaluation_of}
use Rattle.unl_strategies.specs.Moment.{Moment}
use Rattle.unl_tokens.specs.declared.token.Token.{Token}
use Rattle.unl_follow.specs.declared.fault.ReplicaRefusal.{ReplicaRefusal}
use Rattle.unl_follow.specs.declared.fault.ReplicaRefusal.TheVariants.{NotReady}

-- the state of a replica: the place (the newest version, if any, and whether the slot is held, that is, ignores changes until a whole
-- state applies), the number of versions and of books of tokens that were published in the replica so far, and its current book of
-- tokens
pub record Kept : Type 0 where
  pub place : Place
  pub front : ℕ
  pub book : List Token

-- a replica before its first request
abbrev pub new_replica : Kept
new_replica = record { place = empty_place; front = 0; book = [] }

-- the replica's state as that of an `Installer` (a place for each slot, a front and a book of tokens) with one slot, number 0; its
-- earlier publications are not observable
abbrev pub installed_by : Kept → Installed
installed_by kept = record { places = kept.place ∷ []; front = kept.front; book = kept.book; publications = None }

-- the name of the feature that `follow` evaluates after each poll, and the context of the evaluation
pub record Subject : Type 0 where
  pub feature : List ℕ
  pub context : Fields

-- the evaluation of the feature with this name in the state of the version (`None` if that state has no such feature), or the error
-- `NotReady` if there is no version
abbrev pub found_in : Option EnvVersion → List ℕ → Fields → Moment → Result (Option Evaluation) ReplicaRefusal
found_in None name context moment = Err NotReady
found_in (Some version) name context moment = Ok (evaluation_of version.state name context moment)
