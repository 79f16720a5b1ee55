-- The text of the line that `follow` prints after each turn. In a turn, `follow` polls the server once and then evaluates one
-- feature.
use Rattle.std.specs.Prelude.{ℕ, ◌==◌, List, ◌++◌, codes, decimal, if◌then◌else◌, Option, Some, None, Result, Ok, Err}
use Rattle.unl_delta.specs.declared.version.EnvVersion.{EnvVersion}
use Rattle.unl_dependencies.specs.declared.evaluation.Evaluation.{Evaluation}
use Rattle.unl_refresh.specs.declared.outcome.Outcome.{Outcome}
use Rattle.unl_refresh.specs.declared.outcome.Outcome.TheVariants.{Published, Unchanged, Repeat, Old, Gap, Held, Refused, BadAnswer}
use Rattle.unl_follow.specs.declared.fault.ReplicaRefusal.{ReplicaRefusal}

-- the word for the outcome of a turn; `None` means that connecting to the server, writing to it or reading from it failed
abbrev pub word_of : Option Outcome → List ℕ
word_of None = codes "fault"
word_of (Some (Published front)) = codes "published"
word_of (Some Unchanged) = codes "unchanged"
word_of (Some Repeat) = codes "repeat"
word_of (Some Old) = codes "old"
word_of (Some Gap) = codes "gap"
word_of (Some Held) = codes "held"
word_of (Some (Refused status)) = codes "refused " ++ decimal status
word_of (Some (BadAnswer bad)) = codes "bad"

-- the text of a version number: `EPOCH.NUMBER`, or only `NUMBER` if the epoch is 0
abbrev pub revision_text : ℕ → ℕ → List ℕ
revision_text epoch number = if epoch == 0 then decimal number else decimal epoch ++ (codes "." ++ decimal number)

-- the number of a version, or a dash if there is none
abbrev pub number_text : Option EnvVersion → List ℕ
number_text None = codes "-"
number_text (Some version) = revision_text version.epoch version.number

-- whether the feature is on; a dash if there is no such feature (`Ok None`), or if the evaluation was refused because there is no
-- version (`Err`)
abbrev pub on_text : Result (Option Evaluation) ReplicaRefusal → List ℕ
on_text (Ok (Some evaluation)) = if evaluation.on then codes "true" else codes "false"
on_text (Ok None) = codes "-"
on_text (Err refusal) = codes "-"

-- the line of turn `k`: the word for its outcome, the number of the version after the turn, and whether the feature is on
unfoldable pub line_of : ℕ → List ℕ → List ℕ → List ℕ → List ℕ
line_of k word number on =
    codes "turn " ++ (decimal k ++ (codes " " ++ (word ++ (codes " number " ++ (number ++ (codes " on " ++ (on ++ codes "\n")))))))
