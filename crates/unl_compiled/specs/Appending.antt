-- The laws of the two toggle sinks (a list of JSON values, and a JSON writer): appending nothing, and appending twice.
use Rattle.std.specs.Prelude.{◌≡◌, List, [], ◌++◌}
use Rattle.std.proofs.Common.{refl, sym, ap, ◌∙◌, append_assoc}
use Rattle.std.proofs.lemmas.List.{append-nil}
use Rattle.std.proofs.lemmas.List.Concat.{flat_map-append}
use Rattle.json.specs.Written.{Written}
use Rattle.serde_json.specs.Data.{Data}
use Rattle.unl_documents.specs.Tokens.{Wrote, all_tokens, tokens_of}
use Rattle.unl_documents.proofs.Tokens.{spelled, then}

-- Appending no values leaves a list of values unchanged.
pub none_value : (ds : List Data) → ds ≡ ds ++ []
none_value ds = sym (append-nil ds)

-- Appending some values and then others appends all of them.
pub joins_values : (first second start middle end : List Data) → middle ≡ start ++ first → end ≡ middle ++ second
    → end ≡ start ++ (first ++ second)
joins_values first second start middle end before after =
    after ∙ ap (λ (ds : List Data). ds ++ second) before ∙ append_assoc start first second

-- Writing the tokens of no values leaves the written text unchanged.
pub no_tokens : (out : Written) → Wrote (all_tokens []) out out
no_tokens out = record { before = refl; tokens = sym (append-nil out.tokens) }

-- Writing the tokens of some values and then of others writes the tokens of all of them.
pub joins_tokens : (first second : List Data) (start middle end : Written) → Wrote (all_tokens first) start middle
    → Wrote (all_tokens second) middle end → Wrote (all_tokens (first ++ second)) start end
joins_tokens first second start middle end before after = spelled (flat_map-append tokens_of first second) (then before after)
