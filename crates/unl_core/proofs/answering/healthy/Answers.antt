use Rattle.std.proofs.Common.{◌≡◌, codes, refl, ◌∙◌}
use Rattle.json.specs.Print.{escape_byte}
use Rattle.serde_json.specs.Written.{compact_text}
use Rattle.unl_core.specs.Answer.{one_text}
use Rattle.unl_core.proofs.answering.healthy.Goals as goal

health_text : codes "{\"status\":\"OK\"}" ≡ compact_text (one_text (codes "status") (codes "OK"))
unfolding escape_byte
health_text = refl

pub returns : goal.returns
returns c =
    let same : c.in_ok-text.text ≡ compact_text (one_text (codes "status") (codes "OK")) = c.in_ok-text.ensures ∙ health_text in
    c.with_text.ensures (one_text (codes "status") (codes "OK")) same
