use Rattle.std.proofs.Common.{◌∙◌, ap, option_map}
use Rattle.unl_http_api.proofs.Utf8Lemmas.{text_is}
use Rattle.unl_http_api.proofs.route.utf8_in.Goals as goal

pub returns : goal.returns
returns c = ap (option_map (λ s. s.now)) c.ok.ensures.value ∙ text_is c.from_utf8.result c.args.bytes.now _ c.from_utf8.ensures.cases
