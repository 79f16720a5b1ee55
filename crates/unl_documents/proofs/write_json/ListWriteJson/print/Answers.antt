use Rattle.std.proofs.Common.{sym, ap, ◌∙◌}
use Rattle.std.specs.Prelude.{map}
use Rattle.unl_documents.specs.Tokens.{tokens_of}
use Rattle.unl_documents.specs.Writing.{list_data}
use Rattle.unl_documents.proofs.Tokens.{one, then, spelled, list_tokens}
use Rattle.unl_documents.proofs.write_json.ListWriteJson.print.Goals as goal

pub returns : goal.returns
returns g c =
    let begun = one c.in_ok-begin_array.ensures in
    let ended = one c.in_ok-end_array.ensures in
    let same = ap (λ xs. tokens_of (list_data g.P.WriteJson.written xs)) (sym c.as_slice.ensures) in
    spelled (same ∙ list_tokens (map g.P.WriteJson.written c.as_slice.result.now)) (then begun (then c.in_ok-print_each.ensures ended))
