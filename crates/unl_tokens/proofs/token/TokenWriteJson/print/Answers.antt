use Rattle.std.proofs.Common.{[], ◌∷◌, sym, ap}
use Rattle.json.specs.Token.{string}
use Rattle.unl_documents.proofs.Tokens.{one, then, spelled}
use Rattle.unl_tokens.proofs.EntryTokens.{entry_tokens}
use Rattle.unl_tokens.proofs.token.TokenWriteJson.print.Goals as goal

pub returns : goal.returns
returns c =
    let begun = one c.in_ok-begin_object.ensures in
    let kind = spelled (ap (λ word. string word ∷ []) (sym c.word.ensures)) (one c.in_ok-string.ensures) in
    let ended = one c.in_ok-end_object.ensures in
    spelled (entry_tokens c.args.self.now) (then begun (then c.in_ok-print_at.ensures (then c.in_ok-print_at-2.ensures (then c.in_ok-print_key.ensures (then kind ended)))))
