use Rattle.std.proofs.Common.{◌≡◌, string_bytes, sym, ap, ◌∙◌}
use Rattle.std.proofs.lemmas.Str.{IsUtf8-string_bytes}
use Rattle.serde_json.specs.View.{view}
use Rattle.unl_upstream.specs.Command.{command_in}
use Rattle.unl_upstream.specs.Writing.{command_text}
use Rattle.unl_upstream.proofs.Written.{text_back, text_is}
use Rattle.unl_upstream.proofs.writing.command_text.Goals as goal

pub returns-clause-text : goal.returns-clause-text
returns-clause-text c =
    c.from.ensures ∙ text_is c.args.command.now (view c.in_ok-value.value) (string_bytes c.in_ok-text.text) c.in_ok-value.ensures.written c.in_ok-text.ensures.text

pub returns-clause-reads_back : goal.returns-clause-reads_back
returns-clause-reads_back c valid names =
    let text : string_bytes c.in_ok-text.text ≡ command_text c.args.command.now =
    text_is c.args.command.now (view c.in_ok-value.value) (string_bytes c.in_ok-text.text) c.in_ok-value.ensures.written c.in_ok-text.ensures.text in
    ap command_in (sym text)
    ∙ text_back c.args.command.now (view c.in_ok-value.value) (string_bytes c.in_ok-text.text) c.in_ok-value.ensures.written
    c.in_ok-text.ensures.reads_back (IsUtf8-string_bytes c.in_ok-text.text) (c.in_ok-value.ensures.reads_back valid names)
