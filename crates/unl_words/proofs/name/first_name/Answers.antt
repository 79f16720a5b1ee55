use Rattle.std.proofs.Common.{◌∙◌, string_bytes}
use Rattle.unl_words.proofs.Named.{first_command, no_command}
use Rattle.unl_words.proofs.name.first_name.Goals as goal

pub returns-in-Some : goal.returns-in-Some
returns-in-Some c =
    c.read_name.ensures
    ∙ first_command string_bytes c.args.arguments.now c.in-Some.first.now c.as_str.result.now c.in-Some.ensures.value c.as_str.ensures.value

pub returns-in-None : goal.returns-in-None
returns-in-None c = no_command string_bytes c.args.arguments.now c.in-None.ensures.value
