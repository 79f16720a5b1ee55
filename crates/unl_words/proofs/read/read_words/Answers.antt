use Rattle.std.proofs.Common.{map, string_bytes}
use Rattle.unl_words.specs.Commands.{command_by}
use Rattle.unl_words.proofs.Named.{decided, exactly}
use Rattle.unl_words.proofs.read.read_words.Goals as goal

pub returns-in-Some-clause-exact : goal.returns-in-Some-clause-exact
returns-in-Some-clause-exact c =
    exactly (map string_bytes c.args.words.now) (command_by c.in-Some.name) c.read_command.result c.in-Some.ensures c.read_command.ensures.exact

pub returns-in-Some-clause-decided : goal.returns-in-Some-clause-decided
returns-in-Some-clause-decided c command =
    decided (map string_bytes c.args.words.now) (command_by c.in-Some.name) command c.read_command.result c.in-Some.ensures c.read_command.ensures.decided
