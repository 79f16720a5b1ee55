-- Each command meets the condition `is_simple_and_free`, under which clap's contract determines what it parses: its definition uses no
-- settings that change how arguments are read, and none of its options has a rule about another option.
use Rattle.std.proofs.Common.{◌≡◌, true, refl}
use Rattle.clap.specs.Words.{is_simple_and_free}
use Rattle.unl_words.specs.Commands.{command_by}
use Rattle.unl_words.specs.Words.{check_app, edge_app, explain_app, follow_app, load_app, replay_app, upstream_app}
use Rattle.unl_words.specs.declared.name.CommandName.{CommandName}
use Rattle.unl_words.specs.declared.name.CommandName.TheVariants as name

pub command_simple : (command : CommandName) → is_simple_and_free (command_by command).app ≡ true
unfolding command_by check_app edge_app explain_app follow_app load_app replay_app upstream_app
command_simple name.Replay = refl
command_simple name.Check = refl
command_simple name.Edge = refl
command_simple name.Upstream = refl
command_simple name.Follow = refl
command_simple name.Explain = refl
command_simple name.Load = refl
