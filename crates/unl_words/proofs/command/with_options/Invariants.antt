use Rattle.std.proofs.Common.{◌≡◌, map, take}
use Rattle.std.specs.List.{fold}
use Rattle.clap.specs.Words.{app_of, with_rule}
use Rattle.unl_words.specs.Words.{option_named}
use Rattle.unl_words.proofs.command.with_options.Given as goal

-- The options for the names so far have been added.
abbrev pub invariant-loop-name : goal.invariant-loop-name
invariant-loop-name l =
    app_of l.command
    ≡ fold with_rule (app_of l.fn.command) (map (λ name. record (option_named name.now) { required = l.required }) (take l.name-index l.names))
