use Rattle.std.proofs.Common.{List, ℕ, Bor, arith}
use Rattle.clap.specs.Words.{app_of}
use Rattle.unl_words.specs.Words.{option_named}
use Rattle.unl_words.proofs.Options.{all_given, one_more}
use Rattle.unl_words.proofs.command.with_options.Goals as goal

pub loop-name-preserved : goal.loop-name-preserved
loop-name-preserved c =
    one_more (λ (name : Bor (List ℕ)). record (option_named name.now) { required = c.args.required }) (app_of c.args.command)
    (app_of c.loop-name.command) (app_of c.in_ok-command.command) c.args.names.now c.loop-name.name-index _ c.loop-name-test.true
    c.loop-name.invariant c.in_ok-command.ensures

pub returns : goal.returns
returns c =
    all_given (λ (name : Bor (List ℕ)). record (option_named name.now) { required = c.args.required }) (app_of c.args.command)
    (app_of c.loop-name.command) c.args.names.now c.loop-name.name-index (omega arith) c.loop-name.invariant
