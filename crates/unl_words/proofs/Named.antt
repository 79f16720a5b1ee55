-- The command that the first argument names.
use Rattle.std.proofs.Common.{◌≡◌, List, [], ◌∷◌, map, Option, Some, None, refl, ap, subst}
use Rattle.std.specs.Prelude.{ok_or}
use Rattle.std.specs.List.{slice_get}
use Rattle.clap.specs.Words.{Text}
use Rattle.unl_documents.specs.Results.{◌>>=◌, Gives}
use Rattle.unl_words.specs.Words.{DecidedByRanges, CommandDefinition, WordsReading, asked_of, command_named, command_of, words_of}
use Rattle.unl_words.specs.declared.refusal.WordsRefusal.TheVariants.{Bad, Memory}

-- The command of the arguments is the one that the first argument names.
pub first_command : {X : Type 0} (text : X → Text) (arguments : List X) (first : X) (name : Text) → Some first ≡ slice_get arguments 0
    → name ≡ text first → command_named name ≡ command_of (map text arguments)
unfolding command_of
first_command text [] first name is named = absurd cc
first_command text (argument ∷ arguments) first name is named =
    let same : name ≡ text argument = cc in
    ap command_named same

-- An empty list of arguments names no command.
pub no_command : {X : Type 0} (text : X → Text) (arguments : List X) → None ≡ slice_get arguments 0 → None ≡ command_of (map text arguments)
unfolding command_of
no_command text [] none = refl
no_command text (argument ∷ arguments) none = absurd cc

-- Reading the command that the first argument names gives the same result as reading all arguments.
pub exactly : (arguments : List Text) (command : CommandDefinition) (result : WordsReading) → Some command ≡ command_of arguments
    → Gives Memory result (asked_of command arguments) → Gives Memory result (words_of arguments)
unfolding words_of
exactly arguments command result named gives =
    subst (λ (found : Option CommandDefinition). Gives Memory result (ok_or found Bad >>= (λ (c : CommandDefinition). asked_of c arguments))) named gives

-- The arguments name at most one command, so a property of the command that was found holds for every command that they name.
pub decided : (arguments : List Text) (known command : CommandDefinition) (result : WordsReading) → Some known ≡ command_of arguments
    → DecidedByRanges known arguments result → command_of arguments ≡ Some command → DecidedByRanges command arguments result
decided arguments known command result named answers is =
    let same : known ≡ command = cc in
    subst (λ (c : CommandDefinition). DecidedByRanges c arguments result) same answers
