-- How clap's errors and the faults of a context become refusals.
use Rattle.clap.specs.declared.error.kind.ErrorKind.{ErrorKind}
use Rattle.clap.specs.declared.error.kind.ErrorKind.TheVariants.{OutOfMemory}
use Rattle.unl_context.specs.declared.fault.BadContext.{BadContext}
use Rattle.unl_context.specs.declared.fault.BadContext.TheVariants as fault
use Rattle.unl_words.specs.declared.refusal.WordsRefusal.{WordsRefusal}
use Rattle.unl_words.specs.declared.refusal.WordsRefusal.TheVariants.{Bad, Memory}

-- Every error other than out of memory means that the arguments are bad.
abbrev pub refusal_of : ErrorKind → WordsRefusal
refusal_of OutOfMemory = Memory
refusal_of _ = Bad

-- Every fault of a context other than out of memory means that the arguments are bad.
abbrev pub refusal_by : BadContext → WordsRefusal
refusal_by fault.Memory = Memory
refusal_by _ = Bad
