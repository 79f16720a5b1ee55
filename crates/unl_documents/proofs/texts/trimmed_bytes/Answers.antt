use Rattle.std.proofs.Common.{refl}
use Rattle.std.proofs.lemmas.Str.Ascii.{trim_ascii_is}
use Rattle.unl_documents.specs.Texts.{trimmed}
use Rattle.unl_documents.proofs.texts.trimmed_bytes.Goals as goal

pub returns : goal.returns
unfolding trimmed
returns c = trim_ascii_is c.args.bytes.now _ _ refl c.trim_ascii.ensures.value
