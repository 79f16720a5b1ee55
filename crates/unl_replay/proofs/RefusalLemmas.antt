-- Lemmas: the refusal of a line is the one that its fault is converted to. Nothing is claimed if memory ran out.
use Rattle.std.proofs.Common.{◌≡◌, ◌≢◌, Result, Err, ap, ◌∙◌, sym, refl}
use Rattle.unl_delta.specs.declared.fault.BadBatch.{BadBatch}
use Rattle.unl_delta.specs.declared.fault.BadBatch.TheVariants as batch
use Rattle.unl_documents.specs.declared.fault.BadDocument.{BadDocument}
use Rattle.unl_documents.specs.declared.fault.BadDocument.TheVariants as document
use Rattle.unl_tokens.specs.declared.fault.BadBook.{BadBook}
use Rattle.unl_tokens.specs.declared.fault.BadBook.TheVariants as book
use Rattle.unl_replay.specs.declared.refusal.Refusal.{Refusal}
use Rattle.unl_replay.specs.declared.refusal.Refusal.TheVariants.{Memory}
use Rattle.unl_input.specs.Taken.{Taken}
use Rattle.unl_input.specs.Taking.{TakesLine}
use Rattle.unl_input.specs.declared.line.LineRefusal.{LineRefusal}
use Rattle.unl_input.specs.declared.line.LineRefusal.TheVariants.{Cause}
use Rattle.unl_input.specs.declared.line.LineRefusal.TheVariants as line
use Rattle.unl_replay.specs.Refusals.{Causes, LineReading, refusal_text, refusing, refusal_for, refusal_for_batch, refusal_for_book}

-- a reading with the fault `e` is refused with the refusal that `becomes` converts `e` to; nothing is claimed if `e` is `memory`
forwarded : {A E : Type 0} (becomes : E → Refusal) (memory : E) → becomes memory ≡ Memory → (e : E) (refusal : Refusal) (reading : Result A E)
    → refusal ≡ becomes e → (e ≢ memory → reading ≡ Err e) → refusal ≢ Memory → refusing becomes reading ≡ Err refusal
forwarded becomes memory none e refusal reading made known other =
    ap (refusing becomes) (known (λ same. other (made ∙ ap becomes same ∙ none))) ∙ ap Err (sym made)

-- the same for a fault of a document
pub refused : {A : Type 0} (e : BadDocument) (refusal : Refusal) (reading : Result A BadDocument) → refusal ≡ refusal_for e → (e ≢ document.Memory → reading ≡ Err e)
    → refusal ≢ Memory → refusing refusal_for reading ≡ Err refusal
refused e refusal reading made known other = forwarded refusal_for document.Memory refl e refusal reading made known other

-- the same for a fault of a batch
pub refused_batch : {A : Type 0} (e : BadBatch) (refusal : Refusal) (reading : Result A BadBatch) → refusal ≡ refusal_for_batch e → (e ≢ batch.Memory → reading ≡ Err e)
    → refusal ≢ Memory → refusing refusal_for_batch reading ≡ Err refusal
refused_batch e refusal reading made known other = forwarded refusal_for_batch batch.Memory refl e refusal reading made known other

-- the same for a fault of a token book
pub refused_book : {A : Type 0} (e : BadBook) (refusal : Refusal) (reading : Result A BadBook) → refusal ≡ refusal_for_book e → (e ≢ book.Memory → reading ≡ Err e)
    → refusal ≢ Memory → refusing refusal_for_book reading ≡ Err refusal
refused_book e refusal reading made known other = forwarded refusal_for_book book.Memory refl e refusal reading made known other

-- the line is refused with the printed text of its refusal as the cause; nothing is claimed if memory ran out
pub refused_line : {A : Type 0} (r : LineRefusal) (refusal : Refusal) (stated : LineReading (Taken A)) (desk : A) → Causes r refusal
    → (refusal ≢ Memory → stated ≡ Err refusal) → TakesLine (Err r) desk (refusing refusal_text stated)
refused_line (Cause text) refusal stated desk causes known = ap (refusing refusal_text) (known causes.0) ∙ ap Err (sym causes.1)
refused_line line.Memory refusal stated desk causes known = tt
