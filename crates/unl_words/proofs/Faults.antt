-- Lemmas: when clap returns an error, the result is the refusal that the definitions give for the faults in the arguments.
use Rattle.std.proofs.Common.{◌≡◌, ◌≢◌, List, [], ◌∷◌, Ok, Err, refl, sym, subst, ap, inl, inr, true≢false}
use Rattle.std.specs.Prelude.{IsErr, IsErrAnd}
use Rattle.clap.specs.Words.{HasKind, Kinds, Row, kind_of}
use Rattle.clap.specs.declared.error.Error.{Error}
use Rattle.unl_documents.specs.Results.{Gives}
use Rattle.unl_words.specs.Refusals.{refusal_of}
use Rattle.unl_words.specs.Words.{WordsReading, faultless}
use Rattle.unl_words.specs.declared.refusal.WordsRefusal.{WordsRefusal}
use Rattle.unl_words.specs.declared.refusal.WordsRefusal.TheVariants.{Bad, Memory}

bad_else : (refusal : WordsRefusal) → refusal ≢ Memory → Bad ≡ refusal
bad_else Bad not = refl
bad_else Memory not = absurd (not refl)

-- If clap's error is of one of these kinds, and isn't out of memory, there is a fault in the arguments, which is refused in the same way.
pub faulted : (kinds : Kinds) (rows : List Row) (e : Error) → HasKind kinds e → refusal_of (kind_of e) ≢ Memory
    → faultless kinds rows ≡ Err (refusal_of (kind_of e))
faulted [] rows e (inl memory) not = absurd (not (ap refusal_of memory))
faulted [] rows e (inr none) not = absurd none
faulted (k ∷ ks) rows e has not = ap Err (bad_else (refusal_of (kind_of e)) not)

-- If the result is this refusal, and the reading is the same refusal unless it is `Memory`, then the result is equal to the reading, or it
-- is the error `Memory` (`Gives`).
pub forwarded_refusal : (result : WordsReading) (refusal : WordsRefusal) (reading : WordsReading) → IsErr result → IsErrAnd result (λ e. e ≡ refusal)
    → (refusal ≢ Memory → reading ≡ Err refusal) → Gives Memory result reading
forwarded_refusal (Ok command) refusal reading is same gives = absurd (true≢false (sym is))
forwarded_refusal (Err e) refusal reading is same gives = λ not. subst (λ r. reading ≡ Err r) (sym same) (gives (λ memory. not (subst (λ r. r ≡ Memory) (sym same) memory)))
