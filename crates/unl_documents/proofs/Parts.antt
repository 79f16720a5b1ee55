-- The parts of a text between occurrences of a byte, as `split_once` splits it, and the items among them.
use Rattle.std.proofs.Common.{◌≡◌, ℕ, suc, ◌+◌, ◌<◌, List, [], ◌∷◌, length, refl, ap, arith, Bor, cond}
use Rattle.std.specs.Prelude.{Option, Some, None, true, false, ◌==◌, IfSome, IfNone, MatchOption, not}
use Rattle.std.specs.List.{position_or_len, before_first, after_first, onto_first}
use Rattle.std.proofs.lemmas.List.Splits.{slice_split_first}
use Rattle.unl_documents.specs.Texts.{parts}

-- `result` is what `split_once` returns for `text` at the character `byte`.
abbrev pub CutsAtFirst : ℕ → List ℕ → Option (Bor (List ℕ) × Bor (List ℕ)) → Type 0
CutsAtFirst byte text result =
    MatchOption result (position_or_len (λ b. b == byte) text ≡ length text)
    (λ x. (x.0.now ≡ before_first (λ b. b == byte) text) × (x.1.now ≡ after_first (λ b. b == byte) text) × (position_or_len (λ b. b == byte) text < length text))

pub first_part : (byte : ℕ) (text : List ℕ) (result : Option (Bor (List ℕ) × Bor (List ℕ))) → CutsAtFirst byte text result → IfSome result (λ sides. parts byte text ≡ sides.0.now ∷ parts byte sides.1.now)
first_part byte text None cuts = tt
first_part byte text (Some sides) cuts = rw (cuts.0, cuts.1) (slice_split_first (λ b. b == byte) text 0 cuts.2)

unsplit : (byte : ℕ) (text : List ℕ) → position_or_len (λ b. b == byte) text ≡ length text → parts byte text ≡ text ∷ []
unsplit byte [] none = refl
unsplit byte (b ∷ bs) none =
    elim (b == byte) as (λ t. cond (not t) (1 + position_or_len (λ x. x == byte) bs) 0 ≡ suc (length bs) → cond t ([] ∷ parts byte bs) (onto_first b (parts byte bs)) ≡ (b ∷ bs) ∷ [])
    [ true ↦ λ e. absurd (omega arith) | false ↦ λ e. ap (onto_first b) (unsplit byte bs (omega arith)) ] none

pub only_part : (byte : ℕ) (text : List ℕ) (result : Option (Bor (List ℕ) × Bor (List ℕ))) → CutsAtFirst byte text result → IfNone result (parts byte text ≡ text ∷ [])
only_part byte text None cuts = unsplit byte text cuts
only_part byte text (Some sides) cuts = tt
