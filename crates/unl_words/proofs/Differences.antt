-- Distinct texts, in one list and in two.
use Rattle.std.proofs.Common.{◌≡◌, ◌&&◌, ◌||◌, ◌++◌, Bool, true, false, not, List, [], ◌∷◌, refl}
use Rattle.std.proofs.lemmas.List.Folds.{list_any-append}
use Rattle.std.specs.Str.{bytes_eq}
use Rattle.clap.specs.Words.{Text}
use Rattle.unl_tokens.specs.Names.{is_one_of}
use Rattle.unl_words.specs.Lists.{are_apart, are_different}

right_true : (a : Bool) → a ≡ (a && true)
right_true true = refl
right_true false = refl

-- `here`: the text is in the rest of its list; `there`: it is in the other list; `rest` and `others`: the texts of each list
-- are distinct; `apart`: no text is in both.
regrouped : (here there rest others apart : Bool)
    → (not (here || there) && (rest && (others && apart))) ≡ ((not here && rest) && (others && (not there && apart)))
regrouped true there rest others apart = refl
regrouped false true true true apart = refl
regrouped false true true false apart = refl
regrouped false true false others apart = refl
regrouped false false rest others apart = refl

-- The texts of two lists together are distinct if the texts of each list are distinct and no text is in both lists.
pub different_together : (texts others : List Text) → are_different (texts ++ others) ≡ (are_different texts && (are_different others && are_apart texts others))
unfolding are_different
different_together [] others = right_true (are_different others)
different_together (text ∷ texts) others =
    rw (list_any-append (λ other. bytes_eq other text) texts others, different_together texts others)
    (regrouped (is_one_of text texts) (is_one_of text others) (are_different texts) (are_different others) (are_apart texts others))
