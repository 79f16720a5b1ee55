-- Bytes that are taken from a source piece by piece.
use Rattle.std.proofs.Common.{◌≡◌, ℕ, List, [], ◌++◌, take, Option, Some, None, refl, sym, ap, subst, ◌∙◌, append_assoc}
use Rattle.std.specs.Option.{option_map}
use Rattle.unl_base.specs.Streams.{Takes, HasEnded}
use Rattle.unl_input.specs.Input.{IsWholeInput}

then_taken : (xs ys : List ℕ) (c : Option (List ℕ))
    → option_map (λ rest. xs ++ rest) (option_map (λ rest. ys ++ rest) c) ≡ option_map (λ rest. (xs ++ ys) ++ rest) c
then_taken xs ys None = refl
then_taken xs ys (Some z) = ap Some (sym (append_assoc xs ys z))

-- Two pieces that are taken one after another are one piece.
pub takes_more : (a b c : Option (List ℕ)) (xs ys : List ℕ) → Takes a xs b → Takes b ys c → Takes a (xs ++ ys) c
takes_more a b c xs ys one two = one ∙ ap (option_map (λ rest. xs ++ rest)) two ∙ then_taken xs ys c

-- Taking no bytes changes nothing.
pub takes_none : (a : Option (List ℕ)) → Takes a [] a
takes_none None = refl
takes_none (Some x) = refl

nothing_taken : (room : List ℕ) (c : Option (List ℕ)) → option_map (λ rest. take 0 room ++ rest) c ≡ c
nothing_taken room None = refl
nothing_taken room (Some z) = refl

-- If a read at the end of the source returns no bytes, the bytes taken before are the whole input.
pub takes_end : (a b c : Option (List ℕ)) (xs room : List ℕ) (n : ℕ) → n ≡ 0 → Takes a xs b → Takes b (take n room) c → HasEnded b → IsWholeInput a xs c
takes_end a b c xs room n none took last end =
    let same : b ≡ c = last ∙ ap (λ k. option_map (λ rest. take k room ++ rest) c) none ∙ nothing_taken room c in
    record { took = subst (λ o. Takes a xs o) same took; end = subst HasEnded same end }
