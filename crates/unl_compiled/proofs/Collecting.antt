-- The loops that append toggles to a sink: what one step of a loop does.
use Rattle.std.proofs.Common.{◌≡◌, ◌<◌, ◌+◌, ℕ, List, [], ◌∷◌, ◌++◌, length, take, get_or, Option, Some, None, refl, sym, ap, subst, ◌∙◌}
use Rattle.std.specs.Prelude.{filter_map, option_to_list}
use Rattle.std.specs.List.{cons_option}
use Rattle.std.proofs.lemmas.List.{append-nil, take_more}
use Rattle.std.proofs.lemmas.List.Concat.{flat_map-append}
use Rattle.std.proofs.lemmas.List.Elements.{filter_map-append}
use Rattle.serde_json.specs.Data.{Data}
use Rattle.unl_documents.specs.Chunks.{joined}

one_found : (o : Option Data) → cons_option o [] ≡ option_to_list o
one_found None = refl
one_found (Some d) = refl

one_chunk : {X : Type 0} (chunks : List (List X)) (i : ℕ) (chunk : List X) → i < length chunks → chunk ≡ get_or chunks i chunk → joined (take (i + 1) chunks) ≡ joined (take i chunks) ++ chunk
one_chunk {X} chunks i chunk lt is =
    ap joined (take_more chunks i chunk lt ∙ ap (λ (last : List X). take i chunks ++ last ∷ []) (sym is))
    ∙ flat_map-append (λ (xs : List X). xs) (take i chunks) (chunk ∷ []) ∙ ap (λ (xs : List X). joined (take i chunks) ++ xs) (append-nil chunk)

module _ {S X : Type 0} (Appends : List Data → S → S → Type 0)
    (joins : (first second : List Data) (start middle end : S) → Appends first start middle → Appends second middle end → Appends (first ++ second) start end)
    (toggle : X → Option Data) where
  -- One step of the loop over the items of a chunk, or over positions.
  pub collects_more : (xs : List X) (i : ℕ) (other x : X) (start middle end : S) → i < length xs → x ≡ get_or xs i other
      → Appends (filter_map toggle (take i xs)) start middle → Appends (option_to_list (toggle x)) middle end → Appends (filter_map toggle (take (i + 1) xs)) start end
  collects_more xs i other x start middle end lt is before this =
      let parts : filter_map toggle (take (i + 1) xs) ≡ filter_map toggle (take i xs) ++ option_to_list (toggle x) =
      ap (filter_map toggle) (take_more xs i other lt ∙ ap (λ (last : X). take i xs ++ last ∷ []) (sym is))
      ∙ filter_map-append toggle (take i xs) (x ∷ []) ∙ ap (λ (ds : List Data). filter_map toggle (take i xs) ++ ds) (one_found (toggle x)) in
      subst (λ (ds : List Data). Appends ds start end) (sym parts) (joins _ _ start middle end before this)

  -- One step of the loop over chunks.
  pub collects_chunk : (chunks : List (List X)) (i : ℕ) (chunk : List X) (start middle end : S) → i < length chunks → chunk ≡ get_or chunks i chunk
      → Appends (filter_map toggle (joined (take i chunks))) start middle → Appends (filter_map toggle chunk) middle end → Appends (filter_map toggle (joined (take (i + 1) chunks))) start end
  collects_chunk chunks i chunk start middle end lt is before this =
      let parts : filter_map toggle (joined (take (i + 1) chunks)) ≡ filter_map toggle (joined (take i chunks)) ++ filter_map toggle chunk =
      ap (filter_map toggle) (one_chunk chunks i chunk lt is) ∙ filter_map-append toggle (joined (take i chunks)) chunk in
      subst (λ (ds : List Data). Appends ds start end) (sym parts) (joins _ _ start middle end before this)
