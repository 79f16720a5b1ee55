-- Each step of the writer or of a reader keeps the invariant `IsKept`: the published value is the opening value after the list of installs,
-- the value before each install allows it, and what the writer and the readers know agrees with the opening value and the list.
use Rattle.std.proofs.Common.{◌≡◌, ℕ, zero, suc, ◌+◌, ◌≤◌, ◌≢◌, List, [], ◌∷◌, ◌++◌, length, fold, set, Option, Some, None, IfSome, refl, sym, ap, ◌∙◌, subst, ⊎_elim, le_refl, le_trans, add-zero, zero-le, append_assoc, append-nil, length-append, arith}
use Rattle.std.proofs.lemmas.List.Sums.{fold-append}
use mathlib.Core.Option.{some, some-injective, some-ne-none}
use lib.ListN.{get_elem?}
use Rattle.atomic_table.proofs.Lists.{at_set, at_snoc}
use Rattle.unl_publication.specs.declared.knowledge.Knowledge.{Knowledge}
use Rattle.unl_publication.specs.Rule.{Rise, StartsWith, knows_nothing, AreAllowed, Fits, IsKept, Opens, Publishes, Enters, shared_knowledge, with_installs}

-- ---- numbers that never fall

pub Rise-higher : (first : ℕ) (ns : List ℕ) (last higher : ℕ) → Rise first ns last → last ≤ higher → Rise first ns higher
Rise-higher first [] last higher h up = le_trans h up
Rise-higher first (n ∷ ns) last higher h up = (h.0, Rise-higher n ns last higher h.1 up)

pub Rise-push : (first : ℕ) (ns : List ℕ) (last n : ℕ) → Rise first ns last → last ≤ n → Rise first (ns ++ n ∷ []) n
Rise-push first [] last n h up = (le_trans h up, le_refl n)
Rise-push first (m ∷ ns) last n h up = (h.0, Rise-push m ns last n h.1 up)

-- ---- prefixes of a list

module _ {I : Type 0} where
  pub StartsWith-itself : (xs : List I) → StartsWith xs xs
  StartsWith-itself xs = ([], sym (append-nil xs))

  pub StartsWith-longer : (xs front more : List I) → StartsWith xs front → StartsWith (xs ++ more) front
  StartsWith-longer xs front more h = (h.0 ++ more, ap (λ l. l ++ more) h.1 ∙ append_assoc front h.0 more)

  pub StartsWith-length : (xs front : List I) → StartsWith xs front → length front ≤ length xs
  StartsWith-length xs front h = omega (arith, ap (λ (l : List I). length l) h.1, length-append front h.0)

  nothing_left : (front rest : List I) → length front ≡ length (front ++ rest) → front ++ rest ≡ front
  nothing_left front [] e = append-nil front
  nothing_left front (x ∷ rest) e = absurd (omega (arith, e, length-append front (x ∷ rest)))

  pub StartsWith-whole : (xs front : List I) → StartsWith xs front → length front ≡ length xs → xs ≡ front
  StartsWith-whole xs front h e = h.1 ∙ nothing_left front h.0 (e ∙ ap (λ (l : List I). length l) h.1)

-- ---- lists whose installs are allowed

module _ {S I : Type 0} (installed : S → I → S) (allows : S → I → Type 0) where
  AreAllowed-append : (value : S) (list more : List I) → AreAllowed installed allows value list → AreAllowed installed allows (fold installed value list) more
      → AreAllowed installed allows value (list ++ more)
  AreAllowed-append value [] more first later = later
  AreAllowed-append value (what ∷ list) more first later = (first.0, AreAllowed-append (installed value what) list more first.1 later)

  -- If a list is allowed from a value on, it is allowed from the known opening value on, which is the same value.
  knows_allowed : (opening : Option S) (kept : S) (list : List I) → ((o : S) → opening ≡ Some o → o ≡ kept) → AreAllowed installed allows kept list
      → IfSome opening (λ o. AreAllowed installed allows o list)
  knows_allowed None kept list opened allowed = tt
  knows_allowed (Some o) kept list opened allowed = subst (λ (s : S). AreAllowed installed allows s list) (sym (opened o refl)) allowed

  -- A list of one install is allowed if the install is.
  pub AreAllowed-one : (value : S) (what : I) (given : List I) → given ≡ what ∷ [] → allows value what → AreAllowed installed allows value given
  AreAllowed-one value what given is allowed = subst (AreAllowed installed allows value) (sym is) (allowed, tt)

module _ {S I : Type 0} where
  -- ---- the knowledge of one writer or reader

  Fits-longer : (opening : S) (list more : List I) (v : Knowledge S I) → Fits opening list v → Fits opening (list ++ more) v
  Fits-longer opening list more v h = record {
    opened = h.opened;
    seen = StartsWith-longer list v.installs more h.seen;
    fronts = h.fronts;
  }

  pub Fits-knows_nothing : (opening : S) (list : List I) → Fits opening list knows_nothing
  Fits-knows_nothing opening list = record {
    opened = λ o e. cc;
    seen = (list, refl);
    fronts = zero-le;
  }

  Fits-note : (opening : S) (list : List I) (v : Knowledge S I) → Fits opening list v → Fits opening list (shared_knowledge v)
  Fits-note opening list v h = record { opened = h.opened; seen = h.seen; fronts = zero-le }

  -- ---- the knowledge of all

  AllFit-set : (opening : S) (list : List I) (views : List (Knowledge S I)) (seat : ℕ) (w : Knowledge S I)
      → ((j : ℕ) (v : Knowledge S I) → get_elem? views j ≡ some v → Fits opening list v) → Fits opening list w
      → (j : ℕ) (v : Knowledge S I) → get_elem? (set views seat w) j ≡ some v → Fits opening list v
  AllFit-set opening list views seat w h f j v e = ⊎_elim (λ (t : (j ≡ seat) × (w ≡ v)). subst (Fits opening list) t.1 f)
      (λ (t : (j ≢ seat) × (get_elem? views j ≡ some v)). h j v t.1) (at_set views seat j w v e)

  AllFit-snoc : (opening : S) (list : List I) (views : List (Knowledge S I)) (w : Knowledge S I)
      → ((j : ℕ) (v : Knowledge S I) → get_elem? views j ≡ some v → Fits opening list v) → Fits opening list w
      → (j : ℕ) (v : Knowledge S I) → get_elem? (views ++ w ∷ []) j ≡ some v → Fits opening list v
  AllFit-snoc opening list views w h f j v e = ⊎_elim (h j v) (λ (same : w ≡ v). subst (Fits opening list) same f) (at_snoc views w v j e)

  other_there : (views : List (Knowledge S I)) (seat other : ℕ) (v w : Knowledge S I) → ¬ (other ≡ seat) → get_elem? (set views seat v) other ≡ some w → get_elem? views other ≡ some w
  other_there views seat other v w apart e = ⊎_elim (λ (t : (other ≡ seat) × (v ≡ w)). absurd (apart t.0)) (λ (t : (other ≢ seat) × (get_elem? views other ≡ some w)). t.1) (at_set views seat other v w e)

  fits_first : (opening : S) (seat : ℕ) (v : Knowledge S I) → get_elem? (knows_nothing ∷ []) seat ≡ some v → Fits opening [] v
  fits_first opening zero v e = subst (Fits opening []) (some-injective knows_nothing v e) (Fits-knows_nothing opening [])
  fits_first opening (suc seat) v e = absurd (some-ne-none v (sym e))

  -- ---- the steps

  module _ (installed : S → I → S) (front_of : S → ℕ) (allows : S → I → Type 0) where
    IsKept-views : (value : S) (views others : List (Knowledge S I)) (k : IsKept installed front_of allows value views)
        → ((j : ℕ) (v : Knowledge S I) → get_elem? others j ≡ some v → Fits k.opening k.list v) → IsKept installed front_of allows value others
    IsKept-views value views others k fits = record { opening = k.opening; list = k.list; begins = k.begins; allowed = k.allowed; value_is = k.value_is; front_is = k.front_is; fits = fits }

    pub starts : (opening : S) → front_of opening ≡ 0 → IsKept installed front_of allows opening (knows_nothing ∷ [])
    starts opening zero_is = record { opening = opening; list = []; begins = zero_is; allowed = tt; value_is = refl; front_is = zero_is; fits = fits_first opening }

    pub admits : (value : S) (views : List (Knowledge S I)) → IsKept installed front_of allows value views → IsKept installed front_of allows value (views ++ knows_nothing ∷ [])
    admits value views k = IsKept-views value views (views ++ knows_nothing ∷ []) k (AllFit-snoc k.opening k.list views knows_nothing k.fits (Fits-knows_nothing k.opening k.list))

    pub forks : (seat : ℕ) (v : Knowledge S I) (value : S) (views : List (Knowledge S I)) → IsKept installed front_of allows value views → get_elem? views seat ≡ some v
        → IsKept installed front_of allows value (set views seat v ++ shared_knowledge v ∷ [])
    forks seat v value views k at = let f = k.fits seat v at in
        IsKept-views value views (set views seat v ++ shared_knowledge v ∷ []) k
        (AllFit-snoc k.opening k.list (set views seat v) (shared_knowledge v) (AllFit-set k.opening k.list views seat v k.fits f) (Fits-note k.opening k.list v f))

    pub greets : (seat : ℕ) (v : Knowledge S I) (other : ℕ) (w : Knowledge S I) (value : S) (views : List (Knowledge S I)) → IsKept installed front_of allows value views
        → get_elem? views seat ≡ some v → ¬ (other ≡ seat) → get_elem? (set views seat (shared_knowledge w)) other ≡ some w
        → IsKept installed front_of allows value (set (set views seat (shared_knowledge w)) other knows_nothing)
    greets seat v other w value views k at apart there =
        let f = Fits-note k.opening k.list w (k.fits other w (other_there views seat other (shared_knowledge w) w apart there)) in
        IsKept-views value views (set (set views seat (shared_knowledge w)) other knows_nothing) k
        (AllFit-set k.opening k.list (set views seat (shared_knowledge w)) other knows_nothing (AllFit-set k.opening k.list views seat (shared_knowledge w) k.fits f) (Fits-knows_nothing k.opening k.list))

    pub enters : (before : List (Option S)) (fronts : List ℕ) (seat : ℕ) (v : Knowledge S I) (value : S) → Rise 0 fronts (length v.installs)
        → (views : List (Knowledge S I)) → IsKept installed front_of allows value views → get_elem? views seat ≡ some v
        → (w : Knowledge S I) × IsKept installed front_of allows value (set views seat w) × Enters installed front_of allows before fronts value v w
    enters before fronts seat v value rises views k at =
        let f = k.fits seat v at in
        let n : ℕ = length k.list in
        let w : Knowledge S I = record { table = v.table; opening = v.opening; installs = k.list; before = before; fronts = fronts ++ n ∷ [] } in
        let fits : Fits k.opening k.list w = record {
          opened = f.opened;
          seen = StartsWith-itself k.list;
          fronts = Rise-push 0 fronts (length v.installs) n rises (StartsWith-length k.list v.installs f.seen);
        } in (
          w,
          IsKept-views value views (set views seat w) k (AllFit-set k.opening k.list views seat w k.fits fits),
          record {
            same = refl;
            seen = f.seen;
            allowed = knows_allowed installed allows v.opening k.opening k.list f.opened k.allowed;
            value_is = λ o e. k.value_is ∙ ap (λ s. fold installed s k.list) (sym (f.opened o e));
            front_is = k.front_is;
          },
        )

    counted : ((s : S) (what : I) → front_of (installed s what) ≡ front_of s + 1) → (s : S) (given : List I) → front_of (fold installed s given) ≡ front_of s + length given
    counted counts s [] = sym (add-zero (front_of s))
    counted counts s (what ∷ given) = omega (arith, counted counts (installed s what) given, counts s what)

    pub publishes : ((s : S) (what : I) → front_of (installed s what) ≡ front_of s + 1)
        → (seat : ℕ) (v : Knowledge S I) (given : List I) (value next : S) → front_of value ≡ length v.installs → AreAllowed installed allows value given
        → next ≡ fold installed value given → (views : List (Knowledge S I)) → IsKept installed front_of allows value views → get_elem? views seat ≡ some v
        → (w : Knowledge S I) × IsKept installed front_of allows next (set views seat w) × Publishes installed allows given v w
    publishes counts seat v given value next whole allowed next_is views k at =
        let f = k.fits seat v at in
        let all : k.list ≡ v.installs = StartsWith-whole k.list v.installs f.seen (sym whole ∙ k.front_is) in
        let w : Knowledge S I = with_installs given v in
        let longer : AreAllowed installed allows k.opening (k.list ++ given) = AreAllowed-append installed allows k.opening k.list given k.allowed
        (subst (λ (s : S). AreAllowed installed allows s given) k.value_is allowed) in
        let fits : Fits k.opening (k.list ++ given) w = record {
          opened = f.opened;
          seen = ([], ap (λ l. l ++ given) all ∙ sym (append-nil (v.installs ++ given)));
          fronts = Rise-higher 0 v.fronts (length v.installs) (length (v.installs ++ given)) f.fronts (omega (arith, length-append v.installs given));
        } in (
          w,
          record {
            opening = k.opening;
            list = k.list ++ given;
            begins = k.begins;
            allowed = longer;
            value_is = next_is ∙ ap (λ s. fold installed s given) k.value_is ∙ sym (fold-append installed k.opening k.list given);
            front_is = ap front_of next_is ∙ counted counts value given ∙ ap (λ (n : ℕ). n + length given) k.front_is ∙ sym (length-append k.list given);
            fits = AllFit-set k.opening (k.list ++ given) views seat w (λ j u e. Fits-longer k.opening k.list given u (k.fits j u e)) fits;
          },
          record {
            same = refl;
            allowed = knows_allowed installed allows v.opening k.opening (v.installs ++ given) f.opened
                (subst (λ (l : List I). AreAllowed installed allows k.opening (l ++ given)) all longer);
          },
        )

    nothing_installed : (opening value : S) (list : List I) → value ≡ fold installed opening list → 0 ≡ length list → value ≡ opening
    nothing_installed opening value [] is none = is
    nothing_installed opening value (x ∷ list) is none = absurd (omega arith)

    pub opens : (table : ℕ) (seat : ℕ) (v : Knowledge S I) (value next : S) → front_of value ≡ 0 → next ≡ value
        → (views : List (Knowledge S I)) → IsKept installed front_of allows value views → get_elem? views seat ≡ some v
        → (w : Knowledge S I) × IsKept installed front_of allows next (set views seat w) × Opens table value v w
    opens table seat v value next none next_is views k at =
        let f = k.fits seat v at in
        let first : value ≡ k.opening = nothing_installed k.opening value k.list k.value_is (sym none ∙ k.front_is) in
        let w : Knowledge S I = record { table = Some table; opening = Some value; installs = v.installs; before = v.before; fronts = v.fronts } in
        let fits : Fits k.opening k.list w = record {
          opened = λ o e. let is : value ≡ o = cc in sym is ∙ first;
          seen = f.seen;
          fronts = f.fronts;
        } in (
          w,
          record {
            opening = k.opening;
            list = k.list;
            begins = k.begins;
            allowed = k.allowed;
            value_is = next_is ∙ k.value_is;
            front_is = ap front_of next_is ∙ k.front_is;
            fits = AllFit-set k.opening k.list views seat w k.fits fits;
          },
          refl,
        )
