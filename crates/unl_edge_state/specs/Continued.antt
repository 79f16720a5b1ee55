-- How looks change the list of installs that a reader knows: the list after a look starts with the list before the look. The relation
-- `Continued` states this. Readers implement the trait `Desk`, which requires that the relation is reflexive and transitive. Both are
-- proved below.
use Rattle.std.proofs.Common.{◌≡◌, List, ◌++◌, length, take, drop, Option, true, is_some, refl, sym, ap, ◌∙◌, append_assoc}
use Rattle.std.proofs.Math.Seq.{take-append_seam, take-length}
use Rattle.std.proofs.lemmas.List.{take-append-drop}
use Rattle.unl_core.specs.declared.board.Install.{Install}
use Rattle.unl_edge_state.specs.Editions.{BoardAt, edited}
use Rattle.unl_publication.specs.declared.knowledge.Knowledge.{Knowledge}
use Rattle.unl_publication.specs.Meaning.{before_of}
use Rattle.unl_publication.specs.Rule.{StartsWith}

-- How looks may change a reader's state. `now` is the reader's knowledge. If a learned list has replaced the reader's own list since the
-- last look, `past` is what the reader knew at that look, otherwise `past` is `None`. `after` and `past_after` are the same two at a
-- later time. The opening board is unchanged. The later list of installs starts with the earlier one. The boards that the reader knew
-- before a learned list replaced its own are unchanged. If `past_after` isn't `None`, `past_after` equals `past`.
abbrev pub Continued :
    Option (Knowledge BoardAt Install) → Knowledge BoardAt Install → Option (Knowledge BoardAt Install) → Knowledge BoardAt Install → Type 0
Continued past now past_after after =
    (after.opening ≡ now.opening)
    × (take (length now.installs) after.installs ≡ now.installs)
    × (before_of edited past_after after ≡ before_of edited past now)
    × (is_some past_after ≡ true → past_after ≡ past)

-- ---- lists

-- If the first items of `whole` are `front`, then `whole` starts with `front`.
pub starts_with : (front whole : List Install) → take (length front) whole ≡ front → StartsWith whole front
starts_with front whole is = (
  drop (length front) whole,
  sym (take-append-drop (length front) whole)
      ∙ ap (λ (xs : List Install). xs ++ drop (length front) whole) is,
)

-- If `whole` starts with `front`, then the first items of `whole` are `front`.
takes_front : (front whole : List Install) → StartsWith whole front → take (length front) whole ≡ front
takes_front front whole h = ap (take (length front)) h.1 ∙ take-append_seam front h.0

-- If `whole` starts with `front`, and `longer` starts with `whole`, then `longer` starts with `front`.
pub still_starts : (front whole longer : List Install) → take (length front) whole ≡ front → StartsWith longer whole
    → take (length front) longer ≡ front
still_starts front whole longer is h =
    let d = starts_with front whole is in
    takes_front front longer (d.0 ++ h.0, h.1 ∙ (ap (λ (xs : List Install). xs ++ h.0) d.1 ∙ append_assoc front d.0 h.0))

-- ---- laws

-- `Continued` is reflexive.
pub continued_itself : (past : Option (Knowledge BoardAt Install)) (now : Knowledge BoardAt Install) → Continued past now past now
continued_itself past now = (refl, take-length now.installs, refl, λ there. refl)

-- `Continued` is transitive.
pub continued_on : (past past_next past_last : Option (Knowledge BoardAt Install)) (now next last : Knowledge BoardAt Install)
    → Continued past now past_next next → Continued past_next next past_last last → Continued past now past_last last
continued_on past past_next past_last now next last one two = (
  two.0 ∙ one.0,
  still_starts now.installs next.installs last.installs one.1 (starts_with next.installs last.installs two.1),
  two.2 ∙ one.2,
  λ there. let same = two.3 there in same ∙ one.3 (ap (λ (o : Option (Knowledge BoardAt Install)). is_some o) (sym same) ∙ there),
)
