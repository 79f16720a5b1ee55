-- Lemmas about the list of links of a door in memory, as links are handed out and taken back.
use Rattle.std.proofs.Common.{◌≡◌, ◌≤◌, ◌<◌, ◌+◌, ◌-◌, ℕ, List, [], ◌∷◌, take, drop, map, length, slice_set, slice_index_or, Option, Some, None, true, All, IfSome, arith, ap, is_some, refl, subst}
use Rattle.std.proofs.lemmas.List.{drop-set-lt, take-set-le, take_more_set, drop_more}
use Rattle.std.proofs.lemmas.List.Elements.{All-tail, All-push, All-head}
use Rattle.unl_base.specs.Memory.{IsNewLink, IsNextLink, IsStocked, IsThere, Stock, MemoryLinkState, sent_and_faults, to_come}

-- The observable part of a door's links.
abbrev seen : List (Option MemoryLinkState) → ℕ → ℕ → Stock
seen links given back = record { links = map to_come (drop given links); out = given - back; returned = map sent_and_faults (take back links) }

-- `IsStocked` still holds after the next link is handed out.
pub gone : (links : List (Option MemoryLinkState)) (given back : ℕ) (left : Option MemoryLinkState) → given < length links → IsStocked links given back
    → IsStocked (slice_set links given left) (given + 1) back
gone links given back left more stocked = record {
  within = omega (arith, stocked.within);
  new = rw (drop-set-lt (given + 1) links given left (omega arith))
      (All-tail IsNewLink (slice_index_or links given None) (drop (given + 1) links) (subst (All IsNewLink) (drop_more links given None more) stocked.new));
  there = rw (take-set-le back links given left stocked.within) stocked.there;
}

-- `IsStocked` still holds after a link is taken back.
pub came : (links : List (Option MemoryLinkState)) (given back : ℕ) (wire : MemoryLinkState) → back < given → given ≤ length links → IsStocked links given back
    → IsStocked (slice_set links back (Some wire)) given (back + 1)
came links given back wire out held stocked = record {
  within = omega (arith, out);
  new = rw (drop-set-lt given links back (Some wire) out) stocked.new;
  there = rw (take_more_set links back (Some wire) (omega (arith, out, held)))
      (All-push IsThere (take back links) (Some wire) stocked.there refl);
}

-- A new link is present.
pub new_there : (link : Option MemoryLinkState) → IsNewLink link → is_some link ≡ true
new_there None new = absurd new
new_there (Some wire) new = refl

-- A new link is the next link of the list that begins with its bytes.
pub new_is : (link : Option MemoryLinkState) (more : List (List ℕ)) → IsNewLink link → IfSome link (λ wire. IsNextLink (to_come link ∷ more) wire)
new_is None more new = absurd new
new_is (Some wire) more new = record { gives = refl; silent = new.0; faultless = new.1 }

-- The next link to come is new.
pub next_new : (links : List (Option MemoryLinkState)) (given back : ℕ) (default : Option MemoryLinkState) → given < length links → IsStocked links given back
    → IsNewLink (slice_index_or links given default)
next_new links given back default more stocked =
    All-head IsNewLink (slice_index_or links given default) (drop (given + 1) links) (subst (All IsNewLink) (drop_more links given default more) stocked.new)

-- The next link to come gives the first of the texts to come, has sent nothing and has a fault count of 0.
pub next_is : (links : List (Option MemoryLinkState)) (given back : ℕ) (default : Option MemoryLinkState) → given < length links → IsStocked links given back
    → IfSome (slice_index_or links given default) (λ wire. IsNextLink (map to_come (drop given links)) wire)
next_is links given back default more stocked =
    rw (drop_more links given default more)
    (new_is (slice_index_or links given default) (map to_come (drop (given + 1) links)) (next_new links given back default more stocked))

-- The observable part after the next link was handed out.
pub gone_view : (links : List (Option MemoryLinkState)) (given back : ℕ) (left : Option MemoryLinkState) → given < length links → IsStocked links given back
    → seen (slice_set links given left) (given + 1) back
    ≡ record (seen links given back) { links = drop 1 (map to_come (drop given links)); out = given - back + 1 }
gone_view links given back left more stocked =
    let out : given + 1 - back ≡ given - back + 1 = omega (arith, stocked.within) in
    rw (drop-set-lt (given + 1) links given left (omega arith), take-set-le back links given left stocked.within, out, drop_more links given None more) refl

-- If `given` is an index of the list, the list of links to come isn't empty.
pub some_to_come : (links : List (Option MemoryLinkState)) (given : ℕ) → given < length links → map to_come (drop given links) ≡ [] → ⊥
some_to_come links given more none =
    let empty : length (map to_come (slice_index_or links given None ∷ drop (given + 1) links)) ≡ 0 = ap length (rw (drop_more links given None more) at none) in
    omega (arith, empty)
