-- The lines of a byte string, and bytes consumed one after another.
use Rattle.std.proofs.Common.{◌≡◌, ◌≢◌, ℕ, ◌+◌, ◌<◌, ◌≤◌, List, [], ◌∷◌, ◌++◌, length, take, drop, get_or, min, not, suc, Bool, true, false, ◌||◌, cond, Option, Some, None, option_map, refl, sym, ap, ◌∙◌, arith, append_assoc, append-nil, length-append, subst}
use Rattle.std.specs.List.{count_by, position_or_len}
use Rattle.std.proofs.lemmas.List.{take-append-le, take_all, take-append-drop, length-take, length-take-le, get_or-take}
use Rattle.std.proofs.Math.Seq.{drop-cons}
use Rattle.std.proofs.lemmas.Bool.{eqb-true}
use Rattle.std.proofs.lemmas.List.Recursion.{is_count_by}
use Rattle.std.proofs.lemmas.List.Sums.{sum_by-append, passes_at_first, prefix_len-le-length}
use Rattle.std.proofs.lemmas.List.Folds.{list_any-append}
use Rattle.unl_base.specs.Streams.{Takes, Sends, SendsPrefix}
use Rattle.unl_input.specs.Lines.{is_end, has_end, lines, begun_with, ended_lines}
use Rattle.unl_input.specs.Reading.{Gets, IsTextLine, EndsLine, GrowsLine, BeginsLine, BeginsLong, longest_line}

-- ---- bytes consumed one after another

then_none : (xs ys : List ℕ) (c : Option (List ℕ))
    → option_map (λ rest. xs ++ rest) (option_map (λ rest. ys ++ rest) c) ≡ option_map (λ rest. (xs ++ ys) ++ rest) c
then_none xs ys None = refl
then_none xs ys (Some z) = ap Some (sym (append_assoc xs ys z))

pub takes_trans : (a b c : Option (List ℕ)) (xs ys : List ℕ) → Takes a xs b → Takes b ys c → Takes a (xs ++ ys) c
takes_trans a b c xs ys one two = one ∙ ap (option_map (λ rest. xs ++ rest)) two ∙ then_none xs ys c

pub takes_nothing : (a : Option (List ℕ)) → Takes a [] a
takes_nothing None = refl
takes_nothing (Some x) = refl

pub gets_trans : (h i j : List ℕ) (l m n : Option (List ℕ)) (a b : List ℕ) → Gets h l a i m → Gets i m b j n → Gets h l (a ++ b) j n
gets_trans h i j l m n a b one two = record {
  read = one.read ++ two.read;
  took = takes_trans l m n one.read two.read one.took two.took;
  split =
      sym (append_assoc h one.read two.read) ∙ ap (λ xs. xs ++ two.read) one.split
      ∙ append_assoc a i two.read ∙ ap (λ xs. a ++ xs) two.split ∙ sym (append_assoc a b j);
}

-- ---- sending

sent_nothing : (s : Option (List ℕ)) → Sends s [] s
sent_nothing None = refl
sent_nothing (Some x) = ap Some (sym (append-nil x))

pub sends_nothing : (s : Option (List ℕ)) → Sends s [] s
sends_nothing s = sent_nothing s

sent_then : (xs ys : List ℕ) (s : Option (List ℕ))
    → option_map (λ sent. sent ++ ys) (option_map (λ sent. sent ++ xs) s) ≡ option_map (λ sent. sent ++ (xs ++ ys)) s
sent_then xs ys None = refl
sent_then xs ys (Some x) = ap Some (append_assoc x xs ys)

pub sends_trans : (r s t : Option (List ℕ)) (xs ys : List ℕ) → Sends r xs s → Sends s ys t → Sends r (xs ++ ys) t
sends_trans r s t xs ys one two = two ∙ ap (option_map (λ sent. sent ++ ys)) one ∙ sent_then xs ys r

-- sending a whole text and then a prefix of another sends a prefix of both texts together
pub sends_then_prefix : (r s t : Option (List ℕ)) (xs ys : List ℕ) → Sends r xs s → SendsPrefix s ys t → SendsPrefix r (xs ++ ys) t
sends_then_prefix r s t xs ys one prefix = record {
  part = xs ++ prefix.part;
  after = prefix.after;
  split = ap (λ zs. xs ++ zs) prefix.split ∙ sym (append_assoc xs prefix.part prefix.after);
  sends = sends_trans r s t xs prefix.part one prefix.sends;
}

-- a prefix of a text is a prefix of a longer text
pub prefix_of_longer : (s t : Option (List ℕ)) (xs ys whole : List ℕ) → SendsPrefix s xs t → whole ≡ xs ++ ys → SendsPrefix s whole t
prefix_of_longer s t xs ys whole prefix longer = record {
  part = prefix.part;
  after = prefix.after ++ ys;
  split = longer ∙ ap (λ zs. zs ++ ys) prefix.split ∙ append_assoc prefix.part prefix.after ys;
  sends = prefix.sends;
}

-- ---- lines

-- the lines with these bytes added at the start of the first
abbrev begun : List ℕ → List (List ℕ) → List (List ℕ)
begun [] ls = ls
begun (b ∷ bytes) ls = begun_with b (begun bytes ls)

begun-line : (xs y : List ℕ) (ls : List (List ℕ)) → begun xs (y ∷ ls) ≡ (xs ++ y) ∷ ls
begun-line [] y ls = refl
begun-line (x ∷ xs) y ls = ap (begun_with x) (begun-line xs y ls)

begun-none : (x : ℕ) (xs : List ℕ) → begun (x ∷ xs) [] ≡ (x ∷ xs) ∷ []
begun-none x [] = refl
begun-none x (y ∷ xs) = ap (begun_with x) (begun-none y xs)

left_false : (a b : Bool) → (a || b) ≡ false → a ≡ false
left_false false b none = refl
left_false true b none = none

right_false : (a b : Bool) → (a || b) ≡ false → b ≡ false
right_false false b none = none
right_false true b none = absurd (let other : ◌≡◌ {A = Bool} true false = none in cc)

-- bytes without a line feed begin the first line
unbroken : (prefix rest : List ℕ) → has_end prefix ≡ false → lines (prefix ++ rest) ≡ begun prefix (lines rest)
unbroken [] rest none = refl
unbroken (b ∷ bs) rest none =
    ap (λ t. cond t ([] ∷ lines (bs ++ rest)) (begun_with b (lines (bs ++ rest)))) (left_false (is_end b) (has_end bs) none)
    ∙ ap (begun_with b) (unbroken bs rest (right_false (is_end b) (has_end bs) none))

pub line_first : (line rest : List ℕ) → has_end line ≡ false → lines ((line ++ 10 ∷ []) ++ rest) ≡ line ∷ lines rest
line_first line rest none =
    ap lines (append_assoc line (10 ∷ []) rest) ∙ unbroken line (10 ∷ rest) none
    ∙ begun-line line [] (lines rest) ∙ ap (λ l. l ∷ lines rest) (append-nil line)

pub last_line : (line : List ℕ) → has_end line ≡ false → line ≢ [] → lines line ≡ line ∷ []
last_line [] none some = absurd (some refl)
last_line (b ∷ bs) none some = ap lines (sym (append-nil (b ∷ bs))) ∙ unbroken (b ∷ bs) [] none ∙ begun-none b bs

-- the bytes have a first line, and it is too long
abbrev pub LongFirst : List ℕ → Type 0
LongFirst bytes = (line : List ℕ) × (more : List (List ℕ)) × (lines bytes ≡ line ∷ more) × (longest_line < length line)

long_begun : (prefix : List ℕ) (ls : List (List ℕ)) → longest_line < length prefix
    → (line : List ℕ) × (more : List (List ℕ)) × (begun prefix ls ≡ line ∷ more) × (longest_line < length line)
long_begun [] ls long = absurd (omega (arith, long))
long_begun (x ∷ xs) [] long = (x ∷ xs, [], begun-none x xs, long)
long_begun (x ∷ xs) (l ∷ ls) long = ((x ∷ xs) ++ l, ls, begun-line (x ∷ xs) l ls, omega (arith, long, length-append (x ∷ xs) l))

pub long_first : (prefix rest : List ℕ) → has_end prefix ≡ false → longest_line < length prefix → LongFirst (prefix ++ rest)
long_first prefix rest none long =
    let first = long_begun prefix (lines rest) long in
    (first.0, first.1, unbroken prefix rest none ∙ first.2, first.3)

-- bytes that are not empty have a first line
pub some_first : (b : ℕ) (rest : List ℕ) → (line : List ℕ) × (more : List (List ℕ)) × (lines (b ∷ rest) ≡ line ∷ more)
some_first b rest = begins b (lines rest) (is_end b)
  where
    begins : (b : ℕ) (ls : List (List ℕ)) (t : Bool) → (l : List ℕ) × (more : List (List ℕ)) × (cond t ([] ∷ ls) (begun_with b ls) ≡ l ∷ more)
    begins b ls true = ([], ls, refl)
    begins b [] false = (b ∷ [], [], refl)
    begins b (l ∷ ls) false = (b ∷ l, ls, refl)

-- ---- the first line feed in bytes

one_more : (n : ℕ) → 1 + n ≡ suc n
one_more n = omega arith

more_one : (n : ℕ) → suc n ≡ n + 1
more_one n = omega arith

-- no line feed precedes the first one
before_first_end : (xs : List ℕ) → has_end (take (position_or_len is_end xs) xs) ≡ false
before_first_end [] = refl
before_first_end (x ∷ xs) = by_first (is_end x) refl (before_first_end xs)
  where
    by_first : (t : Bool) → is_end x ≡ t → has_end (take (position_or_len is_end xs) xs) ≡ false
        → has_end (take (cond (not t) (1 + position_or_len is_end xs) 0) (x ∷ xs)) ≡ false
    by_first true is rest = refl
    by_first false is rest =
        ap (λ n. has_end (take n (x ∷ xs))) (one_more (position_or_len is_end xs))
        ∙ ap (λ t. t || has_end (take (position_or_len is_end xs) xs)) is ∙ rest

-- the first `k` items of the first `most` items of a list are the first `k` items of the list
pub take_of_first : {A : Type 0} (xs : List A) (most k : ℕ) → k ≤ length (take most xs) → take k (take most xs) ≡ take k xs
take_of_first xs most k within =
    sym (take-append-le k (take most xs) (drop most xs) within) ∙ ap (take k) (take-append-drop most xs)

-- one step of the reader: `prefix` is the first `most` held bytes; `k` is the position of the first line feed in `prefix`, or the length
-- of `prefix` if it has none; and `after` is `line` with the first `k` bytes of `prefix` appended
abbrev pub Looks : List ℕ → List ℕ → ℕ → List ℕ → ℕ → List ℕ → Type 0
Looks line held most prefix k after = (prefix ≡ take most held) × (k ≡ position_or_len is_end prefix) × (after ≡ line ++ take k prefix)

looks_within : (line held : List ℕ) (most : ℕ) (prefix : List ℕ) (k : ℕ) (after : List ℕ)
    → Looks line held most prefix k after → k ≤ length prefix
looks_within line held most prefix k after looks = omega (arith, looks.1, prefix_len-le-length (λ b. not (is_end b)) prefix)

looks_unbroken : (line held : List ℕ) (most : ℕ) (prefix : List ℕ) (k : ℕ) (after : List ℕ)
    → Looks line held most prefix k after → has_end (take k prefix) ≡ false
looks_unbroken line held most prefix k after looks = ap (λ n. has_end (take n prefix)) looks.1 ∙ before_first_end prefix

looks_prefix : (line held : List ℕ) (most : ℕ) (prefix : List ℕ) (k : ℕ) (after : List ℕ)
    → Looks line held most prefix k after → take k prefix ≡ take k held
looks_prefix line held most prefix k after looks =
    ap (take k) looks.0
    ∙ take_of_first held most k (subst (λ xs. k ≤ length xs) looks.0 (looks_within line held most prefix k after looks))

looks_len : (line held : List ℕ) (most : ℕ) (prefix : List ℕ) (k : ℕ) (after : List ℕ)
    → Looks line held most prefix k after → length after ≡ length line + k
looks_len line held most prefix k after looks =
    ap length looks.2 ∙ length-append line (take k prefix)
    ∙ ap (λ n. length line + n) (length-take-le k prefix (looks_within line held most prefix k after looks))

-- the byte at the position of the first line feed is a line feed
end_at : (xs : List ℕ) (k : ℕ) → k ≡ position_or_len is_end xs → k < length xs → get_or xs k 0 ≡ 10
end_at xs k is within =
    ap (λ n. get_or xs n 0) is
    ∙ eqb-true (get_or xs (position_or_len is_end xs) 0) 10 (passes_at_first is_end xs 0 (subst (λ n. n < length xs) is within))

-- one step of the reader found the line feed, so the line ends
pub piece_ends : (line held : List ℕ) (most : ℕ) (prefix : List ℕ) (k : ℕ) (after rest : List ℕ)
    → Looks line held most prefix k after → length line + most ≡ longest_line + 1 → k < length prefix
    → rest ≡ drop (k + 1) held → EndsLine line held after rest
piece_ends line held most prefix k after rest looks whole found is =
    let prefix_length : length prefix ≡ min most (length held) = ap length looks.0 ∙ length-take most held in
    let at : get_or held k 0 ≡ 10 =
    sym (get_or-take most held k 0 (omega (arith, found, prefix_length))) ∙ ap (λ xs. get_or xs k 0) (sym looks.0)
    ∙ end_at prefix k looks.1 found in
    let split : drop k held ≡ 10 ∷ rest =
    drop-cons held k 0 (omega (arith, found, prefix_length)) ∙ ap (λ b. b ∷ drop (suc k) held) at
    ∙ ap (λ n. 10 ∷ drop n held) (more_one k) ∙ ap (λ xs. 10 ∷ xs) (sym is) in
    record {
      piece = take k prefix;
      unbroken = looks_unbroken line held most prefix k after looks;
      grown = looks.2;
      short = omega (arith, whole, found, prefix_length, looks_len line held most prefix k after looks);
      split =
          sym (take-append-drop k held) ∙ ap (λ xs. xs ++ drop k held) (sym (looks_prefix line held most prefix k after looks))
          ∙ ap (λ xs. take k prefix ++ xs) split;
    }

-- one step of the reader found no line feed, so the line grows
pub piece_grows : (line held : List ℕ) (most : ℕ) (prefix : List ℕ) (k : ℕ) (after rest : List ℕ)
    → Looks line held most prefix k after → 0 < most → 0 < length held → length prefix ≤ k
    → rest ≡ drop k held → GrowsLine line held after rest
piece_grows line held most prefix k after rest looks room some all is =
    let prefix_length : length prefix ≡ min most (length held) = ap length looks.0 ∙ length-take most held in
    record {
      piece = take k prefix;
      unbroken = looks_unbroken line held most prefix k after looks;
      grown = looks.2;
      some = omega (arith, room, some, all, prefix_length, looks_len line held most prefix k after looks);
      split =
          sym (take-append-drop k held) ∙ ap (λ xs. xs ++ drop k held) (sym (looks_prefix line held most prefix k after looks))
          ∙ ap (λ xs. take k prefix ++ xs) (sym is);
    }

-- ---- complete lines

-- The bytes are complete lines: each line ends with a line feed, and the bytes that follow begin a new line.
pub record IsWhole (bytes : List ℕ) : Type 0 where
  pub first : (rest : List ℕ) → lines (bytes ++ rest) ≡ lines bytes ++ lines rest
  pub ends : count_by is_end bytes ≡ length (lines bytes)

count-append : (xs ys : List ℕ) → count_by is_end (xs ++ ys) ≡ count_by is_end xs + count_by is_end ys
count-append xs ys = sum_by-append (λ b. cond (is_end b) 1 0) xs ys

-- the number of line feeds
abbrev ends_in : List ℕ → ℕ
ends_in [] = 0
ends_in (b ∷ bs) = cond (is_end b) (1 + ends_in bs) (ends_in bs)

none_in : (line : List ℕ) → has_end line ≡ false → ends_in line ≡ 0
none_in [] none = refl
none_in (b ∷ bs) none =
    ap (λ t. cond t (1 + ends_in bs) (ends_in bs)) (left_false (is_end b) (has_end bs) none) ∙ none_in bs (right_false (is_end b) (has_end bs) none)

no_ends : (line : List ℕ) → has_end line ≡ false → count_by is_end line ≡ 0
no_ends line none = sym (is_count_by ends_in is_end refl (λ x xs. refl) line) ∙ none_in line none

pub whole_more : (bytes line : List ℕ) → IsWhole bytes → has_end line ≡ false → IsWhole (bytes ++ (line ++ 10 ∷ []))
whole_more bytes line whole none =
    let one : (rest : List ℕ) → lines ((line ++ 10 ∷ []) ++ rest) ≡ line ∷ lines rest = λ rest. line_first line rest none in
    let alone : lines (line ++ 10 ∷ []) ≡ line ∷ [] = ap lines (sym (append-nil (line ++ 10 ∷ []))) ∙ one [] in
    let all : lines (bytes ++ (line ++ 10 ∷ [])) ≡ lines bytes ++ line ∷ [] = whole.first (line ++ 10 ∷ []) ∙ ap (λ ls. lines bytes ++ ls) alone in
    record {
      first = λ rest.
          ap lines (append_assoc bytes (line ++ 10 ∷ []) rest) ∙ whole.first ((line ++ 10 ∷ []) ++ rest)
          ∙ ap (λ ls. lines bytes ++ ls) (one rest) ∙ sym (append_assoc (lines bytes) (line ∷ []) (lines rest))
          ∙ ap (λ ls. ls ++ lines rest) (sym all);
      ends =
          count-append bytes (line ++ 10 ∷ []) ∙ ap (λ n. count_by is_end bytes + n) (count-append line (10 ∷ []))
          ∙ ap (λ n. count_by is_end bytes + (n + 1)) (no_ends line none)
          ∙ ap (λ n. n + (0 + 1)) whole.ends
          ∙ sym (ap length all ∙ length-append (lines bytes) (line ∷ []));
    }

-- complete lines are the first lines of any bytes that begin with them
pub first_whole : (bytes rest : List ℕ) → IsWhole bytes → take (length (lines bytes)) (lines (bytes ++ rest)) ≡ lines bytes
first_whole bytes rest whole =
    ap (take (length (lines bytes))) (whole.first rest)
    ∙ take-append-le (length (lines bytes)) (lines bytes) (lines rest) (omega arith)
    ∙ take_all (length (lines bytes)) (lines bytes) (omega arith)

-- part of a line after complete lines adds no complete line
pub ended_whole : (bytes prefix : List ℕ) → IsWhole bytes → has_end prefix ≡ false → ended_lines (bytes ++ prefix) ≡ lines bytes
ended_whole bytes prefix whole none =
    ap (λ n. take n (lines (bytes ++ prefix))) (count-append bytes prefix ∙ ap (λ n. count_by is_end bytes + n) (no_ends prefix none))
    ∙ ap (λ n. take (n + 0) (lines (bytes ++ prefix))) whole.ends
    ∙ ap (take (length (lines bytes) + 0)) (whole.first prefix)
    ∙ take-append-le (length (lines bytes) + 0) (lines bytes) (lines prefix) (omega arith)
    ∙ take_all (length (lines bytes) + 0) (lines bytes) (omega arith)

-- ---- what a reader consumed

unbroken_both : (xs ys : List ℕ) → has_end xs ≡ false → has_end ys ≡ false → has_end (xs ++ ys) ≡ false
unbroken_both xs ys one two = list_any-append is_end xs ys ∙ ap (λ t. t || has_end ys) one ∙ two

-- memory ran out while a line was read: only the start of the line was consumed
pub stops_in_line : (h i j k : List ℕ) (l m n : Option (List ℕ)) (line : List ℕ) → has_end line ≡ false → Gets h l line i m → Gets i m [] j n → k ≡ j
    → BeginsLine h l k n
stops_in_line h i j k l m n line none got filled same = record {
  prefix = line;
  unbroken = none;
  got = subst (λ held. Gets h l line held n) (sym same)
      (subst (λ xs. Gets h l xs j n) (append-nil line) (gets_trans h i j l m n line [] got filled));
}

-- bytes that were consumed from the buffer, without a read
gets_prefix : (h i : List ℕ) (l : Option (List ℕ)) (out : List ℕ) → h ≡ out ++ i → Gets h l out i l
gets_prefix h i l out prefix = record { read = []; took = takes_nothing l; split = append-nil h ∙ prefix }

-- the line feed was found: the line was consumed, and its line feed too
pub line_ends : (h i j k : List ℕ) (l m n : Option (List ℕ)) (line ended : List ℕ) → has_end line ≡ false
    → Gets h l line i m → Gets i m [] j n → EndsLine line j ended k → IsTextLine ended × Gets h l (ended ++ 10 ∷ []) k n
line_ends h i j k l m n line ended none got filled ends =
    let rest : List ℕ = ends.piece ++ 10 ∷ [] in
    let split : j ≡ rest ++ k = ends.split ∙ sym (append_assoc ends.piece (10 ∷ []) k) in
    let whole : ended ++ 10 ∷ [] ≡ line ++ rest = ap (λ xs. xs ++ 10 ∷ []) ends.grown ∙ append_assoc line ends.piece (10 ∷ []) in (
      record { unbroken = ap has_end ends.grown ∙ unbroken_both line ends.piece none ends.unbroken; short = ends.short },
      subst (λ xs. Gets h l xs k n) (sym whole)
          (gets_trans h i k l m n line rest got (gets_trans i j k m n n [] rest filled (gets_prefix j k n rest split))),
    )

-- more bytes of the line were consumed, without a line feed
pub line_grows : (h i j k : List ℕ) (l m n : Option (List ℕ)) (line grown : List ℕ) → has_end line ≡ false
    → Gets h l line i m → Gets i m [] j n → GrowsLine line j grown k → Gets h l grown k n × (has_end grown ≡ false)
line_grows h i j k l m n line grown none got filled grows = (
  subst (λ xs. Gets h l xs k n) (sym grows.grown)
      (gets_trans h i k l m n line grows.piece got
      (gets_trans i j k m n n [] grows.piece filled (gets_prefix j k n grows.piece grows.split))),
  ap has_end grows.grown ∙ unbroken_both line grows.piece none grows.unbroken,
)

-- more bytes of the line were consumed than a line may have
pub line_is_long : (h i : List ℕ) (l m : Option (List ℕ)) (line : List ℕ) → has_end line ≡ false → longest_line < length line → Gets h l line i m → BeginsLong h l i m
line_is_long h i l m line none long got = record { begun = record { prefix = line; unbroken = none; got = got }; long = long }
