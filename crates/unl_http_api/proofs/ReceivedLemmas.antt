-- Bytes parse as a reply in exactly one way, and bytes after the first 16,785,409 change nothing.
use Rattle.std.proofs.Common.{◌≡◌, ℕ, ◌<◌, ◌≤◌, Bool, true, false, cond, List, [], ◌∷◌, ◌++◌, length, take, drop, map, refl, sym, ap, ◌∙◌, subst, arith, length-append, Option, Some, None, Result, Ok, Err, inl, inr, IsTrue}
use Rattle.std.proofs.lemmas.Bool.{cases_lt}
use Rattle.std.proofs.lemmas.Bool.Decides.{nat_tests}
use Rattle.std.proofs.lemmas.List.{take-append-le, length-map, length-take}
use Rattle.std.proofs.lemmas.List.Elements.{All-head, All-tail, All-weaker}
use Rattle.std.proofs.lemmas.List.Sums.{list_all-from_AllPass}
use Rattle.std.specs.Prelude.{nat_lt, ◌||◌, ◌==◌, not, is_none, codes, All, find, IfOk}
use Rattle.std.specs.Option.{option_map}
use Rattle.httparse.specs.declared.spans.HeaderSpan.{HeaderSpan}
use Rattle.httparse.specs.declared.spans.ResponseSpans.{ResponseSpans}
use Rattle.httparse.specs.Grammar.{Field, IsField, field_value, is_value_byte, ResponseHead, print_response, ReadsResponse, status_code}
use Rattle.httparse.specs.Spans.{header_bytes, name_and_value, IsResponseOf, IsResponseWithin}
use Rattle.httparse.proofs.GrammarLemmas.{response_unique, ReadsResponse-append}
use Rattle.httparse.proofs.TrimLemmas.{AllPass-trim_ows}
use Rattle.unl_documents.specs.Results.{◌>>=◌, Answers, Gives}
use Rattle.unl_http_api.specs.declared.got.Got.{Got}
use Rattle.unl_http_api.specs.declared.got.BadReply.{BadReply}
use Rattle.unl_http_api.specs.declared.got.BadReply.TheVariants.{Head, Short, TooLarge, Memory}
use Rattle.unl_http_api.specs.Fields.{body_length, count_of, first_value, is_named}
use Rattle.unl_http_api.specs.Received.{HasReplyHead, HasNoReplyHead, reply_fields, stated_length, size_among, body_size, got_with, reading_with, reading_of, IsReply, HasOneReply}
use Rattle.unl_http_api.specs.RequestText.{fits_line, fits_if_any}
use Rattle.unl_http_api.specs.Requests.{window}
use Rattle.unl_http_api.proofs.FindLemmas.{after_prefix}
use Rattle.unl_http_api.proofs.RequestLemmas.{window-append-drop, window-append, prefix_of_window}
use Rattle.unl_http_api.proofs.RoomLemmas.{window_fits}

-- ---- what a call returns

-- if a call returns `reading` or runs out of memory, and `reading` has a property, then the call's result has it or is out of memory
pub Answers-from_gives : {T E : Type 0} (memory : E) (P : Result T E → Type 0) (result reading : Result T E)
    → Gives memory result reading → P reading → Answers memory P result
Answers-from_gives memory P (Ok x) reading gives is = subst P gives is
Answers-from_gives memory P (Err e) reading gives is = λ other. subst P (gives other) is

-- if at most one result has a property, `reading` has it, and a call returns a result that has it or runs out of memory, then the call
-- returns `reading` or runs out of memory
pub Gives-from_answers : {T E : Type 0} (memory : E) (P : Result T E → Type 0) (result reading : Result T E)
    → ((r s : Result T E) → P r → P s → r ≡ s) → Answers memory P result → P reading → Gives memory result reading
Gives-from_answers memory P (Ok x) reading unique answers is = unique reading (Ok x) is answers
Gives-from_answers memory P (Err e) reading unique answers is = λ other. unique reading (Err e) is (answers other)

-- ---- one head

-- a head of at most 64 fields in the window (the first 8,192 bytes) is a head of the bytes
pub reply_head_from_window : (bytes : List ℕ) (head : ResponseHead) (rest : List ℕ) → length (window bytes) ≤ 8192
    → ReadsResponse (window bytes) head rest → length head.fields ≤ 64 → HasReplyHead bytes head (rest ++ drop 8192 bytes)
reply_head_from_window bytes head rest fits reads few = record {
  reads = subst (λ (b : List ℕ). ReadsResponse b head (rest ++ drop 8192 bytes)) (window-append-drop bytes)
      (ReadsResponse-append (window bytes) head rest (drop 8192 bytes) reads);
  short = omega (arith, ap length reads.1, length-append (print_response head) rest);
  few = few;
}

-- a head of the bytes is a head in the window
pub window_from_reply_head : (bytes : List ℕ) (head : ResponseHead) (rest : List ℕ) → HasReplyHead bytes head rest
    → (tail : List ℕ) × ReadsResponse (window bytes) head tail
unfolding window
window_from_reply_head bytes head rest has =
    let prefix = prefix_of_window 8192 (print_response head) rest has.short in
    (prefix.0, (has.reads.0, ap (take 8192) has.reads.1 ∙ prefix.1))

pub HasReplyHead-append : (bytes : List ℕ) (head : ResponseHead) (rest more : List ℕ) → HasReplyHead bytes head rest
    → HasReplyHead (bytes ++ more) head (rest ++ more)
HasReplyHead-append bytes head rest more has = record {
  reads = ReadsResponse-append bytes head rest more has.reads;
  short = has.short;
  few = has.few;
}

-- if the window has no head of at most 64 fields, the bytes have none
pub no_reply_head : (bytes prefix : List ℕ) → prefix ≡ window bytes
    → ((head : ResponseHead) (rest : List ℕ) → ReadsResponse prefix head rest → length head.fields ≤ 64 → ⊥)
    → HasNoReplyHead bytes
no_reply_head bytes prefix is none head rest has =
    let at = window_from_reply_head bytes head rest has in
    none head at.0 (subst (λ (w : List ℕ). ReadsResponse w head at.0) (sym is) at.1) has.few

-- ---- one reading

-- bytes parse in at most one way
pub IsReply_unique : (bytes : List ℕ) (r s : Result Got BadReply) → IsReply bytes r → IsReply bytes s → r ≡ s
IsReply_unique bytes r s (inl x) (inl y) =
    let same = response_unique bytes x.0 y.0 x.1 y.1 x.2.reads y.2.reads in
    x.3 ∙ (λ i. reading_of (same.0 i) (same.1 i)) ∙ sym y.3
IsReply_unique bytes r s (inl x) (inr y) = absurd (y.0 x.0 x.1 x.2)
IsReply_unique bytes r s (inr x) (inl y) = absurd (x.0 y.0 y.1 y.2)
IsReply_unique bytes r s (inr x) (inr y) = x.1 ∙ sym y.1

-- if bytes parse in one way, that way is the only one
pub one_reply_of : (bytes : List ℕ) (reading : Result Got BadReply) → IsReply bytes reading → HasOneReply bytes
one_reply_of bytes reading is = record {
  reading = reading;
  is_reply = is;
  only = λ other it. IsReply_unique bytes reading other is it;
}

-- the bytes begin with a head whose length and status code are those in `r`, and whose fields have the names and values in `fields`
pub record HasReplyAt (bytes : List ℕ) (r : ResponseSpans) (fields : List (List ℕ × List ℕ)) : Type 0 where
  pub head : ResponseHead
  pub has_head : HasReplyHead bytes head (drop r.len bytes)
  pub fits : r.len ≤ length bytes
  pub code : r.code ≡ status_code head
  pub fields_are : fields ≡ reply_fields head

-- the spans of a head in the window are those of a head of the bytes
pub reply_at : (bytes prefix : List ℕ) (spans : List HeaderSpan) (r : ResponseSpans) → prefix ≡ window bytes
    → length prefix ≤ 8192 → length spans ≡ 64 → IsResponseWithin prefix spans r → IsResponseOf prefix spans r
    → HasReplyAt bytes r (map (header_bytes prefix) (take r.headers spans))
reply_at bytes prefix spans r is fits room within (h, at) =
    let few : length h.fields ≤ 64 =
    omega (arith, room, ap length at.fields, length-map (take r.headers spans) (header_bytes prefix), length-map h.fields name_and_value, length-take r.headers spans) in
    let has = reply_head_from_window bytes h (drop r.len prefix) (subst (λ (w : List ℕ). length w ≤ 8192) is fits)
    (subst (λ (w : List ℕ). ReadsResponse w h (drop r.len prefix)) is at.reads) few in
    record {
      head = h;
      has_head = subst (HasReplyHead bytes h)
          (after_prefix bytes (print_response h) (drop r.len prefix ++ drop 8192 bytes) r.len at.len has.reads.1) has;
      fits = omega (arith, within.section.len_fits, ap length is, ap length (window-append-drop bytes), length-append (window bytes) (drop 8192 bytes));
      code = at.code;
      fields_are = at.fields;
    }

-- what is read from the spans is what is read from the bytes
pub reads_at : (bytes : List ℕ) (r : ResponseSpans) (fields : List (List ℕ × List ℕ)) → HasReplyAt bytes r fields
    → IsReply bytes (reading_with r.code fields (drop r.len bytes))
reads_at bytes r fields at = inl (
  at.head,
  drop r.len bytes,
  at.has_head,
  λ i. reading_with (at.code i) (at.fields_are i) (drop r.len bytes),
)

-- ---- more bytes

test_passes : (a b : ℕ) → a < b → nat_lt a b ≡ true
test_passes a b less = grind (arith, nat_tests)

test_fails : (a b : ℕ) → b ≤ a → nat_lt a b ≡ false
test_fails a b not_less = grind (arith, nat_tests)

-- if more than 16,777,216 bytes (the limit of a body) follow the head, still more bytes change neither the body's length nor its fault
size_stays : (stated : Option ℕ) (n m : ℕ) → 16777216 < n → n ≤ m → size_among stated n ≡ size_among stated m
size_stays None n m many more =
    rw (test_passes 16777216 n many, test_passes 16777216 m (omega (arith, many, more))) refl
size_stays (Some k) n m many more =
    elim (cases_lt 16777216 k) [
      | inl large ↦ rw (test_passes 16777216 k large) refl
      | inr small ↦ rw (test_fails n k (omega (arith, small, many)), test_fails m k (omega (arith, small, many, more))) refl
    ]

-- likewise for the length of the body that follows from the status and the fields
body_size_stays : (status : ℕ) (fields : List (List ℕ × List ℕ)) (n m : ℕ) → 16777216 < n → n ≤ m
    → body_size status fields n ≡ body_size status fields m
body_size_stays status fields n m many more = rw (size_stays (stated_length fields) n m many more) refl

-- a body lies within the bytes that follow
among_fits : (stated : Option ℕ) (following n : ℕ) → size_among stated following ≡ Ok n → n ≤ following
among_fits None following n is = by_test (nat_lt 16777216 following) is
  where
    by_test : (t : Bool) → cond t (Err TooLarge) (Ok following) ≡ Ok n → n ≤ following
    by_test true is = absurd (cc)
    by_test false is = let same : following ≡ n = cc in omega (arith, same)
among_fits (Some k) following n is = by_tests (nat_lt 16777216 k) (nat_lt following k) refl is
  where
    by_tests : (t u : Bool) → nat_lt following k ≡ u
        → cond t (Err TooLarge) (cond u (Err Short) (Ok k)) ≡ Ok n → n ≤ following
    by_tests true u fits is = absurd (cc)
    by_tests false true fits is = absurd (cc)
    by_tests false false fits is = let same : k ≡ n = cc in grind (arith, nat_tests)

body_fits : (status : ℕ) (fields : List (List ℕ × List ℕ)) (following n : ℕ) → body_size status fields following ≡ Ok n
    → n ≤ following
body_fits status fields following n is =
    by_tests (nat_lt 0 (count_of (codes "transfer-encoding") fields) || is_none (body_length fields)) (status == 304) is
  where
    by_tests : (t u : Bool) → cond t (Err Head) (cond u (Ok 0) (size_among (stated_length fields) following)) ≡ Ok n
        → n ≤ following
    by_tests true u is = absurd (cc)
    by_tests false true is = let same : 0 ≡ n = cc in omega (arith, same)
    by_tests false false is = among_fits (stated_length fields) following n is

-- the body is unchanged when more bytes follow
taken_stays : (status : ℕ) (fields : List (List ℕ × List ℕ)) (rest more : List ℕ) (size : Result ℕ BadReply)
    → body_size status fields (length rest) ≡ size
    → (size >>= λ n. Ok (got_with status fields (take n rest)))
    ≡ (size >>= λ n. Ok (got_with status fields (take n (rest ++ more))))
taken_stays status fields rest more (Ok n) is =
    ap (λ body. Ok (got_with status fields body)) (sym (take-append-le n rest more (body_fits status fields (length rest) n is)))
taken_stays status fields rest more (Err e) is = refl

-- once more than 16,777,216 bytes follow a head, still more bytes do not change what is read
reading_stays : (status : ℕ) (fields : List (List ℕ × List ℕ)) (rest more : List ℕ) → 16777216 < length rest
    → reading_with status fields rest ≡ reading_with status fields (rest ++ more)
reading_stays status fields rest more many =
    taken_stays status fields rest more (body_size status fields (length rest)) refl
    ∙ ap (λ size. size >>= λ n. Ok (got_with status fields (take n (rest ++ more))))
    (body_size_stays status fields (length rest) (length (rest ++ more)) many (omega (arith, length-append rest more)))

-- once 16,785,409 bytes have arrived (one more than the largest head and body together), more bytes change nothing
pub IsReply-append : (bytes more : List ℕ) (reading : Result Got BadReply) → 16785409 ≤ length bytes
    → IsReply bytes reading → IsReply (bytes ++ more) reading
IsReply-append bytes more reading many (inl x) =
    let enough : 16777216 < length x.1 =
    omega (arith, many, x.2.short, ap length x.2.reads.1, length-append (print_response x.0) x.1) in
    inl (
      x.0,
      x.1 ++ more,
      HasReplyHead-append bytes x.0 x.1 more x.2,
      x.3 ∙ reading_stays (status_code x.0) (reply_fields x.0) x.1 more enough,
    )
IsReply-append bytes more reading many (inr x) =
    inr (
      λ head rest has.
          let at = window_from_reply_head (bytes ++ more) head rest has in
          let same = window-append bytes more (omega (arith, many)) in
          x.0 head (at.0 ++ drop 8192 bytes)
          (reply_head_from_window bytes head at.0 (window_fits bytes)
          (subst (λ (w : List ℕ). ReadsResponse w head at.0) same at.1) has.few),
      x.1,
    )

-- ---- the tag

-- a value byte is neither NUL, LF nor CR
value_byte_fits : (b : ℕ) → IsTrue (is_value_byte b) → IsTrue (not (b == 0 || b == 10 || b == 13))
value_byte_fits b is = grind (arith, nat_tests)

-- the value of a field fits in a header line, because it has no NUL, LF or CR
value_fits : (f : Field) → IsField f → IsTrue (fits_line (field_value f))
value_fits f is =
    list_all-from_AllPass (λ b. not (b == 0 || b == 10 || b == 13)) (field_value f)
    (All-weaker (λ b. IsTrue (is_value_byte b)) _ value_byte_fits (field_value f) (AllPass-trim_ows is_value_byte f.raw is.raw))

-- the value of the first field with this name, if there is one, fits in a header line
first_fits : (name : List ℕ) (fields : List Field) → All IsField fields
    → IsTrue (fits_if_any (first_value name (map name_and_value fields)))
first_fits name [] all = refl
first_fits name (f ∷ fields) all =
    by_name (is_named name (name_and_value f)) (value_fits f (All-head IsField f fields all))
    (first_fits name fields (All-tail IsField f fields all))
  where
    by_name : (t : Bool) → IsTrue (fits_line (field_value f))
        → IsTrue (fits_if_any (first_value name (map name_and_value fields)))
        → IsTrue (fits_if_any (option_map (λ field. field.1) (cond t (Some (name_and_value f)) (find (is_named name) (map name_and_value fields)))))
    by_name true here later = here
    by_name false here later = later

-- the tag of the reply is the value of the head's first `etag` field
tag_of : (size : Result ℕ BadReply) (status : ℕ) (fields : List (List ℕ × List ℕ)) (rest : List ℕ) (got : Got)
    → Ok got ≡ (size >>= λ n. Ok (got_with status fields (take n rest))) → got.tag ≡ first_value (codes "etag") fields
tag_of (Ok n) status fields rest got is = let same : got ≡ got_with status fields (take n rest) = cc in ap (λ g. g.tag) same
tag_of (Err e) status fields rest got is = absurd (cc)

-- the tag of a reply fits in a header line
pub tag_fits : (bytes : List ℕ) (got : Got) → IsReply bytes (Ok got) → IsTrue (fits_if_any got.tag)
tag_fits bytes got (inl x) =
    let is = tag_of (body_size (status_code x.0) (reply_fields x.0) (length x.1)) (status_code x.0) (reply_fields x.0) x.1 got x.3 in
    subst (λ tag. IsTrue (fits_if_any tag)) (sym is) (first_fits (codes "etag") x.0.fields x.2.reads.0.fields)
tag_fits bytes got (inr x) = absurd (cc)

-- the tag of a reply that a call returned fits in a header line
pub tag_fits_if_ok : (bytes : List ℕ) (result : Result Got BadReply) → Answers Memory (IsReply bytes) result
    → IfOk result (λ got. IsTrue (fits_if_any got.tag))
tag_fits_if_ok bytes (Ok got) is = tag_fits bytes got is
tag_fits_if_ok bytes (Err e) is = tt
