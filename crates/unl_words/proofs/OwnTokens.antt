-- The tokens in an upstream's arguments form a book.
use Rattle.std.proofs.Common.{◌≡◌, ◌≢◌, ◌≤◌, ◌+◌, ◌&&◌, ◌||◌, ◌∙◌, ℕ, Bool, true, false, not, ltb, List, [], ◌∷◌, ◌++◌, length, map, All, Some, Result, Ok, Err, refl, sym, ap, arith, nat_le, length-append, true≢false}
use Rattle.std.specs.Prelude.{codes, ⊤}
use Rattle.std.specs.List.{list_all}
use Rattle.std.proofs.lemmas.Bool.{le-ltb}
use Rattle.std.proofs.lemmas.Bool.Decides.{nat_tests}
use Rattle.std.proofs.lemmas.List.Elements.{All-cons, All-nil, All-head, All-tail}
use Rattle.std.proofs.lemmas.List.{length-map}
use Rattle.std.proofs.lemmas.List.Kept.{AllPairs-cons}
use Rattle.clap.proofs.WalkLemmas.{both}
use Rattle.serde_json.specs.Data.{Data, string}
use Rattle.serde_json.specs.View.{items_of}
use Rattle.unl_documents.specs.declared.field.Field.TheVariants as field
use Rattle.unl_documents.specs.Kinds.{any_text, text, at}
use Rattle.unl_documents.specs.Texts.{is_name}
use Rattle.unl_documents.proofs.RoundTrip.{any_text_back, optional_none, required_back, text_back}
use Rattle.unl_tokens.proofs.Different.{gathered_same}
use Rattle.unl_words.specs.OwnBook.{own_answer, own_book, own_entries, own_entry, tokens_read}
use Rattle.unl_tokens.specs.declared.fault.BadToken.{BadToken}
use Rattle.unl_tokens.specs.declared.kind.Kind.{Kind}
use Rattle.unl_tokens.specs.declared.kind.Kind.TheVariants.{Client, Frontend}
use Rattle.unl_tokens.specs.declared.scope.Scope.{Scope}
use Rattle.unl_tokens.specs.declared.token.Token.{Token}
use Rattle.unl_tokens.specs.Books.{book_of, tokens_from}
use Rattle.unl_tokens.specs.Entries.{entry_of, project_names, with_named}
use Rattle.unl_tokens.specs.Kinds.{kind_of}
use Rattle.unl_tokens.specs.Names.{are_names}
use Rattle.unl_tokens.specs.Scopes.{scope_of}
use Rattle.unl_tokens.specs.Valid.{HaveDistinctTexts}
use Rattle.unl_words.specs.Lists.{are_different, are_own_tokens, fit_one_book, is_named, is_token}
use Rattle.unl_words.specs.Values.{is_line}
use Rattle.unl_words.proofs.Known.{others_differ}

-- ---- one text

-- The properties of a text that is a token and names its projects.
record IsOwnToken (spelling : List ℕ) : Type 0 where
  few : length spelling ≤ 512
  scope : Scope
  spelled : scope_of spelling ≡ Ok scope
  environment : is_name scope.environment ≡ true
  projects : are_names scope.projects ≡ true
  closed : scope.listed ≡ false

denied : (b : Bool) → (false || not b) ≡ true → b ≡ false
denied true e = absurd (true≢false (sym e))
denied false e = refl

own_token_from : (spelling : List ℕ) (reading : Result Scope BadToken) → scope_of spelling ≡ reading → is_named false reading ≡ true → length spelling ≤ 512 → IsOwnToken spelling
own_token_from spelling (Ok scope) spelled named few =
    let parts = both (is_name scope.environment) (are_names scope.projects && (false || not scope.listed)) named in
    let rest = both (are_names scope.projects) (false || not scope.listed) parts.1 in
    record { few = few; scope = scope; spelled = spelled; environment = parts.0; projects = rest.0; closed = denied scope.listed rest.1 }
own_token_from spelling (Err e) spelled named few = absurd (true≢false (sym named))

own_token : (spelling : List ℕ) → is_token false spelling ≡ true → IsOwnToken spelling
own_token spelling is =
    let parts = both (nat_le (length spelling) 512) (is_line spelling && is_named false (scope_of spelling)) is in
    let rest = both (is_line spelling) (is_named false (scope_of spelling)) parts.1 in
    let few : length spelling ≤ 512 = grind (arith, nat_tests) in
    own_token_from spelling (scope_of spelling) refl rest.1 few

-- The value is read as the token with this text.
IsEntry : Data → List ℕ → Type 0
IsEntry value spelling = (token : Token) × (entry_of value ≡ Ok (Some token)) × (token.text ≡ spelling)

entry_read : (word : List ℕ) (kind : Kind) (spelling : List ℕ) → kind_of word ≡ Some kind → is_token false spelling ≡ true → IsEntry (own_entry word spelling) spelling
unfolding IsEntry entry_of own_entry at
entry_read word kind spelling known is =
    let own : IsOwnToken spelling = own_token spelling is in
    let value : Data = own_entry word spelling in
    let spelled = required_back (text 512) field.Token value (string spelling) spelling refl (text_back 512 field.Token spelling own.few) in
    let of_kind = required_back any_text field.Kind value (string word) word refl (any_text_back field.Kind word) in
    let scope : with_named field.Token (scope_of spelling) ≡ Ok own.scope = rw (own.spelled, own.environment) refl in
    let names = optional_none project_names field.Projects value refl in (
      record { text = spelling; kind = kind; projects = own.scope.projects; environment = own.scope.environment },
      rw (spelled, of_kind, scope, names, own.closed, own.projects, known) refl,
      refl,
    )

-- ---- all texts

-- The values are read as the tokens with these texts.
AreEntries : List Data → List (List ℕ) → Type 0
AreEntries [] [] = ⊤
AreEntries [] (spelling ∷ texts) = ⊥
AreEntries (value ∷ values) [] = ⊥
AreEntries (value ∷ values) (spelling ∷ texts) = IsEntry value spelling × AreEntries values texts

entries_read : (word : List ℕ) (kind : Kind) (texts : List (List ℕ)) → kind_of word ≡ Some kind → list_all (is_token false) texts ≡ true
    → AreEntries (map (own_entry word) texts) texts
unfolding AreEntries
entries_read word kind [] known are = tt
entries_read word kind (spelling ∷ texts) known are =
    let parts = both (is_token false spelling) (list_all (is_token false) texts) are in
    (entry_read word kind spelling known parts.0, entries_read word kind texts known parts.1)

entries_both : (values : List Data) (texts : List (List ℕ)) (more : List Data) (others : List (List ℕ)) → AreEntries values texts → AreEntries more others
    → AreEntries (values ++ more) (texts ++ others)
unfolding AreEntries
entries_both [] [] more others are also = also
entries_both [] (spelling ∷ texts) more others are also = absurd are
entries_both (value ∷ values) [] more others are also = absurd are
entries_both (value ∷ values) (spelling ∷ texts) more others are also = (are.0, entries_both values texts more others are.1 also)

-- The tokens that are read from the values.
record AreTokens (place : ℕ) (values : List Data) (texts : List (List ℕ)) : Type 0 where
  tokens : List Token
  read : tokens_from place (items_of values) ≡ Ok tokens
  named : map (λ (t : Token). t.text) tokens ≡ texts

tokens_of : (place : ℕ) (values : List Data) (texts : List (List ℕ)) → AreEntries values texts → AreTokens place values texts
unfolding AreEntries IsEntry tokens_from
tokens_of place [] [] are = record { tokens = []; read = refl; named = refl }
tokens_of place [] (spelling ∷ texts) are = absurd are
tokens_of place (value ∷ values) [] are = absurd are
tokens_of place (value ∷ values) (spelling ∷ texts) are =
    let rest : AreTokens (place + 1) values texts = tokens_of (place + 1) values texts are.1 in
    record {
      tokens = are.0.0 ∷ rest.tokens;
      read = rw (are.0.1, rest.read) refl;
      named = ap (λ (t : List ℕ). t ∷ map (λ (t : Token). t.text) rest.tokens) are.0.2 ∙ ap (λ (ts : List (List ℕ)). spelling ∷ ts) rest.named;
    }

-- No token has the same text as this one.
none_has : (token : Token) (tokens : List Token) → All (λ (other : List ℕ). ¬ (other ≡ token.text)) (map (λ (t : Token). t.text) tokens)
    → All (λ (other : Token). token.text ≢ other.text) tokens
none_has token [] none = All-nil (λ (other : Token). token.text ≢ other.text)
none_has token (other ∷ tokens) none =
    All-cons (λ (other : Token). token.text ≢ other.text) other tokens
    (λ same. All-head (λ (other : List ℕ). ¬ (other ≡ token.text)) other.text (map (λ (t : Token). t.text) tokens) none (sym same))
    (none_has token tokens (All-tail (λ (other : List ℕ). ¬ (other ≡ token.text)) other.text (map (λ (t : Token). t.text) tokens) none))

other_texts : (tokens : List Token) → are_different (map (λ (t : Token). t.text) tokens) ≡ true → HaveDistinctTexts tokens
other_texts [] differ = λ i j d before below. absurd (omega arith)
other_texts (token ∷ tokens) differ =
    let parts = others_differ token.text (map (λ (t : Token). t.text) tokens) differ in
    AllPairs-cons (λ (a b : Token). a.text ≢ b.text) token tokens (none_has token tokens parts.0) (other_texts tokens parts.1)

-- The JSON value that lists the tokens of both lists can be read.
Reads : List (List ℕ) → List (List ℕ) → Type 0
Reads clients frontends = (tokens : List Token) × (book_of (own_answer clients frontends) ≡ Ok tokens)

reads : (clients frontends : List (List ℕ)) → are_own_tokens clients ≡ true → are_own_tokens frontends ≡ true → fit_one_book clients frontends ≡ true
    → Reads clients frontends
unfolding Reads book_of own_answer at
reads clients frontends are also fit =
    let parts = both (nat_le (length clients + length frontends) 1024) (are_different (clients ++ frontends)) fit in
    let all : AreTokens 0 (own_entries clients frontends) (clients ++ frontends) =
    tokens_of 0 (own_entries clients frontends) (clients ++ frontends)
    (entries_both (map (own_entry (codes "client")) clients) clients (map (own_entry (codes "frontend")) frontends) frontends
    (entries_read (codes "client") Client clients refl are) (entries_read (codes "frontend") Frontend frontends refl also)) in
    let differ : are_different (map (λ (t : Token). t.text) all.tokens) ≡ true = rw all.named parts.1 in
    let counted : length all.tokens ≡ length clients + length frontends =
    sym (length-map all.tokens (λ (t : Token). t.text)) ∙ ap (λ (ts : List (List ℕ)). length ts) all.named ∙ length-append clients frontends in
    let below : length clients + length frontends ≤ 1024 = grind (arith, nat_tests) in
    let few : ltb 1024 (length all.tokens) ≡ false = le-ltb _ _ (omega (arith, counted, below)) in
    (all.tokens, rw (all.read, gathered_same all.tokens (other_texts all.tokens differ), few) refl)

-- The JSON value that lists the tokens of both lists can be read, and the result is their book.
pub own_book_read : (clients frontends : List (List ℕ)) → are_own_tokens clients ≡ true → are_own_tokens frontends ≡ true → fit_one_book clients frontends ≡ true
    → book_of (own_answer clients frontends) ≡ Ok (own_book clients frontends)
unfolding own_book Reads
own_book_read clients frontends are also fit =
    let found : Reads clients frontends = reads clients frontends are also fit in
    found.1 ∙ ap Ok (sym (ap tokens_read found.1))
