-- Laws about texts that occur several times in a list of tokens or in a request: each text counts once, where it first occurs.
use Rattle.std.specs.Prelude.{◌≡◌, ℕ, List, [], ◌∷◌, map, filter, filter_map, not, Option, Some, None, option_and_then, Ok, if◌then◌else◌}
use Rattle.std.specs.Option.{option_or}
use Rattle.std.specs.Str.{bytes_eq}
use Rattle.serde_json.specs.Data.{Data, Items}
use Rattle.serde_json.specs.Find.{as_array}
use Rattle.unl_documents.specs.declared.field.Field.TheVariants as field
use Rattle.unl_documents.specs.Kinds.{at}
use Rattle.unl_tokens.specs.declared.token.Token.{Token}
use Rattle.unl_tokens.specs.Books.{has_text, tokens_from, gathered, book_of}
use Rattle.unl_tokens.specs.Requests.{token_of, known}
use Rattle.unl_tokens.specs.Valid.{HaveDistinctTexts}

-- the list without repetitions: each text once, where it first occurs
unfoldable pub each_once : List (List ℕ) → List (List ℕ)
each_once [] = []
each_once (text ∷ texts) = text ∷ filter (λ other. not (bytes_eq text other)) (each_once texts)

-- the texts of tokens, in their order
abbrev pub texts_of : List Token → List (List ℕ)
texts_of tokens = map (λ token. token.text) tokens

-- the last token with this text
unfoldable pub last_with_text : List ℕ → List Token → Option Token
last_with_text text [] = None
last_with_text text (token ∷ tokens) = option_or (last_with_text text tokens) (if has_text text token then Some token else None)

-- for each text, where it first occurs, the last token with that text
abbrev pub latest : List Token → List Token
latest tokens = filter_map (λ text. last_with_text text tokens) (each_once (texts_of tokens))

-- `gathered` keeps one token for each text, in the position where the text first occurs: the last token with that text
abbrev pub LatestAreGathered : Type 0
LatestAreGathered = (tokens : List Token) → gathered tokens ≡ latest tokens

-- a book that is read from a JSON value has, for each text, the last token with that text in the value's list `tokens`
abbrev pub LatestAreRead : Type 0
LatestAreRead = (value : Data) (entries : Items) (tokens book : List Token)
    → option_and_then as_array (at field.Tokens value) ≡ Some entries → tokens_from 0 entries ≡ Ok tokens
    → book_of value ≡ Ok book → book ≡ latest tokens

-- The tokens returned for the requested texts: the book's token for each text, once, in the order in which the texts first occur. A
-- text without a token in the book is skipped.
abbrev pub KnownOnce : Type 0
KnownOnce = (book : List Token) (asked : List (List ℕ)) → known book asked ≡ filter_map (λ text. token_of text book) (each_once asked)

-- if all tokens of a list have different texts, `gathered` returns the list unchanged
abbrev pub DifferentAreKept : Type 0
DifferentAreKept = (tokens : List Token) → HaveDistinctTexts tokens → gathered tokens ≡ tokens
