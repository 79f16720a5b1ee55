-- The tokens that an upstream knows, from the texts in its arguments.
use Rattle.std.specs.Prelude.{ℕ, List, [], ◌++◌, codes, map, Result, Ok, Err}
use Rattle.serde_json.specs.Data.{Data, string, array, object, no_members}
use Rattle.serde_json.specs.View.{items_of}
use Rattle.unl_documents.specs.declared.field.Field.TheVariants as field
use Rattle.unl_documents.specs.Writing.{with}
use Rattle.unl_tokens.specs.declared.fault.BadBook.{BadBook}
use Rattle.unl_tokens.specs.declared.token.Token.{Token}
use Rattle.unl_tokens.specs.Books.{book_of}

-- The JSON entry of a token: its text and its kind. It has no list of projects, so the projects are those that the text names.
unfoldable pub own_entry : List ℕ → List ℕ → Data
own_entry kind text = object (
    with field.Token (string text) (
    with field.Kind (string kind)
    no_members))

-- The entries of the client tokens, then those of the frontend tokens.
abbrev pub own_entries : List (List ℕ) → List (List ℕ) → List Data
own_entries clients frontends = map (own_entry (codes "client")) clients ++ map (own_entry (codes "frontend")) frontends

-- The JSON value that lists these tokens, in the form that `book_of` reads.
unfoldable pub own_answer : List (List ℕ) → List (List ℕ) → Data
own_answer clients frontends = object (
    with field.Tokens (array (items_of (own_entries clients frontends)))
    no_members)

-- The tokens that were read, or none if reading failed.
abbrev pub tokens_read : Result (List Token) BadBook → List Token
tokens_read (Ok tokens) = tokens
tokens_read (Err fault) = []

-- The token book (the list of known tokens) for both lists, read from that JSON value. It is empty if reading fails, which can't happen if
-- the arguments are in their ranges.
unfoldable pub own_book : List (List ℕ) → List (List ℕ) → List Token
own_book clients frontends = tokens_read (book_of (own_answer clients frontends))
