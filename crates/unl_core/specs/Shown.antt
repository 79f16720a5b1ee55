-- Finds the token of a request in the token book (the list of known tokens), and the version of that token's environment.
use Rattle.std.specs.Prelude.{ℕ, List, Bool, true, false, Option, Some, None, option_map, option_and_then, slice_get, if◌then◌else◌}
use Rattle.std.specs.Prelude.{Result, Ok, Err}
use Rattle.unl_delta.specs.declared.version.EnvVersion.{EnvVersion}
use Rattle.unl_http_api.specs.declared.request.Request.{Request}
use Rattle.unl_tokens.specs.declared.kind.Kind.{Kind}
use Rattle.unl_tokens.specs.declared.kind.Kind.TheVariants.{Client, Frontend}
use Rattle.unl_tokens.specs.declared.token.Token.{Token}
use Rattle.unl_tokens.specs.Books.{place_of_text}
use Rattle.unl_core.specs.declared.board.Board.{Board}
use Rattle.unl_core.specs.declared.shown.TokenRefusal.{TokenRefusal}
use Rattle.unl_core.specs.declared.shown.TokenRefusal.TheVariants.{NoToken, UnknownToken, WrongKind, NotReady}
use Rattle.unl_core.specs.Board.{snapshot_in}

-- A token of the book, and its position in the book, from 0.
pub record Shown : Type 0 where
  pub place : ℕ
  pub token : Token

-- A token of the book with its position, and the version of its environment.
pub record Ready : Type 0 where
  pub place : ℕ
  pub token : Token
  pub version : EnvVersion

-- Whether two kinds are equal.
abbrev pub is_kind : Kind → Kind → Bool
is_kind Client Client = true
is_kind Client Frontend = false
is_kind Frontend Client = false
is_kind Frontend Frontend = true

-- The token at a position, with the position. `None` if the book has no such position.
abbrev pub shown_at : List Token → ℕ → Option Shown
shown_at book place = option_map (λ token. record { place = place; token = token }) (slice_get book place)

-- The token of the book that has this text, with its position. `None` if there is no such token.
abbrev pub entry_of : List ℕ → List Token → Option Shown
entry_of text book = option_and_then (shown_at book) (place_of_text text book)

-- The found token, if there is one and it is of this kind; otherwise the refusal `UnknownToken` or `WrongKind`.
abbrev pub of_kind : Kind → Option Shown → Result Shown TokenRefusal
of_kind kind None = Err UnknownToken
of_kind kind (Some shown) = if is_kind shown.token.kind kind then Ok shown else Err WrongKind

-- The token with this text, if a text is given, the book has the token, and the token is of this kind; otherwise the refusal `NoToken`,
-- `UnknownToken` or `WrongKind`.
abbrev pub shown_text : Board → Kind → Option (List ℕ) → Result Shown TokenRefusal
shown_text board kind None = Err NoToken
shown_text board kind (Some text) = of_kind kind (entry_of text board.book)

-- The token of a request, if the book has the token and the token is of this kind; otherwise the refusal.
abbrev pub shown_by : Board → Request → Kind → Result Shown TokenRefusal
shown_by board q kind = shown_text board kind q.token

-- The token with the version of its environment. If there is no version, the refusal is `NotReady`.
abbrev pub with_its_version : Shown → Option EnvVersion → Result Ready TokenRefusal
with_its_version shown None = Err NotReady
with_its_version shown (Some version) = Ok (record { place = shown.place; token = shown.token; version = version })

-- The token with the version of its environment, or the refusal: the given one, or `NotReady` if there is no version.
abbrev pub ready_for : Board → Result Shown TokenRefusal → Result Ready TokenRefusal
ready_for board (Err unseen) = Err unseen
ready_for board (Ok shown) = with_its_version shown (snapshot_in shown.token.environment board.slots)

-- The token of a request, if the book has the token and the token is of this kind, with the version of its environment; otherwise the
-- refusal.
abbrev pub ready_by : Board → Request → Kind → Result Ready TokenRefusal
ready_by board q kind = ready_for board (shown_by board q kind)
