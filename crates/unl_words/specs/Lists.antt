-- How comma-separated lists of environments and of tokens are read. A name has 1 to 255 bytes.
use Rattle.std.specs.Prelude.{◌&&◌, ◌||◌, ◌+◌, ◌++◌, not, ℕ, Bool, true, false, List, [], ◌∷◌, map, length, nat_le, Result, Ok, Err}
use Rattle.std.specs.List.{list_all}
use Rattle.clap.specs.Words.{Text}
use Rattle.unl_documents.specs.Texts.{comma_items, is_name}
use Rattle.unl_tokens.specs.declared.fault.BadToken.{BadToken}
use Rattle.unl_tokens.specs.declared.scope.Scope.{Scope}
use Rattle.unl_tokens.specs.Names.{are_names, is_one_of}
use Rattle.unl_tokens.specs.Scopes.{scope_of}
use Rattle.unl_words.specs.Values.{Value, is_line, passed}

-- The list has `least` to `most` items.
abbrev pub has_count : ℕ → ℕ → List Text → Bool
has_count least most items = nat_le least (length items) && nat_le (length items) most

-- The texts are distinct.
unfoldable pub are_different : List Text → Bool
are_different [] = true
are_different (text ∷ texts) = not (is_one_of text texts) && are_different texts

-- No text of the first list is also in the second.
abbrev pub are_apart : List Text → List Text → Bool
are_apart texts others = list_all (λ text. not (is_one_of text others)) texts

-- ---- tokens

-- The text was read as a token whose environment and projects are names. If the text has `[]` in place of a project, so that it does not
-- name the token's projects, `may_be_open` must be true.
abbrev pub is_named : Bool → Result Scope BadToken → Bool
is_named may_be_open (Ok scope) = is_name scope.environment && (are_names scope.projects && (may_be_open || not scope.listed))
is_named may_be_open (Err e) = false

-- The text is a token: it has at most 512 bytes, none of which is a carriage return, line feed or NUL, and it can be read as a token whose
-- environment and projects are names. If it has `[]` in place of a project, so that it does not name the token's projects,
-- `may_be_open` must be true.
abbrev pub is_token : Bool → Text → Bool
is_token may_be_open text = nat_le (length text) 512 && (is_line text && is_named may_be_open (scope_of text))

-- The text, if it is a token. It may have `[]` in place of a project.
abbrev pub token_of : Text → Value Text
token_of text = passed (is_token true text) text

-- The environment of a token that was read, empty if it could not be read.
abbrev pub environment_in : Result Scope BadToken → Text
environment_in (Ok scope) = scope.environment
environment_in (Err e) = []

-- The environment of a token, empty if the text can't be read as one.
abbrev pub environment_of : Text → Text
environment_of text = environment_in (scope_of text)

-- ---- lists

-- The items are 1 to 8 distinct names.
abbrev pub are_environments : List Text → Bool
are_environments items = has_count 1 8 items && (list_all is_name items && are_different items)

-- The items are 1 to 8 tokens with distinct environments.
abbrev pub are_upstream_tokens : List Text → Bool
are_upstream_tokens items = has_count 1 8 items && (list_all (is_token true) items && are_different (map environment_of items))

-- The items are 1 to 1,024 tokens.
abbrev pub are_tokens : List Text → Bool
are_tokens items = has_count 1 1024 items && list_all (is_token true) items

-- The items are tokens with one project or all projects each.
abbrev pub are_own_tokens : List Text → Bool
are_own_tokens items = list_all (is_token false) items

-- There are at most 1,024 tokens of both kinds together, with distinct texts.
abbrev pub fit_one_book : List Text → List Text → Bool
fit_one_book client frontend = nat_le (length client + length frontend) 1024 && are_different (client ++ frontend)

-- The items of a comma-separated list, if they pass the test.
abbrev pub items_of : (List Text → Bool) → Text → Value (List Text)
items_of pass text = passed (pass (comma_items text)) (comma_items text)
