-- The tokens of the JSON text of values and object members.
use Rattle.std.specs.Prelude.{◌≡◌, List, [], ◌∷◌, ◌++◌, Option, Some, None, flat_map}
use Rattle.json.specs.Token.{Token, key, string}
use Rattle.json.specs.Tree.{json_tokens}
use Rattle.json.specs.Written.{Written}
use Rattle.serde_json.specs.Data.{Data}
use Rattle.serde_json.specs.Written.{outline}
use Rattle.unl_documents.specs.declared.field.Field.{Field}
use Rattle.unl_documents.specs.declared.parameters.Pair.{Pair}
use Rattle.unl_documents.specs.Key.{key_of}

-- The tokens of a value.
abbrev pub tokens_of : Data → List Token
tokens_of d = json_tokens (outline d)

-- The tokens of several values in order.
abbrev pub all_tokens : List Data → List Token
all_tokens ds = flat_map tokens_of ds

-- The tokens of an optional value; no tokens for `None`.
abbrev pub tokens_if : Option Data → List Token
tokens_if None = []
tokens_if (Some d) = tokens_of d

-- The tokens of a key and its value.
abbrev pub tokens_at : Field → Data → List Token
tokens_at field d = key (key_of field) ∷ tokens_of d

-- The tokens of a key and its optional value; no tokens for `None`.
abbrev pub tokens_at_some : Field → Option Data → List Token
tokens_at_some field None = []
tokens_at_some field (Some d) = tokens_at field d

-- The tokens of pairs as members of an object, in order.
abbrev pub pair_tokens : List Pair → List Token
pair_tokens pairs = flat_map (λ p. key p.key ∷ string p.value ∷ []) pairs

-- A writer went from `old` to `new` by appending the tokens `ts`. `before`, which its buffer held before any token, is unchanged.
pub record Wrote (ts : List Token) (old new : Written) : Type 0 where
  pub before : new.before ≡ old.before
  pub tokens : new.tokens ≡ old.tokens ++ ts
