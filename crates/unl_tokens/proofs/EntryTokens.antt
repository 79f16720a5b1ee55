-- The lexical tokens of the JSON that is printed for entries and answers.
use Rattle.std.proofs.Common.{◌≡◌, [], ◌∷◌, ◌++◌, List, map, refl, ap, ◌∙◌, append_assoc}
use Rattle.json.specs.Token.{begin_object, end_object, begin_array, end_array, key, string as string_token}
use Rattle.unl_documents.specs.declared.field.Field.TheVariants as field
use Rattle.unl_documents.specs.Key.{key_of}
use Rattle.unl_documents.specs.Tokens.{tokens_of, tokens_at}
use Rattle.unl_documents.proofs.Tokens.{list_tokens}
use Rattle.serde_json.specs.Data.{string}
use Rattle.unl_tokens.specs.declared.token.Token.{Token}
use Rattle.unl_tokens.specs.Kinds.{word_of}
use Rattle.unl_tokens.specs.Requests.{projects_data, token_data, token_tokens, answer_data}

-- an entry, with its keys in byte order
pub entry_tokens : (t : Token)
    → tokens_of (token_data t)
    ≡ begin_object ∷ (tokens_at field.Projects (projects_data t.projects) ++ (tokens_at field.Token (string t.text)
    ++ (key (key_of field.Kind) ∷ (string_token (word_of t.kind) ∷ end_object ∷ []))))
unfolding token_data
entry_tokens t = refl

-- an answer, with its entries in brackets
pub answer_tokens : (tokens : List Token)
    → tokens_of (answer_data tokens)
    ≡ begin_object ∷ (key (key_of field.Tokens) ∷ (begin_array ∷ (token_tokens tokens ++ (end_array ∷ end_object ∷ []))))
unfolding answer_data
answer_tokens tokens =
    let opened = begin_object ∷ (key (key_of field.Tokens) ∷ []) in
    ap (λ ts. opened ++ (ts ++ end_object ∷ [])) (list_tokens (map token_data tokens)) ∙ ap (λ ts. opened ++ (begin_array ∷ ts)) (append_assoc (token_tokens tokens) (end_array ∷ []) (end_object ∷ []))
