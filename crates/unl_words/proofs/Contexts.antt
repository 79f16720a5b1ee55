-- Contexts that are read from a query.
use Rattle.std.proofs.Common.{◌≡◌, ◌∙◌, ◌&&◌, not, Bool, true, false, length, Some, Ok, Err, cond, refl, sym, subst, ap, arith, nat_lt, true≢false}
use Rattle.std.proofs.lemmas.Bool.Decides.{nat_tests}
use Rattle.std.specs.List.{list_all}
use Rattle.clap.specs.Words.{Text}
use Rattle.unl_context.specs.Context.{Fields}
use Rattle.unl_context.specs.Limits.{is_within_limits, property_fits, text_fits}
use Rattle.unl_context.specs.Query.{pairs_of, query_context, set_by}
use Rattle.unl_context.specs.declared.fault.BadContext.TheVariants.{TooLarge}
use Rattle.unl_documents.specs.Limits.{IsName}
use Rattle.unl_words.specs.Lists.{environment_in, environment_of, is_token}
use Rattle.unl_words.specs.Values.{placed}
use Rattle.unl_words.proofs.Known.{token_is}

passed : (made context : Fields) (within : Bool) → is_within_limits made ≡ within
    → cond within (Ok made) (Err TooLarge) ≡ Ok context → is_within_limits context ≡ true
passed made context true is same = let here : made ≡ context = cc in subst (λ (c : Fields). is_within_limits c ≡ true) here is
passed made context false is same = absurd cc

-- A context that is read from a query is within its limits.
pub query_within : (query : Text) (context : Fields) → query_context query ≡ Ok context → is_within_limits context ≡ true
unfolding query_context
query_within query context reads = passed (set_by (pairs_of query)) context (is_within_limits (set_by (pairs_of query))) refl reads

swapped : (a b c d e f g h i : Bool) → (a && b && c && d && e && f && g && h) ≡ true → i ≡ true → (a && b && c && i && e && f && g && h) ≡ true
swapped true true true true e f g h true all is = all
swapped true true true false e f g h i all is = absurd (true≢false (sym all))
swapped true true false d e f g h i all is = absurd (true≢false (sym all))
swapped true false c d e f g h i all is = absurd (true≢false (sym all))
swapped false b c d e f g h i all is = absurd (true≢false (sym all))
swapped true true true true e f g h false all is = absurd (true≢false (sym is))

short : (name : Text) → IsName name → text_fits (Some name) ≡ true
short name is =
    let over : nat_lt 4096 (length name) ≡ false = grind (arith, nat_tests) in
    ap not over

-- A context stays within its limits when its environment is set to that of a token.
pub placed_within : (token : Text) (context : Fields) → is_token true token ≡ true → is_within_limits context ≡ true
    → is_within_limits (placed (environment_of token) context) ≡ true
unfolding is_within_limits
placed_within token context is within =
    let known = token_is true token is in
    let named : environment_of token ≡ known.scope.environment = ap environment_in known.spelled in
    swapped (text_fits context.user_id) (text_fits context.session_id) (text_fits context.remote_address) (text_fits context.environment)
    (text_fits context.app_name) (text_fits context.current_time) (list_all property_fits context.properties) _ (text_fits (Some (environment_of token)))
    within (ap (λ text. text_fits (Some text)) named ∙ short known.scope.environment known.environment)
