-- The context of a user, and the visible part of a state.
use Rattle.std.proofs.Common.{◌≡◌, ◌∙◌, ◌<◌, ◌≤◌, ◌^◌, ℕ, Bool, true, false, List, [], ◌∷◌, length, codes, decimal, filter, nat_lt, Option, Ok, Some, refl, ap, arith}
use Rattle.std.specs.Option.{option_map_or}
use Rattle.std.proofs.lemmas.Bool.Decides.{nat_tests}
use Rattle.std.proofs.lemmas.Fmt.{length-decimal-le}
use Rattle.serde_json.specs.Data.{Data, member, no_members, object, string}
use Rattle.unl_context.specs.Context.{Fields, nothing}
use Rattle.unl_context.specs.Json.{context_of as context_in, json_context, known_text, properties_at}
use Rattle.unl_context.specs.Reading.{Reading}
use Rattle.unl_context.specs.Values.{at, text_in}
use Rattle.unl_delta.specs.View.{view_of}
use Rattle.unl_dependencies.specs.declared.evaluation.Evaluation.{Evaluation}
use Rattle.unl_dependencies.specs.Evaluation.{evaluation_of}
use Rattle.unl_documents.specs.declared.state.State.{State}
use Rattle.unl_tokens.specs.declared.projects.Projects.TheVariants as projects
use Rattle.unl_tokens.specs.Names.{sees}
use Rattle.unl_load.specs.Input.{beginning, user_context, is_on_for, name_of}

reads : (text : List ℕ) → nat_lt 4096 (length text) ≡ false
    → json_context (object (member (codes "userId") (string text) no_members)) ≡ Ok (record nothing { user_id = Some text })
unfolding json_context context_in known_text properties_at at text_in
reads text short = rw short refl

-- a user's number in JSON is read as the context of that user
pub user_read : (user : ℕ) → user < 2 ^ 32 → json_context (object (member (codes "userId") (string (decimal user)) no_members)) ≡ Ok (user_context user)
unfolding user_context
user_read user few =
    let short : length (decimal user) ≤ 10 = length-decimal-le 10 user (omega arith) (omega (arith, few)) (omega (arith, few)) in
    let over : nat_lt 4096 (length (decimal user)) ≡ false = grind (arith, nat_tests) in
    reads (decimal user) over

one_reading : (reading : Reading Fields) (context other : Fields) → reading ≡ Ok context → reading ≡ Ok other → context ≡ other
one_reading reading context other reads also = cc

-- the context that is read is the context of this user
pub same_context : (user : ℕ) (value : Data) (text number : List ℕ) (context : Fields) → user < 2 ^ 32
    → value ≡ object (member (codes "userId") (string text) no_members) → text ≡ number → number ≡ decimal user
    → json_context value ≡ Ok context → context ≡ user_context user
same_context user value text number context few valued texted numbered reads =
    let spelled = valued ∙ ap (λ t. object (member (codes "userId") (string t) no_members)) (texted ∙ numbered) in
    one_reading (json_context value) context (user_context user) reads (ap json_context spelled ∙ user_read user few)

all_pass : {T : Type 0} (xs : List T) → filter (λ _. true) xs ≡ xs
all_pass [] = refl
all_pass (x ∷ xs) = ap (λ ys. x ∷ ys) (all_pass xs)

-- if all projects are visible, so is the whole state
pub all_seen : (state : State) → view_of (sees projects.All) state ≡ state
all_seen state = ap (λ features. record { features = features; segments = state.segments }) (all_pass state.features)

-- whether the evaluation that was found is on (false if none was found) is the result that is specified for the ask
pub found_is : (state : State) (feature user : ℕ) (name text : List ℕ) (context : Fields) (found : Option Evaluation) (on : Bool)
    → name ≡ name_of feature → text ≡ name → context ≡ user_context user
    → found ≡ evaluation_of (view_of (sees projects.All) state) text context beginning
    → on ≡ option_map_or (λ e. e.on) found false → on ≡ is_on_for state (record { feature = feature; user = user })
unfolding is_on_for
found_is state feature user name text context found on named texted placed is answered =
    let seen = view_of (sees projects.All) state in
    answered ∙ ap (λ f. option_map_or (λ e. e.on) f false) (is
    ∙ ap (λ t. evaluation_of seen t context beginning) (texted ∙ named)
    ∙ ap (λ c. evaluation_of seen (name_of feature) c beginning) placed
    ∙ ap (λ s. evaluation_of s (name_of feature) (user_context user) beginning) (all_seen state))
