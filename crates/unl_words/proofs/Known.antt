-- Properties of values that passed their tests.
use Rattle.std.proofs.Common.{◌≡◌, ◌∙◌, ◌≤◌, ◌&&◌, ◌||◌, ℕ, Bool, true, false, not, List, [], ◌∷◌, length, All, Ok, Err, arith, nat_le, nat_lt, refl, sym, true≢false}
use Rattle.std.proofs.lemmas.Bool.Decides.{nat_tests}
use Rattle.std.proofs.lemmas.List.Elements.{All-cons, All-nil}
use Rattle.std.proofs.lemmas.Slice.Eq.{bytes_eq-Decides}
use Rattle.std.specs.Prelude.{Result}
use Rattle.std.specs.List.{list_all}
use Rattle.std.specs.Str.{bytes_eq}
use Rattle.clap.proofs.WalkLemmas.{both}
use Rattle.clap.specs.Words.{Text}
use Rattle.unl_documents.specs.Limits.{IsName, IsUpTo}
use Rattle.unl_documents.specs.Texts.{is_name}
use Rattle.unl_tokens.specs.declared.fault.BadToken.{BadToken}
use Rattle.unl_tokens.specs.declared.projects.Projects.{Projects}
use Rattle.unl_tokens.specs.declared.projects.Projects.TheVariants as projects
use Rattle.unl_tokens.specs.declared.scope.Scope.{Scope}
use Rattle.unl_tokens.specs.Names.{AreNames, are_names, is_one_of}
use Rattle.unl_tokens.specs.Scopes.{scope_of}
use Rattle.unl_words.specs.Lists.{are_different, has_count, is_named, is_token}
use Rattle.unl_words.specs.Values.{is_line}

-- If `has_count` is true, the number of items is within its bounds.
pub counted : (least most : ℕ) (items : List Text) → has_count least most items ≡ true → (least ≤ length items) × (length items ≤ most)
counted least most items has =
    let parts = both (nat_le least (length items)) (nat_le (length items) most) has in
    (grind (arith, nat_tests), grind (arith, nat_tests))

-- A text that passes the test is a name.
pub name_is : (text : Text) → is_name text ≡ true → IsName text
name_is text is =
    let parts = both (nat_lt 0 (length text)) (nat_le (length text) 255) is in
    (grind (arith, nat_tests), grind (arith, nat_tests))

-- Texts that pass the test are names.
pub names_are : (texts : List Text) → list_all is_name texts ≡ true → All IsName texts
names_are [] are = All-nil IsName
names_are (text ∷ texts) are =
    let parts = both (is_name text) (list_all is_name texts) are in
    All-cons IsName text texts (name_is text parts.0) (names_are texts parts.1)

denied : (b : Bool) → not b ≡ true → b ≡ false
denied true e = absurd (true≢false (sym e))
denied false e = refl

neither : (a b : Bool) → (a || b) ≡ false → (a ≡ false) × (b ≡ false)
neither true b e = absurd (true≢false e)
neither false b e = (refl, e)

none_equal : (text : Text) (texts : List Text) → is_one_of text texts ≡ false → All (λ (other : Text). ¬ (other ≡ text)) texts
none_equal text [] none = All-nil (λ (other : Text). ¬ (other ≡ text))
none_equal text (other ∷ others) none =
    let parts = neither (bytes_eq other text) (is_one_of text others) none in
    All-cons (λ (other : Text). ¬ (other ≡ text)) other others
    (λ same. true≢false (sym ((bytes_eq-Decides other text).1 same) ∙ parts.0))
    (none_equal text others parts.1)

-- If texts are distinct, the first is not among the others, and the others are distinct.
pub others_differ : (text : Text) (texts : List Text) → are_different (text ∷ texts) ≡ true
    → All (λ (other : Text). ¬ (other ≡ text)) texts × (are_different texts ≡ true)
unfolding are_different
others_differ text texts differ =
    let parts = both (not (is_one_of text texts)) (are_different texts) differ in
    (none_equal text texts (denied (is_one_of text texts) parts.0), parts.1)

projects_are : (projects : Projects) → are_names projects ≡ true → AreNames projects
projects_are projects.All are = tt
projects_are (projects.Only names) are = names_are names are

-- A text that is read as a token, with names as its environment and projects.
pub record IsTokenText (text : Text) : Type 0 where
  pub few : IsUpTo 512 text
  pub scope : Scope
  pub spelled : scope_of text ≡ Ok scope
  pub environment : IsName scope.environment
  pub projects : AreNames scope.projects

named_is : (may_be_open : Bool) (text : Text) (reading : Result Scope BadToken) → scope_of text ≡ reading → is_named may_be_open reading ≡ true
    → IsUpTo 512 text → IsTokenText text
named_is may_be_open text (Ok scope) spelled named few =
    let parts = both (is_name scope.environment) (are_names scope.projects && (may_be_open || not scope.listed)) named in
    let rest = both (are_names scope.projects) (may_be_open || not scope.listed) parts.1 in
    record {
      few = few;
      scope = scope;
      spelled = spelled;
      environment = name_is scope.environment parts.0;
      projects = projects_are scope.projects rest.0;
    }
named_is may_be_open text (Err e) spelled named few = absurd (true≢false (sym named))

-- A text that passes the test is a token.
pub token_is : (may_be_open : Bool) (text : Text) → is_token may_be_open text ≡ true → IsTokenText text
token_is may_be_open text is =
    let parts = both (nat_le (length text) 512) (is_line text && is_named may_be_open (scope_of text)) is in
    let rest = both (is_line text) (is_named may_be_open (scope_of text)) parts.1 in
    let few : length text ≤ 512 = grind (arith, nat_tests) in
    named_is may_be_open text (scope_of text) refl rest.1 few
