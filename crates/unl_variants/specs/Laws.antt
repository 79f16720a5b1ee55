-- The statements of the theorems of this crate: the function `choice_of` and the relation `IsChosen` agree.
use Rattle.std.specs.Prelude.{◌≡◌, ℕ, List, Option}
use Rattle.unl_documents.specs.declared.variant.Variant.{Variant}
use Rattle.unl_context.specs.Context.{Fields}
use Rattle.unl_variants.specs.Variant.{IsChosen, choice_of}

-- the result of `choice_of` satisfies `IsChosen`
abbrev pub ChoiceIsChosen : Type 0
ChoiceIsChosen = (group : List ℕ) (variants : List Variant) (context : Fields) (random : ℕ)
    → IsChosen group variants context random (choice_of group variants context random)

-- any choice that satisfies `IsChosen` is the result of `choice_of`
abbrev pub OnlyChoiceIsChosen : Type 0
OnlyChoiceIsChosen = (group : List ℕ) (variants : List Variant) (context : Fields) (random : ℕ) (choice : Option ℕ)
    → IsChosen group variants context random choice → choice ≡ choice_of group variants context random
