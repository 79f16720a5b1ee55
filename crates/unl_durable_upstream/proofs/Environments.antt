-- The environments of arguments that were checked have pairwise different names.
use Rattle.std.proofs.Common.{◌≡◌, ◌&&◌, true, List, [], ◌∷◌, ℕ}
use Rattle.std.specs.List.{list_all}
use Rattle.clap.proofs.WalkLemmas.{both}
use Rattle.unl_core.specs.Board.{AreDifferent}
use Rattle.unl_documents.specs.Texts.{is_name}
use Rattle.unl_words.specs.Lists.{are_different, are_environments, has_count}
use Rattle.unl_words.proofs.Known.{others_differ}

-- names that pass the check `are_different` are pairwise different
differ : (texts : List (List ℕ)) → are_different texts ≡ true → AreDifferent texts
differ [] once = tt
differ (name ∷ texts) once =
    let parts = others_differ name texts once in (parts.0, differ texts parts.1)

-- environments that pass the check `are_environments` are pairwise different
pub words_differ : (environments : List (List ℕ)) → are_environments environments ≡ true → AreDifferent environments
words_differ environments are =
    let parts = both (has_count 1 8 environments) (list_all is_name environments && are_different environments) are in
    differ environments (both (list_all is_name environments) (are_different environments) parts.1).1
