use Rattle.std.proofs.Common.{◌≡◌, true, take}
use Rattle.std.specs.List.{list_all}
use Rattle.unl_words.specs.Lists.{is_token}
use Rattle.unl_words.proofs.token.all_tokens.Given as goal

-- The texts so far are tokens.
abbrev pub invariant-loop-text : goal.invariant-loop-text
invariant-loop-text l = list_all (is_token l.may_be_open) (take l.text-index l.texts) ≡ true
