use Rattle.std.proofs.Common.{◌≡◌, ◌++◌, drop, length, map}
use Rattle.unl_refresh.specs.SlotParameters.{no_tags, parameters_of, slot_parameters, tag_of}
use Rattle.unl_refresh.proofs.slot_pollers.pollers_of.Given as goal

-- the pollers of the tokens before this one are created; those of this token and the later ones are still to be created
abbrev pub invariant-loop-place : goal.invariant-loop-place
invariant-loop-place l = record {
  count : length l.slot_pollers.items ≡ l.place;
  made : map parameters_of l.slot_pollers.items ++ slot_parameters l.host l.delta (drop l.place l.tokens) (drop l.place l.environments)
      ≡ slot_parameters l.host l.delta l.tokens l.environments;
  tags : map tag_of l.slot_pollers.items ++ no_tags (drop l.place l.tokens) ≡ no_tags l.tokens;
}
