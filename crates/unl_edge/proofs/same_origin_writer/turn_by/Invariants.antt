use Rattle.unl_edge.proofs.same_origin_writer.turn_by.Given as goal

-- `K.known` is what the writer knows
abbrev pub ghosts-turn_from : goal.ghosts-turn_from
ghosts-turn_from g a = record { known = a.writer.known }
