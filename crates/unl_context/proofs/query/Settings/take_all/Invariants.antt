use Rattle.std.proofs.Common.{◌≡◌, map, fold}
use Rattle.form_urlencoded.specs.Parse.{pairs_left}
use Rattle.unl_context.specs.Query.{text_pair, pairs_of, with_pair}
use Rattle.unl_context.proofs.query.Settings.take_all.Given as goal

abbrev pub invariant-loop-pair : goal.invariant-loop-pair
invariant-loop-pair l = fold with_pair l.self (map text_pair (pairs_left l.pair-iterator)) ≡ fold with_pair l.fn.self (pairs_of l.fn.query)
