use Rattle.std.proofs.Common.{◌≡◌, map, take}
use Rattle.serde_json.specs.View.{view}
use Rattle.unl_words.specs.OwnBook.{own_entry}
use Rattle.unl_words.proofs.book.entries_of.Given as goal

abbrev pub invariant-loop-text : goal.invariant-loop-text
invariant-loop-text l = map view l.entries.items ≡ map (own_entry l.kind) (take l.text-index l.texts)
