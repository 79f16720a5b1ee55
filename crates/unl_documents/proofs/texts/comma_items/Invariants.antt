use Rattle.std.proofs.Common.{◌≡◌, ◌++◌, length}
use denote.Shadow.{shadow}
use denote.Text.{Utf8}
use Rattle.unl_documents.specs.Texts.{parts, items_among}
use Rattle.unl_documents.proofs.texts.comma_items.Given as goal

abbrev pub invariant-loop-part : goal.invariant-loop-part
invariant-loop-part l = record {
  text : shadow (Utf8 l.rest);
  goes_on : l.items ++ items_among (parts 44 l.rest) ≡ items_among (parts 44 l.text);
}

abbrev pub decreases-loop-part : goal.decreases-loop-part
decreases-loop-part l = length l.rest
