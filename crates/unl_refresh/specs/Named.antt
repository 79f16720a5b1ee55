-- Which outcomes of a refresh, and which reasons why a reply can't be parsed, report no allocation failure. (If memory runs out, the
-- refresh returns an error and no outcome.)
use Rattle.std.specs.Prelude.{◌≢◌, ⊤}
use Rattle.unl_delta.specs.declared.fault.BadBatch.TheVariants.{Memory as no_memory_for_batch}
use Rattle.unl_documents.specs.declared.fault.BadDocument.TheVariants.{Memory as no_memory_for_document}
use Rattle.unl_http_api.specs.declared.got.BadReply.TheVariants.{Memory as no_memory_for_reply}
use Rattle.unl_tokens.specs.declared.fault.BadBook.TheVariants.{Memory as no_memory_for_book}
use Rattle.unl_refresh.specs.declared.outcome.Bad.{Bad}
use Rattle.unl_refresh.specs.declared.outcome.Bad.TheVariants.{Reply, Feed, NoNumber, Batch, Book}
use Rattle.unl_refresh.specs.declared.outcome.Outcome.{Outcome}
use Rattle.unl_refresh.specs.declared.outcome.Outcome.TheVariants.{Published, Unchanged, Repeat, Old, Gap, Held, Refused, BadAnswer}

-- The reason is not an allocation failure.
abbrev pub IsNamed : Bad → Type 0
IsNamed (Reply fault) = fault ≢ no_memory_for_reply
IsNamed (Feed fault) = fault ≢ no_memory_for_document
IsNamed NoNumber = ⊤
IsNamed (Batch fault) = fault ≢ no_memory_for_batch
IsNamed (Book fault) = fault ≢ no_memory_for_book

-- The outcome does not report an allocation failure.
abbrev pub IsNamedOutcome : Outcome → Type 0
IsNamedOutcome (Published front) = ⊤
IsNamedOutcome Unchanged = ⊤
IsNamedOutcome Repeat = ⊤
IsNamedOutcome Old = ⊤
IsNamedOutcome Gap = ⊤
IsNamedOutcome Held = ⊤
IsNamedOutcome (Refused status) = ⊤
IsNamedOutcome (BadAnswer bad) = IsNamed bad
