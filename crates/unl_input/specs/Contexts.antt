-- The context at the key `context` of an input.
use Rattle.std.specs.Prelude.{unwrap_or, Result, Ok, Err}
use Rattle.serde_json.specs.Data.{Data, object, no_members}
use Rattle.unl_context.specs.declared.fault.BadContext.{BadContext}
use Rattle.unl_context.specs.declared.fault.BadContext.TheVariants as of_context
use Rattle.unl_context.specs.Context.{Fields}
use Rattle.unl_context.specs.Json.{json_context}
use Rattle.unl_documents.specs.declared.fault.BadDocument.{BadDocument}
use Rattle.unl_documents.specs.declared.fault.BadDocument.TheVariants.{WrongKind, TooLarge, Memory}
use Rattle.unl_documents.specs.declared.field.Field.TheVariants as field
use Rattle.unl_documents.specs.Kinds.{at}
use Rattle.unl_documents.specs.Reading.{Reading}

-- The fault of a context, converted to the fault of a document at the key `context`. The part of the context at fault is not
-- kept.
abbrev pub context_fault : BadContext → BadDocument
context_fault of_context.NotObject = WrongKind field.Context
context_fault (of_context.WrongKind part) = WrongKind field.Context
context_fault of_context.TooLarge = TooLarge field.Context 0
context_fault of_context.Memory = Memory

-- The result of reading a context, with a fault converted to the fault of a document at the key `context`.
abbrev pub at_context : Result Fields BadContext → Reading Fields
at_context (Ok context) = Ok context
at_context (Err fault) = Err (context_fault fault)

-- The context at the key `context` of an object. If the key is absent or null, the context is empty.
unfoldable pub context_in : Data → Reading Fields
context_in value = at_context (json_context (unwrap_or (at field.Context value) (object no_members)))
