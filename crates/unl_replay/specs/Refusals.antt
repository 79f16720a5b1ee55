-- The result of reading an input line of a replay, and the text that is printed when a line is refused.
use Rattle.std.specs.Prelude.{◌≡◌, ◌≢◌, ⊤, ℕ, List, [], ◌++◌, codes, decimal, Result, Ok, Err}
use Rattle.unl_delta.specs.declared.fault.BadBatch.{BadBatch}
use Rattle.unl_delta.specs.declared.fault.BadBatch.TheVariants as batch
use Rattle.unl_documents.specs.declared.fault.BadDocument.{BadDocument}
use Rattle.unl_documents.specs.declared.fault.BadDocument.TheVariants as document
use Rattle.unl_documents.specs.FaultText.{fault_text}
use Rattle.unl_documents.specs.Reading.{Reading}
use Rattle.unl_input.specs.declared.line.LineRefusal.{LineRefusal}
use Rattle.unl_input.specs.declared.line.LineRefusal.TheVariants as line
use Rattle.unl_tokens.specs.declared.fault.BadBook.{BadBook}
use Rattle.unl_tokens.specs.declared.fault.BadBook.TheVariants as book
use Rattle.unl_replay.specs.declared.refusal.Refusal.{Refusal}
use Rattle.unl_replay.specs.declared.refusal.Refusal.TheVariants.{Document, Book, Batch, NoNumber, TooManyEnvironments, Memory}

-- the value read from a line, or why the line is refused
abbrev pub LineReading : Type 0 → Type 0
LineReading T = Result T Refusal

-- continues a reading, unless it is a refusal
abbrev pub and_then : {A B : Type 0} → LineReading A → (A → LineReading B) → LineReading B
and_then (Ok x) f = f x
and_then (Err e) f = Err e

-- the refusal for a fault of a document
abbrev pub refusal_for : BadDocument → Refusal
refusal_for document.NotJson = Document document.NotJson
refusal_for (document.Missing field) = Document (document.Missing field)
refusal_for (document.WrongKind field) = Document (document.WrongKind field)
refusal_for (document.TooLarge field n) = Document (document.TooLarge field n)
refusal_for (document.DuplicateName field name) = Document (document.DuplicateName field name)
refusal_for (document.NotWhole field) = Document (document.NotWhole field)
refusal_for document.Memory = Memory

-- the refusal for a fault of a token book
abbrev pub refusal_for_book : BadBook → Refusal
refusal_for_book book.NotJson = Book book.NotJson
refusal_for_book (book.BadEntry place) = Book (book.BadEntry place)
refusal_for_book (book.TooMany count) = Book (book.TooMany count)
refusal_for_book book.Memory = Memory

-- the refusal for a fault of a batch
abbrev pub refusal_for_batch : BadBatch → Refusal
refusal_for_batch batch.NotJson = Batch batch.NotJson
refusal_for_batch (batch.BadEvent place) = Batch (batch.BadEvent place)
refusal_for_batch (batch.HydrationNotFirst place) = Batch (batch.HydrationNotFirst place)
refusal_for_batch (batch.NotRising place) = Batch (batch.NotRising place)
refusal_for_batch batch.Memory = Memory

-- the result, with `fault` applied to its error if it has one
abbrev pub refusing : {A E F : Type 0} → (E → F) → Result A E → Result A F
refusing fault (Ok x) = Ok x
refusing fault (Err e) = Err (fault e)

-- the result of reading a document in a line, with its fault converted to a refusal
abbrev pub documented : {A : Type 0} → Reading A → LineReading A
documented = refusing refusal_for

-- ---- the text of a refusal

-- a word and a number, separated by a space
abbrev pub numbered : List ℕ → ℕ → List ℕ
numbered word n = word ++ (codes " " ++ decimal n)

-- the text for a fault of a token book
abbrev pub book_text : BadBook → List ℕ
book_text book.NotJson = codes "BadBook 1"
book_text (book.BadEntry place) = numbered (codes "BadBook 2") place
book_text (book.TooMany count) = numbered (codes "BadBook 3") count
book_text book.Memory = []

-- the text for a fault of a batch
abbrev pub batch_text : BadBatch → List ℕ
batch_text batch.NotJson = codes "BadBatch 1"
batch_text (batch.BadEvent place) = numbered (codes "BadBatch 2") place
batch_text (batch.HydrationNotFirst place) = numbered (codes "BadBatch 3") place
batch_text (batch.NotRising place) = numbered (codes "BadBatch 4") place
batch_text batch.Memory = []

-- the text for a refusal; `Memory` is no refusal and has no text
abbrev pub refusal_text : Refusal → List ℕ
refusal_text (Document fault) = fault_text fault
refusal_text (Book fault) = book_text fault
refusal_text (Batch fault) = batch_text fault
refusal_text NoNumber = codes "NoNumber"
refusal_text TooManyEnvironments = codes "TooManyEnvironments"
refusal_text Memory = []

-- If a cause is printed, the refusal is not `Memory`, and the cause is the refusal's text. If memory ran out, nothing is claimed.
abbrev pub Causes : LineRefusal → Refusal → Type 0
Causes (line.Cause text) refusal = (refusal ≢ Memory) × (text ≡ refusal_text refusal)
Causes line.Memory refusal = ⊤
