-- The text that reports a `BadDocument`.
use Rattle.std.specs.Prelude.{ℕ, List, [], ◌++◌, codes, decimal}
use Rattle.serde_json.specs.Data.{string}
use Rattle.serde_json.specs.Written.{compact_text}
use Rattle.unl_documents.specs.declared.fault.BadDocument.{BadDocument}
use Rattle.unl_documents.specs.declared.fault.BadDocument.TheVariants.{NotJson, Missing, WrongKind, TooLarge, DuplicateName, NotWhole}
use Rattle.unl_documents.specs.declared.fault.BadDocument.TheVariants.{Memory}
use Rattle.unl_documents.specs.Key.{key_of}

-- The text of a fault, which is empty for `Memory`. For other faults, the text is the name of the variant, the key if
-- there is one, and then the number of `TooLarge`, or the name or id of `DuplicateName` as a JSON string. The parts are
-- separated by spaces. The format is chosen by this project.
unfoldable pub fault_text : BadDocument → List ℕ
fault_text NotJson = codes "NotJson"
fault_text (Missing field) = codes "Missing " ++ key_of field
fault_text (WrongKind field) = codes "WrongKind " ++ key_of field
fault_text (TooLarge field n) = codes "TooLarge " ++ (key_of field ++ (codes " " ++ decimal n))
fault_text (DuplicateName field name) = codes "DuplicateName " ++ (key_of field ++ (codes " " ++ compact_text (string name)))
fault_text (NotWhole field) = codes "NotWhole " ++ key_of field
fault_text Memory = []
