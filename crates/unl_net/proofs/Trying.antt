-- Lemmas about reads and writes that are tried again after they failed.
use Rattle.std.proofs.Common.{◌≡◌, ◌∙◌, ℕ, List, [], ◌++◌, Option, None, Some, take, true, true≢false, sym, ap, refl}
use Rattle.std.proofs.Common.{Result, Ok, Err, is_err}
use Rattle.std.specs.Io.KnownBytes.{Appends, Consumes, Keeps, ReadConsumes, WriteAppends}
use Rattle.std.proofs.KnownBytes.{Keeps-trans}

-- a step that changes nothing keeps the known bytes
pub stays : (a : Option (List ℕ)) → Keeps a a
stays None = tt
stays (Some x) = refl

-- two steps that each keep the known bytes keep them together
pub stays_on : (a b c : Option (List ℕ)) → Keeps a b → Keeps b c → Keeps a c
stays_on = Keeps-trans

-- a step that reads nothing, then a read
pub consumed_then : (a b c : Option (List ℕ)) (bs : List ℕ) → Keeps a b → Consumes b c bs → Consumes a c bs
consumed_then None b c bs kept consumed = tt
consumed_then (Some x) None c bs kept consumed = absurd kept
consumed_then (Some x) (Some y) None bs kept consumed = absurd consumed
consumed_then (Some x) (Some y) (Some z) bs kept consumed = sym kept ∙ consumed

-- a step that writes nothing, then a write
pub appended_then : (a b c : Option (List ℕ)) (bs : List ℕ) → Keeps a b → Appends b c bs → Appends a c bs
appended_then None b c bs kept appended = tt
appended_then (Some x) None c bs kept appended = absurd kept
appended_then (Some x) (Some y) None bs kept appended = absurd appended
appended_then (Some x) (Some y) (Some z) bs kept appended = appended ∙ ap (λ (l : List ℕ). l ++ bs) kept

-- a step that reads nothing is a read of no bytes
pub none_consumed : (a b : Option (List ℕ)) → Keeps a b → Consumes a b []
none_consumed None b kept = tt
none_consumed (Some x) None kept = absurd kept
none_consumed (Some x) (Some y) kept = sym kept

-- a read after reads that failed
pub read_then : {E : Type 0} (a b c : Option (List ℕ)) (r : Result ℕ E) (room : List ℕ) → Keeps a b → ReadConsumes b c r room
    → ReadConsumes a c r room
read_then a b c (Ok n) room kept read = (consumed_then a b c (take n room) kept read.0, read.1)
read_then a b c (Err e) room kept read = Keeps-trans a b c kept read

-- a write after writes that failed
pub write_then : {E : Type 0} (a b c : Option (List ℕ)) (r : Result ℕ E) (piece : List ℕ) → Keeps a b → WriteAppends b c r piece
    → WriteAppends a c r piece
write_then a b c (Ok n) piece kept write = appended_then a b c (take n piece) kept write
write_then a b c (Err e) piece kept write = Keeps-trans a b c kept write

-- a read that fails after a step that reads nothing keeps the known bytes
pub read_failed : {E : Type 0} (a b c : Option (List ℕ)) (r : Result ℕ E) (room : List ℕ) → Keeps a b → ReadConsumes b c r room
    → is_err r ≡ true → Keeps a c
read_failed a b c (Ok n) room kept read fails = absurd (true≢false (sym fails))
read_failed a b c (Err e) room kept read fails = Keeps-trans a b c kept read

-- a write that fails after a step that writes nothing keeps the known bytes
pub write_failed : {E : Type 0} (a b c : Option (List ℕ)) (r : Result ℕ E) (piece : List ℕ) → Keeps a b → WriteAppends b c r piece
    → is_err r ≡ true → Keeps a c
write_failed a b c (Ok n) piece kept write fails = absurd (true≢false (sym fails))
write_failed a b c (Err e) piece kept write fails = Keeps-trans a b c kept write
