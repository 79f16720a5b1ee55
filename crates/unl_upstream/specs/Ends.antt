-- How a run of an upstream ends: the lines that it prints, and the faults that its end reports.
use Rattle.std.specs.Prelude.{◌≡◌, ⊤, ℕ, List, ◌++◌, codes, decimal, Result, Ok, Err}
use Rattle.unl_input.specs.declared.refusal.WriteLineFault.{WriteLineFault}
use Rattle.unl_input.specs.declared.refusal.WriteLineFault.TheVariants as say
use Rattle.unl_input.specs.declared.taking.LinesFault.TheVariants as line
use Rattle.unl_upstream.specs.declared.ends.ServingEnd.{ServingEnd}
use Rattle.unl_upstream.specs.declared.ends.ServingEnd.TheVariants.{Closed, WriteFault, DoorFault, OutOfMemory}
use Rattle.unl_upstream.specs.declared.ends.UpstreamEnd.{UpstreamEnd}
use Rattle.unl_upstream.specs.declared.ends.UpstreamEnd.TheVariants.{OutOfMemory as NoMemory, KeeperFault, Row, Lines, Links}

-- ---- the printed lines

-- the line printed once the door (a listener) is closed: how many links (connections) were served
abbrev pub connections_line : ℕ → List ℕ
connections_line served = codes "connections " ++ (decimal served ++ codes "\n")

-- the line printed if reopening fails because of the keeper's row at `place`, counted from 1
abbrev pub row_line : ℕ → List ℕ
row_line place = codes "refused: row " ++ (decimal place ++ codes "\n")

-- the outcome of serving once the door is closed, from the result of printing the count of its links
abbrev pub line_end : Result (Unit {0}) WriteLineFault → ServingEnd
line_end (Ok u) = Closed
line_end (Err say.WriteFault) = WriteFault
line_end (Err say.Memory) = OutOfMemory

-- ---- the causes

-- If the end reports a fault, the statement about what failed holds: `read` for the input, `write` for the output, `door` for serving
-- links, `keep` for the keeper. Any other end requires nothing.
abbrev pub EndCaused : UpstreamEnd → Type 0 → Type 0 → Type 0 → Type 0 → Type 0
EndCaused NoMemory read write door keep = ⊤
EndCaused KeeperFault read write door keep = keep
EndCaused (Row written) read write door keep = written ≡ Err say.WriteFault → write
EndCaused (Lines line.Bad) read write door keep = ⊤
EndCaused (Lines line.ReadFault) read write door keep = read
EndCaused (Lines line.WriteFault) read write door keep = write
EndCaused (Lines line.Memory) read write door keep = ⊤
EndCaused (Links Closed) read write door keep = ⊤
EndCaused (Links WriteFault) read write door keep = write
EndCaused (Links DoorFault) read write door keep = door
EndCaused (Links OutOfMemory) read write door keep = ⊤
