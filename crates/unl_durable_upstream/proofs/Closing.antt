-- The result of serving and closing a database, and the result of the program.
use Rattle.std.proofs.Common.{◌≡◌, ◌∙◌, inl, inr, ℕ, List, Result, Ok, Err, IfOk, sym, ap, subst}
use Rattle.unl_base.specs.Doors.{IsClosedAt}
use Rattle.unl_durable_upstream.specs.Databases.{IsClosedWith, IsNewDoor, ProgramEnds, RunsFile, ServesAndCloses, unopened}
use Rattle.unl_durable_upstream.specs.Arguments.{IsReading}
use Rattle.unl_durable_upstream.specs.declared.arguments.ProgramArguments.{ProgramArguments}
use Rattle.unl_durable_upstream.specs.Serving.{ReopeningEnds, Facing}
use Rattle.unl_durable_upstream.specs.declared.fault.ProgramFault.{ProgramFault}
use Rattle.unl_durable_upstream.specs.declared.fault.ProgramFault.TheVariants.{BadArguments, File, Row, Keeper, Door, Memory}
use Rattle.unl_keeper.specs.State.{KeeperState}
use Rattle.unl_upstream.specs.Kept.{KeptState, kept_state}
use Rattle.unl_upstream.specs.Upstream.{UpstreamState}

-- serving failed, so the database was not closed
failed : (initial : UpstreamState) (port : ℕ) (fault : ProgramFault) (last : KeptState) (before after : Facing)
    → ReopeningEnds (kept_state initial unopened) port (Err fault) last before after → ServesAndCloses initial port (Err fault) before after
failed initial port BadArguments last before after ends = absurd ends
failed initial port (File error) last before after ends = absurd ends
failed initial port (Row place) last before after ends = (last, ends)
failed initial port Keeper last before after ends = (last, ends)
failed initial port Door last before after ends = (last, ends)
failed initial port Memory last before after ends = inl (ap (λ (f : Facing). f.door) ends.same)

-- serving ended, and the database was closed if serving succeeded
closed : (initial : UpstreamState) (port : ℕ) (served result : Result ℕ ProgramFault) (last : KeptState) (before after : Facing)
    → ReopeningEnds (kept_state initial unopened) port served last before after → IsClosedWith served result
    → ServesAndCloses initial port result before after
closed initial port (Ok served) (Ok count) last before after ends is =
    (last, subst (λ (n : ℕ). ReopeningEnds (kept_state initial unopened) port (Ok n) last before after) (sym is) ends)
closed initial port (Ok served) (Err BadArguments) last before after ends is = absurd is
closed initial port (Ok served) (Err (File error)) last before after ends is = (served, (last, ends))
closed initial port (Ok served) (Err (Row place)) last before after ends is = absurd is
closed initial port (Ok served) (Err Keeper) last before after ends is = absurd is
closed initial port (Ok served) (Err Door) last before after ends is = absurd is
closed initial port (Ok served) (Err Memory) last before after ends is = inr (served, (last, ends))
closed initial port (Err fault) result last before after ends is =
    subst (λ (r : Result ℕ ProgramFault). ServesAndCloses initial port r before after) (sym is) (failed initial port fault last before after ends)

-- as `closed`, from serving with a keeper that equals `unopened`
pub serves_and_closes : (initial : UpstreamState) (port : ℕ) (keeper : KeeperState) (served result : Result ℕ ProgramFault)
    (before after : Facing) → keeper ≡ unopened → ((last : KeptState) × ReopeningEnds (kept_state initial keeper) port served last before after)
    → IsClosedWith served result → ServesAndCloses initial port result before after
serves_and_closes initial port keeper served result before after is ends closes =
    closed initial port served result ends.0 before after
    (subst (λ (k : KeeperState). ReopeningEnds (kept_state initial k) port served ends.0 before after) is ends.1) closes

-- the result is `Door` only if serving the links ended with `Door`
pub door_failed : (served result : Result ℕ ProgramFault) → IsClosedWith served result → result ≡ Err Door → served ≡ Err Door
door_failed (Ok served) result is fails = absurd (subst (IsClosedWith (Ok served)) fails is)
door_failed (Err fault) result is fails = sym is ∙ fails

-- the door is closed if serving and closing the database succeeded
pub closed_at : (initial : UpstreamState) (port : ℕ) (result : Result ℕ ProgramFault) (before after : Facing)
    → ServesAndCloses initial port result before after → IfOk result (λ served. IsClosedAt port before.door after.door)
closed_at initial port (Ok served) before after ends = ends.1.serves.1
closed_at initial port (Err fault) before after ends = tt

-- ---- the program

-- how the program ends if the arguments were read and the file was served with a new door
pub reads_and_runs : (words : List (List ℕ)) (result : Result ℕ ProgramFault) (arguments : ProgramArguments) (before after : Facing)
    → RunsFile arguments.options result before after → IsReading words (Ok arguments) → IsNewDoor before.door → ProgramEnds result
reads_and_runs words result arguments before after runs reads is_new = (
  words,
  inr (record { arguments = arguments; reads = reads; before = before; after = after; is_new = is_new; runs = runs }),
)
