-- Lemmas: a door that has listened at a port is listening.
use Rattle.std.proofs.Common.{◌≡◌, ◌∙◌, ◌+◌, ℕ, Bool, true, List, [], ◌∷◌, ◌++◌, ap, arith, length, length-append, subst, sym}
use Rattle.unl_base.specs.Doors.{DoorState, IsListening, listening_at}

not_empty : (ports : List ℕ) (port : ℕ) → ports ++ port ∷ [] ≡ [] → ⊥
not_empty ports port none =
    let empty : length (ports ++ port ∷ []) ≡ 0 = ap length none in
    omega (arith, empty, length-append ports (port ∷ []))

-- A door that has just listened at a port is listening.
pub listens_now : (port : ℕ) (door : DoorState) → IsListening (listening_at port true door)
listens_now port door = not_empty door.ports port

-- A door is listening after a call of `listen` that succeeded.
pub listens_after : (port : ℕ) (could : Bool) (before door : DoorState) → could ≡ true
    → door ≡ listening_at port could before → IsListening door
listens_after port could before door did listens =
    subst IsListening (sym (listens ∙ ap (λ (b : Bool). listening_at port b before) did)) (listens_now port before)
