-- The state of a door, which accepts connections at a port. It hands out each accepted connection as a link, and takes the link back
-- when it has been served. An optional field that isn't observable is `None`.
use Rattle.std.specs.Prelude.{◌≡◌, ◌⊎◌, ◌+◌, Bool, true, false, List, [], ◌∷◌, ◌++◌, Option, Some, None, ℕ, drop}
use Rattle.std.specs.Prelude.{if◌then◌else◌, option_and_then, option_map, IfSome}

-- The state of a door: the ports that it listened at, in order; whether it is closed; how many links it has handed out and
-- taken back; the bytes that each link to come gives to its reader; for each link taken back, the bytes it had sent and its
-- fault count.
pub record DoorState : Type 0 where
  pub ports : List ℕ
  pub closed : Bool
  pub given : ℕ
  pub back : ℕ
  pub links : Option (List (List ℕ))
  pub returned : Option (List (List ℕ × ℕ))

-- What the next link of a list gives to its reader: the first item, or no bytes if the list is empty.
abbrev pub next_of : List (List ℕ) → List ℕ
next_of [] = []
next_of (first ∷ rest) = first

-- The number of links in the result of an accept: 0 or 1.
abbrev pub count_of : {A : Type 0} → Option A → ℕ
count_of None = 0
count_of (Some link) = 1

-- The state after a call of `listen`: the port is appended to the door's ports if the call succeeded (`could`), and nothing changes
-- otherwise.
abbrev pub listening_at : ℕ → Bool → DoorState → DoorState
listening_at port could door = record door { ports = if could then door.ports ++ port ∷ [] else door.ports }

-- The door listens at a port.
abbrev pub IsListening : DoorState → Type 0
IsListening door = ¬ (door.ports ≡ [])

-- Since the state `before`, the door has listened exactly once, at this port.
abbrev pub ListenedAt : ℕ → DoorState → DoorState → Type 0
ListenedAt port before door = door.ports ≡ before.ports ++ port ∷ []

-- Since the state `before`, the door has listened exactly once, at this port, or not at all.
abbrev pub ListenedOnlyAt : ℕ → DoorState → DoorState → Type 0
ListenedOnlyAt port before door = (door.ports ≡ before.ports) ⊎ ListenedAt port before door

-- The door is closed: as far as its links are observable, it has no more of them to hand out.
pub record IsClosed (door : DoorState) : Type 0 where
  pub closed : door.closed ≡ true
  pub none_left : IfSome door.links (λ links. links ≡ [])

-- The door is closed. Since the state `before`, it has listened exactly once, at this port.
pub record IsClosedAt (port : ℕ) (before door : DoorState) : Type 0 where
  pub closed : IsClosed door
  pub at : ListenedAt port before door

-- Since the state `before`, the door has listened exactly once, at this port; or it has not listened, and no link was served.
abbrev pub ServedOnlyAt : ℕ → ℕ → DoorState → DoorState → Type 0
ServedOnlyAt port served before door = ((served ≡ 0) × (door.ports ≡ before.ports)) ⊎ ListenedAt port before door

-- The door is open: as far as its links are observable, it has another one to hand out.
pub record IsOpenDoor (door : DoorState) : Type 0 where
  pub not_closed : door.closed ≡ false
  pub some_left : IfSome door.links (λ links. ¬ (links ≡ []))

-- The state after the door handed out the first of its links; `closed` says whether it is closed afterwards.
abbrev pub handing_out : Bool → DoorState → DoorState
handing_out closed door =
    record door { closed = closed; given = door.given + 1; links = option_map (λ links. drop 1 links) door.links }

-- The effect of a successful accept on the state. If it returned no link, the door was closed and nothing changed. If it returned a link,
-- the door was open and handed out its first link.
abbrev pub Accepts : {A : Type 0} → Option A → DoorState → DoorState → Type 0
Accepts None old new = IsClosed old × (new ≡ old)
Accepts (Some link) old new = IsOpenDoor old × (new ≡ handing_out new.closed old)

-- The state of a link that was just handed out. `door` is the state of the door before that. The link gives its reader the bytes of
-- the first item of `door.links`, has sent nothing (both as far as observable) and has a fault count of 0.
pub record IsFresh (door : DoorState) (left sent : Option (List ℕ)) (faults : ℕ) : Type 0 where
  pub gives : left ≡ option_map next_of door.links
  pub silent : sent ≡ option_map (λ _. []) door.returned
  pub faultless : faults ≡ 0

-- The links taken back, with one more, which had sent these bytes and had this fault count.
abbrev pub with_returned : Option (List ℕ) → ℕ → Option (List (List ℕ × ℕ)) → Option (List (List ℕ × ℕ))
with_returned sent faults returned = option_and_then (λ list. option_map (λ bytes. list ++ (bytes, faults) ∷ []) sent) returned

-- The state after the door took back a link that had sent these bytes and had this fault count.
abbrev pub taking_back : Option (List ℕ) → ℕ → DoorState → DoorState
taking_back sent faults door = record door { back = door.back + 1; returned = with_returned sent faults door.returned }
