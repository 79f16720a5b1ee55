-- Serving the links (connections) that a door (a listener) hands out, one after another, if the bytes of the links are observable.
-- `LinkServed before coming bytes back after coming_after` is the effect of serving one link: the server changes from `before` to `after`,
-- and the coming draws from `coming` to `coming_after`. `bytes` are the bytes to be read from the link, and `back` is the pair of the bytes
-- it had sent and its fault count when it was returned to the door.
use Rattle.std.specs.Prelude.{◌≡◌, ℕ, ◌+◌, List, [], ◌∷◌, ◌++◌, length, Option, Some}
use Rattle.unl_base.specs.Doors.{DoorState}
use Rattle.unl_server.specs.Handling.{Coming}

-- Links with these bytes were served one after another, and were returned with these sent bytes and fault counts. This changed the server
-- to `after`, and the coming draws to `coming_after`.
abbrev pub AreServed :
    {S : Type 0} → (S → Coming → List ℕ → List ℕ × ℕ → S → Coming → Type 0) → S → Coming → List (List ℕ) → List (List ℕ × ℕ)
    → S → Coming → Type 0
AreServed LinkServed server coming [] [] after coming_after = (after ≡ server) × (coming_after ≡ coming)
AreServed LinkServed server coming [] (back ∷ backs) after coming_after = ⊥
AreServed LinkServed server coming (bytes ∷ links) [] after coming_after = ⊥
AreServed {S} LinkServed server coming (bytes ∷ links) (back ∷ backs) after coming_after =
    (middle : S) × (coming_middle : Coming) × LinkServed server coming bytes back middle coming_middle
    × AreServed LinkServed middle coming_middle links backs after coming_after

-- the state while links are served: the server, the coming draws, and what the door records about its links
pub record Linking (S : Type 0) : Type 0 where
  pub server : S
  pub coming : Coming
  pub given : ℕ
  pub back : ℕ
  pub links : Option (List (List ℕ))
  pub returned : Option (List (List ℕ × ℕ))

-- the `Linking` of this server, these coming draws and this state of a door
abbrev pub linking : {S : Type 0} → S → Coming → DoorState → Linking S
linking server coming door = record {
  server = server;
  coming = coming;
  given = door.given;
  back = door.back;
  links = door.links;
  returned = door.returned;
}

-- The first `served` of `links` were handed out, served, and returned in order. Their sent bytes and fault counts were appended to
-- `returned`, which has the sent bytes and fault counts of the links that were returned earlier.
pub record ServesLinks
    {S : Type 0} (LinkServed : S → Coming → List ℕ → List ℕ × ℕ → S → Coming → Type 0) (before after : Linking S)
    (served : ℕ) (links : List (List ℕ)) (returned : List (List ℕ × ℕ)) : Type 0 where
  pub given_links : List (List ℕ)
  pub rest : List (List ℕ)
  pub backs : List (List ℕ × ℕ)
  pub are : links ≡ given_links ++ rest
  pub left : after.links ≡ Some rest
  pub returned_after : after.returned ≡ Some (returned ++ backs)
  pub counted : length given_links ≡ served
  pub linked : AreServed LinkServed before.server before.coming given_links backs after.server after.coming

-- `served` links were handed out and returned. If the door's links are observable, each of these links was served.
pub record HandsBack
    {S : Type 0} (LinkServed : S → Coming → List ℕ → List ℕ × ℕ → S → Coming → Type 0) (before after : Linking S)
    (served : ℕ) : Type 0 where
  pub given : after.given ≡ before.given + served
  pub back : after.back ≡ before.back + served
  pub linked : (links : List (List ℕ)) (returned : List (List ℕ × ℕ)) → before.links ≡ Some links → before.returned ≡ Some returned
      → ServesLinks LinkServed before after served links returned
