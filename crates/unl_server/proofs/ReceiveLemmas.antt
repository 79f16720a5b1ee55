-- Lemmas about bytes that are read in several pieces.
use Rattle.std.proofs.Common.{◌≡◌, ℕ, List, [], ◌++◌, refl, sym, ap, ◌∙◌, subst, append_assoc, Option, Some, None}
use Rattle.std.specs.Option.{option_map}
use Rattle.unl_base.specs.Streams.{Takes}
use Rattle.unl_server.specs.declared.receive.Received.{Received}
use Rattle.unl_server.specs.Receive.{IsNextItem, Receives}

-- taking no bytes changes nothing
pub Takes_nothing : (left : Option (List ℕ)) → Takes left [] left
Takes_nothing None = refl
Takes_nothing (Some bytes) = refl

-- two reads, one after the other, have the effect of one read of all their bytes
pub Takes_more : (old mid new : Option (List ℕ)) (a b : List ℕ) → Takes old a mid → Takes mid b new → Takes old (a ++ b) new
Takes_more old mid None a b x y = x ∙ ap (λ (o : Option (List ℕ)). option_map (λ rest. a ++ rest) o) y
Takes_more old mid (Some rest) a b x y =
    x ∙ ap (λ (o : Option (List ℕ)). option_map (λ rest. a ++ rest) o) y ∙ ap Some (sym (append_assoc a b rest))

-- the bytes were read from the link, and are held after the earlier ones
pub record Taking (held : List ℕ) (left : Option (List ℕ)) (held_now : List ℕ) (left_now : Option (List ℕ)) : Type 0 where
  pub read : List ℕ
  pub took : Takes left read left_now
  pub holds : held_now ≡ held ++ read

pub Taking_found : (held held' held'' : List ℕ) (left left' left'' : Option (List ℕ)) (found : Received)
    → Taking held left held' left' → Receives held' left' found held'' left'' → Receives held left found held'' left''
Taking_found held held' held'' left left' left'' found taking receives = record {
  read = taking.read ++ receives.read;
  took = Takes_more left left' left'' taking.read receives.read taking.took receives.took;
  next = subst (λ (b : List ℕ). IsNextItem b left'' found held'')
      (ap (λ (h : List ℕ). h ++ receives.read) taking.holds ∙ append_assoc held taking.read receives.read) receives.next;
}
