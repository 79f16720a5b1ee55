-- Properties of what is installed (the slots, the token book and the number of publications) that the refresh of a slot preserves.
use Rattle.std.proofs.Common.{◌≡◌, ◌<◌, ◌==◌, ℕ, Bool, true, false, cond, length, not, List, Option, Result, Ok, Err, IfOk, OnErr, arith, refl, subst, sym}
use Rattle.std.proofs.lemmas.Bool.Decides.{nat_tests}
use Rattle.unl_delta.specs.declared.batch.Batch.{Batch}
use Rattle.unl_delta.specs.declared.version.Place.{Place}
use Rattle.unl_delta.specs.Batch.{verdict_of}
use Rattle.unl_delta.specs.History.{Era, IsLine, IsNotBelow, PlaceRepresents}
use Rattle.unl_delta.specs.Installing.{Installed, place_of}
use Rattle.unl_delta.specs.View.{Sees}
use Rattle.unl_delta.proofs.Delivery.{one_taken}
use Rattle.unl_delta.proofs.NotBelow.{not_below_itself}
use Rattle.unl_delta.proofs.Installs.{batch_placed}
use Rattle.unl_http_api.specs.declared.got.BadReply.{BadReply}
use Rattle.unl_http_api.specs.declared.got.Got.{Got}
use Rattle.unl_refresh.specs.declared.ask.Ask.{Ask}
use Rattle.unl_refresh.specs.declared.outcome.Bad.{Bad}
use Rattle.unl_refresh.specs.declared.outcome.Outcome.{Outcome}
use Rattle.unl_refresh.specs.declared.outcome.Outcome.TheVariants.{Unchanged, Refused}
use Rattle.unl_refresh.specs.declared.outcome.RefreshFault.{RefreshFault}
use Rattle.unl_refresh.specs.Exchange.{IsParsedFrom}
use Rattle.unl_refresh.specs.Refresh.{Brings, Refreshed, Refreshes, after_body, after_reading, after_verdict, batch_in, number_held}

-- `P` holds of what is installed before, and after each batch that a reply of which `Given` holds may bring.
pub record Leaves (P : Installed → Type 0) (slot : ℕ) (before : Installed) (delta : Bool) (Given : Got → Type 0) : Type 0 where
  pub stays : P before
  pub takes : (got : Got) (batch : Batch) → Given got → got.status ≡ 200
      → batch_in delta (number_held (place_of before slot)) got.body ≡ Ok batch
      → P (after_verdict slot batch got.tag before (verdict_of (place_of before slot) batch)).installed

same_number : (n m : ℕ) → (n == m) ≡ true → n ≡ m
same_number n m is = grind (arith, nat_tests)

batch_leaves : (P : Installed → Type 0) (slot : ℕ) (before : Installed) (delta : Bool) (Given : Got → Type 0) (got : Got) (read : Result Batch Bad)
    → Leaves P slot before delta Given → Given got → got.status ≡ 200 → batch_in delta (number_held (place_of before slot)) got.body ≡ read
    → P (after_body slot got.tag before read).installed
batch_leaves P slot before delta Given got (Ok batch) leaves is status reads = leaves.takes got batch is status reads
batch_leaves P slot before delta Given got (Err bad) leaves is status reads = leaves.stays

-- If `P` holds before, and after each batch that a given reply may bring, then it holds after a given reply.
pub reading_leaves : (P : Installed → Type 0) (slot : ℕ) (before : Installed) (delta : Bool) (tag : Option (List ℕ)) (Given : Got → Type 0)
    (reading : Result Got BadReply) → Leaves P slot before delta Given → ((got : Got) → reading ≡ Ok got → Given got)
    → P (after_reading slot delta tag before reading).installed
reading_leaves P slot before delta tag Given (Err bad) leaves is = leaves.stays
reading_leaves P slot before delta tag Given (Ok got) leaves is = by_status (got.status == 304) (got.status == 200) refl
  where
    taken_so : Refreshed
    taken_so = after_body slot got.tag before (batch_in delta (number_held (place_of before slot)) got.body)

    by_status : (unchanged found : Bool) → (got.status == 200) ≡ found
        → P (cond unchanged (record { outcome = Unchanged; installed = before; tag = tag })
        (cond (not found) (record { outcome = Refused got.status; installed = before; tag = tag }) taken_so)).installed
    by_status true found is_found = leaves.stays
    by_status false true is_found = batch_leaves P slot before delta Given got _ leaves (is got refl) (same_number got.status 200 is_found) refl
    by_status false false is_found = leaves.stays

-- If `P` holds before, and after each batch that the bytes to come may bring, then it holds after a refresh.
pub refreshed_leaves : (P : Installed → Type 0) (result : Result Outcome RefreshFault) (slot : ℕ) (ask : Ask) (before after : Installed)
    (tag coming : Option (List ℕ))
    → IfOk result (λ outcome. Refreshes slot ask before coming (record { outcome = outcome; installed = after; tag = tag }))
    → OnErr result (after ≡ before) → Leaves P slot before ask.delta (λ got. IsParsedFrom coming (Ok got)) → P after
refreshed_leaves P (Ok outcome) slot ask before after tag coming takes fault leaves =
    subst (λ (r : Refreshed). P r.installed) (sym takes.gives)
    (reading_leaves P slot before ask.delta ask.tag (λ got. IsParsedFrom coming (Ok got)) takes.reading leaves
    (λ got is. subst (IsParsedFrom coming) is takes.is_read))
refreshed_leaves P (Err e) slot ask before after tag coming takes fault leaves = subst P (sym fault) leaves.stays

-- The place represents the line, and its revision (epoch and number) is not older than before.
abbrev RepresentsNoOlder : List Era → Sees → Place → Place → Type 0
RepresentsNoOlder line sees before after = PlaceRepresents line sees after × IsNotBelow before.version after.version

-- If the server sends batches from a line, the slot represents that line after a refresh, with no older revision.
pub delivered : (result : Result Outcome RefreshFault) (slot : ℕ) (ask : Ask) (before after : Installed) (tag coming : Option (List ℕ))
    (line : List Era) (sees : Sees) → slot < length before.places
    → IfOk result (λ outcome. Refreshes slot ask before coming (record { outcome = outcome; installed = after; tag = tag }))
    → OnErr result (after ≡ before) → IsLine line → PlaceRepresents line sees (place_of before slot)
    → Brings line sees ask.delta (place_of before slot) coming
    → PlaceRepresents line sees (place_of after slot) × IsNotBelow (place_of before slot).version (place_of after slot).version
delivered result slot ask before after tag coming line sees low takes fault is_line represents brings =
    refreshed_leaves (λ (now : Installed). RepresentsNoOlder line sees (place_of before slot) (place_of now slot)) result slot ask before after tag coming takes fault
    (record {
      stays = (represents, not_below_itself (place_of before slot).version);
      takes = λ got batch is status reads.
          subst (RepresentsNoOlder line sees (place_of before slot)) (sym (batch_placed (verdict_of (place_of before slot) batch) slot batch before low))
          (one_taken line sees (place_of before slot) batch is_line represents (brings got batch is status reads));
    })
