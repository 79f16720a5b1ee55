-- The observable state of an installer, and how each call changes it.
use Rattle.std.specs.Prelude.{ℕ, ◌+◌, ◌++◌, ◌≡◌, ◌≢◌, List, [], ◌∷◌, Option, Some, None, option_map, slice_get, slice_set, true, false, unwrap_or}
use Rattle.unl_tokens.specs.declared.token.Token.{Token}
use Rattle.unl_delta.specs.declared.batch.Batch.{Batch}
use Rattle.unl_delta.specs.declared.batch.Verdict.{Verdict}
use Rattle.unl_delta.specs.declared.batch.Verdict.TheVariants.{Apply, Repeat, Old, Gap, Held}
use Rattle.unl_delta.specs.declared.version.EnvVersion.{EnvVersion}
use Rattle.unl_delta.specs.declared.version.Place.{Place}
use Rattle.unl_delta.specs.Batch.{empty_place, next_version}

-- one publication: a version at a slot, or a book of tokens
pub data Publication : Type 0 where
  PublishedVersion : ℕ → EnvVersion → Publication
  PublishedBook : List Token → Publication

-- the observable state: the place of each slot (its version, if any, and whether the slot is held), the number of publications (the front),
-- the current book of tokens, and all publications so far, in order, if these are observable
pub record Installed : Type 0 where
  pub places : List Place
  pub front : ℕ
  pub book : List Token
  pub publications : Option (List Publication)

-- the place of the slot at an index; the empty place if there is no such slot
abbrev pub place_of : Installed → ℕ → Place
place_of now slot = unwrap_or (slice_get now.places slot) empty_place

-- the state with another place at a slot; the rest is unchanged
abbrev pub with_place : ℕ → Place → Installed → Installed
with_place slot place now = record {
  places = slice_set now.places slot place;
  front = now.front;
  book = now.book;
  publications = now.publications;
}

-- the publications, if they are observable, with one more at the end
abbrev pub one_more : Publication → Option (List Publication) → Option (List Publication)
one_more what publications = option_map (λ list. list ++ what ∷ []) publications

-- the state after a version is published at a slot; the slot is then not held
abbrev pub with_version : ℕ → EnvVersion → Installed → Installed
with_version slot version now = record {
  places = slice_set now.places slot (record { version = Some version; held = false });
  front = now.front + 1;
  book = now.book;
  publications = one_more (PublishedVersion slot version) now.publications;
}

-- the state after a batch is applied to a slot and the resulting version is published; the slot is then not held
abbrev pub after_install : ℕ → Batch → Installed → Installed
after_install slot batch now = with_version slot (next_version (place_of now slot) batch) now

-- the state after a book of tokens is published
abbrev pub with_book : List Token → Installed → Installed
with_book book now = record {
  places = now.places;
  front = now.front + 1;
  book = book;
  publications = one_more (PublishedBook book) now.publications;
}

-- the state after a slot is held: only a hydration can apply to a held slot; its version is unchanged, and nothing is published
abbrev pub after_hold : ℕ → Installed → Installed
after_hold slot now = with_place slot (record { version = (place_of now slot).version; held = true }) now

-- the state after a slot takes a batch: `Apply` installs and publishes the batch, `Gap` holds the slot, any other verdict changes nothing
abbrev pub after_batch : Verdict → ℕ → Batch → Installed → Installed
after_batch Apply slot batch now = after_install slot batch now
after_batch Gap slot batch now = after_hold slot now
after_batch Repeat slot batch now = now
after_batch Old slot batch now = now
after_batch Held slot batch now = now

-- one of three propositions, chosen by the verdict: `installs` for `Apply`, `holds` for `Gap`, `stays` for any other verdict
abbrev pub ByVerdict : Verdict → Type 0 → Type 0 → Type 0 → Type 0
ByVerdict Apply installs holds stays = installs
ByVerdict Gap installs holds stays = holds
ByVerdict Repeat installs holds stays = stays
ByVerdict Old installs holds stays = stays
ByVerdict Held installs holds stays = stays

-- the result of installing a book of tokens: `None` if the book equals the current one, and then nothing changes; otherwise the new front,
-- and then the book is published
abbrev pub IsBookInstalled : List Token → Installed → Option ℕ → Installed → Type 0
IsBookInstalled book old None new = (book ≡ old.book) × (new ≡ old)
IsBookInstalled book old (Some front) new =
    (book ≢ old.book) × (front ≡ new.front) × (new ≡ with_book book old)
