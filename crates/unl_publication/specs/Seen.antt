-- What a writer and its readers know of a published value: the opening value, and the list of installs (changes). A reader gets a
-- longer list by looking at the value, or by learning a report of the writer.
use Rattle.std.specs.Prelude.{◌≡◌, ℕ, Bool, true, Option, None, option_map, unwrap_or}
use Rattle.left_right.specs.Sides.{view}
use Rattle.left_right.specs.declared.Absorb as absorb
use Rattle.unl_publication.specs.declared.value.Counted as counted
use Rattle.unl_publication.specs.declared.knowledge.Knowledge.{Knowledge}
use Rattle.unl_publication.specs.declared.publisher.Publisher.{Publisher}
use Rattle.unl_publication.specs.declared.reader.Guard.{Guard}
use Rattle.unl_publication.specs.declared.reader.Reader.{Reader}
use Rattle.unl_publication.specs.declared.writer.Told.{Told}
use Rattle.unl_publication.specs.declared.writer.Writer.{Writer}
use Rattle.unl_publication.specs.Meaning.{known}
use Rattle.unl_publication.specs.Rule.{knows_nothing}

module _ {T I P S : Type 0} {c : counted.Ghosts T I S} {a : absorb.Ghosts T I S} where
  -- What a writer has published: the opening value and the list of all installs.
  abbrev pub written : Writer T I P S c a → Knowledge S I
  written writer = view writer.sides.desk.place

  -- Whether a publication of the writer failed after its install was appended to the log of `left_right`: then every later one fails.
  abbrev pub is_closed : Writer T I P S c a → Bool
  is_closed writer = writer.refused

  -- What a reader knew when it last looked.
  abbrev pub seen : Reader T I P S c a → Knowledge S I
  seen reader = known (option_map (λ s. view s.value.place) reader.past) (view reader.seat.place)

  -- What a reader knows now, whether seen or learned. The list that it takes at its next look starts with these installs.
  abbrev pub next : Reader T I P S c a → Knowledge S I
  next reader = view reader.seat.place

  -- What a reader knew at its last look, if it has learned a longer list since; otherwise `None`.
  abbrev pub past : Reader T I P S c a → Option (Knowledge S I)
  past reader = option_map (λ s. view s.value.place) reader.past

  -- The largest number of installs in the reports that a reader has learned.
  abbrev pub learned_front : Reader T I P S c a → ℕ
  learned_front reader = reader.least

  -- A reader that knows exactly `knowledge`, and has learned no report.
  pub record IsFresh (knowledge : Knowledge S I) (reader : Reader T I P S c a) : Type 0 where
    pub knows : next reader ≡ knowledge
    pub alone : past reader ≡ None
    pub learned_none : learned_front reader ≡ 0

  -- What a reader knows while it looks at the value.
  abbrev pub taken : Guard T I P S c a → Knowledge S I
  taken guard = view guard.reading.place

  -- The largest number of installs in the reports that a reader had learned when it began to look.
  abbrev pub learned_front_at_look : Guard T I P S c a → ℕ
  learned_front_at_look guard = guard.least

  -- The number of installs in a report of the writer.
  abbrev pub reported_front : Told T I P S c a → ℕ
  reported_front told = told.front

  -- The opening value and the list of installs in a report of the writer, or `None` if there was no room for the list.
  abbrev pub reported_list : Told T I P S c a → Option (Knowledge S I)
  reported_list told = option_map (λ seat. view seat.place) told.seat

module _ {W T I P S : Type 0} {c : counted.Ghosts T I S} {a : absorb.Ghosts T I S} where
  -- What a publisher (a wrapper of a writer) has published: the opening value and the list of all installs.
  abbrev pub published : Publisher W T I P S c a → Knowledge S I
  published publisher = unwrap_or (option_map written publisher.writer) knows_nothing

  -- Whether the writer of a publisher is closed, as `is_closed` says.
  abbrev pub stays_closed : Publisher W T I P S c a → Bool
  stays_closed publisher = unwrap_or (option_map is_closed publisher.writer) true
