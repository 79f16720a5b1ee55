-- The log of the statuses of a server's replies: what a request or a reply changes in it, and which status is logged.
use Rattle.std.specs.Prelude.{Bool, ℕ, ◌&&◌, ◌-◌, ◌+◌, ◌*◌, List, Option, Some, None, nat_le, nat_eq}
use Rattle.std.specs.Prelude.{if◌then◌else◌, codes, length, slice_index_or, take}
use Rattle.std.specs.Prelude.{◌≡◌, ◌||◌, false, not, position, slice_set, unwrap_or}
use Rattle.std.specs.Option.{option_and_then, option_map_or}
use Rattle.std.specs.Fmt.{decimal}
use Rattle.std.specs.List.{starts_with}
use Rattle.unl_net.specs.LoggedText.{logged_text}
use Rattle.unl_net.specs.declared.status_log.LoggedStatus.{LoggedStatus}
use Rattle.unl_net.specs.declared.status_log.Known.{Known}
use Rattle.unl_net.specs.declared.status_log.ExchangeStage.{ExchangeStage}
use Rattle.unl_net.specs.declared.status_log.ExchangeStage.TheVariants.{Fresh, Asked, Answered}
use Rattle.unl_net.specs.declared.status_log.StatusLog.{StatusLog}

-- The statement that belongs to the stage of the exchange on a connection: the first if nothing was written yet, the second if a request
-- was written, the third if something was read.
abbrev pub match_stage : ExchangeStage → Type 0 → Type 0 → Type 0 → Type 0
match_stage Fresh fresh asked answered = fresh
match_stage Asked fresh asked answered = asked
match_stage Answered fresh asked answered = answered

-- whether a byte is an ASCII digit
abbrev pub is_digit : ℕ → Bool
is_digit byte = nat_le 48 byte && nat_le byte 57

-- the number with these three ASCII digits; `None` if one of them is no digit
abbrev pub digits_of : ℕ → ℕ → ℕ → Option ℕ
digits_of first second third =
    if is_digit first && is_digit second && is_digit third
    then Some ((first - 48) * 100 + (second - 48) * 10 + (third - 48))
    else None

-- the status of a reply that begins with these bytes: the three digits after `HTTP/1.` and any two bytes; `None` if it begins otherwise
abbrev pub status_of : List ℕ → Option ℕ
status_of reply =
    if nat_le 12 (length reply) && starts_with nat_eq reply (codes "HTTP/1.")
    then digits_of (slice_index_or reply 9 0) (slice_index_or reply 10 0) (slice_index_or reply 11 0)
    else None

-- the class of a status: 0, which means that all is well, for 200 to 299 and 304; otherwise the status itself
abbrev pub class_of : ℕ → ℕ
class_of status = if (nat_le 200 status && nat_le status 299) || nat_eq status 304 then 0 else status

-- A free entry. Its key 0 is that of no kind of request, and its class 0 means that all is well.
abbrev pub nothing_known : Known
nothing_known = record { key = 0; logged = record { last = 0 }; fed = false }

-- the index of the entry for the kind of request with this key: the first entry that has the key or is free
abbrev pub place_of : ℕ → List Known → Option ℕ
place_of key known = position (λ entry. nat_eq entry.key key || nat_eq entry.key 0) known

-- the class last noted for the kind of request whose entry is at this index
abbrev pub last_at : List Known → ℕ → ℕ
last_at known at = (slice_index_or known at nothing_known).logged.last

-- whether the last reply to the kind of request whose entry is at this index was a feed
abbrev pub fed_at : List Known → ℕ → Bool
fed_at known at = (slice_index_or known at nothing_known).fed

-- The class to note for a reply; `last` is the class noted before. A feed is taken if this program accepts it; then the next request for it
-- has a tag. 1000 is the class of a feed that was not taken. If `last` is 1000, a further feed does not change it: only the next request
-- shows whether the further feed was taken.
abbrev pub next_class : ℕ → ℕ → Bool → ℕ
next_class last class fed = if fed && nat_eq last 1000 then last else class

-- the entries after a reply to the kind of request with this key
abbrev pub after_reply : ℕ → ℕ → Bool → List Known → List Known
after_reply key class fed known = option_map_or
    (λ at. slice_set known at (record { key = key; logged = record { last = next_class (last_at known at) class fed }; fed = fed }))
    (place_of key known) known

-- whether a reply is news: its kind of request has an entry, and the class to note differs from the class last noted there
abbrev pub is_news : ℕ → ℕ → Bool → List Known → Bool
is_news key class fed known =
    option_map_or (λ at. not (nat_eq (next_class (last_at known at) class fed) (last_at known at))) (place_of key known) false

-- the class that is noted for a feed, by whether it was taken
abbrev pub taken_class : Bool → ℕ
taken_class taken = if taken then 0 else 1000

-- the status that is logged for a feed, by whether it was taken
abbrev pub taken_status : Bool → ℕ
taken_status taken = if taken then 200 else 1000

-- the entries after a request: if the last reply to its kind was a feed, a tag shows that the feed was taken, and no tag that it was not
abbrev pub after_request : ℕ → Bool → List Known → List Known
after_request key has_tag known = option_map_or
    (λ at. if fed_at known at then slice_set known at
    (record { key = key; logged = record { last = taken_class has_tag }; fed = false }) else known)
    (place_of key known) known

-- the status to be logged after a request: that of the feed before it, if there was one and its class differs from the class last noted
abbrev pub logged_request : ℕ → Bool → List Known → Option LoggedStatus
logged_request key has_tag known = option_and_then
    (λ at. if fed_at known at && not (nat_eq (taken_class has_tag) (last_at known at))
    then Some (record { status = taken_status has_tag }) else None)
    (place_of key known)

-- What a log notes at a write and returns to be logged. Only the first write on a connection counts: it shows the kind of the request, and
-- whether the feed before it was taken.
abbrev pub NotesWritten : StatusLog → List ℕ → Option LoggedStatus → StatusLog → Type 0
NotesWritten old piece result new = match_stage old.stage
    ((new.stage ≡ Asked) × (take new.kind.len new.kind.text ≡ logged_text piece)
    × (new.known ≡ after_request new.kind.key new.kind.has_tag old.known)
    × (result ≡ logged_request new.kind.key new.kind.has_tag old.known))
    ((new ≡ old) × (result ≡ None))
    ((new ≡ old) × (result ≡ None))

-- the status of a reply that begins with these bytes, 1 if there is none
abbrev pub reply_status : List ℕ → ℕ
reply_status reply = unwrap_or (status_of reply) 1

-- whether a reply is a feed: a feed was requested, and the status is 200
abbrev pub is_fed : StatusLog → List ℕ → Bool
is_fed log reply = log.kind.is_feed && nat_eq (reply_status reply) 200

-- the status to be logged for a reply: its status, if the reply is news
abbrev pub logged_reply : ℕ → ℕ → Bool → List Known → Option LoggedStatus
logged_reply key status fed known = if is_news key (class_of status) fed known then Some (record { status = status }) else None

-- What a log notes at a read and returns to be logged. Only the first bytes after a request count: they begin the reply, whose class is
-- noted and whose status is to be logged if the class is news.
abbrev pub NotesRead : StatusLog → List ℕ → Option LoggedStatus → StatusLog → Type 0
NotesRead old bytes result new = match_stage old.stage
    ((new ≡ old) × (result ≡ None))
    ((new ≡ record old {
      stage = Answered;
      known = after_reply old.kind.key (class_of (reply_status bytes))
          (is_fed old bytes) old.known;
    })
    × (result ≡ logged_reply old.kind.key (reply_status bytes) (is_fed old bytes) old.known))
    ((new ≡ old) × (result ≡ None))

-- the text that is logged for a status; 1 means no reply, and 1000 a feed that was not taken
abbrev pub status_text : ℕ → List ℕ
status_text status =
    if nat_eq status 1 then codes "no answer" else if nat_eq status 1000 then codes "200, but not taken" else decimal status
