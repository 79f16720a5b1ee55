-- Lemmas for the contracts that no connection is lost: what a step does to the counts of the connections that are held or have ended.
use Rattle.std.proofs.Common.{◌≡◌, ◌<◌, ◌≤◌, ◌+◌, ◌-◌, ◌^◌, ℕ, Option, Some, Result, min, arith, refl, subst, sym}
use Rattle.slab.specs.Slab.{slab_len}
use Rattle.std.specs.VecDeque.{deque_len}
use Rattle.unl_net.specs.Doors.{ended_by, held_by, with_link}
use Rattle.unl_net.specs.EndedConnections.{Accounts, LosesNone}
use Rattle.unl_net.specs.declared.reactor.Reactor.{Reactor}
use Rattle.unl_net.specs.declared.reports.Reports.{Reports}

-- a step that changes nothing loses none
pub same : (w r e w' r' e' : ℕ) → w' ≡ w → r' ≡ r → e' ≡ e → Accounts 0 (w + r) e (w' + r') e'
unfolding Accounts
same w r e w' r' e' waiting ready ended = λ few. omega arith

-- a connection that came was counted as ended
pub ended : (w r e w' r' e' : ℕ) → w' ≡ w → r' ≡ r → e' ≡ min (e + 1) (2 ^ 64 - 1) → Accounts 1 (w + r) e (w' + r') e'
unfolding Accounts
ended w r e w' r' e' waiting ready ends = λ few. omega arith

-- a connection that came is ready
pub pushed : (w r e r1 r' : ℕ) → r1 ≡ r → r' ≡ r1 + 1 → Accounts 1 (w + r) e (w + r') e
unfolding Accounts
pushed w r e r1 r' reserved more = λ few. omega arith

-- a step after room was reserved for one more that is ready
pub reserved : (n w r e r1 h' e' : ℕ) → r1 ≡ r → Accounts n (w + r1) e h' e' → Accounts n (w + r) e h' e'
unfolding Accounts
reserved n w r e r1 h' e' ready behind = λ few.
    let rises : e ≤ e' = (behind few).0 in
    let still : h' + e' ≡ w + r1 + e + n = (behind few).1 in
    (rises, omega arith)

-- a connection that came waits, and a step follows in which none comes
pub waits : (w r e w1 h' e' : ℕ) → w1 ≡ w + 1 → Accounts 0 (w1 + r) e h' e' → Accounts 1 (w + r) e h' e'
unfolding Accounts
waits w r e w1 h' e' more behind = λ few.
    let rises : e ≤ e' = (behind few).0 in
    let still : h' + e' ≡ w1 + r + e + 0 = (behind few).1 in
    (rises, omega arith)

-- a connection that waited is taken out and then placed like one that came
pub placed : (w r e w1 r1 e1 h' e' : ℕ) → w1 + 1 ≡ w → r1 ≡ r → e1 ≡ e
    → Accounts 1 (w1 + r1) e1 h' e' → Accounts 0 (w + r) e h' e'
unfolding Accounts
placed w r e w1 r1 e1 h' e' taken ready ends behind = λ few.
    let rises : e1 ≤ e' = (behind few).0 in
    let still : h' + e' ≡ w1 + r1 + e1 + 1 = (behind few).1 in
    (omega arith, omega arith)

-- a connection that waited waits again
pub waits_again : (w r e w1 w' : ℕ) → w1 + 1 ≡ w → w' ≡ w1 + 1 → Accounts 0 (w + r) e (w' + r) e
unfolding Accounts
waits_again w r e w1 w' taken back = λ few. omega arith

-- two steps in which none comes
pub step : (a ea b eb c ec : ℕ) → Accounts 0 a ea b eb → Accounts 0 b eb c ec → Accounts 0 a ea c ec
unfolding Accounts
step a ea b eb c ec first second = λ few.
    let rises : eb ≤ ec = (second few).0 in
    let still : c + ec ≡ b + eb + 0 = (second few).1 in
    let below : eb < 2 ^ 64 - 1 = omega arith in
    let rose : ea ≤ eb = (first below).0 in
    let was : b + eb ≡ a + ea + 0 = (first below).1 in
    (omega arith, omega arith)

-- steps in which `n` came, and then one in which none comes
pub step_more : (n a ea b eb c ec : ℕ) → Accounts n a ea b eb → Accounts 0 b eb c ec → Accounts n a ea c ec
unfolding Accounts
step_more n a ea b eb c ec first second = λ few.
    let rises : eb ≤ ec = (second few).0 in
    let still : c + ec ≡ b + eb + 0 = (second few).1 in
    let below : eb < 2 ^ 64 - 1 = omega arith in
    let rose : ea ≤ eb = (first below).0 in
    let was : b + eb ≡ a + ea + n = (first below).1 in
    (omega arith, omega arith)

-- a step in which none comes, and then one in which one comes
pub then_one : (a ea b eb c ec : ℕ) → Accounts 0 a ea b eb → Accounts 1 b eb c ec → Accounts 1 a ea c ec
unfolding Accounts
then_one a ea b eb c ec first second = λ few.
    let rises : eb ≤ ec = (second few).0 in
    let still : c + ec ≡ b + eb + 1 = (second few).1 in
    let below : eb < 2 ^ 64 - 1 = omega arith in
    let rose : ea ≤ eb = (first below).0 in
    let was : b + eb ≡ a + ea + 0 = (first below).1 in
    (omega arith, omega arith)

-- steps in which `n` came, and then one in which one comes
pub step_one : (n a ea b eb c ec : ℕ) → Accounts n a ea b eb → Accounts 1 b eb c ec → Accounts (n + 1) a ea c ec
unfolding Accounts
step_one n a ea b eb c ec first second = λ few.
    let rises : eb ≤ ec = (second few).0 in
    let still : c + ec ≡ b + eb + 1 = (second few).1 in
    let below : eb < 2 ^ 64 - 1 = omega arith in
    let rose : ea ≤ eb = (first below).0 in
    let was : b + eb ≡ a + ea + n = (first below).1 in
    (omega arith, omega arith)

-- the lemmas for connections that are accepted one after another
pub ruleset accept_rules = (same, step_more, step_one)

-- the connections that came are counted as arrived
pub arrived : (n a a' h e h' e' : ℕ) → a' ≡ min (a + n) (2 ^ 64 - 1) → Accounts n h e h' e' → LosesNone a h e a' h' e'
unfolding Accounts LosesNone
arrived n a a' h e h' e' counted holds = λ known.
    let below : a' ≡ a + n = omega arith in (
      omega arith,
      λ few.
          let rises : e ≤ e' = (holds few).0 in
          let still : h' + e' ≡ h + e + n = (holds few).1 in
          (rises, omega arith),
    )

-- none came, and none is counted as arrived
pub none_arrived : (a h e a' h' e' : ℕ) → a' ≡ a → Accounts 0 h e h' e' → LosesNone a h e a' h' e'
unfolding Accounts LosesNone
none_arrived a h e a' h' e' counted holds = λ known. (
  omega arith,
  λ few.
      let rises : e ≤ e' = (holds few).0 in
      let still : h' + e' ≡ h + e + 0 = (holds few).1 in
      (rises, omega arith),
)

-- a step that changes nothing loses none
pub unchanged : (a h e a' h' e' : ℕ) → a' ≡ a → h' ≡ h → e' ≡ e → LosesNone a h e a' h' e'
unfolding Accounts LosesNone
unchanged a h e a' h' e' arrives holds ends = λ known. (omega arith, λ few. (omega arith, omega arith))

-- two steps, one after the other
pub behind : (a h e a1 h1 e1 a2 h2 e2 : ℕ) → LosesNone a h e a1 h1 e1 → LosesNone a1 h1 e1 a2 h2 e2 → LosesNone a h e a2 h2 e2
unfolding Accounts LosesNone
behind a h e a1 h1 e1 a2 h2 e2 first second = λ known.
    let later : a1 ≤ a2 = (second known).0 in
    let below : a1 < 2 ^ 64 - 1 = omega arith in
    let early : a ≤ a1 = (first below).0 in (
      omega arith,
      λ few.
          let rises : e1 ≤ e2 = ((second known).1 few).0 in
          let still : h2 + e2 ≡ h1 + e1 + (a2 - a1) = ((second known).1 few).1 in
          let under : e1 < 2 ^ 64 - 1 = omega arith in
          let rose : e ≤ e1 = ((first below).1 under).0 in
          let was : h1 + e1 ≡ h + e + (a1 - a) = ((first below).1 under).1 in
          (omega arith, omega arith),
    )

-- a step in which none came between two others
pub around : (a h e a1 h1 e1 h2 e2 a3 h3 e3 : ℕ) → LosesNone a h e a1 h1 e1 → Accounts 0 h1 e1 h2 e2 → LosesNone a1 h2 e2 a3 h3 e3
    → LosesNone a h e a3 h3 e3
around a h e a1 h1 e1 h2 e2 a3 h3 e3 first second third =
    behind a h e a1 h2 e2 a3 h3 e3 (behind a h e a1 h1 e1 a1 h2 e2 first (none_arrived a1 h1 e1 a1 h2 e2 refl second)) third

-- a connection that was ready is handed out as a link
pub link_made : (a w r e a' w' r' e' : ℕ) → a' ≡ a → w' ≡ w → r ≡ r' + 1 → e' ≡ e → LosesNone a (w + r) e a' (w' + r' + 1) e'
unfolding Accounts LosesNone
link_made a w r e a' w' r' e' arrives waiting ready ends = λ known. (omega arith, λ few. (omega arith, omega arith))

-- no connection is handed out as a link
pub no_link_made : (a w r e a' w' r' e' : ℕ) → a' ≡ a → w' ≡ w → r ≡ r' → e' ≡ e → LosesNone a (w + r) e a' (w' + r') e'
unfolding Accounts LosesNone
no_link_made a w r e a' w' r' e' arrives waiting ready ends = λ known. (omega arith, λ few. (omega arith, omega arith))

-- a door that has a reactor loses no connection if the reactor loses none
pub of_opened : {S L E : Type 0} (old new : Option (Reactor S)) (before after : Reactor S) (result given : Result L E) (a : ℕ)
    (reports counted : Reports) → old ≡ Some before → new ≡ Some after → result ≡ given → reports ≡ counted
    → LosesNone a (slab_len before.waiting + deque_len before.ready) before.ended
    counted.arrived (with_link given (slab_len after.waiting + deque_len after.ready)) after.ended
    → LosesNone a (held_by old) (ended_by old) reports.arrived (with_link result (held_by new)) (ended_by new)
of_opened {S} {L} {E} old new before after result given a reports counted was is equal counts holds =
    subst (λ (o : Option (Reactor S)). LosesNone a (held_by o) (ended_by o) reports.arrived (with_link result (held_by new)) (ended_by new))
    (sym was)
    (subst (λ (o : Option (Reactor S)). LosesNone a (held_by (Some before)) (ended_by (Some before))
    reports.arrived (with_link result (held_by o)) (ended_by o)) (sym is)
    (subst (λ (r : Result L E). LosesNone a (held_by (Some before)) (ended_by (Some before))
    reports.arrived (with_link r (held_by (Some after))) (ended_by (Some after))) (sym equal)
    (subst (λ (t : Reports). LosesNone a (held_by (Some before)) (ended_by (Some before))
    t.arrived (with_link given (held_by (Some after))) (ended_by (Some after))) (sym counts) holds)))
