-- The state of an upstream after some commands, and the history that each version represents.
use Rattle.std.proofs.Common.{◌≡◌, ℕ, List, [], ◌∷◌, ◌++◌, Bool, true, false, cond, Option, Some, None, Ok, Err, ap, refl, sym, subst, ◌∙◌, arith, append_assoc}
use Rattle.std.specs.Prelude.{is_some, ok_or}
use Rattle.std.proofs.lemmas.List.{append-nil}
use Rattle.std.proofs.lemmas.List.Elements.{filter-append}
use Rattle.std.proofs.lemmas.Option.{same_Some}
use Rattle.unl_core.specs.declared.board.Slot.{Slot}
use Rattle.unl_core.specs.Board.{same_text, place_in, snapshot_in}
use Rattle.unl_core.proofs.Same.{text_same}
use Rattle.unl_delta.specs.declared.event.Event.{Event}
use Rattle.unl_delta.specs.declared.version.EnvVersion.{EnvVersion}
use Rattle.unl_delta.proofs.Growth.{represents_alone}
use Rattle.unl_delta.specs.History.{IsLine, RepresentsLine, everything}
use Rattle.unl_delta.specs.State.{number_of}
use Rattle.unl_documents.specs.Results.{◌>>=◌}
use Rattle.unl_tokens.specs.declared.token.Token.{Token}
use Rattle.unl_upstream.specs.declared.command.Command.{Command}
use Rattle.unl_upstream.specs.declared.refusal.CommandRefusal.{CommandRefusal}
use Rattle.unl_upstream.specs.declared.refusal.CommandRefusal.TheVariants.{NoSuchEnvironment}
use Rattle.unl_upstream.specs.Command.{environment_of}
use Rattle.unl_upstream.specs.Upstream.{AppliedCommand, CommandResult, Prepared, UpstreamState, apply_command, committed, event_of, opening, prepared, version_after}
use Rattle.unl_upstream.specs.History.{AreAdded, AreHistories, IsHistoryOf, accepted, after_command, after_commands, for_environment, history_of, if_accepted, up_after}
use Rattle.unl_upstream.specs.Laws.{EnvironmentsStay, VersionsMatchHistory, VersionsBelongToLines, line_of}
use Rattle.unl_upstream.proofs.Constructors.{err_is_no_ok, ok_same}
use Rattle.unl_upstream.proofs.Events.{is_history, empty_is_history, one_more_is_history}
use Rattle.unl_upstream.proofs.Slots.{opened_empty, opened_names, other_slot_same, slot_replaced}

-- ---- one accepted command

abbrev pub ready_with : ℕ → EnvVersion → Event → List Slot → Prepared
ready_with slot version event slots = record { slot = slot; number = number_of event; snapshot = version_after version event; from = slots }

abbrev pub obeyed_with : Prepared → UpstreamState → AppliedCommand
obeyed_with ready up = record { up = committed ready up; number = ready.number }

-- a command was accepted: its slot, the old version, and the event
pub record IsObeyed (command : Command) (up : UpstreamState) (obeyed : AppliedCommand) : Type 0 where
  pub slot : ℕ
  pub version : EnvVersion
  pub event : Event
  pub at : place_in (environment_of command) up.board.slots ≡ Some slot
  pub version_is : snapshot_in (environment_of command) up.board.slots ≡ Some version
  pub event_is : event_of command version ≡ Ok event
  pub is : obeyed.up ≡ committed (ready_with slot version event up.board.slots) up

pub obeyed_by : (command : Command) (up : UpstreamState) (obeyed : AppliedCommand) → apply_command command up ≡ Ok obeyed → IsObeyed command up obeyed
unfolding apply_command prepared
obeyed_by command up obeyed is = at_slot (place_in (environment_of command) up.board.slots) (snapshot_in (environment_of command) up.board.slots) refl refl is
  where
    at_event : (slot : ℕ) (version : EnvVersion) (r : CommandResult Event) → place_in (environment_of command) up.board.slots ≡ Some slot
        → snapshot_in (environment_of command) up.board.slots ≡ Some version → event_of command version ≡ r
        → ((r >>= λ (event : Event). Ok (ready_with slot version event up.board.slots)) >>= λ (ready : Prepared). Ok (obeyed_with ready up)) ≡ Ok obeyed
        → IsObeyed command up obeyed
    at_event slot version (Err refusal) at version_is event_is none = err_is_no_ok refusal obeyed none
    at_event slot version (Ok event) at version_is event_is all =
        let same : obeyed_with (ready_with slot version event up.board.slots) up ≡ obeyed =
        ok_same (obeyed_with (ready_with slot version event up.board.slots) up) obeyed all in
        record { slot = slot; version = version; event = event; at = at; version_is = version_is; event_is = event_is; is = sym (ap (λ (o : AppliedCommand). o.up) same) }

    at_slot : (o : Option ℕ) (w : Option EnvVersion) → place_in (environment_of command) up.board.slots ≡ o → snapshot_in (environment_of command) up.board.slots ≡ w
        → ((ok_or o NoSuchEnvironment >>= λ (slot : ℕ). ok_or w NoSuchEnvironment >>= λ (version : EnvVersion).
        event_of command version >>= λ (event : Event). Ok (ready_with slot version event up.board.slots)) >>= λ (ready : Prepared). Ok (obeyed_with ready up)) ≡ Ok obeyed
        → IsObeyed command up obeyed
    at_slot None w at version_is none = err_is_no_ok NoSuchEnvironment obeyed none
    at_slot (Some slot) None at version_is none = err_is_no_ok NoSuchEnvironment obeyed none
    at_slot (Some slot) (Some version) at version_is all = at_event slot version (event_of command version) at version_is refl all

-- the command's environment has the new version
new_here : (command : Command) (up : UpstreamState) (obeyed : AppliedCommand) (o : IsObeyed command up obeyed) (environment : List ℕ) → environment_of command ≡ environment
    → snapshot_in environment obeyed.up.board.slots ≡ Some (version_after o.version o.event)
new_here command up obeyed o environment here =
    subst (λ (name : List ℕ). snapshot_in name obeyed.up.board.slots ≡ Some (version_after o.version o.event)) here (
    ap (λ (u : UpstreamState). snapshot_in (environment_of command) u.board.slots) o.is
    ∙ slot_replaced (environment_of command) 0 o.slot up.board.slots (version_after o.version o.event) (o.at ∙ ap Some (omega arith)))

-- every other environment keeps its version
same_elsewhere : (command : Command) (up : UpstreamState) (obeyed : AppliedCommand) → IsObeyed command up obeyed → (environment : List ℕ) → same_text (environment_of command) environment ≡ false
    → snapshot_in environment obeyed.up.board.slots ≡ snapshot_in environment up.board.slots
same_elsewhere command up obeyed o environment apart =
    ap (λ (u : UpstreamState). snapshot_in environment u.board.slots) o.is
    ∙ other_slot_same (environment_of command) environment 0 o.slot up.board.slots (version_after o.version o.event) (o.at ∙ ap Some (omega arith)) apart

-- no command changes the secret
pub secret_stays : (command : Command) (up : UpstreamState) → (after_command command up).secret ≡ up.secret
secret_stays command up = decided (apply_command command up) refl
  where
    decided : (r : CommandResult AppliedCommand) → apply_command command up ≡ r → (up_after up r).secret ≡ up.secret
    decided (Err refusal) is = refl
    decided (Ok obeyed) is = ap (λ (u : UpstreamState). u.secret) (obeyed_by command up obeyed is).is

-- ---- versions

-- the version of an environment represents the history of these commands
Holds : ℕ → List ℕ → List Command → UpstreamState → Type 0
Holds epoch environment commands up = (v : EnvVersion) → snapshot_in environment up.board.slots ≡ Some v → IsHistoryOf epoch commands v

-- a command for the environment extends its history
holds_here : (epoch : ℕ) (environment : List ℕ) (before : List Command) (command : Command) (up : UpstreamState) (obeyed : AppliedCommand) → IsObeyed command up obeyed
    → environment_of command ≡ environment → Holds epoch environment before up → Holds epoch environment (before ++ command ∷ []) obeyed.up
unfolding Holds
holds_here epoch environment before command up obeyed o here holds v is =
    let version_is : snapshot_in environment up.board.slots ≡ Some o.version = subst (λ (name : List ℕ). snapshot_in name up.board.slots ≡ Some o.version) here o.version_is in
    let same : Some (version_after o.version o.event) ≡ Some v = sym (new_here command up obeyed o environment here) ∙ is in
    let this : version_after o.version o.event ≡ v = same_Some (version_after o.version o.event) v same in
    subst (IsHistoryOf epoch (before ++ command ∷ [])) this (one_more_is_history epoch before command o.version o.event (holds o.version version_is) o.event_is)

-- a command for another environment does not change its history
holds_elsewhere : (epoch : ℕ) (environment : List ℕ) (before : List Command) (command : Command) (up : UpstreamState) (obeyed : AppliedCommand) → IsObeyed command up obeyed
    → same_text (environment_of command) environment ≡ false → Holds epoch environment before up → Holds epoch environment before obeyed.up
unfolding Holds
holds_elsewhere epoch environment before command up obeyed o apart holds v is = holds v (sym (same_elsewhere command up obeyed o environment apart) ∙ is)

all_hold : (epoch : ℕ) (environment : List ℕ) (before commands : List Command) (up : UpstreamState) → Holds epoch environment before up
    → Holds epoch environment (before ++ for_environment environment (accepted commands up)) (after_commands commands up)
all_hold epoch environment before [] up holds = subst (λ (cs : List Command). Holds epoch environment cs up) (sym (append-nil before)) holds
all_hold epoch environment before (command ∷ commands) up holds = decided (apply_command command up) refl (λ cs now here. all_hold epoch environment cs commands now here)
  where
    Others : Type 0
    Others = (cs : List Command) (now : UpstreamState) → Holds epoch environment cs now
        → Holds epoch environment (cs ++ for_environment environment (accepted commands now)) (after_commands commands now)

    counted : (obeyed : AppliedCommand) (t : Bool) → IsObeyed command up obeyed → same_text (environment_of command) environment ≡ t → Others
        → Holds epoch environment (before ++ cond t (command ∷ for_environment environment (accepted commands obeyed.up)) (for_environment environment (accepted commands obeyed.up))) (after_commands commands obeyed.up)
    counted obeyed true o here others =
        let name : environment_of command ≡ environment = text_same (environment_of command) environment here in
        subst (λ (cs : List Command). Holds epoch environment cs (after_commands commands obeyed.up)) (append_assoc before (command ∷ []) (for_environment environment (accepted commands obeyed.up)))
        (others (before ++ command ∷ []) obeyed.up (holds_here epoch environment before command up obeyed o name holds))
    counted obeyed false o apart others = others before obeyed.up (holds_elsewhere epoch environment before command up obeyed o apart holds)

    decided : (r : CommandResult AppliedCommand) → apply_command command up ≡ r → Others
        → Holds epoch environment (before ++ for_environment environment (if_accepted command r (accepted commands (up_after up r)))) (after_commands commands (up_after up r))
    decided (Err refusal) is others = others before up holds
    decided (Ok obeyed) is others = counted obeyed (same_text (environment_of command) environment) (obeyed_by command up obeyed is) refl others

-- the accepted ones of these commands are added to the histories
all_added : (commands : List Command) (up : UpstreamState) → AreAdded (accepted commands up) up (after_commands commands up)
unfolding Holds
all_added commands up epoch before are environment v is =
    subst (λ (cs : List Command). IsHistoryOf epoch cs v)
    (sym (filter-append (λ (command : Command). same_text (environment_of command) environment) before (accepted commands up)))
    (all_hold epoch environment (for_environment environment before) commands up (are environment) v is)

pub some_added : (commands : List Command) (up after : UpstreamState) → after ≡ after_commands commands up → AreAdded (accepted commands up) up after
some_added commands up after leads = subst (λ (u : UpstreamState). AreAdded (accepted commands up) up u) (sym leads) (all_added commands up)

-- commands that were all accepted are all added to the histories
pub are_added : (commands : List Command) (up after : UpstreamState) → after ≡ after_commands commands up → accepted commands up ≡ commands → AreAdded commands up after
are_added commands up after leads all = subst (λ (cs : List Command). AreAdded cs up after) all (some_added commands up after leads)

-- an accepted command is added to the history of its environment
pub one_added : (command : Command) (up after : UpstreamState) (number : ℕ) → apply_command command up ≡ Ok (record { up = after; number = number })
    → AreAdded (command ∷ []) up after
one_added command up after number is =
    are_added (command ∷ []) up after (sym (ap (up_after up) is)) (ap (λ (r : CommandResult AppliedCommand). if_accepted command r []) is)

-- the initial versions represent the empty history
none_added : (boot : ℕ) (secret : List ℕ) (environments : List (List ℕ)) (book : List Token) (epoch : ℕ)
    → AreHistories epoch [] (opening boot secret environments book epoch)
none_added boot secret environments book epoch environment v is =
    subst (IsHistoryOf epoch []) (sym (opened_empty epoch environment environments v is)) (empty_is_history epoch)

pub opens_without : (up : UpstreamState) (boot : ℕ) (secret : List ℕ) (environments : List (List ℕ)) (book : List Token) (epoch : ℕ)
    → up ≡ opening boot secret environments book epoch → AreHistories epoch [] up
opens_without up boot secret environments book epoch is =
    subst (AreHistories epoch []) (sym is) (none_added boot secret environments book epoch)

pub versions_follow : VersionsMatchHistory
versions_follow boot secret environments book epoch commands =
    all_added commands (opening boot secret environments book epoch) epoch [] (none_added boot secret environments book epoch)

pub versions_belong_to_lines : VersionsBelongToLines
versions_belong_to_lines epoch commands v is =
    subst (λ (g : ℕ). IsLine (line_of g commands) × RepresentsLine (line_of g commands) everything v) is.era
    (represents_alone (history_of commands) everything v (is_history commands) is.represents)

-- ---- environments

some_after_one : (command : Command) (up : UpstreamState) (environment : List ℕ) (r : CommandResult AppliedCommand) → apply_command command up ≡ r
    → is_some (snapshot_in environment (up_after up r).board.slots) ≡ is_some (snapshot_in environment up.board.slots)
some_after_one command up environment (Err refusal) is = refl
some_after_one command up environment (Ok obeyed) is = decided (same_text (environment_of command) environment) refl (obeyed_by command up obeyed is)
  where
    decided : (t : Bool) → same_text (environment_of command) environment ≡ t → IsObeyed command up obeyed
        → is_some (snapshot_in environment obeyed.up.board.slots) ≡ is_some (snapshot_in environment up.board.slots)
    decided true here o =
        let name : environment_of command ≡ environment = text_same (environment_of command) environment here in
        let version_is : snapshot_in environment up.board.slots ≡ Some o.version = subst (λ (text : List ℕ). snapshot_in text up.board.slots ≡ Some o.version) name o.version_is in
        ap is_some (new_here command up obeyed o environment name) ∙ sym (ap is_some version_is)
    decided false apart o = ap is_some (same_elsewhere command up obeyed o environment apart)

some_after_all : (commands : List Command) (up : UpstreamState) (environment : List ℕ)
    → is_some (snapshot_in environment (after_commands commands up).board.slots) ≡ is_some (snapshot_in environment up.board.slots)
some_after_all [] up environment = refl
some_after_all (command ∷ commands) up environment =
    some_after_all commands (after_command command up) environment ∙ some_after_one command up environment (apply_command command up) refl

pub environments_are : EnvironmentsStay
environments_are boot secret environments book epoch commands environment =
    some_after_all commands (opening boot secret environments book epoch) environment ∙ opened_names epoch environment environments

-- ---- the accepted commands alone

pub refused_is_nothing : (command : Command) (up : UpstreamState) (refusal : CommandRefusal) → apply_command command up ≡ Err refusal → after_command command up ≡ up
refused_is_nothing command up refusal is = ap (up_after up) is

-- the upstream after an accepted command
after_is : (command : Command) (up : UpstreamState) (obeyed : AppliedCommand) → apply_command command up ≡ Ok obeyed → after_command command up ≡ obeyed.up
after_is command up obeyed is = ap (up_after up) is

pub others_result_there : (commands : List Command) (up : UpstreamState) → after_commands (accepted commands up) up ≡ after_commands commands up
others_result_there [] up = refl
others_result_there (command ∷ commands) up = decided (apply_command command up) refl (others_result_there commands)
  where
    decided : (r : CommandResult AppliedCommand) → apply_command command up ≡ r → ((now : UpstreamState) → after_commands (accepted commands now) now ≡ after_commands commands now)
        → after_commands (if_accepted command r (accepted commands (up_after up r))) up ≡ after_commands commands (up_after up r)
    decided (Err refusal) is others = others up
    decided (Ok obeyed) is others =
        ap (λ (now : UpstreamState). after_commands (accepted commands obeyed.up) now) (after_is command up obeyed is) ∙ others obeyed.up

pub others_are_accepted : (commands : List Command) (up : UpstreamState) → accepted (accepted commands up) up ≡ accepted commands up
others_are_accepted [] up = refl
others_are_accepted (command ∷ commands) up = decided (apply_command command up) refl (others_are_accepted commands)
  where
    decided : (r : CommandResult AppliedCommand) → apply_command command up ≡ r → ((now : UpstreamState) → accepted (accepted commands now) now ≡ accepted commands now)
        → accepted (if_accepted command r (accepted commands (up_after up r))) up ≡ if_accepted command r (accepted commands (up_after up r))
    decided (Err refusal) is others = others up
    decided (Ok obeyed) is others =
        ap (λ (x : CommandResult AppliedCommand). if_accepted command x (accepted (accepted commands obeyed.up) (up_after up x))) is
        ∙ ap (λ (cs : List Command). command ∷ cs) (others obeyed.up)

-- the accepted commands of two lists in order are those of the first list, then those of the second
pub accepted_both : (first second : List Command) (up : UpstreamState) → accepted (first ++ second) up ≡ accepted first up ++ accepted second (after_commands first up)
accepted_both [] second up = refl
accepted_both (command ∷ first) second up = decided (apply_command command up) (accepted_both first second)
  where
    decided : (r : CommandResult AppliedCommand) → ((now : UpstreamState) → accepted (first ++ second) now ≡ accepted first now ++ accepted second (after_commands first now))
        → if_accepted command r (accepted (first ++ second) (up_after up r))
        ≡ if_accepted command r (accepted first (up_after up r)) ++ accepted second (after_commands first (up_after up r))
    decided (Err refusal) others = others up
    decided (Ok obeyed) others = ap (λ (cs : List Command). command ∷ cs) (others obeyed.up)
