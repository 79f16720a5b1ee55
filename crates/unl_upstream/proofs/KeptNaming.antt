-- The state after served links, described by the kept commands and by the number of draws taken.
use Rattle.std.proofs.Common.{◌≡◌, ℕ, ◌+◌, List, [], ◌∷◌, ◌++◌, length, length-append, append_assoc, append-nil, refl, sym, ap, ◌∙◌, subst, arith}
use Rattle.unl_server.specs.Handling.{Coming}
use Rattle.unl_upstream.specs.declared.command.Command.{Command}
use Rattle.unl_upstream.specs.History.{after_commands}
use Rattle.unl_upstream.specs.Kept.{AttemptsInOrder, KeptState, Moves, KeepAttempt, acknowledged, faults_among}
use Rattle.unl_upstream.specs.KeptLinks.{IsNamed, KeptLinksNameCommands, LinkEffect, LinkServed, Linked, AllLinksEffect}
use Rattle.unl_upstream.specs.KeptServing.{AnswersByKeeping, NoKeeperFault, kept_serving_state, tried_in}
use Rattle.unl_upstream.specs.Served.{draws_after}
use Rattle.unl_upstream.specs.Upstream.{UpstreamState}
use Rattle.unl_upstream.proofs.Asked.{Took, draws_both, took}
use Rattle.unl_upstream.proofs.Carrying.{acknowledged_both, faults_both, keeps_both, moves_all}
use Rattle.unl_upstream.proofs.KeptServed.{without_fault_in, keeps_in}
use Rattle.unl_upstream.proofs.Served.{after_both}

-- ---- one link

-- the kept commands of these attempts describe a link; if the keeper failed at none of these attempts, no reply is 503 `KeeperFault`
record NamesWithoutFaults
    (before : KeptState) (coming : Coming) (bytes : List ℕ) (back : List ℕ × ℕ) (tried : List KeepAttempt) (taken : ℕ) (after : KeptState)
    (coming_after : Coming) : Type 0 where
  pub names : LinkEffect before coming bytes back (acknowledged tried) taken after coming_after
  pub no_faults : faults_among tried ≡ 0 → NoKeeperFault 0 (kept_serving_state before 0 coming) names.requests names.text names.reached names.answered

-- one served link is described by its commands and its draws
record HasLinkEffect (before : KeptState) (coming : Coming) (bytes : List ℕ) (back : List ℕ × ℕ) (after : KeptState) (coming_after : Coming) : Type 0 where
  pub tried : List KeepAttempt
  pub keeps : AttemptsInOrder tried before after
  pub taken : ℕ
  pub named : NamesWithoutFaults before coming bytes back tried taken after coming_after
  pub draws : coming_after ≡ draws_after taken coming

link_names : (before : KeptState) (coming : Coming) (bytes : List ℕ) (back : List ℕ × ℕ) (after : KeptState) (coming_after : Coming)
    → LinkServed before coming bytes back after coming_after → HasLinkEffect before coming bytes back after coming_after
link_names before coming bytes back after coming_after served =
    let one : Took AnswersByKeeping bytes before coming served.end served.count after coming_after =
    took AnswersByKeeping bytes back before coming served.end served.count after coming_after served.left_after served.conversation served.memory in
    let tried : List KeepAttempt = tried_in 0 (kept_serving_state before 0 coming) one.requests one.text one.reached one.answered in record {
      tried = tried;
      keeps = subst (AttemptsInOrder tried before) (sym one.state) (keeps_in 0 one.requests one.text (kept_serving_state before 0 coming) one.reached one.answered);
      taken = one.taken;
      named = record {
        names = record {
          served = served;
          requests = one.requests;
          rest = one.rest;
          asked = one.reads;
          counted = one.counted;
          text = one.text;
          reached = one.reached;
          answered = one.answered;
          gives = refl;
          takes = one.takes;
        };
        no_faults = without_fault_in 0 one.requests one.text (kept_serving_state before 0 coming) one.reached one.answered;
      };
      draws = one.draws;
    }

-- ---- links one after another

links_name : (links : List (List ℕ)) (backs : List (List ℕ × ℕ)) (start : UpstreamState) (reopened : ℕ) (coming : Coming) (commands : List Command) (drawn : ℕ)
    (state last : KeptState) (coming_last : Coming) → IsNamed start reopened commands state → Linked state (draws_after drawn coming) links backs last coming_last
    → AllLinksEffect start reopened coming commands drawn state links backs last coming_last
links_name [] [] start reopened coming commands drawn state last coming_last named linked = record {
  commands_after = commands;
  drawn_after = drawn;
  linked = (refl, refl, linked.0);
  named = subst (IsNamed start reopened commands) (sym linked.0) named;
  draws = linked.1;
  tried = [];
  keeps = linked.0;
  adds = sym (append-nil commands);
  no_faults = λ none. tt;
}
links_name [] (back ∷ backs) start reopened coming commands drawn state last coming_last named linked = absurd linked
links_name (bytes ∷ links) [] start reopened coming commands drawn state last coming_last named linked = absurd linked
links_name (bytes ∷ links) (back ∷ backs) start reopened coming commands drawn state last coming_last named linked =
    let middle : KeptState = linked.0 in
    let one : HasLinkEffect state (draws_after drawn coming) bytes back middle linked.1 =
    link_names state (draws_after drawn coming) bytes back middle linked.1 linked.2 in
    let more : List Command = acknowledged one.tried in
    let moves : Moves one.tried state middle = moves_all one.tried state middle one.keeps in
    let longer : length (commands ++ more) ≡ length commands + length more = length-append commands more in
    let next : IsNamed start reopened (commands ++ more) middle = record {
      up = moves.leads ∙ ap (after_commands more) named.up ∙ sym (after_both commands more start);
      count = omega (arith, moves.counted, named.count, longer);
    } in
    let draws : linked.1 ≡ draws_after (drawn + one.taken) coming = one.draws ∙ draws_both one.taken drawn coming in
    let first : NamesWithoutFaults state (draws_after drawn coming) bytes back one.tried one.taken middle (draws_after (drawn + one.taken) coming) =
    subst (λ (c : Coming). NamesWithoutFaults state (draws_after drawn coming) bytes back one.tried one.taken middle c) draws one.named in
    let others : AllLinksEffect start reopened coming (commands ++ more) (drawn + one.taken) middle links backs last coming_last =
    links_name links backs start reopened coming (commands ++ more) (drawn + one.taken) middle last coming_last next
    (subst (λ (c : Coming). Linked middle c links backs last coming_last) draws linked.3) in
    let faults : faults_among (one.tried ++ others.tried) ≡ faults_among one.tried + faults_among others.tried = faults_both one.tried others.tried in
    record {
      commands_after = others.commands_after;
      drawn_after = others.drawn_after;
      linked = (more, one.taken, middle, first.names, next, others.linked);
      named = others.named;
      draws = others.draws;
      tried = one.tried ++ others.tried;
      keeps = keeps_both one.tried others.tried state middle last one.keeps others.keeps;
      adds = others.adds ∙ append_assoc commands more (acknowledged others.tried)
          ∙ ap (λ (cs : List Command). commands ++ cs) (sym (acknowledged_both one.tried others.tried));
      no_faults = λ none. (first.no_faults (omega (arith, none, faults)), others.no_faults (omega (arith, none, faults)));
    }

pub links_are_named : KeptLinksNameCommands
links_are_named start reopened coming commands drawn state links backs last coming_last named linked =
    links_name links backs start reopened coming commands drawn state last coming_last named linked
