use Rattle.std.proofs.Common.{◌≡◌, suc, List, ◌∷◌, ◌+◌, ◌≤◌, length, subst, ◌∙◌, arith}
use Rattle.std.proofs.lemmas.List.{length_push}
use Rattle.std.proofs.lemmas.List.Elements.{All-nil, All-push}
use Rattle.std.proofs.lemmas.Result.{err_from_is_err_and}
use Rattle.serde_json.specs.View.{members_view}
use Rattle.serde_json.proofs.Views.{Entry}
use Rattle.unl_metrics.specs.Readable.{IsReadable}
use Rattle.unl_metrics.specs.Reports.{each_member, toggle_of}
use Rattle.unl_metrics.proofs.Members.{with_prefix, begins, goes_on, ends, is_done}
use Rattle.unl_metrics.proofs.reading.each_toggle.Goals as goal

pub loop-feature-init : goal.loop-feature-init
loop-feature-init c =
    let entries = c.args.members.now.entries in
    let all : c.into_iter-feature-iterator.result ≡ entries = c.into_iter-feature-iterator.ensures.into_iter_gives ∙ c.iter-feature-items.ensures.rest in
    rw (c.new-entries.ensures, all) record {
      so_far = begins (each_member (toggle_of c.args.app.now c.args.hour c.args.field) (members_view entries));
      valid = All-nil IsReadable;
      len = omega arith;
    }

pub returns-in_err-toggle_of-clause-gives : goal.returns-in_err-toggle_of-clause-gives
returns-in_err-toggle_of-clause-gives c =
    let l = c.loop-feature in
    let kind = toggle_of c.args.app.now c.args.hour c.args.field in
    let e : Entry = (c.in-Some.feature.now, c.in-Some.value.now) in
    let total = each_member kind (members_view c.args.members.now.entries) in
    let p = err_from_is_err_and c.from_residual.result c.from_residual.ensures.1 in
    let so_far : with_prefix l.entries (each_member kind (members_view (e ∷ c.next.new.self))) ≡ total = subst (λ (es : List Entry). with_prefix l.entries (each_member kind (members_view es)) ≡ total) c.in-Some.ensures.steps l.invariant.so_far in
    rw (p.1, p.2) (ends c.in_err-toggle_of.field-0.0 kind l.entries e c.next.new.self total (rw (← c.as_str.ensures.value) c.in_err-toggle_of.ensures.gives) so_far)

pub loop-feature-preserved : goal.loop-feature-preserved
loop-feature-preserved c =
    let l = c.loop-feature in
    let kind = toggle_of c.args.app.now c.args.hour c.args.field in
    let e : Entry = (c.in-Some.feature.now, c.in-Some.value.now) in
    let left = c.next.new.self in
    let found = c.in_ok-toggle_of.field-0 in
    let total = each_member kind (members_view c.args.members.now.entries) in
    let so_far : with_prefix l.entries (each_member kind (members_view (e ∷ left))) ≡ total = subst (λ (es : List Entry). with_prefix l.entries (each_member kind (members_view es)) ≡ total) c.in-Some.ensures.steps l.invariant.so_far in
    let len : length l.entries + suc (length left) ≤ length c.args.members.now.entries = subst (λ (es : List Entry). length l.entries + length es ≤ length c.args.members.now.entries) c.in-Some.ensures.steps l.invariant.len in
    rw c.in_ok-push.ensures.ok record {
      so_far = goes_on kind l.entries e left found total (rw (← c.as_str.ensures.value) c.in_ok-toggle_of.ensures.gives) so_far;
      valid = All-push IsReadable l.entries found l.invariant.valid c.in_ok-toggle_of.ensures.valid;
      len = omega (arith, length_push l.entries found, len);
    }

pub returns-clause-gives : goal.returns-clause-gives
returns-clause-gives c =
    let l = c.loop-feature in
    let kind = toggle_of c.args.app.now c.args.hour c.args.field in
    let total = each_member kind (members_view c.args.members.now.entries) in
    is_done kind l.entries total (subst (λ (es : List Entry). with_prefix l.entries (each_member kind (members_view es)) ≡ total) c.in-None.ensures.steps.0 l.invariant.so_far)
