use Rattle.std.proofs.Common.{◌≡◌, suc, List, ◌∷◌, ◌++◌, ◌+◌, ◌≤◌, length, subst, ◌∙◌, string_bytes, arith}
use Rattle.std.proofs.lemmas.List.{length_push}
use Rattle.std.proofs.lemmas.List.Elements.{All-nil, All-push}
use Rattle.std.proofs.lemmas.Result.{err_from_is_err_and}
use Rattle.serde_json.specs.View.{members_view}
use Rattle.serde_json.proofs.Views.{Entry}
use Rattle.unl_documents.specs.Parameters.{AreRising}
use Rattle.unl_metrics.specs.Readable.{HasValidName}
use Rattle.unl_metrics.specs.Reports.{each_member, variant_count}
use Rattle.unl_metrics.proofs.Members.{with_prefix, variant_names, names_of, begins, goes_on, ends, is_done, rising_names, rising_goes_on, rising_at_end}
use Rattle.unl_metrics.proofs.reading.each_variant.Goals as goal

pub loop-name-init : goal.loop-name-init
loop-name-init c =
    let entries = c.args.members.now.entries in
    let all : c.into_iter-name-iterator.result ≡ entries = c.into_iter-name-iterator.ensures.into_iter_gives ∙ c.iter-name-items.ensures.rest in
    rw (c.new-variants.ensures, all) record {
      so_far = begins (each_member (variant_count c.args.field) (members_view entries));
      rising = rising_names entries c.iter-name-items.ensures.ordered;
      names = All-nil HasValidName;
      len = omega arith;
    }

pub returns-in_err-variant_of-clause-gives : goal.returns-in_err-variant_of-clause-gives
returns-in_err-variant_of-clause-gives c =
    let l = c.loop-name in
    let kind = variant_count c.args.field in
    let e : Entry = (c.in-Some.name.now, c.in-Some.value.now) in
    let total = each_member kind (members_view c.args.members.now.entries) in
    let p = err_from_is_err_and c.from_residual.result c.from_residual.ensures.1 in
    let so_far : with_prefix l.variants (each_member kind (members_view (e ∷ c.next.new.self))) ≡ total = subst (λ (es : List Entry). with_prefix l.variants (each_member kind (members_view es)) ≡ total) c.in-Some.ensures.steps l.invariant.so_far in
    rw (p.1, p.2) (ends c.in_err-variant_of.field-0.0 kind l.variants e c.next.new.self total (rw (← c.as_str.ensures.value) c.in_err-variant_of.ensures.gives) so_far)

pub loop-name-preserved : goal.loop-name-preserved
loop-name-preserved c =
    let l = c.loop-name in
    let kind = variant_count c.args.field in
    let e : Entry = (c.in-Some.name.now, c.in-Some.value.now) in
    let left = c.next.new.self in
    let found = c.in_ok-variant_of.field-0 in
    let total = each_member kind (members_view c.args.members.now.entries) in
    let so_far : with_prefix l.variants (each_member kind (members_view (e ∷ left))) ≡ total = subst (λ (es : List Entry). with_prefix l.variants (each_member kind (members_view es)) ≡ total) c.in-Some.ensures.steps l.invariant.so_far in
    let rising : AreRising (variant_names l.variants ++ string_bytes e.0 ∷ names_of left) = subst (λ (es : List Entry). AreRising (variant_names l.variants ++ names_of es)) c.in-Some.ensures.steps l.invariant.rising in
    let len : length l.variants + suc (length left) ≤ length c.args.members.now.entries = subst (λ (es : List Entry). length l.variants + length es ≤ length c.args.members.now.entries) c.in-Some.ensures.steps l.invariant.len in
    rw c.in_ok-push.ensures.ok record {
      so_far = goes_on kind l.variants e left found total (rw (← c.as_str.ensures.value) c.in_ok-variant_of.ensures.gives) so_far;
      rising = rising_goes_on l.variants found (string_bytes e.0) (names_of left) (rw (← c.as_str.ensures.value) c.in_ok-variant_of.ensures.same) rising;
      names = All-push HasValidName l.variants found l.invariant.names c.in_ok-variant_of.ensures.named;
      len = omega (arith, length_push l.variants found, len);
    }

pub returns-clause-gives : goal.returns-clause-gives
returns-clause-gives c =
    let l = c.loop-name in
    let kind = variant_count c.args.field in
    let total = each_member kind (members_view c.args.members.now.entries) in
    is_done kind l.variants total (subst (λ (es : List Entry). with_prefix l.variants (each_member kind (members_view es)) ≡ total) c.in-None.ensures.steps.0 l.invariant.so_far)

pub returns-clause-rising : goal.returns-clause-rising
returns-clause-rising c =
    rising_at_end c.loop-name.variants (subst (λ (es : List Entry). AreRising (variant_names c.loop-name.variants ++ names_of es)) c.in-None.ensures.steps.0 c.loop-name.invariant.rising)
