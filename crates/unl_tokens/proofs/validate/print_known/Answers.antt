use Rattle.std.proofs.Common.{◌≡◌, [], ◌++◌, take, drop, refl, sym, ap, ◌∙◌}
use Rattle.std.proofs.lemmas.List.{append-nil, drop_all}
use Rattle.unl_tokens.specs.Requests.{known, known_after, token_tokens}
use Rattle.unl_tokens.proofs.Marks.{nothing_marked, prints_on, marks_on}
use Rattle.unl_tokens.proofs.validate.print_known.Goals as goal

pub loop-text-init : goal.loop-text-init
unfolding known
loop-text-init c = record { before = refl; rest = refl; marks = rw (c.in_ok-answered.ensures, c.tokens.ensures) (nothing_marked c.args.tokens.now) }

pub loop-text-preserved : goal.loop-text-preserved
loop-text-preserved c =
    let tokens = c.args.tokens.now in
    let asked = c.args.asked.now in
    let i = c.loop-text.text-index in
    let old = c.loop-text.invariant in
    let marks = c.loop-text.answered.items in
    let printed = c.in_ok-print_new.ensures.tokens in record {
      before = printed.before ∙ old.before;
      rest = rw printed.tokens (prints_on tokens asked i _ _ marks c.loop-text-test.true c.text-item.is c.requires old.marks ∙ old.rest);
      marks = rw c.in_ok-print_new.ensures.marks (marks_on tokens asked i _ marks c.loop-text-test.true c.text-item.is c.requires old.marks);
    }

pub returns : goal.returns
returns c =
    let tokens = c.args.tokens.now in
    let asked = c.args.asked.now in
    let i = c.loop-text.text-index in
    let left : token_tokens (known_after tokens (take i asked) (drop i asked)) ≡ token_tokens (known_after tokens (take i asked) []) = ap (λ texts. token_tokens (known_after tokens (take i asked) texts)) (drop_all i asked c.loop-text-test.false) in
    record {
      before = c.loop-text.invariant.before;
      tokens = sym (append-nil _) ∙ ap (λ ts. c.loop-text.out.tokens ++ ts) (sym left) ∙ c.loop-text.invariant.rest;
    }
