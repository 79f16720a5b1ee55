-- The effect of inversion, and of the opposite operator, on the table of operators.
use Rattle.std.proofs.Common.{◌≡◌, ℕ, Bool, true, false, not, ◌&&◌, Option, Some, None, IsSome, if◌then◌else◌, refl}
use Rattle.std.specs.Ordering.{is_lt, is_le, is_gt, is_ge, is_some_and}
use Rattle.std.specs.declared.cmp.Ordering.{Ordering}
use Rattle.std.specs.declared.cmp.Ordering.TheVariants.{Less, Equal, Greater}
use Rattle.unl_documents.specs.declared.constraint.Constraint.{Constraint}
use Rattle.unl_documents.specs.declared.operator.Operator.{Operator}
use Rattle.unl_documents.specs.declared.operator.Operator.TheVariants.{Unknown}
use Rattle.unl_context.specs.Context.{Fields}
use Rattle.unl_constraints.specs.Constraint.{is_known, is_in, text_fits, number_order, version_order, date_order, fits_by, fits, constraint_holds}
use Rattle.unl_constraints.specs.Laws.{InvertedNegates, NotInIsContraryOfIn, NumGteIsContraryOfNumLt, NumLteIsContraryOfNumGt}

negated : (known inverted b : Bool) → known ≡ true → (known && (if not inverted then not b else b)) ≡ not (known && (if inverted then not b else b))
negated true true true h = refl
negated true true false h = refl
negated true false b h = refl
negated false inverted b h = absurd (cc h)

-- No row of the table depends on whether the constraint is inverted.
same_row : (operator : Operator) (c : Constraint) (inverted : Bool) (context : Fields) (now : ℕ) → fits_by operator (record c { inverted = inverted }) context now ≡ fits_by operator c context now
unfolding is_in text_fits number_order version_order date_order
same_row (Unknown name) c inverted context now = refl
same_row operator c inverted context now = refl

pub inverted_is_not : InvertedNegates
unfolding constraint_holds fits
inverted_is_not = λ c context now known. rw (same_row c.operator c (not c.inverted) context now) (negated (is_known c.operator) c.inverted (fits_by c.operator c context now) known)

contrary : (inverted b : Bool) → (true && (if inverted then not (not b) else not b)) ≡ not (true && (if inverted then not b else b))
contrary true b = refl
contrary false b = refl

-- If one result is the negation of another, it still is after both of them, or neither, are inverted.
contraries : (inverted a b : Bool) → a ≡ not b → (true && (if inverted then not a else a)) ≡ not (true && (if inverted then not b else b))
contraries inverted a b is = rw is (contrary inverted b)

pub not_in_is_not : NotInIsContraryOfIn
unfolding constraint_holds fits is_in
not_in_is_not = λ c context now. contrary c.inverted (is_in c context)

ge_is_not_lt : (order : Option Ordering) → IsSome order → is_some_and is_ge order ≡ not (is_some_and is_lt order)
ge_is_not_lt None h = absurd (cc h)
ge_is_not_lt (Some Less) h = refl
ge_is_not_lt (Some Equal) h = refl
ge_is_not_lt (Some Greater) h = refl

le_is_not_gt : (order : Option Ordering) → IsSome order → is_some_and is_le order ≡ not (is_some_and is_gt order)
le_is_not_gt None h = absurd (cc h)
le_is_not_gt (Some Less) h = refl
le_is_not_gt (Some Equal) h = refl
le_is_not_gt (Some Greater) h = refl

pub gte_is_not_lt : NumGteIsContraryOfNumLt
unfolding constraint_holds fits number_order
gte_is_not_lt = λ c context now some. contraries c.inverted (is_some_and is_ge (number_order c context)) (is_some_and is_lt (number_order c context)) (ge_is_not_lt (number_order c context) some)

pub lte_is_not_gt : NumLteIsContraryOfNumGt
unfolding constraint_holds fits number_order
lte_is_not_gt = λ c context now some. contraries c.inverted (is_some_and is_le (number_order c context)) (is_some_and is_gt (number_order c context)) (le_is_not_gt (number_order c context) some)
