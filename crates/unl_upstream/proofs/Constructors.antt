-- Results with different constructors differ, and equal results have equal values. The lemmas are stated over plain variables, so that
-- their use at a large term is cheap to check.
use Rattle.std.proofs.Common.{◌≡◌, Result, Ok, Err, IsOk}

pub ok_same : {T E : Type 0} (x y : T) → ◌≡◌ {A = Result T E} (Ok x) (Ok y) → x ≡ y
ok_same x y is = cc

pub err_same : {T E : Type 0} (x y : E) → ◌≡◌ {A = Result T E} (Err x) (Err y) → x ≡ y
err_same x y is = cc

pub err_is_no_ok : {T E A : Type 0} (e : E) (x : T) → ◌≡◌ {A = Result T E} (Err e) (Ok x) → A
err_is_no_ok e x is = absurd cc

pub ok_is_no_err : {T E A : Type 0} (x : T) (e : E) → ◌≡◌ {A = Result T E} (Ok x) (Err e) → A
ok_is_no_err x e is = absurd cc

pub err_is_no_success : (T : Type 0) {E A : Type 0} (e : E) → IsOk {T = T} {E = E} (Err e) → A
err_is_no_success T e is = absurd cc
