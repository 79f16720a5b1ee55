-- The right side of a constraint (its value or values), parsed as its operator needs.
use Rattle.std.specs.Prelude.{◌≡◌, ℕ, List, map, Bool, true, false, ◌&&◌, Option, option_map, option_and_then}
use Rattle.std.specs.List.{list_any}
use Rattle.semver.specs.Identifiers.{parts_of}
use Rattle.unl_documents.specs.declared.constraint.Constraint.{Constraint}
use Rattle.unl_documents.specs.declared.operator.Operator.{Operator}
use Rattle.unl_documents.specs.declared.operator.Operator.TheVariants.{In, NotIn, StrContains, StrStartsWith, StrEndsWith, NumEq, NumGt}
use Rattle.unl_documents.specs.declared.operator.Operator.TheVariants.{NumGte, NumLt, NumLte, DateAfter, DateBefore, SemverEq, SemverGt}
use Rattle.unl_documents.specs.declared.operator.Operator.TheVariants.{SemverLt, Unknown}
use Rattle.unl_documents.specs.Parameters.{AreRising}
use Rattle.unl_context.specs.Known.{known_by}
use Rattle.unl_constraints.specs.Decimal.{number_of, IsRead}
use Rattle.unl_constraints.specs.Instant.{instant_of}
use Rattle.unl_constraints.specs.Texts.{compared, is_among}
use Rattle.unl_constraints.specs.Version.{version_of}
use Rattle.unl_constraints.specs.declared.operand.OperandKind.{OperandKind}
use Rattle.unl_constraints.specs.declared.operand.OperandKind.TheVariants as kind
use Rattle.unl_constraints.specs.declared.operand.Operand.{Operand}
use Rattle.unl_constraints.specs.declared.operand.ScalarOperand.{ScalarOperand}
use Rattle.unl_constraints.specs.declared.operand.ScalarOperand.TheVariants as scalar

-- The kind of comparison that the operator makes. An unknown operator has the kind `Member`, but its constraint never holds.
abbrev pub kind_of : Operator → OperandKind
kind_of In = kind.Member
kind_of NotIn = kind.Member
kind_of StrContains = kind.Part
kind_of StrStartsWith = kind.Part
kind_of StrEndsWith = kind.Part
kind_of NumEq = kind.Number
kind_of NumGt = kind.Number
kind_of NumGte = kind.Number
kind_of NumLt = kind.Number
kind_of NumLte = kind.Number
kind_of DateAfter = kind.Instant
kind_of DateBefore = kind.Instant
kind_of SemverEq = kind.Version
kind_of SemverGt = kind.Version
kind_of SemverLt = kind.Version
kind_of (Unknown name) = kind.Member

-- The kind is `Part`: the field is searched for each of the values as a substring.
abbrev pub is_part : OperandKind → Bool
is_part kind.Part = true
is_part k = false

-- The constraint's values are case-folded: the operator is one of the three STR operators and the constraint is
-- case-insensitive.
abbrev pub is_folded : Constraint → Bool
is_folded c = is_part (kind_of c.operator) && c.caseless

-- The constraint's values, each case-folded if `is_folded` is true.
abbrev pub compared_values : Constraint → List (List ℕ)
compared_values c = map (compared (is_folded c)) c.values

-- `values` is in ascending byte order, without duplicates. A string is in it exactly if it is one of the constraint's values,
-- which are case-folded first if `is_folded` is true.
pub record AreValues (c : Constraint) (values : List (List ℕ)) : Type 0 where
  pub rising : AreRising values
  pub same : (text : List ℕ) → is_among values text ≡ is_among (compared_values c) text

-- `s` is the constraint's single value `text`, if any, parsed for this kind of comparison. `Member` and `Part` use the list of values
-- instead of `text`, so they accept any `s`.
abbrev pub IsScalarOperand : OperandKind → Option (List ℕ) → ScalarOperand → Type 0
IsScalarOperand kind.Member text s = Unit {0}
IsScalarOperand kind.Part text s = Unit {0}
IsScalarOperand kind.Number text (scalar.Number n) = IsRead (option_and_then number_of text) n
IsScalarOperand kind.Number text s = ⊥
IsScalarOperand kind.Instant text (scalar.Instant i) = i ≡ option_and_then instant_of text
IsScalarOperand kind.Instant text s = ⊥
IsScalarOperand kind.Version text (scalar.Version v) = option_map parts_of v ≡ option_and_then version_of text
IsScalarOperand kind.Version text s = ⊥

-- `right` is the prepared right side of the constraint `c`. Its values are those of the constraint, case-folded if `is_folded`
-- is true, in ascending byte order without duplicates. Its single value is parsed for the kind of comparison. Its `known` is the
-- context field that the constraint names, if that is one of the six fields of `KnownField`.
pub record IsOperand (c : Constraint) (right : Operand) : Type 0 where
  pub rising : AreRising right.values
  pub same : (test : List ℕ → Bool) → list_any test right.values ≡ list_any test (compared_values c)
  pub single : IsScalarOperand (kind_of c.operator) c.value right.single
  pub known : right.known ≡ known_by c.field
