-- Revisions of an environment, named by epoch and number, and their order: by epoch, then by number.
use Rattle.std.specs.Prelude.{◌≡◌, ℕ, ◌==◌, ◌<◌, ◌≤◌, Bool, ◌&&◌, ◌||◌, nat_lt, ◌⊎◌}
use Rattle.unl_delta.specs.declared.version.EnvVersion.{EnvVersion}

-- names a revision: the state after the events of an epoch with numbers up to this number
pub record Revision : Type 0 where
  pub epoch : ℕ
  pub number : ℕ

-- the revision of a version
abbrev pub revision_of : EnvVersion → Revision
revision_of v = record { epoch = v.epoch; number = v.number }

-- whether the first revision is older than the second (this order is chosen by this project)
abbrev pub is_older : Revision → Revision → Bool
is_older these those = nat_lt these.epoch those.epoch || ((these.epoch == those.epoch) && nat_lt these.number those.number)

-- the second revision is not older than the first
abbrev pub IsNotOlder : Revision → Revision → Type 0
IsNotOlder these those = (these.epoch < those.epoch) ⊎ ((these.epoch ≡ those.epoch) × (these.number ≤ those.number))
