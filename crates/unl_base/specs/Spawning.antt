-- What the result of a spawner (which runs jobs) says about the change of its fault count.
use Rattle.std.specs.Prelude.{◌≡◌, ◌≤◌, ℕ, Result, Err, OnOk}
use Rattle.unl_base.specs.Faults.{Rose}
use Rattle.unl_base.specs.declared.spawn_fault.SpawnFault.{SpawnFault}
use Rattle.unl_base.specs.declared.spawn_fault.SpawnFault.TheVariants.{NotStarted, Memory}

-- The count hasn't decreased. It rose if the result is `NotStarted`. It is unchanged if the jobs ran or the result is `Memory`.
pub record HasSpawnCause {T : Type 0} (before now : ℕ) (result : Result T SpawnFault) : Type 0 where
  pub later : before ≤ now
  pub cause : result ≡ Err NotStarted → Rose before now
  pub still : OnOk result (now ≡ before)
  pub untouched : result ≡ Err Memory → now ≡ before
