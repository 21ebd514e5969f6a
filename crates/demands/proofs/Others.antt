-- A call on a handle, and a beginning, is no step and no run.
use Prim.Native.Nat.{ℕ}
use mathlib.Core.Path.{◌≡◌, refl}
use mathlib.Core.Bool.{false}
use Rattle.read.specs.declared.Handle.{Handle}
use Rattle.read.specs.declared.Handle.TheVariants.{Drop, Enter, GoOn, Release, LookUp, WasDropped}
use Rattle.write.specs.declared.Opening.{Opening}
use Rattle.write.specs.Call.{Call, On, Open}
use Rattle.write.specs.declared.Opening.TheVariants as opening
use Rattle.write.specs.Numbers.{is_step, is_run}

pub record Other (k : Call) : Type 0 where
  pub no_step : is_step k ≡ false
  pub no_run : is_run k ≡ false

pub on_other : (i : ℕ) (h : Handle) → Other (On i h)
on_other i Drop = record { no_step = refl; no_run = refl }
on_other i Enter = record { no_step = refl; no_run = refl }
on_other i GoOn = record { no_step = refl; no_run = refl }
on_other i (Release j) = record { no_step = refl; no_run = refl }
on_other i (LookUp j key) = record { no_step = refl; no_run = refl }
on_other i WasDropped = record { no_step = refl; no_run = refl }

pub open_other : (o : Opening) → Other (Open o)
open_other opening.Publish = record { no_step = refl; no_run = refl }
open_other opening.Try = record { no_step = refl; no_run = refl }
open_other opening.Flush = record { no_step = refl; no_run = refl }
open_other opening.Take = record { no_step = refl; no_run = refl }
