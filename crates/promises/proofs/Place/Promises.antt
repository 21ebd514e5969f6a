-- Each public contract as a promise of any program, a program being a function of the arguments (`Contracts`). The three
-- functions of this crate promise the same, of the answer and the record after it.
-- `release` has its record behind a reference: `Says` is its contract (`release_says`), of the records and guards that `leave` has, which
-- passes it both.
use Prim.Native.Nat.{ℕ}
use mathlib.Core.Bool.{Bool}
use Rattle.promises.proofs.Contracts.{typed, Leaves, Keeps}
use Rattle.read.specs.declared.Slot.{Slot}
use Rattle.place.specs.declared.Released.{Released}
use Rattle.place.specs.Release.{release_rule}
use Rattle.promises.proofs.Place.Determined.{Says}
use Rattle.place.proofs
use Rattle.place.proofs.Inner as inner

pub data Function : Type 0 where
  by_value : Function
  release : Function
  leave : Function

abbrev pub has : Slot × (ℕ × Unit {0}) → Bool
has = typed tt proofs.leave.Kinds.ps

abbrev pub Promise : Function → (ℕ → Slot → Released) → Type 0
Promise by_value f =
    (j : ℕ) (s : Slot) → Keeps (typed tt (inner.by_value).takes) ((inner.by_value).post tt) (s, (j, tt)) (f j s)
Promise release f = (j : ℕ) (s : Slot) → Leaves has (λ a r t. Says j s r t) (s, (j, tt)) (f j s).answer (f j s).slot
Promise leave f = (j : ℕ) (s : Slot) → Keeps has (proofs.leave.Reads.Post tt) (s, (j, tt)) (f j s)

-- the rule keeps them: no promise is false of every program
pub kept : (k : Function) → Promise k release_rule
kept by_value = search
kept release = search
kept leave = search
