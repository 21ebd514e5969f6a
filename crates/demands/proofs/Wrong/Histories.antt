-- What a computed history opens, and the histories that refute more than one wrong machine.
use Prim.Native.Nat.{ℕ}
use mathlib.Core.Path.{◌≡◌}
use mathlib.Core.Bool.{false}
use mathlib.Core.List.{List, [], ◌∷◌, ◌++◌}
use lib.ListN.{replicate}
use lib.Dec.{eqb}
use Rattle.table.proofs.Computes.{apart}
use Rattle.read.specs.declared.Handle.TheVariants.{Drop, Enter, Release}
use Rattle.write.specs.declared.Opening.{Opening}
use Rattle.write.specs.declared.Opening.TheVariants.{Publish}
use Rattle.write.specs.Call.{Call, Create, On, Append, append_one, Open, Step}
use Rattle.demands.specs.Table.{wanted, wanted_value}
use Rattle.demands.specs.Demands.{tell, telling}
use Rattle.demands.specs.Follows.{follow}
use Rattle.demands.specs.KnownEnds.{publish, adds, enters}
use Rattle.demands.proofs.Computes.{rules}

unfoldable pub tells : Type 0
unfolding rules wanted wanted_value tell telling follow
tells = Unit {0}

-- two numbers that differ, though they are said to be equal
pub differ : {m n : ℕ} → eqb m n ≡ false → m ≡ n → ⊥
differ d e = apart (λ n. n) d e

-- ---- histories

abbrev pub steps : ℕ → List Call
steps n = replicate n Step

-- the second publish has begun
abbrev pub again : List Call
again = publish ++ (Open Publish ∷ [])

-- slot 1 has a guard
abbrev pub entered : List Call
entered = Create ∷ enters 1

-- and is inside at the first publish's snapshots
abbrev pub snapped : List Call
snapped = entered ++ publish

-- the next publish, or try, comes to it
abbrev pub meeting : Opening → List Call
meeting o = snapped ++ (Open o ∷ Step ∷ [])

-- it releases and drops, and a new handle has the slot
abbrev pub replaced : List Call
replaced = snapped ++ (On 1 (Release 0) ∷ On 1 Drop ∷ Create ∷ [])

-- that one enters, and the next publish comes to it
abbrev pub meeting_new : List Call
meeting_new = replaced ++ (On 1 Enter ∷ Open Publish ∷ Step ∷ [])

-- 240 operations are in the log
abbrev pub crowded : List Call
crowded = publish ++ replicate 4 (Append (adds 60))

-- a reader of what was published
abbrev pub reading : List Call
reading = Create ∷ append_one 1 7 3 ∷ publish ++ enters 1
