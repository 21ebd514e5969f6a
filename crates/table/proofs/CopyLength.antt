-- An operation keeps the length of a fit copy.
use Prim.Native.Nat.{ℕ}
use mathlib.Core.Path.{◌≡◌, refl}
use mathlib.Core.List.{List}
use native.Mathlib.Omega.{arith}
use lib.ListN.{length, length-set, length-replicate}
use Rattle.table.specs.Copy.{added, dropped, applied, Fit}
use Rattle.table.proofs.CopyFind.{added_cases, dropped_cases, applied_cases}
use Rattle.table.proofs.CopyWords.{length_inserted, length_removed}

pub length_added : (key amount : ℕ) (w : List ℕ) → Fit w → length (added key amount w) ≡ length w
length_added key amount w fit =
    added_cases (λ v. length v ≡ length w) key amount w
    (λ i p. simp length-set)
    (λ i a p l. length_inserted i key amount w p.upto (omega arith))
    (λ a l. simp length-set)

pub length_dropped : (key : ℕ) (w : List ℕ) → Fit w → length (dropped key w) ≡ length w
length_dropped key w fit =
    dropped_cases (λ v. length v ≡ length w) key w (λ i p. length_removed i w p.used (omega arith)) (λ a. refl)

pub length_applied : (kind key amount : ℕ) (w : List ℕ) → Fit w → length (applied kind key amount w) ≡ length w
length_applied kind key amount w fit =
    applied_cases (λ v. length v ≡ length w) key amount w kind (length_added key amount w fit)
    (length_dropped key w fit) (simp length-replicate) refl
