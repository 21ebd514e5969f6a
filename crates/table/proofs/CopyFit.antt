-- A fit copy stays fit.
use Prim.Native.Nat.{ℕ, ◌+◌, ◌*◌, ◌≤◌}
use mathlib.Core.Path.{◌≡◌, ◌∙◌}
use mathlib.Core.Bool.{true}
use mathlib.Core.List.{List}
use native.Mathlib.Omega.{arith}
use lib.ListN.{length, set, length-replicate}
use lib.Seq.{get_or-set_other}
use borrow.Author.Tests.{eq-eqb, le-leb}
use Rattle.table.specs.Copy.{pairs, words, entries, added, dropped, zeros, applied, fits, Fit}
use Rattle.table.specs.Order.{empty}
use Rattle.table.proofs.CopyFind.{added_cases, dropped_cases, applied_cases}
use Rattle.table.proofs.CopyWords.{get_d_zeros, entries_inserted, entries_removed}
use Rattle.table.proofs.CopyLength.{length_applied}

-- a store behind the entry count leaves it
pub entries_set : (w : List ℕ) (x y : ℕ) → 1 ≤ x → entries (set w x y) ≡ entries w
entries_set w x y h = get_or-set_other w x 0 y 0 (omega arith)

within_added : (key amount : ℕ) (w : List ℕ) → Fit w → entries (added key amount w) ≤ pairs
within_added key amount w fit =
    added_cases (λ v. entries v ≤ pairs) key amount w
    (λ i p. rw (entries_set w (2 * i + 3) _ (omega arith)) fit.within)
    (λ i a p l. rw (entries_inserted i key amount w p.upto (omega arith)) (omega arith))
    (λ a l. rw (entries_set w 1 _ (omega arith)) fit.within)

within_dropped : (key : ℕ) (w : List ℕ) → Fit w → entries (dropped key w) ≤ pairs
within_dropped key w fit =
    dropped_cases (λ v. entries v ≤ pairs) key w
    (λ i p. rw (entries_removed i w p.used (omega arith)) (omega arith))
    (λ a. fit.within)

pub fit_applied : (kind key amount : ℕ) (w : List ℕ) → Fit w → Fit (applied kind key amount w)
fit_applied kind key amount w fit = record {
  sized = length_applied kind key amount w fit ∙ fit.sized;
  within =
      applied_cases (λ v. entries v ≤ pairs) key amount w kind (within_added key amount w fit)
      (within_dropped key w fit) (rw get_d_zeros (omega arith)) fit.within;
}

pub fit_zeros : (w : List ℕ) → Fit w → Fit (zeros w)
fit_zeros w f = record { sized = length-replicate (length w) 0 ∙ f.sized; within = rw (get_d_zeros (length w) 0) (omega arith) }

pub fit_empty : Fit empty
fit_empty = record { sized = length-replicate {A = ℕ} words 0; within = rw get_d_zeros (omega arith) }

pub fit_fits : (w : List ℕ) → Fit w → fits w ≡ true
fit_fits w fit = rw (eq-eqb (length w) words fit.sized, le-leb (entries w) pairs fit.within)
