-- The pairs stay in rising order, and the words behind them zero.
use Prim.Native.Nat.{ℕ, zero, suc, ◌+◌, ◌-◌, ◌*◌, ◌≤◌, ◌<◌}
use mathlib.Core.Path.{◌≡◌, ◌∙◌}
use mathlib.Core.Logic.{◌≢◌}
use mathlib.Core.List.{List, [], ◌∷◌}
use native.Mathlib.Omega.{arith}
use lib.ListN.{length, set, replicate}
use lib.Seq.{get_or-set_other}
use Rattle.table.specs.Copy.{words, entries, spill, key_at, count_at, grown, inserted, removed, added, dropped, zeros, applied, Fit}
use Rattle.table.specs.Order.{empty, Rising, Clear, Tidy, Op, after}
use Rattle.table.proofs.Split.{around, under}
use Rattle.table.proofs.CopyFind.{Absent, Place, added_cases, dropped_cases, applied_cases}
use Rattle.table.proofs.CopyWords.{get_d_zeros, entries_inserted, inserted_behind, entries_removed, removed_left, removed_behind}
use Rattle.table.proofs.CopyFit.{entries_set, fit_applied, fit_zeros, fit_empty}
use Rattle.table.proofs.CopyPairs.{Wider, wider_inserted, wider_removed}

-- ---- rising order

-- a store into no key
rising_set : (w : List ℕ) (x y : ℕ) → 1 ≤ x → ((j : ℕ) → 2 * j + 2 ≢ x) → Rising w → Rising (set w x y)
rising_set w x y h n r i j l b =
    omega (arith, entries_set w x y h, get_or-set_other w x _ y 0 (n i), get_or-set_other w x _ y 0 (n j), r i j l (omega (arith, entries_set w x y h)))

-- a pair goes where the keys before it are smaller and those behind are larger
module _ (i key amount : ℕ) (w v : List ℕ) (o : Wider i key amount w v) (a : Absent key w) (p : Place key i w) (r : Rising w) where
  larger : (k : ℕ) → i ≤ k → k < entries w → key < key_at w k
  larger =
      around (λ k. i ≤ k → k < entries w → key < key_at w k) i
      (λ k n l b. absurd (omega arith))
      (λ l b. omega (arith, p.larger b, a i b))
      (λ k n l b. omega (arith, p.larger (omega arith), r i (suc k) (omega arith) b))

  from_before : (j : ℕ) → j < i → (k : ℕ) → j < k → k < entries v → key_at v j < key_at v k
  from_before j m =
      around (λ k. j < k → k < entries v → key_at v j < key_at v k) i
      (λ k n l b. omega (arith, o.before j m, o.before k n, r j k l (omega arith)))
      (λ l b. omega (arith, o.before j m, o.here, p.smaller j m))
      (λ k n l b. omega (arith, o.before j m, o.behind k n (omega arith), r j k (omega arith) (omega arith)))

  from_here : (k : ℕ) → i < k → k < entries v → key_at v i < key_at v k
  from_here zero l b = absurd (omega arith)
  from_here (suc k) l b = omega (arith, o.here, o.behind k (omega arith) (omega arith), larger k (omega arith) (omega arith))

  from_behind : (j : ℕ) → i ≤ j → (k : ℕ) → suc j < k → k < entries v → key_at v (suc j) < key_at v k
  from_behind j m zero l b = absurd (omega arith)
  from_behind j m (suc k) l b =
      omega (arith, o.behind j m (omega arith), o.behind k (omega arith) (omega arith), r j k (omega arith) (omega arith))

  rising_wider : Rising v
  rising_wider = around (λ j. (k : ℕ) → j < k → k < entries v → key_at v j < key_at v k) i from_before from_here from_behind

rising_narrower : (i key amount : ℕ) (w v : List ℕ) → Wider i key amount w v → Rising v → Rising w
rising_narrower i key amount w v o r j k l b =
    under j i (λ m. under k i (both m) (across m))
    (λ m. omega (arith, o.behind j m (omega arith), o.behind k (omega arith) b, r (suc j) (suc k) (omega arith) (omega arith)))
  where
    both : j < i → k < i → key_at w j < key_at w k
    both m n = omega (arith, o.before j m, o.before k n, r j k l (omega arith))

    across : j < i → i ≤ k → key_at w j < key_at w k
    across m n = omega (arith, o.before j m, o.behind k n b, r j (suc k) (omega arith) (omega arith))

rising_added : (key amount : ℕ) (w : List ℕ) → Fit w → Rising w → Rising (added key amount w)
rising_added key amount w fit r =
    added_cases Rising key amount w
    (λ i p. rising_set w (2 * i + 3) (grown (count_at w i) amount) (omega arith) (λ j. omega arith) r)
    (λ i a p l. rising_wider i key amount w _ (wider_inserted i key amount w p.upto (omega arith)) a p r)
    (λ a l. rising_set w 1 (grown (spill w) 1) (omega arith) (λ j. omega arith) r)

rising_dropped : (key : ℕ) (w : List ℕ) → Fit w → Rising w → Rising (dropped key w)
rising_dropped key w fit r =
    dropped_cases Rising key w
    (λ i p. rising_narrower i key _ _ w (wider_removed i key w p.same p.used (omega arith)) r)
    (λ a. r)

-- no pair is used
rising_zeros : (n : ℕ) → Rising (replicate n 0)
rising_zeros n i j l b = absurd (omega (arith, get_d_zeros n 0))

pub rising_applied : (kind key amount : ℕ) (w : List ℕ) → Fit w → Rising w → Rising (applied kind key amount w)
rising_applied kind key amount w fit r =
    applied_cases Rising key amount w kind (rising_added key amount w fit r) (rising_dropped key w fit r) (rising_zeros (length w)) r

pub rising_empty : Rising empty
rising_empty = rising_zeros words

-- ---- zeros behind the used part

-- a store into the used part
clear_set : (w : List ℕ) (x y : ℕ) → 1 ≤ x → x < 2 * entries w + 2 → Clear w → Clear (set w x y)
clear_set w x y h u c z b =
    let e : entries (set w x y) ≡ entries w = entries_set w x y h in
    get_or-set_other w x z y 0 (omega arith) ∙ c z (omega arith)

clear_inserted : (i key amount : ℕ) (w : List ℕ) → i ≤ entries w → 2 * entries w + 4 ≤ length w → Clear w → Clear (inserted i key amount w)
clear_inserted i key amount w u h c x b =
    let e : entries (inserted i key amount w) ≡ entries w + 1 = entries_inserted i key amount w u h in
    inserted_behind i key amount w u h x (omega arith) ∙ c x (omega arith)

clear_removed : (i : ℕ) (w : List ℕ) → i < entries w → 2 * entries w + 2 ≤ length w → Clear w → Clear (removed i w)
clear_removed i w u h c x b =
    let e : entries (removed i w) ≡ entries w - 1 = entries_removed i w u h in
    under x (2 * entries w + 2)
    (λ l. removed_left i w u h x (omega arith) l)
    (λ l. removed_behind i w u h x l ∙ c x l)

clear_added : (key amount : ℕ) (w : List ℕ) → Fit w → Clear w → Clear (added key amount w)
clear_added key amount w fit c =
    added_cases Clear key amount w
    (λ i p. clear_set w (2 * i + 3) (grown (count_at w i) amount) (omega arith) (omega arith) c)
    (λ i a p l. clear_inserted i key amount w p.upto (omega arith) c)
    (λ a l. clear_set w 1 (grown (spill w) 1) (omega arith) (omega arith) c)

clear_dropped : (key : ℕ) (w : List ℕ) → Fit w → Clear w → Clear (dropped key w)
clear_dropped key w fit c = dropped_cases Clear key w (λ i p. clear_removed i w p.used (omega arith) c) (λ a. c)

clear_applied : (kind key amount : ℕ) (w : List ℕ) → Fit w → Clear w → Clear (applied kind key amount w)
clear_applied kind key amount w fit c =
    applied_cases Clear key amount w kind (clear_added key amount w fit c) (clear_dropped key w fit c) (λ x b. get_d_zeros (length w) x) c

clear_empty : Clear empty
clear_empty x b = get_d_zeros words x

-- ---- all of it, after any operations

pub tidy_applied : (kind key amount : ℕ) (w : List ℕ) → Tidy w → Tidy (applied kind key amount w)
tidy_applied kind key amount w t = record {
  fit = fit_applied kind key amount w t.fit;
  rising = rising_applied kind key amount w t.fit t.rising;
  clear = clear_applied kind key amount w t.fit t.clear;
}

pub tidy_zeros : (w : List ℕ) → Tidy w → Tidy (zeros w)
tidy_zeros w t =
    record { fit = fit_zeros w t.fit; rising = rising_zeros (length w); clear = λ x b. get_d_zeros (length w) x }

pub tidy_empty : Tidy empty
tidy_empty = record { fit = fit_empty; rising = rising_empty; clear = clear_empty }

pub tidy_after : (os : List Op) (w : List ℕ) → Tidy w → Tidy (after os w)
tidy_after [] w t = t
tidy_after (o ∷ os) w t = tidy_after os _ (tidy_applied o.kind o.key o.amount w t)
