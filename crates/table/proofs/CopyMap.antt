-- A fit copy in rising order is a map from keys to counts, and an operation on the one is the operation on the other.
use Prim.Native.Nat.{ℕ, ◌+◌, ◌-◌, ◌*◌, ◌≤◌, ◌<◌}
use mathlib.Core.Path.{◌≡◌, refl, sym, ap, ◌∙◌}
use mathlib.Core.Logic.{◌≢◌}
use mathlib.Core.Bool.{true, false}
use mathlib.Core.List.{List, [], ◌∷◌}
use mathlib.Core.Option.{Option, some, none}
use native.Mathlib.Omega.{arith}
use lib.ListN.{length, set, replicate}
use lib.Dec.{eqb}
use lib.Seq.{get_or-set_same}
use borrow.Author.Tests.{eqb-true, eqb-false, lt-ltb, le-ltb}
use Rattle.table.specs.Copy.{pairs, words, entries, spill, count_at, grown, inserted, removed, zeros, added, dropped, applied, Fit, applied_by}
use Rattle.table.specs.Order.{empty, Rising, Tidy, Op, after}
use Rattle.table.proofs.Map.{Map, put, add_map, drop_map, empty_map, applied_map, after_map, found, map_of}
use Rattle.table.proofs.Split.{split}
use Rattle.table.proofs.CopyFind.{Pair, Absent, Place, found_pair, found_absent, added_cases, dropped_cases}
use Rattle.table.proofs.CopyWords.{get_d_zeros}
use Rattle.table.proofs.CopyPairs.{Wider, wider_inserted, wider_removed, Recounted, recounted_set}
use Rattle.table.proofs.CopyFit.{entries_set}
use Rattle.table.proofs.CopyOrder.{tidy_applied, tidy_empty}
use Rattle.table.proofs.CopyLook.{wider_other, wider_here, narrower_here, recounted_here, recounted_other, found_spilt, found_zeros}

-- ---- maps

pub map_path : (m n : Map) → ((k : ℕ) → m.at k ≡ n.at k) → m.size ≡ n.size → m.spilt ≡ n.spilt → m ≡ n
map_path m n f s t = λ i. record { at = λ k. f k i; size = s i; spilt = t i }

-- g is f but for key
pub put_path : (key : ℕ) (o : Option ℕ) (f g : ℕ → Option ℕ) → g key ≡ o → ((k : ℕ) → k ≢ key → g k ≡ f k) → (k : ℕ) → g k ≡ put key o f k
unfolding put
put_path key o f g h n k =
    split (eqb k key)
    (λ e. rw (e, put) (ap g (eqb-true k key e) ∙ h))
    (λ e. rw (e, put) (n k (eqb-false k key e)))

map_put : (key : ℕ) (o : Option ℕ) (n : ℕ) (w v : List ℕ) → found key v ≡ o → ((k : ℕ) → k ≢ key → found k v ≡ found k w)
    → entries v ≡ n → spill v ≡ spill w → map_of v ≡ record { at = put key o (map_of w).at; size = n; spilt = spill w }
map_put key o n w v h f e s = map_path _ _ (put_path key o (map_of w).at (map_of v).at h f) e s

-- ---- the operations

module _ (key amount : ℕ) (w : List ℕ) (fit : Fit w) where
  map_counted : (i : ℕ) → Pair key i w → map_of (set w (2 * i + 3) (grown (count_at w i) amount)) ≡ add_map key amount (map_of w)
  unfolding add_map
  map_counted i p =
      let c : ℕ = grown (count_at w i) amount in
      let v : List ℕ = set w (2 * i + 3) c in
      let o : Recounted i c w v = recounted_set i c w (omega (arith, p.used)) in
      rw (found_pair key w i p, add_map)
      (map_put key (some c) (entries w) w v (recounted_here i key c w v o p) (recounted_other i key c w v o p) o.many o.spilt)

  map_inserted : (i : ℕ) → Absent key w → Place key i w → entries w < pairs → map_of (inserted i key amount w) ≡ add_map key amount (map_of w)
  unfolding add_map
  map_inserted i a p l =
      let v : List ℕ = inserted i key amount w in
      let o : Wider i key amount w v = wider_inserted i key amount w p.upto (omega arith) in
      rw (found_absent key w a, add_map)
      (rw (lt-ltb (entries w) pairs l)
      (map_put key (some amount) (entries w + 1) w v (wider_here i key amount w v o a) (wider_other i key amount w v o) o.more o.spilt))

  map_full : Absent key w → pairs ≤ entries w → map_of (set w 1 (grown (spill w) 1)) ≡ add_map key amount (map_of w)
  unfolding add_map
  map_full a l =
      rw (found_absent key w a, add_map)
      (rw (le-ltb (entries w) pairs l)
      (map_path _ _ (found_spilt w (grown (spill w) 1)) (entries_set w 1 _ (omega arith)) (get_or-set_same w 1 _ 0 (omega arith))))

  pub map_added : map_of (added key amount w) ≡ add_map key amount (map_of w)
  map_added = added_cases (λ v. map_of v ≡ add_map key amount (map_of w)) key amount w map_counted map_inserted map_full

module _ (key : ℕ) (w : List ℕ) (fit : Fit w) (r : Rising w) where
  map_removed : (i : ℕ) → Pair key i w → map_of (removed i w) ≡ drop_map key (map_of w)
  unfolding drop_map
  map_removed i p =
      let v : List ℕ = removed i w in
      let c : ℕ = count_at w i in
      let o : Wider i key c v w = wider_removed i key w p.same p.used (omega arith) in
      rw (found_pair key w i p, drop_map)
      (map_put key none (entries w - 1) w v (narrower_here i key c v w o r) (λ k n. sym (wider_other i key c v w o k n)) (omega arith) (sym o.spilt))

  pub map_dropped : map_of (dropped key w) ≡ drop_map key (map_of w)
  unfolding drop_map
  map_dropped = dropped_cases (λ v. map_of v ≡ drop_map key (map_of w)) key w map_removed (λ a. rw (found_absent key w a, drop_map))

map_zeros : (n : ℕ) → map_of (replicate n 0) ≡ empty_map
map_zeros n = map_path _ _ (found_zeros n) (get_d_zeros n 0) (get_d_zeros n 1)

pub map_applied : (kind key amount : ℕ) (w : List ℕ) → Fit w → Rising w
    → map_of (applied kind key amount w) ≡ applied_map kind key amount (map_of w)
unfolding applied_by applied_map
map_applied kind key amount w fit r =
    split (eqb kind 1)
    (λ e. rw (e, applied_by, applied_map) (map_added key amount w fit))
    (λ e. rw (e, applied_by, applied_map) (split (eqb kind 2) (λ e. rw e (map_dropped key w fit r)) (λ e. rw e cleared)))
  where
    cleared : map_of (elim (eqb kind 3) [ true ↦ zeros w | false ↦ w ]) ≡ (elim (eqb kind 3) [ true ↦ empty_map | false ↦ map_of w ])
    cleared = split (eqb kind 3) (λ e. rw e (map_zeros (length w))) (λ e. rw e)

-- ---- many operations, from the empty copy on

pub map_empty : map_of empty ≡ empty_map
map_empty = map_zeros words

pub map_after : (os : List Op) (w : List ℕ) → Tidy w → map_of (after os w) ≡ after_map os (map_of w)
map_after [] w t = refl
map_after (o ∷ os) w t =
    map_after os _ (tidy_applied o.kind o.key o.amount w t)
    ∙ ap (after_map os) (map_applied o.kind o.key o.amount w t.fit t.rising)

pub map_reached : (os : List Op) → map_of (after os empty) ≡ after_map os empty_map
map_reached os = map_after os empty tidy_empty ∙ ap (after_map os) map_empty
