-- What the two searches of a copy find, and from that the six things that an operation can make of it.
use Prim.Native.Nat.{ℕ, ◌+◌, ◌*◌, ◌≤◌, ◌<◌}
use mathlib.Core.Path.{◌≡◌, ap}
use mathlib.Core.Logic.{◌≢◌}
use mathlib.Core.Bool.{true, false}
use mathlib.Core.List.{List}
use mathlib.Core.Option.{some, none}
use native.Mathlib.Nat.{le_trans, le_refl}
use lib.ListN.{set}
use lib.Dec.{eqb, ltb}
use borrow.Author.Tests.{ltb-true, ltb-false, leb-true, leb-false, eqb-true, eqb-false, lt-ltb, le-ltb, eq-eqb, ne_eqb}
use Rattle.table.specs.Copy.{pairs, entries, spill, key_at, count_at, pair_of, place_of, present, grown, inserted, removed, placed, added, dropped, zeros, applied, placed_by, added_by, dropped_by, applied_by}
use Rattle.table.proofs.Map.{found}
use Rattle.table.proofs.Split.{split}
use Rattle.table.proofs.Seek.{seek_bounds, seek_before, seek_found, seek_unique, seek_none}

-- the key's pair is pair i
pub record Pair (key i : ℕ) (w : List ℕ) : Type 0 where
  pub used : i < entries w
  pub same : key_at w i ≡ key
  pub earlier : (j : ℕ) → j < i → key_at w j ≢ key

abbrev pub Absent : ℕ → List ℕ → Type 0
Absent key w = (j : ℕ) → j < entries w → key_at w j ≢ key

-- a new pair of the key is placed before pair i
pub record Place (key i : ℕ) (w : List ℕ) : Type 0 where
  pub upto : i ≤ entries w
  pub smaller : (j : ℕ) → j < i → key_at w j < key
  pub larger : i < entries w → key ≤ key_at w i

module _ (key : ℕ) (w : List ℕ) where
  pub pair_present : present key w ≡ true → Pair key (pair_of key w) w
  pair_present e =
      let l : pair_of key w < entries w = ltb-true _ _ e in
      record {
        used = l;
        same = eqb-true _ _ (seek_found _ _ l);
        earlier = λ j h. eqb-false _ _ (seek_before _ _ j h);
      }

  pub absent_not_present : present key w ≡ false → Absent key w
  absent_not_present e j h =
      eqb-false _ _ (seek_before _ _ j (le_trans h (ltb-false _ _ e)))

  pub place_place_of : Place key (place_of key w) w
  place_place_of =
      record {
        upto = seek_bounds _ _;
        smaller = λ j h. leb-false _ _ (seek_before _ _ j h);
        larger = λ h. leb-true _ _ (seek_found _ _ h);
      }

  -- ---- what a look up finds

  pub pair_of_pair : (i : ℕ) → Pair key i w → pair_of key w ≡ i
  pair_of_pair i p = seek_unique _ _ i p.used (eq-eqb _ _ p.same) (λ j h. ne_eqb _ _ (p.earlier j h))

  pub present_pair : (i : ℕ) → Pair key i w → present key w ≡ true
  present_pair i p = rw (pair_of_pair i p) (lt-ltb _ _ p.used)

  pub not_present_absent : Absent key w → present key w ≡ false
  not_present_absent a = rw (seek_none _ _ (λ j h. ne_eqb _ _ (a j h))) (le-ltb (entries w) _ (le_refl _))

  pub found_pair : (i : ℕ) → Pair key i w → found key w ≡ some (count_at w i)
  unfolding found
  found_pair i p = rw (present_pair i p, found) (ap (λ (j : ℕ). some (count_at w j)) (pair_of_pair i p))

  pub found_absent : Absent key w → found key w ≡ none
  unfolding found
  found_absent a = rw (not_present_absent a, found)

  pub present_cases : (C : Type 0) → ((i : ℕ) → Pair key i w → C) → (Absent key w → C) → C
  present_cases C f g = split (present key w) (λ e. f _ (pair_present e)) (λ e. g (absent_not_present e))

-- ---- what an operation makes

pub dropped_cases : (C : List ℕ → Type 0) (key : ℕ) (w : List ℕ)
    → ((i : ℕ) → Pair key i w → C (removed i w)) → (Absent key w → C w) → C (dropped key w)
unfolding dropped_by
dropped_cases C key w f g =
    split (present key w)
    (λ e. rw (e, dropped_by) (f (pair_of key w) (pair_present key w e)))
    (λ e. rw (e, dropped_by) (g (absent_not_present key w e)))

module _ (C : List ℕ → Type 0) (key amount : ℕ) (w : List ℕ) where
  placed_cases : ((i : ℕ) → Place key i w → entries w < pairs → C (inserted i key amount w))
      → (pairs ≤ entries w → C (set w 1 (grown (spill w) 1))) → C (placed key amount w)
  placed_cases g h =
      split (ltb (entries w) pairs)
      (λ l. rw (l, placed_by) (g (place_of key w) (place_place_of key w) (ltb-true _ _ l)))
      (λ l. rw (l, placed_by) (h (ltb-false _ _ l)))

  pub added_cases :
      ((i : ℕ) → Pair key i w → C (set w (2 * i + 3) (grown (count_at w i) amount)))
      → ((i : ℕ) → Absent key w → Place key i w → entries w < pairs → C (inserted i key amount w))
      → (Absent key w → pairs ≤ entries w → C (set w 1 (grown (spill w) 1)))
      → C (added key amount w)
  unfolding added_by
  added_cases f g h =
      split (present key w)
      (λ e. rw (e, added_by) (f (pair_of key w) (pair_present key w e)))
      (λ e. rw (e, added_by) (placed_cases (λ i. g i (absent_not_present key w e)) (h (absent_not_present key w e))))

  pub applied_cases : (kind : ℕ) → C (added key amount w) → C (dropped key w) → C (zeros w) → C w → C (applied kind key amount w)
  unfolding applied_by
  applied_cases kind a d z s =
      split (eqb kind 1) (λ e. rw (e, applied_by) a)
      (λ e. rw (e, applied_by) (split (eqb kind 2) (λ e. rw e d) (λ e. rw e (split (eqb kind 3) (λ e. rw e z) (λ e. rw e s)))))
