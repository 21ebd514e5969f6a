-- What a look up finds after each operation, for its key and for every other.
-- Only that a dropped key is gone needs rising order: there it had one pair.
use Prim.Native.Nat.{ℕ, suc, ◌+◌, ◌*◌, ◌≤◌, ◌<◌}
use mathlib.Core.Path.{◌≡◌, refl, sym, ap, ◌∙◌}
use mathlib.Core.Logic.{◌≢◌}
use mathlib.Core.List.{List, [], ◌∷◌}
use mathlib.Core.Option.{some, none}
use native.Mathlib.Omega.{arith}
use lib.ListN.{length, get_or, take, drop, set, replicate}
use lib.Seq.{get_or-set_same, get_or-set_other, drop-cons}
use Rattle.table.specs.Copy.{pairs, entries, spill, key_at, count_at, grown, added, dropped, zeros, fits, look_rule, Fit}
use Rattle.table.specs.Order.{Rising}
use Rattle.table.proofs.Map.{found}
use Rattle.table.proofs.Split.{split, around, under}
use Rattle.table.proofs.CopyFind.{Pair, Absent, found_pair, found_absent, pair_of_pair, present_pair, not_present_absent, present_cases, added_cases, dropped_cases}
use Rattle.table.proofs.CopyWords.{get_d_zeros}
use Rattle.table.proofs.CopyFit.{fit_fits}
use Rattle.table.proofs.CopyPairs.{Wider, wider_inserted, wider_removed, Recounted, recounted_set}

-- in rising order every used pair is found by its key
pub found_used : (i : ℕ) (w : List ℕ) → Rising w → i < entries w → found (key_at w i) w ≡ some (count_at w i)
found_used i w r h =
    found_pair (key_at w i) w i (record { used = h; same = refl; earlier = λ j l. omega (arith, r j i l h) })

-- ---- v is w with one pair more

module _ (i key amount : ℕ) (w v : List ℕ) (o : Wider i key amount w v) where
  unlike : (k m : ℕ) → k ≢ key → i ≤ m → m ≤ entries w → ((j : ℕ) → j < m → key_at w j ≢ k) → (j : ℕ) → j < suc m → key_at v j ≢ k
  unlike k m n l b f =
      around (λ j. j < suc m → key_at v j ≢ k) i
      (λ j h s. omega (arith, o.before j h, f j (omega arith)))
      (λ s. omega (arith, o.here))
      (λ j h s. omega (arith, o.behind j h (omega arith), f j (omega arith)))

  pair_before : (k j : ℕ) → j < i → Pair k j w → Pair k j v
  pair_before k j l q = record {
    used = omega arith;
    same = (o.before j l).0 ∙ q.same;
    earlier = λ t h. omega (arith, o.before t (omega arith), q.earlier t h);
  }

  pair_behind : (k j : ℕ) → k ≢ key → i ≤ j → Pair k j w → Pair k (suc j) v
  pair_behind k j n l q = record {
    used = omega arith;
    same = (o.behind j l q.used).0 ∙ q.same;
    earlier = unlike k j n l (omega arith) q.earlier;
  }

  pub wider_other : (k : ℕ) → k ≢ key → found k v ≡ found k w
  wider_other k n = present_cases k w (found k v ≡ found k w) at none_at
    where
      at : (j : ℕ) → Pair k j w → found k v ≡ found k w
      at j q =
          under j i
          (λ l. found_pair k v j (pair_before k j l q) ∙ ap some (o.before j l).1 ∙ sym (found_pair k w j q))
          (λ l. found_pair k v (suc j) (pair_behind k j n l q) ∙ ap some (o.behind j l q.used).1 ∙ sym (found_pair k w j q))

      none_at : Absent k w → found k v ≡ found k w
      none_at a =
          found_absent k v (λ j h. unlike k (entries w) n o.upto (omega arith) a j (omega arith)) ∙ sym (found_absent k w a)

  pub wider_here : Absent key w → found key v ≡ some amount
  wider_here a =
      found_pair key v i
      (record {
        used = omega arith;
        same = o.here.0;
        earlier = λ j h. omega (arith, o.before j h, a j (omega arith));
      })
      ∙ ap some o.here.1

  -- with no key twice in v, w has none of it
  pub narrower_here : Rising v → found key w ≡ none
  narrower_here r = found_absent key w gone
    where
      gone : Absent key w
      gone j h =
          under j i
          (λ l. omega (arith, o.before j l, o.here, r j i l (omega arith)))
          (λ l. omega (arith, o.behind j l h, o.here, r i (suc j) (omega arith) (omega arith)))

-- ---- v has the keys of w

module _ (w v : List ℕ) (e : entries v ≡ entries w) (s : (j : ℕ) → key_at v j ≡ key_at w j) where
  pair_kept : (k j : ℕ) → Pair k j w → Pair k j v
  pair_kept k j q =
      record { used = omega arith; same = s j ∙ q.same; earlier = λ t h. omega (arith, s t, q.earlier t h) }

  found_kept : (k : ℕ) → ((j : ℕ) → key_at w j ≡ k → count_at v j ≡ count_at w j) → found k v ≡ found k w
  found_kept k f =
      present_cases k w (found k v ≡ found k w)
      (λ j q. found_pair k v j (pair_kept k j q) ∙ ap some (f j q.same) ∙ sym (found_pair k w j q))
      (λ a. found_absent k v (λ j h. omega (arith, s j, a j (omega arith))) ∙ sym (found_absent k w a))

module _ (i key count : ℕ) (w v : List ℕ) (o : Recounted i count w v) (p : Pair key i w) where
  pub recounted_here : found key v ≡ some count
  recounted_here = found_pair key v i (pair_kept w v o.many o.keys key i p) ∙ ap some o.here

  pub recounted_other : (k : ℕ) → k ≢ key → found k v ≡ found k w
  recounted_other k n =
      found_kept w v o.many o.keys k (λ j q. o.others j (λ e. n (sym q ∙ ap (key_at w) e ∙ p.same)))

pub found_spilt : (w : List ℕ) (y k : ℕ) → found k (set w 1 y) ≡ found k w
found_spilt w y k =
    found_kept w (set w 1 y) (other 0 (omega arith)) (λ j. other (2 * j + 2) (omega arith)) k (λ j q. other (2 * j + 3) (omega arith))
  where
    other : (x : ℕ) → x ≢ 1 → get_or (set w 1 y) x 0 ≡ get_or w x 0
    other x n = get_or-set_other w 1 x y 0 n

-- ---- the operations

module _ (key amount : ℕ) (w : List ℕ) (fit : Fit w) where
  -- a present key's count grows
  pub found_added_present : (c : ℕ) → found key w ≡ some c → found key (added key amount w) ≡ some (grown c amount)
  found_added_present c e =
      added_cases (λ v. found key v ≡ some (grown c amount)) key amount w
      (λ i p. recounted_here i key _ w _ (recounted_set i _ w (omega (arith, p.used))) p ∙ cc (found_pair key w i p))
      (λ i a p l. cc (found_absent key w a))
      (λ a l. cc (found_absent key w a))

  -- an absent key has the amount, where there is room
  pub found_added_new : found key w ≡ none → entries w < pairs → found key (added key amount w) ≡ some amount
  found_added_new e r =
      added_cases (λ v. found key v ≡ some amount) key amount w
      (λ i p. cc (found_pair key w i p))
      (λ i a p l. wider_here i key amount w _ (wider_inserted i key amount w p.upto (omega arith)) a)
      (λ a l. absurd (omega arith))

  -- where there is none it stays absent, and the spill grows
  pub found_added_full : found key w ≡ none → pairs ≤ entries w
      → (found key (added key amount w) ≡ none) × (spill (added key amount w) ≡ grown (spill w) 1)
  found_added_full e r =
      added_cases (λ v. (found key v ≡ none) × (spill v ≡ grown (spill w) 1)) key amount w
      (λ i p. (cc (found_pair key w i p), cc (found_pair key w i p)))
      (λ i a p l. absurd (omega arith))
      (λ a l. (found_spilt w _ key ∙ e, get_or-set_same w 1 _ 0 (omega arith)))

  pub found_added_other : (k : ℕ) → k ≢ key → found k (added key amount w) ≡ found k w
  found_added_other k n =
      added_cases (λ v. found k v ≡ found k w) key amount w
      (λ i p. recounted_other i key _ w _ (recounted_set i _ w (omega (arith, p.used))) p k n)
      (λ i a p l. wider_other i key amount w _ (wider_inserted i key amount w p.upto (omega arith)) k n)
      (λ a l. found_spilt w _ k)

module _ (key : ℕ) (w : List ℕ) (fit : Fit w) where
  pub found_dropped_other : (k : ℕ) → k ≢ key → found k (dropped key w) ≡ found k w
  found_dropped_other k n =
      dropped_cases (λ v. found k v ≡ found k w) key w
      (λ i p. sym (wider_other i key _ _ w (wider_removed i key w p.same p.used (omega arith)) k n))
      (λ a. refl)

  pub found_dropped : Rising w → found key (dropped key w) ≡ none
  found_dropped r =
      dropped_cases (λ v. found key v ≡ none) key w
      (λ i p. narrower_here i key _ _ w (wider_removed i key w p.same p.used (omega arith)) r)
      (found_absent key w)

pub found_zeros : (n k : ℕ) → found k (replicate n 0) ≡ none
found_zeros n k = found_absent k (replicate n 0) (λ j h. absurd (omega (arith, get_d_zeros n 0)))

pub found_cleared : (w : List ℕ) (k : ℕ) → found k (zeros w) ≡ none
found_cleared w = found_zeros (length w)

-- ---- the words that a look up hands back

two_words : (w : List ℕ) (x y : ℕ) → y ≡ suc x → y < length w → take 2 (drop x w) ≡ get_or w x 0 ∷ get_or w y 0 ∷ []
two_words w x y e h = rw (drop-cons w x 0 (omega arith)) (rw (drop-cons w (suc x) 0 (omega arith), e))

look_pair : (key i : ℕ) (w : List ℕ) → Fit w → Pair key i w → look_rule key w ≡ key ∷ count_at w i ∷ []
unfolding look_rule
look_pair key i w fit p =
    rw (fit_fits w fit, look_rule)
    (rw (present_pair key w i p)
    (rw (pair_of_pair key w i p)
    (two_words w (2 * i + 2) (2 * i + 3) (omega arith) (omega (arith, p.used)) ∙ ap (λ (k : ℕ). k ∷ count_at w i ∷ []) p.same)))

pub look_present : (key c : ℕ) (w : List ℕ) → Fit w → found key w ≡ some c → look_rule key w ≡ key ∷ c ∷ []
look_present key c w fit e =
    present_cases key w (look_rule key w ≡ key ∷ c ∷ [])
    (λ i p. look_pair key i w fit p ∙ cc (found_pair key w i p))
    (λ a. cc (found_absent key w a))

pub look_absent : (key : ℕ) (w : List ℕ) → found key w ≡ none → look_rule key w ≡ []
unfolding look_rule
look_absent key w e =
    present_cases key w (look_rule key w ≡ [])
    (λ i p. cc (found_pair key w i p))
    (λ a. split (fits w) (λ f. rw (f, look_rule) (rw (not_present_absent key w a))) (λ f. rw (f, look_rule)))
