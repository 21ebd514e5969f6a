-- Every word stays below 2 ^ 64: operations move words, store their own numbers, and grow counts no further than the top.
use Prim.Native.Nat.{ℕ, zero, suc, ◌+◌, ◌-◌, ◌*◌, ◌^◌, ◌<◌}
use mathlib.Core.List.{List, [], ◌∷◌, ◌++◌}
use native.Mathlib.Omega.{arith}
use lib.ListN.{length, set, take, drop, replicate}
use lib.Seq.{get_or-drop}
use Rattle.table.specs.Copy.{words, entries, spill, count_at, grown, inserted, removed, applied, Fit}
use Rattle.table.specs.Order.{empty, Below}
use Rattle.table.proofs.CopyFind.{added_cases, dropped_cases, applied_cases}
use Rattle.table.proofs.CopyWords.{get_d_zeros}

-- ---- lists

module _ (b : ℕ) (pos : 0 < b) where
  below_zeros : (n : ℕ) → Below b (replicate n 0)
  unfolding Below
  below_zeros n x = rw get_d_zeros pos

  below_cons : (y : ℕ) (w : List ℕ) → y < b → Below b w → Below b (y ∷ w)
  unfolding Below
  below_cons y w h f zero = h
  below_cons y w h f (suc x) = f x

  below_append : (p q : List ℕ) → Below b p → Below b q → Below b (p ++ q)
  unfolding Below
  below_append [] q f g x = g x
  below_append (y ∷ p) q f g zero = f zero
  below_append (y ∷ p) q f g (suc x) = below_append p q (λ k. f (suc k)) g x

  below_take : (n : ℕ) (w : List ℕ) → Below b w → Below b (take n w)
  unfolding Below
  below_take zero w f x = pos
  below_take (suc n) [] f x = pos
  below_take (suc n) (y ∷ w) f zero = f zero
  below_take (suc n) (y ∷ w) f (suc x) = below_take n w (λ k. f (suc k)) x

  below_drop : (n : ℕ) (w : List ℕ) → Below b w → Below b (drop n w)
  unfolding Below
  below_drop n w f x = rw get_or-drop (f (n + x))

  below_set : (w : List ℕ) (i y : ℕ) → y < b → Below b w → Below b (set w i y)
  unfolding Below
  below_set [] i y h f x = pos
  below_set (z ∷ w) zero y h f zero = h
  below_set (z ∷ w) zero y h f (suc x) = f (suc x)
  below_set (z ∷ w) (suc i) y h f zero = f zero
  below_set (z ∷ w) (suc i) y h f (suc x) = below_set w i y h (λ k. f (suc k)) x

ruleset moves = (below_zeros, below_cons, below_append, below_take, below_drop, below_set)

-- ---- the operations

module _ (b : ℕ) (pos : 0 < b) (w : List ℕ) (f : Below b w) where
  below_inserted : (i key amount : ℕ) → key < b → amount < b → entries w + 1 < b → Below b (inserted i key amount w)
  below_inserted i key amount k a e = search moves depth 8

  below_removed : (i : ℕ) → entries w - 1 < b → Below b (removed i w)
  below_removed i e = search moves depth 8

pub below_applied : (kind key amount : ℕ) (w : List ℕ) → Fit w → key < 2 ^ 64 → amount < 2 ^ 64 → Below (2 ^ 64) w
    → Below (2 ^ 64) (applied kind key amount w)
below_applied kind key amount w fit k a f =
    applied_cases (Below b) key amount w kind
    (added_cases (Below b) key amount w
    (λ i p. below_set b pos w (2 * i + 3) (grown (count_at w i) amount) (omega arith) f)
    (λ i n p l. below_inserted b pos w f i key amount k a (omega arith))
    (λ n l. below_set b pos w 1 (grown (spill w) 1) (omega arith) f))
    (dropped_cases (Below b) key w (λ i p. below_removed b pos w f i (omega arith)) (λ n. f))
    (below_zeros b pos (length w))
    f
  where
    b : ℕ
    b = 2 ^ 64

    pos : 0 < b
    pos = omega arith

pub below_empty : Below (2 ^ 64) empty
below_empty = below_zeros (2 ^ 64) (omega arith) words
