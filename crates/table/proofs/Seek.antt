-- Laws of the search, over any test: what it finds, and the turns of a loop that counts i up to n.
use Prim.Native.Nat.{ℕ, zero, suc, ◌+◌, ◌-◌, ◌≤◌, ◌<◌}
use mathlib.Core.Path.{◌≡◌, refl, sym, ap, subst, ◌∙◌}
use mathlib.Core.Bool.{Bool, true, false, true≢false}
use mathlib.Core.Logic.{⊎_elim}
use native.Mathlib.Nat.{eq-or-lt_of_le}
use native.Mathlib.Numerals.{add-one}
use native.Mathlib.Omega.{arith}
use Rattle.table.specs.Seek.{seek}

pub seek_zero : (p : ℕ → Bool) (i : ℕ) → seek p i 0 ≡ i
unfolding seek
seek_zero p i = refl

pub seek_suc_here : (p : ℕ → Bool) (i n : ℕ) → p i ≡ true → seek p i (suc n) ≡ i
unfolding seek
seek_suc_here p i n e = rw (e, seek)

pub seek_suc_next : (p : ℕ → Bool) (i n : ℕ) → p i ≡ false → seek p i (suc n) ≡ seek p (suc i) n
unfolding seek
seek_suc_next p i n e = rw (e, seek)

-- what r is, as the first of the n numbers from i on
record Sought (p : ℕ → Bool) (i n r : ℕ) : Type 0 where
  upto : r ≤ i + n
  before : (j : ℕ) → i ≤ j → j < r → p j ≡ false
  found : r < i + n → p r ≡ true

sought : (p : ℕ → Bool) (i n : ℕ) → Sought p i n (seek p i n)
sought p i zero =
    rw seek_zero
    (record { upto = omega arith; before = λ j a b. absurd (omega arith); found = λ h. absurd (omega arith) })
sought p i (suc n) = step (p i) refl (sought p (suc i) n)
  where
    step : (b : Bool) → p i ≡ b → Sought p (suc i) n (seek p (suc i) n) → Sought p i (suc n) (seek p i (suc n))
    step true e s =
        rw (seek_suc_here p i n e)
        (record { upto = omega arith; before = λ j a b. absurd (omega arith); found = λ h. e })
    step false e s =
        rw (seek_suc_next p i n e)
        (record {
          upto = omega (arith, s.upto);
          before = λ j a b. ⊎_elim (λ q. subst (λ (k : ℕ). p k ≡ false) q e) (λ l. s.before j l b) (eq-or-lt_of_le a);
          found = λ h. s.found (omega arith);
        })

module _ (p : ℕ → Bool) (n : ℕ) where
  pub seek_bounds : seek p 0 n ≤ n
  seek_bounds = omega (arith, (sought p 0 n).upto)

  -- all below the result fail
  pub seek_before : (j : ℕ) → j < seek p 0 n → p j ≡ false
  seek_before j h = (sought p 0 n).before j (omega arith) h

  pub seek_found : seek p 0 n < n → p (seek p 0 n) ≡ true
  seek_found h = (sought p 0 n).found (omega arith)

  pub seek_unique : (i : ℕ) → i < n → p i ≡ true → ((j : ℕ) → j < i → p j ≡ false) → seek p 0 n ≡ i
  seek_unique i h e f =
      let a : ¬ (i < seek p 0 n) = λ l. true≢false (sym e ∙ seek_before i l) in
      let b : ¬ (seek p 0 n < i) = λ l. true≢false (sym (seek_found (omega arith)) ∙ f (seek p 0 n) l) in
      omega arith

  pub seek_none : ((j : ℕ) → j < n → p j ≡ false) → seek p 0 n ≡ n
  seek_none f =
      let a : ¬ (seek p 0 n < n) = λ l. true≢false (sym (seek_found l) ∙ f (seek p 0 n) l) in
      omega (arith, seek_bounds)

-- ---- the turns of a loop: what is left for it at i is `seek p i (n - i)`

module _ (p : ℕ → Bool) where
  pub seek_here : (i n : ℕ) → i < n → p i ≡ true → seek p i (n - i) ≡ i
  seek_here i n l h =
      let e : n - i ≡ suc (n - i - 1) = omega arith in
      ap (seek p i) e ∙ seek_suc_here p i (n - i - 1) h

  pub seek_next : (i n : ℕ) → i < n → p i ≡ false → seek p i (n - i) ≡ seek p (i + 1) (n - (i + 1))
  seek_next i n l h =
      let e : n - i ≡ suc (n - (i + 1)) = omega arith in
      ap (seek p i) e ∙ seek_suc_next p i (n - (i + 1)) h ∙ ap (λ (k : ℕ). seek p k (n - (i + 1))) (sym (add-one i))

  pub seek_end : (i n : ℕ) → n ≤ i → seek p i (n - i) ≡ i
  seek_end i n l =
      let e : n - i ≡ 0 = omega arith in
      ap (seek p i) e ∙ seek_zero p i
