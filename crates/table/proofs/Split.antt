-- Splits into cases that keep what was learnt.
use Prim.Native.Nat.{ℕ, zero, suc, ◌≤◌, ◌<◌, zero-le, suc-le-suc}
use native.Mathlib.Omega.{arith}
use mathlib.Core.Path.{◌≡◌, refl}
use mathlib.Core.Bool.{Bool, true, false}
use lib.Dec.{ltb}
use borrow.Author.Tests.{ltb-true, ltb-false}

-- by a test's value
pub split {ℓ} : {C : Type ℓ} (b : Bool) → (b ≡ true → C) → (b ≡ false → C) → C
split true f g = f refl
split false f g = g refl

-- by what a test chooses
pub by {ℓ} : {A : Type 0} (P : A → Type ℓ) (b : Bool) {x y : A} → (b ≡ true → P x) → (b ≡ false → P y) → P (elim b [ true ↦ x | false ↦ y ])
by P true f g = f refl
by P false f g = g refl

pub below {ℓ} : {A : Type 0} (P : A → Type ℓ) (k n : ℕ) {x y : A} → (k < n → P x) → (n ≤ k → P y) → P (elim (ltb k n) [ true ↦ x | false ↦ y ])
below P k n f g = by P (ltb k n) (λ e. f (ltb-true k n e)) (λ e. g (ltb-false k n e))

-- a number is below i, i itself, or behind it
pub around : (C : ℕ → Type 0) (i : ℕ) → ((j : ℕ) → j < i → C j) → C i → ((j : ℕ) → i ≤ j → C (suc j)) → (j : ℕ) → C j
around C zero f c g zero = c
around C zero f c g (suc j) = g j zero-le
around C (suc i) f c g zero = f zero (omega arith)
around C (suc i) f c g (suc j) =
    around (λ k. C (suc k)) i (λ k h. f (suc k) (suc-le-suc h)) c (λ k h. g (suc k) (suc-le-suc h)) j

-- a number is below i, or not
pub under : {C : Type 0} (j i : ℕ) → (j < i → C) → (i ≤ j → C) → C
under j i f g = split (ltb j i) (λ e. f (ltb-true j i e)) (λ e. g (ltb-false j i e))
