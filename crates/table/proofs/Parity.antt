-- Whether a number is odd, and that the wrap at 2^64 leaves it so.
use Prim.Native.Nat.{ℕ, ◌+◌, ◌%◌, ◌^◌}
use mathlib.Core.Path.{◌≡◌, refl, ap, ◌∙◌}
use mathlib.Core.Bool.{Bool, false, not, not-not}
use native.Mathlib.Decide.{ℕ_discrete}
use native.Mathlib.Omega.{arith}
use lib.Dec.{eqb}
use borrow.Author.Tests.{eq-eqb, ne_eqb}

unfoldable pub odd : ℕ → Bool
odd n = eqb (n % 2) 1

pub odd_zero : odd 0 ≡ false
unfolding odd
odd_zero = refl

pub odd_next : (n m : ℕ) → m ≡ n + 1 → odd m ≡ not (odd n)
unfolding odd
odd_next n m e = elim (ℕ_discrete (n % 2) 1) [
  | yes h ↦ simp (eq-eqb (n % 2) 1 h, ne_eqb (m % 2) 1 (λ q. omega arith))
  | no h ↦ simp (ne_eqb (n % 2) 1 h, eq-eqb (m % 2) 1 (omega arith))
]

pub odd_wrapped : (n : ℕ) → odd (n % 2 ^ 64) ≡ odd n
unfolding odd
odd_wrapped n =
    let h : n % 2 ^ 64 % 2 ≡ n % 2 = omega arith in
    ap (λ (x : ℕ). eqb x 1) h

pub odd_bumped : (n : ℕ) → odd ((n + 1) % 2 ^ 64) ≡ not (odd n)
odd_bumped n = odd_wrapped (n + 1) ∙ odd_next n (n + 1) refl

pub odd_twice : (n : ℕ) → odd ((n + 2) % 2 ^ 64) ≡ odd n
odd_twice n = odd_wrapped (n + 2) ∙ odd_next (n + 1) (n + 2) (omega arith) ∙ ap not (odd_next n (n + 1) refl) ∙ not-not (odd n)
