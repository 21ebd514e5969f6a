-- Words of a list, read by their number.
use Prim.Native.Nat.{ℕ, zero, suc, ◌<◌}
use mathlib.Core.Path.{◌≡◌, refl, sym, subst}
use mathlib.Core.Logic.{◌≢◌}
use mathlib.Core.List.{List, [], ◌∷◌}
use native.Mathlib.Decide.{ℕ_discrete}
use native.Mathlib.Omega.{arith}
use lib.ListN.{length, get_or, set, replicate}
use lib.Seq.{get_or-set_same, get_or-set_other}

-- where a list is read within its length, the default does not matter
pub get_d_within {ℓ} : {A : Type ℓ} (l : List A) (i : ℕ) (d e : A) → i < length l → get_or l i d ≡ get_or l i e
get_d_within [] i d e h = absurd (omega arith)
get_d_within (a ∷ l) zero d e h = refl
get_d_within (a ∷ l) (suc i) d e h = get_d_within l i d e (omega arith)

-- nor does the place where a list is read that has the default alone
pub get_d_same : {A : Type 0} (n i : ℕ) (a : A) → get_or (replicate n a) i a ≡ a
get_d_same zero i a = refl
get_d_same (suc n) zero a = refl
get_d_same (suc n) (suc i) a = get_d_same n i a

-- what holds of the one that is put there, and of each other as it was, holds of each
pub at_set :
    {A : Type 0} (P : ℕ → A → Type 0) (l : List A) (k : ℕ) (a d : A) → k < length l → P k a → ((i : ℕ) → i ≢ k → P i (get_or l i d)) →
    (i : ℕ) → P i (get_or (set l k a) i d)
at_set P l k a d h p q i = elim (ℕ_discrete i k) [
  | yes e ↦ subst (λ (x : ℕ). P x (get_or (set l k a) x d)) (sym e) (rw (get_or-set_same l k a d h) p)
  | no ne ↦ rw (get_or-set_other l k i a d ne) (q i ne)
]
