-- The records that get an entry: past those that belong to a batch, and in a part of a file.
use Prim.Native.Nat.{ℕ, zero, suc, ◌+◌, ◌-◌, ◌*◌, ◌≤◌, ◌<◌}
use mathlib.Core.Path.{◌≡◌, refl, sym, ap, ◌∙◌}
use mathlib.Core.Bool.{true, false}
use mathlib.Core.List.{List, ◌∷◌}
use native.Mathlib.Nat.{add_assoc, add-suc}
use native.Mathlib.Omega.{arith}
use lib.Dec.{eqb}
use lib.ListN.{length, drop}
use lib.Seq.{get_or-drop}
use Rattle.format.specs.Schedule.{number_at, record_bytes, members_at, units_from}

-- ---- the next

module _ (s : List ℕ) where
  -- where there are none, it is no matter where they begin
  units_same : (a b m n : ℕ) → m ≡ n → (0 < n → a ≡ b) → units_from s a 0 m ≡ units_from s b 0 n
  units_same a b m zero p q = ap (units_from s a 0) p
  units_same a b m (suc n) p q = λ j. units_from s (q (omega arith) j) 0 (p j)

  -- those that are skipped are as good as not there
  pub units_skip : (at skip n : ℕ) → units_from s at skip n ≡ units_from s (at + record_bytes * skip) 0 (n - skip)
  units_skip at skip zero = units_same at (at + record_bytes * skip) 0 (0 - skip) (omega arith) (λ l. omega arith)
  units_skip at zero (suc n) = units_same at (at + record_bytes * 0) (suc n) (suc n - 0) (omega arith) (λ l. omega arith)
  units_skip at (suc skip) (suc n) =
      units_skip (at + record_bytes) skip n
      ∙ units_same (at + record_bytes + record_bytes * skip) (at + record_bytes * suc skip) (n - skip) (suc n - suc skip) (omega arith)
      (λ l. omega arith)

  -- k: how many of the n records behind it belong to it, all that it names or all that there are
  pub units_next :
      (at n k : ℕ) → n - k ≡ n - members_at s at → units_from s at 0 (suc n) ≡ at ∷ units_from s (at + record_bytes * suc k) 0 (n - k)
  units_next at n k e =
      let m = members_at s at in
      ap (◌∷◌ at) (
      units_skip (at + record_bytes) m n
      ∙ units_same (at + record_bytes + record_bytes * m) (at + record_bytes * suc k) (n - m) (n - k) (sym e) (λ l. omega arith)
      )

  pub units_fewer : (at skip n : ℕ) → length (units_from s at skip n) ≤ n
  units_fewer at skip zero = omega arith
  units_fewer at zero (suc n) = omega (arith, units_fewer (at + record_bytes) (members_at s at) n)
  units_fewer at (suc skip) (suc n) = omega (arith, units_fewer (at + record_bytes) skip n)

-- ---- a part of a file

module _ (k : ℕ) (s : List ℕ) where
  number_drop : (n at : ℕ) → number_at n (drop k s) at ≡ number_at n s (k + at)
  number_drop zero at = refl
  number_drop (suc n) at =
      let rest : number_at n (drop k s) (suc at) ≡ number_at n s (suc (k + at)) = number_drop n (suc at) ∙ ap (number_at n s) (add-suc k at) in
      λ j. get_or-drop k s at 0 j + 256 * rest j

  pub members_drop : (at : ℕ) → members_at (drop k s) at ≡ members_at s (k + at)
  unfolding members_at
  members_drop at =
      let amount : number_at 8 (drop k s) (at + 12) ≡ number_at 8 s (k + at + 12) = number_drop 8 (at + 12) ∙ ap (number_at 8 s) (sym (add_assoc k at 12)) in
      λ j. elim (eqb (get_or-drop k s at 0 j) 15) [ true ↦ amount j | false ↦ 0 ]

  pub units_drop : (at skip n : ℕ) → length (units_from (drop k s) at skip n) ≡ length (units_from s (k + at) skip n)
  units_drop at skip zero = refl
  units_drop at zero (suc n) =
      ap suc (
      units_drop (at + record_bytes) (members_at (drop k s) at) n
      ∙ (λ j. length (units_from s (sym (add_assoc k at record_bytes) j) (members_drop at j) n))
      )
  units_drop at (suc skip) (suc n) =
      units_drop (at + record_bytes) skip n ∙ ap (λ (a : ℕ). length (units_from s a skip n)) (sym (add_assoc k at record_bytes))
