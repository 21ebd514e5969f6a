-- The look at a file's records, one after the other: before a turn at record i, none before it is bad, and those that get no entry
-- are counted.
use Prim.Native.Nat.{ℕ, suc, ◌+◌, ◌-◌, ◌*◌, ◌≤◌, ◌<◌}
use mathlib.Core.Path.{◌≡◌, ap, ◌∙◌}
use mathlib.Core.Bool.{true, false}
use mathlib.Core.List.{List, ◌∷◌}
use native.Mathlib.Omega.{arith}
use lib.ListN.{length, get_or}
use Rattle.std.specs.Prelude.{Ok}
use Rattle.table.proofs.Split.{around}
use Rattle.table.proofs.Seek.{seek_unique, seek_none}
use Rattle.format.specs.declared.Fault.TheVariants.{Bad}
use Rattle.format.specs.Schedule.{head_bytes, record_bytes, count, start_of, members_at, units_from, entries_in, bad_at, first_bad, flaw, flaw_in}
use Rattle.format.proofs.Records.{Good, not_bad_good, lone_good, flaw_bad, flaw_none}
use Rattle.format.proofs.Units.{units_next}

pub record Checks (s : List ℕ) (inside i : ℕ) : Type 0 where
  pub upto : i ≤ count s
  pub fewer : inside ≤ i
  pub fine : (j : ℕ) → j < i → bad_at s j ≡ false
  pub counted : i + length (units_from s (start_of i) 0 (count s - i)) ≡ inside + entries_in s

pub checks_start : (s : List ℕ) → Checks s 0 0
checks_start s =
    record {
      upto = omega arith;
      fewer = omega arith;
      fine = λ j l. absurd (omega arith);
      counted = omega (arith, ap (λ (n : ℕ). length (units_from s head_bytes 0 n)) (let e : count s - 0 ≡ count s = omega arith in e));
    }

module _ (s : List ℕ) {inside i : ℕ} (c : Checks s inside i) where
  pub checks_end : count s ≤ i → flaw_in s ≡ Ok (count s - inside)
  checks_end l =
      let e : count s - i ≡ 0 = omega arith in
      let n : entries_in s ≡ count s - inside =
      omega (arith, c.upto, c.counted, ap (λ (n : ℕ). length (units_from s (start_of i) 0 n)) e) in
      flaw_none s (omega (arith, seek_none (bad_at s) (count s) (λ j h. c.fine j (omega arith))))
      ∙ ap Ok n

  module _ (l : i < count s) where
    pub checks_bad : bad_at s i ≡ true → flaw_in s ≡ flaw Bad i
    checks_bad b =
        let e : first_bad s (count s) ≡ i = seek_unique (bad_at s) (count s) i l b c.fine in
        flaw_bad s (omega (arith, e)) ∙ ap (flaw Bad) e

    -- past it and the m records that belong to it
    module _ (b : bad_at s i ≡ false) {m k n : ℕ} (e : m ≡ members_at s (start_of i)) (p : k ≡ inside + m) (q : n ≡ i + m) where
      abbrev good : Good s i
      good = not_bad_good s i b

      -- these are appends
      fine_next : (j : ℕ) → j < n + 1 → bad_at s j ≡ false
      fine_next =
          around (λ j. j < n + 1 → bad_at s j ≡ false) i (λ j l h. c.fine j l) (λ h. b)
          (λ j l h.
          let there : suc j ≡ i + 1 + (j - i) = omega arith in
          let eight : get_or s (start_of (suc j)) 0 ≡ 8 = ap (λ (n : ℕ). get_or s (start_of n) 0) there ∙ good.appends (j - i) (omega arith) in
          lone_good s (suc j) (omega (arith, eight)) (omega (arith, eight)))

      pub checks_next : Checks s k (n + 1)
      checks_next =
          let r = count s - i - 1 in
          let some : count s - i ≡ suc r = omega arith in
          let next : start_of i + record_bytes * suc m ≡ start_of (n + 1) = omega arith in
          let left : r - m ≡ count s - (n + 1) = omega arith in
          let units : units_from s (start_of i) 0 (count s - i) ≡ start_of i ∷ units_from s (start_of (n + 1)) 0 (count s - (n + 1)) =
          ap (units_from s (start_of i) 0) some ∙ units_next s (start_of i) r m (ap (◌-◌ r) e)
          ∙ (λ j. start_of i ∷ units_from s (next j) 0 (left j)) in
          record {
            upto = omega (arith, good.behind);
            fewer = omega (arith, c.fewer);
            fine = fine_next;
            counted = omega (arith, c.counted, ap length units);
          }
