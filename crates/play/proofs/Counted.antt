-- The entries that the statement counts in a file's bytes are those of the rule.
use Prim.Native.Nat.{ℕ, zero, suc, ◌+◌, ◌-◌, ◌*◌, ◌≤◌, ◌<◌}
use mathlib.Core.Path.{◌≡◌, sym, ap, subst, ◌∙◌}
use mathlib.Core.List.{List}
use native.Mathlib.Omega.{arith}
use borrow.Author.Tests.{eqb-true, eqb-false}
use lib.Dec.{eqb}
use lib.ListN.{length}
use Rattle.table.proofs.Split.{split, under}
use Rattle.format.specs.Schedule.{record_bytes, count, start_of, members_at, units_from, entries_in}
use Rattle.format.proofs.Records.{members_batch, members_none}
use Rattle.format.proofs.Units.{units_next}
use Rattle.play.specs.Refusals.{call_at, amount_at, Entries, none, single, batch}

module _ (s : List ℕ) where
  -- those of the rule, from record i on
  abbrev ruled : ℕ → ℕ
  ruled i = length (units_from s (start_of i) 0 (count s - i))

  ruled_none : (i : ℕ) → count s ≤ i → ruled i ≡ 0
  ruled_none i h = ap (λ (n : ℕ). length (units_from s (start_of i) 0 n)) {x = count s - i} {y = 0} (omega arith)

  -- j: where the next one is that gets an entry
  ruled_next : (i j m : ℕ) → i < count s → members_at s (start_of i) ≡ m → j ≡ i + 1 + m → ruled i ≡ suc (ruled j)
  ruled_next i j m h e p =
      let n = count s - i - 1 in
      let at : start_of i + record_bytes * suc m ≡ start_of j = omega (arith, p) in
      let left : n - m ≡ count s - j = omega (arith, p) in
      ap (λ (k : ℕ). length (units_from s (start_of i) 0 k)) {x = count s - i} {y = suc n} (omega arith)
      ∙ ap (λ (us : List ℕ). length us) (units_next s (start_of i) n m (ap (λ (k : ℕ). n - k) (sym e)))
      ∙ (λ k. suc (length (units_from s (at k) 0 (left k))))

  pub counted_once : {i n : ℕ} → Entries s i n → n ≡ ruled i
  counted_once (none i h) = under i (count s) (λ l. absurd (h (omega arith))) (λ l. sym (ruled_none i l))
  counted_once (single i n w c e) =
      ap suc (counted_once e) ∙ sym (ruled_next i (i + 1) 0 (omega arith) (members_none s (start_of i) c) (omega arith))
  counted_once (batch i n w c e) =
      ap suc (counted_once e)
      ∙ sym (ruled_next i (i + 1 + amount_at s i) (amount_at s i) (omega arith) (members_batch s (start_of i) c) (omega arith))

  -- at most k records are left
  counted : (k i : ℕ) → count s - i ≤ k → Entries s i (ruled i)
  counted zero i h = subst (Entries s i) (sym (ruled_none i (omega arith))) (none i (λ w. omega arith))
  counted (suc k) i h =
      under i (count s)
      (λ l.
      split (eqb (call_at s i) 15)
      (λ b.
      let c = eqb-true (call_at s i) 15 b in
      let j = i + 1 + amount_at s i in
      subst (Entries s i) (sym (ruled_next i j (amount_at s i) l (members_batch s (start_of i) c) (omega arith)))
      (batch i (ruled j) (omega arith) c (counted k j (omega arith))))
      (λ b.
      let c = eqb-false (call_at s i) 15 b in
      subst (Entries s i) (sym (ruled_next i (i + 1) 0 l (members_none s (start_of i) c) (omega arith)))
      (single i (ruled (i + 1)) (omega arith) c (counted k (i + 1) (omega arith)))))
      (λ l. subst (Entries s i) (sym (ruled_none i l)) (none i (λ w. omega arith)))

  abbrev all : ruled 0 ≡ entries_in s
  all = ap (λ (n : ℕ). length (units_from s (start_of 0) 0 n)) {x = count s - 0} {y = count s} (omega arith)

  pub entries_counted : Entries s 0 (entries_in s)
  entries_counted = subst (Entries s 0) all (counted (count s) 0 (omega arith))

  pub entries_ruled : {n : ℕ} → Entries s 0 n → n ≡ entries_in s
  entries_ruled e = counted_once e ∙ all
