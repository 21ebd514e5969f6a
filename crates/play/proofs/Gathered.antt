-- The operations of a batch: gathered record by record; and of more than there is room for, so many that they are refused as all are.
use Prim.Native.Nat.{ℕ, zero, suc, ◌+◌, ◌*◌, ◌≤◌, ◌<◌, min}
use mathlib.Core.Path.{◌≡◌, refl, sym, ap, ◌∙◌}
use mathlib.Core.Bool.{Bool, true, false, not, ◌&&◌}
use mathlib.Core.List.{List, [], ◌∷◌, ◌++◌}
use native.Mathlib.Omega.{arith}
use borrow.Author.Tests.{lt-leb}
use lib.ListN.{length, set, take, drop, length-append}
use lib.Seq.{sets, sets-eq, take_at, length-take-le}
use Rattle.table.specs.Order.{Op, op}
use Rattle.table.specs.declared.Answer.{Answer}
use Rattle.table.specs.declared.Answer.TheVariants as answer
use Rattle.table.proofs.Split.{under}
use Rattle.table.specs.declared.Search.TheVariants.{Walk}
use Rattle.read.specs.declared.Control.{Control}
use Rattle.read.specs.declared.Slot.{Slot}
use Rattle.read.specs.Machine.{Verdict, is_gone}
use Rattle.std.specs.Prelude.{Ok, Err}
use Rattle.read.specs.declared.Sign.{Sign}
use Rattle.read.specs.Handles.{sign, smallest}
use Rattle.read.specs.Calls.{Lent, lent}
use Rattle.write.specs.declared.Moved.{Moved}
use Rattle.write.specs.Call.{ops_in}
use Rattle.write.specs.Steps.{refused}
use Rattle.write.specs.Begins.{writer_signs, batch_room, all_lawful, crowds, appended, append_on, append_by}
use Rattle.format.specs.declared.Fields.{Fields}
use Rattle.format.specs.Schedule.{record_bytes, fields_at}
use Rattle.play.specs.Schedule.{ops_from}

-- ---- one more record

-- three words more
ops_snoc : (n : ℕ) (xs : List ℕ) → length xs ≡ 3 * n → (a b c : ℕ) → ops_in (xs ++ (a ∷ b ∷ c ∷ [])) ≡ ops_in xs ++ (op a b c ∷ [])
ops_snoc n [] e a b c = refl
ops_snoc zero (x ∷ xs) e a b c = absurd (omega arith)
ops_snoc (suc n) (x ∷ []) e a b c = absurd (omega arith)
ops_snoc (suc n) (x ∷ y ∷ []) e a b c = absurd (omega arith)
ops_snoc (suc n) (x ∷ y ∷ z ∷ xs) e a b c = ap (◌∷◌ (op x y z)) (ops_snoc n xs (omega arith) a b c)

module _ (s : List ℕ) where
  abbrev op_at : ℕ → Op
  op_at at = let f = fields_at s at in op f.kind f.key f.amount

  from_snoc : (at n : ℕ) → ops_from s at (suc n) ≡ ops_from s at n ++ (op_at (at + record_bytes * n) ∷ [])
  from_snoc at zero = ap (λ (x : ℕ). op_at x ∷ []) {x = at} {y = at + record_bytes * 0} (omega arith)
  from_snoc at (suc n) =
      ap (◌∷◌ (op_at at)) (
      from_snoc (at + record_bytes) n
      ∙ ap (λ (x : ℕ). ops_from s (at + record_bytes) n ++ (op_at x ∷ [])) {x = at + record_bytes + record_bytes * n} {y = at + record_bytes * suc n} (omega arith)
      )

  pub from_length : (at n : ℕ) → length (ops_from s at n) ≡ n
  from_length at zero = refl
  from_length at (suc n) = ap suc (from_length (at + record_bytes) n)

  pub gathered :
      (at i : ℕ) (ws : List ℕ) {f : Fields} → f ≡ fields_at s (at + record_bytes * i) → 3 * i + 3 ≤ length ws →
      ops_in (take (3 * i) ws) ≡ ops_from s at i →
      ops_in (take (3 * (i + 1)) (set (set (set ws (3 * i) f.kind) (3 * i + 1) f.key) (3 * i + 2) f.amount)) ≡ ops_from s at (i + 1)
  gathered at i ws {f} e h p =
      let vs : List ℕ = f.kind ∷ f.key ∷ f.amount ∷ [] in
      let front : length (take (3 * i) ws) ≡ 3 * i = length-take-le (3 * i) ws (omega arith) in
      let long : length (take (3 * i) ws ++ vs) ≡ 3 * (i + 1) = length-append (take (3 * i) ws) vs ∙ omega (arith, front) in
      let new : set (set (set ws (3 * i) f.kind) (3 * i + 1) f.key) (3 * i + 2) f.amount ≡ sets ws (3 * i) vs =
      (λ j. set (set (set ws (3 * i) f.kind) (one (3 * i) j) f.key) (two (3 * i) j) f.amount) in
      ap (λ (w : List ℕ). ops_in (take (3 * (i + 1)) w)) (new ∙ sets-eq vs ws (3 * i) h)
      ∙ ap ops_in (take_at (take (3 * i) ws ++ vs) (drop (3 * i + 3) ws) (3 * (i + 1)) long)
      ∙ ops_snoc i (take (3 * i) ws) front f.kind f.key f.amount
      ∙ (λ j. p j ++ (op (e j).kind (e j).key (e j).amount ∷ []))
      ∙ sym (from_snoc at i)
      ∙ ap (ops_from s at) {x = suc i} {y = i + 1} (omega arith)
    where
      one : (x : ℕ) → x + 1 ≡ suc x
      one x = omega arith

      two : (x : ℕ) → x + 2 ≡ suc (suc x)
      two x = omega arith

-- ---- too many

module _ (c : Control) (t : Slot) (e : ℕ) (l r g : List ℕ) where
  -- there is no writer any more, or too many operations
  abbrev reason : Bool → Answer
  reason gone = elim gone [ true ↦ answer.Gone | false ↦ answer.Operation ]

  too_many : (os : List Op) → batch_room < length os → append_on os c t e l r g ≡ lent (refused (reason (is_gone c.phase)) c t e) l r g
  unfolding append_by smallest
  too_many os h =
      ap (λ (b : Bool). by (smallest (writer_signs 7 (not (b && all_lawful os)) (crowds (length os) c) c t))) (lt-leb (length os) batch_room h)
      ∙ go (is_gone c.phase) (drop 2 (writer_signs 7 true (crowds (length os) c) c t))
    where
      by : Verdict → Lent Moved
      by v = elim v [ Ok _ ↦ appended Walk c.first os c t e l r g | Err a ↦ lent (refused a c t e) l r g ]

      go : (gone : Bool) (rest : List Sign) →
          by (smallest (sign answer.Gone gone ∷ sign answer.Operation true ∷ rest)) ≡ lent (refused (reason gone) c t e) l r g
      go true rest = refl
      go false rest = refl

  pub batch_taken :
      (s : List ℕ) (at n : ℕ) {k : ℕ} {os : List Op} → k ≡ min n (suc batch_room) → os ≡ ops_from s at k →
      append_on os c t e l r g ≡ append_on (ops_from s at n) c t e l r g
  batch_taken s at n {k} {os} p q =
      ap (λ (os : List Op). append_on os c t e l r g) q
      ∙ under batch_room n
      (λ h.
      too_many (ops_from s at k) (omega (arith, from_length s at k)) ∙ sym (too_many (ops_from s at n) (omega (arith, from_length s at n))))
      (λ h. ap (λ (m : ℕ). append_on (ops_from s at m) c t e l r g) {x = k} {y = n} (omega arith))
