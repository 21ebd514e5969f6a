-- Before a turn at byte `at` the records before it are looked at, and those that get no entry are counted.
use Prim.Native.Nat.{ℕ, ◌+◌, ◌-◌, ◌*◌, ◌≤◌, ◌<◌}
use mathlib.Core.Path.{◌≡◌, refl, sym, ap, subst, ◌∙◌}
use mathlib.Core.Bool.{false}
use mathlib.Core.List.{List}
use native.Mathlib.Omega.{arith}
use lib.ListN.{get_or}
use Rattle.std.specs.Prelude.{Ok}
use Rattle.format.specs.Schedule.{record_bytes, count, start_of, members_at, bad_at}
use Rattle.format.proofs.Records.{members_read, members_none, lone_good}
use Rattle.format.proofs.Checks.{Checks, checks_end, checks_bad, checks_next}
use Rattle.format.proofs.check_records.Invariants.{place_of, Before}
use Rattle.format.proofs.check_records.Goals as goal
use Rattle.format.proofs.check_records.Goals.{After-members-m, Joined-call-lt1, then-call-lt1+else-is_bad, else-call-lt1+else-call-ge-BATCH}

-- past a record and the m that belong to it
passed :
    (s : List ℕ) {inside at m k to : ℕ} (b : Before s inside at) → place_of at < count s → bad_at s (place_of at) ≡ false → m ≡ members_at s at →
    k ≡ inside + m → to ≡ at + record_bytes * m → Before s k (to + record_bytes)
passed s {inside} {at} {m} {k} {to} b l fine e p q =
    let i = place_of at in
    let there : i + m + 1 ≡ place_of (to + record_bytes) = omega (arith, b.begins, q) in
    record {
      begins = omega (arith, b.begins, q);
      checks = subst (Checks s k) there (checks_next s b.checks l fine (e ∙ ap (members_at s) b.begins) p refl);
    }

-- past a batch
batch : (c : After-members-m) →
    Before c.args.s.now (c.loop-at.inside + c.members-m.result) (c.loop-at.at + record_bytes * c.members-m.result + record_bytes)
batch c =
    let v = c.loop-at.invariant in
    passed _ v.3 (omega (arith, v.1, v.2, v.3.begins)) (sym c.is_bad.ensures ∙ c.if-is_bad.false) (members_read _ _ c.members-m.ensures c.fields_at.ensures) refl refl

-- past a record, whichever way was taken
next : (c : Joined-call-lt1) →
    (c.loop-at.at ≤ c.if-call-lt1.at) × Before c.args.s.now c.if-call-lt1.inside (c.if-call-lt1.at + record_bytes)
next c =
    let s = c.args.s.now in
    let v = c.loop-at.invariant in
    let at = c.loop-at.at in
    let l : place_of at < count s = omega (arith, v.1, v.2, v.3.begins) in
    elim c.if-call-lt1.branch [
      | then-call-lt1+else-is_bad w ↦
          (omega (arith, w.at-is), passed s v.3 l (sym w.is_bad.ensures ∙ w.if-is_bad.false) (members_read _ _ w.members-m.ensures w.fields_at.ensures) w.inside-is w.at-is)
      | else-call-lt1+else-call-ge-BATCH w ↦
          let h : get_or s at 0 < 15 = w.if-call-ge-BATCH.false in
          let low : 1 ≤ get_or s (start_of (place_of at)) 0 = subst (λ (k : ℕ). 1 ≤ get_or s k 0) v.3.begins w.if-call-lt1.false in
          let high : get_or s (start_of (place_of at)) 0 < 15 = subst (λ (k : ℕ). get_or s k 0 < 15) v.3.begins h in
          let none : 0 ≡ members_at s at = sym (members_none s at (λ f. omega (arith, f, h))) in
          let to : c.if-call-lt1.at ≡ at + record_bytes * 0 = omega (arith, w.at-is) in
          (omega (arith, w.at-is), passed s v.3 l (lone_good s (place_of at) low high) none (omega (arith, w.inside-is)) to)
    ]

pub returns-then-is_bad : goal.returns-then-is_bad
returns-then-is_bad c =
    let v = c.loop-at.invariant in
    sym (checks_bad _ v.3.checks (omega (arith, v.1, v.2, v.3.begins)) (sym c.is_bad.ensures ∙ c.if-is_bad.true))

pub overflow_add-inside : goal.overflow_add-inside
overflow_add-inside c =
    let b = (batch (goal.at.overflow_add-inside c).After-members-m).checks in
    omega (arith, b.upto, b.fewer)

pub overflow_mul-at : goal.overflow_mul-at
overflow_mul-at c = omega (arith, (batch (goal.at.overflow_mul-at c).After-members-m).checks.upto)

pub overflow_add-at : goal.overflow_add-at
overflow_add-at c = omega (arith, (batch (goal.at.overflow_add-at c).After-members-m).checks.upto)

pub overflow_add-at-in-loop-at : goal.overflow_add-at-in-loop-at
overflow_add-at-in-loop-at c = omega (arith, (next (goal.at.overflow_add-at-in-loop-at c).Joined-call-lt1).1.checks.upto)

pub loop-at-preserved : goal.loop-at-preserved
loop-at-preserved c =
    let v = c.loop-at.invariant in
    (v.0, v.1, v.2, (next (goal.at.loop-at-preserved c).Joined-call-lt1).1)

pub returns : goal.returns
returns c =
    let v = c.loop-at.invariant in
    ap (λ (n : ℕ). Ok (n - c.loop-at.inside)) v.1
    ∙ sym (checks_end _ v.3.checks (omega (arith, v.1, v.2, v.3.begins)))
