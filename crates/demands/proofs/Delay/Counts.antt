-- How long a plan is.
use Prim.Native.Nat.{ℕ, zero, suc, ◌+◌, ◌*◌}
use mathlib.Core.Path.{◌≡◌, refl, ap}
use mathlib.Core.Bool.{Bool, true, false, not, ◌||◌}
use mathlib.Core.List.{List, ◌∷◌, ◌++◌}
use native.Mathlib.Omega.{arith}
use lib.ListN.{length, length-append, length-replicate}
use lib.Dec.{ltb}
use Rattle.read.specs.Machine.{slot_count}
use Rattle.read.specs.Handles.{bit}
use Rattle.write.specs.declared.Opening.{Opening}
use Rattle.write.specs.declared.Opening.TheVariants as opening
use Rattle.demands.specs.Account.{Store, Move, begin, poll, snap, up_from, each, provided, publishing, publish_plan, first_inside, second_inside, plan_of, unswapped, unpublished}
use Rattle.demands.specs.Follows.{publish_steps, first_steps, second_steps, steps_of}
use Rattle.demands.proofs.Account.Plan.{last_plan}

-- ---- over the number of slots

up_length : (n i : ℕ) (f : ℕ → Move) → length (up_from n i f) ≡ n
up_length zero i f = refl
up_length (suc n) i f = ap suc (up_length n (suc i) f)

each_length : (f : ℕ → Move) → length (each f) ≡ slot_count
each_length f = up_length slot_count 0 f

pub publishing_length : (p b : Bool) (n : ℕ) → length (publishing p b n) ≡ 1 + slot_count + elim p [ true ↦ slot_count | false ↦ 0 ] + bit b + n
publishing_length true true n = simp (length-append, length-replicate) (omega (arith, each_length poll, each_length snap))
publishing_length true false n = simp (length-append, length-replicate) (omega (arith, each_length poll, each_length snap))
publishing_length false true n = simp (length-append, length-replicate) (omega (arith, each_length snap))
publishing_length false false n = simp (length-append, length-replicate) (omega (arith, each_length snap))

-- take's end, from null on
pub last_length : length last_plan ≡ 3 + 2 * slot_count
last_length = simp length-append (omega (arith, each_length poll, each_length snap))

-- ---- of a call; u: no swap came; y: synchronised

publish_sum : (trial u y : Bool) (n : ℕ) → (u ≡ true → n ≡ 0) →
    suc (length (publishing (trial || not u) (not (u || y)) n))
    ≡ elim u [ true ↦ 2 + slot_count + elim trial [ true ↦ slot_count | false ↦ 0 ] | false ↦ 2 + 2 * slot_count + bit (not y) + n ]
publish_sum true true y n z = let e = z refl in omega (arith, publishing_length true false n)
publish_sum true false y n z = omega (arith, publishing_length true (not y) n)
publish_sum false true y n z = let e = z refl in omega (arith, publishing_length false false n)
publish_sum false false y n z = omega (arith, publishing_length true (not y) n)

-- a publish inside a take has its beginning among its own steps
inner_sum : (x : Bool) (p : List Move) (n : ℕ) → suc (length p) ≡ n → length (provided x (begin ∷ p)) ≡ elim x [ true ↦ n | false ↦ 0 ]
inner_sum true p n e = e
inner_sum false p n e = refl

module _ (s : Store) (z : unswapped s ≡ true → s.in_log ≡ 0) where
  publish_steps_lem : (trial : Bool) → suc (length (publish_plan trial s)) ≡ publish_steps trial s
  publish_steps_lem trial = publish_sum trial (unswapped s) s.synced s.in_log z

  pub first_steps_lem : length (first_inside s) ≡ first_steps s
  first_steps_lem = inner_sum (unswapped s || ltb 0 s.in_log) (publish_plan false s) (publish_steps false s) (publish_steps_lem false)

  pub second_steps_lem : length (second_inside s) ≡ second_steps s
  second_steps_lem =
      inner_sum (ltb 0 (unpublished s)) (publishing true false (unpublished s)) (2 + 2 * slot_count + unpublished s)
      (omega (arith, publishing_length true false (unpublished s)))

  pub plan_steps : (o : Opening) → suc (length (plan_of o s)) ≡ steps_of o s
  plan_steps opening.Publish = publish_steps_lem false
  plan_steps opening.Try = publish_steps_lem true
  plan_steps opening.Flush = publish_steps_lem false
  plan_steps opening.Take =
      omega (arith, first_steps_lem, second_steps_lem, last_length, length-append (first_inside s) (second_inside s ++ last_plan), length-append (second_inside s) last_plan)
