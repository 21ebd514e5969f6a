-- The plan that is known at the beginning of a call is what is left where the rules begin it.
use Prim.Native.Nat.{ℕ, zero, suc, ◌-◌, ◌<◌}
use mathlib.Core.Path.{◌≡◌, refl, sym, ap, ◌∙◌, subst}
use mathlib.Core.Bool.{Bool, true, false, not, ◌&&◌, ◌||◌, true≢false}
use mathlib.Core.List.{List, ◌∷◌, ◌++◌, append_assoc, append-nil}
use native.Mathlib.Omega.{arith}
use lib.ListN.{replicate}
use lib.Dec.{ltb}
use borrow.Author.Tests.{lt-ltb, le-ltb, ltb-false}
use Rattle.table.proofs.Split.{by}
use Rattle.read.specs.declared.Phase.{Phase}
use Rattle.read.specs.declared.Job.{Job}
use Rattle.read.specs.declared.Job.TheVariants.{Publish, Try, TakeFirst}
use Rattle.read.specs.declared.Control.{Control}
use Rattle.write.specs.declared.Opening.TheVariants as opening
use Rattle.write.specs.Steps.{at, polling, beginning}
use Rattle.write.specs.Begins.{taking}
use Rattle.write.proofs.Cases.{with_job}
use Rattle.demands.specs.Account.{Move, begin, poll, copy, apply, swap, snap, each, provided, publishing, Store, unswapped, unpublished, publish_plan, plan_of}
use Rattle.demands.proofs.Account.Plan.{from_all, last_plan, after_plan, swap_plan, polled_plan, begin_plan, plan, plan_beginning, plan_polling}

-- ---- over plain flags and numbers; y: the copies were synchronised

none_held : (P : ℕ → Type 0) (n : ℕ) → n ≡ 0 → P 0 → P n
none_held P n z p = subst P (sym z) p

-- take's second publish
after_plan_lem : (m : ℕ) (b : Bool) → (0 < m → b ≡ false) →
    after_plan TakeFirst m false b ≡ provided (ltb 0 m) (begin ∷ publishing true false m) ++ last_plan
after_plan_lem zero b h = refl
after_plan_lem (suc m) true h = absurd (true≢false (h (omega arith)))
after_plan_lem (suc m) false h = rw (lt-ltb 0 (suc m) (omega arith), provided) (ap (λ (x : List Move). begin ∷ x) (simp append_assoc))

module _ (j : Job) where
  polled_plan_lem : (f y : Bool) (s n : ℕ) → (f ≡ true → n ≡ 0) →
      polled_plan j f (not y) s n ≡ publishing false (not (f || y)) n ++ after_plan j (n - s) false (f && not y)
  polled_plan_lem true y s n z =
      none_held (λ n. swap_plan j n (not y) ≡ (replicate n apply ++ (swap ∷ each snap)) ++ after_plan j (n - s) false (not y)) n (z refl)
      (let e : 0 ≡ 0 - s = omega arith in ap (λ (m : ℕ). swap ∷ each snap ++ after_plan j m false (not y)) e)
  polled_plan_lem false true s n z = sym (append_assoc (replicate n apply) (swap ∷ each snap) (after_plan j (n - s) false false))
  polled_plan_lem false false s n z =
      ap (λ (x : List Move). copy ∷ x) (sym (append_assoc (replicate n apply) (swap ∷ each snap) (after_plan j (n - s) false false)))

  begin_plan_lem : (f y : Bool) (s n : ℕ) → (f ≡ true → n ≡ 0) →
      begin_plan j f (not y) s n ≡ publishing (not f) (not (f || y)) n ++ after_plan j (n - s) false (f && not y)
  begin_plan_lem true y s n z = polled_plan_lem true y s n z
  begin_plan_lem false y s n z =
      ap (λ (x : List Move). each poll ++ x) (polled_plan_lem false y s n z)
      ∙ sym (append_assoc (each poll) (publishing false (not y) n) (after_plan j (n - s) false false))

-- ---- the beginnings

-- the flags and the log, as the history has them
pub record Known (t : Store) (c : Control) : Type 0 where
  pub first : c.first ≡ unswapped t
  pub second : c.second ≡ not t.synced
  pub in_log : c.length ≡ t.in_log
  pub swap_index : c.swapped ≡ t.swap_index
  pub early : c.first ≡ true → c.length ≡ 0

module _ (t : Store) (c : Control) (k : Known t c) where
  abbrev f : Bool
  f = unswapped t

  empty : f ≡ true → t.in_log ≡ 0
  empty e = sym k.in_log ∙ k.early (k.first ∙ e)

  begin_known : (j : Job) →
      begin_plan j c.first c.second c.swapped c.length
      ≡ publish_plan false t ++ after_plan j (unpublished t) false (f && not t.synced)
  begin_known j =
      (λ i. begin_plan j (k.first i) (k.second i) (k.swap_index i) (k.in_log i)) ∙ begin_plan_lem j f t.synced t.swap_index t.in_log empty

  pub publish_known : plan (at (beginning c) (with_job Publish c)) ≡ plan_of opening.Publish t
  publish_known = plan_beginning (with_job Publish c) ∙ begin_known Publish ∙ append-nil _

  pub try_known : plan (at (polling c 0) (with_job Try c)) ≡ plan_of opening.Try t
  try_known =
      plan_polling (with_job Try c) 0
      ∙ (λ i. from_all poll i ++ polled_plan Try (k.first i) (k.second i) (k.swap_index i) (k.in_log i))
      ∙ ap (λ (x : List Move). each poll ++ x) (polled_plan_lem Try f t.synced t.swap_index t.in_log empty ∙ append-nil _)

  -- where take's second publish comes, a first swap came before
  synced_then : (b : Bool) → (b ≡ true → t.in_log ≡ 0) → 0 < unpublished t → (b && not t.synced) ≡ false
  synced_then true e h = absurd (let z = e refl in omega arith)
  synced_then false e h = refl

  none_waits : (b : Bool) → (b || ltb 0 t.in_log) ≡ false → ltb 0 (unpublished t) ≡ false
  none_waits true e = absurd (true≢false e)
  none_waits false e = le-ltb 0 (unpublished t) (omega (arith, ltb-false 0 t.in_log e))

  abbrev second : List Move
  second = provided (ltb 0 (unpublished t)) (begin ∷ publishing true false (unpublished t)) ++ last_plan

  abbrev of_take : Bool → List Move
  of_take b = provided b (begin ∷ publish_plan false t) ++ second

  pub take_known : plan (at (taking c) (with_job TakeFirst c)) ≡ plan_of opening.Take t
  take_known =
      by (λ (p : Phase). plan (at p (with_job TakeFirst c)) ≡ of_take (f || ltb 0 t.in_log)) (c.first || ltb 0 c.length)
      (λ e.
      ap (λ (x : List Move). begin ∷ x)
      (begin_known TakeFirst
      ∙ ap (λ (x : List Move). publish_plan false t ++ x) (after_plan_lem (unpublished t) (f && not t.synced) (synced_then f empty)))
      ∙ ap of_take (sym (same ∙ e)))
      (λ e. ap (λ (b : Bool). provided b (begin ∷ publishing true false (unpublished t)) ++ last_plan) (sym (none_waits f (same ∙ e))) ∙ ap of_take (sym (same ∙ e)))
    where
      same : (f || ltb 0 t.in_log) ≡ (c.first || ltb 0 c.length)
      same = λ i. sym k.first i || ltb 0 (sym k.in_log i)
