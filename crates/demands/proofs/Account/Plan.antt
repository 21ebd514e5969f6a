-- The steps that are left of a call, by the phase: a step that is made takes the first of them off.
use Prim.Native.Nat.{ℕ, zero, suc, ◌+◌, ◌-◌, ◌≤◌, ◌<◌}
use mathlib.Core.Path.{◌≡◌, refl, sym, ap, ap₂, ◌∙◌}
use mathlib.Core.Logic.{⊎_elim}
use mathlib.Core.Bool.{Bool, true, false, true≢false}
use mathlib.Core.List.{List, [], ◌∷◌, ◌++◌}
use native.Mathlib.Omega.{arith}
use native.Mathlib.Nat.{sub-zero}
use native.Mathlib.Numerals.{add-one}
use lib.ListN.{replicate}
use Rattle.table.specs.Answers.{number}
use Rattle.table.proofs.Split.{below}
use Rattle.read.specs.declared.Slot.{Slot}
use Rattle.read.specs.declared.Phase.{Phase}
use Rattle.read.specs.declared.Phase.TheVariants.{Idle, Begin, Poll, Copy, Drain, Keep, Swap, Snap, Null, Lock, LastSnap, LastPoll, Finish, Gone}
use Rattle.read.specs.declared.Job.{Job}
use Rattle.read.specs.declared.Job.TheVariants.{Publish, Try, TakeFirst, TakeSecond}
use Rattle.read.specs.declared.Control.{Control}
use Rattle.read.specs.Machine.{slot_count, with_free, underway}
use Rattle.read.proofs.Phases.{idle_or_gone}
use Rattle.write.specs.Steps.{at, with_log, copied, swapped_over, next_job, keeping, draining, polled, polling, beginning, published, last_polling, last_snapping, snapping, holds, stopped, poll_move, last_poll_move, step_at, step_by}
use Rattle.write.proofs.Cases.{keeping_cases, draining_cases, polled_cases, polling_cases, beginning_cases, last_polling_cases, last_snapping_cases, snapping_cases, with_job}
use Rattle.write.proofs.Control.{Whole, Fits, fits}
use Rattle.demands.specs.Account.{Move, begin, poll, copy, apply, swap, snap, null, lock, finish, up_from, each, provided}

-- ---- the steps from a place on

abbrev pub from : ℕ → (ℕ → Move) → List Move
from k f = up_from (slot_count - k) k f

abbrev pub last_plan : List Move
last_plan = null ∷ lock ∷ each snap ++ (each poll ++ (finish ∷ []))

-- behind the last snapshot of a publish that leaves n operations in the log
abbrev pub after_plan : Job → ℕ → Bool → Bool → List Move
after_plan Publish n first second = []
after_plan Try n first second = []
after_plan TakeFirst zero first second = last_plan
after_plan TakeFirst (suc n) true second = begin ∷ swap ∷ each snap ++ last_plan
after_plan TakeFirst (suc n) false second =
    begin ∷ each poll ++ (provided second (copy ∷ []) ++ (replicate (suc n) apply ++ (swap ∷ each snap ++ last_plan)))
after_plan TakeSecond n first second = last_plan

abbrev pub snap_plan : ℕ → Job → ℕ → Bool → Bool → List Move
snap_plan k j n first second = from k snap ++ after_plan j n first second

abbrev pub swap_plan : Job → ℕ → Bool → List Move
swap_plan j n second = swap ∷ each snap ++ after_plan j n false second

abbrev pub drain_plan : Job → ℕ → ℕ → Bool → List Move
drain_plan j s n second = replicate n apply ++ swap_plan j (n - s) second

abbrev pub polled_plan : Job → Bool → Bool → ℕ → ℕ → List Move
polled_plan j true second s n = swap_plan j n second
polled_plan j false true s n = copy ∷ drain_plan j s n false
polled_plan j false false s n = drain_plan j s n false

abbrev pub begin_plan : Job → Bool → Bool → ℕ → ℕ → List Move
begin_plan j true second s n = swap_plan j n second
begin_plan j false second s n = each poll ++ polled_plan j false second s n

abbrev pub plan_at : Phase → Control → List Move
plan_at Idle c = []
plan_at Begin c = begin ∷ begin_plan c.job c.first c.second c.swapped c.length
plan_at (Poll k) c = from k poll ++ polled_plan c.job c.first c.second c.swapped c.length
plan_at Copy c = copy ∷ drain_plan c.job c.swapped c.length false
plan_at Drain c = drain_plan c.job c.swapped c.length c.second
plan_at (Keep k) c = replicate (c.length - k) apply ++ swap_plan c.job c.length c.second
plan_at Swap c = swap_plan c.job c.length c.second
plan_at (Snap k) c = snap_plan k c.job c.length c.first c.second
plan_at Null c = last_plan
plan_at Lock c = lock ∷ each snap ++ (each poll ++ (finish ∷ []))
plan_at (LastSnap k) c = from k snap ++ (each poll ++ (finish ∷ []))
plan_at (LastPoll k) c = from k poll ++ (finish ∷ [])
plan_at Finish c = finish ∷ []
plan_at Gone c = []

abbrev pub plan : Control → List Move
plan c = plan_at c.phase c

-- it does not look at the slot that is handed out next
pub plan_free : (k : ℕ) (c : Control) → plan (with_free k c) ≡ plan c
plan_free k c = go c.phase
  where
    go : (p : Phase) → plan_at p (with_free k c) ≡ plan_at p c
    go Idle = refl
    go Begin = refl
    go (Poll i) = refl
    go Copy = refl
    go Drain = refl
    go (Keep i) = refl
    go Swap = refl
    go (Snap i) = refl
    go Null = refl
    go Lock = refl
    go (LastSnap i) = refl
    go (LastPoll i) = refl
    go Finish = refl
    go Gone = refl

-- what a step of a phase is
abbrev pub move_of : Phase → Move
move_of Idle = begin
move_of Begin = begin
move_of (Poll k) = poll k
move_of Copy = copy
move_of Drain = apply
move_of (Keep k) = apply
move_of Swap = swap
move_of (Snap k) = snap k
move_of Null = null
move_of Lock = lock
move_of (LastSnap k) = snap k
move_of (LastPoll k) = poll k
move_of Finish = finish
move_of Gone = finish

-- ---- lists

up_next : (n k : ℕ) (f : ℕ → Move) → 0 < n → up_from n k f ≡ f k ∷ up_from (n - 1) (k + 1) f
up_next zero k f h = absurd (omega arith)
up_next (suc n) k f h =
    let e : n ≡ suc n - 1 = omega arith in
    rw (add-one k) (ap (λ (m : ℕ). f k ∷ up_from m (suc k) f) e)

pub from_next : (k : ℕ) (f : ℕ → Move) → k < slot_count → from k f ≡ f k ∷ from (k + 1) f
from_next k f h =
    let e : slot_count - k - 1 ≡ slot_count - (k + 1) = omega arith in
    up_next (slot_count - k) k f (omega arith) ∙ ap (λ (n : ℕ). f k ∷ up_from n (k + 1) f) e

pub from_none : (k : ℕ) (f : ℕ → Move) → slot_count ≤ k → from k f ≡ []
from_none k f h = let e : slot_count - k ≡ 0 = omega arith in ap (λ (n : ℕ). up_from n k f) e

pub from_all : (f : ℕ → Move) → from 0 f ≡ each f
from_all f = ap (λ (n : ℕ). up_from n 0 f) (sub-zero slot_count)

some_more : (n : ℕ) → 0 < n → replicate n apply ≡ apply ∷ replicate (n - 1) apply
some_more zero h = absurd (omega arith)
some_more (suc n) h = let e : n ≡ suc n - 1 = omega arith in ap (λ (m : ℕ). apply ∷ replicate m apply) e

-- ---- where the writer goes on

module _ (c : Control) where
  abbrev Left : List Move → Phase → Type 0
  Left m p = plan (at p c) ≡ m

  plan_keeping : (k : ℕ) → Left (replicate (c.length - k) apply ++ swap_plan c.job c.length c.second) (keeping c.length k)
  plan_keeping k =
      keeping_cases (Left _) c.length k (λ u. refl)
      (λ u. let e : 0 ≡ c.length - k = omega arith in ap (λ (n : ℕ). replicate n apply ++ swap_plan c.job c.length c.second) e)

  plan_draining : Left (drain_plan c.job c.swapped c.length c.second) (draining c.swapped c.length)
  plan_draining =
      draining_cases (Left _) c.swapped c.length (λ u. refl)
      (λ z.
      let e : c.length ≡ c.length - c.swapped = omega arith in
      plan_keeping 0 ∙ rw (sub-zero c.length) (ap (λ (m : ℕ). replicate c.length apply ++ swap_plan c.job m c.second) e))

  plan_polled : Left (polled_plan c.job c.first c.second c.swapped c.length) (polled c)
  plan_polled =
      polled_cases (Left _) c
      (λ e. ap (λ (f : Bool). polled_plan c.job f c.second c.swapped c.length) (sym e))
      (λ e d. λ i. polled_plan c.job (sym e i) (sym d i) c.swapped c.length)
      (λ e d.
      plan_draining ∙ ap (drain_plan c.job c.swapped c.length) d
      ∙ (λ i. polled_plan c.job (sym e i) (sym d i) c.swapped c.length))

  pub plan_polling :
      (k : ℕ) → Left (from k poll ++ polled_plan c.job c.first c.second c.swapped c.length) (polling c k)
  plan_polling k = polling_cases (Left _) c k (λ u. refl) (λ u. rw (from_none k poll u) plan_polled)

  pub plan_beginning : Left (begin_plan c.job c.first c.second c.swapped c.length) (beginning c)
  plan_beginning =
      beginning_cases (Left _) c
      (λ e. ap (λ (f : Bool). begin_plan c.job f c.second c.swapped c.length) (sym e))
      (λ e.
      plan_polling 0 ∙ ap₂ (λ (x : List Move) (f : Bool). x ++ polled_plan c.job f c.second c.swapped c.length) (from_all poll) e
      ∙ ap (λ (f : Bool). begin_plan c.job f c.second c.swapped c.length) (sym e))

  plan_last_polling : (k : ℕ) → Left (from k poll ++ (finish ∷ [])) (last_polling k)
  plan_last_polling k = last_polling_cases (Left _) k (λ u. refl) (λ u. rw (from_none k poll u))

  plan_last_snapping : (k : ℕ) → Left (from k snap ++ (each poll ++ (finish ∷ []))) (last_snapping k)
  plan_last_snapping k =
      last_snapping_cases (Left _) k (λ u. refl)
      (λ u. plan_last_polling 0 ∙ rw (from_none k snap u) (ap (λ (x : List Move). x ++ (finish ∷ [])) (from_all poll)))

-- take's second publish, of some operations
again : (f b : Bool) (s n : ℕ) → 0 < n → begin ∷ begin_plan TakeSecond f b s n ≡ after_plan TakeFirst n f b
again f b s zero h = absurd (omega arith)
again true b s (suc n) h = refl
again false true s (suc n) h = refl
again false false s (suc n) h = refl

none_after : (n : ℕ) (f b : Bool) → n ≤ 0 → last_plan ≡ after_plan TakeFirst n f b
none_after zero f b h = refl
none_after (suc n) f b h = absurd (omega arith)

plan_published :
    (c : Control) (j : Job) → plan (at (published j c.length) (with_job (next_job j) c)) ≡ after_plan j c.length c.first c.second
plan_published c Publish = refl
plan_published c Try = refl
plan_published c TakeFirst =
    below (λ (p : Phase). plan (at p (with_job TakeSecond c)) ≡ after_plan TakeFirst c.length c.first c.second) 0 c.length
    (λ h. again c.first c.second c.swapped c.length h) (λ h. none_after c.length c.first c.second h)
plan_published c TakeSecond = refl

plan_snapping : (c : Control) (k : ℕ) → plan (snapping c k) ≡ snap_plan k c.job c.length c.first c.second
plan_snapping c k =
    snapping_cases (λ d. plan d ≡ snap_plan k c.job c.length c.first c.second) c k (λ h. refl)
    (λ h. rw (from_none k snap h) (plan_published c c.job))

-- ---- a step that is made

-- a poll that is held is not
pub not_made : (j : Job) (c : Control) (s : Slot) (e : ℕ) → number (stopped j c s e).answer ≡ 0 → ⊥
not_made Publish c s e z = omega arith
not_made Try c s e z = omega arith
not_made TakeFirst c s e z = omega arith
not_made TakeSecond c s e z = omega arith

module _ (c : Control) (s : Slot) (e : ℕ) where
  next_poll :
      (held : Bool) (k : ℕ) → k < slot_count → number (poll_move held k c s e).answer ≡ 0 →
      plan_at (Poll k) c ≡ poll k ∷ plan (poll_move held k c s e).control
  next_poll true k h z = absurd (not_made c.job c s e z)
  next_poll false k h z = rw (from_next k poll h) (ap (λ (x : List Move). poll k ∷ x) (sym (plan_polling c (k + 1))))

  next_last_poll :
      (held : Bool) (k : ℕ) → k < slot_count → number (last_poll_move held k c s e).answer ≡ 0 →
      plan_at (LastPoll k) c ≡ poll k ∷ plan (last_poll_move held k c s e).control
  next_last_poll true k h z = absurd (omega arith)
  next_last_poll false k h z = rw (from_next k poll h) (ap (λ (x : List Move). poll k ∷ x) (sym (plan_last_polling c (k + 1))))

  module _ (w : Whole c) (l r g : List ℕ) where
    next_at :
        (p : Phase) → Fits c.length c.swapped c.null p → number (step_at p c s e l r g).made.answer ≡ 0 →
        plan_at p c ≡ move_of p ∷ plan (step_at p c s e l r g).made.control
    unfolding step_by
    next_at Idle f z = absurd (omega arith)
    next_at Begin f z = ap (λ (x : List Move). begin ∷ x) (sym (plan_beginning c))
    next_at (Poll k) f z = next_poll (holds s e) k f.0 z
    next_at Copy f z = ap (λ (x : List Move). copy ∷ x) (sym (plan_draining (copied c)))
    next_at Drain f z =
        let m : c.length - c.swapped ≡ c.length - 1 - (c.swapped - 1) = omega (arith, w.within) in
        let q : 0 < c.length = omega (arith, w.within) in
        rw (some_more c.length q, m) (ap (λ (x : List Move). apply ∷ x) (sym (plan_draining (with_log (c.length - 1) (c.swapped - 1) c))))
    next_at (Keep k) f z =
        let m : c.length - k - 1 ≡ c.length - (k + 1) = omega arith in
        rw (some_more (c.length - k) (omega arith), m) (ap (λ (x : List Move). apply ∷ x) (sym (plan_keeping c (k + 1))))
    next_at Swap f z =
        ap (λ (x : List Move). swap ∷ x)
        (ap (λ (x : List Move). x ++ after_plan c.job c.length false c.second) (sym (from_all snap)) ∙ sym (plan_snapping (swapped_over c) 0))
    next_at (Snap k) f z = rw (from_next k snap f.0) (ap (λ (x : List Move). snap k ∷ x) (sym (plan_snapping c (k + 1))))
    next_at Null f z = refl
    next_at Lock f z =
        ap (λ (x : List Move). lock ∷ x)
        (ap (λ (x : List Move). x ++ (each poll ++ (finish ∷ []))) (sym (from_all snap)) ∙ sym (plan_last_snapping c 0))
    next_at (LastSnap k) f z = rw (from_next k snap f.0) (ap (λ (x : List Move). snap k ∷ x) (sym (plan_last_snapping c (k + 1))))
    next_at (LastPoll k) f z = next_last_poll (holds s e) k f.0 z
    next_at Finish f z = refl
    next_at Gone f z = absurd (omega arith)

    pub step_plan :
        number (step_at c.phase c s e l r g).made.answer ≡ 0 →
        plan c ≡ move_of c.phase ∷ plan (step_at c.phase c s e l r g).made.control
    step_plan z = next_at c.phase (fits w) z

-- ---- where a call is under way, its first step is the phase's

plan_head_at : (c : Control) (p : Phase) → Fits c.length c.swapped c.null p → c.swapped ≤ c.length → underway p ≡ true → (ms : List Move) × (plan_at p c ≡ move_of p ∷ ms)
plan_head_at c Idle f w u = absurd (true≢false (sym u))
plan_head_at c Begin f w u = (_, refl)
plan_head_at c (Poll k) f w u = (_, ap (λ (x : List Move). x ++ polled_plan c.job c.first c.second c.swapped c.length) (from_next k poll f.0))
plan_head_at c Copy f w u = (_, refl)
plan_head_at c Drain f w u = (_, ap (λ (x : List Move). x ++ swap_plan c.job (c.length - c.swapped) c.second) (some_more c.length (omega arith)))
plan_head_at c (Keep k) f w u = (_, ap (λ (x : List Move). x ++ swap_plan c.job c.length c.second) (some_more (c.length - k) (omega arith)))
plan_head_at c Swap f w u = (_, refl)
plan_head_at c (Snap k) f w u = (_, ap (λ (x : List Move). x ++ after_plan c.job c.length c.first c.second) (from_next k snap f.0))
plan_head_at c Null f w u = (_, refl)
plan_head_at c Lock f w u = (_, refl)
plan_head_at c (LastSnap k) f w u = (_, ap (λ (x : List Move). x ++ (each poll ++ (finish ∷ []))) (from_next k snap f.0))
plan_head_at c (LastPoll k) f w u = (_, ap (λ (x : List Move). x ++ (finish ∷ [])) (from_next k poll f.0))
plan_head_at c Finish f w u = (_, refl)
plan_head_at c Gone f w u = absurd (true≢false (sym u))

pub plan_head : (c : Control) → Whole c → underway c.phase ≡ true → (ms : List Move) × (plan c ≡ move_of c.phase ∷ ms)
plan_head c w u = plan_head_at c c.phase (fits w) w.within u

pub plan_none : (c : Control) → underway c.phase ≡ false → plan c ≡ []
plan_none c u = ⊎_elim (ap (λ (p : Phase). plan_at p c)) (ap (λ (p : Phase). plan_at p c)) (idle_or_gone c.phase u)
