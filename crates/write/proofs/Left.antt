-- The count: how many steps are left of a call. A step that is made lowers it by one, and it is 0 exactly where no call is under way.
use Rattle.std.proofs.Common.{◌≡◌, ℕ, zero, suc, ◌+◌, ◌-◌, ◌*◌, ◌^◌, ◌<◌, ◌≤◌, Bool, true, false, not, ◌&&◌, List, sym, refl, ap, ◌∙◌, true≢false, arith}
use mathlib.Core.Bool.{beq}
use native.Mathlib.Nat.{sub-zero}
use Rattle.table.specs.Answers.{number}
use Rattle.table.specs.declared.Answer.{Answer}
use Rattle.table.specs.declared.Answer.TheVariants as answer
use Rattle.table.proofs.Split.{by, below}
use Rattle.read.specs.declared.Slot.{Slot}
use Rattle.read.specs.declared.Phase.{Phase}
use Rattle.read.specs.declared.Phase.TheVariants.{Idle, Begin, Poll, Copy, Drain, Keep, Swap, Snap, Null, Lock, LastSnap, LastPoll, Finish, Gone}
use Rattle.read.specs.declared.Job.{Job}
use Rattle.read.specs.declared.Job.TheVariants.{Publish, Try, TakeFirst, TakeSecond}
use Rattle.read.specs.declared.Control.{Control}
use Rattle.read.specs.Machine.{slot_count, log_room, underway, is_gone}
use Rattle.read.specs.Handles.{freed, bit}
use Rattle.read.specs.Calls.{Lent, lent}
use Rattle.read.proofs.Phases.{idle_cases}
use Rattle.write.specs.declared.Moved.{Moved}
use Rattle.write.specs.Steps.{at, with_log, copied, swapped_over, next_job, keeping, draining, polled, polling, beginning, published, last_polling, last_snapping, snapping, holds, vacated, moved, refused, stopped, poll_move, last_poll_move, step_at, step_by}
use Rattle.write.specs.Scans.{polls, stop_answer, halt_answer}
use Rattle.write.proofs.Count.{last_left, after_left, snap_left, swap_left, drain_left, polled_left, begin_left, left_at, left}
use Rattle.write.proofs.Cases.{with_job, keeping_cases, draining_cases, polled_cases, polling_cases, beginning_cases, last_polling_cases, last_snapping_cases, snapping_cases}
use Rattle.write.proofs.Control.{Whole, Fits, fits}

-- ---- the count, where the writer goes on

module _ (c : Control) where
  abbrev Left : ℕ → Phase → Type 0
  Left m p = left (at p c) ≡ m

  left_keeping : (k : ℕ) → k ≤ c.length → Left ((c.length - k) + swap_left c.job c.length c.second) (keeping c.length k)
  left_keeping k h = keeping_cases (Left _) c.length k (λ u. refl) (λ u. omega arith)

  left_draining : Left (drain_left c.job c.swapped c.length c.second) (draining c.swapped c.length)
  left_draining =
      draining_cases (Left _) c.swapped c.length (λ u. refl)
      (λ z.
      let e : c.length ≡ c.length - c.swapped = omega arith in
      left_keeping 0 (omega arith) ∙ rw (sub-zero c.length) (ap (λ (m : ℕ). c.length + swap_left c.job m c.second) e))

  left_polled : Left (polled_left c.job c.first c.second c.swapped c.length) (polled c)
  left_polled =
      polled_cases (Left _) c
      (λ e. ap (λ (f : Bool). polled_left c.job f c.second c.swapped c.length) (sym e))
      (λ e d. λ i. polled_left c.job (sym e i) (sym d i) c.swapped c.length)
      (λ e d.
      left_draining ∙ ap (drain_left c.job c.swapped c.length) d
      ∙ (λ i. polled_left c.job (sym e i) (sym d i) c.swapped c.length))

  pub left_polling :
      (k : ℕ) → Left ((slot_count - k) + polled_left c.job c.first c.second c.swapped c.length) (polling c k)
  left_polling k = polling_cases (Left _) c k (λ u. refl) (λ u. left_polled ∙ omega arith)

  left_beginning : Left (begin_left c.job c.first c.second c.swapped c.length) (beginning c)
  left_beginning =
      beginning_cases (Left _) c
      (λ e. ap (λ (f : Bool). begin_left c.job f c.second c.swapped c.length) (sym e))
      (λ e.
      left_polling 0 ∙ rw (sub-zero slot_count) (ap (λ (f : Bool). slot_count + polled_left c.job f c.second c.swapped c.length) e)
      ∙ ap (λ (f : Bool). begin_left c.job f c.second c.swapped c.length) (sym e))

  pub left_last_polling : (k : ℕ) → Left ((slot_count - k) + 1) (last_polling k)
  left_last_polling k = last_polling_cases (Left _) k (λ u. refl) (λ u. omega arith)

  left_last_snapping : (k : ℕ) → Left ((slot_count - k) + slot_count + 1) (last_snapping k)
  left_last_snapping k = last_snapping_cases (Left _) k (λ u. refl) (λ u. left_last_polling 0 ∙ omega arith)

-- take's second publish, of some operations
again : (f b : Bool) (s n : ℕ) → 0 < n → 1 + begin_left TakeSecond f b s n ≡ after_left TakeFirst n f b
again f b s zero h = absurd (omega arith)
again true b s (suc n) h = omega arith
again false true s (suc n) h = omega arith
again false false s (suc n) h = omega arith

none_after : (n : ℕ) (f b : Bool) → n ≤ 0 → last_left ≡ after_left TakeFirst n f b
none_after zero f b h = refl
none_after (suc n) f b h = absurd (omega arith)

-- the job apart from the control part that holds it
left_published :
    (c : Control) (j : Job) → left (at (published j c.length) (with_job (next_job j) c)) ≡ after_left j c.length c.first c.second
left_published c Publish = refl
left_published c Try = refl
left_published c TakeFirst =
    below (λ (p : Phase). left (at p (with_job TakeSecond c)) ≡ after_left TakeFirst c.length c.first c.second) 0 c.length
    (λ h. again c.first c.second c.swapped c.length h) (λ h. none_after c.length c.first c.second h)
left_published c TakeSecond = refl

left_snapping : (c : Control) (k : ℕ) → left (snapping c k) ≡ snap_left k c.job c.length c.first c.second
left_snapping c k =
    snapping_cases (λ d. left d ≡ snap_left k c.job c.length c.first c.second) c k (λ h. refl)
    (λ h. left_published c c.job ∙ omega arith)

-- ---- what a step answers, exactly

-- stops: it is a poll that is held or declined
abbrev answered : Bool → Bool → Phase → Job → Answer
answered stops goes p j =
    elim stops
    [ true ↦ halt_answer p j | false ↦ elim goes [ true ↦ answer.Done | false ↦ elim (is_gone p) [ true ↦ answer.Gone | false ↦ answer.NotNow ] ] ]

-- by its phase and job; held: of the slot and the snapshot that it looks at
abbrev pub outcome : Phase → Job → Bool → Answer
outcome p j held = answered (polls p && held) (underway p) p j

-- a slot that is in use as t is: freed where they differ, k being first
abbrev pub used_as : ℕ → Slot → Slot → Slot
used_as k s t = elim (beq s.used t.used) [ true ↦ s | false ↦ freed k s ]

same_use : (k : ℕ) (s : Slot) (b : Bool) → s ≡ elim (beq b b) [ true ↦ s | false ↦ freed k s ]
same_use k s true = refl
same_use k s false = refl

module _ (c : Control) (s : Slot) (e : ℕ) where
  -- a step leaves its slot as it is, or frees it
  abbrev Told : Answer → Moved → Type 0
  Told a m = (m.answer ≡ a) × (m.slot ≡ used_as c.free s m.slot)

  left_alone : s ≡ used_as c.free s s
  left_alone = same_use c.free s s.used

  left_vacated : (let t = vacated c.free s in t ≡ used_as c.free s t)
  left_vacated =
      by (λ (t : Slot). t ≡ used_as c.free s t) s.used
      (λ u. ap (λ (b : Bool). elim (beq b false) [ true ↦ s | false ↦ freed c.free s ]) (sym u)) (λ u. left_alone)

  stopped_told : (j : Job) → Told (stop_answer j) (stopped j c s e)
  stopped_told Publish = (refl, left_alone)
  stopped_told Try = (refl, left_alone)
  stopped_told TakeFirst = (refl, left_alone)
  stopped_told TakeSecond = (refl, left_alone)

  poll_told : (held : Bool) (k : ℕ) → Told (outcome (Poll k) c.job held) (poll_move held k c s e)
  poll_told true k = stopped_told c.job
  poll_told false k = (refl, left_alone)

  last_poll_told : (held : Bool) (k : ℕ) → Told (outcome (LastPoll k) c.job held) (last_poll_move held k c s e)
  last_poll_told true k = (refl, left_alone)
  last_poll_told false k = (refl, left_alone)

  module _ (l r g : List ℕ) where
    step_told : (p : Phase) → Told (outcome p c.job (holds s e)) (step_at p c s e l r g).made
    unfolding step_by
    step_told Idle = (refl, left_alone)
    step_told Begin = (refl, left_alone)
    step_told (Poll k) = poll_told (holds s e) k
    step_told Copy = (refl, left_alone)
    step_told Drain = (refl, left_alone)
    step_told (Keep k) = (refl, left_alone)
    step_told Swap = (refl, left_alone)
    step_told (Snap k) = (refl, left_alone)
    step_told Null = (refl, left_alone)
    step_told Lock = (refl, left_alone)
    step_told (LastSnap k) = (refl, left_alone)
    step_told (LastPoll k) = last_poll_told (holds s e) k
    step_told Finish = (refl, left_vacated)
    step_told Gone = (refl, left_alone)

    pub step_answer : (p : Phase) → (step_at p c s e l r g).made.answer ≡ outcome p c.job (holds s e)
    step_answer p = (step_told p).0

    pub step_slot : (p : Phase) → (let t = (step_at p c s e l r g).made.slot in t ≡ used_as c.free s t)
    step_slot p = (step_told p).1

-- a step that is no poll is made
pub made_unless_polls : (p : Phase) (j : Job) (b : Bool) → underway p ≡ true → polls p ≡ false → outcome p j b ≡ answer.Done
made_unless_polls p j b u q = λ i. answered (q i && b) (u i) p j

-- ---- a poll

module _ (k : ℕ) (c : Control) (s : Slot) (e : ℕ) (l r g : List ℕ) where
  pub poll_stopped : holds s e ≡ true → step_at (Poll k) c s e l r g ≡ lent (stopped c.job c s e) l r g
  unfolding step_by
  poll_stopped h = ap (λ (b : Bool). lent (poll_move b k c s e) l r g) h

  pub poll_passed : holds s e ≡ false → step_at (Poll k) c s e l r g ≡ lent (moved (at (polling c (k + 1)) c) s e) l r g
  unfolding step_by
  poll_passed h = ap (λ (b : Bool). lent (poll_move b k c s e) l r g) h

  pub last_poll_stopped : holds s e ≡ true → step_at (LastPoll k) c s e l r g ≡ lent (refused answer.Held c s e) l r g
  unfolding step_by
  last_poll_stopped h = ap (λ (b : Bool). lent (last_poll_move b k c s e) l r g) h

  pub last_poll_passed : holds s e ≡ false → step_at (LastPoll k) c s e l r g ≡ lent (moved (at (last_polling (k + 1)) c) s e) l r g
  unfolding step_by
  last_poll_passed h = ap (λ (b : Bool). lent (last_poll_move b k c s e) l r g) h

-- ---- what becomes of a step

abbrev pub declined_move : Control → Slot → ℕ → Moved
declined_move c s e = record { answer = answer.Declined; value = 1; control = at Idle c; slot = s; snapshot = e }

-- made; or held, with nothing changed; or declined, which ends the call
pub data Stepped (c : Control) (s : Slot) (e : ℕ) (l r g : List ℕ) : Lent Moved → Type 0 where
  done : {m : Lent Moved} → m.made.answer ≡ answer.Done → Stepped c s e l r g m
  held : Stepped c s e l r g (lent (refused answer.Held c s e) l r g)
  declined : Stepped c s e l r g (lent (declined_move c s e) l r g)

module _ (c : Control) (s : Slot) (e : ℕ) (l r g : List ℕ) where
  stopped_stepped : (j : Job) → Stepped c s e l r g (lent (stopped j c s e) l r g)
  stopped_stepped Publish = held
  stopped_stepped Try = declined
  stopped_stepped TakeFirst = held
  stopped_stepped TakeSecond = held

  poll_stepped : (b : Bool) (k : ℕ) → Stepped c s e l r g (lent (poll_move b k c s e) l r g)
  poll_stepped true k = stopped_stepped c.job
  poll_stepped false k = done refl

  last_poll_stepped : (b : Bool) (k : ℕ) → Stepped c s e l r g (lent (last_poll_move b k c s e) l r g)
  last_poll_stepped true k = held
  last_poll_stepped false k = done refl

  -- while a call is under way no step is refused
  pub step_stepped : (p : Phase) → underway p ≡ true → Stepped c s e l r g (step_at p c s e l r g)
  unfolding step_by
  step_stepped Idle u = absurd (true≢false (sym u))
  step_stepped Begin u = done refl
  step_stepped (Poll k) u = poll_stepped (holds s e) k
  step_stepped Copy u = done refl
  step_stepped Drain u = done refl
  step_stepped (Keep k) u = done refl
  step_stepped Swap u = done refl
  step_stepped (Snap k) u = done refl
  step_stepped Null u = done refl
  step_stepped Lock u = done refl
  step_stepped (LastSnap k) u = done refl
  step_stepped (LastPoll k) u = last_poll_stepped (holds s e) k
  step_stepped Finish u = done refl
  step_stepped Gone u = absurd (true≢false (sym u))

-- ---- a step's value says whether the call ended

module _ (c : Control) (u : underway c.phase ≡ true) (s : Slot) (e : ℕ) where
  abbrev Tells : Moved → Type 0
  Tells m = m.value ≡ bit (not (underway m.control.phase))

  held_tells : Tells (refused answer.Held c s e)
  held_tells = sym (ap (λ (b : Bool). bit (not b)) u)

  stopped_tells : (j : Job) → Tells (stopped j c s e)
  stopped_tells Publish = held_tells
  stopped_tells Try = refl
  stopped_tells TakeFirst = held_tells
  stopped_tells TakeSecond = held_tells

  poll_tells : (held : Bool) (k : ℕ) → Tells (poll_move held k c s e)
  poll_tells true k = stopped_tells c.job
  poll_tells false k = refl

  last_poll_tells : (held : Bool) (k : ℕ) → Tells (last_poll_move held k c s e)
  last_poll_tells true k = held_tells
  last_poll_tells false k = refl

  module _ (l r g : List ℕ) where
    tells_at : (p : Phase) → underway p ≡ true → Tells (step_at p c s e l r g).made
    unfolding step_by
    tells_at Idle v = absurd (true≢false (sym v))
    tells_at Begin v = refl
    tells_at (Poll k) v = poll_tells (holds s e) k
    tells_at Copy v = refl
    tells_at Drain v = refl
    tells_at (Keep k) v = refl
    tells_at Swap v = refl
    tells_at (Snap k) v = refl
    tells_at Null v = refl
    tells_at Lock v = refl
    tells_at (LastSnap k) v = refl
    tells_at (LastPoll k) v = last_poll_tells (holds s e) k
    tells_at Finish v = refl
    tells_at Gone v = absurd (true≢false (sym v))

    pub step_value : (let m = (step_at c.phase c s e l r g).made in m.value ≡ bit (not (underway m.control.phase)))
    step_value = tells_at c.phase u

-- ---- a step that is made lowers the count by one

module _ (c : Control) (s : Slot) (e : ℕ) where
  lowers_poll :
      (held : Bool) (k : ℕ) → k < slot_count → number (poll_move held k c s e).answer ≡ 0 →
      left_at (Poll k) c ≡ suc (left (poll_move held k c s e).control)
  lowers_poll true k h z = absurd (stop c.job z)
    where
      stop : (j : Job) → number (stopped j c s e).answer ≡ 0 → ⊥
      stop Publish z = omega arith
      stop Try z = omega arith
      stop TakeFirst z = omega arith
      stop TakeSecond z = omega arith
  lowers_poll false k h z = rw (left_polling c (k + 1)) (omega arith)

  lowers_last_poll :
      (held : Bool) (k : ℕ) → k < slot_count → number (last_poll_move held k c s e).answer ≡ 0 →
      left_at (LastPoll k) c ≡ suc (left (last_poll_move held k c s e).control)
  lowers_last_poll true k h z = absurd (omega arith)
  lowers_last_poll false k h z = rw (left_last_polling c (k + 1)) (omega arith)

  module _ (w : Whole c) (l r g : List ℕ) where
    lowers_at :
        (p : Phase) → Fits c.length c.swapped c.null p → number (step_at p c s e l r g).made.answer ≡ 0 →
        left_at p c ≡ suc (left (step_at p c s e l r g).made.control)
    unfolding step_by
    lowers_at Idle f z = absurd (omega arith)
    lowers_at Begin f z = rw (left_beginning c) (omega arith)
    lowers_at (Poll k) f z = lowers_poll (holds s e) k f.0 z
    lowers_at Copy f z = rw (left_draining (copied c)) (omega arith)
    lowers_at Drain f z =
        let m : c.length - 1 - (c.swapped - 1) ≡ c.length - c.swapped = omega (arith, w.within) in
        rw (left_draining (with_log (c.length - 1) (c.swapped - 1) c), m) (omega (arith, w.within))
    lowers_at (Keep k) f z = rw (left_keeping c (k + 1) (omega arith)) (omega arith)
    lowers_at Swap f z = rw (left_snapping (swapped_over c) 0) (omega arith)
    lowers_at (Snap k) f z = rw (left_snapping c (k + 1)) (omega arith)
    lowers_at Null f z = omega arith
    lowers_at Lock f z = rw (left_last_snapping c 0) (omega arith)
    lowers_at (LastSnap k) f z = rw (left_last_snapping c (k + 1)) (omega arith)
    lowers_at (LastPoll k) f z = lowers_last_poll (holds s e) k f.0 z
    lowers_at Finish f z = refl
    lowers_at Gone f z = absurd (omega arith)

    pub step_lowers :
        number (step_at c.phase c s e l r g).made.answer ≡ 0 → left c ≡ suc (left (step_at c.phase c s e l r g).made.control)
    step_lowers z = lowers_at c.phase (fits w) z

-- ---- it is 0 exactly where no call is under way

left_none : (c : Control) (p : Phase) → underway p ≡ false → left_at p c ≡ 0
left_none c = idle_cases (λ p. left_at p c ≡ 0) refl refl

left_some : (c : Control) (p : Phase) → Fits c.length c.swapped c.null p → underway p ≡ true → 0 < left_at p c
left_some c Idle f u = absurd (true≢false (sym u))
left_some c Begin f u = omega arith
left_some c (Poll k) f u = omega arith
left_some c Copy f u = omega arith
left_some c Drain f u = omega arith
left_some c (Keep k) f u = omega arith
left_some c Swap f u = omega arith
left_some c (Snap k) f u = omega arith
left_some c Null f u = omega arith
left_some c Lock f u = omega arith
left_some c (LastSnap k) f u = omega arith
left_some c (LastPoll k) f u = omega arith
left_some c Finish f u = omega arith
left_some c Gone f u = absurd (true≢false (sym u))

pub idle_left : (c : Control) → underway c.phase ≡ false → left c ≡ 0
idle_left c u = left_none c c.phase u

pub underway_left : (c : Control) → Whole c → underway c.phase ≡ true → 0 < left c
underway_left c w u = left_some c c.phase (fits w) u

-- where a step is left, a call is under way
pub left_underway : {k : ℕ} (c : Control) → left c ≡ suc k → underway c.phase ≡ true
left_underway c e = by_cases (underway c.phase) (idle_left c)
  where
    by_cases : (b : Bool) → (b ≡ false → left c ≡ 0) → b ≡ true
    by_cases true f = refl
    by_cases false f = absurd (let z = f refl in omega arith)

pub left_idle : (c : Control) → Whole c → left c ≡ 0 → underway c.phase ≡ false
left_idle c w z = by_cases (underway c.phase) (underway_left c w)
  where
    by_cases : (b : Bool) → (b ≡ true → 0 < left c) → b ≡ false
    by_cases true f = absurd (let h = f refl in omega arith)
    by_cases false f = refl

-- ---- how many at most

-- take's first publish and its second, each with a full log, and take's end
abbrev pub most_left : ℕ
most_left = 10 + 6 * slot_count + 2 * log_room

after_bound : (j : Job) (n : ℕ) (f b : Bool) → after_left j n f b ≤ 6 + 4 * slot_count + n
after_bound Publish n f b = omega arith
after_bound Try n f b = omega arith
after_bound TakeFirst zero f b = omega arith
after_bound TakeFirst (suc n) true b = omega arith
after_bound TakeFirst (suc n) false true = omega arith
after_bound TakeFirst (suc n) false false = omega arith
after_bound TakeSecond n f b = omega arith

polled_bound : (j : Job) (f b : Bool) (s n : ℕ) → polled_left j f b s n ≤ 8 + 5 * slot_count + 2 * n
polled_bound j true b s n = omega (arith, after_bound j n false b)
polled_bound j false true s n = omega (arith, after_bound j (n - s) false false)
polled_bound j false false s n = omega (arith, after_bound j (n - s) false false)

begin_bound : (j : Job) (f b : Bool) (s n : ℕ) → begin_left j f b s n ≤ 8 + 6 * slot_count + 2 * n
begin_bound j true b s n = omega (arith, after_bound j n false b)
begin_bound j false b s n = omega (arith, polled_bound j false b s n)

left_at_bound : (c : Control) → c.length ≤ log_room → (p : Phase) → left_at p c ≤ most_left
left_at_bound c h Idle = omega arith
left_at_bound c h Begin = omega (arith, begin_bound c.job c.first c.second c.swapped c.length)
left_at_bound c h (Poll k) = omega (arith, polled_bound c.job c.first c.second c.swapped c.length)
left_at_bound c h Copy = omega (arith, after_bound c.job (c.length - c.swapped) false false)
left_at_bound c h Drain = omega (arith, after_bound c.job (c.length - c.swapped) false c.second)
left_at_bound c h (Keep k) = omega (arith, after_bound c.job c.length false c.second)
left_at_bound c h Swap = omega (arith, after_bound c.job c.length false c.second)
left_at_bound c h (Snap k) = omega (arith, after_bound c.job c.length c.first c.second)
left_at_bound c h Null = omega arith
left_at_bound c h Lock = omega arith
left_at_bound c h (LastSnap k) = omega arith
left_at_bound c h (LastPoll k) = omega arith
left_at_bound c h Finish = omega arith
left_at_bound c h Gone = omega arith

pub left_bound : (c : Control) → c.length ≤ log_room → left c ≤ most_left
left_bound c h = left_at_bound c h c.phase

-- a count of steps stays far below what a word holds, however many slots there are
abbrev pub many_steps : ℕ
many_steps = 2 ^ 32

most_small : most_left < many_steps
unfolding slot_count
most_small = omega arith

pub left_small : (c : Control) → Whole c → left c < many_steps
left_small c w = omega (arith, left_bound c w.room, most_small)
