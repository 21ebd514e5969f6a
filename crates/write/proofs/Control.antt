-- The control part: what makes it whole, as facts, and that every call keeps it whole.
use Rattle.std.proofs.Common.{◌≡◌, ℕ, ◌+◌, ◌-◌, ◌<◌, ◌≤◌, Bool, true, false, ◌&&◌, ◌||◌, ltb, leb, ◌↔◌, List, length, sym, refl, ap, ◌∙◌, subst, arith, ltb-true, lt-ltb, le-leb, leb-true}
use Rattle.table.specs.Order.{Op}
use Rattle.table.proofs.Booleans.{both}
use Rattle.table.proofs.Split.{by, below}
use Rattle.read.proofs.Same.{same_equal, equal_same}
use Rattle.read.specs.declared.Slot.{Slot}
use Rattle.read.specs.declared.Phase.{Phase}
use Rattle.read.specs.declared.Phase.TheVariants.{Idle, Begin, Poll, Copy, Drain, Keep, Swap, Snap, Null, Lock, LastSnap, LastPoll, Finish, Gone}
use Rattle.read.specs.declared.Job.{Job}
use Rattle.read.specs.declared.Job.TheVariants.{Publish, Try, TakeFirst, TakeSecond}
use Rattle.read.specs.declared.Control.{Control}
use Rattle.read.specs.Machine.{with_free, slot_count, log_room, locks, nulls, in_range, same, whole_control}
use Rattle.write.specs.declared.Moved.{Moved}
use Rattle.write.specs.declared.Opening.{Opening}
use Rattle.write.specs.declared.Opening.TheVariants as opening
use Rattle.write.specs.Steps.{at, with_log, copied, swapped_over, nulled, finished, next_job, keeping, draining, polled, polling, beginning, published, last_polling, last_snapping, snapping, ended, holds, stopped, poll_move, last_poll_move, step_at, step_by}
use Rattle.write.specs.Begins.{append_on, opened, open_on, taking}
use Rattle.write.proofs.Cases.{with_job, append_cases, open_cases, keeping_cases, draining_cases, polled_cases, polling_cases, beginning_cases, last_polling_cases, last_snapping_cases, published_cases, snapping_cases}

-- there is a slot: all that is asked of their number
pub some_slot : 0 < slot_count
unfolding slot_count
some_slot = omega arith

-- ---- whole, as facts

-- a phase's position is in range, n operations being logged and s of them before the swap index
abbrev pub Placed : ℕ → ℕ → Phase → Type 0
Placed n s Idle = Unit {0}
Placed n s Begin = Unit {0}
Placed n s (Poll k) = k < slot_count
Placed n s Copy = Unit {0}
Placed n s Drain = 0 < s
Placed n s (Keep k) = k < n
Placed n s Swap = Unit {0}
Placed n s (Snap k) = k < slot_count
Placed n s Null = Unit {0}
Placed n s Lock = Unit {0}
Placed n s (LastSnap k) = k < slot_count
Placed n s (LastPoll k) = k < slot_count
Placed n s Finish = Unit {0}
Placed n s Gone = Unit {0}

pub record Whole (c : Control) : Type 0 where
  pub room : c.length ≤ log_room
  pub within : c.swapped ≤ c.length
  pub placed : Placed c.length c.swapped c.phase
  pub locked : c.lock ≡ locks c.phase
  pub pointed : c.null ≡ nulls c.phase

anywhere : (true ≡ true) ↔ Unit {0}
anywhere = (λ e. tt, λ h. refl)

before : (k n : ℕ) → (ltb k n ≡ true) ↔ (k < n)
before k n = (ltb-true k n, lt-ltb k n)

range_placed : (c : Control) (p : Phase) → (in_range c p ≡ true) ↔ Placed c.length c.swapped p
range_placed c Idle = anywhere
range_placed c Begin = anywhere
range_placed c (Poll k) = before k slot_count
range_placed c Copy = anywhere
range_placed c Drain = before 0 c.swapped
range_placed c (Keep k) = before k c.length
range_placed c Swap = anywhere
range_placed c (Snap k) = before k slot_count
range_placed c Null = anywhere
range_placed c Lock = anywhere
range_placed c (LastSnap k) = before k slot_count
range_placed c (LastPoll k) = before k slot_count
range_placed c Finish = anywhere
range_placed c Gone = anywhere

pub control_whole : (c : Control) → whole_control c ≡ true → Whole c
control_whole c e =
    let a = both (leb c.length log_room) _ e in
    let b = both (leb c.swapped c.length) _ a.1 in
    let d = both (in_range c c.phase) _ b.1 in
    let f = both (same c.lock (locks c.phase)) _ d.1 in
    record {
      room = leb-true _ _ a.0;
      within = leb-true _ _ b.0;
      placed = (range_placed c c.phase).0 d.0;
      locked = same_equal _ _ f.0;
      pointed = same_equal _ _ f.1;
    }

all : {a b d f g : Bool} → a ≡ true → b ≡ true → d ≡ true → f ≡ true → g ≡ true → (a && (b && (d && (f && g)))) ≡ true
all p q r s t = λ i. p i && (q i && (r i && (s i && t i)))

pub whole_control_lem : (c : Control) → Whole c → whole_control c ≡ true
whole_control_lem c w =
    all (le-leb _ _ w.room) (le-leb _ _ w.within) ((range_placed c c.phase).1 w.placed)
    (equal_same _ _ w.locked) (equal_same _ _ w.pointed)

-- ---- where the writer goes on

-- a phase's position is in range, and the pointer is null or not as it asks
abbrev pub Fits : ℕ → ℕ → Bool → Phase → Type 0
Fits n s null p = Placed n s p × (null ≡ nulls p)

pub fits : {c : Control} → Whole c → Fits c.length c.swapped c.null c.phase
fits w = (w.placed, w.pointed)

pub fits_keeping : (n s k : ℕ) → Fits n s false (keeping n k)
fits_keeping n s k = keeping_cases (Fits n s false) n k (λ h. (h, refl)) (λ h. (tt, refl))

pub fits_draining : (s n : ℕ) → Fits n s false (draining s n)
fits_draining s n = draining_cases (Fits n s false) s n (λ h. (h, refl)) (λ h. fits_keeping n s 0)

pub fits_polled : (c : Control) → Fits c.length c.swapped false (polled c)
fits_polled c =
    polled_cases (Fits c.length c.swapped false) c (λ e. (tt, refl)) (λ e f. (tt, refl))
    (λ e f. fits_draining c.swapped c.length)

pub fits_polling : (c : Control) (k : ℕ) → Fits c.length c.swapped false (polling c k)
fits_polling c k = polling_cases (Fits c.length c.swapped false) c k (λ h. (h, refl)) (λ h. fits_polled c)

pub fits_beginning : (c : Control) → Fits c.length c.swapped false (beginning c)
fits_beginning c = beginning_cases (Fits c.length c.swapped false) c (λ e. (tt, refl)) (λ e. fits_polling c 0)

pub fits_published : (j : Job) (n s : ℕ) → Fits n s false (published j n)
fits_published j n s = published_cases (Fits n s false) j n (tt, refl) (tt, refl) (tt, refl)

pub fits_last_polling : (n s k : ℕ) → Fits n s true (last_polling k)
fits_last_polling n s k = last_polling_cases (Fits n s true) k (λ h. (h, refl)) (λ h. (tt, refl))

pub fits_last_snapping : (n s k : ℕ) → Fits n s true (last_snapping k)
fits_last_snapping n s k = last_snapping_cases (Fits n s true) k (λ h. (h, refl)) (λ h. fits_last_polling n s 0)

pub fits_taking : (c : Control) → Fits c.length c.swapped false (taking c)
fits_taking c = by (Fits c.length c.swapped false) (c.first || ltb 0 c.length) (λ e. (tt, refl)) (λ e. (tt, refl))

-- another phase, whose lock `at` sets
pub whole_at :
    (p : Phase) (c : Control) {null : Bool} → c.length ≤ log_room → c.swapped ≤ c.length → c.null ≡ null →
    Fits c.length c.swapped null p → Whole (at p c)
whole_at p c room within e f = record { room = room; within = within; placed = f.0; locked = refl; pointed = e ∙ f.1 }

-- which slot is handed out next plays no part
pub whole_free : (k : ℕ) {c : Control} → Whole c → Whole (with_free k c)
whole_free k w = record { room = w.room; within = w.within; placed = w.placed; locked = w.locked; pointed = w.pointed }

-- ---- a step

whole_ended : (c : Control) → c.length ≤ log_room → c.swapped ≤ c.length → c.null ≡ false → Whole (ended c)
whole_ended c room within e = whole_at (published c.job c.length) (with_job (next_job c.job) c) room within e
    (fits_published c.job c.length c.swapped)

whole_snapping : (c : Control) (k : ℕ) → c.length ≤ log_room → c.swapped ≤ c.length → c.null ≡ false → Whole (snapping c k)
whole_snapping c k room within e =
    snapping_cases Whole c k (λ h. whole_at (Snap k) c room within e (h, refl)) (λ h. whole_ended c room within e)

module _ (c : Control) (w : Whole c) (s : Slot) (e : ℕ) where
  whole_stopped : (j : Job) → c.null ≡ false → Whole (stopped j c s e).control
  whole_stopped Publish z = w
  whole_stopped Try z = whole_at Idle c w.room w.within z (tt, refl)
  whole_stopped TakeFirst z = w
  whole_stopped TakeSecond z = w

  whole_poll : (held : Bool) (k : ℕ) → c.null ≡ false → Whole (poll_move held k c s e).control
  whole_poll true k z = whole_stopped c.job z
  whole_poll false k z = whole_at (polling c (k + 1)) c w.room w.within z (fits_polling c (k + 1))

  whole_last_poll : (held : Bool) (k : ℕ) → c.null ≡ true → Whole (last_poll_move held k c s e).control
  whole_last_poll true k z = w
  whole_last_poll false k z = whole_at (last_polling (k + 1)) c w.room w.within z (fits_last_polling c.length c.swapped (k + 1))

  module _ (l r g : List ℕ) where
    whole_step_at : (p : Phase) → Fits c.length c.swapped c.null p → Whole (step_at p c s e l r g).made.control
    unfolding step_by
    whole_step_at Idle f = w
    whole_step_at Begin f = whole_at (beginning c) c w.room w.within f.1 (fits_beginning c)
    whole_step_at (Poll k) f = whole_poll (holds s e) k f.1
    whole_step_at Copy f =
        whole_at (draining c.swapped c.length) (copied c) w.room w.within f.1 (fits_draining c.swapped c.length)
    whole_step_at Drain f =
        whole_at (draining (c.swapped - 1) (c.length - 1)) (with_log (c.length - 1) (c.swapped - 1) c) (omega (arith, w.room)) (omega (arith, w.within)) f.1
        (fits_draining (c.swapped - 1) (c.length - 1))
    whole_step_at (Keep k) f =
        whole_at (keeping c.length (k + 1)) c w.room w.within f.1 (fits_keeping c.length c.swapped (k + 1))
    whole_step_at Swap f = whole_snapping (swapped_over c) 0 w.room (omega arith) f.1
    whole_step_at (Snap k) f = whole_snapping c (k + 1) w.room w.within f.1
    whole_step_at Null f = whole_at Lock (nulled c) w.room w.within refl (tt, refl)
    whole_step_at Lock f =
        whole_at (last_snapping 0) c w.room w.within f.1 (fits_last_snapping c.length c.swapped 0)
    whole_step_at (LastSnap k) f =
        whole_at (last_snapping (k + 1)) c w.room w.within f.1 (fits_last_snapping c.length c.swapped (k + 1))
    whole_step_at (LastPoll k) f = whole_last_poll (holds s e) k f.1
    whole_step_at Finish f = whole_at Gone (finished s c) (omega arith) (omega arith) f.1 (tt, refl)
    whole_step_at Gone f = w

    -- whatever it answers
    pub whole_step : Whole (step_at c.phase c s e l r g).made.control
    whole_step = whole_step_at c.phase (fits w)

-- ---- append, and the beginnings

module _ (c : Control) (w : Whole c) (s : Slot) (e : ℕ) where
  module _ (os : List Op) (l r g : List ℕ) where
    pub whole_append : Whole (append_on os c s e l r g).made.control
    whole_append =
        append_cases (λ m. Whole m.made.control) os c s e l r g (λ f h. w)
        (λ f u h. record {
          room = u;
          within = omega (arith, w.within);
          placed = subst (Placed (c.length + length os) c.swapped) (sym h.idle) tt;
          locked = w.locked;
          pointed = w.pointed;
        })
        (λ a h. w)

  -- from Idle the pointer is not null
  whole_opened : (o : Opening) → c.null ≡ false → Whole (opened o c s e).control
  unfolding opened
  whole_opened opening.Publish z = whole_at (beginning c) (with_job Publish c) w.room w.within z (fits_beginning c)
  whole_opened opening.Try z = whole_at (polling c 0) (with_job Try c) w.room w.within z (fits_polling c 0)
  whole_opened opening.Flush z =
      below (λ (m : Moved). Whole m.control) c.swapped c.length
      (λ h. whole_at (beginning c) (with_job Publish c) w.room w.within z (fits_beginning c)) (λ h. w)
  whole_opened opening.Take z = whole_at (taking c) (with_job TakeFirst c) w.room w.within z (fits_taking c)

  pub whole_open : (o : Opening) → Whole (open_on o c s e).control
  whole_open o =
      open_cases (λ m. Whole m.control) o c s e (λ q. whole_opened o (w.pointed ∙ ap nulls q)) (λ a h. w)
