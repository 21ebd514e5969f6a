-- Run: what it gives from a state in which some steps are made already. One law for each turn that the loop of a run can take: a step
-- that is made, a poll of the slot scan that passes, the scan's end, a poll that stops the run, and the end of the call.
use Rattle.std.proofs.Common.{◌≡◌, ℕ, zero, suc, ◌+◌, ◌-◌, ◌<◌, ◌≤◌, Bool, true, false, List, get_or, set, sym, refl, ap, ◌∙◌, subst, true≢false, arith, le-ltb, lt-ltb}
use lib.Seq.{set-get_or}
use Rattle.table.specs.Answers.{number}
use Rattle.table.specs.declared.Answer.{Answer}
use Rattle.table.specs.declared.Answer.TheVariants as answer
use Rattle.read.specs.declared.Slot.{Slot}
use Rattle.read.specs.declared.Phase.{Phase}
use Rattle.read.specs.declared.Phase.TheVariants.{Idle, Begin, Poll, Copy, Drain, Keep, Swap, Snap, Null, Lock, LastSnap, LastPoll, Finish, Gone}
use Rattle.read.specs.declared.Job.{Job}
use Rattle.read.specs.declared.Job.TheVariants.{Publish, Try, TakeFirst, TakeSecond}
use Rattle.read.specs.declared.Control.{Control}
use Rattle.read.specs.declared.State.{State}
use Rattle.read.specs.declared.Reply.{Reply}
use Rattle.read.specs.Machine.{slot_count, no_slot, underway, place}
use Rattle.read.specs.Calls.{Lent, lent, slot_at}
use Rattle.write.specs.declared.Moved.{Moved}
use Rattle.write.specs.Steps.{at, polled, polling, last_polling, holds, moved, refused, stopped, step_at}
use Rattle.write.specs.Scans.{polls, scanning_at, stop_answer, stop_control, halt_answer, halted}
use Rattle.write.specs.Runs.{snap_at, lift, step_on, after_step, ran_out, enough, run_while, run_on}
use Rattle.write.proofs.Count.{left, steps}
use Rattle.write.proofs.Cases.{going_on}
use Rattle.write.proofs.Control.{Placed, Whole, whole_step}
use Rattle.write.proofs.Left.{step_answer, made_unless_polls, poll_passed, poll_stopped, last_poll_passed, last_poll_stopped, step_lowers, idle_left, underway_left, left_idle, left_underway, many_steps, left_small}
use Rattle.read.proofs.Cases.{state_of, with_lock}

-- ---- steps, one by one

module _ (k n : ℕ) (st : State) (l r g : List ℕ) where
  steps_made :
      number (step_on st l r g).made.answer ≡ 0 →
      steps (suc k) n st l r g
      ≡ (let o = step_on st l r g in steps k (n + 1) o.made.state o.left o.right o.log)
  unfolding steps
  steps_made z = rw (z, after_step)

  steps_stopped :
      (a : ℕ) → number (step_on st l r g).made.answer ≡ suc a →
      steps (suc k) n st l r g
      ≡ (let o = step_on st l r g in
      lent (record { answer = o.made.answer; value = n; state = o.made.state }) o.left o.right o.log)
  unfolding steps
  steps_stopped a z = rw (z, after_step)

-- ---- a run is as many as are left

module _ (n : ℕ) (f g : State → List ℕ → List ℕ → List ℕ → Lent Reply) (o : Lent Reply) where
  -- what comes of a step, where the rest is the same
  after_same :
      (number o.made.answer ≡ 0 → f o.made.state o.left o.right o.log ≡ g o.made.state o.left o.right o.log) →
      after_step f n o ≡ after_step g n o
  after_same h =
      going_on (λ x. x ≡ after_step g n o) f n o (λ z. h z ∙ sym (rw (z, after_step))) (λ a z. sym (rw (z, after_step)))

abbrev Counted : ℕ → ℕ → Type 0
Counted k n =
    (st : State) (l r g : List ℕ) → Whole st.control → left st.control ≤ k →
    run_while step_on k n st l r g ≡ steps (left st.control) n st l r g

one_counted : (k n : ℕ) → Counted k (n + 1) → Counted (suc k) n
unfolding run_while steps step_on
one_counted k n rest st l r g w b = go (left st.control) refl
  where
    by_way : Bool → Lent Reply
    by_way u = elim u [ true ↦ after_step (run_while step_on k (n + 1)) n (step_on st l r g) | false ↦ ran_out n st l r g ]

    go : (m : ℕ) → left st.control ≡ m → by_way (underway st.control.phase) ≡ steps (left st.control) n st l r g
    go zero e = ap by_way (left_idle st.control w e) ∙ ap (λ (m : ℕ). steps m n st l r g) (sym e)
    go (suc m) e =
        let c = st.control in
        let i = place c.phase in
        let o = step_on st l r g in
        ap by_way (left_underway c e)
        ∙ after_same n (run_while step_on k (n + 1)) (steps m (n + 1)) o
        (λ z.
        let f = step_lowers c (slot_at st i) (snap_at st i) w l r g z in
        let q : left o.made.state.control ≡ m = omega arith in
        rest o.made.state o.left o.right o.log (whole_step c w (slot_at st i) (snap_at st i) l r g) (omega arith)
        ∙ ap (λ (x : ℕ). steps x (n + 1) o.made.state o.left o.right o.log) q)
        ∙ ap (λ (x : ℕ). steps x n st l r g) (sym e)

pub run_counted : (k n : ℕ) → Counted k n
unfolding run_while steps
run_counted zero n st l r g w b =
    let e : left st.control ≡ 0 = omega arith in ap (λ (m : ℕ). steps m n st l r g) (sym e)
run_counted (suc k) n st l r g w b = one_counted k n (run_counted k (n + 1)) st l r g w b

-- more than are left makes no difference: the bound of a run does not bind it
pub run_unbounded :
    (k n : ℕ) (st : State) (l r g : List ℕ) → Whole st.control → left st.control ≤ k →
    run_while step_on k n st l r g ≡ run_while step_on enough n st l r g
run_unbounded k n st l r g w b =
    run_counted k n st l r g w b ∙ sym (run_counted enough n st l r g w (omega (arith, left_small st.control w)))

-- where none is under way nothing is made
pub run_out : (k n : ℕ) (st : State) (l r g : List ℕ) → underway st.control.phase ≡ false → run_while step_on k n st l r g ≡ ran_out n st l r g
unfolding run_while
run_out zero n st l r g u = refl
run_out (suc k) n st l r g u =
    ap (λ (b : Bool). elim b [ true ↦ after_step (run_while step_on k (n + 1)) n (step_on st l r g) | false ↦ ran_out n st l r g ]) u

-- where one is, a step is made, and the rest follows
pub run_unrolled :
    (n : ℕ) (st : State) (l r g : List ℕ) → Whole st.control → underway st.control.phase ≡ true →
    run_while step_on enough n st l r g ≡ after_step (run_while step_on enough (n + 1)) n (step_on st l r g)
unfolding run_while step_on
run_unrolled n st l r g w u =
    let c = st.control in
    let i = place c.phase in
    let o = step_on st l r g in
    sym (run_unbounded (suc (left c)) n st l r g w (omega arith))
    ∙ ap (λ (b : Bool). elim b [ true ↦ after_step (run_while step_on (left c) (n + 1)) n o | false ↦ ran_out n st l r g ]) u
    ∙ after_same n (run_while step_on (left c) (n + 1)) (run_while step_on enough (n + 1)) o
    (λ z.
    let f = step_lowers c (slot_at st i) (snap_at st i) w l r g z in
    run_unbounded (left c) (n + 1) o.made.state o.left o.right o.log (whole_step c w (slot_at st i) (snap_at st i) l r g) (omega arith))

pub run_steps : (st : State) (l r g : List ℕ) → Whole st.control → run_on st l r g ≡ steps (left st.control) 0 st l r g
unfolding run_on
run_steps st l r g w = run_counted enough 0 st l r g w (omega (arith, left_small st.control w))

-- ---- a run from here

-- what a run gives from here, n steps being made
abbrev pub from : ℕ → Control → List Slot → List ℕ → List ℕ → List ℕ → List ℕ → Lent Reply
from n c ss es l r g = steps (left c) n (state_of c ss es) l r g

module _ (n : ℕ) (c : Control) (ss : List Slot) (es l r g : List ℕ) where
  pub from_idle :
      underway c.phase ≡ false →
      from n c ss es l r g ≡ lent (record { answer = answer.Done; value = n; state = state_of c ss es }) l r g
  unfolding steps
  from_idle u = ap (λ (k : ℕ). steps k n (state_of c ss es) l r g) (idle_left c u)

  module _ (w : Whole c) (i : ℕ) (at_i : i ≡ place c.phase) (m : Lent Moved)
      (e : m ≡ step_at c.phase c (get_or ss i no_slot) (get_or es i 0) l r g)
    where
      here : step_on (state_of c ss es) l r g ≡ lift i (state_of c ss es) m
      unfolding step_on
      here = rw (e, at_i)

      -- a step that is made
      pub from_made :
          number m.made.answer ≡ 0 →
          from n c ss es l r g
          ≡ from (n + 1) m.made.control (set ss i m.made.slot) (set es i m.made.snapshot) m.left m.right m.log
      from_made z =
          let s = get_or ss i no_slot in
          let d = get_or es i 0 in
          let y : number (step_at c.phase c s d l r g).made.answer ≡ 0 = ap (λ (v : Lent Moved). number v.made.answer) (sym e) ∙ z in
          let x : left c ≡ suc (left m.made.control) =
          step_lowers c s d w l r g y ∙ ap (λ (v : Lent Moved). suc (left v.made.control)) (sym e) in
          ap (λ (k : ℕ). steps k n (state_of c ss es) l r g) x
          ∙ steps_made (left m.made.control) n (state_of c ss es) l r g (rw here z)
          ∙ ap
          (λ (o : Lent Reply). steps (left m.made.control) (n + 1) o.made.state o.left o.right o.log) here

      -- one that is held or declined
      pub from_stopped :
          (a : ℕ) → number m.made.answer ≡ suc a → underway c.phase ≡ true →
          from n c ss es l r g
          ≡ lent
          (record {
            answer = m.made.answer;
            value = n;
            state = state_of m.made.control (set ss i m.made.slot) (set es i m.made.snapshot);
          })
          m.left m.right m.log
      from_stopped a z u =
          let h = underway_left c w u in
          let x : left c ≡ suc (left c - 1) = omega arith in
          ap (λ (k : ℕ). steps k n (state_of c ss es) l r g) x
          ∙ steps_stopped (left c - 1) n (state_of c ss es) l r g a (rw here z)
          ∙ ap
          (λ (o : Lent Reply).
          lent (record { answer = o.made.answer; value = n; state = o.made.state }) o.left o.right o.log) here

-- ---- a run that is under way

-- a run that is to give o, with k steps in all if none is held, has made n and is here: from here it gives o
pub record Goes (o : Lent Reply) (k n : ℕ) (c : Control) (ss : List Slot) (es l r g : List ℕ) : Type 0 where
  pub whole : Whole c
  pub most : k < many_steps
  pub count : n + left c ≡ k
  pub same : from n c ss es l r g ≡ o

-- where it starts
pub goes_start :
    (st : State) (l r g : List ℕ) → Whole st.control →
    Goes (run_on st l r g) (left st.control) 0 st.control st.slots st.snapshots l r g
goes_start st l r g w =
    record { whole = w; most = left_small st.control w; count = omega arith; same = sym (run_steps st l r g w) }

module _ {o : Lent Reply} {k n : ℕ} {c : Control} {ss : List Slot} {es l r g : List ℕ} (h : Goes o k n c ss es l r g) where
  -- the count does not run over, and while a call is under way there is one more to make
  pub goes_few : n < many_steps
  goes_few = omega (arith, h.count, h.most)

  -- no call is under way
  pub goes_ended :
      {a : Answer} → a ≡ answer.Done → underway c.phase ≡ false → lent (record { answer = a; value = n; state = state_of c ss es }) l r g ≡ o
  goes_ended q u =
      ap (λ (b : Answer). lent (record { answer = b; value = n; state = state_of c ss es }) l r g) q
      ∙ sym (from_idle n c ss es l r g u) ∙ h.same

  module _ (i : ℕ) (at_i : i ≡ place c.phase) (m : Lent Moved) (e : m ≡ step_at c.phase c (get_or ss i no_slot) (get_or es i 0) l r g) where
    goes_next :
        number m.made.answer ≡ 0 →
        Goes o k (n + 1) m.made.control (set ss i m.made.slot) (set es i m.made.snapshot) m.left m.right m.log
    goes_next z =
        let s = get_or ss i no_slot in
        let d = get_or es i 0 in
        let y : number (step_at c.phase c s d l r g).made.answer ≡ 0 = ap (λ (v : Lent Moved). number v.made.answer) (sym e) ∙ z in
        let x : left c ≡ suc (left m.made.control) =
        step_lowers c s d h.whole l r g y ∙ ap (λ (v : Lent Moved). suc (left v.made.control)) (sym e) in
        record {
          whole = subst (λ (v : Lent Moved). Whole v.made.control) (sym e) (whole_step c h.whole s d l r g);
          most = h.most;
          count = omega (arith, h.count, x);
          same = sym (from_made n c ss es l r g h.whole i at_i m e z) ∙ h.same;
        }

    -- a step that is no poll
    pub goes_made :
        underway c.phase ≡ true → polls c.phase ≡ false →
        Goes o k (n + 1) m.made.control (set ss i m.made.slot) (set es i m.made.snapshot) m.left m.right m.log
    goes_made u q =
        let s = get_or ss i no_slot in
        let d = get_or es i 0 in
        goes_next
        (ap (λ (v : Lent Moved). number v.made.answer) e
        ∙ ap number (step_answer c s d l r g c.phase ∙ made_unless_polls c.phase c.job (holds s d) u q))

    -- one that is held or declined
    pub goes_stopped :
        (a : ℕ) → number m.made.answer ≡ suc a → underway c.phase ≡ true →
        lent
        (record {
          answer = m.made.answer;
          value = n;
          state = state_of m.made.control (set ss i m.made.slot) (set es i m.made.snapshot);
        })
        m.left m.right m.log
        ≡ o
    goes_stopped a z u = sym (from_stopped n c ss es l r g h.whole i at_i m e a z u) ∙ h.same

-- ---- the slot scan

-- the control part of a scan that began with c, before the poll of slot i, or behind the last
abbrev pub scanning : Control → ℕ → Control
scanning c i = at (scanning_at c.phase c i) c

pub scanning_poll : (c : Control) (i : ℕ) {j : ℕ} → c.phase ≡ Poll j → scanning c i ≡ at (polling c i) c
scanning_poll c i e = ap (λ (p : Phase). at (scanning_at p c i) c) e

-- the run stands there
abbrev pub Scans : Lent Reply → ℕ → ℕ → Control → ℕ → List Slot → List ℕ → List ℕ → List ℕ → List ℕ → Type 0
Scans o k n c i ss es l r g = Goes o k n (scanning c i) ss es l r g

-- the phase that a scan goes on with
abbrev pub scanned : Phase → Control → Phase
scanned Idle c = Idle
scanned Begin c = Begin
scanned (Poll k) c = polled c
scanned Copy c = Copy
scanned Drain c = Drain
scanned (Keep k) c = Keep k
scanned Swap c = Swap
scanned (Snap k) c = Snap k
scanned Null c = Null
scanned Lock c = Lock
scanned (LastSnap k) c = LastSnap k
scanned (LastPoll k) c = Finish
scanned Finish c = Finish
scanned Gone c = Gone

-- ---- its two kinds apart

polling_here : (c : Control) (i : ℕ) → i < slot_count → polling c i ≡ Poll i
polling_here c i h = rw (lt-ltb i slot_count h, polling)

polling_end : (c : Control) (i : ℕ) → slot_count ≤ i → polling c i ≡ polled c
polling_end c i h = rw (le-ltb i slot_count h, polling)

last_polling_here : (i : ℕ) → i < slot_count → last_polling i ≡ LastPoll i
last_polling_here i h = rw (lt-ltb i slot_count h, last_polling)

last_polling_end : (i : ℕ) → slot_count ≤ i → last_polling i ≡ Finish
last_polling_end i h = rw (le-ltb i slot_count h, last_polling)

polls_cases :
    (P : Phase → Type 0) → ((k : ℕ) → P (Poll k)) → ((k : ℕ) → P (LastPoll k)) → (p : Phase) → polls p ≡ true → P p
polls_cases P f g Idle q = absurd (true≢false (sym q))
polls_cases P f g Begin q = absurd (true≢false (sym q))
polls_cases P f g (Poll k) q = f k
polls_cases P f g Copy q = absurd (true≢false (sym q))
polls_cases P f g Drain q = absurd (true≢false (sym q))
polls_cases P f g (Keep k) q = absurd (true≢false (sym q))
polls_cases P f g Swap q = absurd (true≢false (sym q))
polls_cases P f g (Snap k) q = absurd (true≢false (sym q))
polls_cases P f g Null q = absurd (true≢false (sym q))
polls_cases P f g Lock q = absurd (true≢false (sym q))
polls_cases P f g (LastSnap k) q = absurd (true≢false (sym q))
polls_cases P f g (LastPoll k) q = g k
polls_cases P f g Finish q = absurd (true≢false (sym q))
polls_cases P f g Gone q = absurd (true≢false (sym q))

scanning_start : (c : Control) (p : Phase) → polls p ≡ true → Placed c.length c.swapped p → scanning_at p c (place p) ≡ p
scanning_start c =
    polls_cases (λ p. Placed c.length c.swapped p → scanning_at p c (place p) ≡ p) (λ k h. polling_here c k h)
    (λ k h. last_polling_here k h)

-- a whole control part has the lock that its phase asks
at_own : (c : Control) → Whole c → at c.phase c ≡ c
at_own c w = λ i. with_lock (sym w.locked i) c

-- what a stop gives, slot and snapshot being put back
stop_reply :
    (n i : ℕ) (ss : List Slot) (es : List ℕ) (j : Job) (c : Control) (s : Slot) (e : ℕ) →
    (let m = stopped j c s e in
    ◌≡◌ {A = Reply} (record { answer = m.answer; value = n; state = state_of m.control (set ss i m.slot) (set es i m.snapshot) })
    (record { answer = stop_answer j; value = n; state = state_of (stop_control j c) (set ss i s) (set es i e) }))
stop_reply n i ss es Publish c s e = refl
stop_reply n i ss es Try c s e = refl
stop_reply n i ss es TakeFirst c s e = refl
stop_reply n i ss es TakeSecond c s e = refl

stop_number : (j : Job) (c : Control) (s : Slot) (e : ℕ) → (a : ℕ) × (number (stopped j c s e).answer ≡ suc a)
stop_number Publish c s e = (12, refl)
stop_number Try c s e = (13, refl)
stop_number TakeFirst c s e = (12, refl)
stop_number TakeSecond c s e = (12, refl)

module _ (o : Lent Reply) (k n : ℕ) (c : Control) (ss : List Slot) (es l r g : List ℕ) (i : ℕ) (b : i < slot_count) where
  abbrev s : Slot
  s = get_or ss i no_slot

  abbrev e : ℕ
  e = get_or es i 0

  abbrev On : Phase → Type 0
  On p = Goes o k n (at p c) ss es l r g

  abbrev Passed : Phase → Type 0
  Passed p = On (scanning_at p c i) → holds s e ≡ false → Goes o k (n + 1) (at (scanning_at p c (i + 1)) c) ss es l r g

  passed_at : (p : Phase) → polls p ≡ true → Passed p
  passed_at =
      polls_cases Passed
      (λ j h f.
      let x =
      goes_next (subst On (polling_here c i b) h) i refl (lent (moved (at (polling c (i + 1)) c) s e) l r g)
      (sym (poll_passed i (at (Poll i) c) s e l r g f)) refl in
      rw (set-get_or ss i no_slot, set-get_or es i 0) at x)
      (λ j h f.
      let x =
      goes_next (subst On (last_polling_here i b) h) i refl (lent (moved (at (last_polling (i + 1)) c) s e) l r g)
      (sym (last_poll_passed i (at (LastPoll i) c) s e l r g f)) refl in
      rw (set-get_or ss i no_slot, set-get_or es i 0) at x)

  abbrev Stops : Phase → Type 0
  Stops p =
      On (scanning_at p c i) → holds s e ≡ true →
      lent (record { answer = halt_answer p c.job; value = n; state = state_of (halted p (at (scanning_at p c i) c)) ss es }) l r g ≡ o

  stopped_at : (p : Phase) → polls p ≡ true → Stops p
  stopped_at =
      polls_cases Stops
      (λ j h f.
      let p : Control = at (Poll i) c in
      let z = stop_number c.job p s e in
      let x =
      goes_stopped (subst On (polling_here c i b) h) i refl (lent (stopped c.job p s e) l r g)
      (sym (poll_stopped i p s e l r g f)) z.0 z.1 refl in
      let y : lent (record { answer = stop_answer c.job; value = n; state = state_of (stop_control c.job p) ss es }) l r g ≡ o =
      rw (set-get_or ss i no_slot, set-get_or es i 0) at (ap (λ (v : Reply). lent v l r g) (sym (stop_reply n i ss es c.job p s e)) ∙ x) in
      rw (polling_here c i b) y)
      (λ j h f.
      let p : Control = at (LastPoll i) c in
      let x =
      goes_stopped (subst On (last_polling_here i b) h) i refl (lent (refused answer.Held p s e) l r g)
      (sym (last_poll_stopped i p s e l r g f)) 12 refl refl in
      rw (last_polling_here i b) (rw (set-get_or ss i no_slot, set-get_or es i 0) at x))

module _ {o : Lent Reply} {k n : ℕ} (c : Control) {ss : List Slot} {es l r g : List ℕ} (i : ℕ) where
  -- a control part that polls is the scan's first
  pub scan_start : Goes o k n c ss es l r g → polls c.phase ≡ true → i ≡ place c.phase → Scans o k n c i ss es l r g
  scan_start h q at_i =
      let x : scanning c i ≡ c =
      ap (λ (j : ℕ). scanning c j) at_i ∙ ap (λ (p : Phase). at p c) (scanning_start c c.phase q h.whole.placed)
      ∙ at_own c h.whole in
      subst (λ (d : Control). Goes o k n d ss es l r g) (sym x) h

  -- a poll that passes
  pub scan_passed :
      Scans o k n c i ss es l r g → polls c.phase ≡ true → i < slot_count → holds (get_or ss i no_slot) (get_or es i 0) ≡ false →
      Scans o k (n + 1) c (i + 1) ss es l r g
  scan_passed h q b f = passed_at o k n c ss es l r g i b c.phase q h f

  -- a poll that is held or declined
  pub scan_stopped :
      {a : Answer} {d : Control} → Scans o k n c i ss es l r g → polls c.phase ≡ true → i < slot_count →
      holds (get_or ss i no_slot) (get_or es i 0) ≡ true → a ≡ halt_answer c.phase c.job → d ≡ halted c.phase (scanning c i) →
      lent (record { answer = a; value = n; state = state_of d ss es }) l r g ≡ o
  scan_stopped h q b f x y =
      (λ j. lent (record { answer = x j; value = n; state = state_of (y j) ss es }) l r g)
      ∙ stopped_at o k n c ss es l r g i b c.phase q h f
