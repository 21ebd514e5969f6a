-- Step and run, step by step: what is known of a call that is under way, before each step and behind the last.
use Prim.Native.Nat.{ℕ, suc, ◌+◌, ◌-◌, ◌≤◌, ◌<◌}
use mathlib.Core.Path.{◌≡◌, refl, sym, ap, subst, ◌∙◌}
use mathlib.Core.Bool.{Bool, true, false, not, beq, true≢false}
use mathlib.Core.List.{List}
use native.Mathlib.Omega.{arith}
use borrow.Author.Tests.{eqb-true, eqb-false, not-true, not-false}
use lib.Dec.{eqb}
use lib.ListN.{get_or, set}
use lib.Seq.{set-get_or}
use Rattle.table.specs.Answers.{number}
use Rattle.table.specs.declared.Answer.{Answer}
use Rattle.table.specs.declared.Answer.TheVariants as answer
use Rattle.table.proofs.Split.{split}
use Rattle.table.specs.declared.Search.TheVariants.{Halve}
use Rattle.read.specs.declared.Control.{Control}
use Rattle.read.specs.declared.Slot.{Slot}
use Rattle.read.specs.declared.Phase.{Phase}
use Rattle.read.specs.declared.Phase.TheVariants.{Idle, Begin, Poll, Copy, Drain, Keep, Swap, Snap, Null, Lock, LastSnap, LastPoll, Finish, Gone}
use Rattle.read.specs.declared.Job.{Job}
use Rattle.read.specs.declared.Job.TheVariants.{Publish, Try, TakeFirst, TakeSecond}
use Rattle.read.specs.declared.State.{State}
use Rattle.read.specs.declared.Reply.{Reply}
use Rattle.read.specs.Machine.{Verdict, slot_total, no_slot, underway, is_gone, place}
use Rattle.std.specs.Prelude.{Ok, Err}
use Rattle.read.specs.Admission.{entry, not_now}
use Rattle.read.specs.Handles.{freed, bit, smallest, given}
use Rattle.read.specs.Calls.{Lent, lent, refusal}
use Rattle.write.specs.declared.Moved.{Moved}
use Rattle.table.specs.Order.{Op}
use Rattle.play.specs.declared.schedule.Act.{Act}
use Rattle.play.specs.declared.schedule.Act.TheVariants as act
use Rattle.write.specs.Steps.{holds, refused, moved, stopped, last_poll_move, step_at, at, polling, step_by}
use Rattle.write.specs.Begins.{step_signs}
use Rattle.write.specs.Runs.{lift, step_on, after_step, run_on}
use Rattle.write.specs.Machine.{going, call_on}
use Rattle.write.specs.World.{answer_of, value_of, world_of}
use Rattle.write.proofs.Left.{used_as, step_slot, step_value, step_lowers, many_steps, left_small}
use Rattle.write.proofs.NeverBroken.{Sound, sound_step}
use Rattle.write.proofs.Rising.{step_rising}
use Rattle.play.specs.declared.turns.Far.{Far}
use Rattle.play.specs.declared.turns.Far.TheVariants as far
use Rattle.play.specs.Player.{machine}
use Rattle.play.specs.Turns.{meant, members_of, is_going, is_running, halt, halt_of, facing, went_on}
use Rattle.play.proofs.Run.{run_from, run_starts, run_over, run_unrolls}
use Rattle.play.proofs.Turned.{read_slot}
use Rattle.read.proofs.Cases.{state_of}
use Rattle.read.proofs.Phases.{idle_cases, underway_stays}
use Rattle.write.proofs.Count.{left}
use Rattle.write.proofs.Refusals.{lifted_same}

-- no records belong to it
pub going_alone : (k : Act) → is_going k ≡ true → members_of k ≡ 0
going_alone act.Create p = refl
going_alone (act.On i h) p = refl
going_alone (act.Append kind key amount) p = refl
going_alone (act.Batch n) p = absurd (true≢false (sym p))
going_alone (act.Open o) p = refl
going_alone act.Step p = refl
going_alone act.Run p = refl

-- ---- what halts a step

module _ (c : Control) (s : Slot) (e : ℕ) (l r g : List ℕ) where
  abbrev Halts : Answer → Type 0
  Halts a = number a ≡ 0 → ⊥

  poll_halts :
      (k : ℕ) (held : Bool) (j : Job) → Halts (halt (Poll k) j held) →
      elim held [ true ↦ stopped j c s e | false ↦ moved (at (polling c (k + 1)) c) s e ] ≡ refused (halt (Poll k) j held) c s e
  poll_halts k true Publish h = refl
  poll_halts k true Try h = absurd (h refl)
  poll_halts k true TakeFirst h = refl
  poll_halts k true TakeSecond h = refl
  poll_halts k false j h = absurd (h refl)

  last_poll_halts :
      (k : ℕ) (held : Bool) (j : Job) → Halts (halt (LastPoll k) j held) → last_poll_move held k c s e ≡ refused (halt (LastPoll k) j held) c s e
  last_poll_halts k true j h = refl
  last_poll_halts k false j h = absurd (h refl)

  -- a step that is halted changes nothing
  halted :
      (p : Phase) → Halts (halt p c.job (holds s e)) → step_at p c s e l r g ≡ lent (refused (halt p c.job (holds s e)) c s e) l r g
  unfolding step_by
  halted Idle h = refl
  halted Begin h = absurd (h refl)
  halted (Poll k) h = ap (λ (m : Moved). lent m l r g) (poll_halts k (holds s e) c.job h)
  halted Copy h = absurd (h refl)
  halted Drain h = absurd (h refl)
  halted (Keep k) h = absurd (h refl)
  halted Swap h = absurd (h refl)
  halted (Snap k) h = absurd (h refl)
  halted Null h = absurd (h refl)
  halted Lock h = absurd (h refl)
  halted (LastSnap k) h = absurd (h refl)
  halted (LastPoll k) h = ap (λ (m : Moved). lent m l r g) (last_poll_halts k (holds s e) c.job h)
  halted Finish h = absurd (h refl)
  halted Gone h = refl

-- where nothing halts it, a call is under way
unhalted : (p : Phase) (j : Job) (held : Bool) → number (halt p j held) ≡ 0 → underway p ≡ true
unhalted Idle j held z = absurd (omega arith)
unhalted Begin j held z = refl
unhalted (Poll k) j held z = refl
unhalted Copy j held z = refl
unhalted Drain j held z = refl
unhalted (Keep k) j held z = refl
unhalted Swap j held z = refl
unhalted (Snap k) j held z = refl
unhalted Null j held z = refl
unhalted Lock j held z = refl
unhalted (LastSnap k) j held z = refl
unhalted (LastPoll k) j held z = refl
unhalted Finish j held z = refl
unhalted Gone j held z = absurd (omega arith)

-- ---- step and run, judged

-- 12 and 13, their columns in the table of admissions, hold the same
abbrev verdict_of : Bool → Bool → Verdict
verdict_of gone busy = given gone answer.Gone (given (eqb (not_now (not busy)) 6) answer.NotNow (Ok tt))

-- what is due of a step, or of a run that has made n
abbrev pub due : Bool → ℕ → State → List ℕ → List ℕ → List ℕ → Lent Reply
due true n st l r g = run_from n st l r g
due false n st l r g = step_on st l r g

module _ (st : State) (l r g : List ℕ) where
  module _ (rule : State → List ℕ → List ℕ → List ℕ → Lent Reply) (column : ℕ)
      (verdict : smallest (step_signs column st.control) ≡ verdict_of (is_gone st.control.phase) (underway st.control.phase))
    where
      abbrev judged : Verdict → Lent Reply
      judged v = elim v [ Ok _ ↦ rule st l r g | Err a ↦ lent (refusal a st) l r g ]

      going_underway : underway st.control.phase ≡ true → going column rule st l r g ≡ rule st l r g
      going_underway u =
          ap judged verdict ∙ (λ j. judged (verdict_of (underway_stays st.control.phase u j) (u j)))

      idle_halt :
          (p : Phase) → underway p ≡ false → judged (verdict_of (is_gone p) (underway p)) ≡ lent (refusal (halt p st.control.job true) st) l r g
      idle_halt =
          idle_cases (λ p. judged (verdict_of (is_gone p) (underway p)) ≡ lent (refusal (halt p st.control.job true) st) l r g) refl refl

      going_idle : underway st.control.phase ≡ false → going column rule st l r g ≡ lent (refusal (halt st.control.phase st.control.job true) st) l r g
      going_idle u = ap judged verdict ∙ idle_halt st.control.phase u

  verdict_step : smallest (step_signs 12 st.control) ≡ verdict_of (is_gone st.control.phase) (underway st.control.phase)
  unfolding smallest entry
  verdict_step = refl

  verdict_run : smallest (step_signs 13 st.control) ≡ verdict_of (is_gone st.control.phase) (underway st.control.phase)
  unfolding smallest entry
  verdict_run = refl

  call_underway : (os : List Op) (k : Act) → is_going k ≡ true → underway st.control.phase ≡ true → call_on (meant os k) st l r g ≡ due (is_running k) 0 st l r g
  unfolding call_on
  call_underway os act.Create p u = absurd (true≢false (sym p))
  call_underway os (act.On i h) p u = absurd (true≢false (sym p))
  call_underway os (act.Append kind key amount) p u = absurd (true≢false (sym p))
  call_underway os (act.Batch n) p u = absurd (true≢false (sym p))
  call_underway os (act.Open o) p u = absurd (true≢false (sym p))
  call_underway os act.Step p u = going_underway step_on 12 verdict_step u
  call_underway os act.Run p u = going_underway run_on 13 verdict_run u ∙ run_starts st l r g

  call_idle :
      (os : List Op) (k : Act) → is_going k ≡ true → underway st.control.phase ≡ false →
      call_on (meant os k) st l r g ≡ lent (refusal (halt st.control.phase st.control.job true) st) l r g
  unfolding call_on
  call_idle os act.Create p u = absurd (true≢false (sym p))
  call_idle os (act.On i h) p u = absurd (true≢false (sym p))
  call_idle os (act.Append kind key amount) p u = absurd (true≢false (sym p))
  call_idle os (act.Batch n) p u = absurd (true≢false (sym p))
  call_idle os (act.Open o) p u = absurd (true≢false (sym p))
  call_idle os act.Step p u = going_idle step_on 12 verdict_step u
  call_idle os act.Run p u = going_idle run_on 13 verdict_run u

-- whether a poll is held matters only where a call is under way
idle_held : (p : Phase) (j : Job) (held : Bool) → underway p ≡ false → halt p j true ≡ halt p j held
idle_held p j held u = idle_cases (λ p. halt p j true ≡ halt p j held) refl refl p u

-- ---- a call on its way

-- it is over, and said this
pub record Said (o : Lent Reply) (a : Answer) (v : ℕ) (c : Control) (ss : List Slot) (es l r g : List ℕ) : Type 0 where
  pub answer : answer_of o ≡ number a
  pub value : value_of o ≡ v
  pub world : world_of o ≡ machine (state_of c ss es) l r g

pub said :
    {o : Lent Reply} {a : Answer} {v : ℕ} {c : Control} {ss : List Slot} {es l r g : List ℕ} →
    o ≡ lent (record { answer = a; value = v; state = state_of c ss es }) l r g → Said o a v c ss es l r g
said e = record { answer = ap answer_of e; value = ap value_of e; world = ap world_of e }

-- the same of other names
pub said_as :
    {o : Lent Reply} {a b : Answer} {v w : ℕ} {c d : Control} {ss ts : List Slot} {es fs l r g l' r' g' : List ℕ} → Said o b w d ts fs l' r' g' →
    l ≡ l' → r ≡ r' → g ≡ g' → c ≡ d → ss ≡ ts → es ≡ fs → a ≡ b → v ≡ w → Said o a v c ss es l r g
said_as q l r g c ss es a v = record {
  answer = q.answer ∙ ap number (sym a);
  value = q.value ∙ sym v;
  world = q.world ∙ sym (λ i. machine (state_of (c i) (ss i) (es i)) (l i) (r i) (g i));
}

-- it goes on: n steps are made, and so much is due
pub record Goes (o : Lent Reply) (run : Bool) (n : ℕ) (c : Control) (ss : List Slot) (es l r g : List ℕ) : Type 0 where
  pub same : o ≡ due run n (state_of c ss es) l r g
  pub busy : underway c.phase ≡ true
  pub few : n + left c < many_steps

-- one or the other
abbrev pub Stands : Lent Reply → Bool → Far → Control → List Slot → List ℕ → List ℕ → List ℕ → List ℕ → Type 0
Stands o run (far.Goes n) c ss es l r g = Goes o run n c ss es l r g
Stands o run (far.Over a v) c ss es l r g = Said o a v c ss es l r g

pub record Going (o : Lent Reply) (run : Bool) (f : Far) (c : Control) (ss : List Slot) (es l r g : List ℕ) : Type 0 where
  pub sound : Sound (state_of c ss es) l r g
  pub stands : Stands o run f c ss es l r g

module _ {o : Lent Reply} {run : Bool} {f : Far} {c : Control} {ss : List Slot} {es l r g : List ℕ} (v : Going o run f c ss es l r g) where
  pub going_goes : {n : ℕ} → f ≡ far.Goes n → Goes o run n c ss es l r g
  going_goes e = subst (λ (f : Far). Stands o run f c ss es l r g) e v.stands

  pub going_over : {a : Answer} {x : ℕ} → f ≡ far.Over a x → Said o a x c ss es l r g
  going_over e = subst (λ (f : Far). Stands o run f c ss es l r g) e v.stands

abbrev here_slot : Control → List Slot → Slot
here_slot c ss = get_or ss (place c.phase) no_slot

abbrev here_snap : Control → List ℕ → ℕ
here_snap c es = get_or es (place c.phase) 0

module _ (n : ℕ) (c : Control) (ss : List Slot) (es l r g : List ℕ) (h : Sound (state_of c ss es) l r g) where
  abbrev st : State
  st = state_of c ss es

  abbrev halts : Answer
  halts = halt_of c (here_slot c ss) (here_snap c es)

  step_halted : (number halts ≡ 0 → ⊥) → step_on st l r g ≡ lent (refusal halts st) l r g
  unfolding step_on
  step_halted z =
      ap (lift (place c.phase) st) (halted c (here_slot c ss) (here_snap c es) l r g c.phase z) ∙ lifted_same st l r g (place c.phase) halts

  -- what a run makes of a step that is refused
  run_halted :
      (a : Answer) (m : ℕ) → number a ≡ suc m →
      after_step (run_from (n + 1)) n (lent (refusal a st) l r g) ≡ lent (record { answer = a; value = n; state = st }) l r g
  run_halted a m z = rw (z, after_step)

  due_halted :
      (run : Bool) → (run ≡ false → n ≡ 0) → underway c.phase ≡ true → (number halts ≡ 0 → ⊥) →
      due run n st l r g ≡ lent (record { answer = halts; value = n; state = st }) l r g
  due_halted true y u z =
      run_unrolls st l r g n h.good.whole u ∙ ap (after_step (run_from (n + 1)) n) (step_halted z)
      ∙ run_halted halts (number halts - 1) (omega arith)
  due_halted false y u z =
      step_halted z ∙ ap (λ (v : ℕ). lent (record { answer = halts; value = v; state = st }) l r g) (sym (y refl))

  -- the next step is at hand
  faces :
      {o : Lent Reply} (run : Bool) → (underway c.phase ≡ true → o ≡ due run n st l r g) →
      ((number halts ≡ 0 → ⊥) → o ≡ lent (record { answer = halts; value = n; state = st }) l r g) → n + left c < many_steps →
      Going o run (facing n halts) c ss es l r g
  faces {o} run x y z = record { sound = h; stands = go (eqb (number halts) 0) refl }
    where
      go : (b : Bool) → eqb (number halts) 0 ≡ b → Stands o run (elim b [ true ↦ far.Goes n | false ↦ far.Over halts n ]) c ss es l r g
      go true e =
          let u = unhalted c.phase c.job (holds (here_slot c ss) (here_snap c es)) (eqb-true (number halts) 0 e) in
          record { same = x u; busy = u; few = z }
      go false e = said (y (eqb-false (number halts) 0 e))

-- a step or a run begins
pub going_starts :
    (os : List Op) (k : Act) → is_going k ≡ true → (c : Control) (ss : List Slot) (es l r g : List ℕ) → Sound (state_of c ss es) l r g →
    Going (call_on (meant os k) (state_of c ss es) l r g) (is_running k) (facing 0 (halt_of c (here_slot c ss) (here_snap c es))) c ss es l r g
going_starts os k p c ss es l r g h =
    let st = state_of c ss es in
    faces 0 c ss es l r g h (is_running k) (call_underway st l r g os k p)
    (λ z.
    split (underway c.phase)
    (λ u. call_underway st l r g os k p u ∙ due_halted 0 c ss es l r g h (is_running k) (λ e. refl) u z)
    (λ u.
    call_idle st l r g os k p u
    ∙ ap (λ (a : Answer). lent (refusal a st) l r g) (idle_held c.phase c.job (holds (here_slot c ss) (here_snap c es)) u)))
    (omega (arith, left_small c h.good.whole))

-- the same of the slot at k
pub going_begins :
    (os : List Op) (k : Act) → is_going k ≡ true → (c : Control) (ss : List Slot) (es l r g : List ℕ) → Sound (state_of c ss es) l r g → {i : ℕ} →
    i ≡ place c.phase → {s : Slot} → s ≡ get_or ss i no_slot → {f : Far} → f ≡ facing 0 (halt_of c s (get_or es i 0)) →
    Going (call_on (meant os k) (state_of c ss es) l r g) (is_running k) f c ss es l r g
going_begins os k p c ss es l r g h {i} e q x =
    subst (λ (f : Far). Going (call_on (meant os k) (state_of c ss es) l r g) (is_running k) f c ss es l r g)
    (sym
    (x ∙ ap (λ (s : Slot). facing 0 (halt_of c s (get_or es i 0))) q
    ∙ ap (λ (i : ℕ). facing 0 (halt_of c (get_or ss i no_slot) (get_or es i 0))) e))
    (going_starts os k p c ss es l r g h)

-- ---- a step of it

-- how many steps a call may still make
abbrev pub ahead : Far → Control → ℕ
ahead (far.Goes n) c = suc (left c)
ahead (far.Over a v) c = 0

ahead_facing : (n : ℕ) (a : Answer) (c : Control) → ahead (facing n a) c ≤ suc (left c)
ahead_facing n a c = go (eqb (number a) 0)
  where
    go : (b : Bool) → ahead (elim b [ true ↦ far.Goes n | false ↦ far.Over a n ]) c ≤ suc (left c)
    go true = omega arith
    go false = omega arith

module _ {o : Lent Reply} {run : Bool} {n : ℕ} {c : Control} {ss : List Slot} {es l r g : List ℕ} (v : Goes o run n c ss es l r g)
    (h : Sound (state_of c ss es) l r g) {i : ℕ} (p : i ≡ place c.phase) {s : Slot} (q : s ≡ get_or ss i no_slot) {m : Moved} {l' r' g' : List ℕ}
    (made : lent m l' r' g' ≡ step_by Halve c.phase c s (get_or es i 0) l r g)
  where
    -- the copies rise, so that it does not matter how a key was searched
    x : lent m l' r' g' ≡ step_at c.phase c s (get_or es i 0) l r g
    x = made ∙ step_rising Halve c s (get_or es i 0) l r g h.good.words.left h.good.words.right

    -- its slot is put back where it differs in use
    leaves : {b : Bool} → beq s.used m.slot.used ≡ b → m.slot ≡ elim b [ true ↦ s | false ↦ freed c.free s ]
    leaves u =
        subst (λ (w : Lent Moved). w.made.slot ≡ used_as c.free s w.made.slot) (sym x) (step_slot c s (get_or es i 0) l r g c.phase)
        ∙ ap (λ (b : Bool). elim b [ true ↦ s | false ↦ freed c.free s ]) u

    pub put_same : not (beq s.used m.slot.used) ≡ false → ss ≡ set ss i m.slot
    put_same u = sym (ap (set ss i) (leaves (not-false _ u) ∙ q) ∙ set-get_or ss i no_slot)

    pub put_other : not (beq s.used m.slot.used) ≡ true → {t : Slot} → t ≡ freed c.free s → set ss i t ≡ set ss i m.slot
    put_other u y = ap (set ss i) (y ∙ sym (leaves (not-true _ u)))

    module _ {ts : List Slot} (w : ts ≡ set ss i m.slot) where
      abbrev to : State
      to = state_of m.control ts (set es i m.snapshot)

      -- what the step gave, put back
      stepped : step_on (state_of c ss es) l r g ≡ lent (record { answer = m.answer; value = m.value; state = to }) l' r' g'
      unfolding step_on
      stepped =
          ap
          (λ (i : ℕ). lift i (state_of c ss es) (step_at c.phase c (get_or ss i no_slot) (get_or es i 0) l r g)) (sym p)
          ∙ ap (λ (t : Slot). lift i (state_of c ss es) (step_at c.phase c t (get_or es i 0) l r g)) (sym q)
          ∙ ap (lift i (state_of c ss es)) (sym x)
          ∙ ap
          (λ (ts : List Slot).
          lent (record { answer = m.answer; value = m.value; state = state_of m.control ts (set es i m.snapshot) }) l' r' g')
          (sym w)

      pub sound_after : Sound to l' r' g'
      sound_after =
          subst (λ (w : Lent Reply). Sound w.made.state w.left w.right w.log) stepped (sound_step (state_of c ss es) l r g h)

      pub next_slot : {k : ℕ} (d : Slot) → k < slot_total → get_or to.slots k d ≡ get_or to.slots k no_slot
      next_slot d b = read_slot to.slots d sound_after.slots b

      -- what it says of the count and of the call
      lowers : number m.answer ≡ 0 → left c ≡ suc (left m.control)
      lowers z =
          subst (λ (w : Lent Moved). number w.made.answer ≡ 0 → left c ≡ suc (left w.made.control)) (sym x)
          (step_lowers c s (get_or es i 0) h.good.whole l r g) z

      tells : m.value ≡ bit (not (underway m.control.phase))
      tells =
          subst (λ (w : Lent Moved). w.made.value ≡ bit (not (underway w.made.control.phase))) (sym x)
          (step_value c v.busy s (get_or es i 0) l r g)

      goes_on : m.value ≡ 0 → underway m.control.phase ≡ true
      goes_on z =
          split (underway m.control.phase) (λ u. u) (λ u. absurd (omega (arith, tells ∙ ap (λ (b : Bool). bit (not b)) u)))

      ended : (m.value ≡ 0 → ⊥) → underway m.control.phase ≡ false
      ended z =
          split (underway m.control.phase) (λ u. absurd (z (tells ∙ ap (λ (b : Bool). bit (not b)) u))) (λ u. u)

      module _ (y : run ≡ true) where
        unrolled : o ≡ after_step (run_from (n + 1)) n (lent (record { answer = m.answer; value = m.value; state = to }) l' r' g')
        unrolled =
            v.same ∙ ap (λ (b : Bool). due b n (state_of c ss es) l r g) y
            ∙ run_unrolls (state_of c ss es) l r g n h.good.whole v.busy ∙ ap (after_step (run_from (n + 1)) n) stepped

        run_made : number m.answer ≡ 0 → o ≡ run_from (n + 1) to l' r' g'
        run_made z = unrolled ∙ rw (z, after_step)

        run_stopped : (a : ℕ) → number m.answer ≡ suc a → o ≡ lent (record { answer = m.answer; value = n; state = to }) l' r' g'
        run_stopped a z = unrolled ∙ rw (z, after_step)

      abbrev next : Answer
      next = halt_of m.control (here_slot m.control to.slots) (here_snap m.control to.snapshots)

      -- it goes on only behind a step that was made
      abbrev Behind : Far → Type 0
      Behind f = Going o run f m.control to.slots to.snapshots l' r' g' × (ahead f m.control < suc (left c))

      over_behind : (a : Answer) (v : ℕ) → Said o a v m.control to.slots to.snapshots l' r' g' → Behind (far.Over a v)
      over_behind a v d = (record { sound = sound_after; stands = d }, omega arith)

      ran_value :
          run ≡ true → number m.answer ≡ 0 → (b : Bool) → eqb m.value 0 ≡ b →
          Behind (elim b [ true ↦ facing (n + 1) next | false ↦ far.Over answer.Done (n + 1) ])
      ran_value y z true d =
          let u = goes_on (eqb-true m.value 0 d) in
          let e : o ≡ due run (n + 1) to l' r' g' = run_made y z ∙ ap (λ (b : Bool). due b (n + 1) to l' r' g') (sym y) in (
            faces (n + 1) m.control to.slots to.snapshots l' r' g' sound_after run (λ w. e)
                (λ w.
                e
                ∙ due_halted (n + 1) m.control to.slots to.snapshots l' r' g' sound_after run
                (λ b. absurd (true≢false (sym y ∙ b))) u w)
                (omega (arith, lowers z, v.few)),
            omega (arith, lowers z, ahead_facing (n + 1) next m.control),
          )
      ran_value y z false d =
          over_behind answer.Done (n + 1) (said (run_made y z ∙ run_over to l' r' g' (n + 1) (ended (eqb-false m.value 0 d))))

      ran : run ≡ true → (b : Bool) → eqb (number m.answer) 0 ≡ b →
          Behind
          (elim b [
            | true ↦ elim (eqb m.value 0) [ true ↦ facing (n + 1) next | false ↦ far.Over answer.Done (n + 1) ]
            | false ↦ far.Over m.answer n
          ])
      ran y true d = ran_value y (eqb-true (number m.answer) 0 d) (eqb m.value 0) refl
      ran y false d =
          let z = eqb-false (number m.answer) 0 d in
          over_behind m.answer n (said (run_stopped y (number m.answer - 1) (omega arith)))

      went : (b : Bool) → run ≡ b → Behind (went_on b n m next)
      went true y = ran y (eqb (number m.answer) 0) refl
      went false y =
          over_behind m.answer m.value
          (said (v.same ∙ ap (λ (b : Bool). due b n (state_of c ss es) l r g) y ∙ stepped))

      -- the next step looks at slot k
      pub going_steps :
          {k : ℕ} → k ≡ place m.control.phase → {t : Slot} → t ≡ get_or to.slots k no_slot → {f : Far} →
          f ≡ went_on run n m (halt_of m.control t (get_or to.snapshots k 0)) → Behind f
      going_steps {k} a b d =
          subst Behind
          (sym
          (d ∙ ap (λ (t : Slot). went_on run n m (halt_of m.control t (get_or to.snapshots k 0))) b
          ∙ ap (λ (k : ℕ). went_on run n m (halt_of m.control (get_or to.slots k no_slot) (get_or to.snapshots k 0))) a))
          (went run refl)
