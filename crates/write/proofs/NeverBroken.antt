-- A machine that the rules reach from the fresh one is never broken: no call on it answers 1 or 2.
use Rattle.std.proofs.Common.{◌≡◌, ℕ, ◌-◌, true, List, length, set, replicate, sym, refl, ◌∙◌, subst, arith, length-set}
use lib.ListN.{length-replicate}
use Rattle.table.specs.Copy.{words}
use Rattle.table.proofs.CopyOrder.{tidy_empty}
use Rattle.table.proofs.Split.{below}
use Rattle.table.specs.Order.{Op, Tidy}
use Rattle.read.specs.declared.Slot.{Slot}
use Rattle.read.specs.declared.Control.{Control}
use Rattle.read.specs.declared.State.{State}
use Rattle.read.specs.declared.Handle.{Handle}
use Rattle.read.specs.declared.Made.{Made}
use Rattle.read.specs.declared.Reply.{Reply}
use Rattle.std.specs.Prelude.{Ok}
use Rattle.read.specs.Machine.{slot_count, log_words, orderly, judged, fresh, no_slot, with_free, place}
use Rattle.read.specs.Handles.{smallest, handle_on, create_on}
use Rattle.read.specs.Calls.{Lent, lent, slot_at, reply_of, handle_reply, create_reply}
use Rattle.read.proofs.Orderly.{orderly_fresh}
use Rattle.write.specs.declared.Moved.{Moved}
use Rattle.write.specs.declared.Opening.{Opening}
use Rattle.write.specs.declared.Opening.TheVariants as opening
use Rattle.write.specs.Call.{Call, Create, On, Append, Open, Step, Run}
use Rattle.write.specs.Steps.{step_at}
use Rattle.write.specs.Begins.{step_signs, append_on, open_on, opened}
use Rattle.write.specs.Runs.{snap_at, lift, step_on, enough, run_while, run_on}
use Rattle.write.specs.Machine.{going, call_on, call_rule}
use Rattle.write.proofs.Verdicts.{judging}
use Rattle.write.proofs.Cases.{open_cases, run_keeps}
use Rattle.write.proofs.Control.{some_slot, whole_free, whole_step, whole_append, whole_open}
use Rattle.write.proofs.Judged.{Good, good_fit, good_judged}
use Rattle.write.proofs.Words.{kept_tidy, Words, words_step, words_append}
use Rattle.write.proofs.Reorders.{Reorders, orderly_left, reorders_create, reorders_handle, reorders_step, reorders_append, reorders_open}

-- a beginning leaves the log as it is
opened_length : (o : Opening) (c : Control) (s : Slot) (e : ℕ) → (opened o c s e).control.length ≡ c.length
unfolding opened
opened_length opening.Publish c s e = refl
opened_length opening.Try c s e = refl
opened_length opening.Flush c s e = below (λ (m : Moved). m.control.length ≡ c.length) c.swapped c.length (λ h. refl) (λ h. refl)
opened_length opening.Take c s e = refl

open_length : (o : Opening) (c : Control) (s : Slot) (e : ℕ) → (open_on o c s e).control.length ≡ c.length
open_length o c s e = open_cases (λ m. m.control.length ≡ c.length) o c s e (λ q. opened_length o c s e) (λ a h. refl)

-- ---- a sound machine

-- besides what is judged, both copies rise, with zeros behind their pairs
pub record Sound (st : State) (l r g : List ℕ) : Type 0 where
  pub good : Good Tidy st.control l r g
  pub ordered : orderly st ≡ true
  pub slots : length st.slots ≡ slot_count
  pub snapshots : length st.snapshots ≡ slot_count

pub sound_judged : {st : State} {l r g : List ℕ} → Sound st l r g → judged st l r g ≡ Ok tt
sound_judged {st} {l} {r} {g} h = good_judged st l r g (good_fit kept_tidy h.good) h.ordered

pub sound_fresh : Sound fresh (replicate words 0) (replicate words 0) (replicate log_words 0)
sound_fresh = record {
  good = record {
    whole = record { room = omega arith; within = omega arith; placed = tt; locked = refl; pointed = refl };
    words = record { left = tidy_empty; right = tidy_empty; log = length-replicate {A = ℕ} log_words 0; lawfully = λ i h. absurd (omega arith) };
  };
  ordered = orderly_fresh;
  slots = rw (length-replicate (slot_count - 1) no_slot) (omega (arith, some_slot));
  snapshots = length-replicate {A = ℕ} slot_count 0;
}

-- what comes of a call is sound
abbrev pub SoundOut : Lent Reply → Type 0
SoundOut o = Sound o.made.state o.left o.right o.log

-- ---- the calls

-- a move at one slot that leaves control part, words and order good
sound_lift :
    {st : State} {l r g : List ℕ} (i : ℕ) (m : Lent Moved) → Sound st l r g → Good Tidy m.made.control m.left m.right m.log →
    Reorders i st.control.free (slot_at st i) m.made.control.free m.made.slot → SoundOut (lift i st m)
sound_lift {st} i m h d o = record {
  good = d;
  ordered = orderly_left st h.slots h.ordered o m.made.control (set st.snapshots i m.made.snapshot) refl;
  slots = length-set st.slots i m.made.slot ∙ h.slots;
  snapshots = length-set st.snapshots i m.made.snapshot ∙ h.snapshots;
}

sound_replied :
    {st : State} {l r g : List ℕ} (i : ℕ) (m : Made) → Sound st l r g →
    Reorders i st.control.free (slot_at st i) m.free m.slot → SoundOut (lent (reply_of i m st) l r g)
sound_replied {st} i m h o = record {
  good = record { whole = whole_free m.free h.good.whole; words = h.good.words };
  ordered = orderly_left st h.slots h.ordered o (with_free m.free st.control) st.snapshots refl;
  slots = length-set st.slots i m.slot ∙ h.slots;
  snapshots = h.snapshots;
}

module _ (st : State) (l r g : List ℕ) (h : Sound st l r g) where
  sound_create : SoundOut (lent (create_reply st) l r g)
  sound_create =
      let c = st.control in
      let s = slot_at st c.free in
      sound_replied c.free (create_on c s) h (reorders_create c s)

  sound_handle : (i : ℕ) (k : Handle) → SoundOut (lent (handle_reply i k l r st) l r g)
  sound_handle i k = below (λ (a : Reply). SoundOut (lent a l r g)) i slot_count
      (λ b.
      let c = st.control in
      let s = slot_at st i in
      sound_replied i (handle_on c i s k l r) h (reorders_handle c i s b k l r))
      (λ b. h)

  sound_append : (os : List Op) → SoundOut (lift 0 st (append_on os st.control (slot_at st 0) (snap_at st 0) l r g))
  sound_append os =
      let c = st.control in
      let s = slot_at st 0 in
      let e = snap_at st 0 in
      sound_lift 0 (append_on os c s e l r g) h
      (record {
        whole = whole_append c h.good.whole s e os l r g;
        words = words_append kept_tidy c s e l r g h.good.words os;
      })
      (reorders_append c s e l r g os)

  sound_open : (o : Opening) → SoundOut (lift 0 st (lent (open_on o st.control (slot_at st 0) (snap_at st 0)) l r g))
  sound_open o =
      let c = st.control in
      let s = slot_at st 0 in
      let e = snap_at st 0 in
      sound_lift 0 (lent (open_on o c s e) l r g) h
      (record { whole = whole_open c h.good.whole s e o; words = subst (λ (n : ℕ). Words Tidy n l r g) (sym (open_length o c s e)) h.good.words })
      (reorders_open c s e o)

  pub sound_step : SoundOut (step_on st l r g)
  unfolding step_on
  sound_step =
      let c = st.control in
      let i = place c.phase in
      let s = slot_at st i in
      let e = snap_at st i in
      sound_lift i (step_at c.phase c s e l r g) h
      (record {
        whole = whole_step c h.good.whole s e l r g;
        words = words_step kept_tidy c s e l r g h.good.words h.good.whole;
      })
      (reorders_step c s e l r g c.phase)

pub sound_run : (k n : ℕ) (st : State) (l r g : List ℕ) → Sound st l r g → SoundOut (run_while step_on k n st l r g)
sound_run =
    run_keeps step_on Sound SoundOut (λ n st l r g h. h) (λ st l r g h u z. sound_step st l r g h)
    (λ n st l r g h u a z. sound_step st l r g h)

sound_going :
    (column : ℕ) (rule : State → List ℕ → List ℕ → List ℕ → Lent Reply) (st : State) (l r g : List ℕ) → Sound st l r g →
    SoundOut (rule st l r g) → SoundOut (going column rule st l r g)
sound_going column rule st l r g h x = judging SoundOut (smallest (step_signs column st.control)) (λ v. x) (λ a v. h)

-- every call keeps it, whatever it answers
pub sound_call_on : (k : Call) (st : State) (l r g : List ℕ) → Sound st l r g → SoundOut (call_on k st l r g)
unfolding call_on run_on
sound_call_on Create st l r g h = sound_create st l r g h
sound_call_on (On i k) st l r g h = sound_handle st l r g h i k
sound_call_on (Append os) st l r g h = sound_append st l r g h os
sound_call_on (Open o) st l r g h = sound_open st l r g h o
sound_call_on Step st l r g h = sound_going 12 step_on st l r g h (sound_step st l r g h)
sound_call_on Run st l r g h = sound_going 13 run_on st l r g h (sound_run enough 0 st l r g h)

-- on a sound machine nothing is refused by 1 or 2
pub call_made : (k : Call) (st : State) (l r g : List ℕ) → Sound st l r g → call_rule k st l r g ≡ call_on k st l r g
unfolding call_rule
call_made k st l r g h = rw (sound_judged h, call_rule)

pub sound_call : (k : Call) (st : State) (l r g : List ℕ) → Sound st l r g → SoundOut (call_rule k st l r g)
sound_call k st l r g h = subst SoundOut (sym (call_made k st l r g h)) (sound_call_on k st l r g h)
