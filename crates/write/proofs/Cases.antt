-- The rules by cases: where the writer goes on, and what its calls do, with what was learnt on the way.
use Rattle.std.proofs.Common.{◌≡◌, ℕ, zero, suc, ◌+◌, ◌<◌, ◌≤◌, Bool, true, false, not, ◌&&◌, ltb, leb, List, length, refl, arith, ltb-false}
use borrow.Author.Tests.{not-false}
use Rattle.table.specs.Order.{Op}
use Rattle.table.specs.declared.Answer.{Answer}
use Rattle.table.specs.Answers.{number}
use Rattle.table.proofs.Split.{by, below}
use Rattle.table.proofs.Booleans.{both, clash}
use Rattle.table.specs.declared.Search.TheVariants.{Walk}
use Rattle.read.specs.declared.Phase.{Phase}
use Rattle.read.specs.declared.Phase.TheVariants.{Idle, Begin, Poll, Copy, Drain, Keep, Swap, Snap, Null, LastSnap, LastPoll, Finish}
use Rattle.read.specs.declared.Job.{Job}
use Rattle.read.specs.declared.Job.TheVariants.{Publish, Try, TakeFirst, TakeSecond}
use Rattle.read.specs.declared.Control.{Control}
use Rattle.read.specs.declared.Slot.{Slot}
use Rattle.read.specs.declared.State.{State}
use Rattle.read.specs.declared.Reply.{Reply}
use Rattle.read.specs.Machine.{standing, slot_count, log_room, underway}
use Rattle.read.specs.Calls.{Lent, lent}
use Rattle.read.specs.Handles.{smallest}
use Rattle.write.specs.declared.Moved.{Moved}
use Rattle.write.specs.declared.Opening.{Opening}
use Rattle.write.specs.Steps.{at, keeping, draining, polled, polling, beginning, published, last_polling, last_snapping, snapping, ended, refused}
use Rattle.write.specs.Begins.{writer_signs, column_of, batch_room, all_lawful, lawful_batch, crowds, append_first, append_later, append_on, opened, open_on, append_by}
use Rattle.write.specs.Runs.{after_step, ran_out, run_while}
use Rattle.read.proofs.Verdicts.{Refusal, refused_mild, silent}
use Rattle.write.proofs.Verdicts.{judging, append_idle, open_idle}

-- another job; the phase stays, with its lock
abbrev pub with_job : Job → Control → Control
with_job j c = standing c.phase j c

-- the log has room for n operations, where `first` is over
pub roomy : (n : ℕ) (first : Bool) → first ≡ false → (not first && ltb log_room n) ≡ false → n ≤ log_room
roomy n true q h = clash refl q
roomy n false q h = ltb-false log_room n h

-- ---- the phases

module _ (P : Phase → Type 0) where
  pub keeping_cases : (n k : ℕ) → (k < n → P (Keep k)) → (n ≤ k → P Swap) → P (keeping n k)
  keeping_cases n k f g = below P k n f g

  pub draining_cases : (s n : ℕ) → (0 < s → P Drain) → (s ≡ 0 → P (keeping n 0)) → P (draining s n)
  draining_cases s n f g = below P 0 s f (λ h. g (omega arith))

  pub polled_cases :
      (c : Control) → (c.first ≡ true → P Swap) → (c.first ≡ false → c.second ≡ true → P Copy) →
      (c.first ≡ false → c.second ≡ false → P (draining c.swapped c.length)) → P (polled c)
  polled_cases c f g h = by P c.first f (λ e. by P c.second (g e) (h e))

  pub polling_cases : (c : Control) (k : ℕ) → (k < slot_count → P (Poll k)) → (slot_count ≤ k → P (polled c)) → P (polling c k)
  polling_cases c k f g = below P k slot_count f g

  pub beginning_cases : (c : Control) → (c.first ≡ true → P Swap) → (c.first ≡ false → P (polling c 0)) → P (beginning c)
  beginning_cases c f g = by P c.first f g

  pub last_polling_cases : (k : ℕ) → (k < slot_count → P (LastPoll k)) → (slot_count ≤ k → P Finish) → P (last_polling k)
  last_polling_cases k f g = below P k slot_count f g

  pub last_snapping_cases : (k : ℕ) → (k < slot_count → P (LastSnap k)) → (slot_count ≤ k → P (last_polling 0)) → P (last_snapping k)
  last_snapping_cases k f g = below P k slot_count f g

  pub published_cases : (j : Job) (n : ℕ) → P Idle → P Begin → P Null → P (published j n)
  published_cases Publish n i b u = i
  published_cases Try n i b u = i
  published_cases TakeFirst n i b u = below P 0 n (λ h. b) (λ h. u)
  published_cases TakeSecond n i b u = u

pub snapping_cases :
    (P : Control → Type 0) (c : Control) (k : ℕ) → (k < slot_count → P (at (Snap k) c)) → (slot_count ≤ k → P (ended c)) → P (snapping c k)
snapping_cases P c k f g = below P k slot_count f g

-- ---- the calls that are made at once

-- what an append that is made was admitted by
pub record Appends (os : List Op) (c : Control) : Type 0 where
  pub idle : c.phase ≡ Idle
  pub lawfully : all_lawful os ≡ true

module _ (P : Lent Moved → Type 0) (os : List Op) (c : Control) (s : Slot) (e : ℕ) (l r g : List ℕ)
    (first : c.first ≡ true → Appends os c → P (append_first Walk os c s e l r g))
    (later : c.first ≡ false → c.length + length os ≤ log_room → Appends os c → P (append_later os c s e l r g))
    (refusal : (a : Answer) → Refusal a → P (lent (refused a c s e) l r g))
  where
    pub append_cases : P (append_on os c s e l r g)
    unfolding append_by
    append_cases =
        let unlawful = not (lawful_batch os) in
        let full = crowds (length os) c in
        let signs = writer_signs 7 unlawful full c s in
        judging P (smallest signs)
        (λ v.
        let h : Appends os c =
        record { idle = append_idle unlawful full c s v; lawfully = (both (leb (length os) batch_room) (all_lawful os) (not-false (lawful_batch os) (silent 5 signs v))).1 } in
        by P c.first (λ q. first q h) (λ q. later q (roomy (c.length + length os) c.first q (silent 11 signs v)) h))
        (λ a v. refusal a (refused_mild signs refl a v))

pub open_cases :
    (P : Moved → Type 0) (o : Opening) (c : Control) (s : Slot) (e : ℕ) → (c.phase ≡ Idle → P (opened o c s e)) →
    ((a : Answer) → Refusal a → P (refused a c s e)) → P (open_on o c s e)
unfolding open_on
open_cases P o c s e f g =
    let signs = writer_signs (column_of o) false false c s in
    judging P (smallest signs) (λ v. f (open_idle o c s v)) (λ a v. g a (refused_mild signs refl a v))

-- ---- a run

-- what comes of a step in a run, by what it answered
pub going_on :
    (P : Lent Reply → Type 0) (rest : State → List ℕ → List ℕ → List ℕ → Lent Reply) (n : ℕ) (o : Lent Reply) →
    (number o.made.answer ≡ 0 → P (rest o.made.state o.left o.right o.log)) →
    ((a : ℕ) → number o.made.answer ≡ suc a →
    P (lent (record { answer = o.made.answer; value = n; state = o.made.state }) o.left o.right o.log)) →
    P (after_step rest n o)
going_on P rest n o f g = go (number o.made.answer) f g
  where
    go : (x : ℕ) → (x ≡ 0 → P (rest o.made.state o.left o.right o.log)) →
        ((a : ℕ) → x ≡ suc a →
        P (lent (record { answer = o.made.answer; value = n; state = o.made.state }) o.left o.right o.log)) →
        P (elim x [
          | zero ↦ rest o.made.state o.left o.right o.log
          | suc a ↦ lent (record { answer = o.made.answer; value = n; state = o.made.state }) o.left o.right o.log
        ])
    go zero f g = f refl
    go (suc a) f g = g a refl

-- a run, by what its steps keep: where none is under way, after each that is made, and at one that is not
module _ (step : State → List ℕ → List ℕ → List ℕ → Lent Reply) (I : State → List ℕ → List ℕ → List ℕ → Type 0) (P : Lent Reply → Type 0)
    (out : (n : ℕ) (st : State) (l r g : List ℕ) → I st l r g → P (ran_out n st l r g))
    (made : (st : State) (l r g : List ℕ) → I st l r g → underway st.control.phase ≡ true →
    (let o = step st l r g in number o.made.answer ≡ 0 → I o.made.state o.left o.right o.log))
    (stopped : (n : ℕ) (st : State) (l r g : List ℕ) → I st l r g → underway st.control.phase ≡ true →
    (let o = step st l r g in
    (a : ℕ) → number o.made.answer ≡ suc a →
    P (lent (record { answer = o.made.answer; value = n; state = o.made.state }) o.left o.right o.log)))
  where
    pub run_keeps : (k n : ℕ) (st : State) (l r g : List ℕ) → I st l r g → P (run_while step k n st l r g)
    unfolding run_while
    run_keeps zero n st l r g h = out n st l r g h
    run_keeps (suc k) n st l r g h =
        by P (underway st.control.phase)
        (λ u.
        let o = step st l r g in
        going_on P (run_while step k (n + 1)) n o
        (λ z. run_keeps k (n + 1) o.made.state o.left o.right o.log (made st l r g h u z)) (λ a z. stopped n st l r g h u a z))
        (λ u. out n st l r g h)
