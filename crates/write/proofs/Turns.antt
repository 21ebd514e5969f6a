-- A step put back into the state, and what the loops of a run keep.
use Rattle.std.proofs.Common.{◌≡◌, ℕ, ◌+◌, ◌<◌, Bool, true, false, List, length, get_or, set, sym, refl, ap, ◌∙◌, subst, arith, length-set}
use Rattle.table.specs.declared.Answer.{Answer}
use Rattle.table.specs.declared.Answer.TheVariants as answer
use Rattle.table.proofs.Lists.{get_d_within}
use Rattle.read.specs.declared.Slot.{Slot}
use Rattle.read.specs.declared.Phase.{Phase}
use Rattle.read.specs.declared.Phase.TheVariants.{Idle, Begin, Poll, Copy, Drain, Keep, Swap, Snap, Null, Lock, LastSnap, LastPoll, Finish, Gone}
use Rattle.read.specs.declared.Control.{Control}
use Rattle.read.specs.declared.State.{State}
use Rattle.read.specs.declared.Reply.{Reply}
use Rattle.read.specs.Machine.{slot_total, slot_count, no_slot, underway, place}
use Rattle.read.specs.Calls.{Lent, lent, slot_at}
use Rattle.read.proofs.Cases.{state_of}
use Rattle.write.specs.declared.Moved.{Moved}
use Rattle.write.specs.Steps.{holds, step_at}
use Rattle.write.specs.Scans.{polls, halt_answer, halted}
use Rattle.write.specs.Runs.{snap_at, put_back, lift, step_on}
use Rattle.write.proofs.Control.{Placed, Whole}
use Rattle.write.proofs.RunLaws.{Goes, Scans, scanning, goes_made, scan_start, scan_passed, scan_stopped}

placed_below : (n s : ℕ) (p : Phase) → Placed n s p → place p < slot_total
unfolding slot_count
placed_below n s Idle h = omega arith
placed_below n s Begin h = omega arith
placed_below n s (Poll k) h = h
placed_below n s Copy h = omega arith
placed_below n s Drain h = omega arith
placed_below n s (Keep k) h = omega arith
placed_below n s Swap h = omega arith
placed_below n s (Snap k) h = h
placed_below n s Null h = omega arith
placed_below n s Lock h = omega arith
placed_below n s (LastSnap k) h = h
placed_below n s (LastPoll k) h = h
placed_below n s Finish h = omega arith
placed_below n s Gone h = omega arith

-- the slot that a step looks at is there
pub place_below : {c : Control} {i : ℕ} → Whole c → i ≡ place c.phase → i < slot_total
place_below {c} w e = subst (λ (i : ℕ). i < slot_total) (sym e) (placed_below c.length c.swapped c.phase w.placed)

-- a move at slot i, put back
pub step_lifted :
    (st : State) (l r g : List ℕ) {i : ℕ} {s : Slot} {m : Moved} {l' r' g' : List ℕ} {q : Reply} →
    i ≡ place st.control.phase → s ≡ slot_at st i → lent m l' r' g' ≡ step_at st.control.phase st.control s (snap_at st i) l r g →
    q ≡ put_back i st m → lent q l' r' g' ≡ step_on st l r g
unfolding step_on
step_lifted st l r g {i} {l' = l'} {r' = r'} {g' = g'} p e h x =
    ap (λ (q : Reply). lent q l' r' g') x
    ∙ ap (λ (o : Lent Moved). lift i st o) (h ∙ ap (λ (s : Slot). step_at st.control.phase st.control s (snap_at st i) l r g) e)
    ∙ ap (λ (j : ℕ). lift j st (step_at st.control.phase st.control (slot_at st j) (snap_at st j) l r g)) p

-- ---- a run's loops

-- the slot that is copied out is the one that the rules read
pub holds_there :
    (ss : List Slot) (i e : ℕ) (d : Slot) {b r : Bool} → i < length ss → r ≡ holds (get_or ss i d) e → r ≡ b → holds (get_or ss i no_slot) e ≡ b
holds_there ss i e d h x y = ap (λ (s : Slot). holds s e) (sym (get_d_within ss i d no_slot h)) ∙ sym x ∙ y

step_there :
    (c : Control) (ss : List Slot) (i e : ℕ) (d : Slot) (l r g : List ℕ) {o : Lent Moved} → i < length ss →
    o ≡ step_at c.phase c (get_or ss i d) e l r g → o ≡ step_at c.phase c (get_or ss i no_slot) e l r g
step_there c ss i e d l r g h x = x ∙ ap (λ (s : Slot). step_at c.phase c s e l r g) (get_d_within ss i d no_slot h)

-- before each turn of the steps: the run goes on from here to what it is to give, with no answer yet
pub record Running (o : Lent Reply) (k n : ℕ) (a : Answer) (c : Control) (ss : List Slot) (es l r g l₀ r₀ g₀ : List ℕ) : Type 0 where
  pub goes : Goes o k n c ss es l r g
  pub done : a ≡ answer.Done
  pub slots : length ss ≡ slot_total
  pub left : length l ≡ length l₀
  pub right : length r ≡ length r₀
  pub log : length g ≡ length g₀

-- before each turn of the slot scan, which began with the control part c₀ at slot i₀, n₀ steps being made: one step for each slot passed
pub record Scanned (c₀ : Control) (n₀ i₀ : ℕ) (a₀ : Answer) (c : Control) (n i : ℕ) (a : Answer) (ss : List Slot) (es l r g : List ℕ) :
    Type 0
  where
    pub scans : (o : Lent Reply) (k : ℕ) → Goes o k n₀ c₀ ss es l r g → Scans o k n c i ss es l r g
    pub polling : polls c.phase ≡ true
    pub count : n + i₀ ≡ n₀ + i
    pub from : i₀ < slot_total
    pub quiet : a ≡ a₀

pub scan_begins :
    (c : Control) (n i : ℕ) (a : Answer) (ss : List Slot) (es l r g : List ℕ) → polls c.phase ≡ true → i ≡ place c.phase → i < slot_total →
    Scanned c n i a c n i a ss es l r g
scan_begins c n i a ss es l r g q e b =
    record { scans = λ o k h. scan_start c i h q e; polling = q; count = refl; from = b; quiet = refl }

-- a turn of the steps
module _ {o : Lent Reply} {k n : ℕ} {a : Answer} {c : Control} {ss : List Slot} {es l r g l₀ r₀ g₀ : List ℕ}
    (v : Running o k n a c ss es l r g l₀ r₀ g₀)
  where
    -- the slots are passed: the run goes on with the scan's next control part
    pub runs_scanned :
        {i₀ : ℕ} {d : Control} {m i : ℕ} {b : Answer} {p : Control} →
        Scanned c n i₀ a d m i b ss es l r g → (j : ℕ) → j ≡ i → p ≡ scanning d j → Running o k m b p ss es l r g l₀ r₀ g₀
    runs_scanned {d = d} {m = m} w j x e =
        record {
          goes = subst (λ (p : Control). Goes o k m p ss es l r g) (sym (e ∙ ap (scanning d) x)) (w.scans o k v.goes);
          done = w.quiet ∙ v.done;
          slots = v.slots;
          left = v.left;
          right = v.right;
          log = v.log;
        }

    -- a step that is no poll is made
    pub runs_stepped :
        (i : ℕ) (d : Slot) (m : Moved) (l' r' g' : List ℕ) → i ≡ place c.phase → i < slot_total →
        lent m l' r' g' ≡ step_at c.phase c (get_or ss i d) (get_or es i 0) l r g → underway c.phase ≡ true → polls c.phase ≡ false →
        length l' ≡ length l → length r' ≡ length r → length g' ≡ length g →
        Running o k (n + 1) a m.control (set ss i m.slot) (set es i m.snapshot) l' r' g' l₀ r₀ g₀
    runs_stepped i d m l' r' g' e b h u q x y z =
        record {
          goes = goes_made v.goes i e (lent m l' r' g') (step_there c ss i (get_or es i 0) d l r g (omega (arith, v.slots)) h) u q;
          done = v.done;
          slots = length-set ss i m.slot ∙ v.slots;
          left = x ∙ v.left;
          right = y ∙ v.right;
          log = z ∙ v.log;
        }

module _ {c₀ : Control} {n₀ i₀ : ℕ} {a₀ : Answer} {c : Control} {n i : ℕ} {a : Answer} {ss : List Slot} {es l r g : List ℕ}
    (v : Scanned c₀ n₀ i₀ a₀ c n i a ss es l r g) (b : i < slot_total)
  where
    pub scan_on : holds (get_or ss i no_slot) (get_or es i 0) ≡ false → Scanned c₀ n₀ i₀ a₀ c (n + 1) (i + 1) a ss es l r g
    unfolding slot_count
    scan_on f =
        record {
          scans = λ o k h. scan_passed c i (v.scans o k h) v.polling b f;
          polling = v.polling;
          count = omega (arith, v.count);
          from = v.from;
          quiet = v.quiet;
        }

    pub scan_ends :
        {o : Lent Reply} {k : ℕ} {w : Answer} {p d : Control} → Goes o k n₀ c₀ ss es l r g → holds (get_or ss i no_slot) (get_or es i 0) ≡ true →
        w ≡ halt_answer c.phase c.job → p ≡ scanning c i → d ≡ halted c.phase p →
        lent (record { answer = w; value = n; state = state_of d ss es }) l r g ≡ o
    unfolding slot_count
    scan_ends {o} {k} h f x y z =
        scan_stopped c i (v.scans o k h) v.polling b f x (z ∙ ap (λ (q : Control). halted c.phase q) y)
