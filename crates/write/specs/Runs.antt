-- A step on the whole machine, and a run: step while a call is under way.
use Rattle.std.specs.Prelude.{ℕ, zero, suc, ◌+◌, ◌^◌, true, false, List, slice_index, slice_set}
use Rattle.table.specs.Answers.{number}
use Rattle.table.specs.declared.Answer.TheVariants as answer
use Rattle.read.specs.declared.Slot.{Slot}
use Rattle.read.specs.declared.Control.{Control}
use Rattle.read.specs.declared.State.{State}
use Rattle.read.specs.declared.Reply.{Reply}
use Rattle.read.specs.Machine.{underway, place}
use Rattle.read.specs.Calls.{Lent, lent, slot_at}
use Rattle.write.specs.declared.Moved.{Moved}
use Rattle.write.specs.Steps.{step_at}

-- ---- a move at one slot, put back into the state that it was made from

abbrev pub snap_at : State → ℕ → ℕ
snap_at st i = slice_index st.snapshots i

-- the control part, slot i and its snapshot; the rest stays
abbrev pub with_move : ℕ → Control → Slot → ℕ → State → State
with_move i c s e st = record { control = c; slots = slice_set st.slots i s; snapshots = slice_set st.snapshots i e }

abbrev pub put_back : ℕ → State → Moved → Reply
put_back i st m =
    record { answer = m.answer; value = m.value; state = with_move i m.control m.slot m.snapshot st }

abbrev pub lift : ℕ → State → Lent Moved → Lent Reply
lift i st m = lent (put_back i st m.made) m.left m.right m.log

-- ---- one step

unfoldable pub step_on : State → List ℕ → List ℕ → List ℕ → Lent Reply
step_on st l r g =
    let c = st.control in
    let i = place c.phase in
    lift i st (step_at c.phase c (slot_at st i) (snap_at st i) l r g)

-- ---- a run

-- what comes of a step, n being made before it: the rest of the run; or, where it is held or declined, what it gave, with value n
abbrev pub after_step : (State → List ℕ → List ℕ → List ℕ → Lent Reply) → ℕ → Lent Reply → Lent Reply
after_step rest n o =
    elim (number o.made.answer) [
      | zero ↦ rest o.made.state o.left o.right o.log
      | suc a ↦ lent (record { answer = o.made.answer; value = n; state = o.made.state }) o.left o.right o.log
    ]

abbrev pub ran_out : ℕ → State → List ℕ → List ℕ → List ℕ → Lent Reply
ran_out n st l r g = lent (record { answer = answer.Done; value = n; state = st }) l r g

-- step while a call is under way, n being made before, and k more at most
unfoldable pub run_while : (State → List ℕ → List ℕ → List ℕ → Lent Reply) → ℕ → ℕ → State → List ℕ → List ℕ → List ℕ → Lent Reply
run_while step zero n st l r g = ran_out n st l r g
run_while step (suc k) n st l r g =
    elim (underway st.control.phase) [ true ↦ after_step (run_while step k (n + 1)) n (step st l r g) | false ↦ ran_out n st l r g ]

-- no call has so many steps: a run ends before them (law run_unbounded)
abbrev pub enough : ℕ
enough = 2 ^ 64

unfoldable pub run_on : State → List ℕ → List ℕ → List ℕ → Lent Reply
run_on st l r g = run_while step_on enough 0 st l r g
