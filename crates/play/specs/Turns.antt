-- The turns of the player's loop, each on the one slot that it looks at. No public contract cites this.
use Rattle.std.specs.Prelude.{ℕ, suc, ◌+◌, ◌-◌, ◌*◌, ◌/◌, min, Bool, true, false, List, length, eqb, leb}
use Rattle.table.specs.Order.{Op}
use Rattle.table.specs.Answers.{number}
use Rattle.table.specs.declared.Answer.{Answer}
use Rattle.table.specs.declared.Answer.TheVariants as answer
use Rattle.read.specs.declared.Control.{Control}
use Rattle.read.specs.declared.Phase.{Phase}
use Rattle.read.specs.declared.Phase.TheVariants.{Idle, Begin, Poll, Copy, Drain, Keep, Swap, Snap, Null, Lock, LastSnap, LastPoll, Finish, Gone}
use Rattle.read.specs.declared.Job.{Job}
use Rattle.read.specs.declared.Job.TheVariants.{Publish, Try, TakeFirst, TakeSecond}
use Rattle.read.specs.declared.Slot.{Slot}
use Rattle.read.specs.declared.Handle.{Handle}
use Rattle.read.specs.declared.Made.{Made}
use Rattle.read.specs.Machine.{slot_total, with_free}
use Rattle.read.specs.Handles.{handle_on, create_on}
use Rattle.read.specs.Calls.{Lent, lent}
use Rattle.write.specs.declared.Moved.{Moved}
use Rattle.write.specs.Call.{Call, Create, On, Append, Open, Step, Run, append_one}
use Rattle.write.specs.Begins.{append_on, open_on}
use Rattle.write.specs.Steps.{holds}
use Rattle.format.specs.Schedule.{record_bytes}
use Rattle.play.specs.declared.schedule.Act.{Act}
use Rattle.play.specs.declared.schedule.Act.TheVariants as act
use Rattle.play.specs.declared.turns.Far.{Far}
use Rattle.play.specs.declared.turns.Far.TheVariants.{Goes, Over}
use Rattle.play.specs.Schedule.{ops_from}

-- ---- what a record asks for

abbrev pub meant : List Op → Act → Call
meant os act.Create = Create
meant os (act.On i h) = On i h
meant os (act.Append kind key amount) = append_one kind key amount
meant os (act.Batch n) = Append os
meant os (act.Open o) = Open o
meant os act.Step = Step
meant os act.Run = Run

-- how many records belong to it
abbrev pub members_of : Act → ℕ
members_of act.Create = 0
members_of (act.On i h) = 0
members_of (act.Append kind key amount) = 0
members_of (act.Batch n) = n
members_of (act.Open o) = 0
members_of act.Step = 0
members_of act.Run = 0

-- with those that stand behind the record at byte `at`
abbrev pub meant_at : List ℕ → ℕ → Act → Call
meant_at s at a = meant (ops_from s (at + record_bytes) (members_of a)) a

-- where the record begins that comes behind these, as many as are there
abbrev pub behind : List ℕ → ℕ → Act → ℕ
behind s at a = at + record_bytes * suc (min (members_of a) ((length s - at) / record_bytes - 1))

-- ---- step and run

-- step or run
abbrev pub is_going : Act → Bool
is_going act.Create = false
is_going (act.On i h) = false
is_going (act.Append kind key amount) = false
is_going (act.Batch n) = false
is_going (act.Open o) = false
is_going act.Step = true
is_going act.Run = true

abbrev pub is_running : Act → Bool
is_running act.Create = false
is_running (act.On i h) = false
is_running (act.Append kind key amount) = false
is_running (act.Batch n) = false
is_running (act.Open o) = false
is_running act.Step = false
is_running act.Run = true

-- ---- a call that takes one turn

-- the slot that it names, 0 where it names none; a create takes the one that is first, k
abbrev pub named : Act → ℕ → ℕ
named act.Create k = k
named (act.On i h) k = i
named (act.Append kind key amount) k = 0
named (act.Batch n) k = 0
named (act.Open o) k = 0
named act.Step k = 0
named act.Run k = 0

-- the snapshot is not looked at, and stays
abbrev pub moved_as : Answer → ℕ → Control → Slot → Moved
moved_as a v c s = record { answer = a; value = v; control = c; slot = s; snapshot = 0 }

-- what was made of a slot
abbrev pub moved_by : Control → Made → Moved
moved_by c m = moved_as m.answer m.value (with_free m.free c) m.slot

-- a call on the handle in slot i
abbrev pub touched : ℕ → Handle → Control → Slot → List ℕ → List ℕ → Moved
touched i h c s l r =
    elim (leb slot_total i) [ true ↦ moved_as answer.NoSlot 0 c s | false ↦ moved_by c (handle_on c i s h l r) ]

-- step and run are made apart
unfoldable pub turn_on : Call → ℕ → Control → Slot → List ℕ → List ℕ → List ℕ → Lent Moved
turn_on Create i c s l r g = lent (moved_by c (create_on c s)) l r g
turn_on (On j h) i c s l r g = lent (touched i h c s l r) l r g
turn_on (Append os) i c s l r g = append_on os c s 0 l r g
turn_on (Open o) i c s l r g = lent (open_on o c s 0) l r g
turn_on Step i c s l r g = lent (moved_as answer.NotNow 0 c s) l r g
turn_on Run i c s l r g = lent (moved_as answer.NotNow 0 c s) l r g

-- ---- step and run, step by step

-- what a poll that is held answers, if it changes nothing
abbrev pub waiting : Job → Answer
waiting Publish = answer.Held
waiting Try = answer.Done
waiting TakeFirst = answer.Held
waiting TakeSecond = answer.Held

-- what a step answers that changes nothing, and Done for one that does; held: of the slot and the snapshot that it looks at
abbrev pub halt : Phase → Job → Bool → Answer
halt Idle j held = answer.NotNow
halt Begin j held = answer.Done
halt (Poll k) j held = elim held [ true ↦ waiting j | false ↦ answer.Done ]
halt Copy j held = answer.Done
halt Drain j held = answer.Done
halt (Keep k) j held = answer.Done
halt Swap j held = answer.Done
halt (Snap k) j held = answer.Done
halt Null j held = answer.Done
halt Lock j held = answer.Done
halt (LastSnap k) j held = answer.Done
halt (LastPoll k) j held = elim held [ true ↦ answer.Held | false ↦ answer.Done ]
halt Finish j held = answer.Done
halt Gone j held = answer.Gone

abbrev pub halt_of : Control → Slot → ℕ → Answer
halt_of c s e = halt c.phase c.job (holds s e)

-- n steps are made, and the next is at hand
abbrev pub facing : ℕ → Answer → Far
facing n a = elim (eqb (number a) 0) [ true ↦ Goes n | false ↦ Over a n ]

abbrev pub over : Moved → Far
over m = Over m.answer m.value

-- a run behind a step, of which n were made before: next is what halts it there, if the call goes on
abbrev pub ran_on : ℕ → Moved → Answer → Far
ran_on n m next =
    elim (eqb (number m.answer) 0) [
      | true ↦ elim (eqb m.value 0) [ true ↦ facing (n + 1) next | false ↦ Over answer.Done (n + 1) ]
      | false ↦ Over m.answer n
    ]

-- a step or a run behind a step
abbrev pub went_on : Bool → ℕ → Moved → Answer → Far
went_on run n m next = elim run [ true ↦ ran_on n m next | false ↦ over m ]
