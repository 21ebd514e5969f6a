-- Wrong machines: each differs from the rules in one thing. That a statement is false of each is proved in the
-- other files of this folder.
use Prim.Native.Nat.{ℕ, zero, suc, ◌+◌, ◌-◌, ◌*◌, ◌%◌, ◌^◌}
use mathlib.Core.Bool.{Bool, true, false, not, ◌&&◌, ◌||◌}
use mathlib.Core.List.{List, [], ◌∷◌, ◌++◌, reverse}
use lib.ListN.{length, take, drop, set}
use lib.Dec.{eqb, ltb, leb}
use Rattle.table.specs.declared.Answer.{Answer}
use Rattle.table.specs.declared.Answer.TheVariants as answer
use Rattle.table.specs.declared.Search.TheVariants.{Walk}
use Rattle.table.specs.Copy.{words, zeros, entries, lawful}
use Rattle.table.specs.Answers.{number}
use Rattle.table.specs.Order.{Op}
use Rattle.read.specs.declared.Guard.{Guard}
use Rattle.std.specs.Prelude.{None, Some, Ok, Err}
use Rattle.read.specs.declared.Job.TheVariants.{Try}
use Rattle.read.specs.declared.Slot.{Slot}
use Rattle.read.specs.declared.Phase.{Phase}
use Rattle.read.specs.declared.Phase.TheVariants.{Idle, Poll, Swap, Null}
use Rattle.read.specs.declared.Control.{Control}
use Rattle.read.specs.declared.State.{State}
use Rattle.read.specs.declared.Reply.{Reply}
use Rattle.read.specs.Machine.{slot_count, with_use, with_reading, holding, with_free, log_room, shut, put_guard, same, new_slot, sized, judged, fresh, row, place}
use Rattle.read.specs.Handles.{smallest, with_due, freed}
use Rattle.read.specs.Calls.{Lent, lent, slot_at, with_slot, refusal, start_rule}
use Rattle.write.specs.declared.Moved.{Moved}
use Rattle.write.specs.Call.{Call, Create, On, Append, Open, Step, Run}
use Rattle.write.specs.Steps.{holds, seen, polled, polling, at, draining, with_log, snapping, moved, refused, stopped, poll_move, step_at}
use Rattle.write.specs.Begins.{writer_signs, batch_room, all_lawful, lawful_batch, crowds, appended}
use Rattle.write.specs.Runs.{with_move, snap_at, lift, step_on, enough, run_while}
use Rattle.write.specs.Machine.{going, call_on, call_rule}
use Rattle.write.specs.Numbers.{call_number, slot_of, ops_of}
use Rattle.write.specs.World.{Machine, reply, world_of}
use Rattle.write.proofs.Cases.{with_job}
use Rattle.demands.proofs.Phases.{is_try_job}

-- ---- a machine with another step

abbrev pub Stepper : Type 0
Stepper = Phase → Control → Slot → ℕ → List ℕ → List ℕ → List ℕ → Lent Moved

unfoldable pub step_by : Stepper → State → List ℕ → List ℕ → List ℕ → Lent Reply
step_by f st l r g =
    let c = st.control in
    let i = place c.phase in
    lift i st (f c.phase c (slot_at st i) (snap_at st i) l r g)

abbrev pub judging : (State → List ℕ → List ℕ → List ℕ → Lent Reply) → State → List ℕ → List ℕ → List ℕ → Lent Reply
judging rule st l r g = elim (judged st l r g) [ Ok _ ↦ rule st l r g | Err a ↦ lent (refusal a st) l r g ]

unfoldable pub with_step : Stepper → Machine
with_step f Create st l r g = call_rule Create st l r g
with_step f (On i h) st l r g = call_rule (On i h) st l r g
with_step f (Append os) st l r g = call_rule (Append os) st l r g
with_step f (Open o) st l r g = call_rule (Open o) st l r g
with_step f Step st l r g = judging (going 12 (step_by f)) st l r g
with_step f Run st l r g = judging (going 13 (run_while (step_by f) enough 0)) st l r g

-- the rules' step, but in the phases of one row of the table of admissions
abbrev pub but : ℕ → Stepper → Stepper
but n f p c s e l r g = elim (eqb (row p) n) [ true ↦ f p c s e l r g | false ↦ step_at p c s e l r g ]

-- ---- a machine with another call

-- another machine where the call has this number
abbrev pub instead : ℕ → Machine → Machine
instead call m k st l r g = elim (eqb (call_number k) call) [ true ↦ m k st l r g | false ↦ call_rule k st l r g ]

-- another reply where the call has this number and this answer
abbrev pub changing : Machine → ℕ → ℕ → (Call → Lent Reply → Lent Reply) → Machine
changing m call ans f k st l r g =
    let o = m k st l r g in
    elim (eqb (call_number k) call && eqb (number o.made.answer) ans) [ true ↦ f k o | false ↦ o ]

-- ---- something changed

abbrev pub replied : Answer → ℕ → State → Lent Reply → Lent Reply
replied a v st o = lent (record { answer = a; value = v; state = st }) o.left o.right o.log

abbrev pub answered : Answer → Lent Reply → Lent Reply
answered a o = replied a o.made.value o.made.state o

abbrev pub revalued : ℕ → Lent Reply → Lent Reply
revalued v o = replied o.made.answer v o.made.state o

abbrev pub restated : (State → State) → Lent Reply → Lent Reply
restated f o = replied o.made.answer o.made.value (f o.made.state) o

abbrev pub with_control : (Control → Control) → State → State
with_control f st = with_move 0 (f st.control) (slot_at st 0) (snap_at st 0) st

abbrev pub with_snapshot : ℕ → (State → ℕ) → State → State
with_snapshot i f st = with_move i st.control (slot_at st i) (f st) st

abbrev pub of_slot : ℕ → (Slot → Slot) → State → State
of_slot i f st = with_slot i (f (slot_at st i)) st

-- slot i is freed, and is first
abbrev pub freeing : ℕ → State → State
freeing i st = with_move i (with_free i st.control) (freed st.control.free (slot_at st i)) (snap_at st i) st

abbrev pub with_guards : List Guard → Slot → Slot
with_guards gs s = with_reading s.epoch gs s.due s

abbrev pub with_epoch : (ℕ → ℕ) → Slot → Slot
with_epoch f s = with_due (f s.epoch) s.due s

abbrev pub with_flags : Bool → Bool → Control → Control
with_flags right second c = holding right c.null c.first second c.length c.swapped c

abbrev pub pointing : Bool → Control → Control
pointing right c = with_flags right c.second c

-- a step that is made as it was, with another control part
abbrev pub steered : (Control → Control) → Lent Moved → Lent Moved
steered f m = lent (moved (f m.made.control) m.made.slot m.made.snapshot) m.left m.right m.log

-- ---- polls

-- the polls of a publish, held by another test
abbrev pub polled_by : (Slot → ℕ → Bool) → Machine
polled_by held = with_step (but 2 (λ p c s e l r g. lent (poll_move (held s e) (place p) c s e) l r g))

-- an odd snapshot that equals the epoch passes too
abbrev pub passes_readers : Machine
passes_readers = polled_by (λ s e. false)

-- every poll is held
abbrev pub holds_all : Machine
holds_all = polled_by (λ s e. true)

-- an even snapshot holds too
abbrev pub held_by_even : Machine
held_by_even = polled_by (λ s e. s.used && eqb e s.epoch)

-- only an epoch that is greater than its snapshot passes
abbrev pub compares_greater : Machine
compares_greater = polled_by (λ s e. s.used && (eqb (e % 2) 1 && leb s.epoch e))

-- whoever is inside holds, whenever he entered
abbrev pub held_by_anyone : Machine
held_by_anyone = polled_by (λ s e. s.used && eqb (s.epoch % 2) 1)

-- the first poll ends the polling
abbrev pub skips_polls : Machine
skips_polls = with_step (but 2 (λ p c s e l r g. lent (moved (at (polled c) c) s e) l r g))

-- polls of one row that are held do something else
abbrev pub when_held : ℕ → (Phase → Control → Slot → ℕ → Moved) → Machine
when_held n f =
    with_step (but n (λ p c s e l r g. elim (holds s e) [ true ↦ lent (f p c s e) l r g | false ↦ step_at p c s e l r g ]))

-- a poll that is held says so, and goes elsewhere
abbrev pub held_goes : (ℕ → Control → Phase) → Machine
held_goes f = when_held 2 (λ p c s e. refused answer.Held (at (f (place p) c) c) s e)

-- to slot 0
abbrev pub starts_over : Machine
starts_over = held_goes (λ k c. Poll 0)

-- to the next slot
abbrev pub held_moves_on : Machine
held_moves_on = held_goes (λ k c. polling c (k + 1))

-- nowhere: but a try is held too, and not declined
abbrev pub try_waits : Machine
try_waits = held_goes (λ k c. c.phase)

-- a take that meets a reader after null is declined
abbrev pub take_declines : Machine
take_declines = when_held 11 (λ p. stopped Try)

-- ---- snapshots

-- the snapshots of a publish, of slot i, read in another way
abbrev pub snaps_by : (ℕ → Slot → ℕ → ℕ) → Machine
snaps_by f = with_step (but 7 (λ p c s e l r g. lent (moved (snapping c (place p + 1)) s (f (place p) s e)) l r g))

-- slot 1's epoch is not read into its snapshot
abbrev pub forgets_slot : Machine
forgets_slot = snaps_by (λ i s e. elim (eqb i 1) [ true ↦ e | false ↦ seen s e ])

-- the epoch of a free slot is read too
abbrev pub snaps_free : Machine
snaps_free = snaps_by (λ i s e. s.epoch)

-- an even epoch is read as 0
abbrev pub snaps_even : Machine
snaps_even = snaps_by (λ i s e. elim (eqb (seen s e % 2) 0) [ true ↦ 0 | false ↦ seen s e ])

-- every second slot has no snapshot step
abbrev pub skips_slot : Machine
skips_slot = with_step (but 7 (λ p c s e l r g. lent (moved (snapping c (place p + 2)) s (seen s e)) l r g))

-- take goes to null after its first publish, whatever the log holds
abbrev pub nulls_early : Machine
nulls_early =
    with_step (but 7 (λ p c s e l r g.
    let m = step_at p c s e l r g in
    elim (eqb (row m.made.control.phase) 1) [ true ↦ steered (at Null) m | false ↦ m ]))

-- take polls by the snapshots of the last publish
abbrev pub old_snapshots : Machine
old_snapshots = with_step (but 10 (λ p c s e l r g. lent (moved (step_at p c s e l r g).made.control s e) l r g))

-- ---- the other steps

-- every step is answered 0, and nothing is done
abbrev pub ignores_steps : Machine
ignores_steps = with_step (λ p c s e l r g. lent (moved c s e) l r g)

-- the steps of one row leave something else: by the control part before, the step with the words before it, and the step
abbrev pub leaving : ℕ → (Control → Lent Moved → Lent Moved → Lent Moved) → Machine
leaving n f = with_step (but n (λ p c s e l r g. let m = step_at p c s e l r g in f c (lent m.made l r g) m))

-- the copying step copies nothing
abbrev pub leaves_copying : Machine
leaves_copying = leaving 3 (λ c o m. o)

-- the copying leaves a word behind the used part of the left copy
abbrev pub copy_trails : Machine
copy_trails = leaving 3 (λ c o m. lent m.made (set m.left (words - 1) 1) m.right m.log)

-- an operation is taken off the log, and the swap index stays
abbrev pub leaves_index : Machine
leaves_index =
    leaving 4 (λ c o m.
    let n = c.length - 1 in
    steered (λ d. at (draining c.swapped n) (with_log n c.swapped c)) m)

-- an operation is taken off the log, and the words that this frees stay
abbrev pub drain_leaves : Machine
drain_leaves =
    leaving 4 (λ c o m.
    let n = 3 * (c.length - 1) in
    lent m.made m.left m.right (take n m.log ++ drop n o.log))

-- the swap makes the spill of the right copy 1
abbrev pub spills : Machine
spills = leaving 6 (λ c o m. lent m.made m.left (set m.right 1 1) m.log)

-- a try before the first swap does not swap
abbrev pub idle_try : Machine
idle_try = leaving 6 (λ c o m. elim (c.first && is_try_job c.job) [ true ↦ steered (pointing c.right) m | false ↦ m ])

-- take's finish zeroes nothing
abbrev pub leaves_other : Machine
leaves_other = leaving 12 (λ c o m. o)

-- take's finish zeroes both copies
abbrev pub zeroes_both : Machine
zeroes_both = leaving 12 (λ c o m. lent m.made (zeros o.left) (zeros o.right) m.log)

-- take's finish leaves the copies on each other's sides
abbrev pub hands_other : Machine
hands_other = leaving 12 (λ c o m. lent m.made m.right m.left m.log)

-- no word of the log is ever zeroed, by a drain or by take's finish
abbrev pub leaves_log : Machine
leaves_log =
    with_step (λ p c s e l r g.
    let m = step_at p c s e l r g in
    elim (eqb (row p) 4 || eqb (row p) 12) [ true ↦ lent m.made m.left m.right g | false ↦ m ])

-- take's finish changes the side that the pointer had
abbrev pub finish_turns : Machine
finish_turns = leaving 12 (λ c o m. steered (pointing (not c.right)) m)

-- ---- runs

-- a run that ended the call says that it made one step more
abbrev pub invents_value : Machine
invents_value = changing call_rule 14 0 (λ k o. revalued (o.made.value + 1) o)

-- a run makes a single step, and says that it is done
abbrev pub runs_once : Machine
runs_once = instead 14 (λ k. judging (going 13 (run_while step_on 1 0)))

-- a run that ended the call says that it made no step
abbrev pub runs_free : Machine
runs_free = changing call_rule 14 0 (λ k. revalued 0)

-- a run that ended the call clears slot 0's snapshot
abbrev pub run_clears : Machine
run_clears = changing call_rule 14 0 (λ k. restated (with_snapshot 0 (λ st. 0)))

-- a run that ended the call is answered as one step more would be
abbrev pub runs_past : Machine
runs_past =
    changing call_rule 14 0 (λ k o. answered (reply call_rule Step (world_of o)).made.answer o)

-- a run that is held says that it was declined
abbrev pub run_declines : Machine
run_declines = changing call_rule 14 13 (λ k. answered answer.Declined)

-- a run that is held goes to the poll of the next slot
abbrev pub run_slips : Machine
run_slips = changing call_rule 14 13 (λ k. restated (with_control (λ c. at (polling c (place c.phase + 1)) c)))

-- ---- calls on a handle

-- every call is refused
abbrev pub refuses_all : Machine
refuses_all k st l r g = lent (refusal answer.NotNow st) l r g

-- every call is answered 0, and nothing is done
abbrev pub does_nothing : Machine
does_nothing k st l r g = lent (record { answer = answer.Done; value = 0; state = st }) l r g

-- create hands out slot 1 alone
abbrev pub two_slots : Machine
two_slots =
    instead 1 (λ k st l r g.
    let o = call_rule k st l r g in
    elim (leb 2 o.made.value) [ true ↦ lent (refusal answer.SlotsFull st) l r g | false ↦ o ])

-- a create says slot 1, whichever it uses
abbrev pub creates_one : Machine
creates_one = changing call_rule 1 0 (λ k. revalued 1)

-- create does not wait for the lock
abbrev pub creates_locked : Machine
creates_locked =
    instead 1 (λ k st l r g. restated (with_control (λ c. with_free c.free st.control)) (call_rule k (with_control (at Idle) st) l r g))

-- a create clears the slot's snapshot
abbrev pub clears_at_create : Machine
clears_at_create = changing call_rule 1 0 (λ k o. restated (with_snapshot o.made.value (λ st. 0)) o)

-- a drop clears it
abbrev pub clears_at_drop : Machine
clears_at_drop = changing call_rule 2 0 (λ k. restated (with_snapshot (slot_of k) (λ st. 0)))

-- a drop zeroes the slot's epoch
abbrev pub drop_zeroes : Machine
drop_zeroes = changing call_rule 2 0 (λ k. restated (of_slot (slot_of k) (with_epoch (λ e. 0))))

-- a drop leaves the slot in use
abbrev pub drop_keeps : Machine
drop_keeps = instead 2 (λ k st l r g. restated (λ x. st) (call_rule k st l r g))

-- a drop with guards is made
abbrev pub drops_open : Machine
drops_open = changing call_rule 2 8 (λ k o. answered answer.Done (restated (freeing (slot_of k)) o))

-- an enter says guard 0, whichever opens
abbrev pub enters_zero : Machine
enters_zero = changing call_rule 3 0 (λ k. revalued 0)

-- an enter reads its epoch into the snapshot
abbrev pub enters_snapped : Machine
enters_snapped = changing call_rule 3 0 (λ k. restated (with_snapshot (slot_of k) (λ st. (slot_at st (slot_of k)).epoch)))

-- a go on says guard 7, whichever opens
abbrev pub goes_to_seven : Machine
goes_to_seven = changing call_rule 4 0 (λ k. revalued 7)

-- every release also closes guard 3
abbrev pub closes_third : Machine
closes_third = changing call_rule 5 0 (λ k. restated (of_slot (slot_of k) (λ s. with_guards (put_guard 3 shut s.guards) s)))

-- a release leaves its guard open
abbrev pub keeps_guard : Machine
keeps_guard =
    instead 5 (λ k st l r g.
    restated (of_slot (slot_of k) (with_guards (slot_at st (slot_of k)).guards)) (call_rule k st l r g))

-- an epoch goes round from 3 to 0
abbrev pub rounds_soon : Machine
rounds_soon =
    let short : Call → Lent Reply → Lent Reply = λ k. restated (of_slot (slot_of k) (with_epoch (λ e. e % 4))) in
    changing (changing call_rule 3 0 short) 5 0 short

-- the empty table is shown always
abbrev pub shows_empty : Machine
shows_empty = changing call_rule 6 0 (λ k. revalued 0)

-- ---- which slot is handed out

-- those that were freed, from k on, n at most; and behind them the lowest never used
abbrev pub freed_from : ℕ → ℕ → State → List ℕ
freed_from zero k st = []
freed_from (suc n) k st = elim (slot_at st k).link [ None ↦ [] | Some j ↦ k ∷ freed_from n j st ]

abbrev pub new_from : ℕ → ℕ → State → ℕ
new_from zero k st = k
new_from (suc n) k st = elim (slot_at st k).link [ None ↦ k | Some j ↦ new_from n j st ]

abbrev pub freed_in : State → List ℕ
freed_in st = freed_from slot_count st.control.free st

abbrev pub new_in : State → ℕ
new_in st = new_from slot_count st.control.free st

-- these come first, in this order, and then e
abbrev pub arranged : List ℕ → ℕ → State → State
arranged [] e st = with_control (with_free e) st
arranged (i ∷ is) e st = freeing i (arranged is e st)

-- a create, where it is made, finds another order
abbrev pub creating : (State → State) → Machine
creating f =
    instead 1 (λ k st l r g.
    let o = call_rule k st l r g in
    elim (number o.made.answer) [ zero ↦ call_rule k (f st) l r g | suc n ↦ o ])

-- those of the n numbers from i on that are free
abbrev pub vacant_from : ℕ → ℕ → State → List ℕ
vacant_from zero i st = []
vacant_from (suc n) i st = elim (slot_at st i).used [ true ↦ vacant_from n (suc i) st | false ↦ i ∷ vacant_from n (suc i) st ]

-- a create hands out the lowest free slot
abbrev pub lowest_free : Machine
lowest_free = creating (λ st. arranged (vacant_from (new_in st) 0 st) (new_in st) st)

-- a create hands out new numbers before those that were freed
abbrev pub new_first : Machine
new_first =
    creating (λ st.
    let e = new_in st in
    elim (ltb e slot_count) [ true ↦ arranged (e ∷ freed_in st) (suc e) st | false ↦ st ])

-- a drop puts its slot behind those that were freed before, so that the one freed first is handed out first
abbrev pub first_freed : Machine
first_freed =
    instead 2 (λ k st l r g.
    let o = call_rule k st l r g in
    elim (number o.made.answer) [
      | zero ↦ restated (λ x. arranged (freed_in st ++ (slot_of k ∷ [])) (new_in st) st) o
      | suc n ↦ o
    ])

-- take's finish leaves slot 0 as it is: it is not handed out any more
abbrev pub finish_forgets : Machine
finish_forgets =
    with_step (but 12 (λ p c s e l r g.
    let m = step_at p c s e l r g in
    lent (moved (with_free c.free m.made.control) s e) m.left m.right m.log))

-- take's finish frees slot 0, and puts it nowhere in the order: the state is broken then
abbrev pub finish_loses : Machine
finish_loses =
    with_step (but 12 (λ p c s e l r g.
    let m = step_at p c s e l r g in
    lent (moved (with_free c.free m.made.control) (with_use false s.link s) e) m.left m.right m.log))

-- a create with all slots in use is answered 0, and nothing is done
abbrev pub creates_full : Machine
creates_full = changing call_rule 1 12 (λ k o. replied answer.Done o.made.state.control.free o.made.state o)

-- ---- calls of the writer

-- an operation is of this kind
abbrev pub has_kind : ℕ → List Op → Bool
has_kind n [] = false
has_kind n (o ∷ os) = eqb o.kind n || has_kind n os

-- an append before the first swap goes to the copy that is pointed at: the two are exchanged for the call
abbrev pub appends_to_read : Machine
appends_to_read = instead 8 (λ k st l r g. let o = call_rule k st r l g in lent o.made o.right o.left o.log)

-- an append before the first swap raises slot 0's epoch by so much, and not by 2
abbrev pub stirring : (List Op → ℕ) → Machine
stirring f =
    instead 8 (λ k st l r g.
    let o = call_rule k st l r g in
    elim (st.control.first && eqb (number o.made.answer) 0)
    [ true ↦ restated (of_slot 0 (with_epoch (λ e. ((slot_at st 0).epoch + f (ops_of k)) % 2 ^ 64))) o | false ↦ o ])

-- by 3 where a CLEAR is among its operations
abbrev pub odd_clear : Machine
odd_clear = stirring (λ os. elim (has_kind 3 os) [ true ↦ 3 | false ↦ 2 ])

-- by 2 for each operation
abbrev pub stirs_each : Machine
stirs_each = stirring (λ os. 2 * length os)

-- by nothing where it has no operation
abbrev pub counts_none : Machine
counts_none = stirring (λ os. elim os [ [] ↦ 0 | o ∷ os ↦ 2 ])

-- an append with a DROP before the first swap changes the entry count alone
abbrev pub drop_trails : Machine
drop_trails =
    instead 8 (λ k st l r g.
    let o = call_rule k st l r g in
    elim (has_kind 2 (ops_of k) && st.control.first)
    [ true ↦ lent o.made o.left (set r 0 (entries o.right)) o.log | false ↦ o ])

-- an append that fills the log is refused
abbrev pub full_early : Machine
full_early =
    instead 8 (λ k st l r g.
    let o = call_rule k st l r g in
    elim (leb log_room o.made.state.control.length && eqb (number o.made.answer) 0) [ true ↦ lent (refusal answer.LogFull st) l r g | false ↦ o ])

-- a batch is taken backwards
abbrev pub backwards : Machine
backwards = instead 8 (λ k. call_rule (Append (reverse (ops_of k))))

-- a part of a batch, taken where the whole was refused
abbrev pub taking_of : (State → List Op → List Op) → Call → Lent Reply → Lent Reply
taking_of f k o = reply call_rule (Append (f o.made.state (ops_of k))) (world_of o)

-- the part that the log can hold
abbrev pub fitting : Call → Lent Reply → Lent Reply
fitting = taking_of (λ st os. take (log_room - st.control.length) os)

-- a batch that does not fit is answered 0, and what fits is logged
abbrev pub takes_some : Machine
takes_some = changing call_rule 8 11 fitting

-- the same, and it is answered 11
abbrev pub takes_what_fits : Machine
takes_what_fits = changing call_rule 8 11 (λ k o. answered answer.LogFull (fitting k o))

abbrev pub before_bad : List Op → List Op
before_bad [] = []
before_bad (o ∷ os) = elim (lawful o.kind o.key o.amount) [ true ↦ o ∷ before_bad os | false ↦ [] ]

-- the operations before a bad one are taken, and it is answered 5
abbrev pub stops_at_bad : Machine
stops_at_bad = changing call_rule 8 5 (λ k o. answered answer.Operation (taking_of (λ st. before_bad) k o))

-- the operations of an append are tested otherwise
abbrev pub testing : (List Op → Bool) → Machine
testing test =
    instead 8 (λ k. judging (λ st l r g.
    let os = ops_of k in
    let c = st.control in
    let s = slot_at st 0 in
    let e = snap_at st 0 in
    lift 0 st
    (elim (smallest (writer_signs 7 (not (test os)) (crowds (length os) c) c s))
    [ Ok _ ↦ appended Walk c.first os c s e l r g | Err a ↦ lent (refused a c s e) l r g ])))

-- one more than there is room for is taken
abbrev pub takes_more : Machine
takes_more = testing (λ os. leb (length os) (batch_room + 1) && all_lawful os)

-- an empty batch is refused
abbrev pub refuses_empty : Machine
refuses_empty = testing (λ os. ltb 0 (length os) && lawful_batch os)

-- the refusal of a bad operation changes a word
abbrev pub refusal_writes : Machine
refusal_writes = changing call_rule 8 5 (λ k o. lent o.made (set o.left 2 1) o.right o.log)

-- the refusal of a bad operation has a value
abbrev pub refusal_counts : Machine
refusal_counts = changing call_rule 8 5 (λ k. revalued 1)

-- a bad operation is answered as a wrong length
abbrev pub calls_short : Machine
calls_short = changing call_rule 8 5 (λ k. answered answer.Length)

-- or as a broken state
abbrev pub calls_broken : Machine
calls_broken = changing call_rule 8 5 (λ k. answered answer.Broken)

-- publish begins a try
abbrev pub publish_tries : Machine
publish_tries = changing call_rule 9 0 (λ k. restated (with_control (with_job Try)))

-- publish does not look at slot 0, which may have a guard or a step due
abbrev pub publishes_inside : Machine
publishes_inside = instead 9 (λ k st l r g. restated (with_slot 0 (slot_at st 0)) (call_rule k (with_slot 0 new_slot st) l r g))

-- a publish after take's finish is answered 0, and nothing is done
abbrev pub publishes_gone : Machine
publishes_gone = changing call_rule 9 3 (λ k. answered answer.Done)

-- an append and a publish are answered 0 where they are not to be made now, and nothing is done
abbrev pub accepts_busy : Machine
accepts_busy = changing (changing call_rule 8 6 (λ k. answered answer.Done)) 9 6 (λ k. answered answer.Done)

-- a publish swaps at its beginning, and each of its steps changes the phase alone
abbrev pub swaps_at_begin : Machine
swaps_at_begin =
    changing
    (with_step (λ p c s e l r g.
    let m = (step_at p c s e l r g).made in
    lent (record { answer = m.answer; value = m.value; control = pointing c.right (with_free c.free m.control); slot = s; snapshot = e }) l r g))
    9 0 (λ k. restated (with_control (λ c. pointing (not c.right) c)))

-- flush begins a try
abbrev pub flush_tries : Machine
flush_tries = changing call_rule 11 0 (λ k. restated (with_control (with_job Try)))

-- flush begins the first publish
abbrev pub flushes_first : Machine
flushes_first =
    changing call_rule 11 0 (λ k o.
    elim o.made.state.control.first [ true ↦ revalued 1 (restated (with_control (at Swap)) o) | false ↦ o ])

-- a flush of nothing forgets that the copies were synchronised
abbrev pub flush_forgets : Machine
flush_forgets =
    changing call_rule 11 0 (λ k o.
    elim o.made.value [ zero ↦ restated (with_control (λ c. with_flags c.right true c)) o | suc n ↦ o ])

-- take goes to null at once
abbrev pub takes_unpublished : Machine
takes_unpublished = changing call_rule 12 0 (λ k. restated (with_control (at Null)))

-- ---- what every call is judged on

-- words of wrong lengths, or those of the right ones, are not judged
abbrev pub unjudged : Bool → Machine
unjudged right k st l r g = elim (same right (sized l r g)) [ true ↦ call_on k st l r g | false ↦ call_rule k st l r g ]

-- words of any length are taken
abbrev pub any_length : Machine
any_length = unjudged false

-- nothing but the lengths is judged
abbrev pub any_state : Machine
any_state = unjudged true

-- the release of the last guard takes the largest epoch to 2^64
abbrev pub never_rounds : Machine
never_rounds =
    instead 5 (λ k st l r g.
    let e = (slot_at st (slot_of k)).epoch in
    restated (of_slot (slot_of k) (with_epoch (λ x. elim (eqb x e) [ true ↦ e | false ↦ e + 1 ]))) (call_rule k st l r g))

-- ---- the start

abbrev pub Starter : Type 0
Starter = List ℕ → List ℕ → List ℕ → Lent Reply

-- every start is refused
abbrev pub start_refuses : Starter
start_refuses l r g = lent (refusal answer.Length fresh) l r g

-- words of any length are taken
abbrev pub starts_any_length : Starter
starts_any_length l r g = lent (record { answer = answer.Done; value = 0; state = fresh }) (zeros l) (zeros r) (zeros g)

-- no word is zeroed
abbrev pub start_leaves : Starter
start_leaves l r g = lent (start_rule l r g).made l r g

-- words of a wrong length are zeroed too
abbrev pub start_zeroes : Starter
start_zeroes l r g = lent (start_rule l r g).made (zeros l) (zeros r) (zeros g)

-- a start has a value
abbrev pub start_counts : Starter
start_counts l r g = revalued 1 (start_rule l r g)
