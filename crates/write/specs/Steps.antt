-- What one step of the writer does, to the control part, to the one slot that it looks at with its snapshot, and to the lent words.
use Rattle.std.specs.Prelude.{ℕ, ◌+◌, ◌-◌, ◌*◌, ◌%◌, Bool, true, false, not, ◌&&◌, List, ◌++◌, length, take, drop, ◌==◌, nat_le, nat_lt, slice_index}
use Rattle.table.specs.Copy.{zeros, apply_by, close_rule}
use Rattle.table.specs.declared.Search.{Search}
use Rattle.table.specs.declared.Search.TheVariants.{Walk}
use Rattle.table.specs.declared.Answer.{Answer}
use Rattle.table.specs.declared.Answer.TheVariants as answer
use Rattle.read.specs.declared.Slot.{Slot}
use Rattle.read.specs.declared.Phase.{Phase}
use Rattle.read.specs.declared.Phase.TheVariants.{Idle, Begin, Poll, Copy, Drain, Keep, Swap, Snap, Null, Lock, LastSnap, LastPoll, Finish, Gone}
use Rattle.read.specs.declared.Job.{Job}
use Rattle.read.specs.declared.Job.TheVariants.{Publish, Try, TakeFirst, TakeSecond}
use Rattle.read.specs.declared.Control.{Control}
use Rattle.read.specs.Machine.{slot_count, log_room, underway, standing, holding, with_free}
use Rattle.read.specs.Handles.{freed, copy_of, bit}
use Rattle.read.specs.Calls.{Lent, lent}
use Rattle.write.specs.declared.Moved.{Moved}

-- ---- one slot

-- a poll is held: the slot is in use, and its epoch is still the odd one of its snapshot
abbrev pub holds : Slot → ℕ → Bool
holds s e = s.used && (e % 2 == 1 && e == s.epoch)

-- a used slot's epoch becomes its snapshot
abbrev pub seen : Slot → ℕ → ℕ
seen s e = elim s.used [ true ↦ s.epoch | false ↦ e ]

-- slot 0 is freed, unless it is free already, k being first; and which one is first then
abbrev pub vacated : ℕ → Slot → Slot
vacated k s = elim s.used [ true ↦ freed k s | false ↦ s ]

abbrev pub first_then : ℕ → Slot → ℕ
first_then k s = elim s.used [ true ↦ 0 | false ↦ k ]

-- ---- where the writer goes on, when all before is done

abbrev pub keeping : ℕ → ℕ → Phase
keeping n k = elim (nat_lt k n) [ true ↦ Keep k | false ↦ Swap ]

-- s operations before the swap index, of n
abbrev pub draining : ℕ → ℕ → Phase
draining s n = elim (nat_lt 0 s) [ true ↦ Drain | false ↦ keeping n 0 ]

abbrev pub polled : Control → Phase
polled c =
    elim c.first
    [ true ↦ Swap | false ↦ elim c.second [ true ↦ Copy | false ↦ draining c.swapped c.length ] ]

abbrev pub polling : Control → ℕ → Phase
polling c k = elim (nat_lt k slot_count) [ true ↦ Poll k | false ↦ polled c ]

-- a publish that is not the first polls first
abbrev pub beginning : Control → Phase
beginning c = elim c.first [ true ↦ Swap | false ↦ polling c 0 ]

-- what follows the last snapshot of a publish; take's first publish is followed by another if the log still holds anything
abbrev pub published : Job → ℕ → Phase
published Publish n = Idle
published Try n = Idle
published TakeFirst n = elim (nat_lt 0 n) [ true ↦ Begin | false ↦ Null ]
published TakeSecond n = Null

abbrev pub next_job : Job → Job
next_job Publish = Publish
next_job Try = Try
next_job TakeFirst = TakeSecond
next_job TakeSecond = TakeSecond

abbrev pub last_polling : ℕ → Phase
last_polling k = elim (nat_lt k slot_count) [ true ↦ LastPoll k | false ↦ Finish ]

abbrev pub last_snapping : ℕ → Phase
last_snapping k = elim (nat_lt k slot_count) [ true ↦ LastSnap k | false ↦ last_polling 0 ]

-- ---- the control part

-- another phase, with the lock that fits it
abbrev pub at : Phase → Control → Control
at p c = standing p c.job c

-- the log holds n operations, of which s stand in the copy that is read
abbrev pub with_log : ℕ → ℕ → Control → Control
with_log n s c = holding c.right c.null c.first c.second n s c

abbrev pub copied : Control → Control
copied c = holding c.right c.null c.first false c.length c.swapped c

abbrev pub swapped_over : Control → Control
swapped_over c = holding (not c.right) c.null false c.second c.length c.length c

abbrev pub nulled : Control → Control
nulled c = holding c.right true c.first c.second c.length c.swapped c

-- take's finish: the log is empty, and slot 0, which is s, is free
abbrev pub finished : Slot → Control → Control
finished s c = with_log 0 0 (with_free (first_then c.free s) c)

-- a publish ends
abbrev pub ended : Control → Control
ended c = standing (published c.job c.length) (next_job c.job) c

abbrev pub snapping : Control → ℕ → Control
snapping c k = elim (nat_lt k slot_count) [ true ↦ at (Snap k) c | false ↦ ended c ]

abbrev pub drained : Control → Control
drained c =
    let n = c.length - 1 in
    let s = c.swapped - 1 in
    at (draining s n) (with_log n s c)

-- ---- the lent words

-- the copy that the pointer does not name becomes what f makes of it; right: the pointer names the right copy
abbrev pub of_left : Bool → (List ℕ → List ℕ) → List ℕ → List ℕ
of_left right f l = elim right [ true ↦ f l | false ↦ l ]

abbrev pub of_right : Bool → (List ℕ → List ℕ) → List ℕ → List ℕ
of_right right f r = elim right [ true ↦ r | false ↦ f r ]

-- an operation applied, by how its key is searched; one that is not as its kind asks, and a copy that is unfit, change nothing
abbrev pub operated_by : Search → ℕ → ℕ → ℕ → List ℕ → List ℕ
operated_by how kind key amount w = (apply_by how kind key amount w).copy

abbrev pub operated : ℕ → ℕ → ℕ → List ℕ → List ℕ
operated = operated_by Walk

-- operation i of the log, applied
abbrev pub log_applied_by : Search → List ℕ → ℕ → List ℕ → List ℕ
log_applied_by how g i w =
    elim (nat_lt i log_room)
    [ true ↦ operated_by how (slice_index g (3 * i)) (slice_index g (3 * i + 1)) (slice_index g (3 * i + 2)) w | false ↦ w ]

abbrev pub log_applied : List ℕ → ℕ → List ℕ → List ℕ
log_applied = log_applied_by Walk

-- the words of one copy over those of another, as many as both have
abbrev pub over : List ℕ → List ℕ → List ℕ
over from to = take (length to) from ++ drop (length from) to

-- the first of n operations taken off
abbrev pub unlogged : ℕ → List ℕ → List ℕ
unlogged n g = elim (nat_le n log_room) [ true ↦ close_rule 3 (3 * (n - 1)) g | false ↦ g ]

-- ---- one step, by how the key of an operation is searched

-- a step that is made; its value says whether the call ended
abbrev pub moved : Control → Slot → ℕ → Moved
moved c s e = record { answer = answer.Done; value = bit (not (underway c.phase)); control = c; slot = s; snapshot = e }

abbrev pub refused : Answer → Control → Slot → ℕ → Moved
refused a c s e = record { answer = a; value = 0; control = c; slot = s; snapshot = e }

-- a poll that does not pass is held, and changes nothing; that of a try declines, and ends the call
abbrev pub stopped : Job → Control → Slot → ℕ → Moved
stopped Publish c s e = refused answer.Held c s e
stopped Try c s e = record { answer = answer.Declined; value = 1; control = at Idle c; slot = s; snapshot = e }
stopped TakeFirst c s e = refused answer.Held c s e
stopped TakeSecond c s e = refused answer.Held c s e

-- a poll, by whether it is held
abbrev pub poll_move : Bool → ℕ → Control → Slot → ℕ → Moved
poll_move held k c s e = elim held [ true ↦ stopped c.job c s e | false ↦ moved (at (polling c (k + 1)) c) s e ]

abbrev pub last_poll_move : Bool → ℕ → Control → Slot → ℕ → Moved
last_poll_move held k c s e =
    elim held [ true ↦ refused answer.Held c s e | false ↦ moved (at (last_polling (k + 1)) c) s e ]

unfoldable pub step_by : Search → Phase → Control → Slot → ℕ → List ℕ → List ℕ → List ℕ → Lent Moved
step_by how Idle c s e l r g = lent (refused answer.NotNow c s e) l r g
step_by how Begin c s e l r g = lent (moved (at (beginning c) c) s e) l r g
step_by how (Poll k) c s e l r g = lent (poll_move (holds s e) k c s e) l r g
step_by how Copy c s e l r g =
    let f = over (copy_of c.right l r) in
    lent (moved (at (draining c.swapped c.length) (copied c)) s e) (of_left c.right f l) (of_right c.right f r) g
step_by how Drain c s e l r g =
    let f = log_applied_by how g 0 in
    lent (moved (drained c) s e) (of_left c.right f l) (of_right c.right f r) (unlogged c.length g)
step_by how (Keep k) c s e l r g =
    let f = log_applied_by how g k in
    lent (moved (at (keeping c.length (k + 1)) c) s e) (of_left c.right f l) (of_right c.right f r) g
step_by how Swap c s e l r g = lent (moved (snapping (swapped_over c) 0) s e) l r g
step_by how (Snap k) c s e l r g = lent (moved (snapping c (k + 1)) s (seen s e)) l r g
step_by how Null c s e l r g = lent (moved (at Lock (nulled c)) s e) l r g
step_by how Lock c s e l r g = lent (moved (at (last_snapping 0) c) s e) l r g
step_by how (LastSnap k) c s e l r g = lent (moved (at (last_snapping (k + 1)) c) s (seen s e)) l r g
step_by how (LastPoll k) c s e l r g = lent (last_poll_move (holds s e) k c s e) l r g
step_by how Finish c s e l r g =
    lent (moved (at Gone (finished s c)) (vacated c.free s) e) (of_left c.right zeros l) (of_right c.right zeros r) (zeros g)
step_by how Gone c s e l r g = lent (refused answer.Gone c s e) l r g

abbrev pub step_at : Phase → Control → Slot → ℕ → List ℕ → List ℕ → List ℕ → Lent Moved
step_at = step_by Walk
