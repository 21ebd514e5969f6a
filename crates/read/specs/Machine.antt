-- The machine's parts: sizes, the fresh state, the writer's phases, and what makes a state broken.
use Rattle.std.specs.Prelude.{ℕ, zero, suc, ◌+◌, ◌-◌, ◌*◌, Bool, true, false, not, ◌&&◌, ◌||◌, ltb, List, ◌∷◌, length, replicate, ◌==◌, nat_le, nat_lt, slice_index, slice_index_or, slice_set, Option, None, Some, Result, ⊤, Ok, Err}
use Rattle.table.specs.Seek.{seek}
use Rattle.table.specs.Copy.{pairs, words, entries, lawful}
use Rattle.table.specs.declared.Answer.{Answer}
use Rattle.table.specs.declared.Answer.TheVariants.{Length, Broken}
use Rattle.read.specs.declared.Due.{Due}
use Rattle.read.specs.declared.Due.TheVariants.{Nothing, Load, Restore}
use Rattle.read.specs.declared.Guard.{Guard}
use Rattle.read.specs.declared.Slot.{Slot}
use Rattle.read.specs.declared.Phase.{Phase}
use Rattle.read.specs.declared.Phase.TheVariants.{Idle, Begin, Poll, Copy, Drain, Keep, Swap, Snap, Null, Lock, LastSnap, LastPoll, Finish, Gone}
use Rattle.read.specs.declared.Job.{Job}
use Rattle.read.specs.declared.Job.TheVariants.{Publish}
use Rattle.read.specs.declared.Control.{Control}
use Rattle.read.specs.declared.State.{State}

-- ---- sizes

-- the number of slots as the code's arrays have it; and shut, for rules and laws, which hold of any number
abbrev pub slot_total : ℕ
slot_total = 16

unfoldable pub slot_count : ℕ
slot_count = slot_total

abbrev pub guard_count : ℕ
guard_count = 4

-- how many operations the log has room for, each of three words
abbrev pub log_room : ℕ
log_room = 256

abbrev pub log_words : ℕ
log_words = 3 * log_room

-- ---- guards and slots

abbrev pub shut : Guard
shut = record { opened = false; right = false }

-- a guard that opens on a side
abbrev pub open_on : Bool → Guard
open_on right = record { opened = true; right = right }

abbrev pub no_guards : List Guard
no_guards = replicate guard_count shut

-- guard j is there: its number is not over 3, and it is open
abbrev pub is_open : List Guard → ℕ → Bool
is_open gs j = nat_lt j guard_count && (slice_index_or gs j shut).opened

abbrev pub stands_right : List Guard → ℕ → Bool
stands_right gs j = nat_lt j guard_count && (slice_index_or gs j shut).right

abbrev pub put_guard : ℕ → Guard → List Guard → List Guard
put_guard j x gs = elim (nat_lt j guard_count) [ true ↦ slice_set gs j x | false ↦ gs ]

abbrev pub same : Bool → Bool → Bool
same true b = b
same false b = not b

-- the first guard that is open, or that is shut, by what is wanted; or their number
abbrev pub first_guard : Bool → List Guard → ℕ
first_guard want gs = seek (λ j. same want (is_open gs j)) 0 guard_count

abbrev pub any_open : List Guard → Bool
any_open gs = nat_lt (first_guard true gs) guard_count

abbrev pub all_open : List Guard → Bool
all_open gs = nat_le guard_count (first_guard false gs)

abbrev pub is_due : Due → Bool
is_due Nothing = false
is_due Load = true
is_due Restore = true

abbrev pub is_load : Due → Bool
is_load Nothing = false
is_load Load = true
is_load Restore = false

-- a free slot of a fresh machine
abbrev pub no_slot : Slot
no_slot = record { used = false; epoch = 0; guards = no_guards; due = Nothing; link = None }

-- in use or free, and what comes behind it; the rest stays
abbrev pub with_use : Bool → Option ℕ → Slot → Slot
with_use u k s = record { used = u; epoch = s.epoch; guards = s.guards; due = s.due; link = k }

-- epoch, guards and what is due; the rest stays
abbrev pub with_reading : ℕ → List Guard → Due → Slot → Slot
with_reading e gs d s = record { used = s.used; epoch = e; guards = gs; due = d; link = s.link }

-- a new handle
abbrev pub new_slot : Slot
new_slot = with_use true None no_slot

-- ---- the order in which free slots are handed out

-- what comes behind slot i: the slot that was first when it was freed; and behind one never used, the next number
abbrev pub behind : ℕ → Option ℕ → ℕ
behind i None = suc i
behind i (Some k) = k

-- how many of the slots below n are free
unfoldable pub free_below : ℕ → List Slot → ℕ
free_below zero ss = 0
free_below (suc n) ss = elim (slice_index_or ss n no_slot).used [ true ↦ free_below n ss | false ↦ suc (free_below n ss) ]

-- from k on n free slots come, one behind the other, and then the end
unfoldable pub walk : ℕ → List Slot → ℕ → Bool
walk zero ss k = k == slot_count
walk (suc n) ss k = let s = slice_index_or ss k no_slot in nat_lt k slot_count && (not s.used && walk n ss (behind k s.link))

-- all free slots come, each once: a walk that comes to its end meets no slot twice
unfoldable pub orderly : State → Bool
orderly st = walk (free_below slot_count st.slots) st.slots st.control.free

-- ---- the writer's phases

-- of a phase: its row in the table of admissions, the slot that its step looks at, the operation of the log that it applies, whether a
-- call of the writer is under way, the lock held, the pointer null
pub record Stage : Type 0 where
  pub row : ℕ
  pub slot : ℕ
  pub applied : ℕ
  pub goes : Bool
  pub locked : Bool
  pub null : Bool

abbrev pub stage : ℕ → ℕ → ℕ → Bool → Bool → Bool → Stage
stage n i k g l p = record { row = n; slot = i; applied = k; goes = g; locked = l; null = p }

-- the lock is held in a publish, and from take's last snapshots to its finish; the pointer is null from take's lock step on
abbrev pub stage_of : Phase → Stage
stage_of Idle = stage 0 0 0 false false false
stage_of Begin = stage 1 0 0 true false false
stage_of (Poll i) = stage 2 i 0 true true false
stage_of Copy = stage 3 0 0 true true false
stage_of Drain = stage 4 0 0 true true false
stage_of (Keep k) = stage 5 0 k true true false
stage_of Swap = stage 6 0 0 true true false
stage_of (Snap i) = stage 7 i 0 true true false
stage_of Null = stage 8 0 0 true false false
stage_of Lock = stage 9 0 0 true false true
stage_of (LastSnap i) = stage 10 i 0 true true true
stage_of (LastPoll i) = stage 11 i 0 true true true
stage_of Finish = stage 12 0 0 true true true
stage_of Gone = stage 13 0 0 false false true

abbrev pub row : Phase → ℕ
row p = (stage_of p).row

abbrev pub is_gone : Phase → Bool
is_gone p = row p == 13

abbrev pub underway : Phase → Bool
underway p = (stage_of p).goes

abbrev pub locks : Phase → Bool
locks p = (stage_of p).locked

abbrev pub nulls : Phase → Bool
nulls p = (stage_of p).null

-- the slot that a step looks at
abbrev pub place : Phase → ℕ
place p = (stage_of p).slot

-- the phases that name one: poll, snapshot, and take's last
abbrev pub looks : ℕ → Bool
looks n = n == 2 || (n == 7 || (n == 10 || n == 11))

-- a phase's position is in range: a slot's number; an operation of the log (row 5); and there is one before the swap index (row 4)
abbrev pub in_range : Control → Phase → Bool
in_range c p =
    let n = row p in
    elim (n == 4) [
      | true ↦ nat_lt 0 c.swapped
      | false ↦ elim (n == 5) [ true ↦ ltb (stage_of p).applied c.length | false ↦ not (looks n) || ltb (place p) slot_count ]
    ]

-- ---- the log

-- operation i of the log is as its kind asks
abbrev pub lawful_at : List ℕ → ℕ → Bool
lawful_at g i = lawful (slice_index g (3 * i)) (slice_index g (3 * i + 1)) (slice_index g (3 * i + 2))

-- the first of n operations that is not, or n
abbrev pub first_unlawful : ℕ → List ℕ → ℕ
first_unlawful n g = seek (λ i. not (lawful_at g i)) 0 n

-- ---- what every call is judged on

abbrev pub sized : List ℕ → List ℕ → List ℕ → Bool
sized l r g = length l == words && (length r == words && length g == log_words)

-- the control part by itself: counts, position, lock and pointer
abbrev pub whole_control : Control → Bool
whole_control c =
    nat_le c.length log_room
    && (nat_le c.swapped c.length
    && (in_range c c.phase && (same c.lock (locks c.phase) && same c.null (nulls c.phase))))

-- what a call is judged to be: admitted (Ok), or refused with an answer (Err)
abbrev pub Verdict : Type 0
Verdict = Result ⊤ Answer

-- lengths, entry counts and the control part: all but the walks over the log and over the free slots
unfoldable pub glanced : Control → List ℕ → List ℕ → List ℕ → Verdict
glanced c l r g =
    elim (sized l r g) [
      | true ↦
          elim (nat_le (entries l) pairs && (nat_le (entries r) pairs && whole_control c)) [ true ↦ Ok tt | false ↦ Err Broken ]
      | false ↦ Err Length
    ]

-- what every call is judged on: the same, each logged operation, and the order of the free slots
unfoldable pub judged : State → List ℕ → List ℕ → List ℕ → Verdict
judged st l r g =
    let n = st.control.length in
    elim (glanced st.control l r g) [
      | Ok _ ↦ elim (nat_le n (first_unlawful n g) && orderly st) [ true ↦ Ok tt | false ↦ Err Broken ]
      | Err a ↦ Err a
    ]

-- ---- the fresh machine

-- slot 1 is handed out first
abbrev pub fresh_control : Control
fresh_control =
    record {
      right = false;
      null = false;
      lock = false;
      first = true;
      second = true;
      phase = Idle;
      job = Publish;
      length = 0;
      swapped = 0;
      free = 1;
    }

-- where the writer stands, with the lock that fits it; the rest stays
abbrev pub standing : Phase → Job → Control → Control
standing p j c =
    record {
      right = c.right;
      null = c.null;
      lock = locks p;
      first = c.first;
      second = c.second;
      phase = p;
      job = j;
      length = c.length;
      swapped = c.swapped;
      free = c.free;
    }

-- the pointer's side, whether it is null, `first`, `second`, the log's length and the swap index; the rest stays
abbrev pub holding : Bool → Bool → Bool → Bool → ℕ → ℕ → Control → Control
holding right null first second n s c =
    record {
      right = right;
      null = null;
      lock = c.lock;
      first = first;
      second = second;
      phase = c.phase;
      job = c.job;
      length = n;
      swapped = s;
      free = c.free;
    }

-- the slot that is handed out next; the rest stays
abbrev pub with_free : ℕ → Control → Control
with_free k c =
    record {
      right = c.right;
      null = c.null;
      lock = c.lock;
      first = c.first;
      second = c.second;
      phase = c.phase;
      job = c.job;
      length = c.length;
      swapped = c.swapped;
      free = k;
    }

-- slot 0 is the writer's own handle
abbrev pub fresh : State
fresh = record { control = fresh_control; slots = new_slot ∷ replicate (slot_count - 1) no_slot; snapshots = replicate slot_count 0 }
