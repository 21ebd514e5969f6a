-- What create and a call on a handle do: to one slot, judged by the control part and that slot. Create and drop change besides which
-- slot is handed out next.
use Rattle.std.specs.Prelude.{ℕ, ◌+◌, ◌%◌, ◌^◌, Bool, true, false, not, ◌&&◌, ◌||◌, List, [], ◌∷◌, ◌==◌, nat_le, nat_lt, slice_index, Some, Ok, Err}
use Rattle.table.specs.Copy.{look_rule}
use Rattle.table.specs.declared.Answer.{Answer}
use Rattle.table.specs.declared.Answer.TheVariants as answer
use Rattle.read.specs.declared.Due.{Due}
use Rattle.read.specs.declared.Due.TheVariants.{Nothing, Load, Restore}
use Rattle.read.specs.declared.Guard.{Guard}
use Rattle.read.specs.declared.Sign.{Sign}
use Rattle.read.specs.declared.Slot.{Slot}
use Rattle.read.specs.declared.Control.{Control}
use Rattle.read.specs.declared.Handle.{Handle}
use Rattle.read.specs.declared.Handle.TheVariants.{Drop, Enter, GoOn, Release, LookUp, WasDropped}
use Rattle.read.specs.Machine.{Verdict, slot_count, shut, open_on, with_use, with_reading, new_slot, behind, is_open, stands_right, put_guard, first_guard, any_open, all_open, is_due, is_load}
use Rattle.read.specs.declared.Made.{Made}
use Rattle.read.specs.Admission.{handle_number, guard_named, column, create_column, entry}

-- ---- which refusal is given

abbrev pub sign : Answer → Bool → Sign
sign a b = record { answer = a; applies = b }

-- a sign before those that were judged
abbrev pub given : Bool → Answer → Verdict → Verdict
given b a v = elim b [ true ↦ Err a | false ↦ v ]

-- the first that applies; those of a call stand in the order of their numbers, so it is the smallest
unfoldable pub smallest : List Sign → Verdict
smallest [] = Ok tt
smallest (x ∷ xs) = given x.applies x.answer (smallest xs)

-- of the call n: enter or drop with a step due; go on with none
abbrev pub mistimed : ℕ → Due → Bool
mistimed n d = elim (n == 4) [ true ↦ not (is_due d) | false ↦ nat_lt n 4 && is_due d ]

-- drop with guards
abbrev pub leaves_guards : ℕ → List Guard → Bool
leaves_guards n gs = n == 2 && any_open gs

-- release or look up through a guard that is not there: its number over 3, or closed
abbrev pub lacks_guard : ℕ → ℕ → List Guard → Bool
lacks_guard n j gs = (n == 5 || n == 6) && not (is_open gs j)

-- enter with four open, or a load that is due and would open a fifth
abbrev pub lacks_room : ℕ → Bool → Slot → Bool
lacks_room n null s =
    elim (n == 3) [ true ↦ all_open s.guards | false ↦ (n == 4) && (is_load s.due && (not null && all_open s.guards)) ]

-- what speaks against a call; own: on slot 0
abbrev pub handle_signs : Control → Bool → Slot → Handle → List Sign
handle_signs c own s h =
    let n = handle_number h in
    let e = entry c.phase (column h own) in
    sign answer.NoSlot (not s.used)
    ∷ sign answer.NotNow (e == 6 || mistimed n s.due)
    ∷ sign answer.Locked (e == 7)
    ∷ sign answer.GuardsOpen (leaves_guards n s.guards)
    ∷ sign answer.NoGuard (lacks_guard n (guard_named h) s.guards)
    ∷ sign answer.FourGuards (lacks_room n c.null s)
    ∷ []

-- against a create: the lock, and no slot that is free
abbrev pub create_signs : Control → List Sign
create_signs c = sign answer.Locked (entry c.phase create_column == 7) ∷ sign answer.SlotsFull (nat_le slot_count c.free) ∷ []

-- ---- what is done

-- the same slot is handed out next
abbrev pub made_of : Control → Answer → ℕ → Slot → Made
made_of c a v s = record { answer = a; value = v; slot = s; free = c.free }

-- the epoch goes round from 2^64-1 to 0
abbrev pub bumped : ℕ → ℕ
bumped e = (e + 1) % 2 ^ 64

abbrev pub with_due : ℕ → Due → Slot → Slot
with_due e d s = with_reading e s.guards d s

-- the slot is free, and the one that was first, k, comes behind it; all else stays
abbrev pub freed : ℕ → Slot → Slot
freed k s = with_use false (Some k) s

-- the lowest free guard opens on a side
abbrev pub guarded : Bool → Slot → Slot
guarded right s =
    with_reading s.epoch (put_guard (first_guard false s.guards) (open_on right) s.guards) Nothing s

-- the load: d is what is due where the pointer is null
abbrev pub loaded : Control → Due → Slot → Made
loaded c d s =
    elim c.null [
      | true ↦ made_of c answer.None 0 (with_due s.epoch d s)
      | false ↦ made_of c answer.Done (first_guard false s.guards) (guarded c.right s)
    ]

abbrev pub entered : Control → Slot → Made
entered c s =
    elim (any_open s.guards)
    [ true ↦ loaded c s.due s | false ↦ made_of c answer.Done 0 (with_due (bumped s.epoch) Load s) ]

abbrev pub went_on : Control → Due → Slot → Made
went_on c Nothing s = made_of c answer.NotNow 0 s
went_on c Load s = loaded c Restore s
went_on c Restore s = made_of c answer.None 0 (with_due (bumped s.epoch) Nothing s)

-- guard j closes, and the last one adds one to the epoch
abbrev pub released : ℕ → Slot → Slot
released j s =
    let gs = put_guard j shut s.guards in
    with_reading (elim (any_open gs) [ true ↦ s.epoch | false ↦ bumped s.epoch ]) gs s.due s

-- the copy that guard j stands on
abbrev pub copy_of : Bool → List ℕ → List ℕ → List ℕ
copy_of right l r = elim right [ true ↦ r | false ↦ l ]

abbrev pub guarded_copy : List Guard → ℕ → List ℕ → List ℕ → List ℕ
guarded_copy gs j l r = copy_of (stands_right gs j) l r

abbrev pub bit : Bool → ℕ
bit true = 1
bit false = 0

-- on the handle in slot i, by how a key is looked up; one that is dropped is handed out next
unfoldable pub handled_by : (ℕ → List ℕ → List ℕ) → Control → ℕ → Slot → Handle → List ℕ → List ℕ → Made
handled_by look c i s Drop l r = record { answer = answer.Done; value = 0; slot = freed c.free s; free = i }
handled_by look c i s Enter l r = entered c s
handled_by look c i s GoOn l r = went_on c s.due s
handled_by look c i s (Release j) l r = made_of c answer.Done 0 (released j s)
handled_by look c i s (LookUp j key) l r = made_of c answer.Done (slice_index (look key (guarded_copy s.guards j l r)) 1) s
handled_by look c i s WasDropped l r = made_of c answer.Done (bit c.null) s

abbrev pub handled : Control → ℕ → Slot → Handle → List ℕ → List ℕ → Made
handled = handled_by look_rule

-- a call on the handle in slot i: refused with nothing changed, or made
unfoldable pub handle_by : (ℕ → List ℕ → List ℕ) → Control → ℕ → Slot → Handle → List ℕ → List ℕ → Made
handle_by look c i s h l r =
    elim (smallest (handle_signs c (i == 0) s h)) [ Ok _ ↦ handled_by look c i s h l r | Err a ↦ made_of c a 0 s ]

abbrev pub handle_on : Control → ℕ → Slot → Handle → List ℕ → List ℕ → Made
handle_on = handle_by look_rule

-- a create: the slot that is first, s, gets a new handle, and the one behind it is first
unfoldable pub create_on : Control → Slot → Made
create_on c s =
    elim (smallest (create_signs c)) [
      | Ok _ ↦ record { answer = answer.Done; value = c.free; slot = new_slot; free = behind c.free s.link }
      | Err a ↦ made_of c a 0 s
    ]
