-- A call by its number in a schedule, with the slot and the guard that it names, and its operations. A batch, which has a number of its own
-- there, is an append of many here.
use Rattle.std.specs.Prelude.{ℕ, Bool, ◌&&◌, List, [], ◌==◌, nat_le}
use Rattle.table.specs.Order.{Op}
use Rattle.read.specs.Admission.{handle_number, guard_named}
use Rattle.write.specs.declared.Opening.{Opening}
use Rattle.write.specs.declared.Opening.TheVariants.{Publish, Try, Flush, Take}
use Rattle.write.specs.Call.{Call, Create, On, Append, Open, Step, Run}

abbrev pub opening_number : Opening → ℕ
opening_number Publish = 9
opening_number Try = 10
opening_number Flush = 11
opening_number Take = 12

abbrev pub call_number : Call → ℕ
call_number Create = 1
call_number (On i h) = handle_number h
call_number (Append os) = 8
call_number (Open o) = opening_number o
call_number Step = 13
call_number Run = 14

abbrev pub is : ℕ → Call → Bool
is n k = call_number k == n

abbrev pub among : ℕ → ℕ → Call → Bool
among m n k = nat_le m (call_number k) && nat_le (call_number k) n

abbrev pub is_step : Call → Bool
is_step = is 13

abbrev pub is_run : Call → Bool
is_run = is 14

abbrev pub is_try : Opening → Bool
is_try o = is 10 (Open o)

abbrev pub is_take : Opening → Bool
is_take o = is 12 (Open o)

-- 0 where the call names none
abbrev pub slot_of : Call → ℕ
slot_of Create = 0
slot_of (On i h) = i
slot_of (Append os) = 0
slot_of (Open o) = 0
slot_of Step = 0
slot_of Run = 0

abbrev pub guard_of : Call → ℕ
guard_of Create = 0
guard_of (On i h) = guard_named h
guard_of (Append os) = 0
guard_of (Open o) = 0
guard_of Step = 0
guard_of Run = 0

-- the operations of a call; one that appends none has none
abbrev pub ops_of : Call → List Op
ops_of Create = []
ops_of (On i h) = []
ops_of (Append os) = os
ops_of (Open o) = []
ops_of Step = []
ops_of Run = []
