-- What the records of a schedule file mean: each is a call, but for those that belong to a batch, which are its operations.
use Rattle.std.specs.Prelude.{ℕ, zero, suc, ◌+◌, ◌-◌, ◌/◌, List, [], ◌∷◌, map, length, get_or, drop}
use Rattle.table.specs.Order.{Op, op}
use Rattle.read.specs.declared.Handle.TheVariants.{Drop, Enter, GoOn, Release, LookUp, WasDropped}
use Rattle.write.specs.declared.Opening.TheVariants.{Publish, Try, Flush, Take}
use Rattle.write.specs.Call.{Call, Create, On, Append, Open, Step, Run, append_one}
use Rattle.format.specs.declared.Fields.{Fields}
use Rattle.format.specs.Schedule.{head_bytes, record_bytes, fields_at, members_at, units_from}

-- what the fields mean, by the call's number from 1 on; os: the operations of the records that belong to it
abbrev pub calls_by : List Op → Fields → List Call
calls_by os f =
    Create
    ∷ On f.slot Drop
    ∷ On f.slot Enter
    ∷ On f.slot GoOn
    ∷ On f.slot (Release f.guard)
    ∷ On f.slot (LookUp f.guard f.key)
    ∷ On f.slot WasDropped
    ∷ append_one f.kind f.key f.amount
    ∷ Open Publish ∷ Open Try ∷ Open Flush ∷ Open Take ∷ Step ∷ Run ∷ Append os ∷ []

abbrev pub call_of : List Op → Fields → Call
call_of os f = get_or (calls_by os f) (f.call - 1) Run

-- the operations of n records from byte `at` on
abbrev pub ops_from : List ℕ → ℕ → ℕ → List Op
ops_from s at zero = []
ops_from s at (suc n) = let f = fields_at s at in op f.kind f.key f.amount ∷ ops_from s (at + record_bytes) n

-- the call of the record at byte `at`
unfoldable pub decoded : List ℕ → ℕ → Call
decoded s at = call_of (ops_from s (at + record_bytes) (members_at s at)) (fields_at s at)

-- those of the whole records of a part without head
abbrev pub calls_in : List ℕ → List Call
calls_in s = map (decoded s) (units_from s 0 0 (length s / record_bytes))

-- those of a file
abbrev pub calls_of : List ℕ → List Call
calls_of s = calls_in (drop head_bytes s)
