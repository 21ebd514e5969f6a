-- The writer's calls that are made at once: append, and the beginnings of publish, try, flush and take. They look at slot 0.
use Rattle.std.specs.Prelude.{ℕ, suc, ◌+◌, ◌*◌, ◌%◌, ◌^◌, Bool, true, false, not, ◌&&◌, ◌||◌, List, [], ◌∷◌, length, ◌==◌, nat_le, nat_lt, slice_set, Ok, Err}
use Rattle.table.specs.Copy.{lawful}
use Rattle.table.specs.declared.Search.{Search}
use Rattle.table.specs.declared.Search.TheVariants.{Walk}
use Rattle.table.specs.Order.{Op}
use Rattle.table.specs.declared.Answer.TheVariants as answer
use Rattle.read.specs.declared.Slot.{Slot}
use Rattle.read.specs.declared.Phase.{Phase}
use Rattle.read.specs.declared.Phase.TheVariants.{Begin, Null}
use Rattle.read.specs.declared.Job.TheVariants.{Publish, Try, TakeFirst}
use Rattle.read.specs.declared.Control.{Control}
use Rattle.read.specs.Machine.{standing, log_room, is_gone, is_due, any_open}
use Rattle.read.specs.Admission.{entry}
use Rattle.read.specs.declared.Sign.{Sign}
use Rattle.read.specs.Handles.{sign, smallest, with_due}
use Rattle.read.specs.Calls.{Lent, lent}
use Rattle.write.specs.declared.Moved.{Moved}
use Rattle.write.specs.declared.Opening.{Opening}
use Rattle.write.specs.declared.Opening.TheVariants as opening
use Rattle.write.specs.Steps.{with_log, beginning, polling, of_left, of_right, operated_by, refused}

-- ---- what speaks against a writer's call

-- by the call's column in the table of admissions: gone, not now, a step due of slot 0, its guards open
abbrev pub writer_signs : ℕ → Bool → Bool → Control → Slot → List Sign
writer_signs column unlawful full c s =
    sign answer.Gone (is_gone c.phase)
    ∷ sign answer.Operation unlawful
    ∷ sign answer.NotNow (entry c.phase column == 6 || is_due s.due)
    ∷ sign answer.GuardsOpen (any_open s.guards)
    ∷ sign answer.LogFull full
    ∷ []

-- step and run look at no slot to be admitted
abbrev pub step_signs : ℕ → Control → List Sign
step_signs column c = sign answer.Gone (is_gone c.phase) ∷ sign answer.NotNow (entry c.phase column == 6) ∷ []

-- ---- append

-- how many operations a call has at most
abbrev pub batch_room : ℕ
batch_room = 64

-- each is as its kind asks
abbrev pub all_lawful : List Op → Bool
all_lawful [] = true
all_lawful (o ∷ os) = lawful o.kind o.key o.amount && all_lawful os

abbrev pub lawful_batch : List Op → Bool
lawful_batch os = nat_le (length os) batch_room && all_lawful os

-- while `first` nothing is logged; then n operations need room behind those that the log holds
abbrev pub crowds : ℕ → Control → Bool
crowds n c = not c.first && nat_lt log_room (c.length + n)

-- an operation behind n others
abbrev pub logged : ℕ → ℕ → ℕ → ℕ → List ℕ → List ℕ
logged n kind key amount g = slice_set (slice_set (slice_set g (3 * n) kind) (3 * n + 1) key) (3 * n + 2) amount

-- operations one after the other: applied, and behind n others in the log
abbrev pub operated_all_by : Search → List Op → List ℕ → List ℕ
operated_all_by how [] w = w
operated_all_by how (o ∷ os) w = operated_all_by how os (operated_by how o.kind o.key o.amount w)

abbrev pub operated_all : List Op → List ℕ → List ℕ
operated_all = operated_all_by Walk

abbrev pub logged_all : ℕ → List Op → List ℕ → List ℕ
logged_all n [] g = g
logged_all n (o ∷ os) g = logged_all (suc n) os (logged n o.kind o.key o.amount g)

abbrev pub made_at_once : Control → Slot → ℕ → Moved
made_at_once c s e = record { answer = answer.Done; value = 0; control = c; slot = s; snapshot = e }

-- while `first`: at once to the copy not pointed at, and slot 0's epoch grows by 2, whatever their number
abbrev pub append_first : Search → List Op → Control → Slot → ℕ → List ℕ → List ℕ → List ℕ → Lent Moved
append_first how os c s e l r g =
    let f = operated_all_by how os in
    lent (made_at_once c (with_due ((s.epoch + 2) % 2 ^ 64) s.due s) e) (of_left c.right f l) (of_right c.right f r) g

abbrev pub append_later : List Op → Control → Slot → ℕ → List ℕ → List ℕ → List ℕ → Lent Moved
append_later os c s e l r g =
    lent (made_at_once (with_log (c.length + length os) c.swapped c) s e) l r (logged_all c.length os g)

abbrev pub appended : Search → Bool → List Op → Control → Slot → ℕ → List ℕ → List ℕ → List ℕ → Lent Moved
appended how first os c s e l r g =
    elim first [ true ↦ append_first how os c s e l r g | false ↦ append_later os c s e l r g ]

-- by how the keys are searched of those that are applied at once
unfoldable pub append_by : Search → List Op → Control → Slot → ℕ → List ℕ → List ℕ → List ℕ → Lent Moved
append_by how os c s e l r g =
    elim (smallest (writer_signs 7 (not (lawful_batch os)) (crowds (length os) c) c s))
    [ Ok _ ↦ appended how c.first os c s e l r g | Err a ↦ lent (refused a c s e) l r g ]

abbrev pub append_on : List Op → Control → Slot → ℕ → List ℕ → List ℕ → List ℕ → Lent Moved
append_on = append_by Walk

-- ---- publish, try, flush, take

abbrev pub column_of : Opening → ℕ
column_of opening.Publish = 8
column_of opening.Try = 9
column_of opening.Flush = 10
column_of opening.Take = 11

abbrev pub begun : Control → Control
begun c = standing (beginning c) Publish c

abbrev pub value : ℕ → Control → Slot → ℕ → Moved
value v c s e = record { answer = answer.Done; value = v; control = c; slot = s; snapshot = e }

-- where a take begins: no publish where the first is made and the log is empty
abbrev pub taking : Control → Phase
taking c = elim (c.first || nat_lt 0 c.length) [ true ↦ Begin | false ↦ Null ]

unfoldable pub opened : Opening → Control → Slot → ℕ → Moved
opened opening.Publish c s e = value 0 (begun c) s e
opened opening.Try c s e = value 0 (standing (polling c 0) Try c) s e
opened opening.Flush c s e = elim (nat_lt c.swapped c.length) [ true ↦ value 1 (begun c) s e | false ↦ value 0 c s e ]
opened opening.Take c s e = value 0 (standing (taking c) TakeFirst c) s e

unfoldable pub open_on : Opening → Control → Slot → ℕ → Moved
open_on o c s e =
    elim (smallest (writer_signs (column_of o) false false c s)) [ Ok _ ↦ opened o c s e | Err a ↦ refused a c s e ]
