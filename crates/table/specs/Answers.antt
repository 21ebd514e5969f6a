-- What comes back: the number that stands for each answer, and which are refusals.
use Rattle.std.specs.Prelude.{ℕ, Bool, ◌&&◌, leb, Result, Ok, Err}
use Rattle.table.specs.declared.Answer.{Answer}
use Rattle.table.specs.declared.Answer.TheVariants.{Done, Length, Broken, Gone, NoSlot, Operation, NotNow, Locked, GuardsOpen, NoGuard, FourGuards, LogFull, SlotsFull, Held, Declined, None}

abbrev pub number : Answer → ℕ
number Done = 0
number Length = 1
number Broken = 2
number Gone = 3
number NoSlot = 4
number Operation = 5
number NotNow = 6
number Locked = 7
number GuardsOpen = 8
number NoGuard = 9
number FourGuards = 10
number LogFull = 11
number SlotsFull = 12
number Held = 13
number Declined = 14
number None = 15

-- a refusal changes nothing; the answers behind it say how a step or a load went
abbrev pub refusing : ℕ → Bool
refusing n = leb 1 n && leb n 12

-- an answer as a result: nothing is wrong, or what is
abbrev pub outcome : Answer → Result (Unit {0}) Answer
outcome Done = Ok tt
outcome a = Err a

abbrev pub answer_of : Result (Unit {0}) Answer → Answer
answer_of (Ok done) = Done
answer_of (Err a) = a
