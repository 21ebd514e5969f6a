-- A run's scan over the slots: the polls of one phase, one after the other. No public contract cites this.
use Rattle.std.specs.Prelude.{ℕ, Bool, true, false, ◌||◌, ◌==◌}
use Rattle.table.specs.declared.Answer.{Answer}
use Rattle.table.specs.declared.Answer.TheVariants as answer
use Rattle.read.specs.declared.Phase.{Phase}
use Rattle.read.specs.declared.Phase.TheVariants.{Idle}
use Rattle.read.specs.declared.Job.{Job}
use Rattle.read.specs.declared.Job.TheVariants.{Publish, Try, TakeFirst, TakeSecond}
use Rattle.read.specs.declared.Control.{Control}
use Rattle.read.specs.Machine.{row}
use Rattle.write.specs.Steps.{at, polling, last_polling}

-- the phases that poll, by their rows in the table of admissions: those of a publish, and take's last
abbrev pub is_poll : Phase → Bool
is_poll p = row p == 2

abbrev pub is_last_poll : Phase → Bool
is_last_poll p = row p == 11

abbrev pub polls : Phase → Bool
polls p = is_poll p || is_last_poll p

-- the phase in which a scan polls slot i, or goes on; by the phase in which it began
abbrev pub scanning_at : Phase → Control → ℕ → Phase
scanning_at p c i = elim (is_poll p) [ true ↦ polling c i | false ↦ elim (is_last_poll p) [ true ↦ last_polling i | false ↦ p ] ]

-- what a poll that is held or declined answers, and what it leaves of the control part
abbrev pub stop_answer : Job → Answer
stop_answer Publish = answer.Held
stop_answer Try = answer.Declined
stop_answer TakeFirst = answer.Held
stop_answer TakeSecond = answer.Held

abbrev pub stop_control : Job → Control → Control
stop_control Publish c = c
stop_control Try c = at Idle c
stop_control TakeFirst c = c
stop_control TakeSecond c = c

-- the same of a scan, by the phase in which it began
abbrev pub halt_answer : Phase → Job → Answer
halt_answer p j = elim (is_poll p) [ true ↦ stop_answer j | false ↦ answer.Held ]

abbrev pub halted : Phase → Control → Control
halted p c = elim (is_poll p) [ true ↦ stop_control c.job c | false ↦ c ]
