-- The player: the transcript of a schedule's calls from a fresh machine.
use Rattle.std.specs.Prelude.{ℕ, ◌*◌, ◌/◌, true, false, List, ◌++◌, length, drop, eqb, leb, Result, Ok, Err}
use Rattle.read.specs.declared.State.{State}
use Rattle.read.specs.Calls.{Lent, lent}
use Rattle.write.specs.Call.{Call}
use Rattle.write.specs.Machine.{call_rule}
use Rattle.write.specs.World.{World, fresh_world, played}
use Rattle.play.specs.declared.Reached.{Reached}
use Rattle.play.specs.declared.Played.{Played}
use Rattle.format.specs.declared.Fault.{Fault}
use Rattle.format.specs.Schedule.{record_bytes, entries_in, fault_number, flaw_of, number_of}
use Rattle.format.specs.Transcript.{entry_bytes, entries_of}
use Rattle.play.specs.Schedule.{calls_in, calls_of}

-- ---- the transcript

-- what the calls say, one after the other, each judged on the whole machine
abbrev pub transcript : List Call → World → List ℕ
transcript ks w = entries_of (played call_rule ks w).replies

-- ---- a part of a schedule, played on a machine

abbrev pub machine : State → List ℕ → List ℕ → List ℕ → World
machine st l r g = record { state = st; left = l; right = r; log = g }

-- the state and the lent words behind the part's whole records, and how many bytes were read and written
abbrev pub reached : List ℕ → World → Lent Reached
reached s w =
    let p = played call_rule (calls_in s) w in
    lent
    (record { state = p.world.state; used = record_bytes * (length s / record_bytes); written = length (entries_of p.replies) })
    p.world.left p.world.right p.world.log

-- ---- what refuses a file

-- what is wrong with it, and 25 where the output, of m bytes, is too short
abbrev pub refusal_of : List ℕ → ℕ → ℕ
refusal_of s m =
    elim (eqb (number_of (flaw_of s)) 0)
    [ true ↦ elim (leb (entry_bytes * entries_in s) m) [ true ↦ 0 | false ↦ 25 ] | false ↦ number_of (flaw_of s) ]

-- ---- the player

-- what comes back, and the output
pub record Output : Type 0 where
  pub result : Played
  pub bytes : List ℕ

abbrev pub output : Played → List ℕ → Output
output p b = record { result = p; bytes = b }

-- what comes back of how many bytes were written, or of what refuses the file
abbrev pub told : Result ℕ Fault → Played
told (Ok n) = record { answer = 0; written = n }
told (Err f) = record { answer = fault_number f; written = 0 }

-- refused with nothing written, or the transcript over the output's first bytes
unfoldable pub play_rule : List ℕ → List ℕ → Output
play_rule s out =
    elim (eqb (refusal_of s (length out)) 0) [
      | true ↦
          output (record { answer = 0; written = entry_bytes * entries_in s })
          (transcript (calls_of s) fresh_world ++ drop (entry_bytes * entries_in s) out)
      | false ↦ output (record { answer = refusal_of s (length out); written = 0 }) out
    ]
