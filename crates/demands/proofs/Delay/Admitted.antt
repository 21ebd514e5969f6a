-- What a single step answers: made, held exactly where it meets a reader, or declined there.
use Prim.Native.Nat.{ℕ}
use mathlib.Core.Path.{◌≡◌, refl, ap, ◌∙◌}
use mathlib.Core.Bool.{Bool, true, false, not}
use lib.Dec.{eqb}
use Rattle.read.specs.declared.Control.{Control}
use Rattle.read.specs.declared.Reply.{Reply}
use Rattle.std.specs.Prelude.{Ok}
use Rattle.read.specs.Machine.{underway}
use Rattle.read.specs.Admission.{entry, not_now}
use Rattle.read.specs.Handles.{smallest}
use Rattle.read.specs.Calls.{Lent}
use Rattle.read.proofs.Phases.{underway_stays}
use Rattle.write.specs.Call.{Step, Run}
use Rattle.write.specs.Begins.{step_signs}
use Rattle.write.specs.Runs.{step_on, run_on}
use Rattle.write.specs.Machine.{call_on, going}
use Rattle.write.specs.World.{World, reply}
use Rattle.demands.proofs.Phases.{phase_of}

-- ---- step and run are admitted while a call is under way

-- a column that asks for a call under way, as step's and run's
admitted :
    (column : ℕ) (c : Control) → entry c.phase column ≡ not_now (not (underway c.phase)) → underway c.phase ≡ true →
    smallest (step_signs column c) ≡ Ok tt
unfolding smallest
admitted column c e u =
    let timely : eqb (entry c.phase column) 6 ≡ false = ap (λ (n : ℕ). eqb n 6) (e ∙ ap (λ (b : Bool). not_now (not b)) u) in
    rw (underway_stays c.phase u, timely)

-- ---- a step on the whole machine

module _ (w : World) where
  unfoldable pub on_step : Lent Reply
  on_step = step_on w.state w.left w.right w.log

  -- below the judgement
  pub step_on_lem : underway (phase_of w) ≡ true → reply call_on Step w ≡ on_step
  unfolding call_on on_step entry
  step_on_lem u = rw (admitted 12 w.state.control refl u, going)

  pub run_on_lem : underway (phase_of w) ≡ true → reply call_on Run w ≡ run_on w.state w.left w.right w.log
  unfolding call_on entry
  run_on_lem u = rw (admitted 13 w.state.control refl u, going)
