-- A run from where it stands, which is all that the player's loop asks of it: where no call is under way it is over, and else it makes a
-- step and goes on.
use Prim.Native.Nat.{ℕ, ◌+◌}
use mathlib.Core.Path.{◌≡◌, refl}
use mathlib.Core.Bool.{true, false}
use mathlib.Core.List.{List}
use Rattle.read.specs.declared.Reply.{Reply}
use Rattle.read.specs.declared.State.{State}
use Rattle.read.specs.Machine.{underway}
use Rattle.read.specs.Calls.{Lent}
use Rattle.write.specs.Runs.{step_on, after_step, ran_out, enough, run_while, run_on}
use Rattle.write.proofs.Control.{Whole}
use Rattle.write.proofs.RunLaws.{run_out, run_unrolled}

-- n steps are made
abbrev pub run_from : ℕ → State → List ℕ → List ℕ → List ℕ → Lent Reply
run_from n st l r g = run_while step_on enough n st l r g

module _ (st : State) (l r g : List ℕ) where
  pub run_starts : run_on st l r g ≡ run_from 0 st l r g
  unfolding run_on
  run_starts = refl

  module _ (n : ℕ) where
    pub run_over : underway st.control.phase ≡ false → run_from n st l r g ≡ ran_out n st l r g
    run_over u = run_out enough n st l r g u

    pub run_unrolls :
        Whole st.control → underway st.control.phase ≡ true → run_from n st l r g ≡ after_step (run_from (n + 1)) n (step_on st l r g)
    run_unrolls w u = run_unrolled n st l r g w u
