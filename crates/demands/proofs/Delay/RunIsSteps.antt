-- A run is its steps, of the rules: by the count of the steps that are left.
use Prim.Native.Nat.{ℕ, zero, suc, ◌+◌, ◌≤◌, ◌<◌}
use mathlib.Core.Path.{◌≡◌, refl, sym, ap, subst, ◌∙◌}
use mathlib.Core.Logic.{◌≢◌}
use mathlib.Core.Bool.{true, false}
use native.Mathlib.Omega.{arith}
use Rattle.table.proofs.Split.{split}
use Rattle.table.proofs.Booleans.{clash}
use Rattle.read.specs.declared.Reply.{Reply}
use Rattle.read.specs.Machine.{Verdict, underway, place}
use Rattle.std.specs.Prelude.{Ok, Err}
use Rattle.read.specs.Admission.{entry}
use Rattle.read.specs.Handles.{smallest}
use Rattle.read.specs.Calls.{Lent, slot_at}
use Rattle.read.proofs.Verdicts.{refused_mild}
use Rattle.write.specs.Call.{Call, Step, Run}
use Rattle.write.specs.Begins.{step_signs}
use Rattle.write.specs.Runs.{snap_at, step_on}
use Rattle.write.specs.Machine.{call_on, call_rule, going}
use Rattle.write.specs.World.{Machine, World, world_of, reply, next, answer_of, value_of}
use Rattle.write.proofs.Count.{left, steps}
use Rattle.write.proofs.RunLaws.{run_steps as run_counts}
use Rattle.write.proofs.Verdicts.{step_underway}
use Rattle.write.proofs.Cases.{going_on}
use Rattle.write.proofs.Control.{Whole}
use Rattle.write.proofs.Left.{step_lowers, left_idle, left_underway}
use Rattle.write.proofs.NeverBroken.{sound_step}
use Rattle.demands.specs.Demands.{after_steps}
use Rattle.demands.proofs.Phases.{phase_of}
use Rattle.demands.proofs.Sound.{SoundIn, below}
use Rattle.demands.proofs.Delay.Admitted.{on_step, step_on_lem, run_on_lem}

-- n steps from world w, and then what a run answers and leaves
pub record Steps (m : Machine) (w : World) (n : ℕ) (answer : ℕ) (after : World) : Type 0 where
  -- each of them is made
  pub made : (j : ℕ) → j < n → answer_of (reply m Step (after_steps m j w)) ≡ 0
  -- a run that is answered 0 ended the call with the last of them
  pub ended : answer ≡ 0 → (1 ≤ n) × (after ≡ after_steps m n w) × (underway (phase_of (after_steps m n w)) ≡ false)
  -- any other was stopped by one step more, held, declined or refused, which is answered alike and leaves the same; a call is under way
  -- before that step if one was at the beginning
  pub stopped : answer ≢ 0 →
      (answer_of (reply m Step (after_steps m n w)) ≡ answer) × (after ≡ next m Step (after_steps m n w))
      × (underway (phase_of (after_steps m n w)) ≡ underway (phase_of w))

-- run, in world w
abbrev pub RunIsSteps : Machine → World → Type 0
RunIsSteps m w = let r = reply m Run w in Steps m w (value_of r) (answer_of r) (next m Run w)

-- step and run are refused alike, where no call is under way
refused_alike :
    (w : World) (v : Verdict) → smallest (step_signs 12 w.state.control) ≡ v → underway (phase_of w) ≡ false →
    (reply call_on Run w ≡ reply call_on Step w) × (value_of (reply call_on Run w) ≡ 0) × (answer_of (reply call_on Run w) ≢ 0)
unfolding call_on entry
refused_alike w (Ok _) e u = clash (step_underway w.state.control e) u
refused_alike w (Err a) e u =
    let x = refused_mild (step_signs 12 w.state.control) refl a e in
    rw (e, going) (refl, refl, λ z. omega arith)

-- ---- of any machine that is as the rules below the judgement, in good worlds that stay good

module _ (m : Machine) (Good : World → Type 0) (whole : (w : World) → Good w → Whole w.state.control)
    (keeps : (w : World) → Good w → Good (world_of (on_step w))) (same : (w : World) → Good w → (k : Call) → reply m k w ≡ reply call_on k w)
  where
    -- what steps give, n being made before: v of them are made
    record Are (n : ℕ) (w : World) (o : Lent Reply) : Type 0 where
      v : ℕ
      sum : value_of o ≡ n + v
      made : (j : ℕ) → j < v → answer_of (reply m Step (after_steps m j w)) ≡ 0
      ended : answer_of o ≡ 0 → (world_of o ≡ after_steps m v w) × (underway (phase_of (after_steps m v w)) ≡ false)
      stopped : answer_of o ≢ 0 →
          (answer_of (reply m Step (after_steps m v w)) ≡ answer_of o) × (world_of o ≡ next m Step (after_steps m v w))
          × (underway (phase_of (after_steps m v w)) ≡ true)

    -- one more before
    are_on : (n : ℕ) (w : World) (o : Lent Reply) → answer_of (reply m Step w) ≡ 0 → Are (n + 1) (next m Step w) o → Are n w o
    are_on n w o z h = record { v = suc h.v; sum = omega (arith, h.sum); made = made; ended = h.ended; stopped = h.stopped }
      where
        made : (j : ℕ) → j < suc h.v → answer_of (reply m Step (after_steps m j w)) ≡ 0
        made zero b = z
        made (suc j) b = h.made j (omega arith)

    steps_are :
        (k n : ℕ) (w : World) → Good w → left w.state.control ≡ k → Are n w (steps k n w.state w.left w.right w.log)
    unfolding steps on_step step_on
    steps_are zero n w h e =
        record {
          v = 0;
          sum = omega arith;
          made = λ j b. absurd (omega arith);
          ended = λ z. (refl, left_idle w.state.control (whole w h) e);
          stopped = λ z. absurd (z refl);
        }
    steps_are (suc k) n w h e =
        let c = w.state.control in
        let i = place c.phase in
        let q : reply m Step w ≡ on_step w = same w h Step ∙ step_on_lem w (left_underway c e) in
        let rest = steps k (n + 1) (on_step w).made.state (on_step w).left (on_step w).right (on_step w).log in
        going_on (Are n w) (steps k (n + 1)) n (on_step w)
        (λ z.
        let f = step_lowers c (slot_at w.state i) (snap_at w.state i) (whole w h) w.left w.right w.log z in
        are_on n w rest (ap answer_of q ∙ z)
        (subst (λ (y : World). Are (n + 1) y rest) (ap world_of (sym q))
        (steps_are k (n + 1) (world_of (on_step w)) (keeps w h) (omega arith))))
        (λ a z.
        record {
          v = 0;
          sum = omega arith;
          made = λ j b. absurd (omega arith);
          ended = λ y. absurd (omega arith);
          stopped = λ y. (ap answer_of q, ap world_of (sym q), left_underway c e);
        })

    positive : (w : World) (n : ℕ) → underway (phase_of w) ≡ true → underway (phase_of (after_steps m n w)) ≡ false → 1 ≤ n
    positive w zero u f = clash u f
    positive w (suc n) u f = omega arith

    are_steps : (w : World) (o : Lent Reply) → underway (phase_of w) ≡ true → Are 0 w o → Steps m w (value_of o) (answer_of o) (world_of o)
    are_steps w o u h =
        let e : h.v ≡ value_of o = omega (arith, h.sum) in
        subst (λ (n : ℕ). Steps m w n (answer_of o) (world_of o)) e
        (record {
          made = h.made;
          ended = λ z. let x = h.ended z in (positive w h.v u x.1, x.0, x.1);
          stopped = λ z. let x = h.stopped z in (x.0, x.1, x.2 ∙ sym u);
        })

    run_steps : (w : World) → Good w → RunIsSteps m w
    run_steps w h =
        split (underway (phase_of w))
        (λ u.
        subst (λ (o : Lent Reply). Steps m w (value_of o) (answer_of o) (world_of o)) (sym (same w h Run ∙ run_on_lem w u ∙ run_counts w.state w.left w.right w.log (whole w h)))
        (are_steps w _ u (steps_are (left w.state.control) 0 w h refl)))
        (λ u.
        let x = refused_alike w _ refl u in
        let e = same w h Run in
        subst (λ (n : ℕ). Steps m w n (answer_of (reply m Run w)) (next m Run w)) (sym (ap value_of e ∙ x.1))
        (record {
          made = λ j b. absurd (omega arith);
          ended = λ z. absurd (x.2 (ap answer_of (sym e) ∙ z));
          stopped =
              λ z. let y = e ∙ x.0 ∙ sym (same w h Step) in (ap answer_of (sym y), ap world_of y, refl);
        }))

-- ---- the rules

-- in every sound world, and so after every history
pub run_is_steps_sound : (w : World) → SoundIn w → RunIsSteps call_rule w
unfolding on_step
run_is_steps_sound =
    run_steps call_rule SoundIn (λ x y. y.good.whole) (λ x y. sound_step x.state x.left x.right x.log y)
    (λ x y k. below k x y)
