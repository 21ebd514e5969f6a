-- What is known of a call that is admitted, and of the answer of one that is refused.
use Rattle.std.proofs.Common.{◌≡◌, Bool, true, false, not, ◌||◌, eqb, refl, ap, true≢false}
use Rattle.table.specs.declared.Answer.{Answer}
use Rattle.table.proofs.Booleans.{neither, clash}
use Rattle.read.specs.declared.Phase.{Phase}
use Rattle.read.specs.declared.Phase.TheVariants.{Idle}
use Rattle.read.specs.declared.Control.{Control}
use Rattle.read.specs.declared.Slot.{Slot}
use Rattle.read.specs.Machine.{Verdict, underway, is_gone}
use Rattle.std.specs.Prelude.{Ok, Err}
use Rattle.read.specs.Admission.{entry, not_now}
use Rattle.read.specs.Handles.{smallest}
use Rattle.write.specs.declared.Opening.{Opening}
use Rattle.write.specs.declared.Opening.TheVariants as opening
use Rattle.write.specs.Begins.{column_of, writer_signs, step_signs}
use Rattle.read.proofs.Verdicts.{silent}
use Rattle.read.proofs.Phases.{phase_cases}

-- ---- a verdict, by its value

pub judging {ℓ} :
    {A : Type 0} (P : A → Type ℓ) (v : Verdict) {x : A} {y : Answer → A} → (v ≡ Ok tt → P x) → ((a : Answer) → v ≡ Err a → P (y a)) →
    P (elim v [ Ok _ ↦ x | Err a ↦ y a ])
judging P (Ok _) f g = f refl
judging P (Err a) f g = g a refl

-- ---- which phase admits the writer's calls

idle_by : (p : Phase) → eqb (not_now (underway p || is_gone p)) 6 ≡ false → p ≡ Idle
idle_by =
    phase_cases (λ p. eqb (not_now (underway p || is_gone p)) 6 ≡ false → p ≡ Idle) (λ _. refl) (λ e. clash refl e)
    (λ p u g e. clash (ap (λ (b : Bool). eqb (not_now (b || is_gone p)) 6) u) e)

-- append, in column 7, is admitted in phase Idle alone, and so are the beginnings
pub append_idle :
    (unlawful full : Bool) (c : Control) (s : Slot) → smallest (writer_signs 7 unlawful full c s) ≡ Ok tt → c.phase ≡ Idle
unfolding entry
append_idle unlawful full c s e =
    idle_by c.phase (neither _ _ (silent 6 (writer_signs 7 unlawful full c s) e)).0

open_timely : (o : Opening) (p : Phase) → eqb (entry p (column_of o)) 6 ≡ false → eqb (not_now (underway p || is_gone p)) 6 ≡ false
unfolding entry
open_timely opening.Publish p e = e
open_timely opening.Try p e = e
open_timely opening.Flush p e = e
open_timely opening.Take p e = e

pub open_idle :
    (o : Opening) (c : Control) (s : Slot) → smallest (writer_signs (column_of o) false false c s) ≡ Ok tt → c.phase ≡ Idle
open_idle o c s e =
    idle_by c.phase
    (open_timely o c.phase (neither _ _ (silent 6 (writer_signs (column_of o) false false c s) e)).0)

-- step, in column 12, and run, in 13, are admitted where a call is under way

going_by : (b : Bool) → eqb (not_now (not b)) 6 ≡ false → b ≡ true
going_by true e = refl
going_by false e = absurd (true≢false e)

pub step_underway : (c : Control) → smallest (step_signs 12 c) ≡ Ok tt → underway c.phase ≡ true
unfolding entry
step_underway c e = going_by (underway c.phase) (silent 6 (step_signs 12 c) e)
