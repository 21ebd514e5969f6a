-- A call on the whole machine: judged, and then what stands below the judgement.
use Prim.Native.Nat.{ℕ}
use mathlib.Core.Path.{◌≡◌, refl, sym, ap, ◌∙◌}
use mathlib.Core.Bool.{Bool, true, false}
use mathlib.Core.List.{List}
use Rattle.table.specs.Order.{Op}
use Rattle.table.specs.declared.Answer.{Answer}
use Rattle.read.specs.Machine.{Verdict, whole_control, judged}
use Rattle.std.specs.Prelude.{Ok, Err}
use Rattle.read.specs.declared.Slot.{Slot}
use Rattle.read.specs.declared.State.{State}
use Rattle.read.specs.declared.Reply.{Reply}
use Rattle.read.specs.Handles.{smallest}
use Rattle.read.specs.Calls.{Lent, lent, slot_at, refusal}
use Rattle.read.proofs.Verdicts.{refused_not}
use Rattle.write.specs.declared.Moved.{Moved}
use Rattle.write.specs.declared.Opening.{Opening}
use Rattle.write.specs.Call.{Call, Append, Open, Step, Run}
use Rattle.write.specs.Begins.{step_signs, append_on, open_on}
use Rattle.write.specs.Runs.{snap_at, put_back, lift, step_on, run_on}
use Rattle.write.specs.Machine.{going, going_verdict, call_on, call_rule}
use Rattle.write.proofs.Control.{whole_control_lem}
use Rattle.write.proofs.Judged.{judged_good}

-- ---- what a state that is not refused has

module _ (st : State) (l r g : List ℕ) where
  pub judged_whole_control : {v : Verdict} → v ≡ judged st l r g → v ≡ Ok tt → whole_control st.control ≡ true
  judged_whole_control h e = whole_control_lem st.control (judged_good st l r g (sym h ∙ e)).whole

  -- of a step or a run that is admitted
  pub going_whole : (column : ℕ) {v : Verdict} → v ≡ going_verdict column st l r g → v ≡ Ok tt → whole_control st.control ≡ true
  going_whole column h e = by (judged st l r g) refl (sym h ∙ e)
    where
      by :
          (j : Verdict) → j ≡ judged st l r g → ◌≡◌ {A = Verdict} (elim j [ Ok _ ↦ smallest (step_signs column st.control) | Err a ↦ Err a ]) (Ok tt) →
          whole_control st.control ≡ true
      by (Ok _) x q = judged_whole_control x refl
      by (Err a) x q = refused_not q

-- ---- a call, by its verdict

module _ (k : Call) (st : State) (l r g : List ℕ) where
  abbrev Rule : Verdict → Lent Reply
  Rule v = elim v [ Ok _ ↦ call_on k st l r g | Err a ↦ lent (refusal a st) l r g ]

  module _ {v : Verdict} (h : v ≡ judged st l r g) where
    pub call_refused : {a : Answer} {q : Reply} → v ≡ Err a → q ≡ refusal a st → lent q l r g ≡ call_rule k st l r g
    unfolding call_rule
    call_refused e x = ap (λ (q : Reply). lent q l r g) x ∙ ap Rule (sym e ∙ h)

    call_admitted : {o : Lent Reply} → v ≡ Ok tt → o ≡ call_on k st l r g → o ≡ call_rule k st l r g
    unfolding call_rule
    call_admitted e x = x ∙ ap Rule (sym e ∙ h)

-- ---- one that is admitted

-- step and run, by whether it is run
abbrev pub goes : Bool → Call
goes true = Run
goes false = Step

abbrev pub going_column : Bool → ℕ
going_column true = 13
going_column false = 12

abbrev pub going_rule : Bool → State → List ℕ → List ℕ → List ℕ → Lent Reply
going_rule true = run_on
going_rule false = step_on

module _ (st : State) (l r g : List ℕ) {v : Verdict} (j : v ≡ judged st l r g) (y : v ≡ Ok tt) where
  -- made at slot 0, and put back
  pub append_made :
      (os : List Op) {s : Slot} {m : Moved} {q : Reply} {l' r' g' : List ℕ} →
      s ≡ slot_at st 0 → lent m l' r' g' ≡ append_on os st.control s (snap_at st 0) l r g → q ≡ put_back 0 st m →
      lent q l' r' g' ≡ call_rule (Append os) st l r g
  unfolding call_on
  append_made os {l' = l'} {r' = r'} {g' = g'} x h e =
      call_admitted (Append os) st l r g j y
      (ap (λ (q : Reply). lent q l' r' g') e
      ∙ ap (λ (o : Lent Moved). lift 0 st o) (h ∙ ap (λ (s : Slot). append_on os st.control s (snap_at st 0) l r g) x))

  pub open_made :
      (o : Opening) {s : Slot} {m : Moved} {q : Reply} →
      s ≡ slot_at st 0 → m ≡ open_on o st.control s (snap_at st 0) → q ≡ put_back 0 st m → lent q l r g ≡ call_rule (Open o) st l r g
  unfolding call_on
  open_made o x h e =
      call_admitted (Open o) st l r g j y
      (ap (λ (q : Reply). lent q l r g) e
      ∙ ap (λ (m : Moved). lent (put_back 0 st m) l r g) (h ∙ ap (λ (s : Slot). open_on o st.control s (snap_at st 0)) x))

  pub goes_made : (run : Bool) {o : Lent Reply} → o ≡ going (going_column run) (going_rule run) st l r g → o ≡ call_rule (goes run) st l r g
  unfolding call_on
  goes_made true h = call_admitted Run st l r g j y h
  goes_made false h = call_admitted Step st l r g j y h

-- ---- step and run, by whether one is admitted

module _ (st : State) (l r g : List ℕ) (rule : State → List ℕ → List ℕ → List ℕ → Lent Reply) (column : ℕ) {n : ℕ} {v : Verdict}
    (x : n ≡ column) (h : v ≡ smallest (step_signs n st.control))
  where
    abbrev Going : Verdict → Lent Reply
    Going v = elim v [ Ok _ ↦ rule st l r g | Err a ↦ lent (refusal a st) l r g ]

    going_by : {w : Verdict} → v ≡ w → Going w ≡ going column rule st l r g
    going_by e = ap Going (sym e ∙ h ∙ ap (λ (n : ℕ). smallest (step_signs n st.control)) x)

    pub going_refused : {a : Answer} {q : Reply} → v ≡ Err a → q ≡ refusal a st → lent q l r g ≡ going column rule st l r g
    going_refused e y = ap (λ (q : Reply). lent q l r g) y ∙ going_by e

    pub going_admitted : {o : Lent Reply} → v ≡ Ok tt → o ≡ rule st l r g → o ≡ going column rule st l r g
    going_admitted e y = y ∙ going_by e
