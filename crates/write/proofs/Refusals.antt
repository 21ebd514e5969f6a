-- A call that is refused changes nothing and has value 0; and no call below the judgement answers 1 or 2.
use Rattle.std.proofs.Common.{◌≡◌, ℕ, suc, ◌<◌, ◌≤◌, true, eqb, ◌≢◌, ◌⊎◌, List, sym, refl, ap, subst, inl, inr, arith}
use lib.Seq.{set-get_or}
use Rattle.table.specs.Answers.{number}
use Rattle.table.specs.declared.Answer.{Answer}
use Rattle.table.specs.declared.Answer.TheVariants as answer
use Rattle.table.proofs.Split.{by, below}
use Rattle.table.specs.Order.{Op}
use Rattle.read.specs.declared.Due.{Due}
use Rattle.read.specs.declared.Due.TheVariants.{Nothing, Load, Restore}
use Rattle.read.specs.declared.Slot.{Slot}
use Rattle.read.specs.declared.Control.{Control}
use Rattle.read.specs.declared.State.{State}
use Rattle.read.specs.declared.Handle.{Handle}
use Rattle.read.specs.declared.Handle.TheVariants.{Drop, Enter, GoOn, Release, LookUp, WasDropped}
use Rattle.read.specs.declared.Made.{Made}
use Rattle.read.specs.declared.Reply.{Reply}
use Rattle.std.specs.Prelude.{Ok}
use Rattle.read.specs.Machine.{slot_count, no_slot, any_open, underway, judged, place}
use Rattle.read.specs.Handles.{smallest, handle_signs, create_signs, made_of, loaded, went_on, handled, handle_on, create_on, handle_by, handled_by}
use Rattle.read.specs.Calls.{Lent, lent, slot_at, refusal, reply_of, handle_reply, create_reply}
use Rattle.write.specs.declared.Moved.{Moved}
use Rattle.write.specs.declared.Opening.{Opening}
use Rattle.write.specs.declared.Opening.TheVariants as opening
use Rattle.write.specs.Call.{Call, Create, On, Append, Open, Step, Run}
use Rattle.write.specs.Steps.{refused, step_at}
use Rattle.write.specs.Begins.{step_signs, append_on, open_on, opened}
use Rattle.write.specs.Runs.{snap_at, lift, step_on, enough, run_on}
use Rattle.write.specs.Machine.{going, call_on, call_rule}
use Rattle.read.proofs.Verdicts.{refused_mild}
use Rattle.write.proofs.Verdicts.{judging, step_underway}
use Rattle.write.proofs.Cases.{append_cases, open_cases, run_keeps}
use Rattle.write.proofs.Left.{Stepped, done, held, declined, step_stepped}
use Rattle.read.proofs.Cases.{state_of, reply_back}

-- ---- the kinds of a reply

-- made; or refused, and then what it would be with nothing changed; or answered with a number over b
pub data Kind {A : Type 0} (answered : A → Answer) (same : Answer → A) (b : ℕ) : A → Type 0 where
  made : {x : A} → number (answered x) ≡ 0 → Kind answered same b x
  kept : (a : Answer) → 3 ≤ number a → Kind answered same b (same a)
  over : {x : A} → b < number (answered x) → Kind answered same b x

-- of a slot, of a move, and of a whole call
abbrev KindMade : Control → Slot → Made → Type 0
KindMade c s m = Kind {A = Made} (λ x. x.answer) (λ a. made_of c a 0 s) 13 m

abbrev KindMoved : Control → Slot → ℕ → Moved → Type 0
KindMoved c s e m = Kind {A = Moved} (λ x. x.answer) (λ a. refused a c s e) 13 m

abbrev KindMove : Control → Slot → ℕ → List ℕ → List ℕ → List ℕ → Lent Moved → Type 0
KindMove c s e l r g m = Kind {A = Lent Moved} (λ x. x.made.answer) (λ a. lent (refused a c s e) l r g) 13 m

abbrev pub KindCall : ℕ → State → List ℕ → List ℕ → List ℕ → Lent Reply → Type 0
KindCall b st l r g o = Kind {A = Lent Reply} (λ x. x.made.answer) (λ a. lent (refusal a st) l r g) b o

none_over : 13 < number answer.None
none_over = omega arith

declined_over : 13 < number answer.Declined
declined_over = omega arith

-- ---- on one slot

module _ (c : Control) (s : Slot) where
  kind_loaded : (d : Due) → KindMade c s (loaded c d s)
  kind_loaded d = by (KindMade c s) c.null (λ e. over none_over) (λ e. made refl)

  kind_went_on : (d : Due) → KindMade c s (went_on c d s)
  kind_went_on Nothing = kept answer.NotNow (omega arith)
  kind_went_on Load = kind_loaded Restore
  kind_went_on Restore = over none_over

  kind_handled : (i : ℕ) (h : Handle) (l r : List ℕ) → KindMade c s (handled c i s h l r)
  unfolding handled_by
  kind_handled i Drop l r = made refl
  kind_handled i Enter l r = by (KindMade c s) (any_open s.guards) (λ e. kind_loaded s.due) (λ e. made refl)
  kind_handled i GoOn l r = kind_went_on s.due
  kind_handled i (Release j) l r = made refl
  kind_handled i (LookUp j key) l r = made refl
  kind_handled i WasDropped l r = made refl

  kind_handle : (i : ℕ) (h : Handle) (l r : List ℕ) → KindMade c s (handle_on c i s h l r)
  unfolding handle_by
  kind_handle i h l r =
      let signs = handle_signs c (eqb i 0) s h in
      judging (KindMade c s) (smallest signs) (λ v. kind_handled i h l r) (λ a v. kept a (refused_mild signs refl a v).0)

  kind_new : KindMade c s (create_on c s)
  unfolding create_on
  kind_new =
      let signs = create_signs c in
      judging (KindMade c s) (smallest signs) (λ v. made refl) (λ a v. kept a (refused_mild signs refl a v).0)

module _ (c : Control) (s : Slot) (e : ℕ) where
  kind_opened : (o : Opening) → KindMoved c s e (opened o c s e)
  unfolding opened
  kind_opened opening.Publish = made refl
  kind_opened opening.Try = made refl
  kind_opened opening.Flush = below (KindMoved c s e) c.swapped c.length (λ h. made refl) (λ h. made refl)
  kind_opened opening.Take = made refl

  kind_open : (o : Opening) → KindMoved c s e (open_on o c s e)
  kind_open o = open_cases (KindMoved c s e) o c s e (λ q. kind_opened o) (λ a h. kept a h.0)

  module _ (l r g : List ℕ) where
    kind_append : (os : List Op) → KindMove c s e l r g (append_on os c s e l r g)
    kind_append os =
        append_cases (KindMove c s e l r g) os c s e l r g (λ q h. made refl) (λ q u h. made refl) (λ a h. kept a h.0)

    kind_stepped : {m : Lent Moved} → Stepped c s e l r g m → KindMove c s e l r g m
    kind_stepped (done q) = made (ap number q)
    kind_stepped held = kept answer.Held (omega arith)
    kind_stepped declined = over declined_over

-- ---- on the machine

module _ (st : State) (l r g : List ℕ) where
  -- a slot that is put back as it was
  pub lifted_same : (i : ℕ) (a : Answer) → lift i st (lent (refused a st.control (slot_at st i) (snap_at st i)) l r g) ≡ lent (refusal a st) l r g
  lifted_same i a =
      λ k. lent (refusal a (state_of st.control (set-get_or st.slots i no_slot k) (set-get_or st.snapshots i 0 k))) l r g

  kind_lift : (i : ℕ) (m : Lent Moved) → KindMove st.control (slot_at st i) (snap_at st i) l r g m → KindCall 13 st l r g (lift i st m)
  kind_lift i m (made z) = made z
  kind_lift i m (kept a h) = subst (KindCall 13 st l r g) (sym (lifted_same i a)) (kept a h)
  kind_lift i m (over h) = over h

  kind_replied : (i : ℕ) (m : Made) → KindMade st.control (slot_at st i) m → KindCall 13 st l r g (lent (reply_of i m st) l r g)
  kind_replied i m (made z) = made z
  kind_replied i m (kept a h) =
      subst (λ (x : Reply). KindCall 13 st l r g (lent x l r g)) (sym (reply_back i a 0 st)) (kept a h)
  kind_replied i m (over h) = over h

  kind_create : KindCall 13 st l r g (lent (create_reply st) l r g)
  kind_create =
      let c = st.control in
      let s = slot_at st c.free in
      kind_replied c.free (create_on c s) (kind_new c s)

  kind_on : (i : ℕ) (h : Handle) → KindCall 13 st l r g (lent (handle_reply i h l r st) l r g)
  kind_on i h =
      below (λ (a : Reply). KindCall 13 st l r g (lent a l r g)) i slot_count
      (λ b.
      kind_replied i (handle_on st.control i (slot_at st i) h l r) (kind_handle st.control (slot_at st i) i h l r))
      (λ b. kept answer.NoSlot (omega arith))

  kind_begin : (m : Moved) → KindMoved st.control (slot_at st 0) (snap_at st 0) m → KindCall 13 st l r g (lift 0 st (lent m l r g))
  kind_begin m (made z) = made z
  kind_begin m (kept a h) = subst (KindCall 13 st l r g) (sym (lifted_same 0 a)) (kept a h)
  kind_begin m (over h) = over h

  kind_step : underway st.control.phase ≡ true → KindCall 13 st l r g (step_on st l r g)
  unfolding step_on
  kind_step u =
      let c = st.control in
      let i = place c.phase in
      let s = slot_at st i in
      let e = snap_at st i in
      kind_lift i (step_at c.phase c s e l r g) (kind_stepped c s e l r g (step_stepped c s e l r g c.phase u))

  kind_going :
      (b column : ℕ) (rule : State → List ℕ → List ℕ → List ℕ → Lent Reply) →
      (smallest (step_signs column st.control) ≡ Ok tt → KindCall b st l r g (rule st l r g)) →
      KindCall b st l r g (going column rule st l r g)
  kind_going b column rule f =
      let signs = step_signs column st.control in
      judging (KindCall b st l r g) (smallest signs) f (λ a v. kept a (refused_mild signs refl a v).0)

-- ---- run

-- what a run of a whole control part answers: 0, 13 or 14
abbrev pub Ran : Lent Reply → Type 0
Ran o = (number o.made.answer ≡ 0) ⊎ (13 ≤ number o.made.answer)

-- the step that ends a run is held or declined
stepped_ran : {c : Control} {s : Slot} {e : ℕ} {l r g : List ℕ} {m : Lent Moved} (a : ℕ) → Stepped c s e l r g m → number m.made.answer ≡ suc a → 13 ≤ number m.made.answer
stepped_ran a (done q) z = absurd (omega (arith, ap number q))
stepped_ran a held z = omega arith
stepped_ran a declined z = omega arith

run_ran : (st : State) (l r g : List ℕ) → Ran (run_on st l r g)
unfolding run_on step_on
run_ran st l r g =
    run_keeps step_on (λ st l r g. Unit) Ran (λ n st l r g h. inl refl) (λ st l r g h u z. tt)
    (λ n st l r g h u a z.
    let c = st.control in
    let i = place c.phase in
    inr (stepped_ran a (step_stepped c (slot_at st i) (snap_at st i) l r g c.phase u) z))
    enough 0 st l r g tt

ran_kind : {st : State} {l r g : List ℕ} {o : Lent Reply} → Ran o → KindCall 12 st l r g o
ran_kind (inl z) = made z
ran_kind (inr h) = over h

-- ---- a call

-- the largest number that changes nothing: 13, but a run may be held with steps made
abbrev pub still_up_to : Call → ℕ
still_up_to Create = 13
still_up_to (On i h) = 13
still_up_to (Append os) = 13
still_up_to (Open o) = 13
still_up_to Step = 13
still_up_to Run = 12

module _ (st : State) (l r g : List ℕ) where
  pub kind_call_on : (k : Call) → KindCall (still_up_to k) st l r g (call_on k st l r g)
  unfolding call_on run_on
  kind_call_on Create = kind_create st l r g
  kind_call_on (On i h) = kind_on st l r g i h
  kind_call_on (Append os) =
      kind_lift st l r g 0 (append_on os st.control (slot_at st 0) (snap_at st 0) l r g)
      (kind_append st.control (slot_at st 0) (snap_at st 0) l r g os)
  kind_call_on (Open o) =
      kind_begin st l r g (open_on o st.control (slot_at st 0) (snap_at st 0)) (kind_open st.control (slot_at st 0) (snap_at st 0) o)
  kind_call_on Step = kind_going st l r g 13 12 step_on (λ v. kind_step st l r g (step_underway st.control v))
  kind_call_on Run = kind_going st l r g 12 13 run_on (λ v. ran_kind (run_ran st l r g))

  -- 1 to 12, and 13 but of run, change nothing, and have value 0
  kept_same :
      {b : ℕ} {o : Lent Reply} → KindCall b st l r g o → 1 ≤ number o.made.answer → number o.made.answer ≤ b →
      o ≡ lent (refusal o.made.answer st) l r g
  kept_same (made z) x y = absurd (omega arith)
  kept_same (kept a h) x y = refl
  kept_same (over h) x y = absurd (omega arith)

  pub refusal_same :
      (k : Call) →
      (let o = call_rule k st l r g in
      1 ≤ number o.made.answer → number o.made.answer ≤ still_up_to k → o ≡ lent (refusal o.made.answer st) l r g)
  unfolding call_rule
  refusal_same k =
      judging
      (λ (o : Lent Reply).
      1 ≤ number o.made.answer → number o.made.answer ≤ still_up_to k → o ≡ lent (refusal o.made.answer st) l r g)
      (judged st l r g) (λ v. kept_same (kind_call_on k)) (λ a v x y. refl)

-- below the judgement neither 1 nor 2 is answered
unbroken_kind :
    {b : ℕ} {st : State} {l r g : List ℕ} {o : Lent Reply} → 2 ≤ b → KindCall b st l r g o →
    (number o.made.answer ≢ 1) × (number o.made.answer ≢ 2)
unbroken_kind h (made z) = (λ q. omega arith, λ q. omega arith)
unbroken_kind h (kept a x) = (λ q. omega arith, λ q. omega arith)
unbroken_kind h (over x) = (λ q. omega arith, λ q. omega arith)

pub still_large : (k : Call) → 12 ≤ still_up_to k
still_large Create = omega arith
still_large (On i h) = omega arith
still_large (Append os) = omega arith
still_large (Open o) = omega arith
still_large Step = omega arith
still_large Run = omega arith

pub unbroken :
    (k : Call) (st : State) (l r g : List ℕ) →
    (let a = number (call_on k st l r g).made.answer in (a ≢ 1) × (a ≢ 2))
unbroken k st l r g = unbroken_kind (let h = still_large k in omega arith) (kind_call_on st l r g k)
