-- A step answers what the account says, and keeps account and world alike.
use Prim.Native.Nat.{ℕ, zero, suc, ◌+◌, ◌<◌}
use mathlib.Core.Path.{◌≡◌, refl, sym, ap, ◌∙◌, subst, subst₂}
use mathlib.Core.Bool.{Bool, true, false, not, ◌&&◌}
use mathlib.Core.List.{List, [], ◌∷◌}
use native.Mathlib.Omega.{arith}
use lib.ListN.{length, get_or, set}
use lib.Seq.{set-get_or}
use lib.Dec.{eqb, leb}
use borrow.Author.Tests.{lt-leb}
use Rattle.table.specs.declared.Answer.TheVariants as answer
use Rattle.table.specs.Answers.{number}
use Rattle.table.proofs.Split.{by}
use Rattle.table.proofs.Booleans.{clash}
use Rattle.table.proofs.Lists.{at_set}
use Rattle.read.specs.declared.Phase.{Phase}
use Rattle.read.specs.declared.Phase.TheVariants.{Idle, Begin, Poll, Copy, Drain, Keep, Swap, Snap, Null, Lock, LastSnap, LastPoll, Finish, Gone}
use Rattle.read.specs.declared.Job.{Job}
use Rattle.read.specs.declared.Job.TheVariants.{Publish, Try, TakeFirst, TakeSecond}
use Rattle.read.specs.declared.Slot.{Slot}
use Rattle.read.specs.declared.Control.{Control}
use Rattle.read.specs.declared.State.{State}
use Rattle.read.specs.declared.Reply.{Reply}
use Rattle.std.specs.Prelude.{Ok}
use Rattle.read.specs.Machine.{slot_count, no_slot, underway, is_gone, place}
use Rattle.read.specs.Handles.{smallest, freed, bit}
use Rattle.read.specs.Calls.{Lent, lent, slot_at}
use Rattle.read.proofs.Verdicts.{refused_mild}
use Rattle.write.specs.declared.Moved.{Moved}
use Rattle.write.specs.Call.{Step}
use Rattle.write.specs.Steps.{holds, seen, vacated, first_then, swapped_over, snapping, poll_move, last_poll_move, step_at, step_by}
use Rattle.write.proofs.Cases.{snapping_cases}
use Rattle.write.specs.Begins.{step_signs}
use Rattle.write.specs.Scans.{polls}
use Rattle.write.specs.Runs.{snap_at, lift, step_on}
use Rattle.write.specs.Machine.{call_on}
use Rattle.write.specs.World.{World, world_of, reply}
use Rattle.write.proofs.Verdicts.{judging, step_underway}
use Rattle.write.proofs.Control.{Fits, fits, some_slot, whole_step}
use Rattle.write.proofs.Left.{outcome, step_answer, Stepped, done, held, declined, declined_move, step_stepped, step_value}
use Rattle.demands.specs.Account.{Reader, Account, Move, with_at, of_reader, reads_epoch, dropped, with_plan, advanced, noted}
use Rattle.demands.specs.Table.{least, meets_reader, wanted, wanted_value, worth}
use Rattle.demands.proofs.Account.Moves.{makes, meets, is_swap, each_move}
use Rattle.demands.proofs.Shown.Guards.{same_at, other_at}
use Rattle.demands.proofs.Shown.Invariant.{sight, seen_of, after_move, Inv}
use Rattle.demands.proofs.Shown.Steps.{Next, step_on_keeps}
use Rattle.demands.proofs.Account.Plan.{move_of, plan, plan_head, step_plan, not_made}
use Rattle.demands.proofs.Account.Control.{StandsOf, SteersOf, Stands, is_last, step_steers}
use Rattle.demands.proofs.Account.Reader.{Reads, is_delays, seen_reads}
use Rattle.demands.proofs.Account.Order.{Order, OrderOf, order_freed}
use Rattle.demands.proofs.Account.Rows.{answer_no, is_busy, plan_busy}
use Rattle.demands.proofs.Account.Answers.{stops, wanted_step}
use Rattle.demands.proofs.Account.Calls.{move_same, InvOf, ReadsAll, OwnOf, Tie, Right, solid, own_at, order_kept, value_done, slot_reads, same_loaded, refused_right, mild_right, whole, len, early}
use Rattle.demands.proofs.Phases.{is_try_job}

-- ---- the polled slot

module _ (a : Account) (st : State) (rd : ReadsAll a st) where
  meets_at : (p : Phase) → meets a (move_of p) ≡ (polls p && holds (slot_at st (place p)) (snap_at st (place p)))
  meets_at Idle = refl
  meets_at Begin = refl
  meets_at (Poll k) = sym (is_delays (rd k))
  meets_at Copy = refl
  meets_at Drain = refl
  meets_at (Keep k) = refl
  meets_at Swap = refl
  meets_at (Snap k) = refl
  meets_at Null = refl
  meets_at Lock = refl
  meets_at (LastSnap k) = refl
  meets_at (LastPoll k) = sym (is_delays (rd k))
  meets_at Finish = refl
  meets_at Gone = refl

-- what the invariant looks at in the account, after a step
moved_seen : (x : Move) (a : Account) → seen_of (makes x a) ≡ after_move x (seen_of a)
moved_seen x a =
    each_move (λ b. seen_of b ≡ after_move x (seen_of a)) a x
    (λ p _ _. record { same = sym (stays p); copied = sym (stays p); nulled = sym (stays p) })
    (λ q. sym (ap (λ (y : Move). after_move y (seen_of a)) q))
    (λ i q. loads i (reads_epoch (a.readers i)) (by (λ (s : Reader). s.loaded ≡ (a.readers i).loaded) (a.readers i).lives (λ _. refl) (λ _. refl)) ∙ sym (stays (ap is_swap q)))
    (λ q. loads 0 (dropped (a.readers 0)) refl ∙ sym (stays (ap is_swap q)))
  where
    stays : is_swap x ≡ false → after_move x (seen_of a) ≡ seen_of a
    stays p = ap (λ (b : Bool). elim b [ true ↦ sight a.store.accepted a.store.at_begin a.store.at_begin (λ i. (a.readers i).loaded) | false ↦ seen_of a ]) p

    loads : (i : ℕ) (r : Reader) → r.loaded ≡ (a.readers i).loaded → seen_of (of_reader i (λ _. r) a) ≡ seen_of a
    loads i r e = λ z. sight a.store.accepted a.store.at_begin a.store.published (λ k. same_loaded a.readers i r e k z)

-- a step that ends the call is the last of the plan
last_step : (xs : List Move) → leb (suc (length xs)) 1 ≡ not (is_busy xs)
last_step [] = refl
last_step (x ∷ xs) = lt-leb (suc (suc (length xs))) 1 (omega arith)

module _ {w : World} {a : Account} (tie : Tie w a) where
  abbrev c : Control
  c = w.state.control

  abbrev st : State
  st = w.state

  abbrev slot : Phase → Slot
  slot p = slot_at st (place p)

  abbrev snap_of : Phase → ℕ
  snap_of p = snap_at st (place p)

  abbrev after : Phase → Moved
  after p = (step_at p c (slot p) (snap_of p) w.left w.right w.log).made

  -- ---- a made step, by its phase: the readers

  abbrev Moves : Phase → Moved → Type 0
  Moves p m = (ms : List Move) (i : ℕ) →
      Reads ((makes (move_of p) (with_plan a.trial ms a)).readers i) (get_or (set st.slots (place p) m.slot) i no_slot)
      (get_or (set st.snapshots (place p) m.snapshot) i 0)

  reads_back : (k : ℕ) (i : ℕ) → Reads (a.readers i) (get_or (set st.slots k (slot_at st k)) i no_slot) (get_or (set st.snapshots k (snap_at st k)) i 0)
  reads_back k =
      subst₂ (λ (ss : List Slot) (es : List ℕ). (i : ℕ) → Reads (a.readers i) (get_or ss i no_slot) (get_or es i 0))
      (sym (set-get_or st.slots k no_slot)) (sym (set-get_or st.snapshots k 0)) tie.reads

  -- slot k's snapshot
  reads_snapped : (k : ℕ) → k < slot_count → (i : ℕ) →
      Reads (with_at k (reads_epoch (a.readers k)) a.readers i) (get_or (set st.slots k (slot_at st k)) i no_slot)
      (get_or (set st.snapshots k (seen (slot_at st k) (snap_at st k))) i 0)
  reads_snapped k b =
      subst
      (λ (ss : List Slot). (i : ℕ) → Reads (with_at k (reads_epoch (a.readers k)) a.readers i) (get_or ss i no_slot)
      (get_or (set st.snapshots k (seen (slot_at st k) (snap_at st k))) i 0))
      (sym (set-get_or st.slots k no_slot))
      (at_set (λ i y. Reads (with_at k (reads_epoch (a.readers k)) a.readers i) (slot_at st i) y) st.snapshots k (seen (slot_at st k) (snap_at st k)) 0
      (let z = tie.sound.snapshots in omega arith)
      (subst (λ (r : Reader). Reads r (slot_at st k) (seen (slot_at st k) (snap_at st k))) (sym (same_at k (reads_epoch (a.readers k)) a.readers)) (seen_reads (tie.reads k)))
      (λ i ne. subst (λ (r : Reader). Reads r (slot_at st i) (snap_at st i)) (sym (other_at k (reads_epoch (a.readers k)) a.readers i ne)) (tie.reads i)))

  -- slot 0 is freed
  reads_freed : (i : ℕ) →
      Reads (with_at 0 (dropped (a.readers 0)) a.readers i) (get_or (set st.slots 0 (vacated c.free (slot_at st 0))) i no_slot)
      (get_or (set st.snapshots 0 (snap_at st 0)) i 0)
  reads_freed =
      let s = vacated c.free (slot_at st 0) in
      let h = tie.reads 0 in
      subst (λ (es : List ℕ). (i : ℕ) → Reads (with_at 0 (dropped (a.readers 0)) a.readers i) (get_or (set st.slots 0 s) i no_slot) (get_or es i 0))
      (sym (set-get_or st.snapshots 0 0))
      (slot_reads st a (len tie) tie.reads 0 some_slot (dropped (a.readers 0)) s
      (by (λ (t : Slot). Reads (dropped (a.readers 0)) t (snap_at st 0)) (slot_at st 0).used
      (λ u. record { lives = refl; due = h.due; guards = h.guards; epoch = h.epoch; snapshot = h.snapshot })
      (λ u. record { lives = u; due = h.due; guards = h.guards; epoch = h.epoch; snapshot = h.snapshot })))

  moves_poll : (held : Bool) (k : ℕ) → number (poll_move held k c (slot (Poll k)) (snap_of (Poll k))).answer ≡ 0 → Moves (Poll k) (poll_move held k c (slot (Poll k)) (snap_of (Poll k)))
  moves_poll true k z = absurd (not_made c.job c (slot (Poll k)) (snap_of (Poll k)) z)
  moves_poll false k z = λ ms. reads_back k

  moves_last_poll : (held : Bool) (k : ℕ) → number (last_poll_move held k c (slot (LastPoll k)) (snap_of (LastPoll k))).answer ≡ 0 →
      Moves (LastPoll k) (last_poll_move held k c (slot (LastPoll k)) (snap_of (LastPoll k)))
  moves_last_poll true k z = absurd (omega arith)
  moves_last_poll false k z = λ ms. reads_back k

  moves_at : (p : Phase) → Fits c.length c.swapped c.null p → number (after p).answer ≡ 0 → Moves p (after p)
  unfolding step_by
  moves_at Idle f z = absurd (omega arith)
  moves_at Begin f z = λ ms. reads_back 0
  moves_at (Poll k) f z = moves_poll (holds (slot (Poll k)) (snap_of (Poll k))) k z
  moves_at Copy f z = λ ms. reads_back 0
  moves_at Drain f z = λ ms. reads_back 0
  moves_at (Keep k) f z = λ ms. reads_back 0
  moves_at Swap f z = λ ms. reads_back 0
  moves_at (Snap k) f z = λ ms. reads_snapped k f.0
  moves_at Null f z = λ ms. reads_back 0
  moves_at Lock f z = λ ms. reads_back 0
  moves_at (LastSnap k) f z = λ ms. reads_snapped k f.0
  moves_at (LastPoll k) f z = moves_last_poll (holds (slot (LastPoll k)) (snap_of (LastPoll k))) k z
  moves_at Finish f z = λ ms. reads_freed
  moves_at Gone f z = absurd (omega arith)

  -- ---- the order, by the phase

  abbrev Orders : Phase → Moved → Type 0
  Orders p m = (ms : List Move) →
      (let o = (makes (move_of p) (with_plan a.trial ms a)).slots in Order o.freed o.used m.control.free (set st.slots (place p) m.slot))

  -- what is put back as it was
  order_back : (k : ℕ) → Order a.slots.freed a.slots.used c.free (set st.slots k (slot_at st k))
  order_back k = order_kept tie k (slot_at st k) refl refl

  orders_poll : (held : Bool) (k : ℕ) → number (poll_move held k c (slot (Poll k)) (snap_of (Poll k))).answer ≡ 0 → Orders (Poll k) (poll_move held k c (slot (Poll k)) (snap_of (Poll k)))
  orders_poll true k z = absurd (not_made c.job c (slot (Poll k)) (snap_of (Poll k)) z)
  orders_poll false k z = λ ms. order_back k

  orders_last_poll : (held : Bool) (k : ℕ) → number (last_poll_move held k c (slot (LastPoll k)) (snap_of (LastPoll k))).answer ≡ 0 →
      Orders (LastPoll k) (last_poll_move held k c (slot (LastPoll k)) (snap_of (LastPoll k)))
  orders_last_poll true k z = absurd (omega arith)
  orders_last_poll false k z = λ ms. order_back k

  -- the snapshots, and what follows
  orders_snapping : (d : Control) (n k : ℕ) → d.free ≡ c.free → Order a.slots.freed a.slots.used (snapping d n).free (set st.slots k (slot_at st k))
  orders_snapping d n k e =
      let back = subst (λ (x : ℕ). Order a.slots.freed a.slots.used x (set st.slots k (slot_at st k))) (sym e) (order_back k) in
      snapping_cases (λ x. Order a.slots.freed a.slots.used x.free (set st.slots k (slot_at st k))) d n (λ _. back) (λ _. back)

  -- take's finish frees slot 0, which is in use
  orders_finish : (slot_at st 0).used ≡ true →
      Order (0 ∷ a.slots.freed) a.slots.used (first_then c.free (slot_at st 0)) (set st.slots 0 (vacated c.free (slot_at st 0)))
  orders_finish u =
      let s = slot_at st 0 in
      subst
      (λ (b : Bool). Order (0 ∷ a.slots.freed) a.slots.used (elim b [ true ↦ 0 | false ↦ c.free ])
      (set st.slots 0 (elim b [ true ↦ freed c.free s | false ↦ s ])))
      (sym u) (order_freed tie.order 0 s (omega (arith, len tie, some_slot)) u)

  orders_at : (p : Phase) → (is_gone p ≡ false → (slot_at st 0).used ≡ true) → number (after p).answer ≡ 0 → Orders p (after p)
  unfolding step_by
  orders_at Idle u z = absurd (omega arith)
  orders_at Begin u z = λ ms. order_back 0
  orders_at (Poll k) u z = orders_poll (holds (slot (Poll k)) (snap_of (Poll k))) k z
  orders_at Copy u z = λ ms. order_back 0
  orders_at Drain u z = λ ms. order_back 0
  orders_at (Keep k) u z = λ ms. order_back 0
  orders_at Swap u z = λ ms. orders_snapping (swapped_over c) 0 0 refl
  orders_at (Snap k) u z = λ ms. orders_snapping c (k + 1) k refl
  orders_at Null u z = λ ms. order_back 0
  orders_at Lock u z = λ ms. order_back 0
  orders_at (LastSnap k) u z = λ ms. order_back k
  orders_at (LastPoll k) u z = orders_last_poll (holds (slot (LastPoll k)) (snap_of (LastPoll k))) k z
  orders_at Finish u z = λ ms. orders_finish (u refl)
  orders_at Gone u z = absurd (omega arith)

  -- the writer's own handle lives until then
  owns : (x : Move) (ms : List Move) → OwnOf (makes x (with_plan a.trial ms a))
  owns x ms =
      let b = with_plan a.trial ms a in
      each_move OwnOf b x (λ _ _ _. record { same = tie.own; copied = tie.own; nulled = tie.own }) (λ _. tie.own)
      (λ i _. own_at tie i (reads_epoch (a.readers i)) (λ z g.
      by (λ (r : Reader). r.lives ≡ true) (a.readers i).lives (λ e. e) (λ e. subst (λ (k : ℕ). (a.readers k).lives ≡ true) (sym z) (tie.own g))))
      (λ _ g. clash refl g)

  -- ---- a made step

  abbrev on_step : Lent Reply
  on_step = lift (place c.phase) st (step_at c.phase c (slot c.phase) (snap_of c.phase) w.left w.right w.log)

  abbrev c' : Control
  c' = (after c.phase).control

  on_keeps : Next (solid tie) tie.inv c.phase on_step
  unfolding step_on
  on_keeps = step_on_keeps (solid tie) tie.inv

  module _ (u : underway c.phase ≡ true) where
    made_right : number (after c.phase).answer ≡ 0 → wanted a Step ≡ 0 → Right a Step on_step
    made_right z want =
        let p = c.phase in
        let q = tie.steers.left ∙ step_plan c (slot p) (snap_of p) (whole tie) w.left w.right w.log z in
        let mv = moves_at p (fits (whole tie)) z in
        let od = orders_at p (λ n. (tie.reads 0).lives ∙ tie.own (sym tie.steers.stands.over ∙ n)) z in
        let wh = whole_step c (whole tie) (slot p) (snap_of p) w.left w.right w.log in
        let v = (after p).value in
        record {
          answer = z ∙ sym want;
          value = value_done a Step v want
              (step_value c u (slot p) (snap_of p) w.left w.right w.log
              ∙ ap bit (sym (ap (λ (ms : List Move). leb (length ms) 1) q ∙ last_step (plan c') ∙ ap not (plan_busy c' wh))));
          inv = subst (λ (n : ℕ). InvOf (world_of on_step) (noted Step n v a)) (sym z)
              (subst (λ (ms : List Move). InvOf (world_of on_step) (advanced ms a)) (sym q)
              (subst (Inv (world_of on_step)) (sym (moved_seen (move_of p) (with_plan a.trial (plan c') a)))
              (subst (λ (n : ℕ). Inv (world_of on_step) (elim n [ zero ↦ after_move (move_of p) (seen_of a) | suc m ↦ seen_of a ])) z on_keeps)));
          steers = subst (λ (n : ℕ). SteersOf (noted Step n v a) c') (sym z)
              (step_steers a c tie.steers (whole tie) (early tie) (slot p) (snap_of p) w.left w.right w.log z);
          reads = subst (λ (n : ℕ). ReadsAll (noted Step n v a) on_step.made.state) (sym z)
              (subst (λ (ms : List Move). ReadsAll (advanced ms a) on_step.made.state) (sym q) (mv (plan c')));
          order = subst (λ (n : ℕ). OrderOf (noted Step n v a) on_step.made.state) (sym z)
              (subst (λ (ms : List Move). OrderOf (advanced ms a) on_step.made.state) (sym q) (od (plan c')));
          own = subst (λ (n : ℕ). OwnOf (noted Step n v a)) (sym z) (subst (λ (ms : List Move). OwnOf (advanced ms a)) (sym q) (owns (move_of p) (plan c')));
        }

    -- ---- what it answers

    outcome_is : (p : Phase) (j : Job) (trial b : Bool) → underway p ≡ true → is_try_job j ≡ trial → (is_last p ≡ true → trial ≡ false) →
        number (outcome p j b) ≡ least (stops a c tie.steers (whole tie) (polls p && b) trial)
    outcome_is Idle j tr b u e f = clash u refl
    outcome_is Begin j tr b u e f = refl
    outcome_is (Poll k) j tr false u e f = refl
    outcome_is (Poll k) Publish tr true u e f = ap (λ (x : Bool). least (stops a c tie.steers (whole tie) true x)) e
    outcome_is (Poll k) Try tr true u e f = ap (λ (x : Bool). least (stops a c tie.steers (whole tie) true x)) e
    outcome_is (Poll k) TakeFirst tr true u e f = ap (λ (x : Bool). least (stops a c tie.steers (whole tie) true x)) e
    outcome_is (Poll k) TakeSecond tr true u e f = ap (λ (x : Bool). least (stops a c tie.steers (whole tie) true x)) e
    outcome_is Copy j tr b u e f = refl
    outcome_is Drain j tr b u e f = refl
    outcome_is (Keep k) j tr b u e f = refl
    outcome_is Swap j tr b u e f = refl
    outcome_is (Snap k) j tr b u e f = refl
    outcome_is Null j tr b u e f = refl
    outcome_is Lock j tr b u e f = refl
    outcome_is (LastSnap k) j tr b u e f = refl
    outcome_is (LastPoll k) j tr false u e f = refl
    outcome_is (LastPoll k) j tr true u e f = ap (λ (x : Bool). least (stops a c tie.steers (whole tie) true x)) (sym (f refl))
    outcome_is Finish j tr b u e f = refl
    outcome_is Gone j tr b u e f = clash u refl

    abbrev met_by : List Move → Bool
    met_by ms = elim ms [ [] ↦ false | x ∷ xs ↦ meets a x ]

    meets_is : meets_reader a ≡ (polls c.phase && holds (slot c.phase) (snap_of c.phase))
    meets_is = ap met_by (tie.steers.left ∙ (plan_head c (whole tie) u).1) ∙ meets_at a st tie.reads c.phase

    answer_is : smallest (step_signs 12 c) ≡ Ok tt → number (after c.phase).answer ≡ wanted a Step
    answer_is v =
        ap number (step_answer c (slot c.phase) (snap_of c.phase) w.left w.right w.log c.phase)
        ∙ outcome_is c.phase c.job a.trial _ u tie.steers.tries tie.steers.stands.last
        ∙ ap (λ (b : Bool). least (stops a c tie.steers (whole tie) b a.trial)) (sym meets_is)
        ∙ sym (wanted_step a c tie.steers (whole tie) ∙ ap (λ y. answer_no y (least (stops a c tie.steers (whole tie) (meets_reader a) a.trial))) v)

    -- ---- a step that is declined: only a poll is

    idle_stands : (p : Phase) (j : Job) (b : Bool) {n s m o : ℕ} {trial gone : Bool} → number (outcome p j b) ≡ 14 → Stands n s m o trial gone p → Stands n s m o trial gone Idle
    idle_stands Idle j b e x = x
    idle_stands Begin j b e x = absurd (omega arith)
    idle_stands (Poll k) j b e x = record { log = x.log; last = λ z. clash z refl; over = x.over }
    idle_stands Copy j b e x = absurd (omega arith)
    idle_stands Drain j b e x = absurd (omega arith)
    idle_stands (Keep k) j b e x = absurd (omega arith)
    idle_stands Swap j b e x = absurd (omega arith)
    idle_stands (Snap k) j b e x = absurd (omega arith)
    idle_stands Null j b e x = absurd (omega arith)
    idle_stands Lock j b e x = absurd (omega arith)
    idle_stands (LastSnap k) j b e x = absurd (omega arith)
    idle_stands (LastPoll k) j true e x = absurd (omega arith)
    idle_stands (LastPoll k) j false e x = absurd (omega arith)
    idle_stands Finish j b e x = absurd (omega arith)
    idle_stands Gone j b e x = absurd (omega arith)

    declined_right : wanted a Step ≡ 14 → StandsOf a c Idle →
        (k : ℕ) → (let o = lift k st (lent (declined_move c (slot_at st k) (snap_at st k)) w.left w.right w.log) in
        InvOf (world_of o) a → Right a Step o)
    unfolding wanted_value
    declined_right z x k inv =
        let h = tie.steers in
        record {
          answer = sym z;
          value = ap (λ (n : ℕ). elim n [ zero ↦ worth a Step | suc m ↦ bit (eqb m 13) ]) (sym z);
          steers = record { first = h.first; second = h.second; side = h.side; null = h.null; tries = h.tries; left = refl; stands = x };
          inv = inv;
          reads = reads_back k;
          order = order_back k;
          own = tie.own;
        }

    advanced_right : smallest (step_signs 12 c) ≡ Ok tt → (m : Lent Moved) → m ≡ step_at c.phase c (slot c.phase) (snap_of c.phase) w.left w.right w.log →
        Stepped c (slot c.phase) (snap_of c.phase) w.left w.right w.log m → Right a Step (lift (place c.phase) st m)
    advanced_right v m e (done q) =
        let z : number (after c.phase).answer ≡ 0 = ap (λ (x : Lent Moved). number x.made.answer) (sym e) ∙ ap number q in
        subst (λ (x : Lent Moved). Right a Step (lift (place c.phase) st x)) (sym e) (made_right z (sym (answer_is v) ∙ z))
    advanced_right v m e held =
        refused_right tie Step refl answer.Held (omega arith) (omega arith) (sym (answer_is v) ∙ ap (λ (x : Lent Moved). number x.made.answer) (sym e)) _
        (move_same (place c.phase) st)
    advanced_right v m e declined =
        let z : number (after c.phase).answer ≡ 14 = ap (λ (x : Lent Moved). number x.made.answer) (sym e) in
        declined_right (sym (answer_is v) ∙ z)
        (idle_stands c.phase c.job (holds (slot c.phase) (snap_of c.phase))
        (ap number (sym (step_answer c (slot c.phase) (snap_of c.phase) w.left w.right w.log c.phase)) ∙ z) tie.steers.stands)
        (place c.phase) (subst (λ (x : Lent Moved). Next (solid tie) tie.inv c.phase (lift (place c.phase) st x)) (sym e) on_keeps)

  pub step_right : Right a Step (reply call_on Step w)
  unfolding call_on step_on
  step_right =
      judging (Right a Step) (smallest (step_signs 12 c))
      (λ v.
      let u = step_underway c v in
      advanced_right u v _ refl (step_stepped c (slot c.phase) (snap_of c.phase) w.left w.right w.log c.phase u))
      (λ x v. mild_right tie Step refl x (refused_mild (step_signs 12 c) refl x v)
      (wanted_step a c tie.steers (whole tie) ∙ ap (λ y. answer_no y (least (stops a c tie.steers (whole tie) (meets_reader a) a.trial))) v) st refl)
