-- The account and the world: every call but step and run answers what the account says, and keeps them alike.
use Prim.Native.Nat.{ℕ, zero, suc, ◌+◌, ◌-◌, ◌%◌, ◌^◌, ◌≤◌, ◌<◌}
use mathlib.Core.Path.{◌≡◌, refl, sym, ap, ◌∙◌, subst, subst₂}
use mathlib.Core.Logic.{◌≢◌}
use mathlib.Core.Bool.{Bool, true, false, not, ◌&&◌, and-false}
use mathlib.Core.List.{List, []}
use native.Mathlib.Omega.{arith}
use native.Mathlib.Decide.{ℕ_discrete}
use lib.ListN.{length, get_or, set}
use lib.Seq.{set-get_or}
use lib.Dec.{eqb, ltb, leb, eqb-suc-zero}
use borrow.Author.Tests.{eq-eqb, ne_eqb, eqb-true, lt-ltb, le-ltb, ltb-true, ltb-false, le-leb, lt-leb, leb-true, leb-false, not-true, not-false}
use Rattle.table.specs.declared.Answer.{Answer}
use Rattle.table.specs.declared.Answer.TheVariants as answer
use Rattle.table.specs.declared.Search.TheVariants.{Walk}
use Rattle.table.specs.Answers.{number}
use Rattle.table.specs.Order.{Op}
use Rattle.table.specs.Seek.{seek}
use Rattle.table.proofs.Seek.{seek_before, seek_found}
use Rattle.table.proofs.Split.{split, by, below}
use Rattle.table.proofs.Booleans.{both, neither, clash}
use Rattle.table.proofs.Lists.{at_set}
use Rattle.read.specs.declared.Phase.{Phase}
use Rattle.read.specs.declared.Phase.TheVariants.{Idle}
use Rattle.read.specs.declared.Slot.{Slot}
use Rattle.read.specs.declared.Control.{Control}
use Rattle.read.specs.declared.State.{State}
use Rattle.read.specs.declared.Made.{Made}
use Rattle.read.specs.declared.Reply.{Reply}
use Rattle.read.specs.declared.Handle.{Handle}
use Rattle.read.specs.declared.Handle.TheVariants.{Drop, Enter, GoOn, Release, LookUp, WasDropped}
use Rattle.read.specs.declared.Job.TheVariants as job
use Rattle.read.specs.Machine.{slot_count, log_room, no_slot, new_slot, with_free, underway, is_gone}
use Rattle.read.specs.Admission.{column, entry, handle_number}
use Rattle.read.specs.Handles.{smallest, handle_signs, create_signs, handle_on, handle_by, create_on, handled, handled_by, with_due, bit}
use Rattle.read.specs.Calls.{Lent, lent, slot_at, with_slot, reply_of}
use Rattle.read.proofs.Verdicts.{Refusal, refused_mild}
use Rattle.read.proofs.Cases.{create_room}
use Rattle.read.proofs.FreeOrder.{alike_set}
use Rattle.read.proofs.Orderly.{free_bound, free_full, full_free}
use Rattle.write.specs.declared.Moved.{Moved}
use Rattle.write.specs.declared.Opening.{Opening}
use Rattle.write.specs.Call.{Call, Create, On, Append, Open, Step, Run}
use Rattle.write.specs.declared.Opening.TheVariants as opening
use Rattle.write.specs.Steps.{at, polling, with_log}
use Rattle.write.specs.Begins.{writer_signs, column_of, batch_room, all_lawful, lawful_batch, crowds, append_first, append_later, append_by, begun, taking, opened, open_on}
use Rattle.write.specs.Runs.{with_move, snap_at, lift}
use Rattle.write.specs.Machine.{call_on}
use Rattle.write.specs.World.{World, world_of, reply, answer_of, value_of}
use Rattle.write.specs.Numbers.{is_run}
use Rattle.write.proofs.Verdicts.{judging, append_idle, open_idle}
use Rattle.write.proofs.Control.{Whole, some_slot}
use Rattle.write.proofs.Cases.{with_job, roomy}
use Rattle.demands.specs.Account.{Reader, Account, leaves, frees, with_at, new_reader, turned, spoke, unswapped, unpublished, accepts, of_store, of_reader, missed, with_plan, noted}
use Rattle.demands.specs.Table.{all_in_use, wanted, wanted_value, worth, worth_on}
use Rattle.demands.proofs.Others.{on_other, open_other}
use Rattle.demands.proofs.Passed.{OnPassed, on_passed, WritePassed, write_passed}
use Rattle.demands.proofs.Shown.Invariant.{Held, reach_at, sight, seen_of, Quiet, ViewOf, Inv}
use Rattle.demands.proofs.Shown.Guards.{none_open, same_at, other_at, new_shut}
use Rattle.demands.proofs.Shown.Slot.{row_after, handled_view, new_view, reload}
use Rattle.demands.proofs.Shown.Log.{length_ops}
use Rattle.demands.proofs.Shown.Stages.{before_null, early_empty}
use Rattle.demands.proofs.Shown.Lifts.{with_control, at_slot, slot_keeps, both_back, free_keeps}
use Rattle.demands.proofs.Shown.Calls.{Resting, own_quiet, first_keeps, later_keeps, publish_keeps, try_keeps, take_keeps}
use Rattle.demands.proofs.Sound.{SoundIn, Firm, firm}
use Rattle.demands.proofs.Account.Moves.{leaves_any}
use Rattle.demands.proofs.Account.Plan.{plan_none}
use Rattle.demands.proofs.Account.Control.{stands_at, SteersOf, Stands, steers_free, flush_steers, open_steers}
use Rattle.demands.proofs.Account.Reader.{Reads, misses, answer15, Met, handled_met}
use Rattle.demands.proofs.Account.Order.{Order, OrderOf, next_is, order_alike, order_freed, order_handed}
use Rattle.demands.proofs.Account.Rows.{answer_no, is_drop, entry_6}
use Rattle.demands.proofs.Account.Answers.{wanted_on, wanted_past, wanted_create, wanted_append, wanted_open}

abbrev pub ReadsAll : Account → State → Type 0
ReadsAll a st = (i : ℕ) → Reads (a.readers i) (slot_at st i) (snap_at st i)

-- slot 0 is the writer's own until take's finish
abbrev pub OwnOf : Account → Type 0
OwnOf a = a.gone ≡ false → (a.readers 0).lives ≡ true

abbrev pub InvOf : World → Account → Type 0
InvOf w a = Inv w (seen_of a)

pub record Tie (w : World) (a : Account) : Type 0 where
  pub sound : SoundIn w
  pub inv : InvOf w a
  pub steers : SteersOf a w.state.control
  pub reads : ReadsAll a w.state
  pub order : OrderOf a w.state
  pub own : OwnOf a

-- what comes of a call
pub record Right (a : Account) (k : Call) (o : Lent Reply) : Type 0 where
  pub answer : answer_of o ≡ wanted a k
  pub value : value_of o ≡ wanted_value a k
  pub inv : InvOf (world_of o) (noted k (answer_of o) (value_of o) a)
  pub steers : SteersOf (noted k (answer_of o) (value_of o) a) o.made.state.control
  pub reads : ReadsAll (noted k (answer_of o) (value_of o) a) o.made.state
  pub order : OrderOf (noted k (answer_of o) (value_of o) a) o.made.state
  pub own : OwnOf (noted k (answer_of o) (value_of o) a)

-- ---- values

pub value_done : (a : Account) (k : Call) (v : ℕ) → wanted a k ≡ 0 → v ≡ worth a k → v ≡ wanted_value a k
unfolding wanted_value
value_done a k v e q = q ∙ ap (λ (n : ℕ). elim n [ zero ↦ worth a k | suc m ↦ bit (eqb m 13) ]) (sym e)

pub value_other : (a : Account) (k : Call) (n : ℕ) → wanted a k ≡ n → 3 ≤ n → n ≢ 14 → 0 ≡ wanted_value a k
unfolding wanted_value
value_other a k n e lt ne = go n lt ne ∙ ap (λ (n : ℕ). elim n [ zero ↦ worth a k | suc m ↦ bit (eqb m 13) ]) (sym e)
  where
    go : (n : ℕ) → 3 ≤ n → n ≢ 14 → ◌≡◌ {A = ℕ} 0 (elim n [ zero ↦ worth a k | suc m ↦ bit (eqb m 13) ])
    go zero lt ne = absurd (omega arith)
    go (suc m) lt ne = ap bit (sym (ne_eqb m 13 (λ q. ne (omega arith))))

-- answers 0 and 15
value_fifteen :
    (a : Account) (k : Call) (b : Bool) (v x : ℕ) → x ≡ answer15 b → wanted a k ≡ answer15 b →
    v ≡ elim x [ zero ↦ worth a k | suc n ↦ 0 ] → v ≡ wanted_value a k
value_fifteen a k true v x e z q = (q ∙ ap (λ (y : ℕ). elim y [ zero ↦ worth a k | suc n ↦ 0 ]) e) ∙ value_other a k 15 z (omega arith) (λ y. omega arith)
value_fifteen a k false v x e z q = value_done a k v z (q ∙ ap (λ (y : ℕ). elim y [ zero ↦ worth a k | suc n ↦ 0 ]) e)

-- ---- one slot is stored

module _ (st : State) (a : Account) (len : length st.slots ≡ slot_count) (h : ReadsAll a st) (i : ℕ) (lt : i < slot_count) where
  pub slot_reads : (r : Reader) (s : Slot) → Reads r s (snap_at st i) → (k : ℕ) → Reads (with_at i r a.readers k) (get_or (set st.slots i s) k no_slot) (snap_at st k)
  slot_reads r s x =
      at_set (λ k y. Reads (with_at i r a.readers k) y (snap_at st k)) st.slots i s no_slot (omega arith)
      (subst (λ (q : Reader). Reads q s (snap_at st i)) (sym (same_at i r a.readers)) x)
      (λ k ne. subst (λ (q : Reader). Reads q (slot_at st k) (snap_at st k)) (sym (other_at i r a.readers k ne)) (h k))

-- what the guards loaded, where one reader is changed
module _ (rs : ℕ → Reader) (i : ℕ) where
  pub other_loaded : (r : Reader) (k : ℕ) → k ≢ i → (with_at i r rs k).loaded ≡ (rs k).loaded
  other_loaded r k ne = ap (λ (q : Reader). q.loaded) (other_at i r rs k ne)

  -- by something that leaves it alone
  pub same_loaded : (r : Reader) → r.loaded ≡ (rs i).loaded → (k : ℕ) → (with_at i r rs k).loaded ≡ (rs k).loaded
  same_loaded r e k = elim (ℕ_discrete k i) [
    | yes q ↦ subst (λ (z : ℕ). (with_at i r rs z).loaded ≡ (rs z).loaded) (sym q) (ap (λ (x : Reader). x.loaded) (same_at i r rs) ∙ e)
    | no ne ↦ other_loaded r k ne
  ]

pub loads_nothing : {x : World} (a : Account) (i : ℕ) (r : Reader) → r.loaded ≡ (a.readers i).loaded → InvOf x a → InvOf x (of_reader i (λ _. r) a)
loads_nothing {x} a i r e h =
    subst (λ (ld : ℕ → ℕ → List Op). Inv x (sight a.store.accepted a.store.at_begin a.store.published ld))
    (λ z k. sym (same_loaded a.readers i r e k) z) h

-- what is read and put back is as it was
pub slot_same : (i : ℕ) (st : State) → with_slot i (slot_at st i) st ≡ st
slot_same i st = simp set-get_or

pub move_same : (i : ℕ) (st : State) → with_move i st.control (slot_at st i) (snap_at st i) st ≡ st
move_same i st = simp set-get_or

-- ---- a refusal is noted by nothing

at_self : {A : Type 0} (i : ℕ) (f : ℕ → A) (k : ℕ) → with_at i (f i) f k ≡ f k
at_self i f k = elim (ℕ_discrete k i) [
  | yes e ↦ subst (λ (z : ℕ). with_at i (f i) f z ≡ f z) (sym e) (same_at i (f i) f)
  | no ne ↦ other_at i (f i) f k ne
]

self_noted : (i : ℕ) (a : Account) → of_reader i (λ r. r) a ≡ a
self_noted i a =
    λ z. record { readers = λ k. at_self i a.readers k z; store = a.store; plan = a.plan; trial = a.trial; taken = a.taken; gone = a.gone; slots = a.slots }

leaves_refused : (h : Handle) (n i : ℕ) (a : Account) → leaves h (suc n) i a ≡ a
leaves_refused h n i a =
    ap (λ (b : Bool). elim b [ true ↦ frees i a | false ↦ a ])
    (ap (λ (b : Bool). eqb (handle_number h) 2 && b) (eqb-suc-zero n) ∙ and-false (eqb (handle_number h) 2))

noted_refused : (k : Call) (a : Account) → is_run k ≡ false → (n : ℕ) → 3 ≤ n → n ≤ 13 → noted k n 0 a ≡ a
noted_refused k a q zero lt le = absurd (omega arith)
noted_refused Create a q (suc n) lt le = refl
noted_refused (On i h) a q (suc n) lt le =
    let other : (eqb (handle_number h) 4 && eqb (suc n) 15) ≡ false =
    ap (λ (b : Bool). eqb (handle_number h) 4 && b) (ne_eqb (suc n) 15 (λ z. omega arith)) ∙ and-false (eqb (handle_number h) 4) in
    leaves_refused h n i _ ∙ ap (λ (b : Bool). of_reader i (λ r. elim b [ true ↦ missed r | false ↦ r ]) a) other ∙ self_noted i a
noted_refused (Append os) a q (suc n) lt le = refl
noted_refused (Open o) a q (suc n) lt le = refl
noted_refused Step a q (suc n) lt le = ap (λ (b : Bool). elim b [ true ↦ with_plan a.trial [] a | false ↦ a ]) (ne_eqb (suc n) 14 (λ z. omega arith))
noted_refused Run a q (suc n) lt le = clash refl q

module _ {w : World} {a : Account} (tie : Tie w a) where
  abbrev c : Control
  c = w.state.control

  pub whole : Whole c
  whole = tie.sound.good.whole

  pub len : length w.state.slots ≡ slot_count
  len = tie.sound.slots

  pub early : c.first ≡ true → c.length ≡ 0
  early f = sym (length_ops c.length 0 w.log) ∙ ap length (early_empty f tie.inv.stage)

  -- ---- a refusal

  pub refused_right :
      (k : Call) → is_run k ≡ false → (x : Answer) → 3 ≤ number x → number x ≤ 13 → wanted a k ≡ number x → (st : State) → st ≡ w.state →
      Right a k (lent (record { answer = x; value = 0; state = st }) w.left w.right w.log)
  refused_right k q x lt le z st e =
      let n = noted_refused k a q (number x) lt le in
      record {
        answer = sym z;
        value = value_other a k (number x) z lt (λ y. omega arith);
        inv = subst₂ (λ (b : Account) (s : State). InvOf (record { state = s; left = w.left; right = w.right; log = w.log }) b) (sym n) (sym e) tie.inv;
        steers = subst₂ (λ (b : Account) (s : State). SteersOf b s.control) (sym n) (sym e) tie.steers;
        reads = subst₂ ReadsAll (sym n) (sym e) tie.reads;
        order = subst₂ OrderOf (sym n) (sym e) tie.order;
        own = subst OwnOf (sym n) tie.own;
      }

  pub mild_right :
      (k : Call) → is_run k ≡ false → (x : Answer) → Refusal x → wanted a k ≡ number x → (st : State) → st ≡ w.state →
      Right a k (lent (record { answer = x; value = 0; state = st }) w.left w.right w.log)
  mild_right k q x m z st e = refused_right k q x m.0 (omega arith) z st e

  pub solid : Firm w
  solid = firm tie.sound

  -- slot i and its reader are changed, and k is handed out next
  slot_inv : (i k : ℕ) → i < slot_count → (r : Reader) (s : Slot) → (i ≡ 0 → underway c.phase ≡ true → Quiet s) → ViewOf w i r.loaded s →
      InvOf (with_control (with_free k c) (at_slot i s w)) (of_reader i (λ _. r) a)
  slot_inv i k lt r s quiet v =
      free_keeps k
      (slot_keeps solid tie.inv i lt s (λ k. (with_at i r a.readers k).loaded) (other_loaded a.readers i r) quiet
      (subst (λ (q : Reader). ViewOf w i q.loaded s) (sym (same_at i r a.readers)) v))

  pub own_at : (i : ℕ) (r : Reader) → (i ≡ 0 → a.gone ≡ false → r.lives ≡ true) → OwnOf (of_reader i (λ _. r) a)
  own_at i r f g = by (λ (q : Reader). q.lives ≡ true) (eqb 0 i) (λ e. f (sym (eqb-true 0 i e)) g) (λ _. tie.own g)

  -- a store that leaves the slot's use and link
  pub order_kept : (i : ℕ) (s : Slot) → s.used ≡ (slot_at w.state i).used → s.link ≡ (slot_at w.state i).link →
      Order a.slots.freed a.slots.used c.free (set w.state.slots i s)
  order_kept i s u l = order_alike tie.order (alike_set w.state.slots i s u l)

  -- no slot is free exactly where a handle lives in each
  pub full_is : all_in_use a ≡ leb slot_count c.free
  full_is =
      split (all_in_use a)
      (λ e.
      e ∙ sym (le-leb slot_count c.free (omega (
        arith,
        full_free w.state tie.sound.ordered (λ i l.
            (tie.reads i).lives ∙ not-false _ (seek_before vacant slot_count i (omega (arith, leb-true slot_count lowest e)))),
      ))))
      (λ e.
      let l : lowest < slot_count = leb-false slot_count lowest e in
      let n : c.free ≢ slot_count = λ q.
      clash (sym (tie.reads lowest).lives ∙ free_full w.state tie.sound.ordered q lowest l) (not-true _ (seek_found vacant slot_count l)) in
      e ∙ sym (lt-leb slot_count c.free (omega (arith, n, free_bound w.state tie.sound.ordered))))
    where
      vacant : ℕ → Bool
      vacant i = not (a.readers i).lives

      lowest : ℕ
      lowest = seek (λ i. not (a.readers i).lives) 0 slot_count

  -- ---- create

  pub create_right : Right a Create (reply call_on Create w)
  unfolding call_on create_on
  create_right =
      let i = c.free in
      judging (λ (m : Made). Right a Create (lent (reply_of i m w.state) w.left w.right w.log)) (smallest (create_signs c))
      (λ v.
      let z = want ∙ ap (λ x. answer_no x 0) v in
      let lt = create_room c v in
      record {
        answer = sym z;
        value = value_done a Create i z (next_is tie.order);
        inv = slot_inv i _ lt (new_reader (a.readers i)) new_slot (λ _ _. record { idle = refl; alone = none_open }) new_view;
        steers = steers_free a _ tie.steers;
        reads = slot_reads w.state a len tie.reads i lt (new_reader (a.readers i)) new_slot
            (record { lives = refl; due = refl; guards = new_shut; epoch = refl; snapshot = (tie.reads i).snapshot });
        order = order_handed tie.order lt;
        own = own_at i (new_reader (a.readers i)) (λ _ _. refl);
      })
      (λ x v.
      mild_right Create refl x (refused_mild (create_signs c) refl x v) (want ∙ ap (λ y. answer_no y 0) v) _ (slot_same i w.state))
    where
      want : wanted a Create ≡ answer_no (smallest (create_signs c)) 0
      want = wanted_create a c tie.steers whole full_is

  -- ---- a call on a handle

  module _ (i : ℕ) (lt : i < slot_count) (hd : Handle) where
    abbrev s : Slot
    s = slot_at w.state i

    abbrev pub OnRight : Made → Type 0
    OnRight m = Right a (On i hd) (lent (reply_of i m w.state) w.left w.right w.log)

    want_on : wanted a (On i hd) ≡ answer_no (smallest (handle_signs c (eqb i 0) s hd)) (answer15 (misses (a.readers i) hd c.null))
    want_on = wanted_on a c tie.steers whole i lt s (snap_at w.state i) (tie.reads i) (tie.inv.each i).shape hd

    -- the reader then
    abbrev after : Made → Reader
    after m = spoke hd (number m.answer) m.value a.store.published (a.readers i)

    abbrev MetBy : Made → Type 0
    MetBy m =
        Met a.store.published (tie.reads i) (tie.inv.each i).four c (after m) (misses (a.readers i) hd c.null)
        (worth_on hd c.null (a.readers i)) hd m

    abbrev OrderedBy : Made → Type 0
    OrderedBy m = OrderOf (leaves hd (number m.answer) i (of_reader i (λ _. after m) a)) (reply_of i m w.state).state

    met_right : (m : Made) → wanted a (On i hd) ≡ answer15 (misses (a.readers i) hd c.null) →
        (i ≡ 0 → underway c.phase ≡ true → Quiet m.slot) →
        ViewOf w i (row_after hd (number m.answer) m.value a.store.published (a.readers i).loaded) m.slot →
        OrderedBy m → (i ≡ 0 → a.gone ≡ false → (after m).lives ≡ true) → MetBy m → OnRight m
    met_right m z quiet view order own x =
        let b = of_reader i (λ _. after m) a in
        let n = number m.answer in
        let st = (reply_of i m w.state).state in
        let inv = slot_inv i m.free lt (after m) m.slot quiet (reload view (λ j o. x.row j (sym (x.reads.guards j) ∙ o))) in
        let steers = steers_free a m.free tie.steers in
        let reads = slot_reads w.state a len tie.reads i lt _ m.slot x.reads in
        let o = own_at i (after m) own in
        record {
          answer = x.answer ∙ sym z;
          value = value_fifteen a (On i hd) (misses (a.readers i) hd c.null) m.value (number m.answer) x.answer z
              (x.value ∙ ap (λ (b : Bool). elim (number m.answer) [ zero ↦ worth_on hd b (a.readers i) | suc n ↦ 0 ]) tie.steers.null);
          inv = leaves_any (InvOf (record { state = st; left = w.left; right = w.right; log = w.log })) hd n i b inv inv;
          steers = leaves_any (λ (x : Account). SteersOf x st.control) hd n i b steers steers;
          reads = leaves_any (λ (x : Account). ReadsAll x st) hd n i b reads reads;
          order = order;
          own = leaves_any OwnOf hd n i b o o;
        }

    -- a handle that lives in slot 0 is not dropped before take's finish
    on_lives : (m : Made) → OnPassed c (eqb i 0) s hd → MetBy m → i ≡ 0 → a.gone ≡ false → (after m).lives ≡ true
    on_lives m u x z g =
        split (is_drop hd)
        (λ d.
        let early : not (is_gone c.phase) ≡ false =
        sym (λ j. eq-eqb i 0 z j && elim (d j) [ true ↦ not (is_gone c.phase) | false ↦ underway c.phase ])
        ∙ sym (entry_6 c.phase hd (eqb i 0)) ∙ (neither (eqb (entry c.phase (column hd (eqb i 0))) 6) _ u.timely).0 in
        clash (sym tie.steers.stands.over ∙ not-false _ early) g)
        (λ n. sym x.reads.lives ∙ (x.stays n).0 ∙ not-false _ u.slot)

    -- a call that is no drop leaves the order
    stays_order : (m : Made) → is_drop hd ≡ false → MetBy m → Order a.slots.freed a.slots.used m.free (set w.state.slots i m.slot)
    stays_order m n x =
        let (u, l, f) = x.stays n in
        subst (λ (k : ℕ). Order a.slots.freed a.slots.used k (set w.state.slots i m.slot)) (sym f) (order_kept i m.slot u l)

    unwaited : c.null ≡ false → Held (reach_at c.phase).emptied (reach_at c.phase).resnapped i (snap_at w.state i) s.epoch
    unwaited z = let (e, r) = before_null c.phase (sym whole.pointed ∙ z) in (omega arith, λ lt. absurd (omega arith))

  -- a drop makes its slot the first
  on_order : (i : ℕ) (lt : i < slot_count) (hd : Handle) → OnPassed c (eqb i 0) (slot_at w.state i) hd →
      (let m = handled c i (slot_at w.state i) hd w.left w.right in MetBy i lt hd m → OrderedBy i lt hd m)
  unfolding handled_by
  on_order i lt Drop u x = order_freed tie.order i (slot_at w.state i) (omega (arith, len)) (not-false _ u.slot)
  on_order i lt Enter u x = stays_order i lt Enter _ refl x
  on_order i lt GoOn u x = stays_order i lt GoOn _ refl x
  on_order i lt (Release j) u x = stays_order i lt (Release j) _ refl x
  on_order i lt (LookUp j key) u x = stays_order i lt (LookUp j key) _ refl x
  on_order i lt WasDropped u x = stays_order i lt WasDropped _ refl x

  module _ (i : ℕ) (lt : i < slot_count) (hd : Handle) where
    on_right : OnRight i lt hd (handle_on c i (slot_at w.state i) hd w.left w.right)
    unfolding handle_by
    on_right =
        let s = slot_at w.state i in
        let signs = handle_signs c (eqb i 0) s hd in
        let want = want_on i lt hd in
        let miss = answer15 (misses (a.readers i) hd c.null) in
        judging (OnRight i lt hd) (smallest signs)
        (λ v.
        let u = on_passed c (eqb i 0) s hd v in
        let m = handled c i s hd w.left w.right in
        let x = handled_met a.store.published (tie.reads i) (tie.inv.each i).four c w.left w.right (tie.inv.each i).shows i hd u in
        met_right i lt hd m (want ∙ ap (λ y. answer_no y miss) v) (own_quiet solid tie.inv i hd m.slot u)
        (handled_view c a.store.published tie.inv.read (tie.inv.each i) (not-false _ u.slot) (unwaited i lt hd) (eqb i 0) hd u)
        (on_order i lt hd u x) (on_lives i lt hd m u x) x)
        (λ x v.
        mild_right (On i hd) (on_other i hd).no_run x (refused_mild signs refl x v) (want ∙ ap (λ y. answer_no y miss) v) _ (slot_same i w.state))

  pub handle_right : (i : ℕ) (hd : Handle) → Right a (On i hd) (reply call_on (On i hd) w)
  unfolding call_on
  handle_right i hd =
      below (λ (o : Reply). Right a (On i hd) (lent o w.left w.right w.log)) i slot_count (λ lt. on_right i lt hd)
      (λ le. mild_right (On i hd) (on_other i hd).no_run answer.NoSlot (omega arith, omega arith) (wanted_past a c tie.steers whole i le hd) w.state refl)

  -- ---- the writer's calls that are made at once

  abbrev s0 : Slot
  s0 = slot_at w.state 0

  abbrev e0 : ℕ
  e0 = snap_at w.state 0

  -- slot 0 and its snapshot put back as they were
  abbrev kept_at : Control → State
  kept_at d = with_move 0 d s0 e0 w.state

  reads_kept : (d : Control) → ReadsAll a (kept_at d)
  reads_kept d =
      subst₂ (λ (ss : List Slot) (es : List ℕ). (i : ℕ) → Reads (a.readers i) (get_or ss i no_slot) (get_or es i 0))
      (sym (set-get_or w.state.slots 0 no_slot)) (sym (set-get_or w.state.snapshots 0 0)) tie.reads

  -- in phase Idle, with so many operations logged
  logged_steers : (n m : ℕ) (ops : List Op) → c.phase ≡ Idle → (c.length ≡ a.store.in_log → n ≡ m) →
      SteersOf
      (of_store (λ x. record { accepted = ops; at_begin = x.at_begin; published = x.published; in_log = m; swap_index = x.swap_index; swaps = x.swaps; synced = x.synced }) a)
      (with_log n c.swapped c)
  logged_steers n m ops q f =
      let h = tie.steers in
      let x = stands_at a h q in
      record {
        first = h.first;
        second = h.second;
        side = h.side;
        null = h.null;
        tries = h.tries;
        left = h.left ∙ plan_none c (ap underway q) ∙ sym (plan_none (with_log n c.swapped c) (ap underway q));
        stands = subst (λ (p : Phase). Stands n c.swapped m a.store.swap_index a.trial a.gone p) (sym q)
            (record { log = (f x.log.0, x.log.1); last = x.last; over = x.over });
      }

  -- in phase Idle, with slot 0 at rest
  resting : c.phase ≡ Idle → (column : ℕ) (bad full : Bool) → WritePassed column bad full c s0 → Resting solid tie.inv
  resting q column bad full u =
      record { idle = q; quiet = record { idle = (neither (eqb (entry c.phase column) 6) _ u.timely).1; alone = u.guards } }

  module _ (os : List Op) where
    abbrev ApRight : Lent Moved → Type 0
    ApRight m = Right a (Append os) (lift 0 w.state m)

    abbrev first_state : State
    first_state =
        with_move 0 c (with_due ((s0.epoch + 2) % 2 ^ 64) s0.due s0) e0 w.state

    first_reads : (i : ℕ) → Reads (with_at 0 (turned 2 (a.readers 0).due (a.readers 0)) a.readers i) (slot_at first_state i) (snap_at first_state i)
    first_reads =
        subst (λ (es : List ℕ). (i : ℕ) → Reads (with_at 0 (turned 2 (a.readers 0).due (a.readers 0)) a.readers i) (slot_at first_state i) (get_or es i 0))
        (sym (set-get_or w.state.snapshots 0 0))
        (slot_reads w.state a len tie.reads 0 some_slot _ _
        (let h = tie.reads 0 in
        record { lives = h.lives; due = h.due; guards = h.guards; epoch = omega (arith, h.epoch); snapshot = h.snapshot }))

    -- by whether a swap came before
    abbrev by_first : Bool → Account
    by_first b = elim b [ true ↦ of_reader 0 (λ r. turned 2 r.due r) (of_store (accepts 0 os) a) | false ↦ of_store (accepts (length os) os) a ]

    module _ (z : wanted a (Append os) ≡ 0) (rest : Resting solid tie.inv) where
      q : c.phase ≡ Idle
      q = rest.idle

      early_right : c.first ≡ true → all_lawful os ≡ true → ApRight (append_first Walk os c s0 e0 w.left w.right w.log)
      early_right f law =
          let u : true ≡ unswapped a.store = sym f ∙ tie.steers.first in
          record {
            answer = sym z;
            value = value_done a (Append os) 0 z refl;
            steers = subst (λ (b : Bool). SteersOf (by_first b) c) u (logged_steers c.length (a.store.in_log + 0) _ q (λ e. omega arith));
            reads = subst (λ (b : Bool). ReadsAll (by_first b) first_state) u first_reads;
            order = subst (λ (b : Bool). OrderOf (by_first b) first_state) u (order_kept 0 _ refl refl);
            own = subst (λ (b : Bool). OwnOf (by_first b)) u (own_at 0 (turned 2 (a.readers 0).due (a.readers 0)) (λ _. tie.own));
            inv = subst (λ (b : Bool). InvOf (world_of (lift 0 w.state (append_first Walk os c s0 e0 w.left w.right w.log))) (by_first b)) u
                (loads_nothing (of_store (accepts 0 os) a) 0 (turned 2 (a.readers 0).due (a.readers 0)) refl (first_keeps solid tie.inv rest os f law));
          }

      later_right : c.first ≡ false → c.length + length os ≤ log_room → ApRight (append_later os c s0 e0 w.left w.right w.log)
      later_right f room =
          let d = with_log (c.length + length os) c.swapped c in
          let u : false ≡ unswapped a.store = sym f ∙ tie.steers.first in
          record {
            answer = sym z;
            value = value_done a (Append os) 0 z refl;
            steers = subst (λ (b : Bool). SteersOf (by_first b) d) u
                (logged_steers (c.length + length os) (a.store.in_log + length os) _ q (λ e. omega arith));
            reads = subst (λ (b : Bool). ReadsAll (by_first b) (kept_at d)) u (reads_kept d);
            order = subst (λ (b : Bool). OrderOf (by_first b) (kept_at d)) u (order_kept 0 s0 refl refl);
            own = subst (λ (b : Bool). OwnOf (by_first b)) u tie.own;
            inv = subst (λ (b : Bool). InvOf (world_of (lift 0 w.state (append_later os c s0 e0 w.left w.right w.log))) (by_first b)) u
                (later_keeps solid tie.inv rest os f room);
          }

    pub append_right : Right a (Append os) (reply call_on (Append os) w)
    unfolding call_on append_by
    append_right =
        let bad = not (lawful_batch os) in
        let full = crowds (length os) c in
        let signs = writer_signs 7 bad full c s0 in
        let want = wanted_append a c tie.steers whole s0 e0 (tie.reads 0) os in
        judging ApRight (smallest signs)
        (λ v.
        let z = want ∙ ap (λ y. answer_no y 0) v in
        let u = write_passed 7 bad full c s0 v in
        let rest = resting (append_idle bad full c s0 v) 7 bad full u in
        by ApRight c.first
        (λ f. early_right z rest f (both (leb (length os) batch_room) (all_lawful os) (not-false (lawful_batch os) u.operation)).1)
        (λ f. later_right z rest f (roomy (c.length + length os) c.first f u.log)))
        (λ x v. mild_right (Append os) refl x (refused_mild signs refl x v) (want ∙ ap (λ y. answer_no y 0) v) (kept_at c) (move_same 0 w.state))

  -- ---- publish, try, flush, take

  abbrev OpRight : Opening → Moved → Type 0
  OpRight o m = Right a (Open o) (lift 0 w.state (lent m w.left w.right w.log))

  some_unpublished : c.phase ≡ Idle → ltb c.swapped c.length ≡ ltb 0 (unpublished a.store)
  some_unpublished q =
      let x = stands_at a tie.steers q in
      go (ltb c.swapped c.length) refl ∙ (λ z. ltb 0 (x.log.0 z - x.log.1 z))
    where
      go : (b : Bool) → ltb c.swapped c.length ≡ b → ltb c.swapped c.length ≡ ltb 0 (c.length - c.swapped)
      go true e = e ∙ sym (lt-ltb 0 (c.length - c.swapped) (omega (arith, ltb-true c.swapped c.length e)))
      go false e = e ∙ sym (le-ltb 0 (c.length - c.swapped) (omega (arith, ltb-false c.swapped c.length e)))

  opened_right : (o : Opening) → wanted a (Open o) ≡ 0 → Resting solid tie.inv → OpRight o (opened o c s0 e0)
  unfolding opened
  opened_right opening.Publish z rest =
      record {
        answer = sym z;
        value = value_done a (Open opening.Publish) 0 z refl;
        steers = open_steers a c tie.steers whole early rest.idle s0 e0 opening.Publish;
        reads = reads_kept (begun c);
        order = order_kept 0 s0 refl refl;
        own = tie.own;
        inv = publish_keeps solid tie.inv rest;
      }
  opened_right opening.Try z rest =
      record {
        answer = sym z;
        value = value_done a (Open opening.Try) 0 z refl;
        steers = open_steers a c tie.steers whole early rest.idle s0 e0 opening.Try;
        reads = reads_kept (at (polling c 0) (with_job job.Try c));
        order = order_kept 0 s0 refl refl;
        own = tie.own;
        inv = try_keeps solid tie.inv rest;
      }
  opened_right opening.Flush z rest =
      by (OpRight opening.Flush) (ltb c.swapped c.length)
      (λ e.
      record {
        answer = sym z;
        value = value_done a (Open opening.Flush) 1 z (sym (ap bit (sym (some_unpublished rest.idle) ∙ e)));
        steers = flush_steers a c tie.steers whole early rest.idle s0 e0;
        reads = reads_kept (begun c);
        order = order_kept 0 s0 refl refl;
        own = tie.own;
        inv = publish_keeps solid tie.inv rest;
      })
      (λ e.
      record {
        answer = sym z;
        value = value_done a (Open opening.Flush) 0 z (sym (ap bit (sym (some_unpublished rest.idle) ∙ e)));
        steers = tie.steers;
        reads = reads_kept c;
        order = order_kept 0 s0 refl refl;
        own = tie.own;
        inv = both_back 0 w tie.inv;
      })
  opened_right opening.Take z rest =
      record {
        answer = sym z;
        value = value_done a (Open opening.Take) 0 z refl;
        steers = open_steers a c tie.steers whole early rest.idle s0 e0 opening.Take;
        reads = reads_kept (at (taking c) (with_job job.TakeFirst c));
        order = order_kept 0 s0 refl refl;
        own = tie.own;
        inv = take_keeps solid tie.inv rest;
      }

  pub open_right : (o : Opening) → Right a (Open o) (reply call_on (Open o) w)
  unfolding call_on open_on
  open_right o =
      let signs = writer_signs (column_of o) false false c s0 in
      let want = wanted_open a c tie.steers whole s0 e0 (tie.reads 0) o in
      judging (OpRight o) (smallest signs)
      (λ v. opened_right o (want ∙ ap (λ y. answer_no y 0) v) (resting (open_idle o c s0 v) (column_of o) false false (write_passed (column_of o) false false c s0 v)))
      (λ x v. mild_right (Open o) (open_other o).no_run x (refused_mild signs refl x v) (want ∙ ap (λ y. answer_no y 0) v) (kept_at c) (move_same 0 w.state))
