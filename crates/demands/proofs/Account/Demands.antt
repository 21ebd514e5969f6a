-- The demands, over what a history says, of the rules: account and world stay alike along every history.
use Prim.Native.Nat.{ℕ, zero, suc, ◌-◌, ◌*◌, ◌≤◌, ◌<◌}
use mathlib.Core.Path.{◌≡◌, refl, sym, ap, ◌∙◌, subst, subst₂}
use mathlib.Core.Logic.{⊎_elim}
use mathlib.Core.Bool.{Bool, true, false, not, ◌&&◌, ◌||◌}
use mathlib.Core.List.{List, [], ◌∷◌}
use native.Mathlib.Omega.{arith}
use lib.Dec.{eqb, ltb}
use lib.ListN.{get_or, get_or-eq_default}
use borrow.Author.Tests.{eqb-true, lt-ltb, not-false}
use Rattle.table.specs.Order.{Op, empty, after}
use Rattle.table.proofs.Split.{split, under, by}
use Rattle.table.proofs.Booleans.{clash}
use Rattle.table.proofs.Lists.{get_d_same}
use Rattle.read.specs.declared.Phase.{Phase}
use Rattle.read.specs.declared.Slot.{Slot}
use Rattle.read.specs.declared.Control.{Control}
use Rattle.read.specs.declared.Handle.TheVariants.{LookUp}
use Rattle.read.specs.Machine.{Verdict, slot_count, guard_count, no_slot, log_words, fresh, is_gone, is_open, judged}
use Rattle.std.specs.Prelude.{Ok, Err}
use Rattle.read.specs.declared.Sign.{Sign}
use Rattle.read.specs.Handles.{smallest, handle_signs, guarded_copy, copy_of, bit}
use Rattle.read.specs.Calls.{slot_at, through_rule}
use Rattle.read.proofs.Verdicts.{mild, refused_mild}
use Rattle.read.proofs.Phases.{gone_is, idle_or_gone}
use Rattle.write.specs.Call.{Call, Create, On, Append, Open, Step, Run}
use Rattle.write.specs.Runs.{snap_at}
use Rattle.write.specs.Machine.{call_on, call_rule}
use Rattle.write.specs.World.{World, fresh_world, reply, next, answer_of, value_of}
use Rattle.write.specs.Numbers.{is_run}
use Rattle.write.proofs.Verdicts.{judging}
use Rattle.write.proofs.NeverBroken.{sound_judged, sound_fresh}
use Rattle.demands.specs.Account.{Reader, Account, fresh_account, new_reader, nobody, advanced, ran, noted}
use Rattle.demands.specs.Table.{least, busy, wanted, wanted_value, worth}
use Rattle.demands.specs.Demands.{Unused as UnusedIn, Told, tell, telling, told, Runs, shown, copy_seen, HandsOver, Demands, after_steps as stepped_world}
use Rattle.demands.proofs.Others.{on_other, open_other}
use Rattle.demands.proofs.Passed.{on_passed}
use Rattle.demands.proofs.Delay.RunIsSteps.{RunIsSteps, run_is_steps_sound}
use Rattle.demands.proofs.Sides.{read_copy, write_copy}
use Rattle.demands.proofs.Shown.Invariant.{seen_of, Stage, ops_of}
use Rattle.demands.proofs.Shown.Guards.{open_below, all_shut, other_at, new_shut}
use Rattle.demands.proofs.Shown.Slot.{guard_inside}
use Rattle.demands.proofs.Shown.Stages.{gone_stage}
use Rattle.demands.proofs.Shown.Fresh.{fresh_inv}
use Rattle.demands.proofs.Sound.{of_rule, sound_next}
use Rattle.demands.proofs.Shown.Lifts.{gone_shut}
use Rattle.demands.proofs.Account.Control.{stands_at}
use Rattle.demands.proofs.Account.Reader.{Reads}
use Rattle.demands.proofs.Account.Order.{order_fresh}
use Rattle.demands.proofs.Account.Rows.{answer_no, busy_is, row}
use Rattle.demands.proofs.Account.Answers.{wanted_on}
use Rattle.demands.proofs.Account.Calls.{Tie, Right, whole, solid, create_right, handle_right, append_right, open_right}
use Rattle.demands.proofs.Account.Step.{step_right}

-- ---- one call

module _ {w : World} {a : Account} (h : Tie w a) where
  pub right : (k : Call) → is_run k ≡ false → Right a k (reply call_rule k w)
  right k q = of_rule (Right a k) k w h.sound (on k q)
    where
      on : (k : Call) → is_run k ≡ false → Right a k (reply call_on k w)
      on Create q = create_right h
      on (On i x) q = handle_right h i x
      on (Append os) q = append_right h os
      on (Open o) q = open_right h o
      on Step q = step_right h
      on Run q = clash refl q

  -- the value of a call that was answered 0
  pub worth_is : (k : Call) → is_run k ≡ false → answer_of (reply call_rule k w) ≡ 0 → value_of (reply call_rule k w) ≡ worth a k
  unfolding wanted_value
  worth_is k q z =
      (right k q).value ∙ ap (λ (n : ℕ). elim n [ zero ↦ worth a k | suc m ↦ bit (eqb m 13) ]) (sym (right k q).answer ∙ z)

  pub all_call : (k : Call) → is_run k ≡ false → (let o = reply call_rule k w in Tie (next call_rule k w) (noted k (answer_of o) (value_of o) a))
  all_call k q =
      let r = right k q in record { sound = sound_next k w h.sound; inv = r.inv; steers = r.steers; reads = r.reads; order = r.order; own = r.own }

-- ---- a run

pub all_steps : (n : ℕ) (w : World) (a : Account) → Tie w a → ((j : ℕ) → j < n → answer_of (reply call_rule Step (stepped_world call_rule j w)) ≡ 0) →
    Tie (stepped_world call_rule n w) (ran n a)
all_steps zero w a h made = h
all_steps (suc n) w a h made =
    all_steps n (next call_rule Step w) (advanced a.plan a)
    (subst (λ (x : ℕ). Tie (next call_rule Step w) (noted Step x (value_of (reply call_rule Step w)) a)) (made 0 (omega arith)) (all_call h Step refl))
    (λ j b. made (suc j) (omega arith))

all_run : {w : World} {a : Account} → Tie w a → (let o = reply call_rule Run w in Tie (next call_rule Run w) (noted Run (answer_of o) (value_of o) a))
all_run {w} {a} h = go (answer_of (reply call_rule Run w)) refl
  where
    runs : RunIsSteps call_rule w
    runs = run_is_steps_sound w h.sound

    v : ℕ
    v = value_of (reply call_rule Run w)

    here : Tie (stepped_world call_rule (value_of (reply call_rule Run w)) w) (ran (value_of (reply call_rule Run w)) a)
    here = all_steps (value_of (reply call_rule Run w)) w a h runs.made

    go : (x : ℕ) → answer_of (reply call_rule Run w) ≡ x → Tie (next call_rule Run w) (noted Run x (value_of (reply call_rule Run w)) a)
    go zero e = subst (λ (y : World). Tie y (ran (value_of (reply call_rule Run w)) a)) (sym (runs.ended e).1) here
    go (suc x) e =
        let s = runs.stopped (λ z. omega arith) in
        let y = stepped_world call_rule (value_of (reply call_rule Run w)) w in
        subst₂ (λ (z : World) (n : ℕ). Tie z (noted Step n (value_of (reply call_rule Step y)) (ran (value_of (reply call_rule Run w)) a)))
        (sym s.1) (s.0 ∙ e) (all_call here Step refl)

-- ---- every history

pub all_tell : (k : Call) (t : Told) → Tie t.world t.account → Tie (tell call_rule k t).world (tell call_rule k t).account
unfolding tell
all_tell Create t h = all_call h Create refl
all_tell (On i x) t h = all_call h (On i x) (on_other i x).no_run
all_tell (Append os) t h = all_call h (Append os) refl
all_tell (Open o) t h = all_call h (Open o) (open_other o).no_run
all_tell Step t h = all_call h Step refl
all_tell Run t h = all_run h

all_telling : (ks : List Call) (t : Told) → Tie t.world t.account → Tie (telling call_rule ks t).world (telling call_rule ks t).account
unfolding telling
all_telling [] t h = h
all_telling (k ∷ ks) t h = all_telling ks (tell call_rule k t) (all_tell k t h)

fresh_all : Tie fresh_world fresh_account
fresh_all =
    record {
      sound = sound_fresh;
      inv = fresh_inv;
      steers = record {
        first = refl;
        second = refl;
        side = refl;
        null = refl;
        tries = refl;
        left = refl;
        stands = record { log = (refl, refl); last = λ z. clash z refl; over = refl };
      };
      reads = reads;
      order = order_fresh;
      own = λ _. refl;
    }
  where
    fresh_other : (i : ℕ) → fresh_account.readers (suc i) ≡ nobody
    fresh_other i = other_at 0 (new_reader nobody) (λ k. nobody) (suc i) (λ e. omega arith)

    reads : (i : ℕ) → Reads (fresh_account.readers i) (slot_at fresh i) (snap_at fresh i)
    reads zero = record { lives = refl; due = refl; guards = new_shut; epoch = refl; snapshot = get_d_same slot_count 0 0 }
    reads (suc i) =
        subst₂ (λ (r : Reader) (s : Slot). Reads r s (snap_at fresh (suc i))) (sym (fresh_other i)) (sym (get_d_same (slot_count - 1) i no_slot))
        (record { lives = refl; due = refl; guards = new_shut; epoch = refl; snapshot = get_d_same slot_count (suc i) 0 })

pub all_told : (ks : List Call) → Tie (told call_rule ks).world (told call_rule ks).account
all_told ks = all_telling ks (record { world = fresh_world; account = fresh_account }) fresh_all

-- ---- what it says

pub admitted_zero : (v : Verdict) (s : List Sign) → mild s ≡ true → (n : ℕ) → smallest s ≡ v → answer_no v n ≡ 0 → v ≡ Ok tt
admitted_zero (Ok _) s m n e z = refl
admitted_zero (Err x) s m n e z = absurd (let y = refused_mild s m x e in omega arith)

module _ {w : World} {a : Account} (h : Tie w a) where
  abbrev c : Control
  c = w.state.control

  pub living_in : (i : ℕ) → (a.readers i).lives ≡ true → i < slot_count
  living_in i e =
      under i slot_count (λ lt. lt)
      (λ le. clash ((h.reads i).lives ∙ e) (ap (λ (x : Slot). x.used) (get_or-eq_default w.state.slots no_slot (let z = h.sound.slots in omega arith))))

  -- ---- a living guard

  module _ (i j : ℕ) (o : (a.readers i).guards j ≡ true) where
    open_here : is_open (slot_at w.state i).guards j ≡ true
    open_here = (h.reads i).guards j ∙ o

    pub owner : (a.readers i).lives ≡ true
    owner = sym (h.reads i).lives ∙ (guard_inside (h.inv.each i).shape j open_here).0

    owner_in : i < slot_count
    owner_in = living_in i owner

    not_both : (eqb i 0 && busy a || false) ≡ false
    not_both = go (eqb i 0) (busy a) refl refl
      where
        go : (x y : Bool) → eqb i 0 ≡ x → busy a ≡ y → (x && y || false) ≡ false
        go false y p q = refl
        go true false p q = refl
        go true true p q =
            let e = eqb-true i 0 p in
            let u = sym (busy_is a c h.steers (whole h)) ∙ q in
            absurd (all_shut (slot_at w.state 0).guards (h.inv.own u).alone j (subst (λ (k : ℕ). is_open (slot_at w.state k).guards j ≡ true) e open_here))

    pub can_look : (key : ℕ) → wanted a (On i (LookUp j key)) ≡ 0
    unfolding wanted
    can_look key =
        let lt : j < guard_count = open_below (slot_at w.state i).guards j open_here in
        λ z. least (row 3 false ∷ row 4 (not (lt-ltb i slot_count owner_in z && owner z)) ∷ row 5 false ∷ row 6 (not_both z) ∷ row 7 false ∷ row 8 false
        ∷ row 9 (not (lt-ltb j guard_count lt z && o z)) ∷ [])

  -- ---- what is shown

  open_shows : (i j : ℕ) → (a.readers i).guards j ≡ true →
      through_rule i j w.left w.right w.log w.state ≡ after ((a.readers i).loaded j) empty
  unfolding through_rule
  open_shows i j p =
      let lt = owner_in i j p in
      let s = slot_at w.state i in
      let signs = handle_signs c (eqb i 0) s (LookUp j 0) in
      let want = wanted_on a c h.steers (whole h) i lt s (snap_at w.state i) (h.reads i) (h.inv.each i).shape (LookUp j 0) in
      let v = admitted_zero (smallest signs) signs refl 0 refl (sym want ∙ can_look i j p 0) in
      through (judged w.state w.left w.right w.log) (ltb i slot_count) (smallest signs) (sound_judged h.sound) (lt-ltb i slot_count lt) v
      ∙ (h.inv.each i).shows j (open_here i j p)
    where
      through : (v : Verdict) (b : Bool) (u : Verdict) → v ≡ Ok tt → b ≡ true → u ≡ Ok tt →
          ◌≡◌ {A = List ℕ}
          (elim v [
            | Ok _ ↦
                elim b [
                  | true ↦ elim u [ Ok _ ↦ guarded_copy (slot_at w.state i).guards j w.left w.right | Err x ↦ [] ]
                  | false ↦ []
                ]
            | Err x ↦ []
          ]) (guarded_copy (slot_at w.state i).guards j w.left w.right)
      through v b u p q r =
          λ y. elim (p y) [
            | Ok _ ↦
                elim (q y) [
                  | true ↦ elim (r y) [ Ok _ ↦ guarded_copy (slot_at w.state i).guards j w.left w.right | Err x ↦ [] ]
                  | false ↦ []
                ]
            | Err x ↦ []
          ]

  shut_shows : (i j : ℕ) → (a.readers i).guards j ≡ false → through_rule i j w.left w.right w.log w.state ≡ []
  unfolding through_rule
  shut_shows i j p =
      let signs = handle_signs c (eqb i 0) (slot_at w.state i) (LookUp j 0) in
      judging (λ (x : List ℕ). x ≡ []) (judged w.state w.left w.right w.log)
      (λ _.
      by (λ (x : List ℕ). x ≡ []) (ltb i slot_count)
      (λ _.
      judging (λ (x : List ℕ). x ≡ []) (smallest signs) (λ v. clash (sym ((h.reads i).guards j) ∙ not-false _ (on_passed c (eqb i 0) (slot_at w.state i) (LookUp j 0) v).guard) p)
      (λ x _. refl))
      (λ _. refl))
      (λ x _. refl)

  all_shows : (i j : ℕ) → shown i j w ≡ copy_seen (a.readers i) j
  all_shows i j = split ((a.readers i).guards j)
      (λ o. open_shows i j o ∙ ap (λ (b : Bool). elim b [ true ↦ after ((a.readers i).loaded j) empty | false ↦ [] ]) (sym o))
      (λ o. shut_shows i j o ∙ ap (λ (b : Bool). elim b [ true ↦ after ((a.readers i).loaded j) empty | false ↦ [] ]) (sym o))

  all_gone : a.gone ≡ true → HandsOver (record { world = w; account = a })
  all_gone g =
      let t = seen_of a in
      let e = gone_is c.phase (h.steers.stands.over ∙ g) in
      let side = sym h.steers.side in
      let (acc, none) = gone_stage (subst
      (λ (p : Phase). Stage p c.job c.second c.swapped (ops_of w) (read_copy w) (write_copy w) t.accepted t.published c.first)
      e h.inv.stage) in
      record {
        all = ap (λ (b : Bool). copy_of b w.left w.right) side ∙ h.inv.read ∙ ap (λ (x : List Op). after x empty) (sym acc);
        other = ap (λ (b : Bool). copy_of (not b) w.left w.right) side ∙ none;
        log = h.inv.spent (ap is_gone e);
        alone = λ i j.
            split ((a.readers i).guards j) (λ o. absurd (gone_shut (solid h) h.inv e i j ((h.reads i).guards j ∙ o))) (λ o. o);
      }

  -- where no call is under way the log is as long as the history says, or it is empty after take
  unused_log : busy a ≡ false → (x : ℕ) → 3 * a.store.in_log ≤ x → get_or w.log x 0 ≡ 0
  unused_log n x le =
      ⊎_elim
      (λ p.
      let t = stands_at a h.steers p in
      h.inv.unused x (omega (arith, t.log.0)))
      (λ p. ap (λ (g : List ℕ). get_or g x 0) (h.inv.spent (ap is_gone p)) ∙ get_d_same log_words x 0)
      (idle_or_gone c.phase (sym (busy_is a c h.steers (whole h)) ∙ n))

  all_unused : UnusedIn (record { world = w; account = a })
  all_unused = record { left = h.sound.good.words.left.clear; right = h.sound.good.words.right.clear; log = unused_log }

-- a run is its steps
all_runs : {w : World} {a : Account} → Tie w a → (let r = reply call_rule Run w in Runs call_rule (record { world = w; account = a }) (value_of r) (answer_of r) (next call_rule Run w))
all_runs {w} {a} h =
    let v = value_of (reply call_rule Run w) in
    let x = run_is_steps_sound w h.sound in
    let k = all_steps v w a h x.made in
    record {
      made = x.made;
      ended = λ z. let e = x.ended z in (e.0, e.1, busy_is (ran v a) (stepped_world call_rule v w).state.control k.steers (whole k) ∙ e.2);
      halted = λ z.
          let s = x.stopped z in
          let now = busy_is (ran v a) (stepped_world call_rule v w).state.control k.steers (whole k) in
          (s.0, s.1, now ∙ s.2 ∙ sym (busy_is a w.state.control h.steers (whole h)));
    }

pub demands : Demands call_rule
demands =
    record {
      answers = λ ks k q. (right (all_told ks) k q).answer;
      values = λ ks k q. (right (all_told ks) k q).value;
      runs = λ ks. all_runs (all_told ks);
      shows = λ ks. all_shows (all_told ks);
      hands_over = λ ks g. all_gone (all_told ks) g;
      unused = λ ks. all_unused (all_told ks);
    }
