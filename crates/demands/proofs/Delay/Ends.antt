-- A call of the writer ends with the last step of its plan, whatever calls stand between.
use Prim.Native.Nat.{ℕ, zero, suc, ◌+◌, ◌-◌, ◌≤◌, ◌<◌}
use mathlib.Core.Path.{◌≡◌, refl, sym, ap, ◌∙◌, subst}
use mathlib.Core.Logic.{◌≢◌}
use mathlib.Core.Bool.{Bool, true, false, not, ◌&&◌, ◌||◌, or-true}
use mathlib.Core.List.{List, [], ◌∷◌, ◌++◌, append-nil}
use native.Mathlib.Omega.{arith}
use lib.ListN.{length, drop, replicate, length-drop}
use lib.Dec.{eqb, ltb}
use lib.Seq.{drop-nil, drop-drop}
use borrow.Author.Tests.{eq-eqb, ne_eqb, eqb-true, eqb-false, ltb-false}
use Rattle.table.specs.Order.{Op}
use Rattle.table.proofs.Split.{split, by}
use Rattle.table.proofs.Booleans.{neither, clash}
use Rattle.read.specs.declared.Control.{Control}
use Rattle.read.specs.declared.Phase.TheVariants.{Idle}
use Rattle.read.specs.declared.Reply.{Reply}
use Rattle.read.specs.declared.Handle.TheVariants.{Release}
use Rattle.read.specs.Machine.{slot_count, underway}
use Rattle.read.specs.Handles.{bit}
use Rattle.read.specs.Calls.{Lent}
use Rattle.write.specs.declared.Opening.{Opening}
use Rattle.write.specs.Call.{Call, Create, On, Append, Open, Step, Run}
use Rattle.write.specs.declared.Opening.TheVariants as opening
use Rattle.write.specs.Numbers.{is, among, is_step, is_run, is_try, is_take}
use Rattle.write.specs.Machine.{call_rule}
use Rattle.write.specs.World.{World, reply, next, answer_of, value_of}
use Rattle.demands.specs.Account.{Account, Store, Reader, Slots, with_slots, hands_out, of_reader, new_reader, spoke, Move, begin, poll, copy, apply, swap, snap, each, provided, publishing, publish_plan, last_plan, plan_of, unswapped, unpublished, with_plan, advanced, ran, if_declined, asked, appends, begins as opening_by, if_done, noted}
use Rattle.demands.specs.Table.{busy, wanted}
use Rattle.demands.specs.Demands.{tell, told, after_steps as stepped_world}
use Rattle.demands.specs.Follows.{steps_of, counted, Course, onward, follow, EndsAt, Follows}
use Rattle.demands.proofs.Others.{on_other, open_other}
use Rattle.demands.proofs.Sides.{read_copy, write_copy}
use Rattle.demands.proofs.Shown.Invariant.{Stage, early, late, ops_from, ops_of}
use Rattle.demands.proofs.Account.Moves.{is_swap, is_finish, each_move, advanced_rest, advanced_trial, leaves_any, ran_keeps}
use Rattle.demands.proofs.Account.Control.{StandsOf, stands_at}
use Rattle.demands.proofs.Account.Rows.{is_busy, idle_step, declined_tries, writes_idle, busy_is}
use Rattle.demands.proofs.Account.Calls.{Tie, whole}
use Rattle.demands.proofs.Account.Demands.{right, all_call, all_steps, all_tell, all_told, can_look}
use Rattle.demands.proofs.Delay.RunIsSteps.{run_is_steps_sound}
use Rattle.demands.proofs.Delay.Always.{always}
use Rattle.demands.proofs.Delay.Named.{begins_idle, makes_step, named}
use Rattle.demands.proofs.Delay.Stays.{call_stays}

-- ---- the plan

some_left : (ms : List Move) → is_busy ms ≡ true → 0 < length ms
some_left [] e = clash e refl
some_left (x ∷ xs) e = omega arith

none_left : (ms : List Move) → is_busy ms ≡ false → ms ≡ []
none_left [] e = refl
none_left (x ∷ xs) e = clash refl e

-- a made step is taken off
step_rest : (a : Account) → (advanced a.plan a).plan ≡ drop 1 a.plan
step_rest a = go a.plan refl
  where
    go : (ms : List Move) → a.plan ≡ ms → (advanced ms a).plan ≡ drop 1 ms
    go [] e = e
    go (x ∷ xs) e = advanced_rest a x xs

ran_rest : (n : ℕ) (a : Account) → (ran n a).plan ≡ drop n a.plan
ran_rest zero a = refl
ran_rest (suc n) a = ran_rest n (advanced a.plan a) ∙ ap (drop n) (step_rest a) ∙ go a.plan
  where
    go : (ms : List Move) → drop n (drop 1 ms) ≡ drop (suc n) ms
    go [] = drop-nil n
    go (x ∷ xs) = refl

ran_trial : (n : ℕ) (a : Account) → (ran n a).trial ≡ a.trial
ran_trial n a = ran_keeps (λ b. b.trial ≡ a.trial) (λ b h. advanced_trial b b.plan ∙ h) n a refl

-- ---- what a call does to it

-- counted steps are taken off; or the call is declined
data Goes (k : Call) (a b : Account) (o : Lent Reply) : Type 0 where
  forth : answer_of o ≢ 14 → counted k (answer_of o) (value_of o) ≤ length a.plan → b.plan ≡ drop (counted k (answer_of o) (value_of o)) a.plan →
      Goes k a b o
  declines : answer_of o ≡ 14 → busy b ≡ false → a.trial ≡ true → Goes k a b o

after : Call → World → Account → Account
after k w a = noted k (answer_of (reply call_rule k w)) (value_of (reply call_rule k w)) a

abbrev ended_as : Account → Bool → Account
ended_as b x = elim x [ true ↦ with_plan b.trial [] b | false ↦ b ]

-- n steps were made
stopped_goes : (k : Call) (a b : Account) (o : Lent Reply) (n : ℕ) → counted k (answer_of o) (value_of o) ≡ n → n ≤ length a.plan → b.plan ≡ drop n a.plan →
    (answer_of o ≡ 14 → a.trial ≡ true) → Goes k a (if_declined (answer_of o) b) o
stopped_goes k a b o n q le d f =
    split (eqb (answer_of o) 14)
    (λ z. let e = eqb-true (answer_of o) 14 z in declines e (ap (λ (x : Bool). busy (ended_as b x)) z) (f e))
    (λ z. forth (eqb-false (answer_of o) 14 z) (omega arith) (ap (λ (x : Bool). (ended_as b x).plan) z ∙ d ∙ ap (λ (i : ℕ). drop i a.plan) (sym q)))

module _ {w : World} {a : Account} (h : Tie w a) where
  abbrev c : Control
  c = w.state.control

  -- a step that is made has a call under way
  step_busy : answer_of (reply call_rule Step w) ≡ 0 → busy a ≡ true
  step_busy z = split (busy a) (λ u. u) (λ u. absurd (idle_step a u (sym (right h Step refl).answer ∙ z)))

  -- one that is declined is a try's
  step_tries : answer_of (reply call_rule Step w) ≡ 14 → a.trial ≡ true
  step_tries z = (declined_tries a Step (sym (right h Step refl).answer ∙ z)).1

  step_goes : busy a ≡ true → Goes Step a (after Step w a) (reply call_rule Step w)
  unfolding after
  step_goes u = go (answer_of (reply call_rule Step w)) refl
    where
      made : ℕ → Account
      made n = elim n [ zero ↦ advanced a.plan a | suc m ↦ a ]

      go : (x : ℕ) → answer_of (reply call_rule Step w) ≡ x → Goes Step a (after Step w a) (reply call_rule Step w)
      go zero e =
          stopped_goes Step a (made (answer_of (reply call_rule Step w))) (reply call_rule Step w) 1 (ap (λ (n : ℕ). bit (eqb n 0)) e)
          (omega (arith, some_left a.plan u)) (ap (λ (n : ℕ). (made n).plan) e ∙ step_rest a) (λ z. absurd (omega arith))
      go (suc x) e =
          stopped_goes Step a (made (answer_of (reply call_rule Step w))) (reply call_rule Step w) 0
          (ap bit (ne_eqb (answer_of (reply call_rule Step w)) 0 (λ z. omega arith))) (omega arith) (ap (λ (n : ℕ). (made n).plan) e) step_tries

ran_within : (n : ℕ) (w : World) (a : Account) → Tie w a → ((j : ℕ) → j < n → answer_of (reply call_rule Step (stepped_world call_rule j w)) ≡ 0) →
    n ≤ length a.plan
ran_within zero w a h made = omega arith
ran_within (suc n) w a h made =
    let z = made 0 (omega arith) in
    let b = subst (λ (x : ℕ). Tie (next call_rule Step w) (noted Step x (value_of (reply call_rule Step w)) a)) z (all_call h Step refl) in
    let r = ran_within n (next call_rule Step w) (advanced a.plan a) b (λ j lt. made (suc j) (omega arith)) in
    omega (arith, r, some_left a.plan (step_busy h z), ap length (step_rest a), length-drop 1 a.plan)

-- ---- what stays of a call while it is under way

abbrev has_swap : List Move → Bool
has_swap [] = false
has_swap (x ∷ xs) = is_swap x || has_swap xs

abbrev ends_finish : List Move → Bool
ends_finish [] = false
ends_finish (x ∷ xs) = elim xs [ [] ↦ is_finish x | y ∷ ys ↦ ends_finish xs ]

record KeepsBy (o : Opening) (ops begun pb : List Op) (ms : List Move) (trial gone : Bool) : Type 0 where
  begins : begun ≡ ops
  tries : trial ≡ is_try o
  published : has_swap ms ≡ false → pb ≡ ops
  finishes : is_take o ≡ true → (ends_finish ms || gone) ≡ true

abbrev Keeps : Opening → List Op → Account → Type 0
Keeps o ops a = KeepsBy o ops a.store.at_begin a.store.published a.plan a.trial a.gone

-- a step that is no finish
shorter : (x : Move) (xs : List Move) (g : Bool) → is_finish x ≡ false → (ends_finish (x ∷ xs) || g) ≡ true → (ends_finish xs || g) ≡ true
shorter x [] g q e = ap (λ (b : Bool). b || g) (sym q) ∙ e
shorter x (y ∷ ys) g q e = e

module _ (o : Opening) (ops : List Op) where
  keeps_step : (a : Account) → Keeps o ops a → Keeps o ops (advanced a.plan a)
  keeps_step a k = go a.plan k
    where
      go : (ms : List Move) → KeepsBy o ops a.store.at_begin a.store.published ms a.trial a.gone → Keeps o ops (advanced ms a)
      go [] h = k
      go (x ∷ xs) h =
          let rest : is_swap x ≡ false → is_finish x ≡ false → Keeps o ops (with_plan a.trial xs a) =
          λ p q. record { begins = h.begins; tries = h.tries; published = λ n. h.published (λ i. p i || n i); finishes = λ t. shorter x xs a.gone q (h.finishes t) } in
          each_move (Keeps o ops) (with_plan a.trial xs a) x (λ p _ q. record { same = rest p q; copied = rest p q; nulled = rest p q })
          (λ e. record { begins = h.begins; tries = h.tries; published = λ _. h.begins; finishes = λ t. shorter x xs a.gone (ap is_finish e) (h.finishes t) })
          (λ i e. rest (ap is_swap e) (ap is_finish e))
          (λ e. record { begins = h.begins; tries = h.tries; published = λ n. h.published (λ i. is_swap (e i) || n i); finishes = λ _. or-true (ends_finish xs) })

  -- stopped, but not declined
  keeps_stopped : (n : ℕ) (a : Account) → n ≢ 14 → Keeps o ops a → Keeps o ops (if_declined n a)
  keeps_stopped n a ne h = subst (λ (b : Bool). Keeps o ops (ended_as a b)) (sym (ne_eqb n 14 ne)) h

-- ---- a call of another kind, while one is under way

abbrev with_order : Slots → Account → Account
with_order o a = with_slots o.freed o.used a

module _ {w : World} {a : Account} (h : Tie w a) (u : busy a ≡ true) where
  -- no call of the writer but step and run is accepted
  append_refused : (os : List Op) → answer_of (reply call_rule (Append os) w) ≢ 0
  append_refused os z = clash u (writes_idle a (Append os) refl (sym (right h (Append os) refl).answer ∙ z))

  undone : (P : Account → Type 0) → P a → (f : Account → Account) (n : ℕ) → n ≢ 0 → P (if_done n f a)
  undone P x f zero ne = absurd (ne refl)
  undone P x f (suc n) ne = x

  open_refused : (p : Opening) → answer_of (reply call_rule (Open p) w) ≢ 0
  open_refused p z = clash u (writes_idle a (Open p) (writer p) (sym (right h (Open p) (open_other p).no_run).answer ∙ z))
    where
      writer : (p : Opening) → among 8 12 (Open p) ≡ true
      writer opening.Publish = refl
      writer opening.Try = refl
      writer opening.Flush = refl
      writer opening.Take = refl

  -- a call of another kind changes one reader at most, and the order of the free slots
  other_changes : (P : Account → Type 0) → P a → ((i : ℕ) (f : Reader → Reader) (o : Slots) → P (with_order o (of_reader i f a))) → (k : Call) → is_step k ≡ false → is_run k ≡ false → P (after k w a)
  unfolding after
  other_changes P x f Create s q = done (answer_of (reply call_rule Create w))
    where
      done : (n : ℕ) → P (if_done n (λ b. hands_out (value_of (reply call_rule Create w)) (of_reader (value_of (reply call_rule Create w)) new_reader b)) a)
      done zero = f (value_of (reply call_rule Create w)) new_reader _
      done (suc n) = x
  other_changes P x f (On i y) s q =
      let o = reply call_rule (On i y) w in
      let r = spoke y (answer_of o) (value_of o) a.store.published in
      leaves_any P y (answer_of o) i _ (f i r _) (f i r _)
  other_changes P x f (Append os) s q = undone P x (appends os) _ (append_refused os)
  other_changes P x f (Open p) s q = undone P x (asked p (value_of (reply call_rule (Open p) w))) _ (open_refused p)
  other_changes P x f Step s q = clash refl s
  other_changes P x f Run s q = clash refl q

  other_goes : (k : Call) → is_step k ≡ false → is_run k ≡ false → Goes k a (after k w a) (reply call_rule k w)
  other_goes k s q =
      let m : counted k (answer_of (reply call_rule k w)) (value_of (reply call_rule k w)) ≡ 0 =
      λ i. elim (q i) [ true ↦ value_of (reply call_rule k w) | false ↦ bit (s i && eqb (answer_of (reply call_rule k w)) 0) ] in
      forth (λ z. clash (declined_tries a k (sym (right h k q).answer ∙ z)).0 s) (omega arith)
      (other_changes (λ b. b.plan ≡ a.plan) refl (λ i f o. refl) k s q ∙ ap (λ (i : ℕ). drop i a.plan) (sym m))

  goes : (k : Call) → Goes k a (after k w a) (reply call_rule k w)
  unfolding after
  goes Create = other_goes Create refl refl
  goes (On i y) = other_goes (On i y) (on_other i y).no_step (on_other i y).no_run
  goes (Append os) = other_goes (Append os) refl refl
  goes (Open p) = other_goes (Open p) (open_other p).no_step (open_other p).no_run
  goes Step = step_goes h u
  goes Run =
      let v = value_of (reply call_rule Run w) in
      let runs = run_is_steps_sound w h.sound in
      stopped_goes Run a (ran v a) (reply call_rule Run w) v refl (ran_within v w a h runs.made) (ran_rest v a)
      (λ z. sym (ran_trial v a) ∙ step_tries (all_steps v w a h runs.made) ((runs.stopped (λ y. omega arith)).0 ∙ z))

  keeps_call : (o : Opening) (ops : List Op) → Keeps o ops a → (k : Call) → answer_of (reply call_rule k w) ≢ 14 → Keeps o ops (after k w a)
  unfolding after
  keeps_call o ops x Create ne = other_changes (Keeps o ops) x (λ i f y. x) Create refl refl
  keeps_call o ops x (On i y) ne = other_changes (Keeps o ops) x (λ i f y. x) (On i y) (on_other i y).no_step (on_other i y).no_run
  keeps_call o ops x (Append os) ne = other_changes (Keeps o ops) x (λ i f y. x) (Append os) refl refl
  keeps_call o ops x (Open p) ne = other_changes (Keeps o ops) x (λ i f y. x) (Open p) (open_other p).no_step (open_other p).no_run
  keeps_call o ops x Step ne = keeps_stopped o ops (answer_of (reply call_rule Step w)) _ ne (made (answer_of (reply call_rule Step w)))
    where
      made : (n : ℕ) → Keeps o ops (if_done n (λ b. advanced b.plan b) a)
      made zero = keeps_step o ops a x
      made (suc n) = x
  keeps_call o ops x Run ne =
      keeps_stopped o ops (answer_of (reply call_rule Run w)) _ ne (ran_keeps (Keeps o ops) (keeps_step o ops) (value_of (reply call_rule Run w)) a x)

-- ---- along a history

module _ (o : Opening) (t : Store) where
  abbrev ops : List Op
  ops = t.accepted

  abbrev whole_plan : List Move
  whole_plan = plan_of o t

  -- made steps, the beginning among them, and those that are left
  record Count (made : ℕ) (ms : List Move) : Type 0 where
    some : 1 ≤ made
    within : made ≤ suc (length whole_plan)
    rest : ms ≡ drop (made - 1) whole_plan

  data Along (x : Course) : Type 0 where
    onway : Tie x.now.world x.now.account → x.declined ≡ false → Count x.count x.now.account.plan → Keeps o ops x.now.account → Along x
    ended : x.declined ≡ true → busy x.now.account ≡ false → is_try o ≡ true → Along x

  left_length : {made : ℕ} {ms : List Move} → Count made ms → length ms ≡ length whole_plan - (made - 1)
  left_length {made} c = ap length c.rest ∙ length-drop (made - 1) whole_plan

  more : (made k : ℕ) (ms ns : List Move) → Count made ms → k ≤ length ms → ns ≡ drop k ms → Count (made + k) ns
  more made k ms ns c e d =
      record {
        some = omega (arith, c.some);
        within = omega (arith, c.some, c.within, left_length c);
        rest = d ∙ ap (drop k) c.rest ∙ drop-drop k (made - 1) whole_plan
            ∙ ap (λ (i : ℕ). drop i whole_plan) (let q : made - 1 + k ≡ made + k - 1 = omega (arith, c.some) in q);
      }

  onward_along : (k : Call) (x : Course) → busy x.now.account ≡ true → Along x → Along (onward call_rule k x)
  unfolding after tell
  onward_along k x u (ended d q y) = clash u q
  onward_along k x u (onway h d e s) = go (goes h u k)
    where
      go : Goes k x.now.account (after k x.now.world x.now.account) (reply call_rule k x.now.world) → Along (onward call_rule k x)
      go (forth z y r) =
          onway (all_tell k x.now h) (λ i. d i || ne_eqb (answer_of (reply call_rule k x.now.world)) 14 z i)
          (more x.count (counted k (answer_of (reply call_rule k x.now.world)) (value_of (reply call_rule k x.now.world))) x.now.account.plan _ e y r)
          (keeps_call h u o ops s k z)
      go (declines z y t) =
          ended (ap (λ (b : Bool). x.declined || b) (eq-eqb (answer_of (reply call_rule k x.now.world)) 14 z) ∙ or-true x.declined) y (sym s.tries ∙ t)

  follow_along : (ks : List Call) (x : Course) → Along x → Along (follow call_rule ks x)
  unfolding follow
  follow_along [] x h = h
  follow_along (k ∷ ks) x h =
      by Along (busy x.now.account) (λ u. follow_along ks (onward call_rule k x) (onward_along k x u h)) (λ u. h)

  along_ends : (is_try o ≡ true → is_take o ≡ false) → suc (length whole_plan) ≡ steps_of o t → (x : Course) → Along x → EndsAt o t x
  along_ends f n x (onway h d e s) =
      let ms = x.now.account.plan in
      record {
        before = λ u. omega (arith, e.some, e.within, left_length e, some_left ms u);
        at_end = λ u q. omega (arith, e.some, e.within, left_length e, ap length (none_left ms u));
        rest = λ q. e.rest;
        published = λ u q. s.published (ap has_swap (none_left ms u));
        gone = λ k u. sym (ap (λ (ns : List Move). ends_finish ns || x.now.account.gone) (none_left ms u)) ∙ s.finishes k;
        waits = λ q. d;
      }
  along_ends f n x (ended d q y) =
      record { before = λ u. clash u q; at_end = λ u z. clash d z; rest = λ z. clash d z; published = λ u z. clash d z; gone = λ k u. clash k (f y); waits = λ z. clash y z }

-- ---- the plan that a call begins with

swap_app : (xs ys : List Move) → has_swap ys ≡ true → has_swap (xs ++ ys) ≡ true
swap_app [] ys e = e
swap_app (x ∷ xs) ys e = ap (λ (b : Bool). is_swap x || b) (swap_app xs ys e) ∙ or-true (is_swap x)

publishing_swaps : (p b : Bool) (n : ℕ) → has_swap (publishing p b n) ≡ true
publishing_swaps p b n =
    swap_app (provided p (each poll)) _ (swap_app (provided b (copy ∷ [])) (replicate n apply ++ (swap ∷ each snap)) (swap_app (replicate n apply) (swap ∷ each snap) refl))

finish_app : (xs ys : List Move) → ends_finish ys ≡ true → ends_finish (xs ++ ys) ≡ true
finish_app [] ys e = e
finish_app (x ∷ xs) ys e = cons (xs ++ ys) (finish_app xs ys e)
  where
    cons : (zs : List Move) → ends_finish zs ≡ true → ends_finish (x ∷ zs) ≡ true
    cons [] e = clash e refl
    cons (z ∷ zs) e = e

swap_left : (xs ys : List Move) → has_swap xs ≡ true → has_swap (xs ++ ys) ≡ true
swap_left [] ys e = clash e refl
swap_left (x ∷ xs) ys e = go (is_swap x) (swap_left xs ys) e
  where
    go : (b : Bool) → (has_swap xs ≡ true → has_swap (xs ++ ys) ≡ true) → (b || has_swap xs) ≡ true → (b || has_swap (xs ++ ys)) ≡ true
    go true f e = refl
    go false f e = f e

-- ---- a call that begins

module _ {w : World} {a : Account} (h : Tie w a) (o : Opening) (z : wanted a (Open o) ≡ 0) where
  abbrev s : Store
  s = a.store

  idle : (c h).phase ≡ Idle
  idle = begins_idle h o z

  known : StandsOf a (c h) Idle
  known = stands_at a h.steers idle

  -- with nothing in the log, all that was accepted is published
  all_published : unswapped s ≡ false → s.in_log ≡ 0 → s.published ≡ s.accepted
  all_published f l = sym (go h.inv.stage)
    where
      none : ops_of w ≡ []
      none = ap (λ (n : ℕ). ops_from n 0 w.log) (known.log.0 ∙ l)

      go : Stage (c h).phase (c h).job (c h).second (c h).swapped (ops_of w) (read_copy w) (write_copy w) s.accepted s.published (c h).first →
          s.accepted ≡ s.published
      go (early e x) = clash e (h.steers.first ∙ f)
      go (late e x) =
          x.behind ∙ ap (λ (os : List Op). s.published ++ drop (c h).swapped os) none
          ∙ ap (λ (os : List Op). s.published ++ os) (drop-nil (c h).swapped) ∙ append-nil s.published

  -- take publishes first, where there is something to publish
  take_swaps : (unswapped s || ltb 0 s.in_log) ≡ true → has_swap (plan_of opening.Take s) ≡ true
  take_swaps e =
      subst (λ (b : Bool). has_swap (provided b (begin ∷ publish_plan false s) ++ (provided (ltb 0 (unpublished s)) (begin ∷ publishing true false (unpublished s)) ++ last_plan)) ≡ true) (sym e)
      (swap_left (begin ∷ publish_plan false s) _ (publishing_swaps (not (unswapped s)) (not (unswapped s || s.synced)) s.in_log))

  take_published : has_swap (plan_of opening.Take s) ≡ false → s.published ≡ s.accepted
  take_published n =
      split (unswapped s || ltb 0 s.in_log) (λ e. clash (take_swaps e) n)
      (λ e. let (f, l) = neither (unswapped s) _ e in all_published f (omega (arith, ltb-false 0 s.in_log l)))

  take_finishes : ends_finish (plan_of opening.Take s) ≡ true
  unfolding slot_count
  take_finishes =
      finish_app (provided (unswapped s || ltb 0 s.in_log) (begin ∷ publish_plan false s)) _
      (finish_app (provided (ltb 0 (unpublished s)) (begin ∷ publishing true false (unpublished s))) last_plan refl)

  -- of a publish or a try
  publish_keeps : (p : Opening) → is_take p ≡ false → has_swap (plan_of p s) ≡ true → Keeps p s.accepted (opening_by p a)
  publish_keeps p n x = record { begins = refl; tries = refl; published = λ y. clash x y; finishes = λ y. clash y n }

  begins_keeps : (p : Opening) → p ≡ o → Keeps p s.accepted (opening_by p a)
  begins_keeps opening.Publish e = publish_keeps opening.Publish refl (publishing_swaps (not (unswapped s)) (not (unswapped s || s.synced)) s.in_log)
  begins_keeps opening.Try e = publish_keeps opening.Try refl (publishing_swaps true (not (unswapped s || s.synced)) s.in_log)
  begins_keeps opening.Flush e = publish_keeps opening.Flush refl (publishing_swaps (not (unswapped s)) (not (unswapped s || s.synced)) s.in_log)
  begins_keeps opening.Take e =
      record { begins = refl; tries = refl; published = take_published; finishes = λ _. ap (λ (b : Bool). b || a.gone) take_finishes }

  -- it is the one that began
  begun : (P : Account → Type 0) → P (opening_by o a) → busy (after (Open o) w a) ≡ true → P (after (Open o) w a)
  unfolding after
  begun P x =
      let v = value_of (reply call_rule (Open o) w) in
      subst (λ (n : ℕ). busy (noted (Open o) n v a) ≡ true → P (noted (Open o) n v a)) (sym ((right h (Open o) (open_other o).no_run).answer ∙ z))
      (by (λ (b : Account). busy b ≡ true → P b) (is 11 (Open o) && not (eqb v 1))
      (λ _ u. clash u (busy_is a (c h) h.steers (whole h) ∙ ap underway idle)) (λ _ _. x))

ends : (ks : List Call) (o : Opening) → (let t = told call_rule ks in let u = tell call_rule (Open o) t in
    wanted t.account (Open o) ≡ 0 → busy u.account ≡ true →
    (js : List Call) → EndsAt o t.account.store (follow call_rule js (record { now = u; count = 1; declined = false })))
unfolding tell after
ends ks o z u js =
    let t = told call_rule ks in
    let h = all_told ks in
    let s = t.account.store in
    let p = begun h o z (λ b. b.plan ≡ plan_of o s) refl u in
    along_ends o s (no_take o) ((always call_rule).steps ks o) _ (follow_along o s js _ (onway (all_tell (Open o) t h) refl
    (record { some = omega arith; within = omega arith; rest = p }) (begun h o z (Keeps o s.accepted) (begins_keeps h o z o refl) u)))
  where
    no_take : (o : Opening) → is_try o ≡ true → is_take o ≡ false
    no_take opening.Publish e = refl
    no_take opening.Try e = refl
    no_take opening.Flush e = refl
    no_take opening.Take e = clash e refl

stays : (ks : List Call) (k : Call) (i j : ℕ) → (let r = (told call_rule ks).account.readers i in let s = (tell call_rule k (told call_rule ks)).account.readers i in
    k ≢ On i (Release j) → r.guards j ≡ true → (s.guards j ≡ true) × (s.loaded j ≡ r.loaded j))
unfolding tell
stays ks k i j ne = call_stays (all_told ks) i j k ne

pub follows : Follows call_rule
follows =
    record {
      looks_up = λ ks i j key o. can_look (all_told ks) i j o key;
      stays = stays;
      named = λ ks i ms q s. named (all_told ks) i ms q s;
      goes = λ ks u n. makes_step (all_told ks) u n;
      ends = ends;
      epochs = λ ks i lt. let r = (all_told ks).reads i in (r.lives, r.epoch, r.snapshot);
      side = λ ks. (all_told ks).steers.side;
    }
