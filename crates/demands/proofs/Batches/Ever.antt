-- Worlds that differ in slot 0's epoch and its snapshot alone answer every call alike, and differ in them alone afterwards: so no call tells
-- a batch from its appends.
use Prim.Native.Nat.{ℕ, zero, suc, ◌+◌, ◌*◌, ◌%◌}
use mathlib.Core.Path.{◌≡◌, refl, sym, ap, ◌∙◌, subst}
use mathlib.Core.Bool.{Bool, true, false, ◌&&◌, and-false}
use mathlib.Core.List.{List, [], ◌∷◌}
use native.Mathlib.Omega.{arith}
use lib.ListN.{length}
use lib.Dec.{eqb}
use borrow.Author.Tests.{eqb-true}
use Rattle.table.specs.Order.{Op}
use Rattle.table.proofs.Split.{split, by}
use Rattle.table.proofs.Parity.{odd}
use Rattle.read.specs.declared.Slot.{Slot}
use Rattle.read.specs.declared.Control.{Control}
use Rattle.read.specs.declared.State.{State}
use Rattle.read.specs.declared.Reply.{Reply}
use Rattle.read.specs.Machine.{slot_count, underway}
use Rattle.read.specs.Handles.{smallest}
use Rattle.read.specs.Calls.{Lent, slot_at}
use Rattle.write.specs.Call.{Call, Create, On, Append, Open, Step, Run}
use Rattle.write.specs.Steps.{holds}
use Rattle.write.specs.Begins.{step_signs}
use Rattle.write.specs.Runs.{snap_at, step_on, enough, run_on, run_while, after_step}
use Rattle.write.specs.Machine.{call_on, call_rule, going}
use Rattle.write.specs.World.{World, reply, next, world_of, answer_of, value_of, played}
use Rattle.write.proofs.Verdicts.{judging}
use Rattle.write.proofs.Control.{some_slot}
use Rattle.write.proofs.Cases.{going_on}
use Rattle.demands.specs.Account.{Account}
use Rattle.demands.specs.Demands.{Told, tell, told, shown}
use Rattle.demands.specs.Batches.{ones, further, aside, AlikeFrom, Batches}
use Rattle.demands.proofs.Phases.{phase_of}
use Rattle.demands.proofs.Shown.Slot.{at_rest}
use Rattle.demands.proofs.Sound.{below}
use Rattle.demands.proofs.Account.Calls.{Tie}
use Rattle.demands.proofs.Account.Demands.{all_tell, all_told}
use Rattle.demands.proofs.Delay.Admitted.{on_step, step_on_lem}
use Rattle.demands.proofs.Batches.Appends.{as_appends}
use Rattle.demands.proofs.Batches.Aside.{hide, hide_in, state, create_same, on_same, append_same, open_same, shown_same, free_same}

-- ---- worlds that a history reaches

abbrev Reached : World → Type 0
Reached w = (a : Account) × Tie w a

-- an even epoch is no odd snapshot
unlike : (e n : ℕ) → odd n ≡ false → (eqb (e % 2) 1 && eqb e n) ≡ false
unfolding odd
unlike e n h =
    split (eqb e n) (λ q. ap (λ (b : Bool). b && eqb e n) (ap odd (eqb-true e n q) ∙ h))
    (λ q. ap (λ (b : Bool). odd e && b) q ∙ and-false (odd e))

-- while a call is under way the writer's own handle has nothing due and no guard, so that its epoch is even
own_free : (w : World) → Reached w → underway (phase_of w) ≡ true → holds (slot_at w.state 0) (snap_at w.state 0) ≡ false
own_free w (a, h) u =
    let s = slot_at w.state 0 in
    let q = h.inv.own u in
    let even = at_rest (h.inv.each 0).shape q.idle q.alone in
    ap (λ (b : Bool). s.used && b) (unlike (snap_at w.state 0) s.epoch even) ∙ and-false s.used

-- there is a slot 0
module _ (P : World → Type 0)
    (f : (c : Control) (s : Slot) (ss : List Slot) (e : ℕ) (es l r g : List ℕ) → P (record { state = state c s ss e es; left = l; right = r; log = g }))
  where
    with_own : (w : World) → Reached w → P w
    with_own w (a, h) = go w.state.slots w.state.snapshots h.sound.slots h.sound.snapshots
      where
        go : (ss : List Slot) (es : List ℕ) → length ss ≡ slot_count → length es ≡ slot_count →
            P (record { state = record { control = w.state.control; slots = ss; snapshots = es }; left = w.left; right = w.right; log = w.log })
        go [] es n k = absurd (omega (arith, some_slot))
        go (s ∷ ss) [] n k = absurd (omega (arith, some_slot))
        go (s ∷ ss) (e ∷ es) n k = f w.state.control s ss e es w.left w.right w.log

reached_next : (k : Call) {w : World} → Reached w → Reached (next call_rule k w)
unfolding tell
reached_next k {w} (a, h) = let t : Told = record { world = w; account = a } in ((tell call_rule k t).account, all_tell k t h)

reached_played : (ks : List Call) {w : World} → Reached w → Reached (played call_rule ks w).world
unfolding played
reached_played [] h = h
reached_played (k ∷ ks) h = reached_played ks (reached_next k h)

-- ---- a step, and a run

step_aside : (w : World) → Reached w → on_step (aside w) ≡ hide_in (on_step w)
unfolding on_step step_on
step_aside w h =
    with_own (λ x. (underway (phase_of x) ≡ true → holds (slot_at x.state 0) (snap_at x.state 0) ≡ false) → on_step (aside x) ≡ hide_in (on_step x))
    (λ c s ss e es l r g. free_same c s ss e es l r g c.phase) w h (own_free w h)

reached_step : (w : World) → Reached w → underway (phase_of w) ≡ true → Reached (world_of (on_step w))
reached_step w h u = subst (λ (o : Lent Reply). Reached (world_of o)) (below Step w h.1.sound ∙ step_on_lem w u) (reached_next Step h)

abbrev Rule : Type 0
Rule = State → List ℕ → List ℕ → List ℕ → Lent Reply

-- put aside before it or after it, the rule gives the same: the writer's steps change no epoch
abbrev Keeps : Rule → World → Type 0
Keeps f w = let x = aside w in f x.state x.left x.right x.log ≡ hide_in (f w.state w.left w.right w.log)

after_keeps : (rest : Rule) → ((w : World) → Reached w → Keeps rest w) → (n : ℕ) (o : Lent Reply) → Reached (world_of o) →
    after_step rest n (hide_in o) ≡ hide_in (after_step rest n o)
after_keeps rest f n o h =
    going_on (λ y. after_step rest n (hide_in o) ≡ hide_in y) rest n o (λ z. rw (z, after_step) (f (world_of o) h)) (λ a z. rw (z, after_step))

run_keeps : (k n : ℕ) (w : World) → Reached w → Keeps (run_while step_on k n) w
unfolding run_while on_step
run_keeps zero n w h = refl
run_keeps (suc k) n w h =
    let x = aside w in
    let rest = run_while step_on k (n + 1) in
    by (λ (o : Lent Reply). run_while step_on (suc k) n x.state x.left x.right x.log ≡ hide_in o) (underway (phase_of w))
    (λ u. rw (u, run_while) (ap (after_step rest n) (step_aside w h) ∙ after_keeps rest (run_keeps k (n + 1)) n (on_step w) (reached_step w h u)))
    (λ u. rw (u, run_while))

going_keeps : (column : ℕ) (f : Rule) (w : World) → Keeps f w → Keeps (going column f) w
going_keeps column f w e =
    let x = aside w in
    judging (λ o. going column f x.state x.left x.right x.log ≡ hide_in o) (smallest (step_signs column w.state.control))
    (λ v. rw (v, going) e) (λ a v. rw (v, going))

-- ---- every call

-- what comes of it, but for them, is said by the rest of the world
record Blind (k : Call) : Type 0 where
  says : World → Lent Reply
  so : (w : World) → Reached w → hide_in (reply call_on k w) ≡ says (aside w)

blind_by : (k : Call) → ((c : Control) (s : Slot) (ss : List Slot) (e : ℕ) (es l r g : List ℕ) →
    hide_in (call_on k (state c s ss e es) l r g) ≡ hide_in (call_on k (state c (hide s) ss 0 es) l r g)) → Blind k
blind_by k f = record { says = λ x. hide_in (reply call_on k x); so = with_own (λ x. hide_in (reply call_on k x) ≡ hide_in (reply call_on k (aside x))) f }

blind : (k : Call) → Blind k
unfolding call_on on_step run_on
blind Create = blind_by Create create_same
blind (On i h) = blind_by (On i h) (λ c s ss e es l r g. on_same c s ss e es l r g i h)
blind (Append os) = blind_by (Append os) (λ c s ss e es l r g. append_same c s ss e es l r g os)
blind (Open o) = blind_by (Open o) (λ c s ss e es l r g. open_same c s ss e es l r g o)
blind Step = record { says = reply call_on Step; so = λ w h. sym (going_keeps 12 step_on w (step_aside w h)) }
blind Run = record { says = reply call_on Run; so = λ w h. sym (going_keeps 13 run_on w (run_keeps enough 0 w h)) }

bared : (k : Call) (w : World) → Reached w → hide_in (reply call_rule k w) ≡ (blind k).says (aside w)
bared k w h = ap hide_in (below k w h.1.sound) ∙ (blind k).so w h

-- ---- two worlds

call_alike : (k : Call) {w x : World} → Reached w → Reached x → aside w ≡ aside x → hide_in (reply call_rule k w) ≡ hide_in (reply call_rule k x)
call_alike k {w} {x} h g e = bared k w h ∙ ap (blind k).says e ∙ sym (bared k x g)

calls_alike : (js : List Call) {w x : World} → Reached w → Reached x → aside w ≡ aside x →
    ((played call_rule js w).replies ≡ (played call_rule js x).replies) × (aside (played call_rule js w).world ≡ aside (played call_rule js x).world)
unfolding played
calls_alike [] h g e = (refl, e)
calls_alike (k ∷ js) h g e =
    let o = call_alike k h g e in
    let rest = calls_alike js (reached_next k h) (reached_next k g) (ap world_of o) in
    (λ i. answer_of (o i) ∷ value_of (o i) ∷ rest.0 i, rest.1)

shown_aside : (i j : ℕ) (w : World) → Reached w → shown i j w ≡ shown i j (aside w)
shown_aside i j = with_own (λ x. shown i j x ≡ shown i j (aside x)) (λ c s ss e es l r g. shown_same c s ss e es l r g i j)

alike_from : {w x : World} → Reached w → Reached x → aside w ≡ aside x → AlikeFrom call_rule w x
alike_from h g e =
    record {
      replies = λ js. (calls_alike js h g e).0;
      views = λ js i j.
          shown_aside i j _ (reached_played js h) ∙ ap (shown i j) (calls_alike js h g e).1 ∙ sym (shown_aside i j _ (reached_played js g));
      rest = λ js. (calls_alike js h g e).1;
    }

-- ---- after a batch, and after its appends

aside_further : (n : ℕ) (w : World) → Reached w → aside (further n w) ≡ aside w
aside_further n = with_own (λ x. aside (further n x) ≡ aside x) (λ c s ss e es l r g. refl)

ever_alike : (os : List Op) (w : World) → Reached w → answer_of (reply call_rule (Append os) w) ≡ 0 →
    AlikeFrom call_rule (next call_rule (Append os) w) (played call_rule (ones os) w).world
ever_alike os w h z =
    let a = as_appends os w z in
    let b = reached_next (Append os) h in
    let p = reached_played (ones os) h in
    alike_from b p
    (split w.state.control.first
    (λ q. sym (sym (aside_further 2 _ p) ∙ ap aside (a.applied q) ∙ aside_further (2 * length os) _ b))
    (λ q. ap aside (sym (a.logged q))))

pub batches : Batches call_rule
batches = record { at_once = as_appends; ever = λ ks os. ever_alike os (told call_rule ks).world ((told call_rule ks).account, all_told ks) }
