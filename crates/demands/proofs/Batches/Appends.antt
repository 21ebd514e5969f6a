-- A batch is its operations, appended one by one.
use Prim.Native.Nat.{ℕ, suc, ◌+◌, ◌*◌, ◌%◌, ◌^◌, ◌≤◌}
use mathlib.Core.Path.{◌≡◌, refl, sym, ap, ◌∙◌, subst}
use mathlib.Core.Bool.{Bool, true, false, not, ◌&&◌}
use mathlib.Core.List.{List, [], ◌∷◌}
use native.Mathlib.Omega.{arith}
use native.Mathlib.Nat.{add-zero}
use lib.ListN.{length, get_or, set, replicate}
use lib.Seq.{set-get_or}
use lib.Dec.{ltb, leb}
use borrow.Author.Tests.{not-false, ltb-false, le-ltb, leb-true, le-leb}
use Rattle.table.specs.Copy.{lawful, Fit}
use Rattle.table.specs.declared.Search.TheVariants.{Walk}
use Rattle.table.specs.Order.{Op}
use Rattle.table.proofs.Booleans.{both}
use Rattle.table.proofs.Split.{by}
use Rattle.read.specs.declared.Slot.{Slot}
use Rattle.read.specs.declared.Control.{Control}
use Rattle.read.specs.declared.State.{State}
use Rattle.std.specs.Prelude.{Ok}
use Rattle.read.specs.Machine.{log_room, no_slot, judged, orderly, with_reading}
use Rattle.read.specs.declared.Sign.{Sign}
use Rattle.read.specs.Handles.{smallest, with_due}
use Rattle.read.specs.Calls.{Lent, slot_at}
use Rattle.read.specs.declared.Reply.{Reply}
use Rattle.read.proofs.Verdicts.{silent, refused_mild}
use Rattle.read.proofs.Orderly.{orderly_stored}
use Rattle.write.specs.declared.Moved.{Moved}
use Rattle.write.specs.Call.{Append}
use Rattle.write.specs.Begins.{batch_room, all_lawful, lawful_batch, crowds, writer_signs, operated_all, logged, logged_all, appended, append_on, append_by}
use Rattle.write.specs.Steps.{with_log, of_left, of_right}
use Rattle.write.specs.Runs.{snap_at, lift}
use Rattle.write.specs.Machine.{call_on, call_rule}
use Rattle.write.specs.World.{World, reply, world_of, answer_of, value_of, Played, answering, played}
use Rattle.write.proofs.Verdicts.{judging}
use Rattle.write.proofs.Control.{whole_append}
use Rattle.write.proofs.Words.{kept_fit, words_append}
use Rattle.write.proofs.Judged.{Good, judged_good, judged_orderly, good_judged}
use Rattle.demands.specs.Batches.{ones, further, AsAppends}
use Rattle.demands.proofs.Refusal.Judged.{Grave, judged_grave}

-- ---- a batch that is admitted

abbrev signs_of : List Op → Control → Slot → List Sign
signs_of os c s = writer_signs 7 (not (lawful_batch os)) (crowds (length os) c) c s

record Admits (os : List Op) (w : World) : Type 0 where
  good : Good Fit w.state.control w.left w.right w.log
  ordered : orderly w.state ≡ true
  signs : smallest (signs_of os w.state.control (slot_at w.state 0)) ≡ Ok tt

made_admits : (os : List Op) (w : World) → answer_of (reply call_rule (Append os) w) ≡ 0 → Admits os w
unfolding call_rule call_on append_by
made_admits os w =
    let st = w.state in
    let c = st.control in
    let signs = signs_of os c (slot_at st 0) in
    judging (λ o. answer_of o ≡ 0 → Admits os w) (judged st w.left w.right w.log)
    (λ v. judging (λ m. answer_of (lift 0 st m) ≡ 0 → Admits os w) (smallest signs)
    (λ u z. record { good = judged_good st w.left w.right w.log v; ordered = judged_orderly st w.left w.right w.log v; signs = u })
    (λ a u z. absurd (omega (arith, refused_mild signs refl a u, z))))
    (λ a v z. absurd (let y = subst Grave v (judged_grave st w.left w.right w.log) in omega (arith, y, z)))

-- what comes of it, by whether it is applied at once
abbrev taken : Bool → List Op → World → Lent Reply
taken first os w = let st = w.state in lift 0 st (appended Walk first os st.control (slot_at st 0) (snap_at st 0) w.left w.right w.log)

abbrev leaves : Bool → List Op → World → World
leaves first os w = world_of (taken first os w)

module _ {os : List Op} {w : World} (h : Admits os w) (first : Bool) (q : w.state.control.first ≡ first) where
  appends_so : let st = w.state in let c = st.control in
      append_on os c (slot_at st 0) (snap_at st 0) w.left w.right w.log ≡ appended Walk first os c (slot_at st 0) (snap_at st 0) w.left w.right w.log
  unfolding append_by
  appends_so = rw (h.signs, append_by, q)

  replies_so : reply call_rule (Append os) w ≡ taken first os w
  unfolding call_rule call_on
  replies_so = rw (good_judged w.state w.left w.right w.log h.good h.ordered, call_rule) (ap (lift 0 w.state) appends_so)

  stays_good : let x = leaves first os w in Good Fit x.state.control x.left x.right x.log
  stays_good =
      let c = w.state.control in
      let s = slot_at w.state 0 in
      let e = snap_at w.state 0 in
      subst (λ (m : Lent Moved). Good Fit m.made.control m.left m.right m.log) appends_so
      (record {
        whole = whole_append c h.good.whole s e os w.left w.right w.log;
        words = words_append kept_fit c s e w.left w.right w.log h.good.words os;
      })

-- ---- its first operation is admitted, and then the others

fewer : (first : Bool) (m n : ℕ) → m ≤ n → (not first && ltb log_room n) ≡ false → (not first && ltb log_room m) ≡ false
fewer true m n le e = refl
fewer false m n le e = le-ltb log_room m (omega (arith, ltb-false log_room n e))

-- slot 0 as it is read again, with another epoch
read_again : (ss : List Slot) (e : ℕ) → let s = get_or ss 0 no_slot in let t = get_or (set ss 0 (with_due e s.due s)) 0 no_slot in (t.due ≡ s.due) × (t.guards ≡ s.guards)
read_again [] e = (refl, refl)
read_again (s ∷ ss) e = (refl, refl)

module _ (o : Op) (os : List Op) (w : World) (h : Admits (o ∷ os) w) where
  abbrev st : State
  st = w.state

  abbrev c : Control
  c = st.control

  abbrev s : Slot
  s = slot_at st 0

  lawful_all : lawful_batch (o ∷ os) ≡ true
  lawful_all = not-false (lawful_batch (o ∷ os)) (silent 5 (signs_of (o ∷ os) c s) h.signs)

  lawful_each : (leb (length os) batch_room ≡ true) × (lawful o.kind o.key o.amount ≡ true) × (all_lawful os ≡ true)
  lawful_each =
      let (n, l) = both (leb (suc (length os)) batch_room) (all_lawful (o ∷ os)) lawful_all in
      let (x, y) = both (lawful o.kind o.key o.amount) (all_lawful os) l in
      (le-leb (length os) batch_room (omega (arith, leb-true (suc (length os)) batch_room n)), x, y)

  -- some of them, n being logged before, with as much due and open in slot 0
  admits_some : (ps : List Op) → lawful_batch ps ≡ true → (n : ℕ) → n + length ps ≤ c.length + suc (length os) →
      (t : Slot) → (t.due ≡ s.due) × (t.guards ≡ s.guards) → smallest (signs_of ps (with_log n c.swapped c) t) ≡ Ok tt
  admits_some ps l n le t e =
      let all = silent 11 (signs_of (o ∷ os) c s) h.signs in
      let full = fewer c.first (n + length ps) (c.length + suc (length os)) le all ∙ sym all in
      (λ i. smallest (writer_signs 7 (not ((l ∙ sym lawful_all) i)) (full i) c (with_reading 0 (e.1 i) (e.0 i) t))) ∙ h.signs

  admits_first : Admits (o ∷ []) w
  admits_first = record { good = h.good; ordered = h.ordered; signs = admits_some (o ∷ []) (λ i. lawful_each.1 i && true) c.length (omega arith) s (refl, refl) }

  admits_rest : (first : Bool) → c.first ≡ first → Admits os (leaves first (o ∷ []) w)
  admits_rest first q = record { good = stays_good admits_first first q; ordered = in_order first; signs = signs first }
    where
      behind : (n e : ℕ) → n + length os ≤ c.length + suc (length os) →
          smallest (signs_of os (with_log n c.swapped c) (get_or (set st.slots 0 (with_due e s.due s)) 0 no_slot)) ≡ Ok tt
      behind n e le = admits_some os (λ i. lawful_each.0 i && lawful_each.2 i) n le (get_or (set st.slots 0 (with_due e s.due s)) 0 no_slot) (read_again st.slots e)

      -- slot 0 is in use as it was
      in_order : (first : Bool) → orderly (leaves first (o ∷ []) w).state ≡ true
      in_order true = orderly_stored st 0 _ c _ refl refl refl ∙ h.ordered
      in_order false = orderly_stored st 0 _ _ _ refl refl refl ∙ h.ordered

      signs : (first : Bool) → let x = leaves first (o ∷ []) w in smallest (signs_of os x.state.control (slot_at x.state 0)) ≡ Ok tt
      signs true = behind c.length ((s.epoch + 2) % 2 ^ 64) (omega arith)
      signs false = behind (c.length + 1) s.epoch (omega arith)

-- ---- what they leave

abbrev world : Control → List Slot → List ℕ → List ℕ → List ℕ → List ℕ → World
world c ss es l r g = record { state = record { control = c; slots = ss; snapshots = es }; left = l; right = r; log = g }

abbrev further_in : ℕ → List Slot → List Slot
further_in n ss = let t = get_or ss 0 no_slot in set ss 0 (with_due ((t.epoch + n) % 2 ^ 64) t.due t)

further_more : (m n : ℕ) (w : World) → further m (further n w) ≡ further (n + m) w
further_more m n w = λ i. world w.state.control (go w.state.slots i) w.state.snapshots w.left w.right w.log
  where
    go : (ss : List Slot) → further_in m (further_in n ss) ≡ further_in (n + m) ss
    go [] = refl
    go (x ∷ xs) = let e : ((x.epoch + n) % 2 ^ 64 + m) % 2 ^ 64 ≡ (x.epoch + (n + m)) % 2 ^ 64 = omega arith in λ i. with_due (e i) x.due x ∷ xs

-- the copies, after no operation, and after one and more
module _ (right : Bool) (w : List ℕ) where
  none_left : of_left right (operated_all []) w ≡ w
  none_left = by (λ (x : List ℕ). x ≡ w) right (λ _. refl) (λ _. refl)

  none_right : of_right right (operated_all []) w ≡ w
  none_right = by (λ (x : List ℕ). x ≡ w) right (λ _. refl) (λ _. refl)

more_left : (right : Bool) (o : Op) (os : List Op) (l : List ℕ) → of_left right (operated_all os) (of_left right (operated_all (o ∷ [])) l) ≡ of_left right (operated_all (o ∷ os)) l
more_left true o os l = refl
more_left false o os l = refl

more_right : (right : Bool) (o : Op) (os : List Op) (r : List ℕ) → of_right right (operated_all os) (of_right right (operated_all (o ∷ [])) r) ≡ of_right right (operated_all (o ∷ os)) r
more_right true o os r = refl
more_right false o os r = refl

module _ (w : World) where
  none_applied : leaves true [] w ≡ further 2 w
  none_applied =
      let d = w.state.control in
      let x = further 2 w in
      λ i. world d x.state.slots (set-get_or w.state.snapshots 0 0 i) (none_left d.right w.left i) (none_right d.right w.right i) w.log

  none_logged : leaves false [] w ≡ w
  none_logged = simp (set-get_or, add-zero)

  more_applied : (o : Op) (os : List Op) → leaves true os (leaves true (o ∷ []) w) ≡ further 2 (leaves true (o ∷ os) w)
  more_applied o os =
      let d = w.state.control in
      let x = further 2 (leaves true (o ∷ os) w) in
      λ i. world d x.state.slots (set-get_or x.state.snapshots 0 0 i) (more_left d.right o os w.left i) (more_right d.right o os w.right i) w.log

  more_logged : (o : Op) (os : List Op) → leaves false os (leaves false (o ∷ []) w) ≡ leaves false (o ∷ os) w
  more_logged o os =
      let d = w.state.control in
      let x = leaves false (o ∷ os) w in
      let n : d.length + 1 + length os ≡ d.length + suc (length os) = omega arith in
      let k : d.length + 1 ≡ suc d.length = omega arith in
      λ i. world (with_log (n i) d.swapped d) (set-get_or x.state.slots 0 no_slot i) (set-get_or x.state.snapshots 0 0 i) w.left w.right
      (logged_all (k i) os (logged d.length o.kind o.key o.amount w.log))

-- ---- one after the other

-- what they leave, beside what the batch leaves
abbrev Leaves : Bool → List Op → World → World → Type 0
Leaves true os w x = further 2 x ≡ further (2 * length os) (leaves true os w)
Leaves false os w x = x ≡ leaves false os w

abbrev Plays : Bool → List Op → World → Played → Type 0
Plays first os w p = (p.replies ≡ replicate (2 * length os) 0) × Leaves first os w p.world

first_more : (first : Bool) (o : Op) (os : List Op) (w x : World) → Leaves first os (leaves first (o ∷ []) w) x → Leaves first (o ∷ os) w x
first_more true o os w x e =
    let n : 2 + 2 * length os ≡ 2 * suc (length os) = omega arith in
    let y = leaves true (o ∷ os) w in
    e ∙ ap (further (2 * length os)) (more_applied w o os) ∙ further_more (2 * length os) 2 y ∙ ap (λ (k : ℕ). further k y) n
first_more false o os w x e = e ∙ more_logged w o os

first_none : (first : Bool) (w : World) → Leaves first [] w w
first_none true w = sym (ap (further 0) (none_applied w) ∙ further_more 0 2 w)
first_none false w = sym (none_logged w)

-- answered 0 with value 0, and `first` stays
record Made (o : Lent Reply) (first : Bool) : Type 0 where
  answer : answer_of o ≡ 0
  value : value_of o ≡ 0
  stays : o.made.state.control.first ≡ first

taken_made : (first : Bool) (os : List Op) (w : World) → w.state.control.first ≡ first → Made (taken first os w) first
taken_made true os w q = record { answer = refl; value = refl; stays = q }
taken_made false os w q = record { answer = refl; value = refl; stays = q }

one_by_one : (first : Bool) (os : List Op) (w : World) → Admits os w → w.state.control.first ≡ first → Plays first os w (played call_rule (ones os) w)
unfolding played
one_by_one first [] w h q = (refl, first_none first w)
one_by_one first (o ∷ os) w h q =
    let t = taken first (o ∷ []) w in
    let z = taken_made first (o ∷ []) w q in
    let rest = one_by_one first os (leaves first (o ∷ []) w) (admits_rest o os w h first q) z.stays in
    let n : suc (suc (2 * length os)) ≡ 2 * suc (length os) = omega arith in
    subst (λ (r : Lent Reply). Plays first (o ∷ os) w (answering (answer_of r) (value_of r) (played call_rule (ones os) (world_of r)))) (sym (replies_so (admits_first o os w h) first q))
    ((λ i. z.answer i ∷ z.value i ∷ rest.0 i) ∙ ap (λ (k : ℕ). replicate k 0) n, first_more first o os w (played call_rule (ones os) (world_of t)).world rest.1)

pub as_appends : (os : List Op) (w : World) → answer_of (reply call_rule (Append os) w) ≡ 0 → AsAppends call_rule os w
as_appends os w z =
    let h = made_admits os w z in
    record {
      made = (one_by_one w.state.control.first os w h refl).0;
      logged = λ q. (one_by_one false os w h q).1 ∙ ap world_of (sym (replies_so h false q));
      applied = λ q. (one_by_one true os w h q).1 ∙ ap (λ (r : Lent Reply). further (2 * length os) (world_of r)) (sym (replies_so h true q));
    }
