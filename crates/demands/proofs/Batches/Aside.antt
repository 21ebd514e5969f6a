-- No rule looks at slot 0's epoch and its snapshot but a poll of that slot: where it is not held, a call is answered as if they were put
-- aside, and leaves the same but for them.
use Prim.Native.Nat.{ℕ, zero, suc}
use mathlib.Core.Path.{◌≡◌, refl, sym, ap}
use mathlib.Core.Bool.{Bool, true, false, not, ◌&&◌, and-false}
use mathlib.Core.List.{List, [], ◌∷◌}
use lib.ListN.{length}
use lib.Dec.{ltb, leb}
use Rattle.table.specs.Copy.{zeros}
use Rattle.table.specs.Order.{Op}
use Rattle.table.specs.declared.Answer.{Answer}
use Rattle.table.specs.declared.Answer.TheVariants as answer
use Rattle.table.proofs.Split.{by}
use Rattle.read.specs.declared.Due.{Due}
use Rattle.read.specs.declared.Due.TheVariants.{Nothing, Load, Restore}
use Rattle.read.specs.declared.Slot.{Slot}
use Rattle.read.specs.declared.Handle.{Handle}
use Rattle.read.specs.declared.Handle.TheVariants.{Drop, Enter, GoOn, Release, LookUp, WasDropped}
use Rattle.read.specs.declared.Phase.{Phase}
use Rattle.read.specs.declared.Phase.TheVariants.{Idle, Begin, Poll, Copy, Drain, Keep, Swap, Snap, Null, Lock, LastSnap, LastPoll, Finish, Gone}
use Rattle.read.specs.declared.Control.{Control}
use Rattle.read.specs.declared.State.{State}
use Rattle.read.specs.declared.Made.{Made}
use Rattle.read.specs.declared.Reply.{Reply}
use Rattle.read.specs.Machine.{Verdict, slot_count, first_unlawful, glanced, judged, underway, place, any_open}
use Rattle.std.specs.Prelude.{Ok, Err}
use Rattle.read.specs.Handles.{smallest, handle_signs, create_signs, with_due, freed, loaded, went_on, handled, handled_by, handle_on, handle_by, create_on}
use Rattle.read.specs.Calls.{Lent, lent, slot_at, reply_of, through_guard, through_rule}
use Rattle.read.proofs.Orderly.{orderly_stored}
use Rattle.write.specs.declared.Moved.{Moved}
use Rattle.write.specs.declared.Opening.{Opening}
use Rattle.write.specs.declared.Opening.TheVariants as opening
use Rattle.write.specs.Call.{Create, On, Append, Open}
use Rattle.write.specs.Steps.{holds, seen, vacated, finished, at, of_left, of_right, moved, step_at, step_by}
use Rattle.write.specs.Begins.{lawful_batch, crowds, writer_signs, column_of, append_by, open_on, opened}
use Rattle.write.specs.Runs.{snap_at, lift}
use Rattle.write.specs.Machine.{call_on}
use Rattle.write.specs.World.{world_of}
use Rattle.demands.specs.Batches.{aside}

-- ---- two choices by one test

module _ {A B : Type 0} (f : A → B) where
  test_same : (b : Bool) {x y u v : A} → f x ≡ f u → f y ≡ f v → f (elim b [ true ↦ x | false ↦ y ]) ≡ f (elim b [ true ↦ u | false ↦ v ])
  test_same true p q = p
  test_same false p q = q

  verdict_same : (v : Verdict) {x u : A} {y t : Answer → A} → f x ≡ f u → ((a : Answer) → f (y a) ≡ f (t a)) →
      f (elim v [ Ok _ ↦ x | Err a ↦ y a ]) ≡ f (elim v [ Ok _ ↦ u | Err a ↦ t a ])
  verdict_same (Ok _) p q = p
  verdict_same (Err a) p q = q a

-- ---- what is put aside: of a slot, of what comes of a call on it, and of what comes of a call

abbrev pub hide : Slot → Slot
hide s = with_due 0 s.due s

abbrev hide_made : Made → Made
hide_made m = record { answer = m.answer; value = m.value; slot = hide m.slot; free = m.free }

abbrev pub hide_in : Lent Reply → Lent Reply
hide_in o =
    let w = aside (world_of o) in
    lent (record { answer = o.made.answer; value = o.made.value; state = w.state }) w.left w.right w.log

-- ---- a call on a handle

module _ (c : Control) (s : Slot) (l r : List ℕ) where
  loaded_same : (d : Due) → hide_made (loaded c d s) ≡ hide_made (loaded c d (hide s))
  loaded_same d = test_same hide_made c.null refl refl

  handled_same : (h : Handle) → hide_made (handled c 0 s h l r) ≡ hide_made (handled c 0 (hide s) h l r)
  unfolding handled_by
  handled_same Drop = refl
  handled_same Enter = test_same hide_made (any_open s.guards) (loaded_same s.due) refl
  handled_same GoOn = go s.due
    where
      go : (d : Due) → hide_made (went_on c d s) ≡ hide_made (went_on c d (hide s))
      go Nothing = refl
      go Load = loaded_same Restore
      go Restore = refl
  handled_same (Release j) = refl
  handled_same (LookUp j key) = refl
  handled_same WasDropped = refl

  handle_same : (h : Handle) → hide_made (handle_on c 0 s h l r) ≡ hide_made (handle_on c 0 (hide s) h l r)
  unfolding handle_by
  handle_same h = verdict_same hide_made (smallest (handle_signs c true s h)) (handled_same h) (λ a. refl)

-- ---- a call on the machine, but a step and a run

abbrev pub state : Control → Slot → List Slot → ℕ → List ℕ → State
state c s ss e es = record { control = c; slots = s ∷ ss; snapshots = e ∷ es }

module _ (c : Control) (s : Slot) (ss : List Slot) (e : ℕ) (es l r g : List ℕ) where
  abbrev full : State
  full = state c s ss e es

  abbrev bare : State
  bare = state c (hide s) ss 0 es

  pub create_same : hide_in (call_on Create full l r g) ≡ hide_in (call_on Create bare l r g)
  unfolding call_on create_on
  create_same = go c.free
    where
      go : (i : ℕ) → hide_in (lent (reply_of i (create_on c (slot_at full i)) full) l r g) ≡ hide_in (lent (reply_of i (create_on c (slot_at bare i)) bare) l r g)
      go zero = verdict_same (λ (m : Made). hide_in (lent (reply_of 0 m full) l r g)) (smallest (create_signs c)) refl (λ a. refl)
      go (suc i) = refl

  pub on_same : (i : ℕ) (h : Handle) → hide_in (call_on (On i h) full l r g) ≡ hide_in (call_on (On i h) bare l r g)
  unfolding call_on
  on_same zero h =
      test_same (λ (o : Reply). hide_in (lent o l r g)) (ltb 0 slot_count)
      (ap (λ (m : Made). hide_in (lent (reply_of 0 m full) l r g)) (handle_same c s l r h)) refl
  on_same (suc i) h = test_same (λ (o : Reply). hide_in (lent o l r g)) (ltb (suc i) slot_count) refl refl

  pub append_same : (os : List Op) → hide_in (call_on (Append os) full l r g) ≡ hide_in (call_on (Append os) bare l r g)
  unfolding call_on append_by
  append_same os =
      verdict_same (λ (m : Lent Moved). hide_in (lift 0 full m)) (smallest (writer_signs 7 (not (lawful_batch os)) (crowds (length os) c) c s))
      (test_same (λ (m : Lent Moved). hide_in (lift 0 full m)) c.first refl refl) (λ a. refl)

  pub open_same : (o : Opening) → hide_in (call_on (Open o) full l r g) ≡ hide_in (call_on (Open o) bare l r g)
  unfolding call_on open_on opened
  open_same o =
      verdict_same (λ (m : Moved). hide_in (lift 0 full (lent m l r g))) (smallest (writer_signs (column_of o) false false c s)) (begins o) (λ a. refl)
    where
      begins : (o : Opening) → hide_in (lift 0 full (lent (opened o c s e) l r g)) ≡ hide_in (lift 0 full (lent (opened o c (hide s) 0) l r g))
      begins opening.Publish = refl
      begins opening.Try = refl
      begins opening.Flush = test_same (λ (m : Moved). hide_in (lift 0 full (lent m l r g))) (ltb c.swapped c.length) refl refl
      begins opening.Take = refl

  -- ---- what a guard shows

  -- the order of the free slots goes by use and links
  judged_same : judged full l r g ≡ judged bare l r g
  unfolding judged
  judged_same =
      let n = c.length in
      ap
      (λ (b : Bool).
      elim (glanced c l r g) [
        | Ok _ ↦ elim (leb n (first_unlawful n g) && b) [ true ↦ Ok tt | false ↦ Err answer.Broken ]
        | Err a ↦ Err a
      ])
      (sym (orderly_stored full 0 (hide s) c (0 ∷ es) refl refl refl))

  pub shown_same : (i j : ℕ) → through_rule i j l r g full ≡ through_rule i j l r g bare
  unfolding through_rule
  shown_same zero j = ap (λ (v : Verdict). elim v [ Ok _ ↦ through_guard 0 j l r full | Err a ↦ [] ]) judged_same
  shown_same (suc i) j = ap (λ (v : Verdict). elim v [ Ok _ ↦ through_guard (suc i) j l r full | Err a ↦ [] ]) judged_same

  -- ---- a step of the writer changes no epoch, so they stay aside

  none_seen : seen (hide s) 0 ≡ 0
  none_seen = by (λ (n : ℕ). n ≡ 0) s.used (λ _. refl) (λ _. refl)

  vacated_same : (k : ℕ) → vacated k (hide s) ≡ hide (vacated k s)
  vacated_same k = go s.used
    where
      go : (b : Bool) → elim b [ true ↦ freed k (hide s) | false ↦ hide s ] ≡ hide (elim b [ true ↦ freed k s | false ↦ s ])
      go true = refl
      go false = refl

  pub free_same : (p : Phase) → (underway p ≡ true → holds s e ≡ false) → let i = place p in
      lift i bare (step_at p c (slot_at bare i) (snap_at bare i) l r g) ≡ hide_in (lift i full (step_at p c (slot_at full i) (snap_at full i) l r g))
  unfolding step_by
  free_same Idle f = refl
  free_same Begin f = refl
  free_same (Poll zero) f = simp (and-false, f refl)
  free_same (Poll (suc k)) f = refl
  free_same Copy f = refl
  free_same Drain f = refl
  free_same (Keep k) f = refl
  free_same Swap f = refl
  free_same (Snap zero) f = simp none_seen
  free_same (Snap (suc k)) f = refl
  free_same Null f = refl
  free_same Lock f = refl
  free_same (LastSnap zero) f = simp none_seen
  free_same (LastSnap (suc k)) f = refl
  free_same (LastPoll zero) f = simp (and-false, f refl)
  free_same (LastPoll (suc k)) f = refl
  free_same Finish f =
      ap (λ (t : Slot). lift 0 bare (lent (moved (at Gone (finished s c)) t 0) (of_left c.right zeros l) (of_right c.right zeros r) (zeros g)))
      (vacated_same c.free)
  free_same Gone f = refl
