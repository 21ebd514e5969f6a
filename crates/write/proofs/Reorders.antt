-- How a call leaves the order in which free slots are handed out: it stays, the slot that is first is handed out, or one is freed.
use Rattle.std.proofs.Common.{◌≡◌, ℕ, ◌+◌, ◌<◌, Bool, true, false, eqb, List, length, set, sym, refl, ◌∙◌, subst}
use borrow.Author.Tests.{not-false}
use Rattle.table.specs.Order.{Op}
use Rattle.table.proofs.Split.{by, below}
use Rattle.read.specs.declared.Due.{Due}
use Rattle.read.specs.declared.Due.TheVariants.{Nothing, Load, Restore}
use Rattle.read.specs.declared.Slot.{Slot}
use Rattle.read.specs.declared.Phase.{Phase}
use Rattle.read.specs.declared.Phase.TheVariants.{Idle, Begin, Poll, Copy, Drain, Keep, Swap, Snap, Null, Lock, LastSnap, LastPoll, Finish, Gone}
use Rattle.read.specs.declared.Job.{Job}
use Rattle.read.specs.declared.Job.TheVariants.{Publish, Try, TakeFirst, TakeSecond}
use Rattle.read.specs.declared.Control.{Control}
use Rattle.read.specs.declared.State.{State}
use Rattle.read.specs.declared.Handle.{Handle}
use Rattle.read.specs.declared.Handle.TheVariants.{Drop, Enter, GoOn, Release, LookUp, WasDropped}
use Rattle.read.specs.declared.Made.{Made}
use Rattle.read.specs.Machine.{slot_count, new_slot, any_open, behind, orderly, place}
use Rattle.read.specs.Handles.{smallest, handle_signs, create_signs, freed, loaded, went_on, handled, handle_on, create_on, handle_by, handled_by}
use Rattle.read.specs.Calls.{slot_at}
use Rattle.read.proofs.Verdicts.{silent}
use Rattle.read.proofs.Cases.{state_of, create_room}
use Rattle.read.proofs.Orderly.{orderly_stored, orderly_created, orderly_freed}
use Rattle.write.specs.declared.Moved.{Moved}
use Rattle.write.specs.declared.Opening.{Opening}
use Rattle.write.specs.declared.Opening.TheVariants as opening
use Rattle.write.specs.Steps.{vacated, first_then, swapped_over, holds, stopped, poll_move, last_poll_move, step_at, step_by}
use Rattle.write.specs.Begins.{append_on, opened, open_on}
use Rattle.write.proofs.Verdicts.{judging}
use Rattle.write.proofs.Cases.{append_cases, open_cases, snapping_cases}
use Rattle.write.proofs.Control.{some_slot}

-- what becomes of the slot that is handed out next, which was k, and of slot i, which was s
pub data Reorders (i k : ℕ) (s : Slot) : ℕ → Slot → Type 0 where
  stays : {t : Slot} → t.used ≡ s.used → t.link ≡ s.link → Reorders i k s k t
  takes : i ≡ k → i < slot_count → Reorders i k s (behind i s.link) new_slot
  frees : i < slot_count → s.used ≡ true → Reorders i k s i (freed k s)

-- so the order stays whole, whatever else the control part and the snapshots become
pub orderly_left :
    (st : State) {i n : ℕ} {t : Slot} → length st.slots ≡ slot_count → orderly st ≡ true →
    Reorders i st.control.free (slot_at st i) n t → (c : Control) (es : List ℕ) → c.free ≡ n →
    orderly (state_of c (set st.slots i t) es) ≡ true
orderly_left st {i = i} sized h (stays {t = t} u l) c es e = orderly_stored st i t c es u l e ∙ h
orderly_left st {i = i} sized h (takes q b) c es e =
    subst (λ (j : ℕ). j < slot_count → c.free ≡ behind j (slot_at st j).link → orderly (state_of c (set st.slots j new_slot) es) ≡ true)
    (sym q) (orderly_created st sized h c es) b e
orderly_left st {i = i} sized h (frees b u) c es e = orderly_freed st sized h c es i (slot_at st i) b u e

-- ---- create, and the calls on a handle

module _ (c : Control) (s : Slot) where
  pub reorders_create : (let m = create_on c s in Reorders c.free c.free s m.free m.slot)
  unfolding create_on
  reorders_create =
      judging (λ (m : Made). Reorders c.free c.free s m.free m.slot) (smallest (create_signs c))
      (λ v. takes refl (create_room c v)) (λ a v. stays refl refl)

module _ (c : Control) (i : ℕ) (s : Slot) where
  abbrev ReordersMade : Made → Type 0
  ReordersMade m = Reorders i c.free s m.free m.slot

  reorders_loaded : (d : Due) → ReordersMade (loaded c d s)
  reorders_loaded d = by ReordersMade c.null (λ e. stays refl refl) (λ e. stays refl refl)

  reorders_went_on : (d : Due) → ReordersMade (went_on c d s)
  reorders_went_on Nothing = stays refl refl
  reorders_went_on Load = reorders_loaded Restore
  reorders_went_on Restore = stays refl refl

  reorders_handled : i < slot_count → s.used ≡ true → (h : Handle) (l r : List ℕ) → ReordersMade (handled c i s h l r)
  unfolding handled_by
  reorders_handled b u Drop l r = frees b u
  reorders_handled b u Enter l r =
      by ReordersMade (any_open s.guards) (λ e. reorders_loaded s.due) (λ e. stays refl refl)
  reorders_handled b u GoOn l r = reorders_went_on s.due
  reorders_handled b u (Release j) l r = stays refl refl
  reorders_handled b u (LookUp j key) l r = stays refl refl
  reorders_handled b u WasDropped l r = stays refl refl

  pub reorders_handle :
      i < slot_count → (h : Handle) (l r : List ℕ) → (let m = handle_on c i s h l r in Reorders i c.free s m.free m.slot)
  unfolding handle_by
  reorders_handle b h l r =
      let signs = handle_signs c (eqb i 0) s h in
      judging ReordersMade (smallest signs) (λ v. reorders_handled b (not-false s.used (silent 4 signs v)) h l r) (λ a v. stays refl refl)

-- ---- the writer's calls

module _ (c : Control) (s : Slot) (e : ℕ) where
  abbrev ReordersMove : ℕ → Moved → Type 0
  ReordersMove i m = Reorders i c.free s m.control.free m.slot

  reorders_stopped : (i : ℕ) (j : Job) → ReordersMove i (stopped j c s e)
  reorders_stopped i Publish = stays refl refl
  reorders_stopped i Try = stays refl refl
  reorders_stopped i TakeFirst = stays refl refl
  reorders_stopped i TakeSecond = stays refl refl

  reorders_poll : (held : Bool) (k : ℕ) → ReordersMove k (poll_move held k c s e)
  reorders_poll true k = reorders_stopped k c.job
  reorders_poll false k = stays refl refl

  reorders_last_poll : (held : Bool) (k : ℕ) → ReordersMove k (last_poll_move held k c s e)
  reorders_last_poll true k = stays refl refl
  reorders_last_poll false k = stays refl refl

  reorders_finish : Reorders 0 c.free s (first_then c.free s) (vacated c.free s)
  reorders_finish = go s.used refl
    where
      go : (b : Bool) → s.used ≡ b →
          Reorders 0 c.free s (elim b [ true ↦ 0 | false ↦ c.free ]) (elim b [ true ↦ freed c.free s | false ↦ s ])
      go true u = frees some_slot u
      go false u = stays refl refl

  module _ (l r g : List ℕ) where
    pub reorders_step : (p : Phase) → (let m = (step_at p c s e l r g).made in Reorders (place p) c.free s m.control.free m.slot)
    unfolding step_by
    reorders_step Idle = stays refl refl
    reorders_step Begin = stays refl refl
    reorders_step (Poll k) = reorders_poll (holds s e) k
    reorders_step Copy = stays refl refl
    reorders_step Drain = stays refl refl
    reorders_step (Keep k) = stays refl refl
    reorders_step Swap =
        snapping_cases (λ d. Reorders 0 c.free s d.free s) (swapped_over c) 0 (λ h. stays refl refl) (λ h. stays refl refl)
    reorders_step (Snap k) =
        snapping_cases (λ d. Reorders k c.free s d.free s) c (k + 1) (λ h. stays refl refl) (λ h. stays refl refl)
    reorders_step Null = stays refl refl
    reorders_step Lock = stays refl refl
    reorders_step (LastSnap k) = stays refl refl
    reorders_step (LastPoll k) = reorders_last_poll (holds s e) k
    reorders_step Finish = reorders_finish
    reorders_step Gone = stays refl refl

    pub reorders_append :
        (os : List Op) → (let m = (append_on os c s e l r g).made in Reorders 0 c.free s m.control.free m.slot)
    reorders_append os =
        append_cases (λ m. ReordersMove 0 m.made) os c s e l r g (λ q h. stays refl refl) (λ q u h. stays refl refl) (λ a h. stays refl refl)

  reorders_opened : (o : Opening) → ReordersMove 0 (opened o c s e)
  unfolding opened
  reorders_opened opening.Publish = stays refl refl
  reorders_opened opening.Try = stays refl refl
  reorders_opened opening.Flush = below (ReordersMove 0) c.swapped c.length (λ h. stays refl refl) (λ h. stays refl refl)
  reorders_opened opening.Take = stays refl refl

  pub reorders_open : (o : Opening) → (let m = open_on o c s e in Reorders 0 c.free s m.control.free m.slot)
  reorders_open o = open_cases (ReordersMove 0) o c s e (λ q. reorders_opened o) (λ a h. stays refl refl)
