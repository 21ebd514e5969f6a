-- On copies whose keys rise a step and an append are the same, whichever way a key is searched.
use Rattle.std.proofs.Common.{◌≡◌, ℕ, ◌+◌, ◌*◌, ◌%◌, ◌^◌, Bool, true, false, not, ltb, List, [], ◌∷◌, length, get_or, refl, ap, ◌∙◌}
use Rattle.table.specs.declared.Search.{Search}
use Rattle.table.specs.Copy.{Out}
use Rattle.table.specs.Order.{Op, Tidy}
use Rattle.table.proofs.Found.{apply_rising}
use Rattle.read.specs.declared.Slot.{Slot}
use Rattle.read.specs.declared.Phase.{Phase}
use Rattle.read.specs.declared.Phase.TheVariants.{Idle, Begin, Poll, Copy, Drain, Keep, Swap, Snap, Null, Lock, LastSnap, LastPoll, Finish, Gone}
use Rattle.read.specs.declared.Control.{Control}
use Rattle.std.specs.Prelude.{Ok, Err}
use Rattle.read.specs.Machine.{log_room}
use Rattle.read.specs.Handles.{smallest, with_due}
use Rattle.read.specs.Calls.{lent}
use Rattle.write.specs.declared.Moved.{Moved}
use Rattle.write.specs.Steps.{keeping, drained, at, moved, refused, of_left, of_right, operated, operated_by, log_applied, log_applied_by, unlogged, step_at, step_by}
use Rattle.write.specs.Begins.{writer_signs, lawful_batch, crowds, operated_all, operated_all_by, made_at_once, append_later, append_on, append_by}
use Rattle.write.proofs.Words.{kept_tidy, keep_operated}

module _ (how : Search) where
  operated_rising : (kind key amount : ℕ) (w : List ℕ) → Tidy w → operated_by how kind key amount w ≡ operated kind key amount w
  operated_rising kind key amount w t = ap (λ (o : Out). o.copy) (apply_rising key w t.rising how kind amount)

  operated_all_rising : (os : List Op) (w : List ℕ) → Tidy w → operated_all_by how os w ≡ operated_all os w
  operated_all_rising [] w t = refl
  operated_all_rising (o ∷ os) w t =
      ap (operated_all_by how os) (operated_rising o.kind o.key o.amount w t)
      ∙ operated_all_rising os (operated o.kind o.key o.amount w)
      (keep_operated Tidy kept_tidy o.kind o.key o.amount w t)

  log_applied_rising : (g : List ℕ) (i : ℕ) (w : List ℕ) → Tidy w → log_applied_by how g i w ≡ log_applied g i w
  log_applied_rising g i w t =
      λ k.
      elim (ltb i log_room) [
        | true ↦ operated_rising (get_or g (3 * i) 0) (get_or g (3 * i + 1) 0) (get_or g (3 * i + 2) 0) w t k
        | false ↦ w
      ]

  -- two ways that make the same of both copies, on the copy that the pointer does not name
  left_same : (right : Bool) (f h : List ℕ → List ℕ) {l : List ℕ} → f l ≡ h l → of_left right f l ≡ of_left right h l
  left_same true f h e = e
  left_same false f h e = refl

  right_same : (right : Bool) (f h : List ℕ → List ℕ) {r : List ℕ} → f r ≡ h r → of_right right f r ≡ of_right right h r
  right_same true f h e = refl
  right_same false f h e = e

  module _ (c : Control) (s : Slot) (e : ℕ) (l r g : List ℕ) (x : Tidy l) (y : Tidy r) where
    applies_same :
        (i : ℕ) (m : Moved) (d : List ℕ) →
        lent m (of_left c.right (log_applied_by how g i) l) (of_right c.right (log_applied_by how g i) r) d
        ≡ lent m (of_left c.right (log_applied g i) l) (of_right c.right (log_applied g i) r) d
    applies_same i m d =
        λ k.
        lent m (left_same c.right (log_applied_by how g i) (log_applied g i) (log_applied_rising g i l x) k)
        (right_same c.right (log_applied_by how g i) (log_applied g i) (log_applied_rising g i r y) k) d

    step_at_lem : (p : Phase) → step_by how p c s e l r g ≡ step_at p c s e l r g
    unfolding step_by
    step_at_lem Idle = refl
    step_at_lem Begin = refl
    step_at_lem (Poll k) = refl
    step_at_lem Copy = refl
    step_at_lem Drain = applies_same 0 (moved (drained c) s e) (unlogged c.length g)
    step_at_lem (Keep k) = applies_same k (moved (at (keeping c.length (k + 1)) c) s e) g
    step_at_lem Swap = refl
    step_at_lem (Snap k) = refl
    step_at_lem Null = refl
    step_at_lem Lock = refl
    step_at_lem (LastSnap k) = refl
    step_at_lem (LastPoll k) = refl
    step_at_lem Finish = refl
    step_at_lem Gone = refl

    pub step_rising : step_by how c.phase c s e l r g ≡ step_at c.phase c s e l r g
    step_rising = step_at_lem c.phase

    pub append_rising : (os : List Op) → append_by how os c s e l r g ≡ append_on os c s e l r g
    unfolding append_by
    append_rising os =
        λ k.
        elim (smallest (writer_signs 7 (not (lawful_batch os)) (crowds (length os) c) c s)) [
          | Ok _ ↦
              elim c.first [
                | true ↦
                    lent (made_at_once c (with_due ((s.epoch + 2) % 2 ^ 64) s.due s) e)
                    (left_same c.right (operated_all_by how os) (operated_all os) (operated_all_rising os l x) k)
                    (right_same c.right (operated_all_by how os) (operated_all os) (operated_all_rising os r y) k) g
                | false ↦ append_later os c s e l r g
              ]
          | Err a ↦ lent (refused a c s e) l r g
        ]
