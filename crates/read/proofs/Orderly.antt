-- The order of a state's free slots: what it says of the slot that is handed out next, and what keeps it.
use Rattle.std.proofs.Common.{◌≡◌, ℕ, ◌<◌, ◌≤◌, true, false, List, length, set, sym, refl, ap, ◌∙◌}
use Rattle.read.specs.declared.Slot.{Slot}
use Rattle.read.specs.declared.Control.{Control}
use Rattle.read.specs.declared.State.{State}
use Rattle.read.specs.Machine.{slot_count, new_slot, behind, free_below, walk, orderly, fresh}
use Rattle.read.specs.Handles.{freed}
use Rattle.read.specs.Calls.{slot_at}
use Rattle.read.proofs.Cases.{state_of}
use Rattle.read.proofs.FreeOrder.{Alike, alike_set, ordered, ordered_alike, ordered_popped, ordered_pushed, first_bound, first_vacant, end_full, full_end}

pub orderly_is : (st : State) → orderly st ≡ ordered st.slots st.control.free
unfolding orderly
orderly_is st = refl

pub orderly_fresh : orderly fresh ≡ true
unfolding slot_count free_below walk orderly
orderly_fresh = refl

-- ---- the slot that is handed out next

module _ (st : State) (o : orderly st ≡ true) where
  o_is : ordered st.slots st.control.free ≡ true
  o_is = sym (orderly_is st) ∙ o

  pub free_bound : st.control.free ≤ slot_count
  free_bound = first_bound st.slots st.control.free o_is

  pub free_vacant : st.control.free < slot_count → (slot_at st st.control.free).used ≡ false
  free_vacant = first_vacant st.slots st.control.free o_is

  -- there is none exactly where all are in use
  pub free_full : st.control.free ≡ slot_count → (i : ℕ) → i < slot_count → (slot_at st i).used ≡ true
  free_full = end_full st.slots st.control.free o_is

  pub full_free : ((i : ℕ) → i < slot_count → (slot_at st i).used ≡ true) → st.control.free ≡ slot_count
  full_free = full_end st.slots st.control.free o_is

-- ---- what keeps the order

pub orderly_alike : (st su : State) → Alike st.slots su.slots → su.control.free ≡ st.control.free → orderly su ≡ orderly st
orderly_alike st su a e =
    orderly_is su ∙ ordered_alike st.slots su.slots a su.control.free ∙ ap (ordered st.slots) e ∙ sym (orderly_is st)

-- a store that keeps use and link of a slot, whatever the control part and the snapshots become
pub orderly_stored :
    (st : State) (i : ℕ) (s : Slot) (c : Control) (es : List ℕ) → s.used ≡ (slot_at st i).used → s.link ≡ (slot_at st i).link →
    c.free ≡ st.control.free → orderly (state_of c (set st.slots i s) es) ≡ orderly st
orderly_stored st i s c es u l e = orderly_alike st (state_of c (set st.slots i s) es) (alike_set st.slots i s u l) e

module _ (st : State) (n : length st.slots ≡ slot_count) (o : orderly st ≡ true) (c : Control) (es : List ℕ) where
  -- the slot that is first gets a new handle
  pub orderly_created :
      st.control.free < slot_count → c.free ≡ behind st.control.free (slot_at st st.control.free).link →
      orderly (state_of c (set st.slots st.control.free new_slot) es) ≡ true
  orderly_created l e =
      orderly_is (state_of c (set st.slots st.control.free new_slot) es)
      ∙ ap (ordered (set st.slots st.control.free new_slot)) e
      ∙ ordered_popped st.slots n st.control.free new_slot (sym (orderly_is st) ∙ o) l refl

  -- slot i, which is in use, is freed
  pub orderly_freed :
      (i : ℕ) (s : Slot) → i < slot_count → (slot_at st i).used ≡ true → c.free ≡ i →
      orderly (state_of c (set st.slots i (freed st.control.free s)) es) ≡ true
  orderly_freed i s l u e =
      orderly_is (state_of c (set st.slots i (freed st.control.free s)) es)
      ∙ ap (ordered (set st.slots i (freed st.control.free s))) e
      ∙ ordered_pushed st.slots n i st.control.free s (sym (orderly_is st) ∙ o) l u
