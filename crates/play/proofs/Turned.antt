-- A call that takes one turn: its move, put back, is what the machine gives.
use Prim.Native.Nat.{ℕ, ◌%◌, ◌<◌}
use mathlib.Core.Path.{◌≡◌, refl, sym, ap, ◌∙◌}
use mathlib.Core.Bool.{Bool, true, false, not, true≢false}
use mathlib.Core.List.{List, [], ◌∷◌}
use native.Mathlib.Omega.{arith}
use borrow.Author.Tests.{leb-true, leb-false}
use lib.Dec.{ltb, leb}
use lib.ListN.{length, get_or, set}
use lib.Seq.{set-get_or}
use Rattle.table.specs.Order.{Op, op}
use Rattle.table.specs.declared.Answer.{Answer}
use Rattle.table.specs.declared.Answer.TheVariants as answer
use Rattle.table.proofs.Lists.{get_d_within}
use Rattle.table.specs.declared.Search.TheVariants.{Walk}
use Rattle.read.specs.declared.Control.{Control}
use Rattle.read.specs.declared.Handle.{Handle}
use Rattle.read.specs.declared.Made.{Made}
use Rattle.read.specs.declared.Slot.{Slot}
use Rattle.read.specs.declared.State.{State}
use Rattle.read.specs.declared.Reply.{Reply}
use Rattle.read.specs.Machine.{Verdict, slot_total, slot_count, no_slot, new_slot, behind}
use Rattle.std.specs.Prelude.{Ok, Err}
use Rattle.read.proofs.Cases.{state_of, reply_back, reply_past, reply_in, create_room}
use Rattle.read.specs.Handles.{smallest, made_of, handle_on, create_signs, create_on}
use Rattle.read.specs.Calls.{Lent, lent, slot_at, refusal, reply_of, handle_reply}
use Rattle.write.specs.declared.Moved.{Moved}
use Rattle.write.specs.declared.Opening.{Opening}
use Rattle.write.specs.declared.Opening.TheVariants as opening
use Rattle.write.specs.Steps.{refused}
use Rattle.write.specs.Begins.{writer_signs, lawful_batch, crowds, appended, append_on, column_of, begun, value, opened, open_on, append_by}
use Rattle.write.specs.Runs.{snap_at, lift}
use Rattle.write.specs.Machine.{call_on}
use Rattle.play.specs.declared.schedule.Act.{Act}
use Rattle.play.specs.declared.schedule.Act.TheVariants as act
use Rattle.play.specs.Turns.{meant, named, is_going, moved_as, moved_by, turn_on}

-- ---- a slot that was read

-- any slot stands for one that is not there
abbrev pub within : ℕ → ℕ
within i = i % slot_total

within_here : (i : ℕ) → i < slot_total → within i ≡ i
within_here i h = omega arith

pub within_below : (i : ℕ) → within i < slot_total
within_below i = omega arith

-- within the slots the default does not matter
pub read_slot : (ss : List Slot) {j : ℕ} (d : Slot) → length ss ≡ slot_count → j < slot_total → get_or ss j d ≡ get_or ss j no_slot
unfolding slot_count
read_slot ss {j} d n h = get_d_within ss j d no_slot (omega arith)

-- ---- the turn

-- a move at slot i, of which the snapshot stays
abbrev pub put_slot : ℕ → State → Lent Moved → Lent Reply
put_slot i st m =
    lent
    (record {
      answer = m.made.answer;
      value = m.made.value;
      state = state_of m.made.control (set st.slots i m.made.slot) st.snapshots;
    })
    m.left m.right m.log

module _ (st : State) where
  -- a snapshot that was only read
  kept :
      (i : ℕ) (a : Answer) (v : ℕ) (c : Control) (s : Slot) (l r g : List ℕ) →
      lift i st (lent (record { answer = a; value = v; control = c; slot = s; snapshot = snap_at st i }) l r g)
      ≡ put_slot i st (lent (moved_as a v c s) l r g)
  kept i a v c s l r g =
      λ j. lent (record { answer = a; value = v; state = state_of c (set st.slots i s) (set-get_or st.snapshots i 0 j) }) l r g

  module _ (l r g : List ℕ) where
    -- and a slot
    unslot : (i : ℕ) (a : Answer) → put_slot i st (lent (moved_as a 0 st.control (slot_at st i)) l r g) ≡ lent (refusal a st) l r g
    unslot i a =
        λ j. lent (refusal a (state_of st.control (set-get_or st.slots i no_slot j) st.snapshots)) l r g

    -- ---- append and the beginnings

    abbrev c : Control
    c = st.control

    abbrev first : Slot
    first = slot_at st 0

    module _ (os : List Op) where
      abbrev appends : Verdict → Bool → ℕ → Lent Moved
      appends v early e = elim v [ Ok _ ↦ appended Walk early os c first e l r g | Err a ↦ lent (refused a c first e) l r g ]

      append_kept : (v : Verdict) (early : Bool) → lift 0 st (appends v early (snap_at st 0)) ≡ put_slot 0 st (appends v early 0)
      append_kept (Ok _) true = kept 0 _ _ _ _ _ _ _
      append_kept (Ok _) false = kept 0 _ _ _ _ _ _ _
      append_kept (Err a) early = kept 0 _ _ _ _ _ _ _

    flush_kept :
        (b : Bool) →
        lift 0 st (lent (elim b [ true ↦ value 1 (begun c) first (snap_at st 0) | false ↦ value 0 c first (snap_at st 0) ]) l r g)
        ≡ put_slot 0 st (lent (elim b [ true ↦ value 1 (begun c) first 0 | false ↦ value 0 c first 0 ]) l r g)
    flush_kept true = kept 0 _ _ _ _ _ _ _
    flush_kept false = kept 0 _ _ _ _ _ _ _

    opened_kept : (o : Opening) → lift 0 st (lent (opened o c first (snap_at st 0)) l r g) ≡ put_slot 0 st (lent (opened o c first 0) l r g)
    unfolding opened
    opened_kept opening.Publish = kept 0 _ _ _ _ _ _ _
    opened_kept opening.Try = kept 0 _ _ _ _ _ _ _
    opened_kept opening.Flush = flush_kept (ltb c.swapped c.length)
    opened_kept opening.Take = kept 0 _ _ _ _ _ _ _

    open_kept :
        (o : Opening) (v : Verdict) →
        lift 0 st (lent (elim v [ Ok _ ↦ opened o c first (snap_at st 0) | Err a ↦ refused a c first (snap_at st 0) ]) l r g)
        ≡ put_slot 0 st (lent (elim v [ Ok _ ↦ opened o c first 0 | Err a ↦ refused a c first 0 ]) l r g)
    open_kept o (Ok _) = opened_kept o
    open_kept o (Err a) = kept 0 _ _ _ _ _ _ _

    -- ---- create, and a call on a handle

    abbrev put : ℕ → Moved → Lent Reply
    put i m = put_slot i st (lent m l r g)

    -- the slot that is first, where there is one
    abbrev creates : Verdict → Slot → Made
    creates v s =
        elim v [
          | Ok _ ↦ record { answer = answer.Done; value = c.free; slot = new_slot; free = behind c.free s.link }
          | Err a ↦ made_of c a 0 s
        ]

    created :
        (v : Verdict) → smallest (create_signs c) ≡ v →
        (let i = c.free in lent (reply_of i (creates v (slot_at st i)) st) l r g ≡ put (within i) (moved_by c (creates v (slot_at st (within i)))))
    unfolding slot_count
    created (Ok _) e =
        ap (λ (i : ℕ). put i (moved_by c (creates (Ok tt) (slot_at st i)))) (sym (within_here c.free (create_room c e)))
    created (Err a) e =
        ap (λ (x : Reply). lent x l r g) (reply_back c.free a 0 st) ∙ sym (unslot (within c.free) a)

    module _ (i : ℕ) (h : Handle) where
      abbrev touches : Bool → Slot → Moved
      touches past s = elim past [ true ↦ moved_as answer.NoSlot 0 c s | false ↦ moved_by c (handle_on c i s h l r) ]

      touched_by : (f : Bool) → leb slot_total i ≡ f → lent (handle_reply i h l r st) l r g ≡ put (within i) (touches f (slot_at st (within i)))
      unfolding slot_count
      touched_by true y =
          ap (λ (x : Reply). lent x l r g) (reply_past i h l r st (leb-true slot_total i y)) ∙ sym (unslot (within i) answer.NoSlot)
      touched_by false y =
          let b = leb-false slot_total i y in
          ap (λ (x : Reply). lent x l r g) (reply_in i h l r st b)
          ∙ ap (λ (j : ℕ). put j (touches false (slot_at st j))) (sym (within_here i b))

    append_made : (os : List Op) → lift 0 st (append_on os c first (snap_at st 0) l r g) ≡ put_slot 0 st (append_on os c first 0 l r g)
    unfolding append_by
    append_made os =
        append_kept os (smallest (writer_signs 7 (not (lawful_batch os)) (crowds (length os) c) c first)) c.first

    pub turn_made :
        (os : List Op) (k : Act) → is_going k ≡ false →
        (let i = named k c.free in
        call_on (meant os k) st l r g ≡ put_slot (within i) st (turn_on (meant os k) i c (slot_at st (within i)) l r g))
    unfolding call_on turn_on open_on create_on
    turn_made os act.Create p = created (smallest (create_signs c)) refl
    turn_made os (act.On i h) p = touched_by i h (leb slot_total i) refl
    turn_made os (act.Append kind key amount) p = append_made (op kind key amount ∷ [])
    turn_made os (act.Batch n) p = append_made os
    turn_made os (act.Open o) p = open_kept o (smallest (writer_signs (column_of o) false false c first))
    turn_made os act.Step p = absurd (true≢false p)
    turn_made os act.Run p = absurd (true≢false p)
