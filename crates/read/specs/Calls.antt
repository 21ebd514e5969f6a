-- The reader's calls on the whole machine: judged on all of it, and changing one slot and which is handed out next.
use Rattle.std.specs.Prelude.{ℕ, true, false, List, [], ◌==◌, nat_lt, slice_index_or, slice_set, Ok, Err}
use Rattle.table.specs.Copy.{zeros, used_rule, look_rule}
use Rattle.table.specs.declared.Answer.{Answer}
use Rattle.table.specs.declared.Answer.TheVariants as answer
use Rattle.read.specs.declared.Slot.{Slot}
use Rattle.read.specs.declared.State.{State}
use Rattle.read.specs.declared.Handle.{Handle}
use Rattle.read.specs.declared.Handle.TheVariants.{LookUp}
use Rattle.read.specs.declared.Made.{Made}
use Rattle.read.specs.declared.Reply.{Reply}
use Rattle.read.specs.Machine.{slot_count, no_slot, with_free, sized, judged, fresh}
use Rattle.read.specs.Handles.{smallest, handle_signs, handle_on, create_on, guarded_copy}

abbrev pub slot_at : State → ℕ → Slot
slot_at st i = slice_index_or st.slots i no_slot

abbrev pub with_slot : ℕ → Slot → State → State
with_slot i s st = record { control = st.control; slots = slice_set st.slots i s; snapshots = st.snapshots }

abbrev pub refusal : Answer → State → Reply
refusal a st = record { answer = a; value = 0; state = st }

-- what was made at slot i, put back
abbrev pub reply_of : ℕ → Made → State → Reply
reply_of i m st =
    record {
      answer = m.answer;
      value = m.value;
      state =
          record { control = with_free m.free st.control; slots = slice_set st.slots i m.slot; snapshots = st.snapshots };
    }

-- what a call hands back, with the three lent slices
pub record Lent (A : Type 0) : Type 0 where
  pub made : A
  pub left : List ℕ
  pub right : List ℕ
  pub log : List ℕ

abbrev pub lent : {A : Type 0} → A → List ℕ → List ℕ → List ℕ → Lent A
lent a l r g = record { made = a; left = l; right = r; log = g }

-- ---- a call on a handle

abbrev pub handle_reply : ℕ → Handle → List ℕ → List ℕ → State → Reply
handle_reply i h l r st =
    elim (nat_lt i slot_count)
    [ true ↦ reply_of i (handle_on st.control i (slot_at st i) h l r) st | false ↦ refusal answer.NoSlot st ]

unfoldable pub handle_rule : ℕ → Handle → List ℕ → List ℕ → List ℕ → State → Reply
handle_rule i h l r g st =
    elim (judged st l r g) [ Ok _ ↦ handle_reply i h l r st | Err a ↦ refusal a st ]

-- ---- create

abbrev pub create_reply : State → Reply
create_reply st = let i = st.control.free in reply_of i (create_on st.control (slot_at st i)) st

unfoldable pub create_rule : List ℕ → List ℕ → List ℕ → State → Reply
create_rule l r g st = elim (judged st l r g) [ Ok _ ↦ create_reply st | Err a ↦ refusal a st ]

-- ---- a guard's view

-- the copy that a guard stands on, or no words where the call is refused
abbrev pub through_guard : ℕ → ℕ → List ℕ → List ℕ → State → List ℕ
through_guard i j l r st =
    let v = smallest (handle_signs st.control (i == 0) (slot_at st i) (LookUp j 0)) in
    elim (nat_lt i slot_count)
    [ true ↦ elim v [ Ok _ ↦ guarded_copy (slot_at st i).guards j l r | Err a ↦ [] ] | false ↦ [] ]

unfoldable pub through_rule : ℕ → ℕ → List ℕ → List ℕ → List ℕ → State → List ℕ
through_rule i j l r g st =
    elim (judged st l r g) [ Ok _ ↦ through_guard i j l r st | Err a ↦ [] ]

-- its used part
abbrev pub view_rule : ℕ → ℕ → List ℕ → List ℕ → List ℕ → State → List ℕ
view_rule i j l r g st = used_rule (through_rule i j l r g st)

-- the two words of a key's pair
abbrev pub pair_rule : ℕ → ℕ → ℕ → List ℕ → List ℕ → List ℕ → State → List ℕ
pair_rule i j key l r g st = look_rule key (through_rule i j l r g st)

-- ---- start

unfoldable pub start_rule : List ℕ → List ℕ → List ℕ → Lent Reply
start_rule l r g =
    elim (sized l r g) [
      | true ↦ lent (record { answer = answer.Done; value = 0; state = fresh }) (zeros l) (zeros r) (zeros g)
      | false ↦ lent (refusal answer.Length fresh) l r g
    ]
