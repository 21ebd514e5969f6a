-- The machine values of a slot record and of an answer, what is known of whoever holds one, and a record in a local's memory.
use mathlib.Core.Path.{subst}
use mathlib.Core.List.{[], ◌∷◌, List}
use Prim.Native.Nat.{ℕ}
use seplogic.Ra.Ura.{Ura}
use base.Fraction.{full_share}
use lib.Dec.{T as Holds}
use mir.Val.{Val, WT, has_ty}
use base.Logic.{ent, guard}
use base.Fml.{fsep, fat}
use types.Logic.{Logic, sem}
use types.Kit.{‵, ◌$◌, ◌∵◌, !, qed, move, use1, drop, fsplit, fjoin, fpick, fpack, check, done}
use denote.Laws.{Is, Makes, shows}
use denote.Memory.{mem, cell_at, part_of}
use denote.Steps.{owned, peeks}
use denote.Struct.Steps.{spelt}
use denote.Struct.Laws as LL
use denote.Enum.Laws as EL
use Rattle.table.specs.declared.Answer.{Answer}
use Rattle.read.specs.declared.Slot.{Slot}
use Rattle.place.specs.declared.Released.{Released}
use Rattle.table.specs.contracts.Answer as Ans
use Rattle.table.proofs.Answer.TheLaws as Ans'
use Rattle.read.specs.contracts.Slot as S
use Rattle.read.proofs.Slot.TheLaws as S'
use Rattle.place.specs.contracts.Released as R
use Rattle.place.proofs.Released.TheLaws as R'

abbrev pub slot_val : Slot → Val
slot_val = LL.val S.the_type S'.the_laws

abbrev pub answer_val : Answer → Val
answer_val = EL.val Ans.the_type Ans'.the_laws

abbrev pub released_val : Released → Val
released_val = LL.val R.the_type R'.the_laws

abbrev pub SlotIs : Slot → Type 0
SlotIs h = Is S.the_row h (slot_val h ∷ [])

abbrev pub AnswerIs : Answer → Type 0
AnswerIs a = Is Ans.the_row a (answer_val a ∷ [])

abbrev pub ReleasedIs : Released → Type 0
ReleasedIs r = Is R.the_row r (released_val r ∷ [])

pub answer_is : (a : Answer) (v : Val) → Is Ans.the_row a (v ∷ []) → AnswerIs a
answer_is a v is = subst (Is Ans.the_row a) (EL.tells Ans.the_type Ans'.the_laws a _ is) is

-- what a release gives has two parts
pub released_is : (a : Answer) (h : Slot) → AnswerIs a → SlotIs h → ReleasedIs (record { answer = a; slot = h })
released_is a h is was = LL.owes R.the_type R'.the_laws (record { answer = a; slot = h }) (is, (was, tt))

pub answer_of : (r : Released) (w : Val) → Is R.the_row r (w ∷ []) → AnswerIs r.answer
answer_of r w is = (LL.owed R.the_type R'.the_laws r _ is).0

pub slot_of : (r : Released) (w : Val) → Is R.the_row r (w ∷ []) → SlotIs r.slot
slot_of r w is = (LL.owed R.the_type R'.the_laws r _ is).1.0

module _ {M : Type 1} {𝓤 : Ura M} (𝓛 : Logic 𝓤) where
  open 𝓛 use {H}

  pub slot_makes : Makes 𝓛 S.the_row (Is S.the_row)
  slot_makes = LL.makes S.the_type S'.the_plain 𝓛

  pub answer_makes : Makes 𝓛 Ans.the_row (Is Ans.the_row)
  answer_makes = EL.makes Ans.the_type Ans'.the_plain 𝓛

  pub released_makes : Makes 𝓛 R.the_row (Is R.the_row)
  released_makes = LL.makes R.the_type R'.the_plain 𝓛

  module _ where
    pub slot_typed : (h : Slot) → SlotIs h → Holds (has_ty S'.mir (slot_val h)) × WT (slot_val h)
    slot_typed h is = ((LL.lawful S.the_type S'.the_laws 𝓛).typed h _ is).0

    pub answer_typed : (a : Answer) → AnswerIs a → Holds (has_ty Ans'.mir (answer_val a)) × WT (answer_val a)
    answer_typed a is = ((EL.lawful Ans.the_type Ans'.the_laws 𝓛 tt).typed a _ is).0

    pub released_typed : (r : Released) → ReleasedIs r → Holds (has_ty R'.mir (released_val r)) × WT (released_val r)
    released_typed r is = ((LL.lawful R.the_type R'.the_laws 𝓛).typed r _ is).0

    -- a local that holds a record is memory where the record lies, and the other way
    pub slot_in : (h : Slot) (l : ℕ) → SlotIs h → ent 𝓤 (H.at full_share S'.mir l 0 (slot_val h)) (sem 𝓛 ((mem S.the_row).own_at h l 0))
    unfolding part_of
    slot_in h l is =
        qed 𝓛 (‵ (fat full_share S'.mir l 0 (slot_val h)) ∷ []) ∵ use1 𝓛 (‵ (cell_at full_share (S.the_row).mir (slot_val h ∷ []) l 0)) (𝓛.laws.at_raw full_share S'.mir l 0 (slot_val h)) $
        owned ! S.the_row (Is S.the_row) slot_makes h _ is $ move ! (1 ∷ 0 ∷ []) $ fjoin ! $ fpack ! (List Val) (λ vs. fsep (cell_at full_share (S.the_row).mir vs l 0) ((S.the_row).own_val h vs)) (slot_val h ∷ []) $ done !

    pub slot_out : (h : Slot) (l : ℕ) → ent 𝓤 (sem 𝓛 ((mem S.the_row).own_at h l 0)) (guard 𝓤 (SlotIs h) (H.at full_share S'.mir l 0 (slot_val h)))
    unfolding part_of
    slot_out h l =
        qed 𝓛 (‵ ((mem S.the_row).own_at h l 0) ∷ []) ∵ fpick ! (λ vs. fsplit ! $ spelt ! S.the_row (Is S.the_row) (shows 𝓛 S.the_row) (LL.vals S.the_type S'.the_laws) (LL.tells S.the_type S'.the_laws) full_share h vs l 0 $
        move ! (1 ∷ []) $ peeks ! S.the_row (Is S.the_row) (shows 𝓛 S.the_row) h (slot_val h ∷ []) (λ is. drop ! $ check ! is $ use1 𝓛 (‵ (fat full_share S'.mir l 0 (slot_val h))) (𝓛.laws.raw_at full_share S'.mir l 0 (slot_val h)) $ done !))
