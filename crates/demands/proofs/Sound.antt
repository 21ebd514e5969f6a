-- Worlds on which no call is refused by the judgement.
use Prim.Native.Nat.{ℕ}
use mathlib.Core.Path.{◌≡◌, sym, subst, ◌∙◌}
use lib.ListN.{length, length-set}
use Rattle.table.specs.Order.{Tidy}
use Rattle.read.specs.declared.Slot.{Slot}
use Rattle.read.specs.declared.Reply.{Reply}
use Rattle.read.specs.Machine.{slot_count}
use Rattle.read.specs.Calls.{Lent, with_slot}
use Rattle.write.specs.Call.{Call}
use Rattle.write.specs.Machine.{call_on, call_rule}
use Rattle.write.specs.World.{World, reply, next}
use Rattle.write.proofs.Judged.{Good}
use Rattle.write.proofs.NeverBroken.{Sound, call_made, sound_call}

abbrev pub SoundIn : World → Type 0
SoundIn w = Sound w.state w.left w.right w.log

pub below : (k : Call) (w : World) → SoundIn w → reply call_rule k w ≡ reply call_on k w
below k w h = call_made k w.state w.left w.right w.log h

-- so what holds below the judgement holds
pub of_rule : (P : Lent Reply → Type 0) (k : Call) (w : World) → SoundIn w → P (reply call_on k w) → P (reply call_rule k w)
of_rule P k w h x = subst P (sym (below k w h)) x

pub sound_next : (k : Call) (w : World) → SoundIn w → SoundIn (next call_rule k w)
sound_next k w h = sound_call k w.state w.left w.right w.log h

-- a world as far as its words and the numbers of its slots go, whatever the order of the free ones
pub record Firm (w : World) : Type 0 where
  pub good : Good Tidy w.state.control w.left w.right w.log
  pub slots : length w.state.slots ≡ slot_count
  pub snapshots : length w.state.snapshots ≡ slot_count

pub firm : {w : World} → SoundIn w → Firm w
firm h = record { good = h.good; slots = h.slots; snapshots = h.snapshots }

-- another slot
pub firm_slot : {w : World} (i : ℕ) (s : Slot) → Firm w → Firm (record { state = with_slot i s w.state; left = w.left; right = w.right; log = w.log })
firm_slot {w} i s h = record { good = h.good; slots = length-set w.state.slots i s ∙ h.slots; snapshots = h.snapshots }
