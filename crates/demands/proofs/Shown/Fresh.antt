-- Demand 2 of the rules: its two invariants hold of a fresh machine, every call keeps them, and they say what the demand asks.
use Prim.Native.Nat.{ℕ, zero, suc, ◌-◌}
use mathlib.Core.Path.{refl}
use Rattle.table.proofs.Booleans.{clash}
use Rattle.table.proofs.Parity.{odd_zero}
use Rattle.table.proofs.Lists.{get_d_same}
use Rattle.read.specs.Machine.{slot_count, log_words, no_slot, fresh}
use Rattle.read.specs.Calls.{slot_at}
use Rattle.write.specs.World.{fresh_world}
use Rattle.demands.specs.Account.{fresh_account}
use Rattle.demands.proofs.Shown.Invariant.{seen_of, outside, ViewOf, early, Inv}
use Rattle.demands.proofs.Shown.Guards.{none_open}
use Rattle.demands.proofs.Shown.Slot.{no_guards, new_view}

-- ---- every history

pub fresh_inv : Inv fresh_world (seen_of fresh_account)
fresh_inv = record {
  each = view;
  own = λ u. clash u refl;
  read = refl;
  at_begin = λ u. clash u refl;
  stage = early refl (refl, record { unsynced = refl; unlogged = refl; holds = refl });
  unused = λ x b. get_d_same log_words x 0;
  spent = λ z. clash z refl;
}
  where
    view : (i : ℕ) → ViewOf fresh_world i (fresh_account.readers i).loaded (slot_at fresh i)
    view zero = new_view
    view (suc i) = rw (get_d_same (slot_count - 1) i no_slot) (no_guards refl (outside odd_zero refl none_open) none_open)
