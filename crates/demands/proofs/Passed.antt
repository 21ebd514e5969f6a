-- What is known of a call that nothing speaks against, by name.
use Prim.Native.Nat.{ℕ}
use mathlib.Core.Path.{◌≡◌}
use mathlib.Core.Bool.{Bool, false, not, ◌||◌}
use lib.Dec.{eqb}
use Rattle.read.specs.declared.Control.{Control}
use Rattle.read.specs.declared.Slot.{Slot}
use Rattle.read.specs.declared.Handle.{Handle}
use Rattle.std.specs.Prelude.{Ok}
use Rattle.read.specs.Machine.{any_open, is_due}
use Rattle.read.specs.Admission.{handle_number, guard_named, column, entry}
use Rattle.read.specs.Handles.{smallest, mistimed, leaves_guards, lacks_guard, lacks_room, handle_signs}
use Rattle.read.proofs.Verdicts.{silent}
use Rattle.write.specs.Begins.{writer_signs}

-- a call on a handle
pub record OnPassed (c : Control) (own : Bool) (s : Slot) (h : Handle) : Type 0 where
  pub slot : not s.used ≡ false
  pub timely : (eqb (entry c.phase (column h own)) 6 || mistimed (handle_number h) s.due) ≡ false
  pub guards : leaves_guards (handle_number h) s.guards ≡ false
  pub guard : lacks_guard (handle_number h) (guard_named h) s.guards ≡ false
  pub fewer : lacks_room (handle_number h) c.null s ≡ false

pub on_passed : (c : Control) (own : Bool) (s : Slot) (h : Handle) → smallest (handle_signs c own s h) ≡ Ok tt → OnPassed c own s h
on_passed c own s h v =
    let signs = handle_signs c own s h in
    record { slot = silent 4 signs v; timely = silent 6 signs v; guards = silent 8 signs v; guard = silent 9 signs v; fewer = silent 10 signs v }

-- append and the beginnings
pub record WritePassed (column : ℕ) (unlawful full : Bool) (c : Control) (s : Slot) : Type 0 where
  pub operation : unlawful ≡ false
  pub timely : (eqb (entry c.phase column) 6 || is_due s.due) ≡ false
  pub guards : any_open s.guards ≡ false
  pub log : full ≡ false

pub write_passed : (column : ℕ) (unlawful full : Bool) (c : Control) (s : Slot) → smallest (writer_signs column unlawful full c s) ≡ Ok tt →
    WritePassed column unlawful full c s
write_passed column unlawful full c s v =
    let signs = writer_signs column unlawful full c s in
    record { operation = silent 5 signs v; timely = silent 6 signs v; guards = silent 8 signs v; log = silent 11 signs v }
