-- A release on one slot record: refused with nothing changed, or made.
use Rattle.std.specs.Prelude.{ℕ, not, List, [], ◌∷◌, Ok, Err}
use Rattle.table.specs.declared.Answer.TheVariants.{Done, NoSlot, NoGuard}
use Rattle.read.specs.declared.Slot.{Slot}
use Rattle.read.specs.Machine.{is_open}
use Rattle.read.specs.declared.Sign.{Sign}
use Rattle.read.specs.Handles.{sign, smallest, released}
use Rattle.place.specs.declared.Released.{Released}

-- a free record has no handle; a guard that is not open is none
abbrev pub release_signs : ℕ → Slot → List Sign
release_signs guard s = sign NoSlot (not s.used) ∷ sign NoGuard (not (is_open s.guards guard)) ∷ []

-- the answer and the record
unfoldable pub release_rule : ℕ → Slot → Released
release_rule guard s =
    elim (smallest (release_signs guard s))
    [ Ok _ ↦ record { answer = Done; slot = released guard s } | Err a ↦ record { answer = a; slot = s } ]
