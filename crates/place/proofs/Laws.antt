-- The release of one record is the machine's release: where the phase admits the call, a call on the handle answers and leaves the same.
use mathlib.Core.Path.{◌≡◌, refl, ◌∙◌}
use mathlib.Core.Bool.{false, not, ◌||◌}
use mathlib.Core.List.{List, [], ◌∷◌}
use Prim.Native.Nat.{ℕ}
use lib.Dec.{eqb}
use Rattle.table.specs.declared.Answer.TheVariants.{Done, NoSlot, NotNow, Locked, GuardsOpen, NoGuard, FourGuards}
use Rattle.read.specs.declared.Control.{Control}
use Rattle.read.specs.declared.Handle.TheVariants.{Release}
use Rattle.read.specs.declared.Made.{Made}
use Rattle.read.specs.declared.Slot.{Slot}
use Rattle.read.specs.Machine.{Verdict, is_open}
use Rattle.std.specs.Prelude.{Ok, Err}
use Rattle.read.specs.Admission.{column, entry}
use Rattle.read.specs.Handles.{sign, smallest, made_of, released, handled, handle_on, handle_by, handled_by}
use Rattle.place.specs.declared.Released.{Released}
use Rattle.place.specs.Release.{release_signs, release_rule}

-- the same slot is handed out next
abbrev made : Control → Released → Made
made c r = made_of c r.answer 0 r.slot

-- the verdict on a release, by the entry of the table
abbrev verdict : ℕ → ℕ → Slot → Verdict
verdict e j s =
    smallest
    (sign NoSlot (not s.used)
    ∷ sign NotNow (eqb e 6 || false)
    ∷ sign Locked (eqb e 7)
    ∷ sign GuardsOpen false
    ∷ sign NoGuard (not (is_open s.guards j))
    ∷ sign FourGuards false
    ∷ [])

module _ (c : Control) (n j : ℕ) (s : Slot) (l r : List ℕ) (admitted : entry c.phase (column (Release j) (eqb n 0)) ≡ 0) where
  abbrev answered : Verdict → Made
  answered v = elim v [ Ok _ ↦ handled c n s (Release j) l r | Err a ↦ made_of c a 0 s ]

  abbrev ruled : Verdict → Released
  ruled v = elim v [ Ok _ ↦ record { answer = Done; slot = released j s } | Err a ↦ record { answer = a; slot = s } ]

  by_verdict : (v : Verdict) → answered v ≡ made c (ruled v)
  unfolding handled_by
  by_verdict (Ok _) = refl
  by_verdict (Err a) = refl

  pub release_as_handle : handle_on c n s (Release j) l r ≡ made c (release_rule j s)
  unfolding handle_by release_rule smallest
  release_as_handle = (λ i. answered (verdict (admitted i) j s)) ∙ by_verdict (smallest (release_signs j s))
