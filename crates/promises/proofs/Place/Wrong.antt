-- Wrong releases, and for each a proof that the contract's promise (`Promises`) is false of it, whichever of the three functions it stands
-- for: one record, of its type, where what the release does wrong is read off.
use Prim.Native.Nat.{ℕ}
use mathlib.Core.Path.{◌≡◌, refl}
use mathlib.Core.Bool.{true, false}
use lib.ListN.{get_or}
use Rattle.table.specs.Answers.{number}
use Rattle.table.proofs.Computes.{apart}
use Rattle.table.specs.declared.Answer.TheVariants.{Done, NoGuard}
use Rattle.read.specs.declared.Slot.{Slot}
use Rattle.std.specs.Prelude.{None}
use Rattle.read.specs.Machine.{with_use, is_open, with_reading, shut}
use Rattle.read.specs.Handles.{released}
use Rattle.read.proofs.Computes.{rules}
use Rattle.place.specs.declared.Released.{Released}
use Rattle.place.specs.Release.{release_rule}
use Rattle.promises.proofs.Witnesses.{inside}
use Rattle.promises.proofs.Place.Promises.{Function, by_value, release, leave, has, Promise}

-- each of the three says that the answer and the record are the rule's
says : (k : Function) (f : ℕ → Slot → Released) → Promise k f → (j : ℕ) (s : Slot) → has (s, (j, tt)) ≡ true → f j s ≡ release_rule j s
says by_value f h j s = h j s
says release f h j s = h j s
says leave f h j s = h j s

-- the last guard leaves the epoch
abbrev leaves_epoch : ℕ → Slot → Released
leaves_epoch guard s =
    let r = release_rule guard s in
    record { answer = r.answer; slot = with_reading s.epoch r.slot.guards s.due s }

leaves_epoch_wrong : (k : Function) → Promise k leaves_epoch → ⊥
unfolding release_rule rules
leaves_epoch_wrong k h = apart (λ r. r.slot.epoch) refl (says k leaves_epoch h 0 inside refl)

-- the guard stays open
abbrev leaves_guard : ℕ → Slot → Released
leaves_guard guard s =
    let r = release_rule guard s in
    record { answer = r.answer; slot = with_reading r.slot.epoch s.guards s.due s }

leaves_guard_wrong : (k : Function) → Promise k leaves_guard → ⊥
unfolding release_rule rules
leaves_guard_wrong k h =
    apart (λ r. elim (get_or r.slot.guards 0 shut).opened [ true ↦ 1 | false ↦ 0 ]) refl (says k leaves_guard h 0 inside refl)

-- a guard that is not open is released too
abbrev releases_shut : ℕ → Slot → Released
releases_shut guard s = record { answer = Done; slot = released guard s }

releases_shut_wrong : (k : Function) → Promise k releases_shut → ⊥
unfolding release_rule rules
releases_shut_wrong k h = apart (λ r. number r.answer) refl (says k releases_shut h 1 inside refl)

-- every release is refused
abbrev refuses_all : ℕ → Slot → Released
refuses_all guard s = record { answer = NoGuard; slot = s }

refuses_all_wrong : (k : Function) → Promise k refuses_all → ⊥
unfolding release_rule rules
refuses_all_wrong k h = apart (λ r. number r.answer) refl (says k refuses_all h 0 inside refl)

-- a free record is served
abbrev serves_free : ℕ → Slot → Released
serves_free guard s = release_rule guard (with_use true s.link s)

serves_free_wrong : (k : Function) → Promise k serves_free → ⊥
unfolding release_rule rules
serves_free_wrong k h = apart (λ r. number r.answer) refl (says k serves_free h 0 (with_use false None inside) refl)

-- a free record with a closed guard is answered 9, and not the smaller number
abbrev guard_first : ℕ → Slot → Released
guard_first guard s = elim (is_open s.guards guard) [ true ↦ release_rule guard s | false ↦ record { answer = NoGuard; slot = s } ]

guard_first_wrong : (k : Function) → Promise k guard_first → ⊥
unfolding release_rule rules
guard_first_wrong k h = apart (λ r. number r.answer) refl (says k guard_first h 1 (with_use false None inside) refl)
