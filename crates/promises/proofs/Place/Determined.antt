-- Each public contract determines what comes back and the record that is left: any two results that it allows are equal.
-- `Post` is the contract itself, as the check reads it from the source. What the contract of `release` says of the record behind its
-- reference is written out here, and `release_says` shows that it is that contract.
use mathlib.Core.Path.{◌≡◌, refl, sym, ap, ◌∙◌}
use Prim.Native.Nat.{ℕ}
use seplogic.Ra.Ura.{Ura}
use base.Logic.{SProp}
use prog.Memory.{Memory}
use prog.Routine.{Routine}
use types.Logic.{Logic}
use contract.Lifetimes.{Lfts}
use contract.Monad.{Fun, fact}
use denote.Triple.Entry.{Args}
use Rattle.table.specs.declared.Answer.{Answer}
use Rattle.read.specs.declared.Slot.{Slot}
use Rattle.place.specs.declared.Released.{Released}
use Rattle.place.specs.Release.{release_rule}
use Rattle.place.proofs.Inner as inner
use Rattle.place.proofs.leave.Reads as leave
use Rattle.place.specs.contracts.release as release
use Rattle.promises.proofs.Contracts.{Determines}

by_value_determined : Determines (inner.by_value).post
by_value_determined κs a r q s t h l = h ∙ sym l

leave_determined : Determines leave.Post
leave_determined κs a r q s t h l = h ∙ sym l

abbrev pub Says : ℕ → Slot → Answer → Slot → Type 0
Says j before a after = record { answer = a; slot = after } ≡ release_rule j before

release_says :
    {M : Type 1} {𝓤 : Ura M} (𝓛 : Logic 𝓤) (mem : Memory → SProp 𝓤) (run : Routine → Fun 𝓤) (κs : Lfts 1) (x : Args release.signature κs) (a : Answer) (e : _) →
    (release.clauses 𝓛 mem run κs x).ensures tt a e ≡ fact 𝓤 (Says x.1.0 x.0.now a e.0.now)
release_says 𝓛 mem run κs x a e = refl

release_determined : (j : ℕ) (before : Slot) (a b : Answer) (s t : Slot) → Says j before a s → Says j before b t → (a ≡ b) × (s ≡ t)
release_determined j before a b s t h l =
    let same : ◌≡◌ {A = Released} (record { answer = a; slot = s }) (record { answer = b; slot = t }) = h ∙ sym l in
    (ap (λ (r : Released). r.answer) same, ap (λ (r : Released). r.slot) same)
