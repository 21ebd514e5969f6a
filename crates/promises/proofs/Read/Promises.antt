-- Each public contract as a promise of any program, a program being a function of the arguments (`Contracts`).
use Prim.Native.Nat.{ℕ}
use mathlib.Core.Path.{◌≡◌}
use mathlib.Core.Bool.{Bool, ◌||◌}
use mathlib.Core.List.{List, ◌∷◌}
use Rattle.promises.proofs.Contracts.{typed, Words, ref, Refs, lends, mut_refs, mut_lends, κ₁, κ₂, κ₃, Leaves, Keeps, Keeps1, Keeps2}
use Rattle.table.specs.declared.Answer.{Answer}
use Rattle.table.specs.declared.Search.{Search}
use Rattle.table.specs.declared.Search.TheVariants.{Walk}
use Rattle.table.specs.Copy.{look_by, look_rule}
use Rattle.read.specs.declared.Due.{Due}
use Rattle.read.specs.declared.Guard.{Guard}
use Rattle.read.specs.declared.Sign.{Sign}
use Rattle.read.specs.declared.Slot.{Slot}
use Rattle.read.specs.declared.Phase.{Phase}
use Rattle.read.specs.declared.Control.{Control}
use Rattle.read.specs.declared.State.{State}
use Rattle.read.specs.declared.Handle.{Handle}
use Rattle.read.specs.Machine.{Verdict, same, is_open, first_guard, any_open, all_open, is_due, is_load, no_slot, new_slot, locks, sized, orderly, judged, row, fresh}
use Rattle.read.specs.declared.Made.{Made}
use Rattle.read.specs.declared.Reply.{Reply}
use Rattle.read.specs.declared.Handle.TheVariants.{Drop, Enter, GoOn, Release, LookUp, WasDropped}
use Rattle.read.specs.Admission.{entry}
use Rattle.read.specs.Handles.{sign, given, smallest, handle_signs, freed, entered, went_on, released, guarded_copy, handle_by, handle_on, create_on}
use Rattle.read.specs.Calls.{Lent, slot_at, handle_rule, create_rule, view_rule, pair_rule, start_rule}
use Rattle.read.proofs
use Rattle.machine.proofs as whole
use Rattle.machine.proofs.Inner as within
use Rattle.read.proofs.Inner as inner

-- ---- the state

abbrev pub FreshPromise : State → Type 0
FreshPromise = Keeps (typed tt proofs.fresh_state.Kinds.ps) (proofs.fresh_state.Reads.Post tt) tt

abbrev pub SlotAtPromise : (State → ℕ → Slot) → Type 0
SlotAtPromise = Keeps2 (typed tt proofs.slot_at.Kinds.ps) (proofs.slot_at.Reads.Post tt)

-- ---- admission

abbrev pub RowPromise : (Phase → ℕ) → Type 0
RowPromise = Keeps1 (typed tt proofs.admission.row.Kinds.ps) (proofs.admission.row.Reads.Post tt)

abbrev pub EntryPromise : (Phase → ℕ → ℕ) → Type 0
EntryPromise = Keeps2 (typed tt proofs.admission.entry.Kinds.ps) (proofs.admission.entry.Reads.Post tt)

-- ---- guards and slots

abbrev pub FirstGuardPromise : (Bool → List Guard → ℕ) → Type 0
FirstGuardPromise = Keeps2 (typed tt (inner.first_guard).takes) ((inner.first_guard).post tt)

abbrev pub IsOpenPromise : (List Guard → ℕ → Bool) → Type 0
IsOpenPromise = Keeps2 (typed tt proofs.guards.is_open.Kinds.ps) (proofs.guards.is_open.Reads.Post tt)

abbrev pub AnyOpenPromise : (List Guard → Bool) → Type 0
AnyOpenPromise = Keeps1 (typed tt proofs.guards.any_open.Kinds.ps) (proofs.guards.any_open.Reads.Post tt)

abbrev pub AllOpenPromise : (List Guard → Bool) → Type 0
AllOpenPromise = Keeps1 (typed tt (inner.all_open).takes) ((inner.all_open).post tt)

abbrev pub IsDuePromise : (Due → Bool) → Type 0
IsDuePromise = Keeps1 (typed tt proofs.guards.is_due.Kinds.ps) (proofs.guards.is_due.Reads.Post tt)

abbrev pub IsLoadPromise : (Due → Bool) → Type 0
IsLoadPromise = Keeps1 (typed tt (inner.is_load).takes) ((inner.is_load).post tt)

abbrev pub NoSlotPromise : Slot → Type 0
NoSlotPromise = Keeps (typed tt (inner.no_slot).takes) ((inner.no_slot).post tt) tt

abbrev pub NewSlotPromise : Slot → Type 0
NewSlotPromise = Keeps (typed tt (inner.new_slot).takes) ((inner.new_slot).post tt) tt

abbrev pub FreedPromise : (ℕ → Slot → Slot) → Type 0
FreedPromise = Keeps2 (typed tt proofs.guards.freed.Kinds.ps) (proofs.guards.freed.Reads.Post tt)

abbrev pub EnteredPromise : (Control → Slot → Made) → Type 0
EnteredPromise = Keeps2 (typed tt (inner.entered).takes) ((inner.entered).post tt)

abbrev pub WentOnPromise : (Control → Slot → Made) → Type 0
WentOnPromise = Keeps2 (typed tt (inner.went_on).takes) ((inner.went_on).post tt)

abbrev pub ReleasedPromise : (ℕ → Slot → Slot) → Type 0
ReleasedPromise = Keeps2 (typed tt proofs.guards.released.Kinds.ps) (proofs.guards.released.Reads.Post tt)

-- ---- a call on a handle, on its slot

abbrev pub SignPromise : (Answer → Bool → Sign) → Type 0
SignPromise = Keeps2 (typed tt proofs.handles.sign.Kinds.ps) (proofs.handles.sign.Reads.Post tt)

abbrev pub SmallestPromise : (List Sign → Verdict) → Type 0
SmallestPromise f =
    (xs : List Sign) → Keeps (typed κ₁ proofs.handles.smallest.Kinds.ps) (proofs.handles.smallest.Reads.Post κ₁) (ref xs, tt) (f xs)

-- a sign before others
abbrev pub GivenPromise : (Bool → Answer → Verdict → Verdict) → Type 0
GivenPromise f =
    (b : Bool) (a : Answer) (xs : List Sign) →
    Keeps (typed κ₁ proofs.handles.smallest.Kinds.ps) (proofs.handles.smallest.Reads.Post κ₁) (ref (sign a b ∷ xs), tt) (f b a (smallest xs))

abbrev pub VerdictPromise : (Control → Bool → Slot → Handle → Verdict) → Type 0
VerdictPromise f =
    (c : Control) (own : Bool) (s : Slot) (h : Handle) →
    Keeps (typed tt proofs.handles.verdict.Kinds.ps) (proofs.handles.verdict.Reads.Post tt) (c, (own, (s, (h, tt)))) (f c own s h)

abbrev pub GuardedCopyPromise : (List Guard → ℕ → List ℕ → List ℕ → List ℕ) → Type 0
GuardedCopyPromise f =
    (gs : List Guard) (j : ℕ) (l r : Words) →
    Keeps (typed κ₁ proofs.handles.guarded_copy.Kinds.ps) (proofs.handles.guarded_copy.Reads.Post κ₁)
    (gs, (j, (ref l.list, (ref r.list, tt)))) (ref (f gs j l.list r.list))

-- in any words: the first pair that has the key
abbrev pub HandlePromise : (Control → ℕ → Slot → Handle → List ℕ → List ℕ → Made) → Type 0
HandlePromise f =
    (c : Control) (i : ℕ) (s : Slot) (h : Handle) (l r : Words) →
    Keeps (typed κ₁ proofs.handles.handle_by.Kinds.ps) (proofs.handles.handle_by.Reads.Post κ₁)
    (Walk, (c, (i, (s, (h, (ref l.list, (ref r.list, tt))))))) (f c i s h l.list r.list)

abbrev pub HandleByPromise : (Search → Control → ℕ → Slot → Handle → List ℕ → List ℕ → Made) → Type 0
HandleByPromise f =
    (how : Search) (c : Control) (i : ℕ) (s : Slot) (h : Handle) (l r : Words) →
    Keeps (typed κ₁ proofs.handles.handle_by.Kinds.ps) (proofs.handles.handle_by.Reads.Post κ₁)
    (how, (c, (i, (s, (h, (ref l.list, (ref r.list, tt))))))) (f how c i s h l.list r.list)

-- ---- create, on the slot that is first

abbrev pub CreateOnPromise : (Control → Slot → Made) → Type 0
CreateOnPromise = Keeps2 (typed tt proofs.handles.create.Kinds.ps) (proofs.handles.create.Reads.Post tt)

-- ---- the order in which free slots are handed out

abbrev pub OrderlyPromise : (State → Bool) → Type 0
OrderlyPromise = Keeps1 (typed tt proofs.order.orderly.Kinds.ps) (proofs.order.orderly.Reads.Post tt)

-- ---- the judgement

-- what is true of one of two truth values, and of both or neither
abbrev pub EitherPromise : (Bool → Bool → Bool) → Type 0
EitherPromise = Keeps2 (typed tt proofs.truth.either.Kinds.ps) (proofs.truth.either.Reads.Post tt)

abbrev pub SamePromise : (Bool → Bool → Bool) → Type 0
SamePromise = Keeps2 (typed tt proofs.truth.same.Kinds.ps) (proofs.truth.same.Reads.Post tt)

abbrev pub LocksPromise : (Phase → Bool) → Type 0
LocksPromise = Keeps1 (typed tt proofs.admission.locks.Kinds.ps) (proofs.admission.locks.Reads.Post tt)

abbrev pub SizedPromise : (List ℕ → List ℕ → List ℕ → Bool) → Type 0
SizedPromise f =
    (l r g : Words) →
    Keeps (typed κ₃ (within.sized).takes) ((within.sized).post κ₃) (lends l r g) (f l.list r.list g.list)

abbrev pub JudgePromise : (State → List ℕ → List ℕ → List ℕ → Verdict) → Type 0
JudgePromise f =
    (st : State) (l r g : Words) →
    Keeps (typed κ₃ (within.judge).takes) ((within.judge).post κ₃) (st, lends l r g) (f st l.list r.list g.list)

-- ---- calls on the machine

abbrev pub StartPromise : (List ℕ → List ℕ → List ℕ → Lent Reply) → Type 0
StartPromise f =
    (l r g : Words) →
    let o = f l.list r.list g.list in
    Leaves (typed κ₃ whole.start.Kinds.ps) (whole.start.Reads.Post κ₃) (mut_lends l r g) o.made (mut_refs o.left o.right o.log)

abbrev pub CreatePromise : (List ℕ → List ℕ → List ℕ → State → Reply) → Type 0
CreatePromise f =
    (l r g : Words) (st : State) →
    Keeps (typed κ₃ whole.create.Kinds.ps) (whole.create.Reads.Post κ₃) (st, lends l r g) (f l.list r.list g.list st)

-- a call on a slot's handle
abbrev OnSlot :
    (State × (ℕ × Refs) → Bool) → (State × (ℕ × Refs) → Reply → State × (ℕ × Refs) → Type 0) →
    (ℕ → List ℕ → List ℕ → List ℕ → State → Reply) → Type 0
OnSlot has post f =
    (i : ℕ) (l r g : Words) (st : State) → Keeps has post (st, (i, lends l r g)) (f i l.list r.list g.list st)

abbrev pub DropPromise : (ℕ → List ℕ → List ℕ → List ℕ → State → Reply) → Type 0
DropPromise = OnSlot (typed κ₂ whole.drop.Kinds.ps) (whole.drop.Reads.Post κ₂)

abbrev pub EnterPromise : (ℕ → List ℕ → List ℕ → List ℕ → State → Reply) → Type 0
EnterPromise = OnSlot (typed κ₂ whole.enter.Kinds.ps) (whole.enter.Reads.Post κ₂)

abbrev pub GoOnPromise : (ℕ → List ℕ → List ℕ → List ℕ → State → Reply) → Type 0
GoOnPromise = OnSlot (typed κ₂ whole.go_on.Kinds.ps) (whole.go_on.Reads.Post κ₂)

abbrev pub WasDroppedPromise : (ℕ → List ℕ → List ℕ → List ℕ → State → Reply) → Type 0
WasDroppedPromise = OnSlot (typed κ₂ whole.was_dropped.Kinds.ps) (whole.was_dropped.Reads.Post κ₂)

abbrev pub OnHandlePromise : (ℕ → Handle → List ℕ → List ℕ → List ℕ → State → Reply) → Type 0
OnHandlePromise f =
    (i : ℕ) (h : Handle) (l r g : Words) (st : State) →
    Keeps (typed κ₂ (within.on_handle).takes) ((within.on_handle).post κ₂) (st, (i, (h, lends l r g)))
    (f i h l.list r.list g.list st)

abbrev pub ReleasePromise : (ℕ → ℕ → List ℕ → List ℕ → List ℕ → State → Reply) → Type 0
ReleasePromise f =
    (i j : ℕ) (l r g : Words) (st : State) →
    Keeps (typed κ₂ whole.release.Kinds.ps) (whole.release.Reads.Post κ₂) (st, (i, (j, lends l r g)))
    (f i j l.list r.list g.list st)

abbrev pub LookUpPromise : (ℕ → ℕ → ℕ → List ℕ → List ℕ → List ℕ → State → Reply) → Type 0
LookUpPromise f =
    (i j key : ℕ) (l r g : Words) (st : State) →
    Keeps (typed κ₂ whole.look_up.Kinds.ps) (whole.look_up.Reads.Post κ₂) (st, (i, (j, (key, lends l r g))))
    (f i j key l.list r.list g.list st)

abbrev pub ViewPromise : (ℕ → ℕ → List ℕ → List ℕ → List ℕ → State → List ℕ) → Type 0
ViewPromise f =
    (i j : ℕ) (l r g : Words) (st : State) →
    Keeps (typed κ₂ whole.view.Kinds.ps) (whole.view.Reads.Post κ₂) (st, (i, (j, lends l r g)))
    (ref (f i j l.list r.list g.list st))

abbrev pub PairPromise : (ℕ → ℕ → ℕ → List ℕ → List ℕ → List ℕ → State → List ℕ) → Type 0
PairPromise f =
    (i j key : ℕ) (l r g : Words) (st : State) →
    Keeps (typed κ₂ whole.pair.Kinds.ps) (whole.pair.Reads.Post κ₂) (st, (i, (j, (key, lends l r g))))
    (ref (f i j key l.list r.list g.list st))

-- ---- the rules keep them: no promise is false of every program

pub kept :
    FreshPromise fresh × SlotAtPromise slot_at × RowPromise row × EntryPromise entry × FirstGuardPromise first_guard × IsOpenPromise is_open
    × AnyOpenPromise any_open × AllOpenPromise all_open × IsDuePromise is_due × IsLoadPromise is_load × NoSlotPromise no_slot
    × NewSlotPromise new_slot × FreedPromise freed × EnteredPromise entered × WentOnPromise (λ c s. went_on c s.due s)
    × ReleasedPromise released × SignPromise sign × SmallestPromise smallest × GivenPromise given × VerdictPromise (λ c own s h. smallest (handle_signs c own s h)) × GuardedCopyPromise guarded_copy × HandlePromise handle_on × HandleByPromise (λ how. handle_by (look_by how))
    × CreateOnPromise create_on × OrderlyPromise orderly
    × EitherPromise ◌||◌ × LocksPromise locks × SamePromise same
    × SizedPromise sized × JudgePromise judged × StartPromise start_rule × CreatePromise create_rule
    × DropPromise (λ i. handle_rule i Drop) × EnterPromise (λ i. handle_rule i Enter) × GoOnPromise (λ i. handle_rule i GoOn)
    × WasDroppedPromise (λ i. handle_rule i WasDropped) × OnHandlePromise handle_rule
    × ReleasePromise (λ i j. handle_rule i (Release j)) × LookUpPromise (λ i j key. handle_rule i (LookUp j key))
    × ViewPromise view_rule × PairPromise pair_rule
unfolding smallest look_by look_rule
kept = search
