-- Each public contract as a promise of any program, a program being a function of the arguments (`Contracts`).
use Prim.Native.Nat.{ℕ}
use mathlib.Core.List.{List}
use Rattle.std.specs.Prelude.{Result}
use Rattle.promises.proofs.Contracts.{typed, Bytes, ref, mut_ref, κ₁, Leaves, Keeps, Keeps1}
use Rattle.format.specs.declared.Fields.{Fields}
use Rattle.format.specs.declared.Fault.{Fault}
use Rattle.format.specs.declared.Flaw.{Flaw}
use Rattle.format.specs.Schedule.{count, fields_at, members_in, fault_number, flaw_of}
use Rattle.format.specs.Transcript.{put_rule}
use Rattle.format.proofs

abbrev pub CountPromise : (List ℕ → ℕ) → Type 0
CountPromise f =
    (s : Bytes) → Keeps (typed κ₁ proofs.count.Kinds.ps) (proofs.count.Reads.Post κ₁) (ref s.list, tt) (f s.list)

abbrev pub FieldsPromise : (List ℕ → ℕ → Fields) → Type 0
FieldsPromise f =
    (s : Bytes) (at : ℕ) →
    Keeps (typed κ₁ proofs.fields_at.Kinds.ps) (proofs.fields_at.Reads.Post κ₁) (ref s.list, (at, tt)) (f s.list at)

abbrev pub MembersPromise : (Fields → ℕ) → Type 0
MembersPromise f =
    (fields : Fields) →
    Keeps (typed κ₁ proofs.Fields.members.Kinds.ps) (proofs.Fields.members.Reads.Post κ₁) (record { ref_ptr = (0, 0); now = fields }, tt) (f fields)

abbrev pub FaultNumberPromise : (Fault → ℕ) → Type 0
FaultNumberPromise = Keeps1 (typed tt proofs.U64FromFault.from.Kinds.ps) (proofs.U64FromFault.from.Reads.Post tt)

abbrev pub FaultPromise : (Flaw → Fault) → Type 0
FaultPromise = Keeps1 (typed tt proofs.FaultFromFlaw.from.Kinds.ps) (proofs.FaultFromFlaw.from.Reads.Post tt)

abbrev pub CheckPromise : (List ℕ → Result ℕ Flaw) → Type 0
CheckPromise f =
    (s : Bytes) → Keeps (typed κ₁ proofs.check.Kinds.ps) (proofs.check.Reads.Post κ₁) (ref s.list, tt) (f s.list)

abbrev pub PutPromise : (ℕ → ℕ → ℕ → List ℕ → List ℕ) → Type 0
PutPromise f =
    (a v at : ℕ) (out : Bytes) →
    Leaves (typed κ₁ proofs.put.Kinds.ps) (proofs.put.Reads.Post κ₁) (mut_ref out.list, (at, (a, (v, tt)))) tt
    (mut_ref (f a v at out.list), (at, (a, (v, tt))))

-- the rules keep them: no promise is false of every program
pub kept :
    CountPromise count × FieldsPromise fields_at × MembersPromise members_in × FaultNumberPromise fault_number × FaultPromise (λ f. f.fault) ×
    CheckPromise flaw_of × PutPromise put_rule
kept = search
