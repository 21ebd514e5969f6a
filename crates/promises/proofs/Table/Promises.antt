-- Each public contract as a promise of any program, a program being a function of the arguments (`Contracts`).
use Prim.Native.Nat.{ℕ}
use mathlib.Core.Bool.{Bool}
use mathlib.Core.List.{List}
use Rattle.table.specs.declared.Answer.{Answer}
use Rattle.table.specs.Answers.{number, outcome}
use Rattle.table.specs.declared.Search.{Search}
use Rattle.table.specs.Copy.{zeros, lawful, fitness, Out, apply_by, apply_rule, look_by, look_rule, used_rule, close_rule}
use Rattle.table.specs.Many.{look_all_rule}
use Rattle.promises.proofs.Contracts.{typed, Words, ref, MutRef, mut_ref, κ₁, κ₃, Leaves, Keeps, Keeps1}
use Rattle.table.proofs

-- ---- of numbers

abbrev pub NumberPromise : (Answer → ℕ) → Type 0
NumberPromise = Keeps1 (typed tt proofs.U8FromAnswer.from.Kinds.ps) (proofs.U8FromAnswer.from.Reads.Post tt)

abbrev pub LawfulPromise : (ℕ → ℕ → ℕ → Bool) → Type 0
LawfulPromise f =
    (kind key amount : ℕ) →
    Keeps (typed tt proofs.lawful.Kinds.ps) (proofs.lawful.Reads.Post tt) (kind, (key, (amount, tt))) (f kind key amount)

-- ---- of a copy that is read

abbrev pub FitPromise : (List ℕ → Answer) → Type 0
FitPromise f = (w : Words) → Keeps (typed κ₁ proofs.fit.Kinds.ps) (proofs.fit.Reads.Post κ₁) (ref w.list, tt) (outcome (f w.list))

abbrev pub LookPromise : (ℕ → List ℕ → List ℕ) → Type 0
LookPromise f =
    (key : ℕ) (w : Words) →
    Keeps (typed κ₁ proofs.look_up.Kinds.ps) (proofs.look_up.Reads.Post κ₁) (ref w.list, (key, tt)) (ref (f key w.list))

abbrev pub LookByPromise : (Search → ℕ → List ℕ → List ℕ) → Type 0
LookByPromise f =
    (how : Search) (key : ℕ) (w : Words) →
    Keeps (typed κ₁ proofs.look_up_by.Kinds.ps) (proofs.look_up_by.Reads.Post κ₁) (how, (ref w.list, (key, tt)))
    (ref (f how key w.list))

-- many keys in a view, into an output
abbrev pub LookAllPromise : (List ℕ → List ℕ → List ℕ → Out) → Type 0
LookAllPromise f =
    (v keys out : Words) →
    let o = f v.list keys.list out.list in
    Leaves (typed κ₃ proofs.look_up_all.Kinds.ps) (proofs.look_up_all.Reads.Post κ₃)
    (ref v.list, (ref keys.list, (mut_ref out.list, tt))) o.answer
    (ref v.list, (ref keys.list, (mut_ref o.copy, tt)))

abbrev pub UsedPromise : (List ℕ → List ℕ) → Type 0
UsedPromise f =
    (w : Words) → Keeps (typed κ₁ proofs.used.Kinds.ps) (proofs.used.Reads.Post κ₁) (ref w.list, tt) (ref (f w.list))

-- ---- of words that are changed

abbrev pub ZeroPromise : (List ℕ → List ℕ) → Type 0
ZeroPromise f =
    (w : Words) →
    Leaves (typed κ₁ proofs.zero.Kinds.ps) (proofs.zero.Reads.Post κ₁) (mut_ref w.list, tt) tt (mut_ref (f w.list), tt)

abbrev pub ClosePromise : (ℕ → ℕ → List ℕ → List ℕ) → Type 0
ClosePromise f =
    (g m : ℕ) (p : Words) →
    Leaves (typed κ₁ proofs.close_gap.Kinds.ps) (proofs.close_gap.Reads.Post κ₁) (mut_ref p.list, (g, (m, tt))) tt
    (mut_ref (f g m p.list), (g, (m, tt)))

-- an operation with these numbers beside the copy
abbrev Changes : {B : Type 0} → (MutRef × B → Bool) → (MutRef × B → Answer → MutRef × B → Type 0) → B → (List ℕ → Out) → Type 0
Changes has post b f =
    (w : Words) → let o = f w.list in Leaves has post (mut_ref w.list, b) o.answer (mut_ref o.copy, b)

abbrev pub ApplyPromise : (ℕ → ℕ → ℕ → List ℕ → Out) → Type 0
ApplyPromise f =
    (kind key amount : ℕ) →
    Changes (typed κ₁ proofs.apply.Kinds.ps) (proofs.apply.Reads.Post κ₁) (kind, (key, (amount, tt))) (f kind key amount)

abbrev pub ApplyByPromise : (Search → ℕ → ℕ → ℕ → List ℕ → Out) → Type 0
ApplyByPromise f =
    (how : Search) (kind key amount : ℕ) (w : Words) →
    let o = f how kind key amount w.list in
    Leaves (typed κ₁ proofs.apply_by.Kinds.ps) (proofs.apply_by.Reads.Post κ₁)
    (how, (mut_ref w.list, (kind, (key, (amount, tt))))) o.answer
    (how, (mut_ref o.copy, (kind, (key, (amount, tt)))))

abbrev pub AddPromise : (ℕ → ℕ → List ℕ → Out) → Type 0
AddPromise f =
    (key amount : ℕ) → Changes (typed κ₁ proofs.add.Kinds.ps) (proofs.add.Reads.Post κ₁) (key, (amount, tt)) (f key amount)

abbrev pub DropPromise : (ℕ → List ℕ → Out) → Type 0
DropPromise f = (key : ℕ) → Changes (typed κ₁ proofs.drop.Kinds.ps) (proofs.drop.Reads.Post κ₁) (key, tt) (f key)

abbrev pub ClearPromise : (List ℕ → Out) → Type 0
ClearPromise = Changes (typed κ₁ proofs.clear.Kinds.ps) (proofs.clear.Reads.Post κ₁) tt

-- ---- the rules keep them: no promise is false of every program

pub kept :
    NumberPromise number × LawfulPromise lawful × FitPromise fitness × LookByPromise look_by × LookPromise look_rule
    × LookAllPromise look_all_rule × UsedPromise used_rule
    × ZeroPromise zeros × ClosePromise close_rule × ApplyByPromise apply_by × ApplyPromise apply_rule × AddPromise (apply_rule 1)
    × DropPromise (λ key. apply_rule 2 key 0) × ClearPromise (apply_rule 3 0 0)
kept = search
