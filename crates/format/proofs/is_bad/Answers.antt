-- Each test that speaks against a record is the rule's.
use Prim.Native.Nat.{ℕ}
use mathlib.Core.Path.{◌≡◌, sym, ap, ◌∙◌}
use mathlib.Core.Bool.{not}
use mathlib.Core.Logic.{inl, inr}
use native.Mathlib.Omega.{arith}
use borrow.Author.Tests.{lt-ltb}
use lib.Dec.{eqb}
use Rattle.format.specs.Schedule.{start_of, members_at, first_other}
use Rattle.format.proofs.Records.{all_appends_first, members_read, bad_low, bad_high, bad_few, bad_rest}
use Rattle.format.proofs.is_bad.Goals as goal

pub returns-then-call-lt1 : goal.returns-then-call-lt1
returns-then-call-lt1 c =
    let a = c.args in
    sym (elim c.then-call-lt1.either [ inl low ↦ bad_low a.s.now a.i low | inr high ↦ bad_high a.s.now a.i high.0 high.1 ])

pub returns-then-n-i : goal.returns-then-n-i
returns-then-n-i c =
    let a = c.args in
    let m = members_read a.s.now (start_of a.i) c.members-m.ensures c.fields_at.ensures in
    lt-ltb _ _ c.if-n-i.true
    ∙ sym (bad_few a.s.now a.i c.if-call-lt1.false c.if-call-gt-BATCH.false (omega (arith, c.if-n-i.true, m, c.requires)))

pub returns-else-n-i : goal.returns-else-n-i
returns-else-n-i c =
    let a = c.args in
    let s = a.s.now in
    let m : c.members-m.result ≡ members_at s (start_of a.i) = members_read s (start_of a.i) c.members-m.ensures c.fields_at.ensures in
    ap not (c.all_appends.ensures ∙ all_appends_first s a.i c.members-m.result ∙ ap (λ (m : ℕ). eqb (first_other s a.i m) m) m)
    ∙ sym (bad_rest s a.i c.if-call-lt1.false c.if-call-gt-BATCH.false (omega (arith, c.if-n-i.false, m, c.requires)))
