-- Each of the three ways out is a case of the rule; the part that was lent on comes back opened.
use Prim.Native.Nat.{ℕ}
use mathlib.Core.Path.{sym, ap, ◌∙◌}
use Rattle.table.specs.Copy.{inserted}
use Rattle.table.proofs.Cases.{added_there, added_full, added_room}
use Rattle.table.proofs.Parts.{inserted_part}
use Rattle.table.proofs.add_in.Goals as goal

pub returns-in-Ok : goal.returns-in-Ok
returns-in-Ok c = rw c.grown.ensures (sym (added_there c.args.amount c.in-Ok.ensures))

pub returns-in-Err : goal.returns-in-Err
returns-in-Err c = rw c.grown-in-Err.ensures (sym (added_full c.args.amount c.in-Err.ensures (rw c.count-n.ensures at c.if-n-ge-PAIRS.true)))

pub returns-in-Err-2 : goal.returns-in-Err-2
returns-in-Err-2 c =
    let a = c.args in
    rw (c.open_gap.ensures, c.count-n.ensures)
    (inserted_part c.place-j.result a.key a.amount a.w.now
    ∙ ap (λ (k : ℕ). inserted k a.key a.amount a.w.now) c.place-j.ensures.0
    ∙ sym (added_room a.amount c.in-Err-2.ensures (rw c.count-n.ensures at c.if-n-ge-PAIRS.false)))
