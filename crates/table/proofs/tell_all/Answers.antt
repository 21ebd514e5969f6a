-- Before a turn at i the words of the first i keys are told, and those of the keys from i on are left.
use mathlib.Core.Path.{◌∙◌}
use native.Mathlib.Omega.{arith}
use Rattle.table.specs.Many.{filled}
use Rattle.table.proofs.Many.{told_length, told_next, told_end}
use Rattle.table.proofs.tell_all.Goals as goal

pub loop-i-preserved : goal.loop-i-preserved
loop-i-preserved c =
    let a = c.args in
    let i = c.loop-i in
    let w = filled a.v.words.now in
    rw c.tell.ensures (
      told_length i.i a.keys.now w i.out (omega arith) (omega arith) ∙ i.invariant.0,
      told_next i.i a.keys.now w i.out (omega arith) (omega arith) i.invariant.1,
    )

pub returns : goal.returns
returns c =
    let a = c.args in
    let i = c.loop-i in
    told_end i.i a.keys.now (filled a.v.words.now) i.out (omega arith) (omega arith) i.invariant.1
