-- Before a turn the words before 3 i are the operations of i records.
use native.Mathlib.Omega.{arith}
use lib.ListN.{length-set}
use Rattle.play.proofs.Gathered.{gathered}
use Rattle.play.proofs.schedule.gather.Goals as goal

pub loop-i-preserved : goal.loop-i-preserved
loop-i-preserved c =
    let a = c.args in
    let v = c.loop-i in
    (omega arith, v.invariant.1, v.invariant.2, v.invariant.3, simp length-set v.invariant.4, gathered a.s.now a.at v.i v.ops c.fields_at-f.ensures (omega (arith, v.invariant.3, v.invariant.4)) v.invariant.5)
