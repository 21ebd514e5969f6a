-- What is left to search from i on gives the whole's place: each turn is one halving, and fuel beyond the pairs left does not matter.
use mathlib.Core.Path.{sym, ◌∙◌}
use borrow.Author.Rules.{rules}
use borrow.Author.Tests.{le-leb, lt-leb}
use Rattle.table.proofs.Halving.{halve_done, turn_left, turn_right}
use Rattle.table.proofs.Pairs.halved.Invariants.{test}
use Rattle.table.proofs.Pairs.halved.Goals as goal

pub loop-n-preserved-then-key : goal.loop-n-preserved-then-key
loop-n-preserved-then-key c =
    let a = c.args in
    let n = c.loop-n in (
      search rules,
      n.invariant.1 ∙ turn_left (test a.key a.self.words.now) n.i n.n (search rules) (le-leb _ _ (rw c.key.ensures at c.if-key.true)),
    )

pub loop-n-preserved : goal.loop-n-preserved
loop-n-preserved c =
    let a = c.args in
    let n = c.loop-n in (
      search rules,
      n.invariant.1 ∙ turn_right (test a.key a.self.words.now) n.i n.n (search rules) (lt-leb _ _ (rw c.key.ensures at c.if-key.false)),
    )

pub returns : goal.returns
returns c =
    let a = c.args in
    let n = c.loop-n in
    (sym (n.invariant.1 ∙ halve_done (test a.key a.self.words.now) n.n n.i n.n (search rules)), search rules)
