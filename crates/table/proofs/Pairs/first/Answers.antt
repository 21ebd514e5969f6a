-- Before a turn at i what is sought is what the rule still seeks from i on.
use Prim.Native.Nat.{ℕ}
use mathlib.Core.Path.{◌≡◌, sym, ◌∙◌}
use mathlib.Core.Bool.{Bool}
use mathlib.Core.List.{List}
use native.Mathlib.Omega.{arith}
use Rattle.table.specs.Copy.{entries, key_at, passes}
use Rattle.table.proofs.Seek.{seek_here, seek_next, seek_end}
use Rattle.table.proofs.Pairs.first.Goals as goal

abbrev test : Bool → ℕ → List ℕ → ℕ → Bool
test exact key w i = passes exact key (key_at w i)

pub returns-then-passes : goal.returns-then-passes
returns-then-passes c =
    let a = c.args in
    let w = a.self.words.now in
    (sym (c.loop-i.invariant.1 ∙ seek_here (test a.exact a.key w) c.loop-i.i (entries w) (omega arith) (sym c.passes.ensures ∙ c.if-passes.true)), c.loop-i.invariant.0)

pub loop-i-preserved : goal.loop-i-preserved
loop-i-preserved c =
    let a = c.args in
    let w = a.self.words.now in
    (omega arith, c.loop-i.invariant.1 ∙ seek_next (test a.exact a.key w) c.loop-i.i (entries w) (omega arith) (sym c.passes.ensures ∙ c.if-passes.false))

pub returns : goal.returns
returns c =
    let a = c.args in
    let w = a.self.words.now in
    let e : c.count-n.result ≡ c.loop-i.i = omega arith in
    (e ∙ sym (c.loop-i.invariant.1 ∙ seek_end (test a.exact a.key w) c.loop-i.i (entries w) (omega arith)), omega arith)
