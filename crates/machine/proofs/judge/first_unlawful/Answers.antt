-- Before a turn at i what is sought is what the rule still seeks from i on.
use Prim.Native.Nat.{ℕ}
use mathlib.Core.Path.{◌≡◌, sym, ap, ◌∙◌}
use mathlib.Core.Bool.{Bool, not}
use mathlib.Core.List.{List}
use Rattle.std.proofs.Common.{◌<◌, ◌/◌, [], length, length-take-le}
use borrow.Author.Rules.{rules}
use native.Mathlib.Omega.{arith}
use Rattle.table.specs.Seek.{seek}
use Rattle.table.proofs.Seek.{seek_here, seek_next, seek_end}
use Rattle.read.specs.Machine.{lawful_at}
use Rattle.machine.proofs.Logged.{lawful_here}
use Rattle.machine.proofs.judge.first_unlawful.Goals as goal

abbrev test : List ℕ → ℕ → Bool
test g i = not (lawful_at g i)

pub loop-i-init : goal.loop-i-init
loop-i-init c = ap (seek (test c.args.log.now) 0) (search rules)

pub returns-then-not-lawful : goal.returns-then-not-lawful
returns-then-not-lawful c =
    let g = c.args.log.now in
    let i = c.loop-i.i in
    let n = c.args.n in
    let b : i < n = omega (arith, c.loop-i-test.true, length-take-le n c.as_chunks.result.0.now (omega arith)) in
    let e = lawful_here n (length g / 3) i g [] c.as_chunks.ensures.front b (omega arith) in
    sym (c.loop-i.invariant ∙ seek_here (test g) i n b (ap not (sym e ∙ sym c.lawful.ensures ∙ c.if-not-lawful.true)))

pub loop-i-preserved : goal.loop-i-preserved
loop-i-preserved c =
    let g = c.args.log.now in
    let i = c.loop-i.i in
    let n = c.args.n in
    let b : i < n = omega (arith, c.loop-i-test.true, length-take-le n c.as_chunks.result.0.now (omega arith)) in
    let e = lawful_here n (length g / 3) i g [] c.as_chunks.ensures.front b (omega arith) in
    c.loop-i.invariant ∙ seek_next (test g) i n b (ap not (sym e ∙ sym c.lawful.ensures ∙ c.if-not-lawful.false))

pub returns : goal.returns
returns c =
    let g = c.args.log.now in
    let i = c.loop-i.i in
    let n = c.args.n in
    let e : n ≡ i = omega (arith, c.loop-i-test.false, c.loop-i.auto.i-end, length-take-le n c.as_chunks.result.0.now (omega arith)) in
    e ∙ sym (c.loop-i.invariant ∙ seek_end (test g) i n (omega (arith, e)))
