-- The search passes each pair that fails.
use Prim.Native.Nat.{◌+◌}
use mathlib.Core.Path.{◌≡◌, sym, ap, ◌∙◌}
use native.Mathlib.Omega.{arith}
use Rattle.table.specs.Copy.{entries, key_at, passes, first_from}
use Rattle.table.proofs.Seek.{seek_next}
use Rattle.table.proofs.Pairs.failing.Goals as goal

pub loop-k-preserved : goal.loop-k-preserved
loop-k-preserved c =
    let a = c.args in
    let w = a.self.words.now in
    let k = c.loop-k.k in
    let e : a.i + k + 1 ≡ a.i + (k + 1) = omega arith in
    c.loop-k.invariant
    ∙ seek_next (λ j. passes a.exact a.key (key_at w j)) (a.i + k) (entries w) (omega arith) (sym c.passes.ensures ∙ c.if-passes.false)
    ∙ ap (first_from a.exact a.key w) e
