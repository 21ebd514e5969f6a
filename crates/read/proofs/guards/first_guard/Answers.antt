-- Each turn of the loop is one of the search.
use Rattle.std.proofs.Common.{◌≡◌, sym, ap, ◌∙◌, rules}
use Rattle.table.proofs.Seek.{seek_here, seek_next, seek_end}
use Rattle.read.specs.Machine.{same, is_open}
use Rattle.read.proofs.Cases.{open_in}
use Rattle.read.proofs.guards.first_guard.Goals as goal

pub returns-then-same : goal.returns-then-same
returns-then-same c =
    let a = c.args in
    let j = c.loop-j.j in sym (c.loop-j.invariant ∙ seek_here (λ j. same a.want (is_open a.g j)) j 4 (search rules) (ap (same a.want) (open_in a.g j (search rules)) ∙ sym c.same.ensures ∙ c.if-same.true))

pub loop-j-preserved : goal.loop-j-preserved
loop-j-preserved c =
    let a = c.args in
    let j = c.loop-j.j in c.loop-j.invariant ∙ seek_next (λ j. same a.want (is_open a.g j)) j 4 (search rules) (ap (same a.want) (open_in a.g j (search rules)) ∙ sym c.same.ensures ∙ c.if-same.false)

pub returns : goal.returns
returns c =
    let a = c.args in
    let e : c.loop-j.j ≡ 4 = search rules in
    sym (c.loop-j.invariant ∙ seek_end (λ j. same a.want (is_open a.g j)) c.loop-j.j 4 (search rules) ∙ e)
