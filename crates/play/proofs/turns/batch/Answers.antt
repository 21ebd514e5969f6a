-- Of more than there is room for, so many as are refused alike.
use mathlib.Core.Path.{◌∙◌}
use Rattle.table.specs.declared.Search.TheVariants.{Halve}
use Rattle.write.proofs.Rising.{append_rising}
use Rattle.play.proofs.Gathered.{batch_taken}
use Rattle.play.proofs.turns.batch.Goals as goal

pub returns : goal.returns
returns c =
    let a = c.args in
    let t = c.requires in
    c.extend_by.ensures
    ∙ append_rising Halve a.c a.s 0 a.left.now a.right.now a.log.now t.1 t.2 _
    ∙ batch_taken a.c a.s 0 a.left.now a.right.now a.log.now a.schedule.now a.at a.n c.min-k.ensures c.gather.ensures
