-- What the call on the handle gives, where there is such a slot.
use mathlib.Core.Path.{sym, ap, ◌∙◌}
use borrow.Author.Tests.{lt-leb}
use Rattle.table.specs.declared.Search.TheVariants.{Halve}
use Rattle.read.specs.Machine.{slot_total}
use Rattle.read.proofs.Rising.{handle_rising}
use Rattle.play.specs.Turns.{moved_by, touched}
use Rattle.play.proofs.turns.touch.Goals as goal

pub returns : goal.returns
returns c =
    let a = c.args in
    let t = c.requires in
    c.moved_by.ensures
    ∙ ap (moved_by a.c) (c.handle_by.ensures ∙ handle_rising Halve a.c a.i a.s a.left.now a.right.now t.0.rising t.1.rising a.h)
    ∙ sym (rw (lt-leb slot_total a.i c.if-i-ge-SLOTS.false, touched))
