-- A walk is what the rule of any words says.
use mathlib.Core.Path.{sym}
use Rattle.table.specs.Copy.{look_by, look_rule}
use Rattle.read.specs.Machine.{slot_count}
use Rattle.read.proofs.Cases.{reply_in}
use Rattle.machine.proofs.reads.handle_reply.Goals as goal

pub returns : goal.returns
unfolding slot_count look_by look_rule
returns c =
    let a = c.args in
    rw (c.reply_of.ensures, c.handle_by-m.ensures, c.slot_at-s.ensures) (sym (reply_in a.slot a.h a.left.now a.right.now a.st c.if-slot-ge-SLOTS.false))
