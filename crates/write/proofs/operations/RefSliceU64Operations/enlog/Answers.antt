-- All are whole, and the log has room for them.
use Rattle.std.proofs.Common.{rules, arith}
use Rattle.write.proofs.Ops.{made_many, logged_ends}
use Rattle.write.proofs.operations.RefSliceU64Operations.enlog.Goals as goal

pub enlog_one-requires : goal.enlog_one-requires
enlog_one-requires c = omega (arith, c.requires.room, made_many c.args.self.now c.requires.lawful c.as_chunks.ensures.front)

pub returns : goal.returns
returns c = search (rules, logged_ends)
