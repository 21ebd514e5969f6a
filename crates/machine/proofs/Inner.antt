-- The contracts of the functions that are called from within the crate alone, and have promises of their own.
use Rattle.table.proofs.Contract.{Contract}
use Rattle.machine.proofs

abbrev pub sized : Contract 3
sized = record { takes = proofs.judge.sized.Kinds.ps; gives = proofs.judge.sized.Kinds.r; post = proofs.judge.sized.Reads.Post }

abbrev pub judge : Contract 3
judge = record { takes = proofs.judge.judge.Kinds.ps; gives = proofs.judge.judge.Kinds.r; post = proofs.judge.judge.Reads.Post }

abbrev pub on_handle : Contract 2
on_handle = record { takes = proofs.reads.on_handle.Kinds.ps; gives = proofs.reads.on_handle.Kinds.r; post = proofs.reads.on_handle.Reads.Post }
