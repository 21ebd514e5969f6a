-- The contract of the function that no other crate calls.
use Rattle.table.proofs.Contract.{Contract}
use Rattle.place.proofs

abbrev pub by_value : Contract 0
by_value = record { takes = proofs.by_value.Kinds.ps; gives = proofs.by_value.Kinds.r; post = proofs.by_value.Reads.Post }
