-- The contracts of the functions that are called from within the crate alone, and have promises of their own.
use Rattle.table.proofs.Contract.{Contract}
use Rattle.read.proofs

abbrev pub first_guard : Contract 0
first_guard = record { takes = proofs.guards.first_guard.Kinds.ps; gives = proofs.guards.first_guard.Kinds.r; post = proofs.guards.first_guard.Reads.Post }

abbrev pub all_open : Contract 0
all_open = record { takes = proofs.guards.all_open.Kinds.ps; gives = proofs.guards.all_open.Kinds.r; post = proofs.guards.all_open.Reads.Post }

abbrev pub is_load : Contract 0
is_load = record { takes = proofs.guards.is_load.Kinds.ps; gives = proofs.guards.is_load.Kinds.r; post = proofs.guards.is_load.Reads.Post }

abbrev pub no_slot : Contract 0
no_slot = record { takes = proofs.guards.no_slot.Kinds.ps; gives = proofs.guards.no_slot.Kinds.r; post = proofs.guards.no_slot.Reads.Post }

abbrev pub new_slot : Contract 0
new_slot = record { takes = proofs.guards.new_slot.Kinds.ps; gives = proofs.guards.new_slot.Kinds.r; post = proofs.guards.new_slot.Reads.Post }

abbrev pub entered : Contract 0
entered = record { takes = proofs.guards.entered.Kinds.ps; gives = proofs.guards.entered.Kinds.r; post = proofs.guards.entered.Reads.Post }

abbrev pub went_on : Contract 0
went_on = record { takes = proofs.guards.went_on.Kinds.ps; gives = proofs.guards.went_on.Kinds.r; post = proofs.guards.went_on.Reads.Post }
