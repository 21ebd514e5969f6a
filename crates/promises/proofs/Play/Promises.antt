-- The public contract as a promise of any program, a program being a function of the arguments (`Contracts`).
use Rattle.promises.proofs.Contracts.{typed, Bytes, ref, mut_ref, κ₂, Leaves}
use Rattle.play.specs.Player.{play_rule}
use Rattle.play.specs.Refusals.{Player}
use Rattle.play.proofs

abbrev pub PlayPromise : Player → Type 0
PlayPromise play =
    (s out : Bytes) →
    let o = play s.list out.list in
    Leaves (typed κ₂ proofs.lrt_play.Kinds.ps) (proofs.lrt_play.Reads.Post κ₂) (ref s.list, (mut_ref out.list, tt)) o.result
    (ref s.list, (mut_ref o.bytes, tt))

-- the rule keeps it: the promise is not false of every program
pub kept : PlayPromise play_rule
kept = search
