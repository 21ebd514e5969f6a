-- What the fields mean, with the operations of as many records behind it as belong to it.
use Prim.Native.Nat.{◌+◌}
use mathlib.Core.Path.{◌≡◌, ap, ◌∙◌}
use Rattle.format.specs.Schedule.{record_bytes, members_in, members_at}
use Rattle.play.specs.Schedule.{call_of, ops_from, decoded}
use Rattle.play.specs.Turns.{members_of}
use Rattle.play.proofs.schedule.decode.Goals as goal

pub returns : goal.returns
unfolding decoded members_at
returns c =
    let a = c.args in
    let f = c.fields_at.ensures in
    let s = a.s.now in
    let n : members_of c.from.result ≡ members_at s a.at = c.from.ensures.0 ∙ ap members_in f in
    (n, c.from.ensures.1 _ ∙ (λ j. call_of (ops_from s (a.at + record_bytes) (n j)) (f j)))
