-- With zeros for what is missing.
use Prim.Native.Nat.{ℕ}
use mathlib.Core.Path.{ap, ◌∙◌}
use mathlib.Core.List.{List, ◌++◌}
use lib.ListN.{length, drop, replicate}
use Rattle.format.specs.Schedule.{fields_at, record_bytes}
use Rattle.format.proofs.Cut.{fields_padded}
use Rattle.format.proofs.fields_short.Goals as goal

pub returns : goal.returns
returns c =
    let a = c.args in
    let n = length c.rest_at-rest.result.now in
    c.fields_of.ensures
    ∙ ap (λ (w : List ℕ). fields_at (w ++ drop n (replicate record_bytes 0)) 0) (c.copy_from_slice.ensures.after ∙ c.rest_at-rest.ensures)
    ∙ fields_padded a.s.now a.at n
