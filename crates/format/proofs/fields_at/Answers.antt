-- The fields of a record that is whole are those of the file.
use Prim.Native.Nat.{ℕ}
use mathlib.Core.Path.{◌≡◌, ap, ◌∙◌}
use mathlib.Core.List.{List}
use native.Mathlib.Omega.{arith}
use lib.ListN.{length, take, drop}
use Rattle.std.proofs.lemmas.Slice.{between_to_end}
use Rattle.format.specs.Schedule.{fields_at, record_bytes}
use Rattle.format.proofs.Cut.{fields_cut}
use Rattle.format.proofs.fields_at.Goals as goal

pub returns : goal.returns
returns c =
    let a = c.args in
    let s = a.s.now in
    let rest : c.in-Some.rest.now ≡ drop a.at s = c.in-Some.ensures.lookup.0.2 ∙ between_to_end s a.at (length s) (omega arith) in
    c.fields_of.ensures ∙ ap (λ (w : List ℕ). fields_at w 0) (c.in-Some-first_chunk.ensures.cases.same ∙ ap (take record_bytes) rest)
    ∙ fields_cut s a.at
