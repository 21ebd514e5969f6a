-- The answer is stored, and the value's bytes behind it: the entry.
use mathlib.Core.Path.{sym, ◌∙◌}
use native.Mathlib.Omega.{arith}
use Rattle.format.proofs.Bytes.{put_none, put_written, bytes_written}
use Rattle.format.proofs.put.Goals as goal

pub returns-then-out-saturating_add : goal.returns-then-out-saturating_add
returns-then-out-saturating_add c =
    let a = c.args in
    sym (put_none a.answer a.value a.at a.out.now (omega arith))

pub returns : goal.returns
returns c =
    let a = c.args in
    put_written a.answer a.value a.at a.out.now (omega arith)
    (omega arith) (c.copy_from_slice.ensures.after ∙ c.to_le_bytes.ensures ∙ bytes_written a.value)
