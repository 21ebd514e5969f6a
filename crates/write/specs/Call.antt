-- Every call on the machine.
use Rattle.std.specs.Prelude.{ℕ, List, [], ◌∷◌}
use Rattle.table.specs.Order.{Op, op}
use Rattle.read.specs.declared.Handle.{Handle}
use Rattle.write.specs.declared.Opening.{Opening}

pub data Call : Type 0 where
  Create : Call
  -- on the handle in a slot
  On : ℕ → Handle → Call
  -- operations, all of them or none: an append has one, a batch any number
  Append : List Op → Call
  Open : Opening → Call
  Step : Call
  Run : Call

-- an append
abbrev pub append_one : ℕ → ℕ → ℕ → Call
append_one kind key amount = Append (op kind key amount ∷ [])

-- operations in words, three each; where the last has fewer, no kind is read, which is a bad operation
abbrev pub ops_in : List ℕ → List Op
ops_in [] = []
ops_in (kind ∷ []) = op 0 0 0 ∷ []
ops_in (kind ∷ key ∷ []) = op 0 0 0 ∷ []
ops_in (kind ∷ key ∷ amount ∷ ws) = op kind key amount ∷ ops_in ws
