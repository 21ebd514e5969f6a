-- What an operation does, read off the words that ask for it.
use Rattle.std.specs.Prelude.{ℕ, List, true, false, eqb, Result, Ok, Err}
use Rattle.table.specs.declared.Answer.{Answer}
use Rattle.table.specs.declared.Answer.TheVariants as answer
use Rattle.table.specs.declared.Search.{Search}
use Rattle.table.specs.declared.Operation.{Operation}
use Rattle.table.specs.declared.Operation.TheVariants.{Add, Drop, Clear}
use Rattle.table.specs.Copy.{added_by, dropped_by, zeros, lawful}

-- by its kind: 1 is ADD, 2 is DROP, 3 is CLEAR
abbrev pub named : ℕ → ℕ → ℕ → Operation
named kind key amount = elim (eqb kind 1) [ true ↦ Add key amount | false ↦ elim (eqb kind 2) [ true ↦ Drop key | false ↦ Clear ] ]

-- where it has the key and the amount that its kind asks
unfoldable pub operation_of : ℕ → ℕ → ℕ → Result Operation Answer
operation_of kind key amount = elim (lawful kind key amount) [ true ↦ Ok (named kind key amount) | false ↦ Err answer.Operation ]

-- what it makes of a copy
abbrev pub made_by : Search → Operation → List ℕ → List ℕ
made_by how (Add key amount) w = added_by how key amount w
made_by how (Drop key) w = dropped_by how key w
made_by how Clear w = zeros w
