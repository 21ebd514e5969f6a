-- Words that are copied over others: what the loop that copies them one by one has made of these after some turns.
use Prim.Native.Nat.{ℕ}
use mathlib.Core.List.{List, ◌++◌}
use lib.ListN.{take, drop}

-- ---- a list whose first j words are another's

-- after j turns of a loop that copies s over p from the front
abbrev pub over : ℕ → List ℕ → List ℕ → List ℕ
over j s p = take j s ++ drop j p
