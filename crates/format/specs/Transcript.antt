-- The transcript: an entry of 9 bytes for each record, but for those that belong to a batch.
use Rattle.std.specs.Prelude.{ℕ, ◌+◌, true, false, List, [], ◌∷◌, ◌++◌, length, take, drop, leb}
use Rattle.format.specs.Schedule.{bytes_of}

-- how many bytes a record's entry has
abbrev pub entry_bytes : ℕ
entry_bytes = 9

-- the answer, and the value in eight bytes
abbrev pub entry_of : ℕ → ℕ → List ℕ
entry_of a v = a ∷ bytes_of 8 v

-- the entries of answers and values, which come in turn
unfoldable pub entries_of : List ℕ → List ℕ
entries_of [] = []
entries_of (a ∷ []) = []
entries_of (a ∷ v ∷ rest) = entry_of a v ++ entries_of rest

-- the entry at byte `at` of an output; where it does not fit the output is left alone
unfoldable pub put_rule : ℕ → ℕ → ℕ → List ℕ → List ℕ
put_rule a v at out =
    elim (leb (at + entry_bytes) (length out))
    [ true ↦ take at out ++ (entry_of a v ++ drop (at + entry_bytes) out) | false ↦ out ]
