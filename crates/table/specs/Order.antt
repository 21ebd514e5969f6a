-- What holds of every copy that operations make from the empty one.
use Rattle.std.specs.Prelude.{ℕ, ◌+◌, ◌*◌, ◌≤◌, ◌<◌, ◌≡◌, List, [], ◌∷◌, get_or, replicate}
use Rattle.table.specs.Copy.{words, entries, key_at, applied, Fit}

abbrev pub empty : List ℕ
empty = replicate words 0

-- the used pairs have rising keys, so no key twice
abbrev pub Rising : List ℕ → Type 0
Rising w = (i j : ℕ) → i < j → j < entries w → key_at w i < key_at w j

-- the words behind the used part are zero
abbrev pub Clear : List ℕ → Type 0
Clear w = (x : ℕ) → 2 * entries w + 2 ≤ x → get_or w x 0 ≡ 0

-- every word is below b
unfoldable pub Below : ℕ → List ℕ → Type 0
Below b w = (x : ℕ) → get_or w x 0 < b

-- what an operation keeps
pub record Tidy (w : List ℕ) : Type 0 where
  pub fit : Fit w
  pub rising : Rising w
  pub clear : Clear w

-- ---- many operations, one after the other

pub record Op : Type 0 where
  pub kind : ℕ
  pub key : ℕ
  pub amount : ℕ

abbrev pub op : ℕ → ℕ → ℕ → Op
op kind key amount = record { kind = kind; key = key; amount = amount }

abbrev pub after : List Op → List ℕ → List ℕ
after [] w = w
after (o ∷ os) w = after os (applied o.kind o.key o.amount w)
