-- Many keys looked up at once, in a view: the used part of a copy, as long as its entry count says.
use Rattle.std.specs.Prelude.{ℕ, ◌+◌, ◌-◌, ◌*◌, ◌≤◌, ◌≡◌, Bool, true, false, ◌&&◌, List, [], ◌∷◌, ◌++◌, length, get_or, replicate, eqb, leb}
use Rattle.table.specs.declared.Answer.TheVariants.{Done, Length, Broken}
use Rattle.table.specs.declared.Search.{Search}
use Rattle.table.specs.declared.Search.TheVariants.{Halve}
use Rattle.table.specs.Copy.{pairs, words, entries, look_rule, Holds, Out}
use Rattle.table.specs.Order.{Rising}

abbrev pub is_view : List ℕ → Bool
is_view v = eqb (length v) (2 * entries v + 2)

-- a copy with the pairs of a view
abbrev pub filled : List ℕ → List ℕ
filled v = v ++ replicate (words - length v) 0

-- what a look up gives, in two words: whether the key is there, and its count
abbrev pub told : List ℕ → List ℕ
told [] = 0 ∷ 0 ∷ []
told (key ∷ count) = 1 ∷ get_or count 0 0 ∷ []

-- of each key, in order
abbrev pub told_all : List ℕ → List ℕ → List ℕ
told_all [] w = []
told_all (key ∷ keys) w = told (look_rule key w) ++ told_all keys w

-- a view that may be searched so
pub record Ready (how : Search) (v : List ℕ) : Type 0 where
  pub holds : Holds v
  pub upto : length v ≤ words
  pub rising : how ≡ Halve → Rising v

-- refused with nothing written: a view or an output, two words a key, of another length, or more entries than pairs
unfoldable pub look_all_rule : List ℕ → List ℕ → List ℕ → Out
look_all_rule v keys out =
    elim (is_view v && eqb (length out) (2 * length keys)) [
      | true ↦
          elim (leb (entries v) pairs)
          [ true ↦ record { answer = Done; copy = told_all keys (filled v) } | false ↦ record { answer = Broken; copy = out } ]
      | false ↦ record { answer = Length; copy = out }
    ]
