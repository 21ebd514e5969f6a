-- The table as a map from keys to counts: what a copy in rising order stands for.
use Prim.Native.Nat.{ℕ, ◌+◌, ◌-◌}
use mathlib.Core.Bool.{true, false}
use mathlib.Core.Option.{Option, none, some}
use mathlib.Core.List.{List, [], ◌∷◌}
use lib.Dec.{eqb, ltb}
use Rattle.table.specs.Copy.{pairs, entries, spill, count_at, pair_of, present, grown}
use Rattle.table.specs.Order.{Op}

pub record Map : Type 0 where
  pub at : ℕ → Option ℕ
  pub size : ℕ
  pub spilt : ℕ

-- f, but for key
unfoldable pub put : ℕ → Option ℕ → (ℕ → Option ℕ) → ℕ → Option ℕ
put key o f k = elim (eqb k key) [ true ↦ o | false ↦ f k ]

unfoldable pub add_map : ℕ → ℕ → Map → Map
add_map key amount m =
    elim (m.at key) [
      | some c ↦ record { at = put key (some (grown c amount)) m.at; size = m.size; spilt = m.spilt }
      | none ↦
          elim (ltb m.size pairs) [
            | true ↦ record { at = put key (some amount) m.at; size = m.size + 1; spilt = m.spilt }
            | false ↦ record { at = m.at; size = m.size; spilt = grown m.spilt 1 }
          ]
    ]

unfoldable pub drop_map : ℕ → Map → Map
drop_map key m =
    elim (m.at key) [ some c ↦ record { at = put key none m.at; size = m.size - 1; spilt = m.spilt } | none ↦ m ]

abbrev pub empty_map : Map
empty_map = record { at = λ k. none; size = 0; spilt = 0 }

unfoldable pub applied_map : ℕ → ℕ → ℕ → Map → Map
applied_map kind key amount m =
    elim (eqb kind 1) [
      | true ↦ add_map key amount m
      | false ↦ elim (eqb kind 2) [ true ↦ drop_map key m | false ↦ elim (eqb kind 3) [ true ↦ empty_map | false ↦ m ] ]
    ]

abbrev pub after_map : List Op → Map → Map
after_map [] m = m
after_map (o ∷ os) m = after_map os (applied_map o.kind o.key o.amount m)

-- ---- the map of a copy

-- the count of a key, or none where it is absent
unfoldable pub found : ℕ → List ℕ → Option ℕ
found key w = elim (present key w) [ true ↦ some (count_at w (pair_of key w)) | false ↦ none ]

abbrev pub map_of : List ℕ → Map
map_of w = record { at = λ key. found key w; size = entries w; spilt = spill w }
