-- What a computed witness opens, and what it shows.
use Prim.Native.Nat.{ℕ}
use mathlib.Core.Path.{◌≡◌, ap}
use mathlib.Core.Bool.{false}
use borrow.Author.Tests.{eqb-false}
use lib.Dec.{eqb}
use Rattle.table.specs.Seek.{seek, halve}
use Rattle.table.specs.Copy.{added_by, dropped_by, applied_by, lawful, fitness, apply_by, look_rule, look_by, used_rule, close_rule}
use Rattle.table.specs.Many.{look_all_rule}

unfoldable pub rules : Type 0
unfolding seek halve added_by dropped_by applied_by lawful fitness apply_by look_rule look_by used_rule close_rule look_all_rule
rules = Unit {0}

-- a number read off two results that differs, though they are said to be equal
pub apart : {A : Type 0} {x y : A} (read : A → ℕ) → eqb (read x) (read y) ≡ false → x ≡ y → ⊥
apart {x = x} {y = y} read d e = eqb-false (read x) (read y) d (ap read e)
