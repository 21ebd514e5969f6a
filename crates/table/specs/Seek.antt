-- The first number that passes a test: what every search here is.
use Rattle.std.specs.Prelude.{ℕ, zero, suc, ◌+◌, ◌-◌, ◌/◌, Bool, true, false, ltb}

-- the first of the n numbers from i on that passes the test p, or the number behind them
unfoldable pub seek : (ℕ → Bool) → ℕ → ℕ → ℕ
seek p i zero = i
seek p i (suc n) = elim (p i) [ true ↦ i | false ↦ seek p (suc i) n ]

-- the same by halving, where all behind one that passes pass too (law halve_seek); f halvings at most
unfoldable pub halve : (ℕ → Bool) → ℕ → ℕ → ℕ → ℕ
halve p zero i n = i
halve p (suc f) i n =
    elim (ltb 0 n) [
      | true ↦ elim (p (i + n / 2)) [ true ↦ halve p f i (n / 2) | false ↦ halve p f (i + n / 2 + 1) (n - n / 2 - 1) ]
      | false ↦ i
    ]
