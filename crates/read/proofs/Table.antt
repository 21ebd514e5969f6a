-- What one computed test says of each element of a list.
use Rattle.std.proofs.Common.{◌≡◌, ℕ, zero, suc, ◌+◌, ◌<◌, Bool, true, ◌&&◌, List, [], ◌∷◌, length, get_or, sym, ap, ◌∙◌, arith}
use Rattle.table.proofs.Booleans.{both}

-- the test passes at each element of a list and its place, counted from i
abbrev pub every : {A : Type 0} → (ℕ → A → Bool) → ℕ → List A → Bool
every f i [] = true
every f i (x ∷ xs) = f i x && every f (suc i) xs

every_at :
    {A : Type 0} (f : ℕ → A → Bool) (d : A) (i : ℕ) (xs : List A) → every f i xs ≡ true →
    (k : ℕ) → k < length xs → f (i + k) (get_or xs k d) ≡ true
every_at f d i [] t k h = absurd (omega arith)
every_at f d i (x ∷ xs) t zero h =
    let e : i + 0 ≡ i = omega arith in
    ap (λ (n : ℕ). f n x) e ∙ (both (f i x) (every f (suc i) xs) t).0
every_at f d i (x ∷ xs) t (suc k) h =
    let e : i + suc k ≡ suc i + k = omega arith in
    ap (λ (n : ℕ). f n (get_or xs k d)) e ∙ every_at f d (suc i) xs (both (f i x) (every f (suc i) xs) t).1 k (omega arith)

pub at_every :
    {A : Type 0} (f : ℕ → A → Bool) (d : A) (xs : List A) → every f 0 xs ≡ true → (k : ℕ) → k < length xs → f k (get_or xs k d) ≡ true
at_every f d xs t k h =
    let e : 0 + k ≡ k = omega arith in
    ap (λ (n : ℕ). f n (get_or xs k d)) (sym e) ∙ every_at f d 0 xs t k h
