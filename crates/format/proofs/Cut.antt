-- A record cut out of a file, or the start of one with zeros behind it: its fields are those of the file.
use Prim.Native.Nat.{ℕ, zero, suc, ◌+◌, ◌*◌, ◌≤◌, ◌<◌}
use mathlib.Core.Path.{◌≡◌, refl, ap, ◌∙◌}
use mathlib.Core.List.{List, [], ◌∷◌, ◌++◌}
use native.Mathlib.Omega.{arith}
use lib.ListN.{get_or, take, drop, replicate}
use Rattle.std.proofs.lemmas.List.{get_or-take, get_or-drop}
use Rattle.format.specs.Schedule.{number_at, record_bytes, fields_at}

module _ (w s : List ℕ) (at : ℕ) (same : (k : ℕ) → k < record_bytes → get_or w k 0 ≡ get_or s (at + k) 0) where
  same_number : (n k : ℕ) → k + n ≤ record_bytes → number_at n w k ≡ number_at n s (at + k)
  same_number zero k h = refl
  same_number (suc n) k h =
      let r : number_at n w (suc k) ≡ number_at n s (suc (at + k)) =
      same_number n (suc k) (omega arith) ∙ ap (λ (j : ℕ). number_at n s j) (omega arith) in
      λ j. same k (omega arith) j + 256 * r j

  fields_same : fields_at w 0 ≡ fields_at s at
  fields_same =
      let first : get_or w 0 0 ≡ get_or s at 0 = same 0 (omega arith) ∙ ap (λ (j : ℕ). get_or s j 0) (omega arith) in
      λ j.
      record {
        call = first j;
        slot = same 1 (omega arith) j;
        guard = same 2 (omega arith) j;
        kind = same 3 (omega arith) j;
        key = same_number 8 4 (omega arith) j;
        amount = same_number 8 12 (omega arith) j;
      }

pub fields_cut : (s : List ℕ) (at : ℕ) → fields_at (take record_bytes (drop at s)) 0 ≡ fields_at s at
fields_cut s at =
    fields_same (take record_bytes (drop at s)) s at
    (λ k h. get_or-take record_bytes (drop at s) k 0 h ∙ get_or-drop at s k 0)

zeros : (n k : ℕ) → get_or {A = ℕ} (replicate n 0) k 0 ≡ 0
zeros zero k = refl
zeros (suc n) zero = refl
zeros (suc n) (suc k) = zeros n k

-- zeros behind it change nothing, however many of them are left
padded : (l : List ℕ) (n m k : ℕ) → get_or (l ++ drop m (replicate n 0)) k 0 ≡ get_or l k 0
padded [] n zero k = zeros n k
padded [] zero (suc m) k = refl
padded [] (suc n) (suc m) k = padded [] n m k
padded (x ∷ l) n m zero = refl
padded (x ∷ l) n m (suc k) = padded l n m k

pub fields_padded : (s : List ℕ) (at n : ℕ) → fields_at (drop at s ++ drop n (replicate record_bytes 0)) 0 ≡ fields_at s at
fields_padded s at n =
    fields_same (drop at s ++ drop n (replicate record_bytes 0)) s at (λ k h. padded (drop at s) record_bytes n k ∙ get_or-drop at s k 0)
