-- Numbers in bytes: how two that stand one behind the other make one, at any width, and what std writes; a run of bytes stored one by one;
-- and an entry, stored in its place.
use Prim.Native.Nat.{ℕ, zero, suc, ◌+◌, ◌-◌, ◌*◌, ◌/◌, ◌%◌, ◌^◌, ◌≤◌, ◌<◌}
use mathlib.Core.Path.{◌≡◌, sym, ap, ◌∙◌}
use mathlib.Core.List.{List, [], ◌∷◌, ◌++◌, append_assoc}
use native.Mathlib.Nat.{zero-add, add-zero, suc-add, mul_assoc, mul_comm, pow-suc}
use native.Mathlib.Omega.{arith}
use borrow.Author.Tests.{le-leb, lt-leb}
use borrow.Rule.Slice.PartMut.{put_mid}
use lib.ListN.{length, get_or, set, take, drop}
use lib.Seq.{sets, sets-eq}
use Rattle.std.proofs.lemmas.List.{take_more_set, drop-set-lt, drop-drop}
use Rattle.std.specs.Int.{w64, to_le_bytes}
use Rattle.format.specs.Schedule.{number_at, bytes_of}
use Rattle.format.specs.Transcript.{entry_bytes, entry_of, put_rule}

pub number_one : (s : List ℕ) (at : ℕ) → number_at 1 s at ≡ get_or s at 0
number_one s at = omega arith

-- m bytes and the n behind them
pub number_split : (m n : ℕ) (s : List ℕ) (at : ℕ) → number_at (m + n) s at ≡ number_at m s at + 256 ^ m * number_at n s (at + m)
number_split zero n s at =
    let e : number_at (0 + n) s at ≡ number_at n s (at + 0) = λ i. number_at (zero-add n i) s (sym (add-zero at) i) in
    omega arith
number_split (suc m) n s at =
    let x = number_at n s (at + suc m) in
    let e : number_at (suc m + n) s at ≡ get_or s at 0 + 256 * number_at (m + n) s (suc at) = ap (λ (k : ℕ). number_at k s at) (suc-add m n) in
    let d : number_at (m + n) s (suc at) ≡ number_at m s (suc at) + 256 ^ m * x =
    number_split m n s (suc at) ∙ ap (λ (k : ℕ). number_at m s (suc at) + 256 ^ m * number_at n s k) (omega arith) in
    let f : 256 ^ suc m * x ≡ 256 * (256 ^ m * x) =
    ap (λ (k : ℕ). k * x) (pow-suc 256 m ∙ mul_comm (256 ^ m) 256) ∙ mul_assoc 256 (256 ^ m) x in
    omega (arith, e, d, f)

pub number_joined :
    (m n : ℕ) (s : List ℕ) (at : ℕ) {x y : ℕ} → x ≡ number_at m s at → y ≡ number_at n s (at + m) → x + 256 ^ m * y ≡ number_at (m + n) s at
number_joined m n s at p q = (λ i. p i + 256 ^ m * q i) ∙ sym (number_split m n s at)

-- n - i bytes still to be stored: the lowest, then the rest
pub store_next :
    (n i v at : ℕ) (l : List ℕ) → i < n →
    sets l (at + i) (bytes_of (n - i) v) ≡ sets (set l (at + i) (v % 256)) (at + (i + 1)) (bytes_of (n - (i + 1)) (v / 256))
store_next n i v at l h =
    let p : n - i ≡ suc (n - (i + 1)) = omega arith in
    let q : suc (at + i) ≡ at + (i + 1) = omega arith in
    ap (λ (k : ℕ). sets l (at + i) (bytes_of k v)) p
    ∙ ap (λ (k : ℕ). sets (set l (at + i) (v % 256)) k (bytes_of (n - (i + 1)) (v / 256))) q

-- none is left
pub store_none : (n i v at : ℕ) (l : List ℕ) → n ≤ i → sets l at (bytes_of (n - i) v) ≡ l
store_none n i v at l h =
    let p : n - i ≡ 0 = omega arith in
    ap (λ (k : ℕ). sets l at (bytes_of k v)) p

-- as std writes them
pub bytes_written : (v : ℕ) → to_le_bytes w64 v ≡ bytes_of 8 v
bytes_written v =
    let b1 : v / 256 ^ 1 % 256 ≡ v / 256 % 256 = omega arith in
    let b2 : v / 256 ^ 2 % 256 ≡ v / 256 / 256 % 256 = omega arith in
    let b3 : v / 256 ^ 3 % 256 ≡ v / 256 / 256 / 256 % 256 = omega arith in
    let b4 : v / 256 ^ 4 % 256 ≡ v / 256 / 256 / 256 / 256 % 256 = omega arith in
    let b5 : v / 256 ^ 5 % 256 ≡ v / 256 / 256 / 256 / 256 / 256 % 256 = omega arith in
    let b6 : v / 256 ^ 6 % 256 ≡ v / 256 / 256 / 256 / 256 / 256 / 256 % 256 = omega arith in
    let b7 : v / 256 ^ 7 % 256 ≡ v / 256 / 256 / 256 / 256 / 256 / 256 / 256 % 256 = omega arith in
    λ j. v % 256 ∷ b1 j ∷ b2 j ∷ b3 j ∷ b4 j ∷ b5 j ∷ b6 j ∷ b7 j ∷ []

-- ---- an entry

module _ (a v at : ℕ) (l : List ℕ) where
  pub put_none : length l < at + entry_bytes → put_rule a v at l ≡ l
  unfolding put_rule
  put_none h = rw (lt-leb (at + entry_bytes) (length l) h, put_rule)

  pub put_entry : at + entry_bytes ≤ length l → put_rule a v at l ≡ take at l ++ (entry_of a v ++ drop (at + entry_bytes) l)
  unfolding put_rule
  put_entry h = rw (le-leb (at + entry_bytes) (length l) h, put_rule)

  -- the answer, and behind it the value
  pub put_written :
      at + entry_bytes ≤ length l → {k : ℕ} → k ≡ 8 → {ys : List ℕ} → ys ≡ bytes_of 8 v → put_mid (at + 1) k (set l at a) ys ≡ put_rule a v at l
  put_written h {k} p {ys} q =
      let front : take (at + 1) (set l at a) ≡ take at l ++ (a ∷ []) = take_more_set l at a (omega arith) in
      let back : drop k (drop (at + 1) (set l at a)) ≡ drop (at + entry_bytes) l =
      ap (drop k) (drop-set-lt (at + 1) l at a (omega arith)) ∙ drop-drop k (at + 1) l ∙ ap (λ (n : ℕ). drop n l) (omega arith) in
      (λ j. front j ++ (q j ++ back j)) ∙ append_assoc (take at l) (a ∷ []) _ ∙ sym (put_entry h)

  -- stored byte by byte
  pub put_stored : at + entry_bytes ≤ length l → sets l at (entry_of a v) ≡ put_rule a v at l
  put_stored h =
      sets-eq (entry_of a v) l at h ∙ append_assoc (take at l) (entry_of a v) (drop (at + entry_bytes) l) ∙ sym (put_entry h)
