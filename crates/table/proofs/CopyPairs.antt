-- The pairs of a copy after each change, with no word of lists: which pair of the one is which of the other.
use Prim.Native.Nat.{ℕ, suc, ◌+◌, ◌-◌, ◌*◌, ◌≤◌, ◌<◌}
use mathlib.Core.Path.{◌≡◌, refl, sym}
use mathlib.Core.List.{List}
use native.Mathlib.Omega.{arith}
use lib.ListN.{length, get_or, set}
use lib.Seq.{get_or-set_same, get_or-set_other}
use Rattle.table.specs.Copy.{entries, spill, key_at, count_at, inserted, removed}
use Rattle.table.proofs.CopyWords.{entries_inserted, inserted_before, inserted_key, inserted_count, inserted_moved, entries_removed, removed_before, removed_moved}

-- pair j of v is pair k of w
abbrev pub Same : List ℕ → ℕ → List ℕ → ℕ → Type 0
Same v j w k = (key_at v j ≡ key_at w k) × (count_at v j ≡ count_at w k)

-- v is w with one pair more, before pair i
pub record Wider (i key amount : ℕ) (w v : List ℕ) : Type 0 where
  pub upto : i ≤ entries w
  pub more : entries v ≡ entries w + 1
  pub spilt : spill v ≡ spill w
  pub here : (key_at v i ≡ key) × (count_at v i ≡ amount)
  pub before : (j : ℕ) → j < i → Same v j w j
  pub behind : (j : ℕ) → i ≤ j → j < entries w → Same v (suc j) w j

pub wider_inserted : (i key amount : ℕ) (w : List ℕ) → i ≤ entries w → 2 * entries w + 4 ≤ length w
    → Wider i key amount w (inserted i key amount w)
wider_inserted i key amount w u h = record {
  upto = u;
  more = entries_inserted i key amount w u h;
  spilt = inserted_before i key amount w u h 1 (omega arith) (omega arith);
  here = (inserted_key i key amount w u h, inserted_count i key amount w u h);
  before = λ j l. (word (2 * j + 2) (omega arith) (omega arith), word (2 * j + 3) (omega arith) (omega arith));
  behind = λ j l b. (
    moved (2 * j + 2) (2 * suc j + 2) (omega arith) (omega arith) (omega arith),
    moved (2 * j + 3) (2 * suc j + 3) (omega arith) (omega arith) (omega arith),
  );
}
  where
    word : (x : ℕ) → 1 ≤ x → x < 2 * i + 2 → get_or (inserted i key amount w) x 0 ≡ get_or w x 0
    word = inserted_before i key amount w u h

    moved : (x y : ℕ) → y ≡ x + 2 → 2 * i + 2 ≤ x → x < 2 * entries w + 2 → get_or (inserted i key amount w) y 0 ≡ get_or w x 0
    moved = inserted_moved i key amount w u h

-- the pair that is taken out is the one that w has more
pub wider_removed : (i key : ℕ) (w : List ℕ) → key_at w i ≡ key → i < entries w → 2 * entries w + 2 ≤ length w
    → Wider i key (count_at w i) (removed i w) w
wider_removed i key w k u h =
    let e : entries (removed i w) ≡ entries w - 1 = entries_removed i w u h in
    record {
      upto = omega arith;
      more = omega arith;
      spilt = word 1 (omega arith) (omega arith);
      here = (k, refl);
      before = λ j l. (word (2 * j + 2) (omega arith) (omega arith), word (2 * j + 3) (omega arith) (omega arith));
      behind = λ j l b. (
        moved (2 * j + 2) (2 * suc j + 2) (omega arith) (omega arith) (omega arith),
        moved (2 * j + 3) (2 * suc j + 3) (omega arith) (omega arith) (omega arith),
      );
    }
  where
    word : (x : ℕ) → 1 ≤ x → x < 2 * i + 2 → get_or w x 0 ≡ get_or (removed i w) x 0
    word x l b = sym (removed_before i w u h x l b)

    moved : (x y : ℕ) → y ≡ x + 2 → 2 * i + 2 ≤ x → x < 2 * entries w → get_or w y 0 ≡ get_or (removed i w) x 0
    moved x y e l b = sym (removed_moved i w u h x y e l b)

-- v is w but for the count of pair i
pub record Recounted (i count : ℕ) (w v : List ℕ) : Type 0 where
  pub many : entries v ≡ entries w
  pub spilt : spill v ≡ spill w
  pub keys : (j : ℕ) → key_at v j ≡ key_at w j
  pub here : count_at v i ≡ count
  pub others : (j : ℕ) → (j ≡ i → ⊥) → count_at v j ≡ count_at w j

pub recounted_set : (i count : ℕ) (w : List ℕ) → 2 * i + 3 < length w → Recounted i count w (set w (2 * i + 3) count)
recounted_set i count w h = record {
  many = other 0 (omega arith);
  spilt = other 1 (omega arith);
  keys = λ j. other (2 * j + 2) (omega arith);
  here = get_or-set_same w (2 * i + 3) count 0 h;
  others = λ j n. other (2 * j + 3) (λ e. n (omega arith));
}
  where
    other : (x : ℕ) → (x ≡ 2 * i + 3 → ⊥) → get_or (set w (2 * i + 3) count) x 0 ≡ get_or w x 0
    other x n = get_or-set_other w (2 * i + 3) x count 0 n
