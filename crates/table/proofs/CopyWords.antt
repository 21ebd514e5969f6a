-- The length and each word of a copy after a pair is put in and after one is taken out.
-- What a law needs of `inserted` and `removed` it takes from here, and never opens them.
use Prim.Native.Nat.{ℕ, ◌+◌, ◌-◌, ◌*◌, ◌≤◌, ◌<◌}
use mathlib.Core.Path.{◌≡◌, sym, ap, ◌∙◌}
use mathlib.Core.List.{List, [], ◌∷◌, ◌++◌}
use native.Mathlib.Omega.{arith}
use lib.ListN.{length, get_or, take, drop, set, replicate, length-append, length-drop, length-set, length-replicate, get_or-append}
use lib.Seq.{length-take-le, get_or-set_same, get_or-set_other, get_or-append-add, get_or-take, get_or-drop}
use Rattle.table.specs.Copy.{entries, inserted, removed, opened, closed}
use Rattle.table.proofs.Lists.{get_d_same}

-- ---- lists

pub get_d_zeros : (n x : ℕ) → get_or {A = ℕ} (replicate n 0) x 0 ≡ 0
get_d_zeros n x = get_d_same n x 0

-- word x of p ++ q, where it is word y of q
get_d_right : (p q : List ℕ) (x y : ℕ) → x ≡ length p + y → get_or (p ++ q) x 0 ≡ get_or q y 0
get_d_right p q x y e = ap (λ (k : ℕ). get_or (p ++ q) k 0) e ∙ get_or-append-add p q y 0

-- word x of w, where it is word y of what lies behind a words
get_d_behind : (a : ℕ) (w : List ℕ) (x y : ℕ) → x ≡ a + y → get_or (drop a w) y 0 ≡ get_or w x 0
get_d_behind a w x y e = get_or-drop a w y 0 ∙ ap (λ (k : ℕ). get_or w k 0) (sym e)

-- a words stay, and the rest is replaced: what `inserted` and `removed` both do, with the entry count
module _ (w : List ℕ) (a : ℕ) (q : List ℕ) (n : ℕ) (h : a ≤ length w) (s : 1 ≤ a) where
  front : length (take a w) ≡ a
  front = length-take-le a w h

  kept_length : length q ≡ length (drop a w) → length (set (take a w ++ q) 0 n) ≡ length w
  kept_length e = simp (length-set, length-append, front, e, length-drop) (omega arith)

  kept_entries : entries (set (take a w ++ q) 0 n) ≡ n
  kept_entries = get_or-set_same (take a w ++ q) 0 n 0 (simp (length-append, front) (omega arith))

  kept_before : (x : ℕ) → 1 ≤ x → x < a → get_or (set (take a w ++ q) 0 n) x 0 ≡ get_or w x 0
  kept_before x l b =
      get_or-set_other (take a w ++ q) 0 x n 0 (omega arith)
      ∙ get_or-append (take a w) q 0 x (rw front b)
      ∙ get_or-take a w x 0 b

  kept_behind : (x y : ℕ) → x ≡ a + y → get_or (set (take a w ++ q) 0 n) x 0 ≡ get_or q y 0
  kept_behind x y e =
      get_or-set_other (take a w ++ q) 0 x n 0 (omega arith) ∙ get_d_right (take a w) q x y (rw front e)

-- ---- a gap is opened, and closed, in a part p

module _ (m key amount : ℕ) (p : List ℕ) (h : m + 2 ≤ length p) where
  head : length (take m p) ≡ m
  head = length-take-le m p (omega arith)

  pub length_opened : length (opened m key amount p) ≡ length p
  length_opened = simp (length-append, head, length-drop) (omega arith)

  opened_moved : (x y : ℕ) → y ≡ x + 2 → x < m → get_or (opened m key amount p) y 0 ≡ get_or p x 0
  opened_moved x y e b =
      get_d_right (key ∷ amount ∷ []) (take m p ++ drop (2 + m) p) y x (omega arith)
      ∙ get_or-append (take m p) _ 0 x (rw head b)
      ∙ get_or-take m p x 0 b

  opened_behind : (x : ℕ) → m + 2 ≤ x → get_or (opened m key amount p) x 0 ≡ get_or p x 0
  opened_behind x b =
      get_d_right (key ∷ amount ∷ take m p) (drop (2 + m) p) x (x - (2 + m)) (rw head (omega arith))
      ∙ get_d_behind (2 + m) p x (x - (2 + m)) (omega arith)

module _ (g m : ℕ) (p : List ℕ) (h : g + m ≤ length p) where
  moved : length (take m (drop g p)) ≡ m
  moved = length-take-le m (drop g p) (rw length-drop (omega arith))

  pub length_closed : length (closed g m p) ≡ length p
  length_closed = simp (length-append, moved, length-replicate, length-drop) (omega arith)

  pub closed_moved : (x y : ℕ) → y ≡ g + x → x < m → get_or (closed g m p) x 0 ≡ get_or p y 0
  closed_moved x y e b =
      get_or-append (take m (drop g p)) _ 0 x (rw moved b)
      ∙ get_or-take m (drop g p) x 0 b
      ∙ get_d_behind g p y x e

  pub closed_left : (x : ℕ) → m ≤ x → x < g + m → get_or (closed g m p) x 0 ≡ 0
  closed_left x l b =
      get_d_right (take m (drop g p)) _ x (x - m) (rw moved (omega arith))
      ∙ get_or-append (replicate g 0) _ 0 (x - m) (rw length-replicate (omega arith))
      ∙ get_d_zeros g (x - m)

  pub closed_behind : (x : ℕ) → g + m ≤ x → get_or (closed g m p) x 0 ≡ get_or p x 0
  closed_behind x b =
      get_d_right (take m (drop g p)) _ x (x - m) (rw moved (omega arith))
      ∙ get_d_right (replicate g 0) _ (x - m) (x - (g + m)) (rw length-replicate (omega arith))
      ∙ get_d_behind (g + m) p x (x - (g + m)) (omega arith)

-- ---- a pair is put in

module _ (i key amount : ℕ) (w : List ℕ) (u : i ≤ entries w) (h : 2 * entries w + 4 ≤ length w) where
  room : 2 * (entries w - i) + 2 ≤ length (drop (2 * i + 2) w)
  room = rw length-drop (omega arith)

  pub length_inserted : length (inserted i key amount w) ≡ length w
  length_inserted =
      kept_length w (2 * i + 2) _ _ (omega arith) (omega arith) (length_opened (2 * (entries w - i)) key amount _ room)

  pub entries_inserted : entries (inserted i key amount w) ≡ entries w + 1
  entries_inserted = kept_entries w (2 * i + 2) _ _ (omega arith) (omega arith)

  -- the spill, and the pairs before
  pub inserted_before : (x : ℕ) → 1 ≤ x → x < 2 * i + 2 → get_or (inserted i key amount w) x 0 ≡ get_or w x 0
  inserted_before = kept_before w (2 * i + 2) _ _ (omega arith) (omega arith)

  behind : (x y : ℕ) → x ≡ 2 * i + 2 + y → get_or (inserted i key amount w) x 0 ≡ get_or (opened (2 * (entries w - i)) key amount (drop (2 * i + 2) w)) y 0
  behind = kept_behind w (2 * i + 2) _ _ (omega arith) (omega arith)

  pub inserted_key : get_or (inserted i key amount w) (2 * i + 2) 0 ≡ key
  inserted_key = behind _ 0 (omega arith)

  pub inserted_count : get_or (inserted i key amount w) (2 * i + 3) 0 ≡ amount
  inserted_count = behind _ 1 (omega arith)

  pub inserted_moved : (x y : ℕ) → y ≡ x + 2 → 2 * i + 2 ≤ x → x < 2 * entries w + 2 → get_or (inserted i key amount w) y 0 ≡ get_or w x 0
  inserted_moved x y e l b =
      behind y (y - (2 * i + 2)) (omega arith)
      ∙ opened_moved (2 * (entries w - i)) key amount _ room (x - (2 * i + 2)) (y - (2 * i + 2)) (omega arith) (omega arith)
      ∙ get_d_behind (2 * i + 2) w x (x - (2 * i + 2)) (omega arith)

  pub inserted_behind : (x : ℕ) → 2 * entries w + 4 ≤ x → get_or (inserted i key amount w) x 0 ≡ get_or w x 0
  inserted_behind x b =
      behind x (x - (2 * i + 2)) (omega arith)
      ∙ opened_behind (2 * (entries w - i)) key amount _ room (x - (2 * i + 2)) (omega arith)
      ∙ get_d_behind (2 * i + 2) w x (x - (2 * i + 2)) (omega arith)

-- ---- a pair is taken out

module _ (i : ℕ) (w : List ℕ) (u : i < entries w) (h : 2 * entries w + 2 ≤ length w) where
  filled : 2 + 2 * (entries w - i - 1) ≤ length (drop (2 * i + 2) w)
  filled = rw length-drop (omega arith)

  pub length_removed : length (removed i w) ≡ length w
  length_removed =
      kept_length w (2 * i + 2) _ _ (omega arith) (omega arith) (length_closed 2 (2 * (entries w - i - 1)) (drop (2 * i + 2) w) filled)

  pub entries_removed : entries (removed i w) ≡ entries w - 1
  entries_removed = kept_entries w (2 * i + 2) _ _ (omega arith) (omega arith)

  -- the spill, and the pairs before
  pub removed_before : (x : ℕ) → 1 ≤ x → x < 2 * i + 2 → get_or (removed i w) x 0 ≡ get_or w x 0
  removed_before = kept_before w (2 * i + 2) _ _ (omega arith) (omega arith)

  after : (x y : ℕ) → x ≡ 2 * i + 2 + y → get_or (removed i w) x 0 ≡ get_or (closed 2 (2 * (entries w - i - 1)) (drop (2 * i + 2) w)) y 0
  after = kept_behind w (2 * i + 2) _ _ (omega arith) (omega arith)

  pub removed_moved : (x y : ℕ) → y ≡ x + 2 → 2 * i + 2 ≤ x → x < 2 * entries w → get_or (removed i w) x 0 ≡ get_or w y 0
  removed_moved x y e l b =
      after x (x - (2 * i + 2)) (omega arith)
      ∙ closed_moved 2 (2 * (entries w - i - 1)) (drop (2 * i + 2) w) filled (x - (2 * i + 2)) (y - (2 * i + 2)) (omega arith) (omega arith)
      ∙ get_d_behind (2 * i + 2) w y (y - (2 * i + 2)) (omega arith)

  pub removed_left : (x : ℕ) → 2 * entries w ≤ x → x < 2 * entries w + 2 → get_or (removed i w) x 0 ≡ 0
  removed_left x l b =
      after x (x - (2 * i + 2)) (omega arith)
      ∙ closed_left 2 (2 * (entries w - i - 1)) (drop (2 * i + 2) w) filled (x - (2 * i + 2)) (omega arith) (omega arith)

  pub removed_behind : (x : ℕ) → 2 * entries w + 2 ≤ x → get_or (removed i w) x 0 ≡ get_or w x 0
  removed_behind x b =
      after x (x - (2 * i + 2)) (omega arith)
      ∙ closed_behind 2 (2 * (entries w - i - 1)) (drop (2 * i + 2) w) filled (x - (2 * i + 2)) (omega arith)
      ∙ get_d_behind (2 * i + 2) w x (x - (2 * i + 2)) (omega arith)
