-- A part of a list that is lent on, and what the whole is when it has come back.
use Prim.Native.Nat.{ℕ, ◌+◌, ◌-◌, ◌*◌, ◌≤◌, ◌<◌}
use mathlib.Core.Path.{◌≡◌}
use mathlib.Core.List.{List, ◌++◌, append-nil}
use native.Mathlib.Omega.{arith}
use borrow.Rule.Slice.PartMut.{mid_of, put_mid}
use lib.ListN.{length, take, drop, set, length-drop, drop_of_length-le}
use lib.Seq.{length-take-le, take_all, take_at, drop_at, drop-drop}
use Rattle.table.specs.Copy.{entries, opened, closed, close_rule, inserted, removed, zeros, Fit}
use Rattle.table.proofs.Cases.{close_room}
use Rattle.table.proofs.Moves.{over}

-- ---- a part up to the end

pub mid_end : (at : ℕ) (w : List ℕ) → mid_of at (length w - at) w ≡ drop at w
mid_end at w = take_all (length w - at) (drop at w) (simp length-drop (omega arith))

pub put_end : (at : ℕ) (w v : List ℕ) → put_mid at (length w - at) w v ≡ take at w ++ v
put_end at w v = rw (drop_of_length-le (drop at w) {i = length w - at} (simp length-drop (omega arith)), append-nil)

-- the part from pair i on has opened for a new pair
pub inserted_part :
    (i key amount : ℕ) (w : List ℕ) →
    set (put_mid (2 * i + 2) (length w - (2 * i + 2)) w (opened (2 * (entries w - i)) key amount (mid_of (2 * i + 2) (length w - (2 * i + 2)) w))) 0 (entries w + 1)
    ≡ inserted i key amount w
inserted_part i key amount w = rw (put_end (2 * i + 2) w, mid_end (2 * i + 2) w)

-- the part from pair i on has closed over it
pub removed_part :
    (i : ℕ) (w : List ℕ) → Fit w → i < entries w →
    set (put_mid (2 * i + 2) (length w - (2 * i + 2)) w (close_rule 2 (2 * (entries w - i - 1)) (mid_of (2 * i + 2) (length w - (2 * i + 2)) w))) 0 (entries w - 1)
    ≡ removed i w
removed_part i w f l =
    let room : 2 + 2 * (entries w - i - 1) ≤ length (drop (2 * i + 2) w) = simp length-drop (omega arith) in
    rw (put_end (2 * i + 2) w, mid_end (2 * i + 2) w, close_room 2 (2 * (entries w - i - 1)) (drop (2 * i + 2) w) room)

-- ---- a part within

-- m words have moved down by g, and the g words behind them are zeroed
pub closed_part :
    (g m : ℕ) (p : List ℕ) → g + m ≤ length p →
    put_mid m (m + g - m) (over m (drop g p) p) (zeros (mid_of m (m + g - m) (over m (drop g p) p))) ≡ closed g m p
closed_part g m p h =
    let e : m + g - m ≡ g = omega arith in
    let d : m + g ≡ g + m = omega arith in
    let k : length (take m (drop g p)) ≡ m = length-take-le m (drop g p) (simp length-drop (omega arith)) in
    let z : length (take g (drop m p)) ≡ g = length-take-le g (drop m p) (simp length-drop (omega arith)) in
    rw (e, take_at (take m (drop g p)) (drop m p) m k, drop_at (take m (drop g p)) (drop m p) m k, z, drop-drop g m p, d)
