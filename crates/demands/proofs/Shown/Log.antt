-- The log's words as operations: what a store behind the last and a move to the front do to them; and operations of a sound
-- machine applied.
use Prim.Native.Nat.{ℕ, zero, suc, ◌+◌, ◌-◌, ◌*◌, ◌≤◌, ◌<◌}
use mathlib.Core.Path.{◌≡◌, refl, sym, ap, ◌∙◌}
use mathlib.Core.Bool.{true}
use mathlib.Core.List.{List, [], ◌∷◌, ◌++◌, append-nil, append_assoc}
use native.Mathlib.Omega.{arith}
use lib.ListN.{length, get_or, drop, length-set}
use lib.Seq.{take-length, drop-length}
use borrow.Author.Tests.{lt-ltb}
use Rattle.table.specs.Copy.{lawful, Fit}
use Rattle.table.specs.declared.Search.TheVariants.{Walk}
use Rattle.table.specs.Order.{Op, after}
use Rattle.table.proofs.Cases.{apply_made}
use Rattle.table.proofs.CopyFit.{fit_applied, fit_fits}
use Rattle.table.proofs.Booleans.{both}
use Rattle.read.specs.Machine.{log_room, log_words, lawful_at}
use Rattle.write.specs.Steps.{operated, log_applied, log_applied_by, over, unlogged}
use Rattle.write.specs.Begins.{all_lawful, logged, operated_all, logged_all}
use Rattle.write.proofs.Words.{moved_word, other_word, kind_word, key_word, amount_word}
use Rattle.demands.proofs.Shown.Invariant.{op_at, ops_from}

abbrev pub no_op : Op
no_op = record { kind = 0; key = 0; amount = 0 }

pub length_ops : (n i : ℕ) (g : List ℕ) → length (ops_from n i g) ≡ n
length_ops zero i g = refl
length_ops (suc n) i g = ap suc (length_ops n (suc i) g)

get_d_ops : (n i : ℕ) (g : List ℕ) (k : ℕ) → k < n → get_or (ops_from n i g) k no_op ≡ op_at g (i + k)
get_d_ops zero i g k h = absurd (omega arith)
get_d_ops (suc n) i g zero h = let e : i ≡ i + 0 = omega arith in ap (op_at g) e
get_d_ops (suc n) i g (suc k) h =
    let e : suc i + k ≡ i + suc k = omega arith in
    get_d_ops n (suc i) g k (omega arith) ∙ ap (op_at g) e

-- operation k of the log
pub op_ops : (n : ℕ) (g : List ℕ) (k : ℕ) → k < n → get_or (ops_from n 0 g) k no_op ≡ op_at g k
op_ops n g k h = let e : 0 + k ≡ k = omega arith in get_d_ops n 0 g k h ∙ ap (op_at g) e

-- the same words give the same operations
ops_same : (n i j : ℕ) (g h : List ℕ) → ((x : ℕ) → x < 3 * n → get_or g (3 * i + x) 0 ≡ get_or h (3 * j + x) 0) → ops_from n i g ≡ ops_from n j h
ops_same zero i j g h e = refl
ops_same (suc n) i j g h e =
    let w : (x y z : ℕ) → z < 3 * suc n → x ≡ 3 * i + z → y ≡ 3 * j + z → get_or g x 0 ≡ get_or h y 0 =
    λ x y z lt p q. rw (p, q) (e z lt) in
    let a : op_at g i ≡ op_at h j = λ t. record {
      kind = w (3 * i) (3 * j) 0 (omega arith) (omega arith) (omega arith) t;
      key = w (3 * i + 1) (3 * j + 1) 1 (omega arith) refl refl t;
      amount = w (3 * i + 2) (3 * j + 2) 2 (omega arith) refl refl t;
    } in
    let b : ops_from n (suc i) g ≡ ops_from n (suc j) h =
    ops_same n (suc i) (suc j) g h (λ x lt. w (3 * suc i + x) (3 * suc j + x) (3 + x) (omega arith) (omega arith) (omega arith)) in
    λ t. a t ∷ b t

ops_snoc : (n i : ℕ) (g : List ℕ) → ops_from (suc n) i g ≡ ops_from n i g ++ (op_at g (i + n) ∷ [])
ops_snoc zero i g = let e : i ≡ i + 0 = omega arith in ap (λ (x : ℕ). op_at g x ∷ []) e
ops_snoc (suc n) i g =
    let e : suc i + n ≡ i + suc n = omega arith in
    ap (λ (x : List Op). op_at g i ∷ x) (ops_snoc n (suc i) g ∙ ap (λ (x : ℕ). ops_from n (suc i) g ++ (op_at g x ∷ [])) e)

ops_rest : (n : ℕ) (g : List ℕ) → 0 < n → drop 1 (ops_from n 0 g) ≡ ops_from (n - 1) 1 g
ops_rest zero g h = absurd (omega arith)
ops_rest (suc n) g h = let e : n ≡ suc n - 1 = omega arith in ap (λ (x : ℕ). ops_from x 1 g) e

-- ---- operations behind n others

module _ (n kind key amount : ℕ) (g : List ℕ) (room : n < log_room) (sized : length g ≡ log_words) where
  logged_op : op_at (logged n kind key amount g) n ≡ record { kind = kind; key = key; amount = amount }
  logged_op =
      λ t. record {
        kind = kind_word n kind key amount g room sized t;
        key = key_word n kind key amount g room sized t;
        amount = amount_word n kind key amount g room sized t;
      }

  ops_logged : ops_from (suc n) 0 (logged n kind key amount g) ≡ ops_from n 0 g ++ (record { kind = kind; key = key; amount = amount } ∷ [])
  ops_logged =
      let g' = logged n kind key amount g in
      let z : 0 + n ≡ n = omega arith in
      let a : op_at g' (0 + n) ≡ record { kind = kind; key = key; amount = amount } = ap (op_at g') z ∙ logged_op in
      let b : ops_from n 0 g' ≡ ops_from n 0 g =
      ops_same n 0 0 g' g (λ x lt. other_word n kind key amount g room sized (3 * 0 + x) (omega arith)) in
      ops_snoc n 0 g' ∙ (λ t. b t ++ (a t ∷ []))

pub ops_logged_all :
    (os : List Op) (n : ℕ) (g : List ℕ) → n + length os ≤ log_room → length g ≡ log_words →
    ops_from (n + length os) 0 (logged_all n os g) ≡ ops_from n 0 g ++ os
ops_logged_all [] n g room sized =
    let e : n + 0 ≡ n = omega arith in
    ap (λ (x : ℕ). ops_from x 0 g) e ∙ sym (append-nil (ops_from n 0 g))
ops_logged_all (o ∷ os) n g room sized =
    let g' = logged n o.kind o.key o.amount g in
    let e : n + suc (length os) ≡ suc n + length os = omega arith in
    ap (λ (x : ℕ). ops_from x 0 (logged_all (suc n) os g')) e ∙ ops_logged_all os (suc n) g' (omega arith) (simp length-set sized)
    ∙ ap (λ (x : List Op). x ++ os) (ops_logged n o.kind o.key o.amount g (omega arith) sized)
    ∙ append_assoc (ops_from n 0 g) (o ∷ []) os

-- ---- the first of n taken off

pub ops_unlogged :
    (n : ℕ) (g : List ℕ) → 0 < n → n ≤ log_room → length g ≡ log_words → ops_from (n - 1) 0 (unlogged n g) ≡ drop 1 (ops_from n 0 g)
ops_unlogged n g some room sized =
    ops_same (n - 1) 0 1 (unlogged n g) g
    (λ x lt. moved_word n g some room sized (3 * 0 + x) (3 * 1 + x) (omega arith) (omega arith))
    ∙ sym (ops_rest n g some)

-- ---- operations applied, and the copying

op_made : (o : Op) (w : List ℕ) → lawful o.kind o.key o.amount ≡ true → Fit w → operated o.kind o.key o.amount w ≡ after (o ∷ []) w
op_made o w law fit = ap (λ x. x.copy) (apply_made Walk o.kind o.key o.amount w (fit_fits w fit) law)

-- an operation of the log of a sound machine
pub op_applied :
    (g : List ℕ) (i : ℕ) (w : List ℕ) → i < log_room → lawful_at g i ≡ true → Fit w → log_applied g i w ≡ after (op_at g i ∷ []) w
op_applied g i w h law fit = rw (lt-ltb i log_room h, log_applied_by) (op_made (op_at g i) w law fit)

-- lawful operations, one after the other
pub all_made : (os : List Op) (w : List ℕ) → all_lawful os ≡ true → Fit w → operated_all os w ≡ after os w
all_made [] w law fit = refl
all_made (o ∷ os) w law fit =
    let h = both (lawful o.kind o.key o.amount) (all_lawful os) law in
    ap (operated_all os) (op_made o w h.0 fit)
    ∙ all_made os (after (o ∷ []) w) h.1 (fit_applied o.kind o.key o.amount w fit)

pub over_whole : (from to : List ℕ) → length from ≡ length to → over from to ≡ from
over_whole from to e = rw (← e, take-length) (rw (e, drop-length) (append-nil from))
