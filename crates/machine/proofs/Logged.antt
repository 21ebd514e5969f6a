-- An operation of the log, by its three words.
use Rattle.std.proofs.Common.{◌≡◌, ℕ, zero, suc, ◌+◌, ◌*◌, ◌<◌, ◌≤◌, List, take, drop, get_or, ap, ◌∙◌, arith}
use Rattle.std.proofs.lemmas.List.{get_or-take, get_or-drop}
use Rattle.std.specs.Simd.{first_chunks}
use Rattle.table.specs.Copy.{lawful}
use Rattle.read.specs.Machine.{lawful_at}

word_of :
    (k i j : ℕ) (g : List ℕ) (d : List ℕ) → i < k → j < 3 → get_or (get_or (first_chunks 3 k g) i d) j 0 ≡ get_or g (3 * i + j) 0
word_of zero i j g d h b = absurd (omega arith)
word_of (suc k) zero j g d h b = get_or-take 3 g j 0 b ∙ ap (λ (n : ℕ). get_or g n 0) {x = j} {y = 3 * 0 + j} (omega arith)
word_of (suc k) (suc i) j g d h b =
    word_of k i j (drop 3 g) d (omega arith) b ∙ get_or-drop 3 g (3 * i + j) 0
    ∙ ap (λ (n : ℕ). get_or g n 0) {x = 3 + (3 * i + j)} {y = 3 * suc i + j} (omega arith)

module _ (n k i : ℕ) (g : List ℕ) (d : List ℕ) {os : List (List ℕ)} (x : os ≡ first_chunks 3 k g) (h : i < n) (b : n ≤ k) where
  abbrev here : List ℕ
  here = get_or (take n os) i d

  word_here : (j : ℕ) → j < 3 → get_or here j 0 ≡ get_or g (3 * i + j) 0
  word_here j c =
      ap (λ (o : List ℕ). get_or o j 0) (get_or-take n os i d h ∙ ap (λ (os : List (List ℕ)). get_or os i d) x)
      ∙ word_of k i j g d (omega arith) c

  pub lawful_here : lawful (get_or here 0 0) (get_or here 1 0) (get_or here 2 0) ≡ lawful_at g i
  lawful_here =
      (λ m. lawful (word_here 0 (omega arith) m) (word_here 1 (omega arith) m) (word_here 2 (omega arith) m))
      ∙ ap (λ (w : ℕ). lawful (get_or g w 0) (get_or g (3 * i + 1) 0) (get_or g (3 * i + 2) 0)) {x = 3 * i + 0} {y = 3 * i} (omega arith)
