-- Operations in words: three words at a time.
use Rattle.std.specs.Simd.{first_chunks}
use Rattle.std.proofs.Math.Bool.{and_assoc}
use Rattle.std.proofs.lemmas.List.{at_drop_more, drop_all, length-drop}
use Rattle.std.proofs.Common.{eqb, eqb-true, append-nil, ◌*◌, ◌++◌, slice_index_or, ◌≡◌, ℕ, zero, suc, ◌+◌, ◌/◌, ◌<◌, ◌≤◌, Bool, true, false, ◌&&◌, List, [], ◌∷◌, length, get_or, drop, sym, refl, ap, ◌∙◌, arith}
use Rattle.table.specs.Copy.{lawful}
use Rattle.table.specs.Order.{Op, op}
use Rattle.table.proofs.Booleans.{both}
use Rattle.table.specs.declared.Search.{Search}
use Rattle.write.specs.Call.{ops_in}
use Rattle.write.specs.Begins.{all_lawful, operated_all_by, logged_all}

pub ops_length : (ws : List ℕ) → length (ops_in ws) ≡ (length ws + 2) / 3
ops_length [] = refl
ops_length (a ∷ []) = refl
ops_length (a ∷ b ∷ []) = refl
ops_length (a ∷ b ∷ c ∷ ws) = let h = ops_length ws in omega arith

-- operations of three words each
abbrev pub made : List (List ℕ) → List Op
made [] = []
made (x ∷ xs) = op (get_or x 0 0) (get_or x 1 0) (get_or x 2 0) ∷ made xs

pub made_length : (xs : List (List ℕ)) → length (made xs) ≡ length xs
made_length [] = refl
made_length (x ∷ xs) = ap (λ (n : ℕ). suc n) (made_length xs)

-- the operations that are whole
abbrev pub whole : List ℕ → List (List ℕ)
whole ws = first_chunks 3 (length ws / 3) ws

-- the first k, and what is behind them
split_at : (k : ℕ) (ws : List ℕ) → k * 3 ≤ length ws → ops_in ws ≡ made (first_chunks 3 k ws) ++ ops_in (drop (k * 3) ws)
split_at zero ws h = refl
split_at (suc k) [] h = absurd (omega arith)
split_at (suc k) (a ∷ []) h = absurd (omega arith)
split_at (suc k) (a ∷ b ∷ []) h = absurd (omega arith)
split_at (suc k) (a ∷ b ∷ c ∷ ws) h =
    ap (λ (os : List Op). op a b c ∷ os) (split_at k ws (omega arith))
    ∙ ap (λ (n : ℕ). op a b c ∷ (made (first_chunks 3 k ws) ++ ops_in (drop n (a ∷ b ∷ c ∷ ws)))) {x = suc (suc (suc (k * 3)))} {y = suc k * 3} (omega arith)

lawful_both : (os ps : List Op) → all_lawful (os ++ ps) ≡ (all_lawful os && all_lawful ps)
lawful_both [] ps = refl
lawful_both (o ∷ os) ps =
    let b = lawful o.kind o.key o.amount in
    ap (◌&&◌ b) (lawful_both os ps) ∙ sym (and_assoc b (all_lawful os) (all_lawful ps))

-- one that is cut short is bad
cut_short : (ws : List ℕ) → length ws < 3 → all_lawful (ops_in ws) ≡ eqb (length ws) 0
unfolding lawful
cut_short [] h = refl
cut_short (a ∷ []) h = refl
cut_short (a ∷ b ∷ []) h = refl
cut_short (a ∷ b ∷ c ∷ ws) h = absurd (omega arith)

no_words : (ws : List ℕ) → length ws ≡ 0 → ops_in ws ≡ []
no_words [] h = refl
no_words (a ∷ ws) h = absurd (omega arith)

module _ (ws : List ℕ) where
  abbrev rest : List ℕ
  rest = drop (length ws / 3 * 3) ws

  parted : ops_in ws ≡ made (whole ws) ++ ops_in rest
  parted = split_at (length ws / 3) ws (omega arith)

  lawful_parts : all_lawful (ops_in ws) ≡ (all_lawful (made (whole ws)) && eqb (length rest) 0)
  lawful_parts =
      ap all_lawful parted ∙ lawful_both (made (whole ws)) (ops_in rest)
      ∙ ap (◌&&◌ (all_lawful (made (whole ws)))) (cut_short rest (omega (arith, length-drop (length ws / 3 * 3) ws)))

  -- all are whole where all are lawful
  pub all_whole : all_lawful (ops_in ws) ≡ true → ops_in ws ≡ made (whole ws)
  all_whole e =
      let q = both (all_lawful (made (whole ws))) (eqb (length rest) 0) (sym lawful_parts ∙ e) in
      parted ∙ ap (◌++◌ (made (whole ws))) (no_words rest (eqb-true (length rest) 0 q.1)) ∙ append-nil (made (whole ws))

  -- ---- a walk over those that are whole, before the one at i

  module _ {xs : List (List ℕ)} (x : xs ≡ whole ws) (i : ℕ) (seen : all_lawful (made (drop i xs)) ≡ all_lawful (made xs)) where
    pub lawful_ends : length xs ≤ i → {ys : List ℕ} → ys ≡ rest → eqb (length ys) 0 ≡ all_lawful (ops_in ws)
    lawful_ends h {ys} y =
        sym (lawful_parts ∙ (λ j. all_lawful (made (sym x j)) && eqb (length (sym y j)) 0)
        ∙ ap (λ (b : Bool). b && eqb (length ys) 0) (sym seen ∙ ap (λ (zs : List (List ℕ)). all_lawful (made zs)) (drop_all i xs h)))

    module _ (d : List ℕ) (h : i < length xs) where
      pub lawful_stops : (let o = slice_index_or xs i d in lawful (get_or o 0 0) (get_or o 1 0) (get_or o 2 0)) ≡ false → false ≡ all_lawful (ops_in ws)
      lawful_stops e =
          sym (lawful_parts ∙ ap (λ (zs : List (List ℕ)). all_lawful (made zs) && eqb (length rest) 0) (sym x)
          ∙ ap (λ (b : Bool). b && eqb (length rest) 0)
          (sym seen ∙ at_drop_more (λ (zs : List (List ℕ)). all_lawful (made zs)) xs i d h
          ∙ ap (λ (b : Bool). b && all_lawful (made (drop (i + 1) xs))) e))

  module _ (e : all_lawful (ops_in ws) ≡ true) {xs : List (List ℕ)} (x : xs ≡ whole ws) where
    all_made : made xs ≡ ops_in ws
    all_made = ap made x ∙ sym (all_whole e)

    pub made_many : length xs ≡ length (ops_in ws)
    made_many = sym (made_length xs) ∙ ap (λ (os : List Op). length os) all_made

    module _ (i : ℕ) (h : length xs ≤ i) where
      pub operated_ends :
          (how : Search) (v : List ℕ) {w : List ℕ} →
          operated_all_by how (made (drop i xs)) w ≡ operated_all_by how (made xs) v → w ≡ operated_all_by how (ops_in ws) v
      operated_ends how v {w} s =
          sym (ap (λ (zs : List (List ℕ)). operated_all_by how (made zs) w) (drop_all i xs h)) ∙ s
          ∙ ap (λ (os : List Op). operated_all_by how os v) all_made

      pub logged_ends :
          (n m : ℕ) (v : List ℕ) {w : List ℕ} →
          logged_all m (made (drop i xs)) w ≡ logged_all n (made xs) v → w ≡ logged_all n (ops_in ws) v
      logged_ends n m v {w} s =
          sym (ap (λ (zs : List (List ℕ)). logged_all m (made zs) w) (drop_all i xs h)) ∙ s
          ∙ ap (λ (os : List Op). logged_all n os v) all_made
