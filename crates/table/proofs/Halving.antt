-- Laws of halving, over any test: how much fuel does not matter, and where all behind one that passes pass too it finds what a walk finds.
use Prim.Native.Nat.{ℕ, zero, suc, ◌+◌, ◌-◌, ◌/◌, ◌≤◌, ◌<◌}
use mathlib.Core.Path.{◌≡◌, refl, sym, ap, ◌∙◌}
use mathlib.Core.Bool.{Bool, true, false}
use native.Mathlib.Omega.{arith}
use lib.Dec.{ltb}
use borrow.Author.Tests.{ltb-true, ltb-false, lt-ltb, le-ltb}
use Rattle.table.specs.Seek.{seek, halve}
use Rattle.table.proofs.Booleans.{clash}
use Rattle.table.proofs.Split.{split, by, under}
use Rattle.table.proofs.Seek.{seek_unique, seek_none}

module _ (p : ℕ → Bool) where
  -- ---- one halving

  pub halve_done : (f i n : ℕ) → n ≡ 0 → halve p f i n ≡ i
  unfolding halve
  halve_done zero i n z = refl
  halve_done (suc f) i n z = rw (halve, le-ltb 0 n (omega arith))

  pub halve_left : (f i n : ℕ) → 0 < n → p (i + n / 2) ≡ true → halve p (suc f) i n ≡ halve p f i (n / 2)
  unfolding halve
  halve_left f i n h e = rw (halve, lt-ltb 0 n h, e)

  pub halve_right : (f i n : ℕ) → 0 < n → p (i + n / 2) ≡ false → halve p (suc f) i n ≡ halve p f (i + n / 2 + 1) (n - n / 2 - 1)
  unfolding halve
  halve_right f i n h e = rw (halve, lt-ltb 0 n h, e)

  -- fuel for as many halvings as there are numbers is enough
  pub halve_fuel : (f g i n : ℕ) → n ≤ f → n ≤ g → halve p f i n ≡ halve p g i n
  halve_fuel zero g i n a b = halve_done zero i n (omega arith) ∙ sym (halve_done g i n (omega arith))
  halve_fuel (suc f) zero i n a b = halve_done (suc f) i n (omega arith) ∙ sym (halve_done zero i n (omega arith))
  halve_fuel (suc f) (suc g) i n a b =
      under 0 n
      (λ h.
      split (p (i + n / 2))
      (λ e. halve_left f i n h e ∙ halve_fuel f g i (n / 2) (omega arith) (omega arith) ∙ sym (halve_left g i n h e))
      (λ e.
      halve_right f i n h e ∙ halve_fuel f g (i + n / 2 + 1) (n - n / 2 - 1) (omega arith) (omega arith)
      ∙ sym (halve_right g i n h e)))
      (λ h. halve_done (suc f) i n (omega arith) ∙ sym (halve_done (suc g) i n (omega arith)))

  -- ---- the turns of a loop: what is left for it is n numbers from i on

  module _ (i n : ℕ) (h : 0 < n) where
    pub turn_left : p (i + n / 2) ≡ true → halve p n i n ≡ halve p (n / 2) i (n / 2)
    turn_left e =
        halve_fuel n (suc (n - 1)) i n (omega arith) (omega arith) ∙ halve_left (n - 1) i n h e
        ∙ halve_fuel (n - 1) (n / 2) i (n / 2) (omega arith) (omega arith)

    pub turn_right : p (i + n / 2) ≡ false → halve p n i n ≡ halve p ((n - 1) / 2) (i + n / 2 + 1) ((n - 1) / 2)
    turn_right e =
        let q : n - n / 2 - 1 ≡ (n - 1) / 2 = omega arith in
        halve_fuel n (suc (n - 1)) i n (omega arith) (omega arith) ∙ halve_right (n - 1) i n h e
        ∙ halve_fuel (n - 1) ((n - 1) / 2) (i + n / 2 + 1) (n - n / 2 - 1) (omega arith) (omega arith) ∙ ap (halve p ((n - 1) / 2) (i + n / 2 + 1)) q

  -- ---- what it finds

  -- among the first m numbers all behind one that passes pass too
  abbrev pub Climbs : ℕ → Type 0
  Climbs m = (i j : ℕ) → i ≤ j → j < m → p i ≡ true → p j ≡ true

  -- r parts the n numbers from i on in those that fail and those that pass
  record Parts (i n r : ℕ) : Type 0 where
    from : i ≤ r
    upto : r ≤ i + n
    fails : (j : ℕ) → i ≤ j → j < r → p j ≡ false
    passes : r < i + n → p r ≡ true

  halve_parts : (m f i n : ℕ) → Climbs m → i + n ≤ m → n ≤ f → Parts i n (halve p f i n)
  unfolding halve
  halve_parts m zero i n c b h =
      record { from = omega arith; upto = omega arith; fails = λ j x y. absurd (omega arith); passes = λ x. absurd (omega arith) }
  halve_parts m (suc f) i n c b h =
      by (Parts i n) (ltb 0 n)
      (λ e.
      let z : 0 < n = ltb-true 0 n e in
      by (Parts i n) (p (i + n / 2))
      (λ d.
      let t = halve_parts m f i (n / 2) c (omega arith) (omega arith) in
      record { from = t.from; upto = omega (arith, t.upto); fails = t.fails; passes = λ x. above z d t x })
      (λ d.
      let t = halve_parts m f (i + n / 2 + 1) (n - n / 2 - 1) c (omega arith) (omega arith) in
      record {
        from = omega (arith, t.from);
        upto = omega (arith, t.upto);
        fails = λ j x y. below z d t j x y;
        passes = λ x. t.passes (omega arith);
      }))
      (λ e.
      let z : n ≤ 0 = ltb-false 0 n e in
      record { from = omega arith; upto = omega arith; fails = λ j x y. absurd (omega arith); passes = λ x. absurd (omega arith) })
    where
      above : 0 < n → p (i + n / 2) ≡ true → Parts i (n / 2) (halve p f i (n / 2)) → halve p f i (n / 2) < i + n → p (halve p f i (n / 2)) ≡ true
      above z d t x =
          under (halve p f i (n / 2)) (i + n / 2) (λ l. t.passes l) (λ l. c (i + n / 2) (halve p f i (n / 2)) l (omega arith) d)

      below :
          0 < n → p (i + n / 2) ≡ false → Parts (i + n / 2 + 1) (n - n / 2 - 1) (halve p f (i + n / 2 + 1) (n - n / 2 - 1)) → (j : ℕ) →
          i ≤ j → j < halve p f (i + n / 2 + 1) (n - n / 2 - 1) → p j ≡ false
      below z d t j x y =
          under j (i + n / 2 + 1)
          (λ l. split (p j) (λ e. clash (c j (i + n / 2) (omega arith) (omega (arith, t.upto)) e) d) (λ e. e))
          (λ l. t.fails j l y)

  module _ (n : ℕ) (c : Climbs n) where
    pub halve_seek : halve p n 0 n ≡ seek p 0 n
    halve_seek =
        let r = halve p n 0 n in
        let t = halve_parts n n 0 n c (omega arith) (omega arith) in
        under r n
        (λ l. sym (seek_unique p n r l (t.passes (omega arith)) (λ j h. t.fails j (omega arith) h)))
        (λ l.
        let e : r ≡ n = omega (arith, t.upto) in
        e ∙ sym (seek_none p n (λ j h. t.fails j (omega arith) (omega arith))))
