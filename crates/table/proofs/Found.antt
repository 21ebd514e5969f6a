-- What is found by how it is searched: the pair and the place that the rules name, and, where the keys rise, those of a walk.
use Prim.Native.Nat.{ℕ, ◌+◌, ◌*◌, ◌≤◌, ◌<◌}
use mathlib.Core.Path.{◌≡◌, refl, sym, ap, ◌∙◌}
use mathlib.Core.Bool.{true, false, ◌&&◌}
use mathlib.Core.List.{List, []}
use native.Mathlib.Nat.{le_refl}
use native.Mathlib.Omega.{arith}
use lib.ListN.{set, take, drop}
use lib.Dec.{eqb, ltb}
use borrow.Author.Tests.{ltb-true, leb-true, eqb-true, lt-ltb, le-ltb, le-leb, eq-eqb, ne_eqb}
use Rattle.table.specs.declared.Answer.TheVariants.{Done, Operation}
use Rattle.table.specs.declared.Search.{Search}
use Rattle.table.specs.declared.Search.TheVariants.{Walk, Halve}
use Rattle.table.specs.Copy.{pairs, entries, spill, key_at, count_at, passes, pair_of, place_of, present, halved, has_key, find_by, pair_by, place_by, present_by, grown, inserted, removed, added, added_by, dropped, dropped_by, zeros, applied, applied_by, lawful, fitness, fits, Fit, Holds, apply_rule, apply_by, look_rule, look_by}
use Rattle.table.specs.Order.{Rising}
use Rattle.table.proofs.Booleans.{both, clash}
use Rattle.table.proofs.Split.{split, under}
use Rattle.table.proofs.Seek.{seek_found, seek_none}
use Rattle.table.proofs.Halving.{halve_seek}
use Rattle.table.proofs.CopyFind.{Place, pair_of_pair, place_place_of}

pub fit_holds : (w : List ℕ) → Fit w → Holds w
fit_holds w f = record { room = omega (arith, f.sized, f.within); within = f.within }

module _ (key : ℕ) (w : List ℕ) where
  -- ---- the test at what was found

  pub has_key_lem : (i : ℕ) → i < entries w → key_at w i ≡ key → has_key key w i ≡ true
  has_key_lem i l e = λ j. lt-ltb i (entries w) l j && eq-eqb (key_at w i) key e j

  pub has_used : (i : ℕ) → has_key key w i ≡ true → (i < entries w) × (key_at w i ≡ key)
  has_used i h =
      let b = both (ltb i (entries w)) (eqb (key_at w i) key) h in
      (ltb-true _ _ b.0, eqb-true _ _ b.1)

  pub pair_there : (how : Search) → has_key key w (find_by how key w) ≡ true → pair_by how key w ≡ find_by how key w
  pair_there Walk h = refl
  pair_there Halve h = rw (h, pair_by)

  none_there : has_key key w (halved key w) ≡ false → pair_by Halve key w ≡ entries w
  none_there h = rw (h, pair_by)

  pub there : (how : Search) → has_key key w (find_by how key w) ≡ true → present_by how key w ≡ true
  there how h = rw (pair_there how h) (lt-ltb _ _ (has_used (find_by how key w) h).0)

  pub not_there : (how : Search) → has_key key w (find_by how key w) ≡ false → present_by how key w ≡ false
  not_there Walk h =
      split (present key w)
      (λ e.
      let l : pair_of key w < entries w = ltb-true _ _ e in
      clash (has_key_lem (pair_of key w) l (eqb-true _ _ (seek_found _ _ l))) h)
      (λ e. e)
  not_there Halve h = rw (none_there h) (le-ltb (entries w) _ (le_refl _))

  -- ---- where the keys rise

  module _ (r : Rising w) where
    climbs : (i j : ℕ) → i ≤ j → j < entries w → passes false key (key_at w i) ≡ true → passes false key (key_at w j) ≡ true
    climbs i j l b e =
        let a : key ≤ key_at w i = leb-true _ _ e in
        under i j (λ n. le-leb key (key_at w j) (omega (arith, r i j n b))) (λ n. let q : i ≡ j = omega arith in rw q at e)

    pub halved_place : halved key w ≡ place_of key w
    halved_place = halve_seek (λ i. passes false key (key_at w i)) (entries w) climbs

    pub place_rising : (how : Search) → place_by how key w ≡ place_of key w
    place_rising Walk = refl
    place_rising Halve = halved_place

    -- the pair at the key's place is its own, or it has none
    pair_halved : pair_by Halve key w ≡ pair_of key w
    pair_halved =
        let i = halved key w in
        let p : Place key i w = rw halved_place (place_place_of key w) in
        split (has_key key w i)
        (λ h.
        let u = has_used i h in
        pair_there Halve h ∙ (sym (pair_of_pair key w i (record { used = u.0; same = u.1; earlier = λ j l. omega (arith, p.smaller j l) }))))
        (λ h.
        none_there h
        ∙ (sym (seek_none _ _ (λ j b. ne_eqb (key_at w j) key
        (λ e. under j i (λ l. omega (arith, p.smaller j l))
        (λ l. under i j
        (λ n. omega (arith, p.larger (omega arith), r i j n b))
        (λ n. let q : j ≡ i = omega arith in clash (has_key_lem i (omega arith) (ap (key_at w) (sym q) ∙ e)) h)))))))

    pub pair_rising : (how : Search) → pair_by how key w ≡ pair_of key w
    pair_rising Walk = refl
    pair_rising Halve = pair_halved

    -- ---- the calls

    pub look_rising : (how : Search) → look_by how key w ≡ look_rule key w
    unfolding look_by look_rule
    look_rising how =
        ap (λ (i : ℕ). elim (fits w) [ true ↦ elim (ltb i (entries w)) [ true ↦ take 2 (drop (2 * i + 2) w) | false ↦ [] ] | false ↦ [] ]) (pair_rising how)

    added_rising : (how : Search) (amount : ℕ) → added_by how key amount w ≡ added key amount w
    unfolding added_by
    added_rising how amount =
        λ k.
        elim (ltb (pair_rising how k) (entries w)) [
          | true ↦ set w (2 * pair_rising how k + 3) (grown (count_at w (pair_rising how k)) amount)
          | false ↦
              elim (ltb (entries w) pairs) [ true ↦ inserted (place_rising how k) key amount w | false ↦ set w 1 (grown (spill w) 1) ]
        ]

    dropped_rising : (how : Search) → dropped_by how key w ≡ dropped key w
    unfolding dropped_by
    dropped_rising how = ap (λ (i : ℕ). elim (ltb i (entries w)) [ true ↦ removed i w | false ↦ w ]) (pair_rising how)

    applied_rising : (how : Search) (kind amount : ℕ) → applied_by how kind key amount w ≡ applied kind key amount w
    unfolding applied_by
    applied_rising how kind amount =
        λ k.
        elim (eqb kind 1) [
          | true ↦ added_rising how amount k
          | false ↦ elim (eqb kind 2) [ true ↦ dropped_rising how k | false ↦ elim (eqb kind 3) [ true ↦ zeros w | false ↦ w ] ]
        ]

    pub apply_rising : (how : Search) (kind amount : ℕ) → apply_by how kind key amount w ≡ apply_rule kind key amount w
    unfolding apply_by
    apply_rising how kind amount =
        λ k.
        elim (fits w) [
          | true ↦
              elim (lawful kind key amount) [
                | true ↦ record { answer = Done; copy = applied_rising how kind amount k }
                | false ↦ record { answer = Operation; copy = w }
              ]
          | false ↦ record { answer = fitness w; copy = w }
        ]
