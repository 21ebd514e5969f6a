-- Laws of many look ups at once: a view and the copy that it was taken from have the same pairs, and so the same is found in both.
use Prim.Native.Nat.{ℕ, ◌+◌, ◌-◌, ◌*◌, ◌≤◌, ◌<◌}
use mathlib.Core.Path.{◌≡◌, refl, sym, ap, ◌∙◌}
use mathlib.Core.Bool.{true, false}
use mathlib.Core.List.{List, [], ◌∷◌, ◌++◌, append_assoc, append-nil}
use mathlib.Core.Option.{some}
use native.Mathlib.Numerals.{add-one}
use native.Mathlib.Omega.{arith}
use lib.ListN.{length, get_or, take, drop, set, replicate, length-append, length-drop, length-replicate, drop_of_length-le, get_or-append, get_or-eq_default}
use lib.Seq.{length-take-le, take_all, take_at, drop-cons, get_or-take, get_or-append-add}
use borrow.Rule.Slice.PartMut.{put_mid, same_len_mid}
use lib.Dec.{eqb}
use borrow.Author.Tests.{eq-eqb, le-leb, lt-leb}
use Rattle.table.specs.declared.Answer.TheVariants.{Done, Length, Broken}
use Rattle.table.specs.declared.Search.{Search}
use Rattle.table.specs.declared.Search.TheVariants.{Walk, Halve}
use Rattle.table.specs.Copy.{pairs, words, entries, key_at, count_at, used_of, pair_of, present, has_key, find_by, pair_by, fits, Fit, look_rule, used_rule}
use Rattle.table.specs.Find.{Found, Missing}
use Rattle.table.specs.Order.{Rising}
use Rattle.table.specs.Many.{is_view, filled, told, told_all, Ready, look_all_rule}
use Rattle.table.proofs.Map.{found}
use Rattle.table.proofs.Split.{under}
use Rattle.table.proofs.CopyWords.{get_d_zeros}
use Rattle.table.proofs.CopyFind.{Pair, pair_present, absent_not_present, found_pair, found_absent, present_cases}
use Rattle.table.proofs.CopyLook.{look_present, look_absent}
use Rattle.table.proofs.Found.{pair_rising, pair_there, there, not_there}
use Rattle.table.proofs.Cases.{used_unfit}

-- ---- the order of the first pairs

abbrev pub RisingTo : ℕ → List ℕ → Type 0
RisingTo n w = (i j : ℕ) → i < j → j < n → key_at w i < key_at w j

-- ---- copies with the same pairs

-- v has the used words of w
pub record Alike (v w : List ℕ) : Type 0 where
  pub many : entries v ≡ entries w
  pub same : (x : ℕ) → x < 2 * entries w + 2 → get_or v x 0 ≡ get_or w x 0

module _ (v w : List ℕ) (s : Alike v w) where
  pub found_alike : (key : ℕ) → found key v ≡ found key w
  found_alike key =
      present_cases key w (found key v ≡ found key w)
      (λ i p.
      let q : Pair key i v = record {
        used = omega (arith, s.many, p.used);
        same = s.same (2 * i + 2) (omega (arith, p.used)) ∙ p.same;
        earlier = λ j l. omega (arith, s.same (2 * j + 2) (omega (arith, p.used)), p.earlier j l);
      } in
      found_pair key v i q ∙ ap some (s.same (2 * i + 3) (omega (arith, p.used))) ∙ sym (found_pair key w i p))
      (λ a.
      found_absent key v (λ j l. let b : j < entries w = omega (arith, s.many) in omega (arith, s.same (2 * j + 2) (omega arith), a j b))
      ∙ sym (found_absent key w a))

  pub look_alike : Fit v → Fit w → (key : ℕ) → look_rule key v ≡ look_rule key w
  look_alike f g key =
      present_cases key w (look_rule key v ≡ look_rule key w)
      (λ i p.
      look_present key (count_at w i) v f (found_alike key ∙ found_pair key w i p)
      ∙ sym (look_present key (count_at w i) w g (found_pair key w i p)))
      (λ a. look_absent key v (found_alike key ∙ found_absent key w a) ∙ sym (look_absent key w (found_absent key w a)))

-- ---- a view that is filled up

pub get_d_filled : (v : List ℕ) (x : ℕ) → get_or (filled v) x 0 ≡ get_or v x 0
get_d_filled v x =
    under x (length v) (λ l. get_or-append v _ 0 x l)
    (λ l.
    let e : x ≡ length v + (x - length v) = omega arith in
    ap (λ (k : ℕ). get_or (filled v) k 0) e ∙ get_or-append-add v (replicate (words - length v) 0) (x - length v) 0
    ∙ get_d_zeros (words - length v) (x - length v) ∙ sym (get_or-eq_default v 0 l))

pub filled_alike : (v : List ℕ) → Alike (filled v) v
filled_alike v = record { many = get_d_filled v 0; same = λ x l. get_d_filled v x }

pub filled_fit : (v : List ℕ) → length v ≤ words → entries v ≤ pairs → Fit (filled v)
filled_fit v l n = record {
  sized = simp (length-append, length-replicate) (omega arith);
  within = rw (get_d_filled v 0) n;
}

-- ---- what is told of a key

pair_ready : (how : Search) (key : ℕ) (v : List ℕ) → (how ≡ Halve → Rising v) → pair_by how key v ≡ pair_of key v
pair_ready Walk key v r = refl
pair_ready Halve key v r = pair_rising key v (r refl) Halve

found_filled : (key : ℕ) (v : List ℕ) → found key (filled v) ≡ found key v
found_filled key v = found_alike (filled v) v (filled_alike v) key

module _ {how : Search} {key : ℕ} {v : List ℕ} {i : ℕ} (r : Ready how v) where
  pub told_there : Found how key v i → told (look_rule key (filled v)) ≡ 1 ∷ count_at v i ∷ []
  told_there f =
      let way : pair_by how key v ≡ pair_of key v = pair_ready how key v r.rising in
      let h : has_key key v (find_by how key v) ≡ true = rw f.at at f.has in
      let p : present key v ≡ true = rw way at (there key v how h) in
      let q : pair_of key v ≡ i = sym way ∙ pair_there key v how h ∙ sym f.at in
      ap told
      (look_present key (count_at v i) (filled v) (filled_fit v r.upto r.holds.within)
      (found_filled key v ∙ found_pair key v (pair_of key v) (pair_present key v p) ∙ ap (λ (x : ℕ). some (count_at v x)) q))

  pub told_absent : Missing how key v i → told (look_rule key (filled v)) ≡ 0 ∷ 0 ∷ []
  told_absent m =
      let way : pair_by how key v ≡ pair_of key v = pair_ready how key v r.rising in
      let h : has_key key v (find_by how key v) ≡ false = rw m.at at m.none in
      let p : present key v ≡ false = rw way at (not_there key v how h) in
      ap told (look_absent key (filled v) (found_filled key v ∙ found_absent key v (absent_not_present key v p)))

-- ---- the output

pub two_set : (a b : ℕ) (o : List ℕ) → length o ≡ 2 → set (set o 0 a) 1 b ≡ a ∷ b ∷ []
two_set a b [] h = absurd (omega arith)
two_set a b (x ∷ []) h = absurd (omega arith)
two_set a b (x ∷ y ∷ []) h = refl
two_set a b (x ∷ y ∷ z ∷ o) h = absurd (omega arith)

length_told : (l : List ℕ) → length (told l) ≡ 2
length_told [] = refl
length_told (key ∷ count) = refl

-- the words of the first i keys are told, and the words of key i are put behind them
module _ (i : ℕ) (keys w out : List ℕ) (l : i < length keys) (room : 2 * i + 2 ≤ length out) where
  abbrev one : List ℕ
  one = told (look_rule (get_or keys i 0) w)

  pub told_length : length (put_mid (2 * i) (2 * i + 2 - 2 * i) out one) ≡ length out
  told_length =
      let e : 2 * i + 2 - 2 * i ≡ 2 = omega arith in
      same_len_mid (2 * i) (2 * i + 2 - 2 * i) out one
      (rw e (length_told (look_rule (get_or keys i 0) w) ∙ sym (length-take-le 2 (drop (2 * i) out) (simp length-drop (omega arith)))))

  pub told_next :
      told_all keys w ≡ take (2 * i) out ++ told_all (drop i keys) w →
      told_all keys w ≡ take (2 * (i + 1)) (put_mid (2 * i) (2 * i + 2 - 2 * i) out one) ++ told_all (drop (i + 1) keys) w
  told_next h =
      let e : length (take (2 * i) out ++ one) ≡ 2 * (i + 1) =
      simp (length-append, length_told, length-take-le (2 * i) out (omega arith)) (omega arith) in
      rw (← append_assoc (take (2 * i) out) one _, take_at (take (2 * i) out ++ one) _ (2 * (i + 1)) e, add-one i, append_assoc (take (2 * i) out) one)
      (h ∙ ap (λ (ks : List ℕ). take (2 * i) out ++ told_all ks w) (drop-cons keys i 0 l))

-- no key is left
pub told_end :
    (i : ℕ) (keys w out : List ℕ) → length keys ≤ i → length out ≤ 2 * i → told_all keys w ≡ take (2 * i) out ++ told_all (drop i keys) w →
    out ≡ told_all keys w
told_end i keys w out l n h = sym (h ∙ rw (take_all (2 * i) out n, drop_of_length-le keys l, append-nil))

-- ---- the call, case by case

module _ (v keys out : List ℕ) where
  pub all_no_view : is_view v ≡ false → look_all_rule v keys out ≡ record { answer = Length; copy = out }
  unfolding look_all_rule
  all_no_view h = rw (h, look_all_rule)

  pub all_no_room :
      is_view v ≡ true → eqb (length out) (2 * length keys) ≡ false → look_all_rule v keys out ≡ record { answer = Length; copy = out }
  unfolding look_all_rule
  all_no_room h o = rw (h, o, look_all_rule)

  pub all_broken :
      is_view v ≡ true → eqb (length out) (2 * length keys) ≡ true → pairs < entries v →
      look_all_rule v keys out ≡ record { answer = Broken; copy = out }
  unfolding look_all_rule
  all_broken h o b = rw (h, o, lt-leb (entries v) pairs b, look_all_rule)

  pub all_told :
      is_view v ≡ true → eqb (length out) (2 * length keys) ≡ true → entries v ≤ pairs →
      look_all_rule v keys out ≡ record { answer = Done; copy = told_all keys (filled v) }
  unfolding look_all_rule
  all_told h o b = rw (h, o, le-leb (entries v) pairs b, look_all_rule)

-- ---- the view of a copy

module _ (w : List ℕ) (f : Fit w) where
  length_used : length (used_of w) ≡ 2 * entries w + 2
  length_used = length-take-le (2 * entries w + 2) w (omega (arith, f.sized, f.within))

  entries_used : entries (used_of w) ≡ entries w
  entries_used = get_or-take (2 * entries w + 2) w 0 0 (omega arith)

  used_view : is_view (used_of w) ≡ true
  used_view = eq-eqb (length (used_of w)) (2 * entries (used_of w) + 2) (omega (arith, length_used, entries_used))

  used_alike : Alike (filled (used_of w)) w
  used_alike = record {
    many = get_d_filled (used_of w) 0 ∙ entries_used;
    same = λ x l. get_d_filled (used_of w) x ∙ get_or-take (2 * entries w + 2) w x 0 l;
  }

  used_fit : Fit (filled (used_of w))
  used_fit = filled_fit (used_of w) (omega (arith, length_used, f.within)) (omega (arith, entries_used, f.within))

  -- in the view of a copy each look up gives what it gives in the copy
  pub look_view : (key : ℕ) → look_rule key (filled (used_of w)) ≡ look_rule key w
  look_view = look_alike (filled (used_of w)) w used_alike used_fit f

  told_view : (keys : List ℕ) → told_all keys (filled (used_of w)) ≡ told_all keys w
  told_view [] = refl
  told_view (key ∷ keys) = λ k. told (look_view key k) ++ told_view keys k

  -- and so does each of many at once
  pub look_all_view :
      (keys out : List ℕ) → length out ≡ 2 * length keys → look_all_rule (used_of w) keys out ≡ record { answer = Done; copy = told_all keys w }
  look_all_view keys out n =
      all_told (used_of w) keys out used_view (eq-eqb (length out) (2 * length keys) n) (omega (arith, entries_used, f.within))
      ∙ ap (λ (l : List ℕ). record { answer = Done; copy = l }) (told_view keys)

-- a copy that is unfit has no view
pub look_all_unfit : (w keys out : List ℕ) → fits w ≡ false → look_all_rule (used_rule w) keys out ≡ record { answer = Length; copy = out }
look_all_unfit w keys out h = rw (used_unfit w h) (all_no_view [] keys out refl)
