-- What the tests of a schedule's bytes say of the rules: the mark, a record that is not bad, and a file with nothing wrong.
use Prim.Native.Nat.{ℕ, zero, suc, ◌+◌, ◌-◌, ◌%◌, ◌≤◌, ◌<◌}
use mathlib.Core.Path.{◌≡◌, refl, sym, ap, ◌∙◌}
use mathlib.Core.Bool.{Bool, true, false, not, ◌&&◌}
use mathlib.Core.List.{List, [], ◌∷◌}
use native.Mathlib.Nat.{zero-add}
use native.Mathlib.Omega.{arith}
use borrow.Author.Tests.{lt-ltb, le-ltb, le-leb, lt-leb, eq-eqb, ne_eqb, leb-true, eqb-true, eqb-false, not-true, not-false}
use lib.Dec.{eqb, leb}
use lib.ListN.{length, get_or, take}
use lib.Pointwise.{pointwise}
use Rattle.table.proofs.Split.{split, under}
use Rattle.table.proofs.Booleans.{both}
use Rattle.table.specs.Seek.{seek}
use Rattle.std.specs.List.{list_all, range_with_len}
use Rattle.table.proofs.Seek.{seek_zero, seek_suc_here, seek_suc_next, seek_bounds, seek_before, seek_found, seek_none}
use Rattle.std.specs.Prelude.{Ok}
use Rattle.format.specs.declared.Fields.{Fields}
use Rattle.format.specs.declared.Fault.{Fault}
use Rattle.format.specs.declared.Fault.TheVariants.{Unmarked, Version, Torn, Bad, Crowded}
use Rattle.format.specs.Schedule.{number_at, head_bytes, record_bytes, count, start_of, marked, version_of, fields_at, members_in, members_at, entries_in, other_at, first_other, bad_at, first_bad, fault_number, flaw, flaw_in, flaw_of, number_of}

-- ---- the mark

module _ (s : List ℕ) where
  pub unmarked_short : length s < 5 → marked s ≡ false
  unmarked_short h = rw (lt-leb 5 (length s) h)

and_true : (b : Bool) → (b && true) ≡ b
and_true true = refl
and_true false = refl

turned : (a b : ℕ) → eqb a b ≡ eqb b a
turned a b = split (eqb b a) (λ e. eq-eqb a b (sym (eqb-true b a e)) ∙ sym e) (λ e. ne_eqb a b (λ p. eqb-false b a e (sym p)) ∙ sym e)

-- how a file begins that is marked
abbrev pub starts : List ℕ → Bool
starts s = pointwise eqb (76 ∷ 82 ∷ 84 ∷ []) (take 3 s)

pub marked_start : (s : List ℕ) → 5 ≤ length s → marked s ≡ starts s
marked_start [] h = absurd (omega arith)
marked_start (a ∷ []) h = absurd (omega arith)
marked_start (a ∷ b ∷ []) h = absurd (omega arith)
marked_start (a ∷ b ∷ c ∷ s) h =
    rw (le-leb 5 (length (a ∷ b ∷ c ∷ s)) h) (λ j. turned a 76 j && (turned b 82 j && (turned c 84 ∙ sym (and_true (eqb 84 c))) j))

-- another start, however long the file is
pub unmarked_start : (s : List ℕ) → starts s ≡ false → marked s ≡ false
unmarked_start s h = under (length s) 5 (unmarked_short s) (λ l. marked_start s l ∙ h)

-- ---- a record that is not bad

-- by the record's fields
pub members_read : (s : List ℕ) (at : ℕ) {m : ℕ} {f : Fields} → m ≡ members_in f → f ≡ fields_at s at → m ≡ members_at s at
unfolding members_at
members_read s at e p = e ∙ ap members_in p

module _ (s : List ℕ) (at : ℕ) where
  pub members_batch : get_or s at 0 ≡ 15 → members_at s at ≡ number_at 8 s (at + 12)
  unfolding members_at
  members_batch e = rw (eq-eqb (get_or s at 0) 15 e, members_in)

  pub members_none : (get_or s at 0 ≡ 15 → ⊥) → members_at s at ≡ 0
  unfolding members_at
  members_none n = rw (ne_eqb (get_or s at 0) 15 n, members_in)

-- all pass where the first that does not is behind them
all_pass : (f : ℕ → Bool) (a m : ℕ) → list_all f (range_with_len a m) ≡ eqb (seek (λ j. not (f j)) a m) (a + m)
all_pass f a zero = sym (ap (λ (r : ℕ). eqb r (a + 0)) (seek_zero (λ j. not (f j)) a) ∙ eq-eqb a (a + 0) (omega arith))
all_pass f a (suc m) =
    split (f a)
    (λ e.
    let here : list_all f (range_with_len a (suc m)) ≡ list_all f (range_with_len (a + 1) m) = rw e in
    let next : seek (λ j. not (f j)) a (suc m) ≡ seek (λ j. not (f j)) (a + 1) m =
    seek_suc_next (λ j. not (f j)) a m (ap not e) ∙ ap (λ (b : ℕ). seek (λ j. not (f j)) b m) (omega arith) in
    let end : a + 1 + m ≡ a + suc m = omega arith in
    here ∙ all_pass f (a + 1) m ∙ (λ j. eqb (sym next j) (end j)))
    (λ e.
    let here : list_all f (range_with_len a (suc m)) ≡ false = rw e in
    here
    ∙ sym
    (ap (λ (r : ℕ). eqb r (a + suc m)) (seek_suc_here (λ j. not (f j)) a m (ap not e))
    ∙ ne_eqb a (a + suc m) (λ p. omega (arith, p))))

pub all_appends_first :
    (s : List ℕ) (i m : ℕ) → list_all (λ j. eqb (get_or s (start_of (i + 1 + j)) 0) 8) (range_with_len 0 m) ≡ eqb (first_other s i m) m
all_appends_first s i m = all_pass (λ j. eqb (get_or s (start_of (i + 1 + j)) 0) 8) 0 m ∙ ap (eqb (first_other s i m)) (zero-add m)

-- one of the calls, with as many appends behind it as belong to it
pub record Good (s : List ℕ) (i : ℕ) : Type 0 where
  pub low : 1 ≤ get_or s (start_of i) 0
  pub high : get_or s (start_of i) 0 ≤ 15
  pub behind : members_at s (start_of i) ≤ count s - i - 1
  pub appends : (j : ℕ) → j < members_at s (start_of i) → get_or s (start_of (i + 1 + j)) 0 ≡ 8

module _ (s : List ℕ) (i : ℕ) where
  abbrev call : ℕ
  call = get_or s (start_of i) 0

  abbrev members : ℕ
  members = members_at s (start_of i)

  pub bad_low : call < 1 → bad_at s i ≡ true
  unfolding bad_at
  bad_low h = rw (lt-leb 1 call h, bad_at)

  module _ (l : 1 ≤ call) where
    pub bad_high : 15 < call → bad_at s i ≡ true
    unfolding bad_at
    bad_high h = rw (le-leb 1 call l, lt-leb call 15 h, bad_at)

    module _ (h : call ≤ 15) where
      pub bad_few : count s - i - 1 < members → bad_at s i ≡ true
      unfolding bad_at
      bad_few f = rw (le-leb 1 call l, le-leb call 15 h, lt-leb members (count s - i - 1) f, bad_at)

      pub bad_rest : members ≤ count s - i - 1 → bad_at s i ≡ not (eqb (first_other s i members) members)
      unfolding bad_at
      bad_rest f = rw (le-leb 1 call l, le-leb call 15 h, le-leb members (count s - i - 1) f, bad_at)

  pub good_not_bad : Good s i → bad_at s i ≡ false
  good_not_bad g =
      bad_rest g.low g.high g.behind
      ∙ ap not (eq-eqb (first_other s i members) members (seek_none (other_at s i) members (λ j h. ap not (eq-eqb _ 8 (g.appends j h)))))

  pub not_bad_good : bad_at s i ≡ false → Good s i
  unfolding bad_at
  not_bad_good e =
      let a = both (leb 1 call) _ (not-false _ e) in
      let b = both (leb call 15) _ a.1 in
      let d = both (leb members (count s - i - 1)) _ b.1 in
      let f : first_other s i members ≡ members = eqb-true (first_other s i members) members d.1 in
      record {
        low = leb-true 1 call a.0;
        high = leb-true call 15 b.0;
        behind = leb-true members (count s - i - 1) d.0;
        appends = λ j h. eqb-true _ 8 (not-false _ (seek_before (other_at s i) members j (omega (arith, f))));
      }

  -- what speaks against a bad one
  pub bad_cases :
      {C : Type 0} → bad_at s i ≡ true → (call < 1 → C) → (15 < call → C) → (count s - i - 1 < members → C) →
      (members ≤ count s - i - 1 → (j : ℕ) → j < members → (get_or s (start_of (i + 1 + j)) 0 ≡ 8 → ⊥) → C) → C
  bad_cases b low high few other =
      under call 1 low
      (λ l.
      under 15 call high
      (λ h.
      under (count s - i - 1) members few
      (λ f.
      let j = first_other s i members in
      let n = eqb-false j members (not-true _ (sym (bad_rest l h f) ∙ b)) in
      let k : j < members = omega (arith, seek_bounds (other_at s i) members) in
      other f j k (eqb-false _ 8 (not-true _ (seek_found (other_at s i) members k))))))

-- a call to which no records belong is not bad, whatever is behind it
pub lone_good : (s : List ℕ) (i : ℕ) → 1 ≤ get_or s (start_of i) 0 → get_or s (start_of i) 0 < 15 → bad_at s i ≡ false
lone_good s i l h =
    let m : members_at s (start_of i) ≡ 0 = members_none s (start_of i) (λ f. omega (arith, f)) in
    good_not_bad s i (record { low = l; high = omega arith; behind = omega (arith, m); appends = λ j h. absurd (omega (arith, m)) })

-- ---- what is wrong with a file

module _ (s : List ℕ) where
  pub flaw_unmarked : marked s ≡ false → flaw_of s ≡ flaw Unmarked 0
  unfolding flaw_of
  flaw_unmarked m = rw (m, flaw_of)

  module _ (m : marked s ≡ true) where
    -- a file that is marked has its head
    pub marked_long : 5 ≤ length s
    marked_long = leb-true 5 (length s) (both (leb 5 (length s)) _ m).0

    pub flaw_version : (version_of s ≡ 1 → ⊥) → flaw_of s ≡ flaw Version 0
    unfolding flaw_of
    flaw_version v = rw (m, ne_eqb (version_of s) 1 v, flaw_of)

    module _ (v : version_of s ≡ 1) where
      pub flaw_torn : ((length s - head_bytes) % record_bytes ≡ 0 → ⊥) → flaw_of s ≡ flaw Torn (count s)
      unfolding flaw_of
      flaw_torn t = rw (m, eq-eqb (version_of s) 1 v, ne_eqb ((length s - head_bytes) % record_bytes) 0 t, flaw_of)

      pub flaw_whole : (length s - head_bytes) % record_bytes ≡ 0 → flaw_of s ≡ flaw_in s
      unfolding flaw_of
      flaw_whole t =
          rw (m, eq-eqb (version_of s) 1 v, eq-eqb ((length s - head_bytes) % record_bytes) 0 t, flaw_of)

  -- the records are looked at one after the other
  pub flaw_bad : first_bad s (count s) < count s → flaw_in s ≡ flaw Bad (first_bad s (count s))
  unfolding flaw_in
  flaw_bad u = rw (lt-ltb (first_bad s (count s)) (count s) u, flaw_in)

  pub flaw_none : count s ≤ first_bad s (count s) → flaw_in s ≡ Ok (entries_in s)
  unfolding flaw_in
  flaw_none u = rw (le-ltb (first_bad s (count s)) (count s) u, flaw_in)

-- ---- a file with nothing wrong

pub record Flawless (s : List ℕ) : Type 0 where
  pub whole : length s ≡ start_of (count s)
  pub good : (i : ℕ) → i < count s → Good s i
  pub entries : flaw_of s ≡ Ok (entries_in s)

-- no fault has the number 0
pub some_number : (f : Fault) → fault_number f ≡ 0 → ⊥
some_number Unmarked z = omega arith
some_number Version z = omega arith
some_number Torn z = omega arith
some_number Bad z = omega arith
some_number Crowded z = omega arith

module _ (s : List ℕ) (h : number_of (flaw_of s) ≡ 0) where
  no_flaw : {C : Type 0} (a : Fault) (i : ℕ) → flaw_of s ≡ flaw a i → C
  no_flaw a i e = absurd (some_number a (sym (ap number_of e) ∙ h))

  pub flawless : Flawless s
  flawless =
      split (marked s)
      (λ m.
      split (eqb (version_of s) 1)
      (λ w.
      let v = eqb-true (version_of s) 1 w in
      split (eqb ((length s - head_bytes) % record_bytes) 0)
      (λ x.
      let t = eqb-true ((length s - head_bytes) % record_bytes) 0 x in
      let f = flaw_whole s m v t in
      under (first_bad s (count s)) (count s) (λ u. no_flaw Bad _ (f ∙ flaw_bad s u))
      (λ u.
      record {
        whole = omega (arith, t, marked_long s m);
        good = λ i l. not_bad_good s i (seek_before (bad_at s) (count s) i (omega arith));
        entries = f ∙ flaw_none s u;
      }))
      (λ x. no_flaw Torn _ (flaw_torn s m v (eqb-false ((length s - head_bytes) % record_bytes) 0 x))))
      (λ w. no_flaw Version _ (flaw_version s m (eqb-false (version_of s) 1 w))))
      (λ m. no_flaw Unmarked _ (flaw_unmarked s m))
