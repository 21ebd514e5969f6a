-- The player's refusals: each test of the rule is what it says of the file's bytes, and the first that fails is the smallest that applies.
use Prim.Native.Nat.{ℕ, suc, ◌+◌, ◌-◌, ◌*◌, ◌%◌, ◌≤◌, ◌<◌}
use mathlib.Core.Path.{◌≡◌, refl, sym, ap, subst, ◌∙◌}
use mathlib.Core.Bool.{true, false, true≢false}
use mathlib.Core.List.{List, [], ◌∷◌, ◌++◌}
use mathlib.Core.Logic.{⊎_elim}
use native.Mathlib.Nat.{eq-or-lt_of_le}
use native.Mathlib.Omega.{arith}
use borrow.Author.Tests.{eqb-true, eqb-false}
use lib.Dec.{eqb, leb}
use lib.ListN.{length, get_or, take, drop, length-append, length-drop}
use lib.Pointwise.{pointwise}
use lib.Seq.{drop_at}
use Rattle.table.proofs.Seek.{seek_before, seek_found}
use Rattle.table.proofs.Split.{split, under}
use Rattle.table.proofs.Booleans.{both}
use Rattle.write.specs.World.{fresh_world}
use Rattle.format.specs.declared.Fault.{Fault}
use Rattle.format.specs.Schedule.{count, start_of, marked, version_of, members_at, entries_in, bad_at, first_bad, fault_number, flaw, flaw_of, number_of}
use Rattle.play.specs.Schedule.{calls_of}
use Rattle.play.specs.Player.{transcript, output, play_rule}
use Rattle.play.specs.Refusals.{Applies, short, unmarked, version, torn, unknown, cut_short, mixed, crowded, amount_at, Outcome, Refusals}
use Rattle.play.proofs.Counted.{entries_counted, entries_ruled}
use Rattle.play.proofs.Lengths.{file_length}
use Rattle.format.proofs.Records.{members_batch, members_none, Good, not_bad_good, bad_cases, marked_long, marked_start, flaw_unmarked, flaw_version, flaw_torn, flaw_whole, flaw_bad, flaw_none}
use Rattle.play.proofs.Rule.{play_flawed, play_short, play_made}

-- ---- the tests, on the file's bytes

first_three : (s : List ℕ) → 3 ≤ length s → take 3 s ≡ get_or s 0 0 ∷ get_or s 1 0 ∷ get_or s 2 0 ∷ []
first_three [] h = absurd (omega arith)
first_three (a ∷ []) h = absurd (omega arith)
first_three (a ∷ b ∷ []) h = absurd (omega arith)
first_three (a ∷ b ∷ c ∷ s) h = refl

module _ (s : List ℕ) where
  marked_bytes : marked s ≡ true → take 3 s ≡ 76 ∷ 82 ∷ 84 ∷ []
  marked_bytes m =
      let (first, rest) = both (eqb (get_or s 0 0) 76) _ (both (leb 5 (length s)) _ m).1 in
      let (second, third) = both (eqb (get_or s 1 0) 82) _ rest in
      let a : get_or s 0 0 ≡ 76 = eqb-true (get_or s 0 0) 76 first in
      let b : get_or s 1 0 ≡ 82 = eqb-true (get_or s 1 0) 82 second in
      let c : get_or s 2 0 ≡ 84 = eqb-true (get_or s 2 0) 84 third in
      first_three s (omega (arith, marked_long s m)) ∙ (λ i. a i ∷ b i ∷ c i ∷ [])

  bytes_marked : 5 ≤ length s → take 3 s ≡ 76 ∷ 82 ∷ 84 ∷ [] → marked s ≡ true
  bytes_marked h e = marked_start s h ∙ ap (pointwise eqb (76 ∷ 82 ∷ 84 ∷ [])) e

  -- records belong to a batch alone
  batch_alone : (i : ℕ) → 0 < members_at s (start_of i) → get_or s (start_of i) 0 ≡ 15
  batch_alone i h =
      let c = get_or s (start_of i) 0 in
      split (eqb c 15) (eqb-true c 15) (λ n. absurd (omega (arith, members_none s (start_of i) (eqb-false c 15 n))))

-- ---- the numbers

module _ (s out : List ℕ) where
  among : {a : ℕ} → Applies s out a → (21 ≤ a) × (a ≤ 25)
  among (short h) = omega arith
  among (unmarked h) = omega arith
  among (version h) = omega arith
  among (torn h) = omega arith
  among (unknown i h k) = omega arith
  among (cut_short i h b k) = omega arith
  among (mixed i j b l h k) = omega arith
  among (crowded n e h) = omega arith

  -- a number does not apply where its test is passed
  not_21 : marked s ≡ true → Applies s out 21 → ⊥
  not_21 m (short h) = omega (arith, marked_long s m)
  not_21 m (unmarked h) = h (marked_bytes s m)

  not_22 : version_of s ≡ 1 → Applies s out 22 → ⊥
  not_22 v (version h) = h (omega arith)

  not_23 : length s ≡ 5 + 20 * count s → Applies s out 23 → ⊥
  not_23 w (torn h) = h (count s) w

  not_24 : ((i : ℕ) → i < count s → Good s i) → Applies s out 24 → ⊥
  not_24 good (unknown i h k) = let g = good i (omega arith) in k (g.low, g.high)
  not_24 good (cut_short i h b k) = omega (arith, (good i (omega arith)).behind, members_batch s (start_of i) b)
  not_24 good (mixed i j b l h k) = k ((good i (omega arith)).appends j (omega (arith, members_batch s (start_of i) b)))

  not_25 : 9 * entries_in s ≤ length out → Applies s out 25 → ⊥
  not_25 r (crowded n e h) = omega (arith, entries_ruled s e)

  -- no number below a applies
  abbrev From : ℕ → Type 0
  From a = (b : ℕ) → Applies s out b → a ≤ b

  up : {a : ℕ} → From a → (Applies s out a → ⊥) → From (suc a)
  up from not b f = ⊎_elim (λ e. absurd (not (subst (Applies s out) (sym e) f))) (λ l. l) (eq-or-lt_of_le (from b f))

  -- ---- the walk through the tests

  refuses :
      {a : ℕ} → Applies s out a → From a → ((a ≡ 0 → ⊥) → output (record { answer = a; written = 0 }) out ≡ play_rule s out) →
      Outcome s out (play_rule s out)
  refuses {a} f low e =
      let n : a ≡ 0 → ⊥ = λ z. omega (arith, among f) in
      subst (Outcome s out) (e n)
      (λ z. absurd (n z), λ z. record { among = among f; applies = f; smallest = low; reported = refl; untouched = refl })

  -- the answer of the rule where the file's flaw is this one
  flawed :
      {f : Fault} {i : ℕ} → flaw_of s ≡ flaw f i → (fault_number f ≡ 0 → ⊥) →
      output (record { answer = fault_number f; written = 0 }) out ≡ play_rule s out
  flawed e = play_flawed s out (sym (ap number_of e))

  from_21 : From 21
  from_21 b f = (among f).0

  no_mark : marked s ≡ false → Outcome s out (play_rule s out)
  no_mark m =
      refuses
      (under (length s) 5 (λ h. short h) (λ h. unmarked (λ e. true≢false (sym (bytes_marked s h e) ∙ m))))
      from_21
      (flawed (flaw_unmarked s m))

  module _ (m : marked s ≡ true) where
    from_22 : From 22
    from_22 = up from_21 (not_21 m)

    other_version : (version_of s ≡ 1 → ⊥) → Outcome s out (play_rule s out)
    other_version v = refuses (version (λ e. v (omega arith))) from_22 (flawed (flaw_version s m v))

    module _ (v : version_of s ≡ 1) where
      from_23 : From 23
      from_23 = up from_22 (not_22 v)

      torn_record : ((length s - 5) % 20 ≡ 0 → ⊥) → Outcome s out (play_rule s out)
      torn_record t = refuses (torn (λ n e. t (omega arith))) from_23 (flawed (flaw_torn s m v t))

      module _ (t : (length s - 5) % 20 ≡ 0) where
        whole : length s ≡ 5 + 20 * count s
        whole = omega (arith, marked_long s m)

        from_24 : From 24
        from_24 = up from_23 (not_23 whole)

        bad_applies : (i : ℕ) → i < count s → bad_at s i ≡ true → Applies s out 24
        bad_applies i l b =
            let n = members_at s (start_of i) in
            let same : 0 < n → n ≡ amount_at s i = λ h. members_batch s (start_of i) (batch_alone s i h) in
            bad_cases s i b (λ h. unknown i (omega arith) (λ k. omega arith)) (λ h. unknown i (omega arith) (λ k. omega arith))
            (λ h. cut_short i (omega arith) (batch_alone s i (omega arith)) (omega (arith, same (omega arith))))
            (λ f j h k. mixed i j (batch_alone s i (omega arith)) (omega (arith, same (omega arith))) (omega arith) k)

        bad_record : first_bad s (count s) < count s → Outcome s out (play_rule s out)
        bad_record u =
            refuses (bad_applies (first_bad s (count s)) u (seek_found (bad_at s) (count s) u)) from_24
            (flawed (flaw_whole s m v t ∙ flaw_bad s u))

        module _ (u : count s ≤ first_bad s (count s)) where
          from_25 : From 25
          from_25 = up from_24 (not_24 (λ i l. not_bad_good s i (seek_before (bad_at s) (count s) i (omega arith))))

          flawless : number_of (flaw_of s) ≡ 0
          flawless = ap number_of (flaw_whole s m v t ∙ flaw_none s u)

          too_short : length out < 9 * entries_in s → Outcome s out (play_rule s out)
          too_short h = refuses (crowded (entries_in s) (entries_counted s) h) from_25 (λ n. play_short s out flawless h)

          done : 9 * entries_in s ≤ length out → Outcome s out (play_rule s out)
          done h =
              let n = 9 * entries_in s in
              let w = transcript (calls_of s) fresh_world in
              let long : length w ≡ n = file_length s fresh_world in
              subst (Outcome s out) (play_made s out flawless {w = w ++ drop n out} refl h refl) (
                λ z. record {
                  flawless = λ a f. omega (arith, among f, up from_25 (not_25 h) a f);
                  records = count s;
                  whole = whole;
                  entries = entries_in s;
                  counted = entries_counted s;
                  reported = refl;
                  behind = drop_at w (drop n out) n long;
                  as_long = omega (arith, length-append w (drop n out), length-drop n out, long);
                },
                λ z. absurd (z refl),
              )

          with_calls : Outcome s out (play_rule s out)
          with_calls = under (length out) (9 * entries_in s) too_short done

        with_records : Outcome s out (play_rule s out)
        with_records = under (first_bad s (count s)) (count s) bad_record with_calls

      with_version : Outcome s out (play_rule s out)
      with_version =
          split (eqb ((length s - 5) % 20) 0) (λ b. with_records (eqb-true ((length s - 5) % 20) 0 b))
          (λ b. torn_record (eqb-false ((length s - 5) % 20) 0 b))

    with_mark : Outcome s out (play_rule s out)
    with_mark =
        split (eqb (version_of s) 1) (λ b. with_version (eqb-true (version_of s) 1 b))
        (λ b. other_version (eqb-false (version_of s) 1 b))

-- ---- the theorem

pub refusals : Refusals play_rule
refusals s out = split (marked s) (with_mark s out) (no_mark s out)
