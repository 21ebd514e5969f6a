-- The rules of a copy, case by case: what each is under the tests that lead there.
use Prim.Native.Nat.{ℕ, ◌+◌, ◌*◌, ◌≤◌, ◌<◌}
use mathlib.Core.Path.{◌≡◌, refl, sym, ap, ◌∙◌}
use mathlib.Core.Bool.{Bool, true, false, ◌&&◌, true≢false}
use mathlib.Core.List.{List, []}
use borrow.Author.Tests.{le-leb, lt-ltb, le-ltb, eqb-true, leb-true}
use lib.ListN.{length, take, drop, set}
use lib.Dec.{eqb, leb}
use Rattle.std.specs.Prelude.{Result, Ok, Err, is_ok}
use Rattle.std.specs.Result.{result_unwrap_or}
use Rattle.table.proofs.Booleans.{clash}
use Rattle.table.specs.declared.Answer.{Answer}
use Rattle.table.specs.declared.Answer.TheVariants as answer
use Rattle.table.specs.declared.Answer.TheVariants.{Done, Length, Broken}
use Rattle.table.specs.Answers.{outcome, answer_of}
use Rattle.table.specs.declared.Search.{Search}
use Rattle.table.specs.Copy.{pairs, words, entries, spill, count_at, used_of, has_key, find_by, place_by, grown, inserted, removed, closed, placed_by, added_by, dropped_by, applied_by, lawful, fitness, fits, Fit, apply_by, look_by, used_rule, close_rule}
use Rattle.table.specs.declared.Operation.{Operation}
use Rattle.table.specs.Operation.{named, operation_of, made_by}
use Rattle.table.specs.Find.{Found, Missing}
use Rattle.table.proofs.Split.{split}
use Rattle.table.proofs.Found.{pair_there, there, not_there}

-- ---- fit

-- what was refused, or that nothing was
pub answer-outcome : (a : Answer) → answer_of (outcome a) ≡ a
answer-outcome Done = refl
answer-outcome a = refl

ok_by : (a b : Bool) → is_ok (outcome (elim a [ true ↦ elim b [ true ↦ Done | false ↦ Broken ] | false ↦ Length ])) ≡ (a && b)
ok_by true true = refl
ok_by true false = refl
ok_by false b = refl

module _ (w : List ℕ) where
  pub ok-fitness : is_ok (outcome (fitness w)) ≡ fits w
  unfolding fitness
  ok-fitness = ok_by (eqb (length w) words) (leb (entries w) pairs)

  pub fits_ok : Ok tt ≡ outcome (fitness w) → fits w ≡ true
  fits_ok h = sym ok-fitness ∙ ap is_ok (sym h)

  pub fits_err : {e : Answer} → Err e ≡ outcome (fitness w) → fits w ≡ false
  fits_err h = sym ok-fitness ∙ ap is_ok (sym h)

fit_of : (a b : Bool) (w : List ℕ) → (a ≡ true → length w ≡ words) → (b ≡ true → entries w ≤ pairs) → (a && b) ≡ true → Fit w
fit_of true true w s n h = record { sized = s refl; within = n refl }
fit_of true false w s n h = absurd (true≢false (sym h))
fit_of false b w s n h = absurd (true≢false (sym h))

pub fits_fit : (w : List ℕ) → fits w ≡ true → Fit w
fits_fit w h = fit_of (eqb (length w) words) (leb (entries w) pairs) w (eqb-true (length w) words) (leb-true (entries w) pairs) h

-- ---- the operations

module _ {how : Search} {key : ℕ} {w : List ℕ} {i : ℕ} where
  found_there : Found how key w i → has_key key w (find_by how key w) ≡ true
  found_there f = ap (has_key key w) (sym f.at) ∙ f.has

  missing_there : Missing how key w i → has_key key w (find_by how key w) ≡ false
  missing_there m = ap (has_key key w) (sym m.at) ∙ m.none

  pub added_there : (amount : ℕ) → Found how key w i → added_by how key amount w ≡ set w (2 * i + 3) (grown (count_at w i) amount)
  unfolding added_by
  added_there amount f = let h = found_there f in rw (there key w how h, added_by, pair_there key w how h, f.at)

  pub added_full : (amount : ℕ) → Missing how key w i → pairs ≤ entries w → added_by how key amount w ≡ set w 1 (grown (spill w) 1)
  unfolding added_by
  added_full amount m f = let h = missing_there m in rw (not_there key w how h, added_by, le-ltb (entries w) pairs f, placed_by)

  pub added_room :
      (amount : ℕ) → Missing how key w i → entries w < pairs → added_by how key amount w ≡ inserted (place_by how key w) key amount w
  unfolding added_by
  added_room amount m f = let h = missing_there m in rw (not_there key w how h, added_by, lt-ltb (entries w) pairs f, placed_by)

  pub dropped_there : Found how key w i → dropped_by how key w ≡ removed i w
  unfolding dropped_by
  dropped_there f = let h = found_there f in rw (there key w how h, dropped_by, pair_there key w how h, f.at)

  pub dropped_absent : Missing how key w i → dropped_by how key w ≡ w
  unfolding dropped_by
  dropped_absent m = let h = missing_there m in rw (not_there key w how h, dropped_by)

  pub look_there : fits w ≡ true → Found how key w i → look_by how key w ≡ take 2 (drop (2 * i + 2) w)
  unfolding look_by
  look_there l f = let h = found_there f in rw (l, there key w how h, look_by, pair_there key w how h, f.at)

  pub look_absent : fits w ≡ true → Missing how key w i → look_by how key w ≡ []
  unfolding look_by
  look_absent l m = let h = missing_there m in rw (l, not_there key w how h, look_by)

pub look_unfit : (how : Search) (key : ℕ) (w : List ℕ) → fits w ≡ false → look_by how key w ≡ []
unfolding look_by
look_unfit how key w h = rw (h, look_by)

module _ (g m : ℕ) (p : List ℕ) where
  pub close_room : g + m ≤ length p → close_rule g m p ≡ closed g m p
  unfolding close_rule
  close_room h = rw (le-leb (g + m) (length p) h, close_rule)

-- ---- the calls

module _ (kind key amount : ℕ) where
  ok_lawful : (b : Bool) (o : Operation) → is_ok (elim b [ true ↦ Ok o | false ↦ Err answer.Operation ]) ≡ b
  ok_lawful true o = refl
  ok_lawful false o = refl

  pub lawful-ok : is_ok (operation_of kind key amount) ≡ lawful kind key amount
  unfolding operation_of
  lawful-ok = ok_lawful (lawful kind key amount) (named kind key amount)

  -- what a lawful kind makes is the rule's
  named_made : (how : Search) (w : List ℕ) → lawful kind key amount ≡ true → made_by how (named kind key amount) w ≡ applied_by how kind key amount w
  unfolding lawful applied_by
  named_made how w h =
      split (eqb kind 1)
      (λ a. rw (a, named, made_by, applied_by))
      (λ a. split (eqb kind 2)
      (λ b. rw (a, b, named, made_by, applied_by))
      (λ b. split (eqb kind 3)
      (λ d. rw (a, b, d, named, made_by, applied_by))
      (λ d. clash h (rw (a, b, d, lawful)))))

  asked : {o : Operation} → Ok o ≡ operation_of kind key amount → o ≡ named kind key amount
  unfolding operation_of
  asked {o = o} l =
      let e : lawful kind key amount ≡ true = sym lawful-ok ∙ ap is_ok (sym l) in
      ap (λ (r : Result Operation Answer). result_unwrap_or r o) l ∙ rw (e, operation_of)

  refused : {e : Answer} → Err e ≡ operation_of kind key amount → e ≡ answer.Operation
  unfolding operation_of
  refused {e = e} l =
      let n : lawful kind key amount ≡ false = sym lawful-ok ∙ ap is_ok (sym l) in
      ap (λ (r : Result Operation Answer). elim r [ Ok o ↦ e | Err a ↦ a ]) l ∙ rw (n, operation_of)

module _ (how : Search) (kind key amount : ℕ) (w : List ℕ) where
  pub apply_unfit : fits w ≡ false → apply_by how kind key amount w ≡ record { answer = fitness w; copy = w }
  unfolding apply_by
  apply_unfit h = rw (h, apply_by)

  pub apply_unlawful :
      fits w ≡ true → lawful kind key amount ≡ false → apply_by how kind key amount w ≡ record { answer = answer.Operation; copy = w }
  unfolding apply_by
  apply_unlawful h l = rw (h, l, apply_by)

  pub apply_made :
      fits w ≡ true → lawful kind key amount ≡ true →
      apply_by how kind key amount w ≡ record { answer = Done; copy = applied_by how kind key amount w }
  unfolding apply_by
  apply_made h l = rw (h, l, apply_by)

  -- ---- the same by what the code learns

  pub tried_unfit : {e : Answer} → Err e ≡ outcome (fitness w) → apply_by how kind key amount w ≡ record { answer = e; copy = w }
  tried_unfit {e = e} h =
      let q : fitness w ≡ e = sym (answer-outcome (fitness w)) ∙ ap answer_of (sym h) in
      apply_unfit (fits_err w h) ∙ (λ i. record { answer = q i; copy = w })

  module _ (h : Ok tt ≡ outcome (fitness w)) where
    pub tried_unlawful : {e : Answer} → Err e ≡ operation_of kind key amount → apply_by how kind key amount w ≡ record { answer = e; copy = w }
    tried_unlawful l = rw (refused kind key amount l) (apply_unlawful (fits_ok w h) (sym (lawful-ok kind key amount) ∙ ap is_ok (sym l)))

    pub tried_made : {o : Operation} → Ok o ≡ operation_of kind key amount → apply_by how kind key amount w ≡ record { answer = Done; copy = made_by how o w }
    tried_made l =
        let e : lawful kind key amount ≡ true = sym (lawful-ok kind key amount) ∙ ap is_ok (sym l) in
        rw (asked kind key amount l, named_made kind key amount how w e) (apply_made (fits_ok w h) e)

pub used_unfit : (w : List ℕ) → fits w ≡ false → used_rule w ≡ []
unfolding used_rule
used_unfit w h = rw (h, used_rule)

pub used_fit : (w : List ℕ) → fits w ≡ true → used_rule w ≡ used_of w
unfolding used_rule
used_fit w h = rw (h, used_rule)
