-- What it means that nothing speaks against a call, which answers a refusal has, and the tests of the code one after the other.
use Rattle.std.proofs.Common.{◌≡◌, ℕ, ◌≤◌, Bool, true, false, ◌&&◌, eqb, leb, List, [], ◌∷◌, length, drop, slice_index_or, ◌+◌, ◌<◌, refl, ap, sym, ◌∙◌, subst, arith, leb-true}
use Rattle.std.proofs.lemmas.List.{at_drop_more, drop_all}
use Rattle.table.specs.Answers.{number, refusing}
use Rattle.table.specs.declared.Answer.{Answer}
use Rattle.table.proofs.Booleans.{both}
use Rattle.read.specs.Machine.{Verdict}
use Rattle.std.specs.Prelude.{Ok, Err}
use Rattle.read.specs.declared.Sign.{Sign}
use Rattle.read.specs.Handles.{sign, given, smallest}

pub refused_not : {a : Answer} {C : Type 0} → ◌≡◌ {A = Verdict} (Err a) (Ok tt) → C
refused_not e = let z : ◌≡◌ {A = ℕ} 0 1 = cc in absurd (omega arith)

-- ---- admitted: none applies

-- the sign of a number; where a call has none, it does not apply
abbrev pub speaks : ℕ → List Sign → Bool
speaks n [] = false
speaks n (x ∷ xs) = elim (eqb (number x.answer) n) [ true ↦ x.applies | false ↦ speaks n xs ]

passed : (b : Bool) (a : Answer) (v : Verdict) → given b a v ≡ Ok tt → (b ≡ false) × (v ≡ Ok tt)
passed true a v e = refused_not e
passed false a v e = (refl, e)

silent_by : (b : Bool) {x y : Bool} → x ≡ false → y ≡ false → elim b [ true ↦ x | false ↦ y ] ≡ false
silent_by true p q = p
silent_by false p q = q

-- of a call that is admitted, by number: so one sign more moves no other
pub silent : (n : ℕ) (xs : List Sign) → smallest xs ≡ Ok tt → speaks n xs ≡ false
unfolding smallest
silent n [] e = refl
silent n (x ∷ xs) e =
    let p = passed x.applies x.answer (smallest xs) e in silent_by (eqb (number x.answer) n) p.0 (silent n xs p.1)

-- ---- refused: by 3 to 12, where all that may be given are among these

abbrev pub Refusal : Answer → Type 0
Refusal a = (3 ≤ number a) × (number a ≤ 12)

abbrev pub mild : List Sign → Bool
mild [] = true
mild (x ∷ xs) = (leb 3 (number x.answer) && refusing (number x.answer)) && mild xs

abbrev Mild : Verdict → Type 0
Mild (Ok _) = Unit {0}
Mild (Err a) = Refusal a

given_mild : (b : Bool) (a : Answer) (v : Verdict) → Refusal a → Mild v → Mild (given b a v)
given_mild true a v h m = h
given_mild false a v h m = m

smallest_mild : (xs : List Sign) → mild xs ≡ true → Mild (smallest xs)
unfolding smallest
smallest_mild [] h = tt
smallest_mild (x ∷ xs) h =
    let n = number x.answer in
    let (p, q) = both (leb 3 n && refusing n) (mild xs) h in
    let (a, b) = both (leb 3 n) (refusing n) p in
    given_mild x.applies x.answer (smallest xs) (leb-true 3 n a, leb-true n 12 (both (leb 1 n) (leb n 12) b).1)
    (smallest_mild xs q)

pub refused_mild : (xs : List Sign) → mild xs ≡ true → (a : Answer) → smallest xs ≡ Err a → Refusal a
refused_mild xs h a e = subst Mild e (smallest_mild xs h)

-- ---- one sign before others

-- one before those that were judged
pub push : (a : Answer) (b : Bool) (xs : List Sign) {x : Bool} {v r : Verdict} → r ≡ given x a v → x ≡ b → v ≡ smallest xs → r ≡ smallest (sign a b ∷ xs)
unfolding smallest
push a b xs e q h = e ∙ (λ i. given (q i) a (h i))

pub first_none : {v : Verdict} → v ≡ Ok tt → v ≡ smallest []
unfolding smallest
first_none h = h

-- ---- a walk over the signs

module _ (xs : List Sign) (i : ℕ) (d : Sign) (h : i < length xs) (seen : smallest (drop i xs) ≡ smallest xs) where
  walked : given (slice_index_or xs i d).applies (slice_index_or xs i d).answer (smallest (drop (i + 1) xs)) ≡ smallest xs
  unfolding smallest
  walked = sym (at_drop_more smallest xs i d h) ∙ seen

  pub walk_stops : (slice_index_or xs i d).applies ≡ true → Err (slice_index_or xs i d).answer ≡ smallest xs
  walk_stops e = ap (λ b. given b (slice_index_or xs i d).answer (smallest (drop (i + 1) xs))) (sym e) ∙ walked

  pub walk_passes : (slice_index_or xs i d).applies ≡ false → smallest (drop (i + 1) xs) ≡ smallest xs
  walk_passes e = ap (λ b. given b (slice_index_or xs i d).answer (smallest (drop (i + 1) xs))) (sym e) ∙ walked

pub walk_ends : (xs : List Sign) (i : ℕ) → length xs ≤ i → smallest (drop i xs) ≡ smallest xs → Ok tt ≡ smallest xs
unfolding smallest
walk_ends xs i h seen = sym (ap smallest (drop_all i xs h)) ∙ seen
