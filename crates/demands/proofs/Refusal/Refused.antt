-- Demand 1 of the rules. A refusal puts back what it read, so it changes nothing; and a run is never refused on its way.
use Prim.Native.Nat.{ℕ, ◌≤◌}
use mathlib.Core.Path.{◌≡◌, refl, sym, ap, ◌∙◌}
use mathlib.Core.Bool.{Bool, true, ◌&&◌, ◌||◌}
use native.Mathlib.Omega.{arith}
use lib.Dec.{eqb, leb}
use borrow.Author.Tests.{eqb-true, leb-true}
use Rattle.table.specs.Answers.{refusing}
use Rattle.table.proofs.Split.{split}
use Rattle.table.proofs.Booleans.{clash, both}
use Rattle.read.specs.Calls.{lent, refusal}
use Rattle.write.specs.Call.{Call, Create, On, Append, Open, Step, Run}
use Rattle.write.specs.Numbers.{is_step}
use Rattle.write.specs.Machine.{call_rule}
use Rattle.write.specs.World.{World, world_of, reply, answer_of, value_of}
use Rattle.write.proofs.Refusals.{still_up_to, still_large, refusal_same}
use Rattle.demands.specs.Demand1.{refuses, Demand1}
use Rattle.demands.proofs.Refusal.Judged.{unsized_1, broken_2, otherwise_none}

-- 13 is one of a single step alone
step_still : (k : Call) → is_step k ≡ true → still_up_to k ≡ 13
step_still Create e = refl
step_still (On i h) e = refl
step_still (Append os) e = refl
step_still (Open o) e = refl
step_still Step e = refl
step_still Run e = clash e refl

refused_still : (k : Call) (a : ℕ) → refuses k a ≡ true → (1 ≤ a) × (a ≤ still_up_to k)
refused_still k a q =
    split (refusing a)
    (λ e. let (x, y) = both (leb 1 a) (leb a 12) e in let z = still_large k in (leb-true 1 a x, omega (arith, leb-true a 12 y)))
    (λ e.
    let (s, t) = both (is_step k) (eqb a 13) (sym (ap (λ (b : Bool). b || is_step k && eqb a 13) e) ∙ q) in
    let z = eqb-true a 13 t in
    let x = step_still k s in
    (omega arith, omega arith))

-- what is refused is the world as it was, with value 0
refused : (k : Call) (w : World) → refuses k (answer_of (reply call_rule k w)) ≡ true →
    (let o = reply call_rule k w in o ≡ lent (refusal o.made.answer w.state) w.left w.right w.log)
refused k w q =
    let (x, y) = refused_still k (answer_of (reply call_rule k w)) q in refusal_same w.state w.left w.right w.log k x y

pub demand1 : Demand1 call_rule
demand1 =
    record {
      unsized = unsized_1;
      broken = broken_2;
      otherwise = otherwise_none;
      unchanged = λ k w q. ap world_of (refused k w q);
      valueless = λ k w q. ap value_of (refused k w q);
    }
