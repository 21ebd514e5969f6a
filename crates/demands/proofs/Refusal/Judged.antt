-- Rows 1 and 2 of the rules: they are what every call is judged on, and no rule below the judgement answers so.
use Prim.Native.Nat.{ℕ, ◌≤◌}
use mathlib.Core.Path.{◌≡◌, refl, sym, ap, ◌∙◌}
use mathlib.Core.Logic.{◌≢◌}
use mathlib.Core.Bool.{Bool, true, false, ◌&&◌}
use mathlib.Core.List.{List}
use native.Mathlib.Omega.{arith}
use lib.ListN.{length}
use lib.Dec.{leb}
use borrow.Author.Tests.{eq-eqb, le-leb}
use Rattle.table.specs.declared.Answer.{Answer}
use Rattle.table.specs.declared.Answer.TheVariants as answer
use Rattle.table.specs.Answers.{number}
use Rattle.table.specs.Copy.{pairs, words, entries}
use Rattle.table.proofs.Split.{split}
use Rattle.table.proofs.Booleans.{both}
use Rattle.read.proofs.Same.{equal_same}
use Rattle.read.specs.declared.Control.{Control}
use Rattle.read.specs.declared.State.{State}
use Rattle.read.specs.Machine.{Verdict, log_room, log_words, in_range, first_unlawful, sized, whole_control, orderly, glanced, judged}
use Rattle.std.specs.Prelude.{Ok, Err}
use Rattle.read.specs.Calls.{lent, refusal}
use Rattle.read.proofs.Cases.{sized_lengths as lengths}
use Rattle.write.specs.Call.{Call}
use Rattle.write.specs.Machine.{call_on, call_rule}
use Rattle.write.specs.World.{World, reply, answer_of}
use Rattle.write.proofs.Control.{control_whole, whole_control_lem}
use Rattle.write.proofs.Judged.{good_judged, judged_good, judged_orderly}
use Rattle.write.proofs.Refusals.{unbroken}
use Rattle.demands.specs.Demand1.{Lengths, Sized, Fit}
use Rattle.demands.proofs.Refusal.Ordered.{ordered, orderly_is}

-- ---- the judgement

abbrev glance : Bool → Bool → Verdict
glance s x = elim s [ true ↦ elim x [ true ↦ Ok tt | false ↦ Err answer.Broken ] | false ↦ Err answer.Length ]

abbrev verdict : Bool → Bool → Bool → Verdict
verdict s x y = elim (glance s x) [ Ok _ ↦ elim y [ true ↦ Ok tt | false ↦ Err answer.Broken ] | Err a ↦ Err a ]

pub sized_lengths : {l r g : List ℕ} → sized l r g ≡ true → Lengths l r g
sized_lengths {l} {r} {g} e = let s = lengths l r g e in record { left = s.left; right = s.right; log = s.log }

pub lengths_sized : {l r g : List ℕ} → Lengths l r g → sized l r g ≡ true
lengths_sized {l} {r} {g} h = λ i. eq-eqb (length l) words h.left i && (eq-eqb (length r) words h.right i && eq-eqb (length g) log_words h.log i)

-- a refusal is not answered 0
abbrev pub Grave : Verdict → Type 0
Grave (Ok _) = Unit {0}
Grave (Err a) = 1 ≤ number a

pub judged_grave : (st : State) (l r g : List ℕ) → Grave (judged st l r g)
unfolding judged glanced
judged_grave st l r g =
    let c = st.control in
    go (sized l r g) (leb (entries l) pairs && (leb (entries r) pairs && whole_control c)) (leb c.length (first_unlawful c.length g) && orderly st)
  where
    go : (x y z : Bool) → Grave (verdict x y z)
    go true true true = tt
    go true true false = omega arith
    go true false z = omega arith
    go false y z = omega arith

module _ (k : Call) (w : World) where
  abbrev c : Control
  c = w.state.control

  abbrev v : Verdict
  v = judged w.state w.left w.right w.log

  abbrev long : Bool
  long = sized w.left w.right w.log

  abbrev counts : Bool
  counts = leb (entries w.left) pairs && (leb (entries w.right) pairs && whole_control c)

  abbrev last : Bool
  last = leb c.length (first_unlawful c.length w.log) && orderly w.state

  v_is : v ≡ verdict long counts last
  unfolding judged glanced
  v_is = refl

  is_fit : v ≡ Ok tt → Fit w
  is_fit e =
      let g = judged_good w.state w.left w.right w.log e in
      let a = both (leb c.length log_room) _ (whole_control_lem c g.whole) in
      let b = both (leb c.swapped c.length) _ a.1 in
      record {
        left = g.words.left.within;
        right = g.words.right.within;
        room = g.whole.room;
        within = g.whole.within;
        placed = (both (in_range c c.phase) _ b.1).0;
        locked = g.whole.locked;
        pointed = g.whole.pointed;
        lawfully = g.words.lawfully;
        ordered = ordered w.state (judged_orderly w.state w.left w.right w.log e);
      }

  fit_is : Sized w → Fit w → v ≡ Ok tt
  fit_is s f =
      good_judged w.state w.left w.right w.log
      (record {
        whole = control_whole c (λ i. le-leb c.length log_room f.room i
            && (le-leb c.swapped c.length f.within i
            && (f.placed i && (equal_same _ _ f.locked i && equal_same _ _ f.pointed i))));
        words = record {
          left = record { sized = s.left; within = f.left };
          right = record { sized = s.right; within = f.right };
          log = s.log;
          lawfully = f.lawfully;
        };
      })
      (orderly_is w.state f.ordered)

  refused_by : (a : Answer) → v ≡ Err a → answer_of (reply call_rule k w) ≡ number a
  unfolding call_rule
  refused_by a e =
      ap (λ (x : Verdict). answer_of (elim x [ Ok _ ↦ call_on k w.state w.left w.right w.log | Err b ↦ lent (refusal b w.state) w.left w.right w.log ])) e

  admitted_by : v ≡ Ok tt → answer_of (reply call_rule k w) ≡ answer_of (reply call_on k w)
  unfolding call_rule
  admitted_by e =
      ap (λ (x : Verdict). answer_of (elim x [ Ok _ ↦ call_on k w.state w.left w.right w.log | Err b ↦ lent (refusal b w.state) w.left w.right w.log ])) e

  pub unsized_1 : ¬ (Sized w) → answer_of (reply call_rule k w) ≡ 1
  unsized_1 n =
      split long (λ e. absurd (n (sized_lengths e)))
      (λ e. refused_by answer.Length (v_is ∙ ap (λ (b : Bool). verdict b counts last) e))

  pub broken_2 : Sized w → ¬ (Fit w) → answer_of (reply call_rule k w) ≡ 2
  broken_2 s n =
      let e = v_is ∙ ap (λ (b : Bool). verdict b counts last) (lengths_sized s) in
      refused_by answer.Broken (go counts last e)
    where
      go : (x y : Bool) → v ≡ verdict true x y → v ≡ Err answer.Broken
      go true true e = absurd (n (is_fit e))
      go true false e = e
      go false y e = e

  pub otherwise_none : Sized w → Fit w → (answer_of (reply call_rule k w) ≢ 1) × (answer_of (reply call_rule k w) ≢ 2)
  otherwise_none s f =
      let e = admitted_by (fit_is s f) in
      let u = unbroken k w.state w.left w.right w.log in
      (λ q. u.0 (sym e ∙ q), λ q. u.1 (sym e ∙ q))
