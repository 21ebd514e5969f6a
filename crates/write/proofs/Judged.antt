-- What every call is judged on, as facts of the control part and of the lent words, and the order of the free slots.
use Rattle.std.proofs.Common.{◌≡◌, ℕ, ◌≤◌, Bool, true, false, not, ◌&&◌, eqb, leb, List, length, refl, ap, arith, eq-eqb, eqb-true, le-leb, leb-true}
use borrow.Author.Tests.{not-false}
use Rattle.table.specs.Copy.{pairs, words, entries, Fit}
use Rattle.table.specs.declared.Answer.{Answer}
use Rattle.table.specs.declared.Answer.TheVariants as answer
use Rattle.table.proofs.Seek.{seek_before, seek_none}
use Rattle.table.proofs.Booleans.{both}
use Rattle.read.specs.declared.Control.{Control}
use Rattle.read.specs.declared.State.{State}
use Rattle.read.specs.Machine.{Verdict, log_words, lawful_at, first_unlawful, sized, whole_control, orderly, glanced, judged}
use Rattle.std.specs.Prelude.{Ok, Err}
use Rattle.read.proofs.Verdicts.{refused_not}
use Rattle.write.proofs.Control.{Whole, control_whole, whole_control_lem}
use Rattle.write.proofs.Words.{Kept, Words}

-- ---- what is judged, as facts

-- of both copies what P asks: the judgement asks that they are fit
pub record Good (P : List ℕ → Type 0) (c : Control) (l r g : List ℕ) : Type 0 where
  pub whole : Whole c
  pub words : Words P c.length l r g

pub good_fit : {P : List ℕ → Type 0} → Kept P → {c : Control} {l r g : List ℕ} → Good P c l r g → Good Fit c l r g
good_fit kept {l = l} {r = r} h =
    let w = h.words in
    record {
      whole = h.whole;
      words = record { left = kept.fit l w.left; right = kept.fit r w.right; log = w.log; lawfully = w.lawfully };
    }

tested : (b : Bool) (v : Verdict) (a : Answer) → ◌≡◌ {A = Verdict} (elim b [ true ↦ v | false ↦ Err a ]) (Ok tt) → (b ≡ true) × (v ≡ Ok tt)
tested true v a e = (refl, e)
tested false v a e = refused_not e

passed_on : (v x : Verdict) → ◌≡◌ {A = Verdict} (elim v [ Ok _ ↦ x | Err a ↦ Err a ]) (Ok tt) → (v ≡ Ok tt) × (x ≡ Ok tt)
passed_on (Ok _) x e = (refl, e)
passed_on (Err a) x e = refused_not e

module _ (c : Control) (l r g : List ℕ) where
  good_sized : Good Fit c l r g → sized l r g ≡ true
  good_sized h =
      λ i.
      eq-eqb (length l) words h.words.left.sized i
      && (eq-eqb (length r) words h.words.right.sized i && eq-eqb (length g) log_words h.words.log i)

  good_glanced : Good Fit c l r g → glanced c l r g ≡ Ok tt
  unfolding glanced
  good_glanced h =
      let e : (leb (entries l) pairs && (leb (entries r) pairs && whole_control c)) ≡ true =
      λ i. le-leb (entries l) pairs h.words.left.within i
      && (le-leb (entries r) pairs h.words.right.within i && whole_control_lem c h.whole i) in
      rw (good_sized h, e, glanced)

  good_lawful : Good Fit c l r g → first_unlawful c.length g ≡ c.length
  good_lawful h = seek_none (λ i. not (lawful_at g i)) c.length (λ i b. ap not (h.words.lawfully i b))

  -- what is seen at a glance, and that each logged operation is as its kind asks
  glanced_good : glanced c l r g ≡ Ok tt → c.length ≤ first_unlawful c.length g → Good Fit c l r g
  unfolding glanced
  glanced_good e k =
      let b = tested (sized l r g) _ answer.Length e in
      let d = tested (leb (entries l) pairs && (leb (entries r) pairs && whole_control c)) (Ok tt) answer.Broken b.1 in
      let s = both (eqb (length l) words) _ b.0 in
      let t = both (eqb (length r) words) _ s.1 in
      let m = both (leb (entries l) pairs) _ d.0 in
      let n = both (leb (entries r) pairs) _ m.1 in
      record {
        whole = control_whole c n.1;
        words =
            record {
              left = record { sized = eqb-true _ _ s.0; within = leb-true _ _ m.0 };
              right = record { sized = eqb-true _ _ t.0; within = leb-true _ _ n.0 };
              log = eqb-true _ _ t.1;
              lawfully = λ i h. not-false _ (seek_before (λ j. not (lawful_at g j)) c.length i (omega arith));
            };
      }

module _ (st : State) (l r g : List ℕ) where
  pub good_judged : Good Fit st.control l r g → orderly st ≡ true → judged st l r g ≡ Ok tt
  unfolding judged
  good_judged h o =
      let c = st.control in
      let e : leb c.length (first_unlawful c.length g) ≡ true = le-leb c.length _ (omega (arith, good_lawful c l r g h)) in
      rw (good_glanced c l r g h, e, o, judged)

  admitted :
      judged st l r g ≡ Ok tt →
      (let n = st.control.length in
      (glanced st.control l r g ≡ Ok tt) × ((leb n (first_unlawful n g) && orderly st) ≡ true))
  unfolding judged
  admitted e =
      let n = st.control.length in
      let a = passed_on (glanced st.control l r g) _ e in
      (a.0, (tested (leb n (first_unlawful n g) && orderly st) (Ok tt) answer.Broken a.1).0)

  pub judged_good : judged st l r g ≡ Ok tt → Good Fit st.control l r g
  judged_good e =
      let n = st.control.length in
      let a = admitted e in
      glanced_good st.control l r g a.0 (leb-true _ _ (both (leb n (first_unlawful n g)) (orderly st) a.1).0)

  pub judged_orderly : judged st l r g ≡ Ok tt → orderly st ≡ true
  judged_orderly e =
      let n = st.control.length in
      (both (leb n (first_unlawful n g)) (orderly st) (admitted e).1).1
