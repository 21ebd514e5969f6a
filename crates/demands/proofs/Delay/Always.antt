-- What follows from how the account is kept, whatever a machine answers: a reader moves on by its own calls.
use Prim.Native.Nat.{ℕ, ◌%◌, ◌^◌, ◌≤◌, ◌<◌}
use mathlib.Core.Path.{◌≡◌, ap, ◌∙◌}
use mathlib.Core.Logic.{◌≢◌}
use mathlib.Core.Bool.{Bool, true, false, ◌&&◌, true≢false, and-false}
use native.Mathlib.Omega.{arith}
use lib.Dec.{eqb}
use borrow.Author.Tests.{eqb-true, ne_eqb}
use Rattle.table.proofs.Booleans.{both}
use Rattle.read.specs.declared.Due.{Due}
use Rattle.read.specs.declared.Due.TheVariants.{Nothing, Load, Restore}
use Rattle.read.specs.declared.Handle.{Handle}
use Rattle.read.specs.declared.Handle.TheVariants.{GoOn, Release}
use Rattle.write.specs.Call.{On}
use Rattle.write.specs.World.{Machine, reply, answer_of, value_of}
use Rattle.demands.specs.Account.{delays, Reader, Account, with_at, is_odd, inside, turned, closes, spoke}
use Rattle.demands.specs.Follows.{reader_after, Leaves, MovedOn, Always}
use Rattle.demands.specs.Demands.{Told, tell, told}
use Rattle.demands.proofs.Account.Moves.{leaves_any}
use Rattle.demands.proofs.Delay.Kept.{owned_behind, none_logged, none_met}
use Rattle.demands.proofs.Delay.Counts.{first_steps_lem, second_steps_lem, plan_steps}
use Rattle.demands.proofs.Shown.Guards.{same_at}

-- ---- a reader that moves on

-- an epoch other than the one that was read delays nothing
other_passes : (r : Reader) → r.snapshot % 2 ^ 64 ≢ r.epoch % 2 ^ 64 → delays r ≡ false
other_passes r ne =
    ap (λ (x : Bool). r.lives && (is_odd r.snapshot && x)) (ne_eqb (r.snapshot % 2 ^ 64) (r.epoch % 2 ^ 64) ne)
    ∙ ap (λ (x : Bool). r.lives && x) (and-false (is_odd r.snapshot)) ∙ and-false r.lives

pub record Delays (r : Reader) : Type 0 where
  pub lives : r.lives ≡ true
  pub odd : is_odd r.snapshot ≡ true
  pub same : r.snapshot % 2 ^ 64 ≡ r.epoch % 2 ^ 64

pub delaying : (r : Reader) → delays r ≡ true → Delays r
delaying r d =
    let (l, t) = both r.lives (is_odd r.snapshot && eqb (r.snapshot % 2 ^ 64) (r.epoch % 2 ^ 64)) d in
    let (o, e) = both (is_odd r.snapshot) (eqb (r.snapshot % 2 ^ 64) (r.epoch % 2 ^ 64)) t in
    record { lives = l; odd = o; same = eqb-true (r.snapshot % 2 ^ 64) (r.epoch % 2 ^ 64) e }

moved_on : (r : Reader) → MovedOn r
moved_on r a b = other_passes r (λ e. omega arith)

-- one change of its epoch is enough
turned_passes : (r : Reader) (d : Due) → delays r ≡ true → delays (turned 1 d r) ≡ false
turned_passes r d h = let e = (delaying r h).same in other_passes (turned 1 d r) (λ q. omega (arith, e))

-- what is noted of a call on its slot
module _ (m : Machine) (t : Told) (i : ℕ) (h : delays (t.account.readers i) ≡ true) where
  abbrev r : Reader
  r = t.account.readers i

  abbrev spoken : Handle → ℕ → ℕ → Reader
  spoken x n v = spoke x n v t.account.store.published r

  after_is : (x : Handle) (n : ℕ) → answer_of (reply m (On i x) t.world) ≡ n → reader_after m (On i x) t i ≡ spoken x n (value_of (reply m (On i x) t.world))
  unfolding tell
  after_is x n e =
      let o = reply m (On i x) t.world in
      let s = spoken x (answer_of o) (value_of o) in
      let q : with_at i s t.account.readers i ≡ s = same_at i s t.account.readers in
      leaves_any (λ (b : Account). b.readers i ≡ s) x (answer_of o) i _ q q ∙ ap (λ (k : ℕ). spoken x k (value_of o)) e

  went : Due → Reader
  went d = elim d [ Nothing ↦ r | Load ↦ turned 0 Restore r | Restore ↦ turned 1 Nothing r ]

  leaves : Leaves m t i r
  unfolding went
  leaves =
      record {
        by_release = λ j n z. ap delays (after_is (Release j) 0 z) ∙ last j (inside (closes j r)) n;
        by_restore = λ q z. ap delays (after_is GoOn 15 z) ∙ ap (λ (d : Due). delays (went d)) q ∙ turned_passes r Nothing h;
        by_load = λ q z.
            let v = value_of (reply m (On i GoOn) t.world) in
            (ap (λ (s : Reader). s.due) (after_is GoOn 0 z), ap (λ (s : Reader). s.guards v) (after_is GoOn 0 z) ∙ same_at v true r.guards);
        by_null = λ q z. ap (λ (s : Reader). s.due) (after_is GoOn 15 z) ∙ ap (λ (d : Due). (went d).due) q;
      }
    where
      last : (j : ℕ) (b : Bool) → b ≡ false → delays (elim b [ true ↦ closes j r | false ↦ turned 1 r.due (closes j r) ]) ≡ false
      last j true e = absurd (true≢false e)
      last j false e = turned_passes (closes j r) r.due h

-- ---- every history, of any machine

module _ (m : Machine) where
  pub always : Always m
  always =
      record {
        leaves = λ ks i h. leaves m (told m ks) i h;
        moved_on = λ ks i. moved_on ((told m ks).account.readers i);
        owned = owned_behind m;
        owned_moved_on = λ ks i o ne b.
            let r = (told m ks).account.readers i in
            moved_on r (behind r.snapshot r.epoch (owned_behind m ks i o) ne) b;
        first_meets_none = none_met m;
        steps = λ ks. plan_steps (told m ks).account.store (none_logged m ks);
        inner_steps = λ ks. let s = (told m ks).account.store in (first_steps_lem s (none_logged m ks), second_steps_lem s (none_logged m ks));
      }
    where
      behind : (x y : ℕ) → x ≤ y → x ≢ y → x < y
      behind x y le ne = omega (arith, ne)
