-- A handle's four guards: what the searches over them say, and what a guard put among them changes.
use Prim.Native.Nat.{ℕ, ◌≤◌, ◌<◌}
use mathlib.Core.Path.{◌≡◌, refl, ◌∙◌}
use mathlib.Core.Logic.{◌≢◌}
use mathlib.Core.Bool.{Bool, true, false, ◌&&◌}
use mathlib.Core.List.{List}
use native.Mathlib.Omega.{arith}
use lib.ListN.{length, set, length-set}
use lib.Dec.{ltb}
use borrow.Author.Tests.{ltb-true, ltb-false, leb-false, eq-eqb, ne_eqb, lt-ltb}
use Rattle.table.specs.Seek.{seek}
use Rattle.table.proofs.Seek.{seek_before}
use Rattle.table.proofs.Split.{split}
use Rattle.table.proofs.Booleans.{clash, both}
use Rattle.table.proofs.Lists.{at_set}
use Rattle.read.specs.declared.Guard.{Guard}
use Rattle.read.specs.Machine.{guard_count, shut, no_guards, is_open, stands_right, put_guard, first_guard, any_open, all_open}
use Rattle.demands.specs.Account.{with_at}

-- ---- a store, read everywhere

module _ {A : Type 0} where
  pub same_at : (k : ℕ) (v : A) (f : ℕ → A) → with_at k v f k ≡ v
  same_at k v f = rw (eq-eqb k k refl, with_at)

  pub other_at : (k : ℕ) (v : A) (f : ℕ → A) (i : ℕ) → i ≢ k → with_at k v f i ≡ f i
  other_at k v f i ne = rw (ne_eqb i k ne, with_at)

-- ---- the guards

pub open_below : (gs : List Guard) (j : ℕ) → is_open gs j ≡ true → j < guard_count
open_below gs j o = ltb-true j guard_count (both (ltb j guard_count) _ o).0

pub all_shut : (gs : List Guard) → any_open gs ≡ false → (j : ℕ) → is_open gs j ≡ true → ⊥
all_shut gs e j o =
    let h : guard_count ≤ first_guard true gs = ltb-false (first_guard true gs) guard_count e in
    clash o (seek_before (λ i. is_open gs i) guard_count j (omega (arith, open_below gs j o)))

pub some_open : (gs : List Guard) (j : ℕ) → is_open gs j ≡ true → any_open gs ≡ true
some_open gs j o = split (any_open gs) (λ e. e) (λ e. absurd (all_shut gs e j o))

pub none_open : any_open no_guards ≡ false
unfolding seek
none_open = refl

pub new_shut : (j : ℕ) → is_open no_guards j ≡ false
new_shut j = split (is_open no_guards j) (λ e. absurd (all_shut no_guards none_open j e)) (λ e. e)

-- where not all are open, the first that is shut is one of them
pub has_room : (gs : List Guard) → all_open gs ≡ false → first_guard false gs < guard_count
has_room gs e = leb-false guard_count (first_guard false gs) e

module _ (gs : List Guard) (four : length gs ≡ guard_count) (k : ℕ) (x : Guard) (h : k < guard_count) where
  put_set : put_guard k x gs ≡ set gs k x
  put_set = rw (lt-ltb k guard_count h, put_guard)

  pub put_four : length (put_guard k x gs) ≡ guard_count
  put_four = rw put_set (length-set gs k x ∙ four)

  -- what holds of the guard that is put there, and of each other as it was, holds of each
  pub at_put :
      (P : ℕ → Bool → Bool → Type 0) → P k x.opened x.right →
      ((j : ℕ) → j ≢ k → P j (is_open gs j) (stands_right gs j)) →
      (j : ℕ) → P j (is_open (put_guard k x gs) j) (stands_right (put_guard k x gs) j)
  at_put P p q = rw put_set
      (at_set (λ j y. P j (ltb j guard_count && y.opened) (ltb j guard_count && y.right)) gs k x shut (rw four h)
      (rw (lt-ltb k guard_count h) p) q)
