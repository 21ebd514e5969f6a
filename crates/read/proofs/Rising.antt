-- On copies whose keys rise a call on a handle is the same, whichever way a key is searched.
use Rattle.std.proofs.Common.{◌≡◌, ℕ, eqb, List, get_or, refl, ap}
use Rattle.table.specs.declared.Answer.TheVariants as answer
use Rattle.table.specs.declared.Search.{Search}
use Rattle.table.specs.Copy.{look_by}
use Rattle.table.specs.Order.{Rising}
use Rattle.table.proofs.Found.{look_rising}
use Rattle.read.proofs.Cases.{of_copy}
use Rattle.read.specs.declared.Slot.{Slot}
use Rattle.read.specs.declared.Control.{Control}
use Rattle.read.specs.declared.Handle.{Handle}
use Rattle.read.specs.declared.Handle.TheVariants.{Drop, Enter, GoOn, Release, LookUp, WasDropped}
use Rattle.std.specs.Prelude.{Ok, Err}
use Rattle.read.specs.Machine.{stands_right}
use Rattle.read.specs.Handles.{smallest, handle_signs, made_of, guarded_copy, handled, handled_by, handle_on, handle_by}

module _ (how : Search) (c : Control) (i : ℕ) (s : Slot) (l r : List ℕ) (x : Rising l) (y : Rising r) where
  handled_rising : (h : Handle) → handled_by (look_by how) c i s h l r ≡ handled c i s h l r
  unfolding handled_by
  handled_rising Drop = refl
  handled_rising Enter = refl
  handled_rising GoOn = refl
  handled_rising (Release j) = refl
  handled_rising (LookUp j key) =
      ap (λ (p : List ℕ). made_of c answer.Done (get_or p 1 0) s)
      (look_rising key (guarded_copy s.guards j l r) (of_copy Rising (stands_right s.guards j) x y) how)
  handled_rising WasDropped = refl

  pub handle_rising : (h : Handle) → handle_by (look_by how) c i s h l r ≡ handle_on c i s h l r
  unfolding handle_by
  handle_rising h =
      λ k.
      elim (smallest (handle_signs c (eqb i 0) s h)) [ Ok _ ↦ handled_rising h k | Err a ↦ made_of c a 0 s ]
