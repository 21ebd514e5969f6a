-- The calls that are made at once: each rule under the tests that lead to it, as the code's functions meet it.
use Rattle.std.proofs.Common.{◌≡◌, ℕ, Bool, true, false, not, leb, List, length, sym, ap, ◌∙◌}
use borrow.Author.Tests.{not-false}
use Rattle.table.specs.Order.{Op}
use Rattle.table.specs.declared.Search.{Search}
use Rattle.table.proofs.Booleans.{both}
use Rattle.table.specs.declared.Answer.{Answer}
use Rattle.read.specs.declared.Slot.{Slot}
use Rattle.read.specs.declared.Control.{Control}
use Rattle.read.specs.Machine.{Verdict}
use Rattle.std.specs.Prelude.{Ok, Err}
use Rattle.read.specs.declared.Sign.{Sign}
use Rattle.read.specs.Handles.{smallest}
use Rattle.read.specs.Calls.{Lent, lent}
use Rattle.write.specs.declared.Moved.{Moved}
use Rattle.write.specs.Steps.{refused}
use Rattle.write.specs.Begins.{writer_signs, batch_room, all_lawful, lawful_batch, crowds, appended, append_by}
use Rattle.read.proofs.Verdicts.{silent}

-- ---- append

-- by the verdict on what speaks against it
module _ (os : List Op) (c : Control) (s : Slot) {u f : Bool} {n : ℕ} {v : Verdict} (x : u ≡ lawful_batch os) (z : n ≡ length os)
    (y : f ≡ crowds n c) (h : v ≡ smallest (writer_signs 7 (not u) f c s))
  where
    abbrev signs : List Sign
    signs = writer_signs 7 (not (lawful_batch os)) (crowds (length os) c) c s

    signed : v ≡ smallest signs
    signed = h ∙ (λ i. smallest (writer_signs 7 (not (x i)) ((y ∙ ap (λ (n : ℕ). crowds n c) z) i) c s))

    -- what one that is made was admitted by
    pub append_fits : v ≡ Ok tt → (all_lawful os ≡ true) × (crowds (length os) c ≡ false)
    append_fits q =
        let a : smallest signs ≡ Ok tt = sym signed ∙ q in (
          (both (leb (length os) batch_room) (all_lawful os) (not-false (lawful_batch os) (silent 5 signs a))).1,
          silent 11 signs a,
        )

    module _ (how : Search) (e : ℕ) (l r g : List ℕ) where
      abbrev Judged : Verdict → Lent Moved
      Judged v = elim v [ Ok _ ↦ appended how c.first os c s e l r g | Err a ↦ lent (refused a c s e) l r g ]

      append_by_lem : {w : Verdict} → v ≡ w → Judged w ≡ append_by how os c s e l r g
      unfolding append_by
      append_by_lem q = ap Judged (sym q ∙ signed)

      pub append_admitted : {o : Lent Moved} → v ≡ Ok tt → o ≡ appended how c.first os c s e l r g → o ≡ append_by how os c s e l r g
      append_admitted q k = k ∙ append_by_lem q

      pub append_refused : {a : Answer} {m : Moved} → v ≡ Err a → m ≡ refused a c s e → lent m l r g ≡ append_by how os c s e l r g
      append_refused q k = ap (λ (m : Moved). lent m l r g) k ∙ append_by_lem q
