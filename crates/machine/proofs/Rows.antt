-- What the row of a phase decides, r being that row.
use Prim.Native.Nat.{ℕ}
use mathlib.Core.Path.{◌≡◌, sym, ap, ◌∙◌}
use mathlib.Core.Bool.{Bool, true, false, ◌||◌}
use borrow.Author.Tests.{ne_eqb}
use lib.Dec.{eqb}
use Rattle.table.specs.declared.Answer.TheVariants as answer
use Rattle.read.specs.declared.Phase.{Phase}
use Rattle.read.specs.declared.Job.{Job}
use Rattle.read.specs.declared.Control.{Control}
use Rattle.read.specs.Machine.{row}
use Rattle.write.specs.Steps.{polling, last_polling}
use Rattle.write.specs.Scans.{is_poll, is_last_poll, polls, scanning_at, stop_answer, stop_control, halt_answer, halted}

module _ (p : Phase) {r : ℕ} (h : r ≡ row p) where
  pub polls_poll : r ≡ 2 → eqb r 2 ≡ polls p
  polls_poll e = ap (λ (n : ℕ). eqb n 2) e ∙ ap (λ (n : ℕ). eqb n 2 || eqb n 11) (sym e ∙ h)

  is_poll_lem : r ≡ 2 → is_poll p ≡ true
  is_poll_lem e = ap (λ (n : ℕ). eqb n 2) (sym h ∙ e)

  no_poll : (r ≡ 2 → ⊥) → is_poll p ≡ false
  no_poll f = ne_eqb (row p) 2 (λ e. f (h ∙ e))

  pub polls_last : (r ≡ 2 → ⊥) → eqb r 11 ≡ polls p
  polls_last f = λ i. sym (no_poll f) i || eqb (h i) 11

  module _ (c : Control) (i : ℕ) where
    pub scanning_poll : r ≡ 2 → polling c i ≡ scanning_at p c i
    scanning_poll e =
        ap (λ (b : Bool). elim b [ true ↦ polling c i | false ↦ elim (is_last_poll p) [ true ↦ last_polling i | false ↦ p ] ]) (sym (is_poll_lem e))

    pub scanning_last : r ≡ 11 → last_polling i ≡ scanning_at p c i
    scanning_last e =
        ap (λ (n : ℕ). elim (eqb n 2) [ true ↦ polling c i | false ↦ elim (eqb n 11) [ true ↦ last_polling i | false ↦ p ] ]) (sym e ∙ h)

    pub scanning_none : (r ≡ 2 → ⊥) → (r ≡ 11 → ⊥) → p ≡ scanning_at p c i
    scanning_none f g =
        λ j. elim (sym (no_poll f) j) [ true ↦ polling c i | false ↦ elim (sym (ne_eqb (row p) 11 (λ e. g (h ∙ e))) j) [ true ↦ last_polling i | false ↦ p ] ]

  module _ (j : Job) where
    pub answer_poll : r ≡ 2 → stop_answer j ≡ halt_answer p j
    answer_poll e = ap (λ (b : Bool). elim b [ true ↦ stop_answer j | false ↦ answer.Held ]) (sym (is_poll_lem e))

    pub answer_last : (r ≡ 2 → ⊥) → answer.Held ≡ halt_answer p j
    answer_last f = ap (λ (b : Bool). elim b [ true ↦ stop_answer j | false ↦ answer.Held ]) (sym (no_poll f))

  module _ (c : Control) where
    pub halted_poll : r ≡ 2 → stop_control c.job c ≡ halted p c
    halted_poll e = ap (λ (b : Bool). elim b [ true ↦ stop_control c.job c | false ↦ c ]) (sym (is_poll_lem e))

    pub halted_last : (r ≡ 2 → ⊥) → c ≡ halted p c
    halted_last f = ap (λ (b : Bool). elim b [ true ↦ stop_control c.job c | false ↦ c ]) (sym (no_poll f))
