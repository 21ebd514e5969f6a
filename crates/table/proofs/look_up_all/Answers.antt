-- Each answer is the rule's under the tests that led to it; past them the view may be searched as its order says.
use mathlib.Core.Path.{sym, ◌∙◌}
use Rattle.table.proofs.Many.{all_no_view, all_no_room, all_broken, all_told}
use Rattle.table.proofs.look_up_all.Goals as goal
use Rattle.table.proofs.look_up_all.Goals.{then-not-is_view-via-then-not-is_view, then-not-is_view-via-else-not-is_view+then-not-is_twice}

pub returns-then-not-is_view : goal.returns-then-not-is_view
returns-then-not-is_view c =
    elim c.then-not-is_view.branch [
      | then-not-is_view-via-then-not-is_view w ↦ sym (all_no_view _ _ _ (sym c.is_view.ensures ∙ w.if-not-is_view.true))
      | then-not-is_view-via-else-not-is_view+then-not-is_twice w ↦
          sym (all_no_room _ _ _ (sym c.is_view.ensures ∙ w.if-not-is_view.false) (sym w.is_twice.ensures ∙ w.if-not-is_twice.true))
    ]

pub returns-then-v-gt-MOST : goal.returns-then-v-gt-MOST
returns-then-v-gt-MOST c =
    sym (all_broken _ _ _ (sym c.is_view.ensures ∙ c.if-not-is_view.false) (sym c.is_twice.ensures ∙ c.if-not-is_twice.false) c.if-v-gt-MOST.true)

pub returns : goal.returns
returns c =
    rw c.tell_all.ensures
    (sym (all_told _ _ _ (sym c.is_view.ensures ∙ c.if-not-is_view.false) (sym c.is_twice.ensures ∙ c.if-not-is_twice.false) c.if-v-gt-MOST.false))
