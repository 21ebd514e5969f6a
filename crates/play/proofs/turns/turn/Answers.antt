-- Each result is the rule's at the call that the match found.
use mathlib.Core.Path.{sym, ap, ◌∙◌}
use mathlib.Core.Logic.{inl, inr}
use Rattle.read.specs.Calls.{lent}
use Rattle.write.specs.declared.Moved.{Moved}
use Rattle.play.specs.declared.schedule.Act.{Act}
use Rattle.play.specs.Turns.{meant_at, moved_by, turn_on}
use Rattle.table.specs.declared.Search.TheVariants.{Halve}
use Rattle.write.proofs.Rising.{append_rising}
use Rattle.play.proofs.turns.turn.Goals as goal

pub returns-in-Create : goal.returns-in-Create
unfolding turn_on
returns-in-Create c =
    let a = c.args in
    ap (λ (x : Moved). lent x a.left.now a.right.now a.log.now) (c.moved_by.ensures ∙ ap (moved_by a.c) c.create.ensures)
    ∙ sym (ap (λ (k : Act). turn_on (meant_at a.schedule.now a.at k) a.i a.c a.s a.left.now a.right.now a.log.now) c.in-Create.is)

pub returns-in-On : goal.returns-in-On
unfolding turn_on
returns-in-On c =
    let a = c.args in
    ap (λ (x : Moved). lent x a.left.now a.right.now a.log.now) c.touch.ensures
    ∙ sym (ap (λ (k : Act). turn_on (meant_at a.schedule.now a.at k) a.i a.c a.s a.left.now a.right.now a.log.now) c.in-On.is)

pub returns-in-Append : goal.returns-in-Append
unfolding turn_on
returns-in-Append c =
    let a = c.args in
    let t = c.requires in
    c.append_by.ensures
    ∙ append_rising Halve a.c a.s 0 a.left.now a.right.now a.log.now t.1 t.2 _
    ∙ sym (ap (λ (k : Act). turn_on (meant_at a.schedule.now a.at k) a.i a.c a.s a.left.now a.right.now a.log.now) c.in-Append.is)

pub returns-in-Batch : goal.returns-in-Batch
unfolding turn_on
returns-in-Batch c =
    let a = c.args in
    c.batch.ensures
    ∙ sym (ap (λ (k : Act). turn_on (meant_at a.schedule.now a.at k) a.i a.c a.s a.left.now a.right.now a.log.now) c.in-Batch.is)

pub returns-in-Open : goal.returns-in-Open
unfolding turn_on
returns-in-Open c =
    let a = c.args in
    ap (λ (x : Moved). lent x a.left.now a.right.now a.log.now) c.open_on.ensures
    ∙ sym (ap (λ (k : Act). turn_on (meant_at a.schedule.now a.at k) a.i a.c a.s a.left.now a.right.now a.log.now) c.in-Open.is)

pub returns-in-Step : goal.returns-in-Step
unfolding turn_on
returns-in-Step c =
    let a = c.args in
    let turned = λ (k : Act). turn_on (meant_at a.schedule.now a.at k) a.i a.c a.s a.left.now a.right.now a.log.now in
    ap (λ (x : Moved). lent x a.left.now a.right.now a.log.now) c.moved_as.ensures
    ∙ sym (elim c.in-Step.is [ inl step ↦ ap turned step | inr run ↦ ap turned run ])
