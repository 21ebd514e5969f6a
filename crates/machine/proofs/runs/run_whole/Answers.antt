-- Before each turn of the steps the run goes on from here to what it is to give; before each turn of the slot scan it stands in the
-- scan, one step being made for each slot that was passed. Each turn is one law of a run.
use mathlib.Core.Path.{refl, sym, ◌∙◌}
use native.Mathlib.Omega.{arith}
use borrow.Author.Rules.{rules}
use lib.ListN.{get_or}
use Rattle.read.specs.Machine.{slot_total}
use Rattle.write.proofs.Turns.{holds_there, scan_begins, scan_on, scan_ends, runs_scanned, runs_stepped}
use Rattle.write.proofs.Control.{control_whole, whole_control_lem}
use Rattle.write.proofs.RunLaws.{goes_start, goes_few, goes_ended}
use Rattle.machine.proofs.runs.run_whole.Goals as goal

pub steps-init : goal.steps-init
steps-init c =
    let a = c.args in
    record {
      goes = goes_start a.st a.left.now a.right.now a.log.now (control_whole a.st.control c.requires);
      done = refl;
      slots = search rules;
      left = refl;
      right = refl;
      log = refl;
    }

pub place-at-requires : goal.place-at-requires
place-at-requires c = whole_control_lem c.steps.c c.steps.invariant.goes.whole

pub loop-i-init : goal.loop-i-init
loop-i-init c =
    let v = c.steps in
    scan_begins v.c v.n c.place-at.result v.answer-1 v.slots v.snaps v.left v.right v.log
    (sym c.polls.ensures ∙ c.if-polls.true) c.place-at.ensures.0 c.place-at.ensures.1

pub overflow_add-n : goal.overflow_add-n
overflow_add-n c = let h = goes_few (c.loop-i.invariant.scans _ _ c.steps.invariant.goes) in omega arith

pub loop-i-preserved : goal.loop-i-preserved
loop-i-preserved c =
    let v = c.steps in
    let i = c.loop-i.i in
    scan_on c.loop-i.invariant c.loop-i-test.true
    (holds_there v.slots i (get_or v.snaps i 0) _ (omega (arith, v.invariant.slots, c.loop-i-test.true)) c.holds.ensures c.if-holds.false)

pub steps-preserved-then-polls : goal.steps-preserved-then-polls
steps-preserved-then-polls c =
    runs_scanned c.steps.invariant c.loop-i.invariant slot_total (omega (arith, c.loop-i-test.false, c.loop-i.auto.i-end)) c.scanning-c.ensures

pub steps-smaller-then-polls : goal.steps-smaller-then-polls
steps-smaller-then-polls c =
    let v = c.loop-i.invariant in
    let x = runs_scanned c.steps.invariant c.loop-i.invariant slot_total (omega (arith, c.loop-i-test.false, c.loop-i.auto.i-end)) c.scanning-c.ensures in
    omega (arith, x.goes.count, c.steps.invariant.goes.count, v.count, v.from, c.loop-i-test.false)

pub overflow_add-n-else-polls : goal.overflow_add-n-else-polls
overflow_add-n-else-polls c = let h = goes_few c.steps.invariant.goes in omega arith

pub steps-preserved : goal.steps-preserved
steps-preserved c =
    runs_stepped c.steps.invariant c.place-at.result _ c.advance_by-m.result _ _ _ c.place-at.ensures.0 c.place-at.ensures.1 c.advance_by-m.ensures
    (sym c.underway.ensures ∙ c.steps-test.true) (sym c.polls.ensures ∙ c.if-polls.false) c.advance_by-m.auto.left c.advance_by-m.auto.right c.advance_by-m.auto.log

pub steps-smaller : goal.steps-smaller
steps-smaller c =
    let x =
    runs_stepped c.steps.invariant c.place-at.result _ c.advance_by-m.result _ _ _ c.place-at.ensures.0 c.place-at.ensures.1 c.advance_by-m.ensures
    (sym c.underway.ensures ∙ c.steps-test.true) (sym c.polls.ensures ∙ c.if-polls.false) c.advance_by-m.auto.left c.advance_by-m.auto.right c.advance_by-m.auto.log
    in
    omega (arith, x.goes.count, c.steps.invariant.goes.count)

pub shape_of-left-after-steps : goal.shape_of-left-after-steps
shape_of-left-after-steps c = c.steps.invariant.left

pub shape_of-right-after-steps : goal.shape_of-right-after-steps
shape_of-right-after-steps c = c.steps.invariant.right

pub shape_of-log-after-steps : goal.shape_of-log-after-steps
shape_of-log-after-steps c = c.steps.invariant.log

pub returns-after-steps : goal.returns-after-steps
returns-after-steps c = goes_ended c.steps.invariant.goes c.steps.invariant.done (sym c.underway.ensures ∙ c.steps-test.false)

pub shape_of-left-then-holds : goal.shape_of-left-then-holds
shape_of-left-then-holds c = c.steps.invariant.left

pub shape_of-right-then-holds : goal.shape_of-right-then-holds
shape_of-right-then-holds c = c.steps.invariant.right

pub shape_of-log-then-holds : goal.shape_of-log-then-holds
shape_of-log-then-holds c = c.steps.invariant.log

pub returns-then-holds : goal.returns-then-holds
returns-then-holds c =
    let v = c.steps in
    let i = c.loop-i.i in
    scan_ends c.loop-i.invariant c.loop-i-test.true v.invariant.goes
    (holds_there v.slots i (get_or v.snaps i 0) _ (omega (arith, v.invariant.slots, c.loop-i-test.true)) c.holds.ensures c.if-holds.true)
    c.outcome-answer.ensures c.scanning.ensures c.halted-c.ensures
