-- Each return is the rule's under the tests that led there.
use mathlib.Core.Path.{◌≡◌, sym, ap, ◌∙◌}
use mathlib.Core.Bool.{true}
use native.Mathlib.Omega.{arith}
use Rattle.format.specs.declared.Fault.TheVariants.{Torn}
use Rattle.format.specs.Schedule.{marked, flaw}
use Rattle.format.proofs.Records.{unmarked_short, marked_start, unmarked_start, flaw_unmarked, flaw_version, flaw_torn, flaw_whole}
use Rattle.format.proofs.check.Goals as goal
use Rattle.format.proofs.check.Goals.{Else-not-starts_with, then-s-lt-HEAD-via-then-s-lt-HEAD, then-s-lt-HEAD-via-else-s-lt-HEAD+then-not-starts_with}

pub returns-then-s-lt-HEAD : goal.returns-then-s-lt-HEAD
returns-then-s-lt-HEAD c =
    let s = c.args.s.now in
    elim c.then-s-lt-HEAD.branch [
      | then-s-lt-HEAD-via-then-s-lt-HEAD w ↦ sym (flaw_unmarked s (unmarked_short s w.if-s-lt-HEAD.true))
      | then-s-lt-HEAD-via-else-s-lt-HEAD+then-not-starts_with w ↦
          sym (flaw_unmarked s (unmarked_start s (sym w.starts_with.ensures.value ∙ w.if-not-starts_with.true)))
    ]

-- the mark is there
is_marked : (c : Else-not-starts_with) → marked c.args.s.now ≡ true
is_marked c = marked_start c.args.s.now c.if-s-lt-HEAD.false ∙ sym c.starts_with.ensures.value ∙ c.if-not-starts_with.false

pub returns-then-from_le_bytes-ne1 : goal.returns-then-from_le_bytes-ne1
returns-then-from_le_bytes-ne1 c =
    sym (flaw_version _ (is_marked (goal.at.returns-then-from_le_bytes-ne1 c).Else-not-starts_with) (λ v. c.if-from_le_bytes-ne1.true (omega (arith, v, c.from_le_bytes.ensures))))

pub returns-then-s-ne0 : goal.returns-then-s-ne0
returns-then-s-ne0 c =
    ap (flaw Torn) c.count.ensures
    ∙ sym (flaw_torn _ (is_marked (goal.at.returns-then-s-ne0 c).Else-not-starts_with) (omega (arith, c.if-from_le_bytes-ne1.false, c.from_le_bytes.ensures)) c.if-s-ne0.true)

pub returns : goal.returns
returns c =
    c.check_records.ensures
    ∙ sym (flaw_whole _ (is_marked (goal.at.returns c).Else-not-starts_with) (omega (arith, c.if-from_le_bytes-ne1.false, c.from_le_bytes.ensures)) c.if-s-ne0.false)
