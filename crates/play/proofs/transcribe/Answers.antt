-- The rule's case under the tests that led there; the loop's contract gives the transcript.
use Prim.Native.Nat.{ℕ, ◌≤◌}
use mathlib.Core.Path.{◌≡◌, sym, ap, ◌∙◌}
use mathlib.Core.List.{List}
use native.Mathlib.Omega.{arith}
use borrow.Author.Rules.{part_to_end}
use lib.ListN.{length, drop}
use Rattle.std.proofs.lemmas.Result.{err_from_is_err_and}
use Rattle.table.proofs.CopyOrder.{tidy_empty}
use Rattle.write.specs.World.{World}
use Rattle.format.specs.Schedule.{head_bytes, count, entries_in, flaw_of, number_of}
use Rattle.format.proofs.Units.{units_fewer}
use Rattle.format.proofs.Records.{Flawless, flawless, some_number}
use Rattle.play.specs.Schedule.{calls_in}
use Rattle.play.specs.Player.{transcript}
use Rattle.play.proofs.Lengths.{part_length, part_written, part_bytes, fresh_world_lem, fresh_whole}
use Rattle.play.proofs.Rule.{play_flawed, play_short, play_made}
use Rattle.play.proofs.transcribe.Goals as goal
use Rattle.play.proofs.transcribe.Goals.{In_ok-entries}

pub returns-in_err-entries : goal.returns-in_err-entries
returns-in_err-entries c =
    let a = c.args in
    let f = c.in_err-entries.field-0.0.fault in
    let p = err_from_is_err_and c.from_residual.result c.from_residual.ensures.1 in
    rw (p.1, p.2) (play_flawed a.schedule.now a.out.now (ap number_of c.in_err-entries.ensures) (some_number f))

-- nothing is wrong with the file
module _ (c : In_ok-entries) where
  abbrev file : List ℕ
  file = c.args.schedule.now

  sound : number_of (flaw_of file) ≡ 0
  sound = sym (ap number_of c.in_ok-entries.ensures)

  whole : Flawless file
  whole = flawless file sound

  -- so it has its head
  long : head_bytes ≤ length file
  long = omega (arith, whole.whole)

  -- how many entries it will have
  entries : c.in_ok-entries.entries ≡ entries_in file
  entries = let e = c.in_ok-entries.ensures ∙ whole.entries in cc e

pub overflow_mul-entries : goal.overflow_mul-entries
overflow_mul-entries c =
    let s = c.args.schedule.now in
    omega (arith, entries (goal.at.overflow_mul-entries c).In_ok-entries, units_fewer s head_bytes 0 (count s), c.well_formed)

pub returns-then-out-entries : goal.returns-then-out-entries
returns-then-out-entries c =
    let a = c.args in
    let d = (goal.at.returns-then-out-entries c).In_ok-entries in
    play_short a.schedule.now a.out.now (sound d) (omega (arith, c.if-out-entries.true, entries d))

pub slice_bounds-play_on-count : goal.slice_bounds-play_on-count
slice_bounds-play_on-count c = long (goal.at.slice_bounds-play_on-count c).In_ok-entries

pub slice_bounds-play_on-start : goal.slice_bounds-play_on-start
slice_bounds-play_on-start c = long (goal.at.slice_bounds-play_on-start c).In_ok-entries

pub play_on-r-requires : goal.play_on-r-requires
play_on-r-requires c =
    let a = c.args in
    let s = a.schedule.now in
    let fit : (b : List ℕ) → b ≡ drop 5 s → (w : World) → length (transcript (calls_in b) w) ≤ length a.out.now =
    λ b p w. omega (arith, part_length s p w, c.if-out-entries.false, entries (goal.at.play_on-r-requires c).In_ok-entries) in
    (fresh_whole c.fresh_state-st.ensures, tidy_empty, tidy_empty, fit _ (part_to_end s 5) _)

pub returns : goal.returns
returns c =
    let p = c.play_on-r in
    let a = c.args in
    let s = a.schedule.now in
    let d = (goal.at.returns c).In_ok-entries in
    let w = fresh_world_lem c.fresh_state-st.ensures in
    play_made s a.out.now (sound d) (part_written s (part_to_end s 5) _ p.ensures.0) (omega (arith, c.if-out-entries.false, entries d))
    (p.ensures.1 ∙ part_bytes s (part_to_end s 5) a.out.now w)
