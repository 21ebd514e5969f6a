-- Before a record the output holds the entries of those before it, and the rest gives what is missing (`Plays`). Before a step its call is
-- on its way (`Going`). Each way through the body is one law.
use Prim.Native.Nat.{ℕ, suc, ◌+◌, ◌-◌, ◌*◌, ◌≤◌, ◌<◌, min}
use mathlib.Core.Path.{◌≡◌, sym, ap, subst, ◌∙◌}
use mathlib.Core.Bool.{Bool}
use mathlib.Core.List.{List}
use native.Mathlib.Omega.{arith}
use borrow.Author.Rules.{rules}
use lib.ListN.{length, get_or, set}
use Rattle.read.specs.declared.Control.{Control}
use Rattle.read.specs.declared.Reply.{Reply}
use Rattle.read.specs.declared.Slot.{Slot}
use Rattle.read.specs.Calls.{Lent}
use Rattle.play.specs.declared.turns.Far.{Far}
use Rattle.read.specs.Machine.{slot_total, slot_count, no_slot, place}
use Rattle.write.specs.Call.{Call}
use Rattle.format.specs.Schedule.{record_bytes}
use Rattle.format.specs.Transcript.{put_rule}
use Rattle.play.specs.Turns.{members_of}
use Rattle.write.specs.Machine.{call_on}
use Rattle.write.proofs.NeverBroken.{Sound}
use Rattle.write.proofs.Turns.{place_below}
use Rattle.format.proofs.Bytes.{put_entry}
use Rattle.play.specs.Schedule.{ops_from, decoded}
use Rattle.play.proofs.Turned.{within_below, read_slot}
use Rattle.play.proofs.Going.{Said, Going, going_goes, going_over, going_begins, going_steps, put_same, put_other, sound_after, next_slot, said_as, ahead}
use Rattle.play.proofs.Plays.{remain, next, plays_start, plays_record, plays_room, plays_next, plays_end, plays_reached, sound_judged, turn_said}
use Rattle.read.proofs.Cases.{state_of}
use Rattle.play.proofs.play_on.Goals as goal
use Rattle.play.proofs.play_on.Goals.{After-behind-from, In-loop-from, Joined-is_going, Joined-slots-k, Start, else-is_going, else-slots-k, then-is_going+in-Over, then-slots-k}

-- the machine that is handed in
begins : (a : Start) → Sound a.args.st a.args.left.now a.args.right.now a.args.log.now
unfolding slot_count
begins a =
    sound_judged a.args.st a.args.left.now a.args.right.now a.args.log.now a.requires.0 a.requires.1 a.requires.2
    (search rules)
    (search rules)

-- the slot that the next step looks at is there, and it does not matter how it was read
module _ {o : Lent Reply} {run : Bool} {f : Far} {c : Control} {ss : List Slot} {es l r g : List ℕ} (v : Going o run f c ss es l r g) {k : ℕ} (e : k ≡ place c.phase) where
  inside : k < slot_total
  inside = place_below v.sound.good.whole e

  own : (d : Slot) → get_or ss k d ≡ get_or ss k no_slot
  own d = read_slot ss d v.sound.slots inside

-- what the step left of its slot is in its place
put_back : (j : Joined-slots-k) → (let v = j.loop-far in j.if-slots-k.slots ≡ set v.slots v.k j.advance_by-m.result.slot)
put_back j =
    let v = j.loop-far.invariant in
    let x = j.advance_by-m.ensures in
    let g = going_goes v.0 j.in-Goes.is in
    elim j.if-slots-k.branch [
      | then-slots-k w ↦ w.slots-is ∙ put_other g v.0.sound v.1 (own v.0 v.1 _) x w.if-slots-k.true w.freed.ensures
      | else-slots-k w ↦ w.slots-is ∙ put_same g v.0.sound v.1 (own v.0 v.1 _) x w.if-slots-k.false
    ]

-- the next step's slot is there
placed_next : (j : Joined-slots-k) {k : ℕ} → k ≡ place j.advance_by-m.result.control.phase → k < slot_total
placed_next j e =
    let v = j.loop-far.invariant in
    place_below (sound_after (going_goes v.0 j.in-Goes.is) v.0.sound v.1 (own v.0 v.1 _) j.advance_by-m.ensures (put_back j)).good.whole e

-- what the record's call said, by either way
says : (j : Joined-is_going) → (let v = j.loop-from in let s = j.args.s.now in let f = j.if-is_going in Said (call_on (decoded s v.from) (state_of v.c v.slots v.snaps) v.left v.right v.log) f.answer.0 f.answer.1 f.c f.slots f.snaps f.left f.right f.log)
says j =
    let v = j.loop-from in
    let s = j.args.s.now in
    let d = j.decode-call in
    let f = j.if-is_going in
    let p = j.is_going.ensures in
    subst
    (λ (k : Call). Said (call_on k (state_of v.c v.slots v.snaps) v.left v.right v.log) f.answer.0 f.answer.1 f.c f.slots f.snaps f.left f.right f.log)
    d.ensures.1
    (elim f.branch [
      | then-is_going+in-Over w ↦
          said_as (going_over w.loop-far.invariant.0 w.in-Over.is) w.left-is w.right-is w.log-is w.c-is w.slots-is w.snaps-is
          (λ i. (w.answer-is i).0) (λ i. (w.answer-is i).1)
      | else-is_going w ↦
          said_as
          (turn_said (ops_from s (v.from + record_bytes) (members_of d.result)) d.result (sym p ∙ w.if-is_going.false) v.c v.slots v.snaps v.left v.right v.log w.slot-i.ensures
          (read_slot v.slots _ v.invariant.sound.slots (within_below w.slot-i.result)) w.turn-m.ensures)
          w.left-is w.right-is w.log-is w.c-is w.slots-is w.snaps-is (λ i. (w.answer-is i).0) (λ i. (w.answer-is i).1)
    ])

-- a record is at hand
whole : (c : In-loop-from) → c.loop-from.from + record_bytes ≤ length c.args.s.now
whole c = plays_record c.loop-from.invariant c.loop-from-test.true

-- where the next one begins
there : (c : After-behind-from) → c.behind-from.result ≡ next c.loop-from.invariant c.loop-from-test.true
there c =
    let v = c.loop-from in
    c.behind-from.ensures
    ∙ ap (λ (m : ℕ). v.from + record_bytes * suc (min m (remain c.args.s.now v.from - 1))) c.decode-call.ensures.0

pub loop-from-init : goal.loop-from-init
unfolding slot_count
loop-from-init c =
    plays_start c.args.s.now c.args.out.now c.args.st c.args.left.now c.args.right.now c.args.log.now (begins (goal.at.loop-from-init c).Start)
    c.requires.3

pub offset_bounds-slots-k : goal.offset_bounds-slots-k
offset_bounds-slots-k c = omega (arith, place_below c.loop-from.invariant.sound.good.whole c.place-k.ensures)

pub bounds-slots-k : goal.bounds-slots-k
bounds-slots-k c = place_below c.loop-from.invariant.sound.good.whole c.place-k.ensures

pub offset_bounds-snaps-k : goal.offset_bounds-snaps-k
offset_bounds-snaps-k c = omega (arith, place_below c.loop-from.invariant.sound.good.whole c.place-k.ensures)

pub bounds-snaps-k : goal.bounds-snaps-k
bounds-snaps-k c = place_below c.loop-from.invariant.sound.good.whole c.place-k.ensures

pub loop-far-init : goal.loop-far-init
loop-far-init c =
    let v = c.loop-from in
    let s = c.args.s.now in
    let below = place_below v.invariant.sound.good.whole c.place-k.ensures in (
      going_begins (ops_from s (v.from + record_bytes) (members_of c.decode-call.result)) c.decode-call.result (sym c.is_going.ensures ∙ c.if-is_going.true) v.c v.slots v.snaps v.left v.right v.log
          v.invariant.sound c.place-k.ensures (read_slot v.slots _ v.invariant.sound.slots below)
          c.facing-far.ensures,
      c.place-k.ensures,
      below,
    )

pub offset_bounds-slots-k-in-Goes-3 : goal.offset_bounds-slots-k-in-Goes-3
offset_bounds-slots-k-in-Goes-3 c = omega (arith, placed_next (goal.at.offset_bounds-slots-k-in-Goes-3 c).Joined-slots-k c.place-k-in-Goes.ensures)

pub bounds-slots-k-in-Goes-3 : goal.bounds-slots-k-in-Goes-3
bounds-slots-k-in-Goes-3 c = placed_next (goal.at.bounds-slots-k-in-Goes-3 c).Joined-slots-k c.place-k-in-Goes.ensures

pub offset_bounds-snaps-k-in-Goes-3 : goal.offset_bounds-snaps-k-in-Goes-3
offset_bounds-snaps-k-in-Goes-3 c = omega (arith, placed_next (goal.at.offset_bounds-snaps-k-in-Goes-3 c).Joined-slots-k c.place-k-in-Goes.ensures)

pub bounds-snaps-k-in-Goes-3 : goal.bounds-snaps-k-in-Goes-3
bounds-snaps-k-in-Goes-3 c = placed_next (goal.at.bounds-snaps-k-in-Goes-3 c).Joined-slots-k c.place-k-in-Goes.ensures

pub went_on-far-requires : goal.went_on-far-requires
unfolding slot_count
went_on-far-requires c = omega (arith, (going_goes c.loop-far.invariant.0 c.in-Goes.is).few)

pub loop-far-smaller : goal.loop-far-smaller
loop-far-smaller c =
    let v = c.loop-far.invariant in
    let x = c.advance_by-m.ensures in
    let g = going_goes v.0 c.in-Goes.is in
    let j = (goal.at.loop-far-smaller c).Joined-slots-k in
    let w = put_back j in
    let q = going_steps g v.0.sound v.1 (own v.0 v.1 _) x w c.place-k-in-Goes.ensures (next_slot g v.0.sound v.1 (own v.0 v.1 _) x w _ (placed_next j c.place-k-in-Goes.ensures)) c.went_on-far.ensures in
    subst (λ (n : ℕ). ahead c.went_on-far.result c.advance_by-m.result.control < n) (sym (ap (λ (f : Far). ahead f c.loop-far.c) c.in-Goes.is)) q.1

pub loop-far-preserved : goal.loop-far-preserved
loop-far-preserved c =
    let v = c.loop-far.invariant in
    let x = c.advance_by-m.ensures in
    let g = going_goes v.0 c.in-Goes.is in
    let j = (goal.at.loop-far-preserved c).Joined-slots-k in
    let w = put_back j in
    let below = placed_next j c.place-k-in-Goes.ensures in
    let q = going_steps g v.0.sound v.1 (own v.0 v.1 _) x w c.place-k-in-Goes.ensures (next_slot g v.0.sound v.1 (own v.0 v.1 _) x w _ below) c.went_on-far.ensures in
    (q.0, c.place-k-in-Goes.ensures, below)

pub turn-m-requires : goal.turn-m-requires
turn-m-requires c =
    let w = c.loop-from.invariant.sound.good.words in
    (whole (goal.at.turn-m-requires c).In-loop-from, w.left, w.right)

pub behind-from-requires : goal.behind-from-requires
behind-from-requires c = whole (goal.at.behind-from-requires c).In-loop-from

pub overflow_add-to : goal.overflow_add-to
overflow_add-to c = omega (arith, plays_room c.loop-from.invariant c.loop-from-test.true)

pub loop-from-smaller : goal.loop-from-smaller
loop-from-smaller c = omega (arith, whole (goal.at.loop-from-smaller c).In-loop-from, there (goal.at.loop-from-smaller c).After-behind-from)

pub loop-from-preserved : goal.loop-from-preserved
loop-from-preserved c =
    let v = c.loop-from in
    plays_next v.invariant c.loop-from-test.true (says (goal.at.loop-from-preserved c).Joined-is_going) _
    (c.put.ensures ∙ ap (λ (n : ℕ). put_rule n c.if-is_going.answer.1 v.to v.out) c.from.ensures
    ∙ put_entry _ _ _ _ (plays_room v.invariant c.loop-from-test.true))
    (there (goal.at.loop-from-preserved c).After-behind-from)

pub shape_of-out : goal.shape_of-out
shape_of-out c = c.loop-from.invariant.sized

pub shape_of-left : goal.shape_of-left
shape_of-left c = c.loop-from.invariant.sound.good.words.left.fit.sized ∙ sym (begins (goal.at.shape_of-left c).Start).good.words.left.fit.sized

pub shape_of-right : goal.shape_of-right
shape_of-right c = c.loop-from.invariant.sound.good.words.right.fit.sized ∙ sym (begins (goal.at.shape_of-right c).Start).good.words.right.fit.sized

pub shape_of-log : goal.shape_of-log
shape_of-log c = c.loop-from.invariant.sound.good.words.log ∙ sym (begins (goal.at.shape_of-log c).Start).good.words.log

pub returns : goal.returns
returns c = (plays_reached c.loop-from.invariant c.loop-from-test.false, plays_end c.loop-from.invariant c.loop-from-test.false)
