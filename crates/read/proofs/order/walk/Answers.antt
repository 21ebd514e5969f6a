-- Before a turn the rule still walks from k on, as long as is left.
use Rattle.std.proofs.Common.{◌≡◌, ℕ, suc, ◌+◌, ◌-◌, ◌<◌, List, sym, ap, ◌∙◌, arith, rules}
use Rattle.read.specs.declared.Slot.{Slot}
use Rattle.read.specs.Machine.{slot_count, behind, walk}
use Rattle.read.proofs.FreeOrder.{walk_past, walk_met, walk_on}
use Rattle.read.proofs.Cases.{used_past, link_past}
use Rattle.read.proofs.order.walk.Goals as goal
use Rattle.read.proofs.order.walk.Goals.{then-k-ge-SLOTS-via-then-k-ge-SLOTS, then-k-ge-SLOTS-via-else-k-ge-SLOTS+then-slots-k}

-- where some are left, there is a turn
turn : (n i : ℕ) (ss : List Slot) (k : ℕ) → i < n → walk (n - i) ss k ≡ walk (suc (n - (i + 1))) ss k
turn n i ss k h =
    let e : n - i ≡ suc (n - (i + 1)) = omega arith in
    ap (λ (m : ℕ). walk m ss k) e

pub returns-then-k-ge-SLOTS : goal.returns-then-k-ge-SLOTS
unfolding slot_count
returns-then-k-ge-SLOTS c =
    let ss = c.args.slots in
    let k = c.loop.k in
    let left = sym c.loop.invariant ∙ turn c.args.n c.loop.counter ss k (search rules) in
    elim c.then-k-ge-SLOTS.branch [
      | then-k-ge-SLOTS-via-then-k-ge-SLOTS w ↦ sym (left ∙ walk_past _ ss k w.if-k-ge-SLOTS.true)
      | then-k-ge-SLOTS-via-else-k-ge-SLOTS+then-slots-k w ↦ sym (left ∙ walk_met _ ss k w.if-k-ge-SLOTS.false (used_past ss k ∙ w.if-slots-k.true))
    ]

pub behind-k-requires : goal.behind-k-requires
unfolding slot_count
behind-k-requires c = search rules

pub loop-preserved : goal.loop-preserved
unfolding slot_count
loop-preserved c =
    let ss = c.args.slots in
    let k = c.loop.k in
    sym (sym c.loop.invariant ∙ turn c.args.n c.loop.counter ss k (search rules) ∙ walk_on _ ss k c.if-k-ge-SLOTS.false (used_past ss k ∙ c.if-slots-k.false)
    ∙ ap (walk (c.args.n - (c.loop.counter + 1)) ss) (ap (behind k) (link_past ss k) ∙ sym c.behind-k.ensures))

pub returns : goal.returns
unfolding slot_count walk
returns c =
    let e : c.args.n - c.loop.counter ≡ 0 = search rules in
    sym (sym c.loop.invariant ∙ ap (λ (n : ℕ). walk n c.args.slots c.loop.k) e)
