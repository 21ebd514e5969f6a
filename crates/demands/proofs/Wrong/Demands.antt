-- Wrong machines that the demands stop: each by one field, at a history that is computed.
use Prim.Native.Nat.{◌+◌, ◌-◌, ◌*◌}
use mathlib.Core.Path.{refl, sym}
use mathlib.Core.Bool.{true≢false}
use mathlib.Core.List.{List, [], ◌∷◌, ◌++◌}
use native.Mathlib.Omega.{arith}
use lib.ListN.{length, get_or, replicate}
use lib.Dec.{lit≤}
use Rattle.table.specs.Copy.{words}
use Rattle.table.specs.Order.{op}
use Rattle.table.proofs.Computes.{apart}
use Rattle.read.specs.declared.Handle.TheVariants.{Drop, Enter, Release, LookUp}
use Rattle.read.specs.Machine.{slot_count, place}
use Rattle.write.specs.declared.Opening.TheVariants.{Publish, Try, Flush, Take}
use Rattle.write.specs.Call.{Call, Create, On, Append, append_one, Open, Step, Run}
use Rattle.write.specs.Runs.{snap_at}
use Rattle.demands.specs.Demands.{Demands}
use Rattle.demands.specs.KnownEnds.{publish, adds, enters}
use Rattle.demands.proofs.Wrong.Machines.{passes_readers, holds_all, held_by_even, compares_greater, held_by_anyone, skips_polls, starts_over, try_waits, forgets_slot, snaps_free, skips_slot, nulls_early, old_snapshots, ignores_steps, leaves_copying, copy_trails, leaves_index, drain_leaves, spills, idle_try, leaves_other, zeroes_both, hands_other, leaves_log, invents_value, runs_once, runs_free, run_clears, runs_past, run_declines, run_slips, refuses_all, does_nothing, two_slots, creates_locked, clears_at_create, clears_at_drop, enters_snapped, closes_third, keeps_guard, rounds_soon, shows_empty, appends_to_read, odd_clear, drop_trails, full_early, backwards, takes_some, takes_more, refuses_empty, publish_tries, swaps_at_begin, flush_tries, flushes_first, flush_forgets, takes_unpublished}
use Rattle.demands.proofs.Wrong.Histories.{tells, differ, steps, again, entered, snapped, meeting, replaced, meeting_new, crowded, reading}

-- ---- answers

pub refuses_all_wrong : Demands refuses_all → ⊥
unfolding tells
refuses_all_wrong h = differ refl (h.answers [] Create refl)

pub does_nothing_wrong : Demands does_nothing → ⊥
unfolding tells
does_nothing_wrong h = differ refl (h.answers [] Step refl)

pub two_slots_wrong : Demands two_slots → ⊥
unfolding tells
two_slots_wrong h = differ refl (h.answers (Create ∷ []) Create refl)

pub creates_locked_wrong : Demands creates_locked → ⊥
unfolding tells
creates_locked_wrong h = differ refl (h.answers (Open Publish ∷ []) Create refl)

-- a look up through guard 3 is made
pub closes_third_wrong : Demands closes_third → ⊥
unfolding tells
closes_third_wrong h =
    differ refl (h.answers (entered ++ (On 1 Enter ∷ On 1 Enter ∷ On 1 Enter ∷ On 1 (Release 0) ∷ [])) (On 1 (LookUp 3 7)) refl)

-- a poll of slot 1 is held
pub passes_readers_wrong : Demands passes_readers → ⊥
unfolding tells
passes_readers_wrong h = differ refl (h.answers (meeting Publish) Step refl)

pub skips_polls_wrong : Demands skips_polls → ⊥
unfolding tells
skips_polls_wrong h = differ refl (h.answers (meeting Publish) Step refl)

pub forgets_slot_wrong : Demands forgets_slot → ⊥
unfolding tells
forgets_slot_wrong h = differ refl (h.answers (meeting Publish) Step refl)

pub publish_tries_wrong : Demands publish_tries → ⊥
unfolding tells
publish_tries_wrong h = differ refl (h.answers (meeting Publish) Step refl)

pub flush_tries_wrong : Demands flush_tries → ⊥
unfolding tells
flush_tries_wrong h = differ refl (h.answers (snapped ++ (append_one 1 7 3 ∷ Open Flush ∷ Step ∷ [])) Step refl)

-- and held again
pub starts_over_wrong : Demands starts_over → ⊥
unfolding tells
starts_over_wrong h = differ refl (h.answers (meeting Publish ++ (Step ∷ [])) Step refl)

-- that of a try is declined
pub try_waits_wrong : Demands try_waits → ⊥
unfolding tells
try_waits_wrong h = differ refl (h.answers (meeting Try) Step refl)

-- a new handle holds by the old one's snapshot
pub clears_at_drop_wrong : Demands clears_at_drop → ⊥
unfolding tells
clears_at_drop_wrong h = differ refl (h.answers meeting_new Step refl)

pub clears_at_create_wrong : Demands clears_at_create → ⊥
unfolding tells
clears_at_create_wrong h = differ refl (h.answers meeting_new Step refl)

pub snaps_free_wrong : Demands snaps_free → ⊥
unfolding tells
snaps_free_wrong h =
    differ refl (h.answers (snapped ++ (On 1 (Release 0) ∷ On 1 Drop ∷ publish ++ (Create ∷ On 1 Enter ∷ Open Publish ∷ Step ∷ []))) Step refl)

-- a poll is not held
pub holds_all_wrong : Demands holds_all → ⊥
unfolding tells
holds_all_wrong h = differ refl (h.answers again Step refl)

pub held_by_even_wrong : Demands held_by_even → ⊥
unfolding tells
held_by_even_wrong h = differ refl (h.answers again Step refl)

pub odd_clear_wrong : Demands odd_clear → ⊥
unfolding tells
odd_clear_wrong h = differ refl (h.answers (append_one 3 0 0 ∷ again) Step refl)

pub held_by_anyone_wrong : Demands held_by_anyone → ⊥
unfolding tells
held_by_anyone_wrong h = differ refl (h.answers (Create ∷ publish ++ (On 1 Enter ∷ Open Publish ∷ Step ∷ [])) Step refl)

pub compares_greater_wrong : Demands compares_greater → ⊥
unfolding tells
compares_greater_wrong h = differ refl (h.answers (replaced ++ (Open Publish ∷ Step ∷ [])) Step refl)

pub rounds_soon_wrong : Demands rounds_soon → ⊥
unfolding tells
rounds_soon_wrong h =
    differ refl (h.answers (snapped ++ (On 1 (Release 0) ∷ enters 1 ++ (On 1 (Release 0) ∷ On 1 Enter ∷ Open Publish ∷ Step ∷ []))) Step refl)

pub enters_snapped_wrong : Demands enters_snapped → ⊥
unfolding tells
enters_snapped_wrong h = differ refl (h.answers (Create ∷ On 1 Enter ∷ Open Try ∷ Step ∷ []) Step refl)

-- the step behind the drain is made
pub leaves_index_wrong : Demands leaves_index → ⊥
unfolding tells
leaves_index_wrong h = differ refl (h.answers (publish ++ (append_one 1 7 3 ∷ publish ++ (Open Publish ∷ steps (1 + slot_count)))) Step refl)

-- a batch that the log can hold is taken
pub full_early_wrong : Demands full_early → ⊥
unfolding tells
full_early_wrong h = differ refl (h.answers (publish ++ replicate 3 (Append (adds 64))) (Append (adds 64)) refl)

-- and one that it cannot hold is refused
pub takes_some_wrong : Demands takes_some → ⊥
unfolding tells
takes_some_wrong h = differ refl (h.answers crowded (Append (adds 60)) refl)

-- so is one of more than 64 operations
pub takes_more_wrong : Demands takes_more → ⊥
unfolding tells
takes_more_wrong h = differ refl (h.answers [] (Append (adds 65)) refl)

-- an empty one is taken
pub refuses_empty_wrong : Demands refuses_empty → ⊥
unfolding tells
refuses_empty_wrong h = differ refl (h.answers [] (Append []) refl)

-- ---- values

-- of a flush
pub flushes_first_wrong : Demands flushes_first → ⊥
unfolding tells
flushes_first_wrong h = differ refl (h.values [] (Open Flush) refl)

-- of a look up
pub shows_empty_wrong : Demands shows_empty → ⊥
unfolding tells
shows_empty_wrong h = differ refl (h.values reading (On 1 (LookUp 0 7)) refl)

pub idle_try_wrong : Demands idle_try → ⊥
unfolding tells
idle_try_wrong h = differ refl (h.values (Create ∷ append_one 1 7 3 ∷ Open Try ∷ Run ∷ enters 1) (On 1 (LookUp 0 7)) refl)

pub leaves_copying_wrong : Demands leaves_copying → ⊥
unfolding tells
leaves_copying_wrong h = differ refl (h.values (Create ∷ append_one 1 7 3 ∷ publish ++ (publish ++ enters 1)) (On 1 (LookUp 0 7)) refl)

-- of the last step
pub ignores_steps_wrong : Demands ignores_steps → ⊥
unfolding tells
ignores_steps_wrong h = differ refl (h.values (Open Publish ∷ steps slot_count) Step refl)

pub flush_forgets_wrong : Demands flush_forgets → ⊥
unfolding tells
flush_forgets_wrong h = differ refl (h.values (publish ++ (publish ++ (Open Flush ∷ Open Publish ∷ steps (2 * slot_count)))) Step refl)

-- ---- runs

-- made
pub invents_value_wrong : Demands invents_value → ⊥
unfolding tells
invents_value_wrong h = differ refl ((h.runs (Open Publish ∷ [])).made (1 + slot_count) (lit≤ tt))

-- ended: a step was made
pub runs_free_wrong : Demands runs_free → ⊥
unfolding tells
runs_free_wrong h = let z = ((h.runs (Open Publish ∷ [])).ended refl).0 in omega arith

-- the world is that after the steps
pub run_clears_wrong : Demands run_clears → ⊥
unfolding tells
run_clears_wrong h = apart (λ w. snap_at w.state 0) refl ((h.runs (append_one 1 7 3 ∷ Open Publish ∷ [])).ended refl).1

-- and no call is under way
pub runs_once_wrong : Demands runs_once → ⊥
unfolding tells
runs_once_wrong h = true≢false ((h.runs (Open Publish ∷ [])).ended refl).2

pub skips_slot_wrong : Demands skips_slot → ⊥
unfolding tells
skips_slot_wrong h = true≢false ((h.runs (Open Publish ∷ [])).ended refl).2

pub takes_unpublished_wrong : Demands takes_unpublished → ⊥
unfolding tells
takes_unpublished_wrong h = true≢false ((h.runs (Open Take ∷ [])).ended refl).2

pub nulls_early_wrong : Demands nulls_early → ⊥
unfolding tells
nulls_early_wrong h = true≢false ((h.runs (publish ++ (append_one 1 7 1 ∷ Open Take ∷ []))).ended refl).2

-- halted: the step behind is answered alike
pub run_declines_wrong : Demands run_declines → ⊥
unfolding tells
run_declines_wrong h = differ refl ((h.runs (entered ++ again)).halted (λ e. differ refl e)).0

-- the world is that after it
pub run_slips_wrong : Demands run_slips → ⊥
unfolding tells
run_slips_wrong h =
    apart (λ w. place w.state.control.phase) refl ((h.runs (entered ++ again)).halted (λ e. differ refl e)).1

-- and the call is under way still
pub runs_past_wrong : Demands runs_past → ⊥
unfolding tells
runs_past_wrong h = true≢false (sym ((h.runs (Open Publish ∷ [])).halted (λ e. differ refl e)).2)

-- ---- shows

-- between a publish's beginning and its swap
pub swaps_at_begin_wrong : Demands swaps_at_begin → ⊥
unfolding tells
swaps_at_begin_wrong h = apart (λ p. get_or p 3 0) refl (h.shows (Create ∷ append_one 1 7 3 ∷ Open Publish ∷ enters 1) 1 0)

-- before any publish
pub appends_to_read_wrong : Demands appends_to_read → ⊥
unfolding tells
appends_to_read_wrong h = apart (λ p. get_or p 3 0) refl (h.shows (entered ++ (append_one 1 7 3 ∷ [])) 1 0)

-- what an operation did is undone by the one behind it
pub backwards_wrong : Demands backwards → ⊥
unfolding tells
backwards_wrong h = apart (λ p. get_or p 3 0) refl (h.shows (Create ∷ Append (op 1 7 3 ∷ op 2 7 0 ∷ []) ∷ publish ++ enters 1) 1 0)

-- a word that no look up finds wrong
pub spills_wrong : Demands spills → ⊥
unfolding tells
spills_wrong h = apart (λ p. get_or p 1 0) refl (h.shows reading 1 0)

-- no word through a guard that was released
pub keeps_guard_wrong : Demands keeps_guard → ⊥
unfolding tells
keeps_guard_wrong h = apart length refl (h.shows (entered ++ (On 1 (Release 0) ∷ [])) 1 0)

-- ---- hands_over

abbrev taken : List Call
taken = append_one 1 7 3 ∷ Open Take ∷ Run ∷ []

-- all
pub zeroes_both_wrong : Demands zeroes_both → ⊥
unfolding tells
zeroes_both_wrong h = apart (λ p. get_or p 3 0) refl (h.hands_over taken refl).all

pub hands_other_wrong : Demands hands_other → ⊥
unfolding tells
hands_other_wrong h = apart (λ p. get_or p 3 0) refl (h.hands_over taken refl).all

-- other
pub leaves_other_wrong : Demands leaves_other → ⊥
unfolding tells
leaves_other_wrong h = apart (λ p. get_or p 3 0) refl (h.hands_over (publish ++ taken) refl).other

-- log
pub leaves_log_wrong : Demands leaves_log → ⊥
unfolding tells
leaves_log_wrong h = apart (λ p. get_or p 2 0) refl (h.hands_over (publish ++ taken) refl).log

-- alone
pub old_snapshots_wrong : Demands old_snapshots → ⊥
unfolding tells
old_snapshots_wrong h = true≢false ((h.hands_over (Create ∷ publish ++ (enters 1 ++ (Open Take ∷ Run ∷ []))) refl).alone 1 0)

-- ---- unused

-- left
pub copy_trails_wrong : Demands copy_trails → ⊥
unfolding tells
copy_trails_wrong h = differ refl ((h.unused (publish ++ publish)).left (words - 1) (lit≤ tt))

-- right
pub drop_trails_wrong : Demands drop_trails → ⊥
unfolding tells
drop_trails_wrong h = differ refl ((h.unused (append_one 1 7 3 ∷ append_one 2 7 0 ∷ [])).right 2 (lit≤ tt))

-- log
pub drain_leaves_wrong : Demands drain_leaves → ⊥
unfolding tells
drain_leaves_wrong h = differ refl ((h.unused (publish ++ (append_one 1 7 3 ∷ publish ++ publish))).log refl 0 (lit≤ tt))
