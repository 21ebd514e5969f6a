-- Wrong machines that the statements about batches stop, each by one field. They take a batch of one operation as the rules do.
use Prim.Native.Nat.{◌-◌}
use mathlib.Core.Path.{refl}
use mathlib.Core.Bool.{Bool, true, false, ◌&&◌}
use mathlib.Core.List.{[], ◌∷◌, ◌++◌}
use lib.ListN.{length, get_or, take}
use lib.Dec.{ltb, leb}
use Rattle.table.specs.Order.{op}
use Rattle.table.proofs.Computes.{apart}
use Rattle.read.specs.declared.Reply.{Reply}
use Rattle.read.specs.declared.Job.TheVariants.{Try}
use Rattle.read.specs.Handles.{bit}
use Rattle.read.specs.Calls.{Lent, slot_at}
use Rattle.write.specs.Call.{Call}
use Rattle.write.specs.Numbers.{ops_of}
use Rattle.write.specs.Steps.{with_log}
use Rattle.write.specs.Begins.{batch_room, all_lawful}
use Rattle.write.specs.Machine.{call_rule}
use Rattle.write.specs.World.{Machine, fresh_world}
use Rattle.write.proofs.Cases.{with_job}
use Rattle.demands.specs.Demands.{told}
use Rattle.demands.specs.Batches.{Batches}
use Rattle.demands.specs.KnownEnds.{publish, adds}
use Rattle.demands.proofs.Phases.{is_try_job}
use Rattle.demands.proofs.Wrong.Machines.{changing, restated, with_control, appends_to_read, stirring, stirs_each, backwards, testing}
use Rattle.demands.proofs.Wrong.Histories.{tells, entered}

-- ---- the machines

abbrev many : Call → Bool
many k = ltb 1 (length (ops_of k))

-- of a batch the first operation alone is tested
abbrev pub tests_first : Machine
tests_first = testing (λ os. leb (length os) batch_room && all_lawful (take 1 os))

-- another reply to a batch that is taken
abbrev pub of_many : (Lent Reply → Lent Reply) → Machine
of_many f = changing call_rule 8 0 (λ k o. elim (many k) [ true ↦ f o | false ↦ o ])

-- one of its operations is not counted in the log
abbrev pub forgets_one : Machine
forgets_one = of_many (restated (with_control (λ c. with_log (c.length - 1) c.swapped c)))

-- the job is that of a try then, though no call is under way
abbrev pub leaves_job : Machine
leaves_job = of_many (restated (with_control (with_job Try)))

-- it leaves slot 0's epoch odd
abbrev pub odd_many : Machine
odd_many = stirring (λ os. elim (ltb 1 (length os)) [ true ↦ 3 | false ↦ 2 ])

-- before the first swap it goes to the copy that is pointed at
abbrev pub many_to_read : Machine
many_to_read k = elim (many k) [ true ↦ appends_to_read k | false ↦ call_rule k ]

-- ---- beside the appends

-- made
pub tests_first_wrong : Batches tests_first → ⊥
unfolding tells
tests_first_wrong h = apart (λ rs. get_or rs 2 0) refl (h.at_once (op 1 7 3 ∷ op 1 7 0 ∷ []) fresh_world refl).made

-- logged
pub forgets_one_wrong : Batches forgets_one → ⊥
unfolding tells
forgets_one_wrong h = apart (λ w. w.state.control.length) refl ((h.at_once (adds 2) (told forgets_one publish).world refl).logged refl)

-- applied: what an operation did is undone by the one behind it
pub backwards_wrong_applied : Batches backwards → ⊥
unfolding tells
backwards_wrong_applied h = apart (λ w. get_or w.right 0 0) refl ((h.at_once (op 1 7 3 ∷ op 2 7 0 ∷ []) fresh_world refl).applied refl)

-- and slot 0's epoch
pub stirs_each_wrong_applied : Batches stirs_each → ⊥
unfolding tells
stirs_each_wrong_applied h = apart (λ w. (slot_at w.state 0).epoch) refl ((h.at_once (adds 2) fresh_world refl).applied refl)

-- ---- ever after

-- replies: the second publish is held by slot 0
pub odd_many_wrong : Batches odd_many → ⊥
unfolding tells
odd_many_wrong h = apart (λ rs. get_or rs 6 0) refl ((h.ever [] (adds 2) refl).replies (publish ++ publish))

-- views
pub many_to_read_wrong : Batches many_to_read → ⊥
unfolding tells
many_to_read_wrong h = apart (λ p. get_or p 3 0) refl ((h.ever entered (adds 2) refl).views [] 1 0)

-- rest
pub leaves_job_wrong : Batches leaves_job → ⊥
unfolding tells
leaves_job_wrong h = apart (λ w. bit (is_try_job w.state.control.job)) refl ((h.ever [] (adds 2) refl).rest [])
