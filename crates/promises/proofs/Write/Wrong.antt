-- Wrong programs, as definitions on the rules' values, and for each a proof that the contract's promise (`Promises`) is false of it: one
-- call, on values that the source's types have, where what the program does wrong is read off.
use Prim.Native.Nat.{ℕ, ◌+◌, ◌-◌, ◌*◌, ◌%◌, ◌^◌}
use mathlib.Core.Path.{refl}
use mathlib.Core.Bool.{Bool, true, false, not, ◌&&◌, ◌||◌}
use mathlib.Core.List.{List, [], ◌∷◌, ◌++◌, reverse}
use lib.Dec.{eqb, ltb, leb}
use lib.ListN.{length, take, replicate}
use Rattle.table.specs.Answers.{number}
use Rattle.table.specs.Copy.{zeros, lawful}
use Rattle.table.specs.declared.Search.TheVariants.{Walk, Halve}
use Rattle.table.specs.Order.{Op, op}
use Rattle.table.specs.declared.Answer.TheVariants as answer
use Rattle.read.specs.declared.Slot.{Slot}
use Rattle.read.specs.declared.Phase.{Phase}
use Rattle.read.specs.declared.Phase.TheVariants.{Idle, Begin, Poll, Copy, Drain, Keep, Swap, Snap, Lock, LastPoll, Finish, Gone}
use Rattle.read.specs.declared.Job.{Job}
use Rattle.read.specs.declared.Job.TheVariants.{Publish, Try, TakeFirst}
use Rattle.read.specs.declared.Control.{Control}
use Rattle.read.specs.Machine.{Verdict, standing, holding, with_free, fresh_control, with_reading, slot_count, log_room, log_words, no_guards, no_slot, new_slot, underway, locks, nulls, judged, fresh, row, place}
use Rattle.std.specs.Prelude.{Ok, Err}
use Rattle.read.specs.declared.State.{State}
use Rattle.read.specs.declared.Reply.{Reply}
use Rattle.read.specs.Handles.{smallest, freed, with_due, copy_of, bit}
use Rattle.read.specs.Calls.{Lent, lent, slot_at, refusal}
use Rattle.write.specs.declared.Moved.{Moved}
use Rattle.write.specs.declared.Opening.{Opening}
use Rattle.write.specs.declared.Opening.TheVariants as opening
use Rattle.write.specs.Call.{Run, ops_in}
use Rattle.write.specs.Steps.{at, with_log, swapped_over, draining, polling, beginning, last_polling, holds, moved, refused, stopped, of_left, of_right, log_applied, over, unlogged, step_by, step_at}
use Rattle.write.specs.Begins.{writer_signs, step_signs, batch_room, all_lawful, lawful_batch, crowds, operated_all, made_at_once, append_first, appended, append_by, append_on, column_of, begun, value, opened}
use Rattle.write.specs.Runs.{snap_at, put_back, lift, step_on, enough, run_while}
use Rattle.write.specs.Machine.{going, call_rule}
use Rattle.write.proofs.Cases.{with_job}
use Rattle.table.proofs.Computes.{apart}
use Rattle.promises.proofs.Witnesses.{none, seven, falls, no_log, inside, word_at}
use Rattle.promises.proofs.Contracts.{Words, slice}
use Rattle.write.proofs.Computes.{rules}
use Rattle.promises.proofs.Write.Promises.{Part, Whole, Beginning, HoldsPromise, PlacePromise, OpenOnPromise, AdvancePromise, AdvanceByPromise, ExtendOnPromise, ExtendByPromise, AppendOnPromise, AppendByPromise, UnderwayPromise, AtPromise, PollingPromise, LastPollingPromise, StepVerdictPromise, ExtendPromise, AppendPromise, StepPromise, RunPromise, PublishPromise, TryPromise, FlushPromise, TakePromise}
use Rattle.read.proofs.Cases.{state_of, with_lock}

-- ---- what the witnesses are made of

-- a control part that fits its phase, the pointer on the left copy
abbrev fitting : Phase → Job → Bool → Bool → ℕ → ℕ → Control
fitting p j first second n s = holding false (nulls p) first second n s (standing p j fresh_control)

-- the writer's own slot first, then this one and free ones; the first free one is handed out next
abbrev with1 : Control → Slot → ℕ → State
with1 c s e =
    state_of (with_free (elim s.used [ true ↦ 2 | false ↦ 1 ]) c)
    (new_slot ∷ s ∷ replicate (slot_count - 2) no_slot) (0 ∷ e ∷ replicate (slot_count - 2) 0)

-- a log of ADDs of 1 to these keys
abbrev adds : List ℕ → List ℕ
adds [] = []
adds (k ∷ ks) = 1 ∷ k ∷ 1 ∷ adds ks

abbrev log_of : List ℕ → List ℕ
log_of ks = adds ks ++ replicate (log_words - length (adds ks)) 0

abbrev log7 : Words
log7 = slice (log_of (7 ∷ [])) refl

abbrev full_log : Words
full_log = slice (log_of (replicate log_room 7)) refl

-- what is read off a part, and off the whole
abbrev moved_to : Lent Moved → ℕ
moved_to o = row o.made.control.phase

abbrev answered : Lent Reply → ℕ
answered o = number o.made.answer

abbrev valued : Lent Reply → ℕ
valued o = o.made.value

abbrev phased : Lent Reply → ℕ
phased o = row o.made.state.control.phase

abbrev epoch0 : Lent Reply → ℕ
epoch0 o = (slot_at o.made.state 0).epoch

abbrev snapped1 : Lent Reply → ℕ
snapped1 o = snap_at o.made.state 1

-- judged as the rules have it, with another effect
abbrev judging : Whole → Whole
judging rule st l r g = elim (judged st l r g) [ Ok _ ↦ rule st l r g | Err a ↦ lent (refusal a st) l r g ]

-- ---- holds

-- epochs compared with "greater than": an epoch that went round is still waited for
abbrev greater : Slot → ℕ → Bool
greater s e = s.used && (eqb (e % 2) 1 && leb s.epoch e)

greater_wrong : HoldsPromise greater → ⊥
unfolding rules
greater_wrong h = apart bit refl (h new_slot (2 ^ 64 - 1) refl)

-- a free slot is waited for
abbrev waits_for_free : Slot → ℕ → Bool
waits_for_free s e = eqb (e % 2) 1 && eqb e s.epoch

waits_for_free_wrong : HoldsPromise waits_for_free → ⊥
unfolding rules
waits_for_free_wrong h = apart bit refl (h (freed 2 inside) 1 refl)

-- an odd snapshot that is still the epoch passes
abbrev passes_odd : Slot → ℕ → Bool
passes_odd s e = false

passes_odd_wrong : HoldsPromise passes_odd → ⊥
unfolding rules
passes_odd_wrong h = apart bit refl (h inside 1 refl)

-- every poll of a used slot is held
abbrev holds_all : Slot → ℕ → Bool
holds_all s e = s.used

holds_all_wrong : HoldsPromise holds_all → ⊥
unfolding rules
holds_all_wrong h = apart bit refl (h new_slot 0 refl)

-- ---- place

-- every step looks at slot 0
abbrev at_zero : Phase → ℕ
at_zero p = 0

at_zero_wrong : PlacePromise at_zero → ⊥
unfolding rules
at_zero_wrong h = apart (λ n. n) refl (h (Poll 3) refl)

-- a snapshot is taken of the next slot; behind the last, of slot 0
abbrev behind : Phase → ℕ
behind p = elim (eqb (row p) 7 || eqb (row p) 10) [ true ↦ (place p + 1) % slot_count | false ↦ place p ]

behind_wrong : PlacePromise behind → ⊥
unfolding rules
behind_wrong h = apart (λ n. n) refl (h (Snap 3) refl)

-- ---- the control part

abbrev idle : Control
idle = fresh.control

-- a call is always under way; it is where the lock is held
underway_always_wrong : UnderwayPromise (λ c. true) → ⊥
underway_always_wrong h = apart bit refl (h idle refl)

underway_locked_wrong : UnderwayPromise (λ c. locks c.phase) → ⊥
underway_locked_wrong h = apart bit refl (h (fitting Begin Publish true true 0 0) refl)

-- the phase stays; the lock is not taken
at_stays_wrong : AtPromise (λ p c. c) → ⊥
at_stays_wrong h = apart (λ c. row c.phase) refl (h Swap idle refl)

at_unlocked_wrong : AtPromise (λ p c. with_lock false (at p c)) → ⊥
at_unlocked_wrong h = apart (λ c. bit c.lock) refl (h Swap idle refl)

-- the polls never end; a slot is passed by
polling_endless_wrong : PollingPromise (λ c k. Poll k) → ⊥
unfolding rules
polling_endless_wrong h = apart row refl (h idle slot_count refl)

polling_skips_wrong : PollingPromise (λ c k. polling c (k + 1)) → ⊥
unfolding rules
polling_skips_wrong h = apart place refl (h idle 0 refl)

last_polling_endless_wrong : LastPollingPromise LastPoll → ⊥
unfolding rules
last_polling_endless_wrong h = apart row refl (h slot_count refl)

last_polling_skips_wrong : LastPollingPromise (λ k. last_polling (k + 1)) → ⊥
unfolding rules
last_polling_skips_wrong h = apart place refl (h 0 refl)

-- a step is always admitted; after take's finish it is refused as where nothing is under way
abbrev verdict : Verdict → ℕ
verdict (Ok _) = 0
verdict (Err a) = number a

step_verdict_admits_wrong : StepVerdictPromise (λ k c. Ok tt) → ⊥
unfolding rules
step_verdict_admits_wrong h = apart verdict refl (h 12 idle refl)

step_verdict_not_now_wrong :
    StepVerdictPromise (λ k c. elim (smallest (step_signs k c)) [ Ok _ ↦ Ok tt | Err a ↦ Err answer.NotNow ]) → ⊥
unfolding rules
step_verdict_not_now_wrong h = apart verdict refl (h 12 (fitting Gone TakeFirst false false 0 0) refl)

-- ---- advance

-- the rules' step, but in the phase of one row
abbrev but : ℕ → Part → Part
but n f c s e l r g = elim (eqb (row c.phase) n) [ true ↦ f c s e l r g | false ↦ step_at c.phase c s e l r g ]

-- a poll that passes an odd snapshot which is still the slot's epoch
abbrev poll_passes : Part
poll_passes = but 2 (λ c s e l r g. lent (moved (at (polling c (place c.phase + 1)) c) s e) l r g)

poll_passes_wrong : AdvancePromise poll_passes → ⊥
unfolding rules
poll_passes_wrong h = apart (λ o. number o.made.answer) refl (h (fitting (Poll 1) Publish false false 0 0) inside 1 none none no_log refl)

-- a poll that is held, and moves on
abbrev held_moves_on : Part
held_moves_on =
    but 2
    (λ c s e l r g.
    elim (holds s e)
    [ true ↦ lent (stopped c.job (at (polling c (place c.phase + 1)) c) s e) l r g | false ↦ step_at c.phase c s e l r g ])

held_moves_on_wrong : AdvancePromise held_moves_on → ⊥
unfolding rules
held_moves_on_wrong h = apart (λ o. place o.made.control.phase) refl (h (fitting (Poll 1) Publish false false 0 0) inside 1 none none no_log refl)

-- a copying step after every publish: the copies are never said to be synchronised
abbrev copies_always : Part
copies_always =
    but 3
    (λ c s e l r g.
    let f = over (copy_of c.right l r) in
    lent (moved (at (draining c.swapped c.length) c) s e) (of_left c.right f l) (of_right c.right f r) g)

copies_always_wrong : AdvancePromise copies_always → ⊥
unfolding rules
copies_always_wrong h = apart (λ o. bit o.made.control.second) refl (h (fitting Copy Publish false true 0 0) new_slot 0 none none no_log refl)

-- a drain that leaves the swap index where it is
abbrev keeps_index : Part
keeps_index =
    but 4
    (λ c s e l r g.
    let f = log_applied g 0 in
    let n = c.length - 1 in
    lent (moved (at (draining c.swapped n) (with_log n c.swapped c)) s e) (of_left c.right f l) (of_right c.right f r)
    (unlogged c.length g))

keeps_index_wrong : AdvancePromise keeps_index → ⊥
unfolding rules
keeps_index_wrong h = apart (λ o. o.made.control.swapped) refl (h (fitting Drain Publish false false 1 1) new_slot 0 none none log7 refl)

-- a drain that takes the log's length for the swap index
abbrev index_of_length : Part
index_of_length =
    but 4
    (λ c s e l r g.
    let o = step_at Drain c s e l r g in
    let d = o.made.control in
    lent (moved (with_log d.length d.length d) s e) o.left o.right o.log)

index_of_length_wrong : AdvancePromise index_of_length → ⊥
unfolding rules
index_of_length_wrong h = apart (λ o. o.made.control.swapped) refl (h (fitting Drain Publish false false 2 1) new_slot 0 none none log7 refl)

-- a drain that leaves the operation in the log
abbrev drains_nothing : Part
drains_nothing =
    but 4
    (λ c s e l r g.
    let o = step_at Drain c s e l r g in
    lent o.made o.left o.right g)

drains_nothing_wrong : AdvancePromise drains_nothing → ⊥
unfolding rules
drains_nothing_wrong h = apart (λ o. word_at 0 o.log) refl (h (fitting Drain Publish false false 1 1) new_slot 0 none none log7 refl)

-- a snapshot of a free slot
abbrev snaps_free : Part
snaps_free = but 7 (λ c s e l r g. let o = step_at c.phase c s e l r g in lent (moved o.made.control s s.epoch) l r g)

snaps_free_wrong : AdvancePromise snaps_free → ⊥
unfolding rules
snaps_free_wrong h = apart (λ o. o.made.snapshot) refl (h (fitting (Snap 1) Publish false false 0 0) no_slot 1 none none no_log refl)

-- a take that takes no snapshots, and polls by the last publish's
abbrev old_snapshots : Part
old_snapshots = but 9 (λ c s e l r g. lent (moved (at (last_polling 0) c) s e) l r g)

old_snapshots_wrong : AdvancePromise old_snapshots → ⊥
unfolding rules
old_snapshots_wrong h = apart moved_to refl (h (fitting Lock TakeFirst false false 0 0) new_slot 0 none none no_log refl)

-- a take that leaves the other copy as it is
abbrev leaves_copy : Part
leaves_copy = but 12 (λ c s e l r g. lent (step_at Finish c s e l r g).made l r (zeros g))

leaves_copy_wrong : AdvancePromise leaves_copy → ⊥
unfolding rules
leaves_copy_wrong h = apart (λ o. word_at 0 o.right) refl (h (fitting Finish TakeFirst false false 0 0) new_slot 0 seven seven no_log refl)

-- a take that frees slot 0, and does not hand it out next
abbrev finish_forgets : Part
finish_forgets =
    but 12
    (λ c s e l r g.
    let o = step_at Finish c s e l r g in
    let m = o.made in
    lent (moved (with_free c.free m.control) m.slot e) o.left o.right o.log)

finish_forgets_wrong : AdvancePromise finish_forgets → ⊥
unfolding rules
finish_forgets_wrong h = apart (λ o. o.made.control.free) refl (h (fitting Finish TakeFirst false false 0 0) new_slot 0 none none no_log refl)

-- one that puts slot 0 in front though it is free already
abbrev finish_again : Part
finish_again =
    but 12
    (λ c s e l r g.
    let o = step_at Finish c s e l r g in
    lent (moved (with_free 0 o.made.control) (freed c.free s) e) o.left o.right o.log)

finish_again_wrong : AdvancePromise finish_again → ⊥
unfolding rules
finish_again_wrong h = apart (λ o. o.made.control.free) refl (h (fitting Finish TakeFirst false false 0 0) no_slot 0 none none no_log refl)

-- a machine that answers a step, and changes nothing
abbrev stands_still : Part
stands_still c s e l r g =
    let m = (step_at c.phase c s e l r g).made in
    lent (record { answer = m.answer; value = m.value; control = c; slot = s; snapshot = e }) l r g

stands_still_wrong : AdvancePromise stands_still → ⊥
unfolding rules
stands_still_wrong h = apart moved_to refl (h (fitting Begin TakeFirst true true 0 0) new_slot 0 none none no_log refl)

-- ---- advance_by

-- keys are searched by halving where a walk is asked for: a key that is there is placed once more
advances_trusting_wrong : AdvanceByPromise (λ how c. step_by Halve c.phase c) → ⊥
unfolding rules
advances_trusting_wrong h = apart (λ o. word_at 0 o.right) refl (h Walk (fitting (Keep 0) Publish false false 1 0) new_slot 0 falls falls log7 refl)

advances_standing_wrong : AdvanceByPromise (λ how. stands_still) → ⊥
unfolding rules
advances_standing_wrong h = apart moved_to refl (h Halve (fitting Begin TakeFirst true true 0 0) new_slot 0 none none no_log refl)

-- ---- append, on slot 0

-- a program on operations: on those of words, and on a single one
abbrev in_words : (List Op → Part) → List ℕ → Part
in_words f ws = f (ops_in ws)

abbrev single : (List Op → Part) → ℕ → ℕ → ℕ → Part
single f kind key amount = f (op kind key amount ∷ [])

-- what is made of operations that are admitted
abbrev effect : List Op → Part
effect os c = appended Walk c.first os c

-- judged by a test of the operations and by how many the log is asked to hold, with an effect
abbrev append_if : (List Op → Bool) → (List Op → ℕ) → (List Op → Part) → List Op → Part
append_if good n f os c s e l r g =
    elim (smallest (writer_signs 7 (not (good os)) (crowds (n os) c) c s))
    [ Ok _ ↦ f os c s e l r g | Err a ↦ lent (refused a c s e) l r g ]

-- while `first` slot 0's epoch grows by this
abbrev epoch_by : (List Op → ℕ) → List Op → Part
epoch_by n =
    append_if lawful_batch length
    (λ os c s e l r g.
    let o = effect os c s e l r g in
    let t : Slot = elim c.first [ true ↦ with_due ((s.epoch + n os) % 2 ^ 64) s.due s | false ↦ s ] in
    lent (made_at_once o.made.control t e) o.left o.right o.log)

-- slot 0's epoch stays
abbrev epoch_stays : List Op → Part
epoch_stays = epoch_by (λ os. 0)

epoch_stays_wrong : AppendOnPromise (single epoch_stays) → ⊥
unfolding rules
epoch_stays_wrong h = apart (λ o. o.made.slot.epoch) refl (h 1 7 3 idle new_slot 0 none none no_log refl)

-- into the log while `first` too
abbrev logs_first : List Op → Part
logs_first = append_if lawful_batch length (appended Walk false)

logs_first_wrong : AppendOnPromise (single logs_first) → ⊥
unfolding rules
logs_first_wrong h = apart (λ o. word_at 0 o.log) refl (h 1 7 3 idle new_slot 0 none none no_log refl)

-- to the copy that is read
abbrev to_read : List Op → Part
to_read =
    append_if lawful_batch length
    (λ os c s e l r g.
    elim c.first [
      | true ↦
          let f = operated_all os in
          lent (append_first Walk os c s e l r g).made (of_right c.right f l) (of_left c.right f r) g
      | false ↦ appended Walk false os c s e l r g
    ])

to_read_wrong : AppendOnPromise (single to_read) → ⊥
unfolding rules
to_read_wrong h = apart (λ o. word_at 0 o.left) refl (h 1 7 3 idle new_slot 0 none none no_log refl)

-- keys are searched by halving where a walk is asked for
appends_trusting_wrong : AppendByPromise (λ how. single (append_by Halve)) → ⊥
unfolding rules
appends_trusting_wrong h = apart (λ o. word_at 0 o.right) refl (h Walk 1 7 3 idle new_slot 0 falls falls no_log refl)

appends_staying_wrong : AppendByPromise (λ how. single epoch_stays) → ⊥
unfolding rules
appends_staying_wrong h = apart (λ o. o.made.slot.epoch) refl (h Halve 1 7 3 idle new_slot 0 none none no_log refl)

-- ---- a batch, on slot 0

-- ADDs of 1 to keys 7 and 8; key 7 added and dropped; a bad one behind a good one; one that is cut short; one too many; none
abbrev two : Words
two = slice (adds (7 ∷ 8 ∷ [])) refl

abbrev add_drop : Words
add_drop = slice (1 ∷ 7 ∷ 3 ∷ 2 ∷ 7 ∷ 0 ∷ []) refl

abbrev bad_second : Words
bad_second = slice (1 ∷ 7 ∷ 3 ∷ 1 ∷ 7 ∷ 0 ∷ []) refl

abbrev torn : Words
torn = slice (1 ∷ 7 ∷ 3 ∷ 1 ∷ []) refl

abbrev too_many : Words
too_many = slice (adds (replicate (batch_room + 1) 7)) refl

abbrev nothing : Words
nothing = slice [] refl

-- after the first swap, with so many operations in the log
abbrev logging : ℕ → Control
logging n = fitting Idle Publish false false n 0

abbrev answered_on : Lent Moved → ℕ
answered_on o = number o.made.answer

-- those that the log has room for are taken
abbrev takes_what_fits : List Op → Part
takes_what_fits =
    append_if lawful_batch (λ os. 0) (λ os c. effect (elim c.first [ true ↦ os | false ↦ take (log_room - c.length) os ]) c)

takes_what_fits_wrong : ExtendOnPromise (in_words takes_what_fits) → ⊥
unfolding rules
takes_what_fits_wrong h = apart answered_on refl (h two (logging (log_room - 1)) new_slot 0 none none no_log refl)

-- slot 0's epoch grows for each operation
abbrev stirs_each : List Op → Part
stirs_each = epoch_by (λ os. 2 * length os)

stirs_each_wrong : ExtendOnPromise (in_words stirs_each) → ⊥
unfolding rules
stirs_each_wrong h = apart (λ o. o.made.slot.epoch) refl (h two idle new_slot 0 none none no_log refl)

-- the operations before a bad one are applied, and then the batch is refused
abbrev before_bad : List Op → List Op
before_bad [] = []
before_bad (o ∷ os) = elim (lawful o.kind o.key o.amount) [ true ↦ o ∷ before_bad os | false ↦ [] ]

abbrev stops_at_bad : List Op → Part
stops_at_bad os c s e l r g =
    let o = append_on (before_bad os) c s e l r g in
    lent (append_on os c s e l r g).made o.left o.right o.log

stops_at_bad_wrong : ExtendOnPromise (in_words stops_at_bad) → ⊥
unfolding rules
stops_at_bad_wrong h = apart (λ o. word_at 0 o.right) refl (h bad_second idle new_slot 0 none none no_log refl)

-- the last operation first
abbrev backwards : List Op → Part
backwards os = append_on (reverse os)

backwards_wrong : ExtendOnPromise (in_words backwards) → ⊥
unfolding rules
backwards_wrong h = apart (λ o. word_at 0 o.right) refl (h add_drop idle new_slot 0 none none no_log refl)

-- words behind the last whole operation are not looked at
abbrev whole_ops : List ℕ → List Op
whole_ops [] = []
whole_ops (kind ∷ []) = []
whole_ops (kind ∷ key ∷ []) = []
whole_ops (kind ∷ key ∷ amount ∷ ws) = op kind key amount ∷ whole_ops ws

abbrev ignores_tail : List ℕ → Part
ignores_tail ws = append_on (whole_ops ws)

ignores_tail_wrong : ExtendOnPromise ignores_tail → ⊥
unfolding rules
ignores_tail_wrong h = apart answered_on refl (h torn idle new_slot 0 none none no_log refl)

-- one more is taken than a batch may have
abbrev one_too_many : List Op → Part
one_too_many = append_if (λ os. leb (length os) (batch_room + 1) && all_lawful os) length effect

one_too_many_wrong : ExtendOnPromise (in_words one_too_many) → ⊥
unfolding rules
one_too_many_wrong h = apart answered_on refl (h too_many idle new_slot 0 none none no_log refl)

-- a batch of none does not move slot 0's epoch
abbrev empty_rests : List Op → Part
empty_rests = epoch_by (λ os. elim (ltb 0 (length os)) [ true ↦ 2 | false ↦ 0 ])

empty_rests_wrong : ExtendOnPromise (in_words empty_rests) → ⊥
unfolding rules
empty_rests_wrong h = apart (λ o. o.made.slot.epoch) refl (h nothing idle new_slot 0 none none no_log refl)

-- a full log refuses a batch of none too
abbrev full_refuses : List Op → Part
full_refuses = append_if lawful_batch (λ os. elim (ltb 0 (length os)) [ true ↦ length os | false ↦ 1 ]) effect

full_refuses_wrong : ExtendOnPromise (in_words full_refuses) → ⊥
unfolding rules
full_refuses_wrong h = apart answered_on refl (h nothing (logging log_room) new_slot 0 none none no_log refl)

-- keys are searched by halving where a walk is asked for
extends_trusting_wrong : ExtendByPromise (λ how. in_words (append_by Halve)) → ⊥
unfolding rules
extends_trusting_wrong h = apart (λ o. word_at 0 o.right) refl (h Walk two idle new_slot 0 falls falls no_log refl)

extends_backwards_wrong : ExtendByPromise (λ how. in_words backwards) → ⊥
unfolding rules
extends_backwards_wrong h = apart (λ o. word_at 0 o.right) refl (h Halve add_drop idle new_slot 0 none none no_log refl)

-- ---- publish, try, flush and take, on slot 0

-- another effect, or judged by another control part and slot
abbrev open_by : (Control → Slot → ℕ → Moved) → Control → Slot → Opening → Control → Slot → ℕ → Moved
open_by f d t o c s e =
    elim (smallest (writer_signs (column_of o) false false d t)) [ Ok _ ↦ f c s e | Err a ↦ refused a c s e ]

-- a guard of slot 0 does not refuse
abbrev under_guards : Opening → Control → Slot → ℕ → Moved
under_guards o c s = open_by (opened o) c (with_reading s.epoch no_guards s.due s) o c s

under_guards_wrong : OpenOnPromise under_guards → ⊥
unfolding rules
under_guards_wrong h = apart (λ o. number o.answer) refl (h opening.Publish (fitting Idle Publish false false 0 0) inside 0 refl)

-- one call is begun over another
abbrev over_another : Opening → Control → Slot → ℕ → Moved
over_another o c s = open_by (opened o) (elim (underway c.phase) [ true ↦ at Idle c | false ↦ c ]) s o c s

over_another_wrong : OpenOnPromise over_another → ⊥
unfolding rules
over_another_wrong h = apart (λ o. number o.answer) refl (h opening.Publish (fitting Swap Publish false false 0 0) new_slot 0 refl)

-- ---- the calls on the whole machine

-- on slot 0
abbrev on_zero : Part → Whole
on_zero f = judging (λ st l r g. lift 0 st (f st.control (slot_at st 0) (snap_at st 0) l r g))

abbrev appends : (List Op → Part) → ℕ → ℕ → ℕ → Whole
appends f kind key amount = on_zero (single f kind key amount)

abbrev extends : (List ℕ → Part) → List ℕ → Whole
extends f ws = on_zero (f ws)

abbrev opens : Opening → (Control → Slot → ℕ → Moved) → Beginning
opens o f st l r g =
    let c = st.control in
    let s = slot_at st 0 in
    elim (judged st l r g) [ Ok _ ↦ put_back 0 st (open_by f c s o c s (snap_at st 0)) | Err a ↦ refusal a st ]

-- after the first publish
abbrev later : State
later = with1 (fitting Idle Publish false true 0 0) no_slot 0

-- append: the epoch stays
append_epoch_stays_wrong : AppendPromise (appends epoch_stays) → ⊥
unfolding rules
append_epoch_stays_wrong h = apart epoch0 refl (h 1 7 3 fresh none none no_log refl)

-- append: a full log takes one more, which is counted and lost
abbrev one_more : List Op → Part
one_more = append_if lawful_batch (λ os. 0) effect

append_one_more_wrong : AppendPromise (appends one_more) → ⊥
unfolding rules
append_one_more_wrong h = apart answered refl (h 1 7 3 (with1 (logging log_room) no_slot 0) none none full_log refl)

-- a batch
extend_takes_what_fits_wrong : ExtendPromise (extends (in_words takes_what_fits)) → ⊥
unfolding rules
extend_takes_what_fits_wrong h = apart answered refl (h two (with1 (logging (log_room - 1)) no_slot 0) none none full_log refl)

extend_stirs_each_wrong : ExtendPromise (extends (in_words stirs_each)) → ⊥
unfolding rules
extend_stirs_each_wrong h = apart epoch0 refl (h two fresh none none no_log refl)

extend_stops_at_bad_wrong : ExtendPromise (extends (in_words stops_at_bad)) → ⊥
unfolding rules
extend_stops_at_bad_wrong h = apart (λ o. word_at 0 o.right) refl (h bad_second fresh none none no_log refl)

extend_backwards_wrong : ExtendPromise (extends (in_words backwards)) → ⊥
unfolding rules
extend_backwards_wrong h = apart (λ o. word_at 0 o.right) refl (h add_drop fresh none none no_log refl)

extend_ignores_tail_wrong : ExtendPromise (extends ignores_tail) → ⊥
unfolding rules
extend_ignores_tail_wrong h = apart answered refl (h torn fresh none none no_log refl)

extend_one_too_many_wrong : ExtendPromise (extends (in_words one_too_many)) → ⊥
unfolding rules
extend_one_too_many_wrong h = apart answered refl (h too_many fresh none none no_log refl)

-- publish: the swap at its beginning
abbrev swaps_at_once : Beginning
swaps_at_once = opens opening.Publish (λ c s e. value 0 (swapped_over (begun c)) s e)

swaps_at_once_wrong : PublishPromise swaps_at_once → ⊥
unfolding rules
swaps_at_once_wrong h = apart (λ o. bit o.made.state.control.right) refl (h later none none no_log refl)

-- publish: the first one polls
abbrev first_polls : Beginning
first_polls = opens opening.Publish (λ c s e. value 0 (at (polling c 0) (with_job Publish c)) s e)

first_polls_wrong : PublishPromise first_polls → ⊥
unfolding rules
first_polls_wrong h = apart phased refl (h fresh none none no_log refl)

-- try: as publish, with no poll while `first`
abbrev try_as_publish : Beginning
try_as_publish = opens opening.Try (λ c s e. value 0 (at (beginning c) (with_job Try c)) s e)

try_as_publish_wrong : TryPromise try_as_publish → ⊥
unfolding rules
try_as_publish_wrong h = apart phased refl (h fresh none none no_log refl)

-- try: one that waits
abbrev try_waits : Beginning
try_waits = opens opening.Try (λ c s e. value 0 (at (polling c 0) (with_job Publish c)) s e)

-- what a held poll of it answers
abbrev held_answer : Lent Reply → ℕ
held_answer o = number (stopped o.made.state.control.job o.made.state.control new_slot 0).answer

try_waits_wrong : TryPromise try_waits → ⊥
unfolding rules
try_waits_wrong h = apart held_answer refl (h later none none no_log refl)

-- flush: it publishes while `first` too
abbrev flushes_first : Beginning
flushes_first =
    opens opening.Flush
    (λ c s e. elim (c.first || ltb c.swapped c.length) [ true ↦ value 1 (begun c) s e | false ↦ value 0 c s e ])

flushes_first_wrong : FlushPromise flushes_first → ⊥
unfolding rules
flushes_first_wrong h = apart valued refl (h fresh none none no_log refl)

-- flush: it publishes what readers see already
abbrev flushes_seen : Beginning
flushes_seen = opens opening.Flush (λ c s e. elim (ltb 0 c.length) [ true ↦ value 1 (begun c) s e | false ↦ value 0 c s e ])

flushes_seen_wrong : FlushPromise flushes_seen → ⊥
unfolding rules
flushes_seen_wrong h = apart valued refl (h (with1 (fitting Idle Publish false true 1 1) no_slot 0) none none log7 refl)

-- flush: it publishes always
abbrev flushes_always : Beginning
flushes_always = opens opening.Flush (λ c s e. value 1 (begun c) s e)

flushes_always_wrong : FlushPromise flushes_always → ⊥
unfolding rules
flushes_always_wrong h = apart valued refl (h later none none no_log refl)

-- take: the lock at its beginning
abbrev locks_at_once : Beginning
locks_at_once =
    opens opening.Take
    (λ c s e.
    let m = opened opening.Take c s e in
    let d = m.control in
    value 0
    (with_lock true d)
    s e)

locks_at_once_wrong : TakePromise locks_at_once → ⊥
unfolding rules
locks_at_once_wrong h = apart (λ o. bit o.made.state.control.lock) refl (h fresh none none no_log refl)

-- take: a publish where the first is made and the log is empty
abbrev publishes_all : Beginning
publishes_all = opens opening.Take (λ c s e. value 0 (at Begin (with_job TakeFirst c)) s e)

publishes_all_wrong : TakePromise publishes_all → ⊥
unfolding rules
publishes_all_wrong h = apart phased refl (h later none none no_log refl)

-- ---- step and run

abbrev step_of : Part → Whole
step_of f st l r g = let i = place st.control.phase in lift i st (f st.control (slot_at st i) (snap_at st i) l r g)

-- a reader inside on slot 1, whose snapshot was seen
abbrev held_at1 : State
held_at1 = with1 (fitting (Poll 1) Publish false false 0 0) inside 1

step_held_moves_on_wrong : StepPromise (judging (going 12 (step_of held_moves_on))) → ⊥
unfolding rules
step_held_moves_on_wrong h = apart (λ o. place o.made.state.control.phase) refl (h held_at1 none none no_log refl)

step_poll_passes_wrong : StepPromise (judging (going 12 (step_of poll_passes))) → ⊥
unfolding rules
step_poll_passes_wrong h = apart answered refl (h held_at1 none none no_log refl)

step_snaps_free_wrong : StepPromise (judging (going 12 (step_of snaps_free))) → ⊥
unfolding rules
step_snaps_free_wrong h = apart snapped1 refl (h (with1 (fitting (Snap 1) Publish false false 0 0) no_slot 1) none none no_log refl)

-- a step before which neither the state nor the lent words are judged
step_unjudged_wrong : StepPromise (going 12 step_on) → ⊥
unfolding rules
step_unjudged_wrong h = apart answered refl (h (with1 (fitting Swap Publish false false 0 0) no_slot 0) no_log none no_log refl)

-- a run that says another value where it is held, of the steps that were made
abbrev held_says : (ℕ → ℕ) → Whole
held_says f st l r g =
    let o = call_rule Run st l r g in
    let m = o.made in
    elim (eqb (number m.answer) 13) [
      | true ↦ lent (record { answer = m.answer; value = f m.value; state = m.state }) o.left o.right o.log
      | false ↦ o
    ]

-- the step that is held is counted
run_counts_held_wrong : RunPromise (held_says (λ n. n + 1)) → ⊥
unfolding rules
run_counts_held_wrong h = apart valued refl (h held_at1 none none no_log refl)

-- the steps before it are forgotten
run_forgets_steps_wrong : RunPromise (held_says (λ n. 0)) → ⊥
unfolding rules
run_forgets_steps_wrong h = apart valued refl (h (with1 (fitting (Poll 0) Publish false false 0 0) inside 1) none none no_log refl)

-- a number that has nothing to do with them
run_invents_value_wrong : RunPromise (held_says (λ n. 99)) → ⊥
unfolding rules
run_invents_value_wrong h = apart valued refl (h held_at1 none none no_log refl)

-- a run that makes one step
run_one_step_wrong : RunPromise (judging (going 13 (run_while step_on 1 0))) → ⊥
unfolding rules
run_one_step_wrong h = apart phased refl (h (with1 (fitting (Snap (slot_count - 2)) Publish false false 0 0) no_slot 0) none none no_log refl)

-- a run whose take polls by the last publish's snapshots: a reader that entered since is passed
run_old_snapshots_wrong : RunPromise (judging (going 13 (run_while (step_of old_snapshots) enough 0))) → ⊥
unfolding rules
run_old_snapshots_wrong h = apart answered refl (h (with1 (fitting Lock TakeFirst false false 0 0) inside 0) none none no_log refl)
