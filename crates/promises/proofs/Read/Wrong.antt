-- Wrong programs, as definitions on the rules' values, and for each a proof that the contract's promise (`Promises`) is false of it: one
-- call, on values that the source's types have, where what the program does wrong is read off.
use Prim.Native.Nat.{ℕ, zero, suc, ◌+◌, ◌-◌, ◌^◌}
use mathlib.Core.Path.{refl}
use mathlib.Core.Bool.{Bool, true, false, not, ◌&&◌, ◌||◌}
use mathlib.Core.List.{List, [], ◌∷◌}
use lib.Dec.{eqb, ltb, leb}
use lib.ListN.{length, get_or, set, replicate}
use Rattle.table.specs.Answers.{number}
use Rattle.table.specs.Seek.{seek}
use Rattle.table.specs.declared.Search.TheVariants.{Walk, Halve}
use Rattle.table.specs.Copy.{words, zeros, look_by, used_rule}
use Rattle.table.specs.declared.Answer.TheVariants as answer
use Rattle.read.specs.declared.Due.{Due}
use Rattle.read.specs.declared.Due.TheVariants.{Nothing, Load, Restore}
use Rattle.read.specs.declared.Guard.{Guard}
use Rattle.std.specs.Prelude.{Some, Ok, Err}
use Rattle.read.specs.declared.Sign.{Sign}
use Rattle.read.specs.declared.Slot.{Slot}
use Rattle.read.specs.declared.Job.TheVariants.{Publish}
use Rattle.read.specs.declared.Phase.{Phase}
use Rattle.read.specs.declared.Phase.TheVariants.{Idle, Poll, Gone}
use Rattle.read.specs.declared.Control.{Control}
use Rattle.read.specs.declared.State.{State}
use Rattle.read.specs.declared.Handle.{Handle}
use Rattle.read.specs.declared.Handle.TheVariants.{Drop, Enter, GoOn, Release, LookUp, WasDropped}
use Rattle.read.specs.Machine.{Verdict, standing, holding, open_on, with_use, with_reading, slot_count, guard_count, log_words, shut, no_guards, is_open, stands_right, put_guard, same, first_guard, any_open, all_open, is_due, is_load, no_slot, new_slot, is_gone, underway, whole_control, with_free, behind, free_below, orderly, first_unlawful, glanced, judged, fresh, row}
use Rattle.read.specs.declared.Made.{Made}
use Rattle.read.specs.declared.Reply.{Reply}
use Rattle.read.specs.Admission.{handle_number, entry}
use Rattle.read.specs.Handles.{mistimed, sign, smallest, handle_signs, made_of, bumped, with_due, freed, loaded, entered, went_on, released, copy_of, bit, handle_by, handle_on, create_on}
use Rattle.read.specs.Calls.{slot_at, with_slot, refusal, reply_of, Lent, lent, handle_reply, handle_rule, create_rule, view_rule, pair_rule, start_rule}
use Rattle.table.proofs.Computes.{apart}
use Rattle.promises.proofs.Witnesses.{copy, none, seven, falls, no_log, inside, word_at, itself}
use Rattle.promises.proofs.Contracts.{Words, slice}
use Rattle.read.proofs.Computes.{rules}
use Rattle.promises.proofs.Read.Promises.{FreshPromise, SlotAtPromise, RowPromise, EntryPromise, FirstGuardPromise, IsOpenPromise, AnyOpenPromise, AllOpenPromise, IsDuePromise, IsLoadPromise, NoSlotPromise, NewSlotPromise, FreedPromise, EnteredPromise, WentOnPromise, ReleasedPromise, VerdictPromise, GuardedCopyPromise, HandlePromise, HandleByPromise, CreateOnPromise, OrderlyPromise, SignPromise, SmallestPromise, GivenPromise, EitherPromise, LocksPromise, SamePromise, SizedPromise, JudgePromise, StartPromise, CreatePromise, DropPromise, EnterPromise, GoOnPromise, WasDroppedPromise, OnHandlePromise, ReleasePromise, LookUpPromise, ViewPromise, PairPromise}
use Rattle.read.proofs.Cases.{state_of, with_lock}

-- ---- what the witnesses are made of

-- what is read off a result
abbrev verdict : Verdict → ℕ
verdict (Ok _) = 0
verdict (Err a) = number a

abbrev opens : ℕ → Slot → ℕ
opens j s = bit (is_open s.guards j)

-- key 7 has another count than in `seven`
abbrev right7 : Words
right7 = copy (1 ∷ 0 ∷ 7 ∷ 4 ∷ []) refl

-- a slice of no words
abbrev no_words : Words
no_words = slice [] refl

-- guards on the left and on the right copy
abbrev on_left : Guard
on_left = open_on false

abbrev on_right : Guard
on_right = open_on true

abbrev one : List Guard
one = on_left ∷ shut ∷ shut ∷ shut ∷ []

abbrev second : List Guard
second = shut ∷ on_left ∷ shut ∷ shut ∷ []

abbrev two : List Guard
two = on_left ∷ on_right ∷ shut ∷ shut ∷ []

abbrev right : List Guard
right = on_right ∷ shut ∷ shut ∷ shut ∷ []

abbrev four : List Guard
four = replicate guard_count on_left

-- a slot in use, and a machine with it in slot 1: slot 2 is handed out next
abbrev slot_with : ℕ → List Guard → Due → Slot
slot_with e gs d = with_reading e gs d new_slot

abbrev first : ℕ → State → State
first k st = state_of (with_free k st.control) st.slots st.snapshots

abbrev machine : Slot → State
machine s = first 2 (with_slot 1 s fresh)

-- the same order, and another control part
abbrev controlled : Control → State → State
controlled c st = state_of (with_free st.control.free c) st.slots st.snapshots

-- slot 1 is in use, and 2 and 3 were freed, 3 at last
abbrev two_freed : State
two_freed = first 3 (with_slot 2 (freed 4 new_slot) (with_slot 3 (freed 2 new_slot) (machine new_slot)))

abbrev snapped : List ℕ → State → State
snapped es st = state_of st.control st.slots es

-- idle; under way, with the lock; at take's finish; after it
abbrev idle : Control
idle = fresh.control

abbrev polling : Control
polling = holding false false false true 0 0 (standing (Poll 0) Publish idle)

abbrev finishing : Control
finishing = holding false true false false 0 0 (standing Phase.Finish Publish idle)

abbrev gone : Control
gone = holding false true false false 0 0 (standing Gone Publish idle)

-- broken by itself: idle with the lock; and by its log: one operation, which is none in `no_log`
abbrev broken : Control
broken = with_lock true idle

abbrev unlawful : Control
unlawful = holding false false false true 1 0 idle

-- ---- the state

-- the pointer begins on the right; the writer has no handle of its own
fresh_right_wrong : FreshPromise (controlled (holding true false true true 0 0 idle) fresh) → ⊥
fresh_right_wrong h = apart (λ st. bit st.control.right) refl (h refl)

fresh_alone_wrong : FreshPromise (with_slot 0 no_slot fresh) → ⊥
fresh_alone_wrong h = apart (λ st. bit (slot_at st 0).used) refl (h refl)

-- always slot 0; past the last one in use
slot_zero_wrong : SlotAtPromise (λ st i. slot_at st 0) → ⊥
unfolding rules
slot_zero_wrong h = apart (λ s. s.epoch) refl (h (machine (slot_with 4 no_guards Nothing)) 1 refl)

slot_past_wrong : SlotAtPromise (λ st i. elim (ltb i slot_count) [ true ↦ slot_at st i | false ↦ new_slot ]) → ⊥
unfolding rules
slot_past_wrong h = apart (λ s. bit s.used) refl (h fresh slot_count refl)

-- ---- admission

-- the rows are counted from 1
abbrev from_one : Phase → ℕ
from_one p = row p + 1

from_one_wrong : RowPromise from_one → ⊥
from_one_wrong h = apart itself refl (h Idle refl)

-- every phase is in the row of idle
abbrev one_row : Phase → ℕ
one_row p = row Idle

one_row_wrong : RowPromise one_row → ⊥
one_row_wrong h = apart itself refl (h Gone refl)

-- create goes through under the lock
abbrev create_passes : Phase → ℕ → ℕ
create_passes p c = elim (eqb c 0) [ true ↦ 0 | false ↦ entry p c ]

create_passes_wrong : EntryPromise create_passes → ⊥
unfolding rules
create_passes_wrong h = apart itself refl (h (Poll 0) 0 refl)

-- slot 0 is admitted under way
abbrev own_passes : Phase → ℕ → ℕ
own_passes p c = elim (ltb c 15) [ true ↦ entry p c | false ↦ 0 ]

own_passes_wrong : EntryPromise own_passes → ⊥
unfolding rules
own_passes_wrong h = apart itself refl (h (Poll 0) 16 refl)

-- ---- guards

-- the last guard of the kind
abbrev last_guard : Bool → List Guard → ℕ
last_guard want gs =
    elim (ltb (first_guard want gs) guard_count)
    [ true ↦ 3 - seek (λ j. same want (is_open gs (3 - j))) 0 guard_count | false ↦ guard_count ]

last_guard_wrong : FirstGuardPromise last_guard → ⊥
unfolding rules
last_guard_wrong h = apart itself refl (h false one refl)

-- what is wanted is not looked at
abbrev first_shut : Bool → List Guard → ℕ
first_shut want gs = first_guard false gs

first_shut_wrong : FirstGuardPromise first_shut → ⊥
unfolding rules
first_shut_wrong h = apart itself refl (h true one refl)

-- a number over 3 is the last guard's
abbrev open_past : List Guard → ℕ → Bool
open_past gs j = elim (ltb j guard_count) [ true ↦ is_open gs j | false ↦ is_open gs 3 ]

open_past_wrong : IsOpenPromise open_past → ⊥
open_past_wrong h = apart bit refl (h four 4 refl)

-- no guard is open
never_open_wrong : IsOpenPromise (λ gs j. false) → ⊥
never_open_wrong h = apart bit refl (h one 0 refl)

-- guard 0 stands for all
abbrev first_open : List Guard → Bool
first_open gs = is_open gs 0

first_open_any_wrong : AnyOpenPromise first_open → ⊥
unfolding rules
first_open_any_wrong h = apart bit refl (h second refl)

first_open_all_wrong : AllOpenPromise first_open → ⊥
unfolding rules
first_open_all_wrong h = apart bit refl (h one refl)

-- any and all are one
all_open_any_wrong : AnyOpenPromise all_open → ⊥
unfolding rules
all_open_any_wrong h = apart bit refl (h one refl)

any_open_all_wrong : AllOpenPromise any_open → ⊥
unfolding rules
any_open_all_wrong h = apart bit refl (h two refl)

-- a load alone is due, and all that is due is a load
is_load_due_wrong : IsDuePromise is_load → ⊥
is_load_due_wrong h = apart bit refl (h Restore refl)

is_due_load_wrong : IsLoadPromise is_due → ⊥
is_due_load_wrong h = apart bit refl (h Restore refl)

always_due_wrong : IsDuePromise (λ d. true) → ⊥
always_due_wrong h = apart bit refl (h Nothing refl)

never_load_wrong : IsLoadPromise (λ d. false) → ⊥
never_load_wrong h = apart bit refl (h Load refl)

-- a free slot that is in use, and one with a step due
new_slot_no_wrong : NoSlotPromise new_slot → ⊥
new_slot_no_wrong h = apart (λ s. bit s.used) refl (h refl)

due_load_no_wrong : NoSlotPromise (with_due 0 Load no_slot) → ⊥
due_load_no_wrong h = apart (λ s. bit (is_due s.due)) refl (h refl)

-- a new slot that is free, and one that begins at epoch 1
no_slot_new_wrong : NewSlotPromise no_slot → ⊥
no_slot_new_wrong h = apart (λ s. bit s.used) refl (h refl)

epoch_one_new_wrong : NewSlotPromise (slot_with 1 no_guards Nothing) → ⊥
epoch_one_new_wrong h = apart (λ s. s.epoch) refl (h refl)

-- ---- what a call does to its slot

-- drop clears the epoch
abbrev drops_epoch : ℕ → Slot → Slot
drops_epoch k s = with_reading 0 s.guards s.due (freed k s)

drops_epoch_wrong : FreedPromise drops_epoch → ⊥
drops_epoch_wrong h = apart (λ s. s.epoch) refl (h 2 (slot_with 4 no_guards Nothing) refl)

-- drop leaves the slot in use
abbrev stays_used : ℕ → Slot → Slot
stays_used k s = with_use true (Some k) s

stays_used_wrong : FreedPromise stays_used → ⊥
stays_used_wrong h = apart (λ s. bit s.used) refl (h 2 new_slot refl)

-- drop forgets which slot was first
abbrev forgets_first : ℕ → Slot → Slot
forgets_first k s = with_use false s.link s

forgets_first_wrong : FreedPromise forgets_first → ⊥
forgets_first_wrong h = apart (λ s. behind 1 s.link) refl (h 5 new_slot refl)

-- enter with no guard open adds to the epoch and loads at once, where the load is a step of its own
abbrev loads_at_once : Control → Slot → Made
loads_at_once c s =
    elim (any_open s.guards) [ true ↦ entered c s | false ↦ loaded c Restore (with_due (bumped s.epoch) Nothing s) ]

loads_at_once_wrong : EnteredPromise loads_at_once → ⊥
unfolding rules
loads_at_once_wrong h = apart (λ m. opens 0 m.slot) refl (h idle new_slot refl)

-- enter with a guard open adds to the epoch too
abbrev bumps_inside : Control → Slot → Made
bumps_inside c s =
    let m = entered c s in
    made_of c m.answer m.value (with_due (bumped s.epoch) m.slot.due m.slot)

bumps_inside_wrong : EnteredPromise bumps_inside → ⊥
unfolding rules
bumps_inside_wrong h = apart (λ m. m.slot.epoch) refl (h idle (slot_with 1 one Nothing) refl)

-- go on after null forgets to put the epoch back
abbrev forgets_epoch : Control → Slot → Made
forgets_epoch c s =
    let m = went_on c s.due s in
    made_of c m.answer m.value (with_due s.epoch m.slot.due m.slot)

forgets_epoch_wrong : WentOnPromise forgets_epoch → ⊥
unfolding rules
forgets_epoch_wrong h = apart (λ m. m.slot.epoch) refl (h gone (slot_with 1 no_guards Restore) refl)

-- a load that finds null leaves nothing due
abbrev null_ends : Control → Slot → Made
null_ends c s = elim (is_load s.due) [ true ↦ loaded c Nothing s | false ↦ went_on c s.due s ]

null_ends_wrong : WentOnPromise null_ends → ⊥
unfolding rules
null_ends_wrong h = apart (λ m. bit (is_due m.slot.due)) refl (h gone (slot_with 1 no_guards Load) refl)

-- release adds to the epoch at every guard
abbrev bumps_each : ℕ → Slot → Slot
bumps_each j s = with_reading (bumped s.epoch) (put_guard j shut s.guards) s.due s

bumps_each_wrong : ReleasedPromise bumps_each → ⊥
unfolding rules
bumps_each_wrong h = apart (λ s. s.epoch) refl (h 0 (slot_with 1 two Nothing) refl)

-- release adds two at the last guard, and leaves the epoch odd
abbrev adds_two : ℕ → Slot → Slot
adds_two j s = let t = released j s in with_reading (elim (any_open t.guards) [ true ↦ t.epoch | false ↦ bumped t.epoch ]) t.guards t.due t

adds_two_wrong : ReleasedPromise adds_two → ⊥
unfolding rules
adds_two_wrong h = apart (λ s. s.epoch) refl (h 0 (slot_with 1 one Nothing) refl)

-- the last release stops at 2^64-1
abbrev stops_at_end : ℕ → Slot → Slot
stops_at_end j s =
    let t = released j s in
    elim (ltb t.epoch s.epoch)
    [ true ↦ with_reading s.epoch t.guards t.due t | false ↦ t ]

stops_at_end_wrong : ReleasedPromise stops_at_end → ⊥
unfolding rules
stops_at_end_wrong h = apart (λ s. s.epoch) refl (h 0 (slot_with (2 ^ 64 - 1) one Nothing) refl)

-- the other copy
abbrev other_copy : List Guard → ℕ → List ℕ → List ℕ → List ℕ
other_copy gs j l r = copy_of (not (stands_right gs j)) l r

other_copy_wrong : GuardedCopyPromise other_copy → ⊥
other_copy_wrong h = apart (word_at 3) refl (h one 0 seven right7 refl)

-- always the left copy
abbrev left_copy : List Guard → ℕ → List ℕ → List ℕ → List ℕ
left_copy gs j l r = l

left_copy_wrong : GuardedCopyPromise left_copy → ⊥
left_copy_wrong h = apart (word_at 3) refl (h right 0 seven right7 refl)

-- ---- verdicts

abbrev Judgement : Type 0
Judgement = Control → Bool → Slot → Handle → Verdict

-- a step that is due is not seen
abbrev no_mistime : Judgement
no_mistime c own s h = smallest (handle_signs c own (with_due s.epoch Nothing s) h)

no_mistime_wrong : VerdictPromise no_mistime → ⊥
unfolding rules
no_mistime_wrong h = apart verdict refl (h idle false (slot_with 1 no_guards Load) Enter refl)

-- a free slot has a handle
abbrev free_serves : Judgement
free_serves c own s h = smallest (handle_signs c own (slot_with s.epoch s.guards s.due) h)

free_serves_wrong : VerdictPromise free_serves → ⊥
unfolding rules
free_serves_wrong h = apart verdict refl (h idle false no_slot Enter refl)

-- a larger number wins
abbrev larger : Judgement
larger c own s h = elim (mistimed (handle_number h) s.due) [ true ↦ Err answer.NotNow | false ↦ smallest (handle_signs c own s h) ]

larger_wrong : VerdictPromise larger → ⊥
unfolding rules
larger_wrong h = apart verdict refl (h idle false (with_reading 1 no_guards Load no_slot) Enter refl)

-- nothing speaks against a call
admits_all_wrong : VerdictPromise (λ c own s h. Ok tt) → ⊥
unfolding rules
admits_all_wrong h = apart verdict refl (h idle false no_slot Enter refl)

-- a sign that applies does not; one that does not applies
sign_over_wrong : SignPromise (λ a b. sign a false) → ⊥
sign_over_wrong h = apart (λ x. bit x.applies) refl (h answer.Gone true refl)

sign_always_wrong : SignPromise (λ a b. sign a true) → ⊥
sign_always_wrong h = apart (λ x. bit x.applies) refl (h answer.Gone false refl)

-- a sign that applies is passed over; one that does not is given
given_over_wrong : GivenPromise (λ b a v. v) → ⊥
unfolding smallest
given_over_wrong h = apart verdict refl (h true answer.Gone [] refl)

given_always_wrong : GivenPromise (λ b a v. Err a) → ⊥
unfolding smallest
given_always_wrong h = apart verdict refl (h false answer.Gone [] refl)

-- a sign that applies is passed over
abbrev passes_first : List Sign → Verdict
passes_first [] = Ok tt
passes_first (x ∷ xs) = smallest xs

passes_first_wrong : SmallestPromise passes_first → ⊥
unfolding smallest
passes_first_wrong h = apart verdict refl (h (sign answer.Gone true ∷ []) refl)

-- one that does not apply is given
abbrev gives_first : List Sign → Verdict
gives_first [] = Ok tt
gives_first (x ∷ xs) = Err x.answer

gives_first_wrong : SmallestPromise gives_first → ⊥
unfolding smallest
gives_first_wrong h = apart verdict refl (h (sign answer.Gone false ∷ []) refl)

-- either is both, or the first alone
either_both_wrong : EitherPromise ◌&&◌ → ⊥
either_both_wrong h = apart bit refl (h true false refl)

either_first_wrong : EitherPromise (λ a b. a) → ⊥
either_first_wrong h = apart bit refl (h false true refl)

-- the same is either, or both
same_either_wrong : SamePromise ◌||◌ → ⊥
same_either_wrong h = apart bit refl (h true false refl)

same_both_wrong : SamePromise ◌&&◌ → ⊥
same_both_wrong h = apart bit refl (h false false refl)

-- all that is under way holds the lock; nothing does
locks_underway_wrong : LocksPromise underway → ⊥
locks_underway_wrong h = apart bit refl (h Phase.Begin refl)

locks_never_wrong : LocksPromise (λ p. false) → ⊥
locks_never_wrong h = apart bit refl (h (Poll 0) refl)

-- ---- the judgement

-- any log will do
abbrev copies_sized : List ℕ → List ℕ → List ℕ → Bool
copies_sized l r g = eqb (length l) words && eqb (length r) words

copies_sized_wrong : SizedPromise copies_sized → ⊥
copies_sized_wrong h = apart bit refl (h none none no_words refl)

-- the lengths may stand in another order
abbrev sum_sized : List ℕ → List ℕ → List ℕ → Bool
sum_sized l r g = eqb (length l + length r + length g) (words + words + log_words)

sum_sized_wrong : SizedPromise sum_sized → ⊥
sum_sized_wrong h = apart bit refl (h no_log none none refl)

-- behind the glance another test
abbrev judge_by : (State → List ℕ → Bool) → State → List ℕ → List ℕ → List ℕ → Verdict
judge_by test st l r g =
    elim (glanced st.control l r g)
    [ Ok _ ↦ elim (test st g) [ true ↦ Ok tt | false ↦ Err answer.Broken ] | Err a ↦ Err a ]

-- a judgement that skips the log
abbrev skips_log : State → List ℕ → List ℕ → List ℕ → Verdict
skips_log = judge_by (λ st g. orderly st)

skips_log_judge_wrong : JudgePromise skips_log → ⊥
unfolding rules
skips_log_judge_wrong h = apart verdict refl (h (controlled unlawful fresh) none none no_log refl)

-- one that skips the order of the free slots
abbrev skips_order : State → List ℕ → List ℕ → List ℕ → Verdict
skips_order = judge_by (λ st g. let n = st.control.length in leb n (first_unlawful n g))

skips_order_judge_wrong : JudgePromise skips_order → ⊥
unfolding rules
skips_order_judge_wrong h = apart verdict refl (h (first 2 fresh) none none no_log refl)

-- broken is found before the length
abbrev broken_first : State → List ℕ → List ℕ → List ℕ → Verdict
broken_first st l r g = elim (whole_control st.control) [ true ↦ judged st l r g | false ↦ Err answer.Broken ]

broken_first_judge_wrong : JudgePromise broken_first → ⊥
unfolding rules
broken_first_judge_wrong h = apart verdict refl (h (controlled broken fresh) none none no_words refl)

-- ---- the order in which free slots are handed out

-- a walk by what may stand in it, and by where it may end
abbrev walk_by : (Slot → Bool) → (ℕ → Bool) → ℕ → List Slot → ℕ → Bool
walk_by may end zero ss k = end k
walk_by may end (suc n) ss k =
    let s = get_or ss k no_slot in
    ltb k slot_count && (may s && walk_by may end n ss (behind k s.link))

abbrev is_free : Slot → Bool
is_free s = not s.used

abbrev at_end : ℕ → Bool
at_end k = eqb k slot_count

-- one that ends as soon as it can
abbrev ends_soon : ℕ → List Slot → ℕ → Bool
ends_soon zero ss k = at_end k
ends_soon (suc n) ss k =
    let s = get_or ss k no_slot in
    at_end k || (ltb k slot_count && (is_free s && ends_soon n ss (behind k s.link)))

-- as far as there are free slots
abbrev order_by : (ℕ → List Slot → ℕ → Bool) → State → Bool
order_by walks st = walks (free_below slot_count st.slots) st.slots st.control.free

-- a slot in use may come: slot 0 does, in the place of slot 1
abbrev used_comes : State → Bool
used_comes = order_by (walk_by (λ s. true) at_end)

used_comes_wrong : OrderlyPromise used_comes → ⊥
unfolding rules
used_comes_wrong h = apart bit refl (h (first 0 (with_slot 0 (with_use true (Some 2) new_slot) fresh)) refl)

-- a slot may come twice: behind slot 2 slot 1 comes again
abbrev comes_twice : State → Bool
comes_twice = order_by (walk_by is_free (λ k. true))

comes_twice_wrong : OrderlyPromise comes_twice → ⊥
unfolding rules
comes_twice_wrong h = apart bit refl (h (with_slot 2 (freed 1 no_slot) fresh) refl)

-- a free slot may be left out: slot 1 is
abbrev leaves_out : State → Bool
leaves_out = order_by ends_soon

leaves_out_wrong : OrderlyPromise leaves_out → ⊥
unfolding rules
leaves_out_wrong h = apart bit refl (h (first 2 fresh) refl)

-- ---- a call on a handle, on its slot

-- every call is refused
abbrev refuses_made : Control → ℕ → Slot → Handle → List ℕ → List ℕ → Made
refuses_made c i s h l r = made_of c answer.NotNow 0 s

refuses_made_wrong : HandlePromise refuses_made → ⊥
unfolding rules
refuses_made_wrong h = apart (λ m. number m.answer) refl (h idle 1 new_slot Enter none none refl)

-- every call is done, with nothing changed
abbrev idles_made : Control → ℕ → Slot → Handle → List ℕ → List ℕ → Made
idles_made c i s h l r = made_of c answer.Done 0 s

idles_made_wrong : HandlePromise idles_made → ⊥
unfolding rules
idles_made_wrong h = apart (λ m. m.slot.epoch) refl (h idle 1 new_slot Enter none none refl)

-- a slot that is dropped is not handed out next
abbrev drops_unlisted : Control → ℕ → Slot → Handle → List ℕ → List ℕ → Made
drops_unlisted c i s h l r = let m = handle_on c i s h l r in made_of c m.answer m.value m.slot

drops_unlisted_wrong : HandlePromise drops_unlisted → ⊥
unfolding rules
drops_unlisted_wrong h = apart (λ m. m.free) refl (h idle 3 new_slot Drop none none refl)

-- keys are searched by halving where a walk is asked for: of a copy out of order a key is missed
handles_trusting_wrong : HandleByPromise (λ how. handle_by (look_by Halve)) → ⊥
unfolding rules
handles_trusting_wrong h = apart (λ m. m.value) refl (h Walk idle 1 inside (LookUp 0 7) falls none refl)

-- a look up finds nothing
finds_nothing_wrong : HandleByPromise (λ how. handle_by (λ key w. [])) → ⊥
unfolding rules
finds_nothing_wrong h = apart (λ m. m.value) refl (h Halve idle 1 inside (LookUp 0 7) seven none refl)

-- ---- create, on the slot that is first

-- a slot that is handed out, with another record or another one behind it
abbrev creating : (Slot → Slot) → (Control → Slot → ℕ) → Control → Slot → Made
creating record_of next c s =
    let m = create_on c s in
    elim (eqb (number m.answer) 0)
    [ true ↦ record { answer = m.answer; value = m.value; slot = record_of s; free = next c s } | false ↦ m ]

-- the slot is handed out, and stays the first
abbrev stays_first : Control → Slot → Made
stays_first = creating (λ s. new_slot) (λ c s. c.free)

stays_first_wrong : CreateOnPromise stays_first → ⊥
unfolding rules
stays_first_wrong h = apart (λ m. m.free) refl (h idle no_slot refl)

-- the old record's epoch is kept
abbrev keeps_epoch : Control → Slot → Made
keeps_epoch = creating (λ s. slot_with s.epoch no_guards Nothing) (λ c s. behind c.free s.link)

keeps_epoch_wrong : CreateOnPromise keeps_epoch → ⊥
unfolding rules
keeps_epoch_wrong h = apart (λ m. m.slot.epoch) refl (h idle (freed 2 (slot_with 4 no_guards Nothing)) refl)

-- the next number comes behind every slot
abbrev next_number : Control → Slot → Made
next_number = creating (λ s. new_slot) (λ c s. suc c.free)

next_number_wrong : CreateOnPromise next_number → ⊥
unfolding rules
next_number_wrong h = apart (λ m. m.free) refl (h idle (freed 5 new_slot) refl)

-- ---- calls on the machine

-- refused as the rule has it, and else with another effect
abbrev calling : (Control → Slot → List ℕ → List ℕ → Made) → Handle → ℕ → List ℕ → List ℕ → List ℕ → State → Reply
calling effect h i l r g st =
    let q = handle_rule i h l r g st in
    let m = effect st.control (slot_at st i) l r in
    elim (eqb (number q.answer) 0 || eqb (number q.answer) 15)
    [ true ↦ reply_of i m st | false ↦ q ]

-- done, with this value, and nothing changed
abbrev idling : (Control → ℕ) → Control → Slot → List ℕ → List ℕ → Made
idling value c s l r = made_of c answer.Done (value c) s

abbrev answer_of : Reply → ℕ
answer_of q = number q.answer

abbrev value_of : Reply → ℕ
value_of q = q.value

-- of slot 1: its epoch, and whether guard 0 is open
abbrev epoch_of : Reply → ℕ
epoch_of q = (slot_at q.state 1).epoch

abbrev open_of : Reply → ℕ
open_of q = opens 0 (slot_at q.state 1)

-- every call is refused
abbrev refuses_all : ℕ → Handle → List ℕ → List ℕ → List ℕ → State → Reply
refuses_all i h l r g st = refusal answer.NotNow st

refuses_all_wrong : OnHandlePromise refuses_all → ⊥
unfolding rules
refuses_all_wrong h = apart answer_of refl (h 1 Enter none none no_log (machine new_slot) refl)

-- judged otherwise
abbrev handles_by : (State → List ℕ → List ℕ → List ℕ → Verdict) → ℕ → Handle → List ℕ → List ℕ → List ℕ → State → Reply
handles_by judge i h l r g st = elim (judge st l r g) [ Ok _ ↦ handle_reply i h l r st | Err a ↦ refusal a st ]

skips_log_wrong : OnHandlePromise (handles_by skips_log) → ⊥
unfolding rules
skips_log_wrong h = apart answer_of refl (h 1 Enter none none no_log (controlled unlawful (machine new_slot)) refl)

skips_order_wrong : OnHandlePromise (handles_by skips_order) → ⊥
unfolding rules
skips_order_wrong h = apart answer_of refl (h 1 Enter none none no_log (first 1 (machine new_slot)) refl)

-- every call that is not refused is done, with nothing changed
abbrev does_nothing : ℕ → Handle → List ℕ → List ℕ → List ℕ → State → Reply
does_nothing i h = calling (idling (λ c. 0)) h i

does_nothing_wrong : OnHandlePromise does_nothing → ⊥
unfolding rules
does_nothing_wrong h = apart epoch_of refl (h 1 Enter none none no_log (machine new_slot) refl)

-- drop

abbrev dropping : (ℕ → Slot → Slot) → ℕ → List ℕ → List ℕ → List ℕ → State → Reply
dropping f i = calling (λ c s l r. record { answer = answer.Done; value = 0; slot = f c.free s; free = i }) Drop i

drop_clears_wrong : DropPromise (dropping drops_epoch) → ⊥
unfolding rules
drop_clears_wrong h = apart epoch_of refl (h 1 none none no_log (machine (slot_with 4 no_guards Nothing)) refl)

drop_stays_wrong : DropPromise (dropping stays_used) → ⊥
unfolding rules
drop_stays_wrong h = apart (λ q. bit (slot_at q.state 1).used) refl (h 1 none none no_log (machine new_slot) refl)

drop_forgets_wrong : DropPromise (dropping forgets_first) → ⊥
unfolding rules
drop_forgets_wrong h = apart (λ q. behind 1 (slot_at q.state 1).link) refl (h 1 none none no_log two_freed refl)

-- the slot is not handed out next
drop_unlisted_wrong : DropPromise (calling (λ c s l r. made_of c answer.Done 0 (freed c.free s)) Drop) → ⊥
unfolding rules
drop_unlisted_wrong h = apart (λ q. q.state.control.free) refl (h 1 none none no_log (machine new_slot) refl)

-- enter

enter_loads_wrong : EnterPromise (calling (λ c s l r. loads_at_once c s) Enter) → ⊥
unfolding rules
enter_loads_wrong h = apart open_of refl (h 1 none none no_log (machine new_slot) refl)

enter_bumps_wrong : EnterPromise (calling (λ c s l r. bumps_inside c s) Enter) → ⊥
unfolding rules
enter_bumps_wrong h = apart epoch_of refl (h 1 none none no_log (machine (slot_with 1 one Nothing)) refl)

-- go on

go_on_forgets_wrong : GoOnPromise (calling (λ c s l r. forgets_epoch c s) GoOn) → ⊥
unfolding rules
go_on_forgets_wrong h = apart epoch_of refl (h 1 none none no_log (controlled gone (machine (slot_with 1 no_guards Restore))) refl)

-- the load is done, and opens no guard
go_on_idles_wrong : GoOnPromise (calling (idling (λ c. 0)) GoOn) → ⊥
unfolding rules
go_on_idles_wrong h = apart open_of refl (h 1 none none no_log (machine (slot_with 1 no_guards Load)) refl)

-- release

abbrev releasing : (ℕ → Slot → Slot) → ℕ → ℕ → List ℕ → List ℕ → List ℕ → State → Reply
releasing f i j = calling (λ c s l r. made_of c answer.Done 0 (f j s)) (Release j) i

release_bumps_wrong : ReleasePromise (releasing bumps_each) → ⊥
unfolding rules
release_bumps_wrong h = apart epoch_of refl (h 1 0 none none no_log (machine (slot_with 1 two Nothing)) refl)

release_adds_wrong : ReleasePromise (releasing adds_two) → ⊥
unfolding rules
release_adds_wrong h = apart epoch_of refl (h 1 0 none none no_log (machine (slot_with 1 one Nothing)) refl)

release_stops_wrong : ReleasePromise (releasing stops_at_end) → ⊥
unfolding rules
release_stops_wrong h = apart epoch_of refl (h 1 0 none none no_log (machine (slot_with (2 ^ 64 - 1) one Nothing)) refl)

-- look up: in the other copy, and in none

look_up_other_wrong : LookUpPromise (λ i j key l r. handle_rule i (LookUp j key) r l) → ⊥
unfolding rules
look_up_other_wrong h = apart value_of refl (h 1 0 7 seven right7 no_log (machine (slot_with 1 one Nothing)) refl)

look_up_none_wrong : LookUpPromise (λ i j key. calling (idling (λ c. 0)) (LookUp j key) i) → ⊥
unfolding rules
look_up_none_wrong h = apart value_of refl (h 1 0 7 seven right7 no_log (machine (slot_with 1 one Nothing)) refl)

-- was dropped: never

was_dropped_never_wrong : WasDroppedPromise (calling (idling (λ c. 0)) WasDropped) → ⊥
unfolding rules
was_dropped_never_wrong h = apart value_of refl (h 1 none none no_log (controlled gone (machine new_slot)) refl)

-- dropped is what is gone, and not what is null
was_dropped_late_wrong : WasDroppedPromise (calling (idling (λ c. bit (is_gone c.phase))) WasDropped) → ⊥
unfolding rules
was_dropped_late_wrong h = apart value_of refl (h 1 none none no_log (controlled finishing (machine new_slot)) refl)

-- ---- create

-- the snapshot of the slot that is handed out is cleared
abbrev clears_snapshot : List ℕ → List ℕ → List ℕ → State → Reply
clears_snapshot l r g st =
    let q = create_rule l r g st in
    elim (eqb (number q.answer) 0) [
      | true ↦
          record {
            answer = q.answer;
            value = q.value;
            state = snapped (set q.state.snapshots q.value 0) q.state;
          }
      | false ↦ q
    ]

create_clears_wrong : CreatePromise clears_snapshot → ⊥
unfolding rules
create_clears_wrong h =
    apart (λ q. get_or q.state.snapshots 1 0) refl
    (h none none no_log (snapped (replicate slot_count 5) fresh) refl)

-- judged as the rule has it, and then made of another slot or by another control part
abbrev creates : (State → ℕ) → (Control → Control) → List ℕ → List ℕ → List ℕ → State → Reply
creates which f l r g st =
    let i = which st in
    elim (judged st l r g)
    [ Ok _ ↦ reply_of i (create_on (with_free i (f st.control)) (slot_at st i)) st | Err a ↦ refusal a st ]

-- the lock does not matter
creates_locked_wrong : CreatePromise (creates (λ st. st.control.free) (standing Idle Publish)) → ⊥
unfolding rules
creates_locked_wrong h = apart answer_of refl (h none none no_log (controlled polling fresh) refl)

-- the lowest free slot is handed out, and not the one freed last
abbrev lowest : State → ℕ
lowest st = seek (λ i. not (slot_at st i).used) 0 slot_count

creates_lowest_wrong : CreatePromise (creates lowest (λ c. c)) → ⊥
unfolding rules
creates_lowest_wrong h = apart value_of refl (h none none no_log two_freed refl)

-- no slot is handed out
create_none_wrong : CreatePromise (λ l r g st. refusal answer.SlotsFull st) → ⊥
unfolding rules
create_none_wrong h = apart answer_of refl (h none none no_log fresh refl)

-- ---- a guard's view

-- the other copy is shown
view_other_wrong : ViewPromise (λ i j l r. view_rule i j r l) → ⊥
unfolding rules
view_other_wrong h = apart (word_at 3) refl (h 1 0 seven right7 no_log (machine (slot_with 1 one Nothing)) refl)

-- the empty table is shown always
view_empty_wrong : ViewPromise (λ i j l r g st. 0 ∷ 0 ∷ []) → ⊥
unfolding rules
view_empty_wrong h = apart length refl (h 1 0 seven right7 no_log (machine (slot_with 1 one Nothing)) refl)

-- a refused call shows the left copy
abbrev shows_refused : ℕ → ℕ → List ℕ → List ℕ → List ℕ → State → List ℕ
shows_refused i j l r g st = let v = view_rule i j l r g st in elim (eqb (length v) 0) [ true ↦ used_rule l | false ↦ v ]

view_refused_wrong : ViewPromise shows_refused → ⊥
unfolding rules
view_refused_wrong h = apart length refl (h 1 0 seven right7 no_log (machine new_slot) refl)

-- the pair is the other copy's
pair_other_wrong : PairPromise (λ i j key l r. pair_rule i j key r l) → ⊥
unfolding rules
pair_other_wrong h = apart (word_at 1) refl (h 1 0 7 seven right7 no_log (machine (slot_with 1 one Nothing)) refl)

-- no key is ever found
pair_none_wrong : PairPromise (λ i j key l r g st. []) → ⊥
unfolding rules
pair_none_wrong h = apart length refl (h 1 0 7 seven right7 no_log (machine (slot_with 1 one Nothing)) refl)

-- ---- start

-- a wrong length zeroes too
abbrev zeroes_always : List ℕ → List ℕ → List ℕ → Lent Reply
zeroes_always l r g = lent (start_rule l r g).made (zeros l) (zeros r) (zeros g)

zeroes_always_wrong : StartPromise zeroes_always → ⊥
unfolding rules
zeroes_always_wrong h = apart (λ q. word_at 2 q.left) refl (h seven right7 no_words refl)

-- nothing is zeroed
abbrev zeroes_never : List ℕ → List ℕ → List ℕ → Lent Reply
zeroes_never l r g = lent (start_rule l r g).made l r g

zeroes_never_wrong : StartPromise zeroes_never → ⊥
unfolding rules
zeroes_never_wrong h = apart (λ q. word_at 2 q.left) refl (h seven right7 no_log refl)
