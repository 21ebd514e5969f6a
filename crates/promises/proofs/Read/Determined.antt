-- Each public contract determines what comes back and every lent word: any two results that it allows are equal.
-- `Post` is the contract itself, as the check reads it from the source: of the arguments a, the result and the parameters at exit.
use mathlib.Core.Path.{◌≡◌, sym, ap, ◌∙◌}
use Rattle.read.specs.declared.Reply.{Reply}
use Rattle.read.specs.Calls.{Lent}
use Rattle.read.proofs.Inner as inner
use Rattle.machine.proofs.Inner as within
use Rattle.read.proofs.truth.either.Reads as either
use Rattle.read.proofs.truth.same.Reads as same
use Rattle.read.proofs.handles.guarded_copy.Reads as guarded_copy
use Rattle.read.proofs.fresh_state.Reads as fresh_state
use Rattle.read.proofs.slot_at.Reads as slot_at
use Rattle.read.proofs.handles.verdict.Reads as verdict
use Rattle.read.proofs.admission.row.Reads as admission_row
use Rattle.read.proofs.admission.entry.Reads as admission_entry
use Rattle.read.proofs.guards.is_open.Reads as guards_is_open
use Rattle.read.proofs.guards.any_open.Reads as guards_any_open
use Rattle.read.proofs.guards.is_due.Reads as guards_is_due
use Rattle.read.proofs.guards.freed.Reads as guards_freed
use Rattle.read.proofs.guards.released.Reads as guards_released
use Rattle.read.proofs.handles.sign.Reads as sign
use Rattle.read.proofs.handles.smallest.Reads as smallest
use Rattle.read.proofs.admission.locks.Reads as locks
use Rattle.machine.proofs.start.Reads as start
use Rattle.machine.proofs.create.Reads as create
use Rattle.machine.proofs.drop.Reads as drop
use Rattle.machine.proofs.enter.Reads as enter
use Rattle.machine.proofs.go_on.Reads as go_on
use Rattle.read.proofs.handles.handle_by.Reads as handles_handle_by
use Rattle.read.proofs.handles.create.Reads as handles_create
use Rattle.read.proofs.order.orderly.Reads as orderly
use Rattle.machine.proofs.release.Reads as release
use Rattle.machine.proofs.look_up.Reads as look_up
use Rattle.machine.proofs.was_dropped.Reads as was_dropped
use Rattle.machine.proofs.view.Reads as view
use Rattle.machine.proofs.pair.Reads as pair
use mathlib.Core.Bool.{Bool}
use mathlib.Core.List.{List, ◌∷◌}
use Rattle.table.specs.declared.Answer.{Answer}
use Rattle.table.specs.declared.Search.TheVariants.{Walk}
use Rattle.read.specs.declared.Sign.{Sign}
use Rattle.read.specs.Handles.{sign as signed}
use Rattle.promises.proofs.Contracts.{ref, Determines, DeterminesWords}

fresh_state_determined : Determines fresh_state.Post
fresh_state_determined κs a r q s t h l = h ∙ sym l

slot_at_determined : Determines slot_at.Post
slot_at_determined κs a r q s t h l = h ∙ sym l

verdict_determined : Determines verdict.Post
verdict_determined κs a r q s t h l = h ∙ sym l

admission_row_determined : Determines admission_row.Post
admission_row_determined κs a r q s t h l = h ∙ sym l

admission_entry_determined : Determines admission_entry.Post
admission_entry_determined κs a r q s t h l = h ∙ sym l

guards_first_guard_determined : Determines (inner.first_guard).post
guards_first_guard_determined κs a r q s t h l = h ∙ sym l

guards_is_open_determined : Determines guards_is_open.Post
guards_is_open_determined κs a r q s t h l = h ∙ sym l

guards_any_open_determined : Determines guards_any_open.Post
guards_any_open_determined κs a r q s t h l = h ∙ sym l

guards_all_open_determined : Determines (inner.all_open).post
guards_all_open_determined κs a r q s t h l = h ∙ sym l

guards_is_due_determined : Determines guards_is_due.Post
guards_is_due_determined κs a r q s t h l = h ∙ sym l

guards_is_load_determined : Determines (inner.is_load).post
guards_is_load_determined κs a r q s t h l = h ∙ sym l

guards_no_slot_determined : Determines (inner.no_slot).post
guards_no_slot_determined κs a r q s t h l = h ∙ sym l

guards_new_slot_determined : Determines (inner.new_slot).post
guards_new_slot_determined κs a r q s t h l = h ∙ sym l

guards_freed_determined : Determines guards_freed.Post
guards_freed_determined κs a r q s t h l = h ∙ sym l

guards_entered_determined : Determines (inner.entered).post
guards_entered_determined κs a r q s t h l = h ∙ sym l

guards_went_on_determined : Determines (inner.went_on).post
guards_went_on_determined κs a r q s t h l = h ∙ sym l

guards_released_determined : Determines guards_released.Post
guards_released_determined κs a r q s t h l = h ∙ sym l

handles_guarded_copy_determined : DeterminesWords guarded_copy.Post
handles_guarded_copy_determined κs a r q s t h l = h ∙ sym l

sign_determined : Determines sign.Post
sign_determined κs a r q s t h l = h ∙ sym l

smallest_determined : Determines smallest.Post
smallest_determined κs a r q s t h l = h ∙ sym l

-- a sign before others
given_determined :
    (κs : _) (b : Bool) (a : Answer) (xs : List Sign) (r q : _) (s t : _) →
    smallest.Post κs (ref (signed a b ∷ xs), tt) r s → smallest.Post κs (ref (signed a b ∷ xs), tt) q t → r ≡ q
given_determined κs b a xs = smallest_determined κs (ref (signed a b ∷ xs), tt)

either_determined : Determines either.Post
either_determined κs a r q s t h l = h ∙ sym l

same_determined : Determines same.Post
same_determined κs a r q s t h l = h ∙ sym l

locks_determined : Determines locks.Post
locks_determined κs a r q s t h l = h ∙ sym l

sized_determined : Determines (within.sized).post
sized_determined κs a r q s t h l = h ∙ sym l

judge_determined : Determines (within.judge).post
judge_determined κs a r q s t h l = h ∙ sym l

-- the answer with its state, and the three slices
start_determined :
    (κs : _) (a : _) (r q : _) (s t : _) → start.Post κs a r s → start.Post κs a q t →
    (r ≡ q) × (s.0.now ≡ t.0.now) × (s.1.0.now ≡ t.1.0.now) × (s.1.1.0.now ≡ t.1.1.0.now)
start_determined κs a r q s t h l =
    (ap (λ (z : Lent Reply). z.made) (h ∙ sym l), ap (λ (z : Lent Reply). z.left) (h ∙ sym l), ap (λ (z : Lent Reply). z.right) (h ∙ sym l), ap (λ (z : Lent Reply). z.log) (h ∙ sym l))

create_determined : Determines create.Post
create_determined κs a r q s t h l = h ∙ sym l

drop_determined : Determines drop.Post
drop_determined κs a r q s t h l = h ∙ sym l

enter_determined : Determines enter.Post
enter_determined κs a r q s t h l = h ∙ sym l

go_on_determined : Determines go_on.Post
go_on_determined κs a r q s t h l = h ∙ sym l

handles_handle_by_determined : Determines handles_handle_by.Post
handles_handle_by_determined κs a r q s t h l = h ∙ sym l

-- in any words
handles_handle_determined :
    (κs : _) (a : _) (r q : _) (s t : _) → handles_handle_by.Post κs (Walk, a) r s → handles_handle_by.Post κs (Walk, a) q t → r ≡ q
handles_handle_determined κs a = handles_handle_by_determined κs (Walk, a)

handles_create_determined : Determines handles_create.Post
handles_create_determined κs a r q s t h l = h ∙ sym l

orderly_determined : Determines orderly.Post
orderly_determined κs a r q s t h l = h ∙ sym l

on_handle_determined : Determines (within.on_handle).post
on_handle_determined κs a r q s t h l = h ∙ sym l

release_determined : Determines release.Post
release_determined κs a r q s t h l = h ∙ sym l

look_up_determined : Determines look_up.Post
look_up_determined κs a r q s t h l = h ∙ sym l

was_dropped_determined : Determines was_dropped.Post
was_dropped_determined κs a r q s t h l = h ∙ sym l

view_determined : DeterminesWords view.Post
view_determined κs a r q s t h l = h ∙ sym l

pair_determined : DeterminesWords pair.Post
pair_determined κs a r q s t h l = h ∙ sym l
