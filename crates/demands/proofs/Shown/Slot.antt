-- One slot: every handle call keeps its view, and so does each step of the writer, as the slot sees it. No state is in sight.
use Prim.Native.Nat.{ℕ, zero, suc, ◌+◌, ◌%◌, ◌^◌, ◌≤◌, ◌<◌}
use mathlib.Core.Path.{◌≡◌, refl, sym, ap, subst, ◌∙◌}
use mathlib.Core.Bool.{Bool, true, false, not}
use mathlib.Core.List.{List}
use native.Mathlib.Decide.{ℕ_discrete}
use native.Mathlib.Omega.{arith}
use native.Mathlib.Nat.{le_refl}
use lib.ListN.{length}
use lib.Dec.{eqb}
use borrow.Author.Tests.{eq-eqb, not-false}
use Rattle.table.specs.Answers.{number}
use Rattle.table.specs.Order.{Op, empty, after}
use Rattle.table.proofs.Split.{by}
use Rattle.table.proofs.Booleans.{neither, clash, lacks_none, not_self}
use Rattle.table.proofs.Parity.{odd, odd_bumped, odd_twice, odd_zero}
use Rattle.read.specs.declared.Due.{Due}
use Rattle.read.specs.declared.Due.TheVariants.{Nothing, Load, Restore}
use Rattle.read.specs.declared.Guard.{Guard}
use Rattle.read.specs.declared.Slot.{Slot}
use Rattle.read.specs.declared.Control.{Control}
use Rattle.read.specs.declared.Handle.{Handle}
use Rattle.read.specs.declared.Handle.TheVariants.{Drop, Enter, GoOn, Release, LookUp, WasDropped}
use Rattle.read.specs.declared.Made.{Made}
use Rattle.read.specs.Machine.{open_on, with_reading, slot_count, guard_count, shut, is_open, stands_right, put_guard, first_guard, any_open, all_open, is_due, is_load, new_slot}
use Rattle.read.specs.Handles.{with_due, freed, guarded, loaded, entered, went_on, released, copy_of, mistimed, handled, handled_by}
use Rattle.read.specs.Admission.{column, entry, handle_number}
use Rattle.write.specs.Steps.{holds, seen, vacated}
use Rattle.demands.specs.Account.{with_at}
use Rattle.demands.proofs.Passed.{OnPassed}
use Rattle.demands.proofs.Shown.Invariant.{Shape, outside, announced, inside, Quiet, Reach, reach, before, firstly, Held, View}
use Rattle.demands.proofs.Shown.Guards.{same_at, other_at, all_shut, open_below, some_open, none_open, has_room, put_four, at_put}

-- ---- the shape

-- with a guard open a slot is inside
pub guard_inside : {s : Slot} → Shape s → (j : ℕ) → is_open s.guards j ≡ true → (s.used ≡ true) × (odd s.epoch ≡ true) × (is_due s.due ≡ false)
guard_inside {s} (outside a b e) j o = absurd (all_shut s.guards e j o)
guard_inside {s} (announced a b c e) j o = absurd (all_shut s.guards e j o)
guard_inside {s} (inside u d e a) j o = (u, d, e)

-- with nothing due and no guard open its epoch is even
pub at_rest : {s : Slot} → Shape s → is_due s.due ≡ false → any_open s.guards ≡ false → odd s.epoch ≡ false
at_rest (outside a b e) d o = a
at_rest (announced a b e q) d o = clash e d
at_rest (inside u d e a) q o = clash a o

-- with a guard open it is odd
occupied : {s : Slot} → Shape s → any_open s.guards ≡ true → odd s.epoch ≡ true
occupied (outside a b e) o = clash o e
occupied (announced a b e q) o = b
occupied (inside u d e a) o = d

-- with a step due it is odd, and no guard is open
waiting : {s : Slot} → Shape s → is_due s.due ≡ true → (odd s.epoch ≡ true) × (any_open s.guards ≡ false)
waiting (outside a b e) d = clash d b
waiting (announced a b e q) d = (b, q)
waiting (inside u d e a) q = clash q e

-- ---- the handle calls

-- what its guards loaded, after a handle call that was answered by number a with value v, where pb is published
abbrev pub row_done : Handle → ℕ → List Op → (ℕ → List Op) → ℕ → List Op
row_done Drop v pb f = f
row_done Enter v pb f = with_at v pb f
row_done GoOn v pb f = with_at v pb f
row_done (Release j) v pb f = f
row_done (LookUp j key) v pb f = f
row_done WasDropped v pb f = f

abbrev pub row_after : Handle → ℕ → ℕ → List Op → (ℕ → List Op) → ℕ → List Op
row_after h a v pb f = elim a [ zero ↦ row_done h v pb f | suc x ↦ f ]

module _ {right : Bool} {h : Reach} {i snap : ℕ} {l r : List ℕ} {f : ℕ → List Op} {s : Slot} where
  -- a slot with no guard open has only its shape to keep
  pub no_guards : length s.guards ≡ guard_count → Shape s → any_open s.guards ≡ false → View right h i snap l r f s
  no_guards n x e = record {
    four = n;
    shape = x;
    shows = λ j o. absurd (all_shut s.guards e j o);
    stale = λ j o q. absurd (all_shut s.guards e j o);
    waited = λ j o. absurd (all_shut s.guards e j o);
  }

-- what is said of guards that are not open does not matter
pub reload :
    {right : Bool} {h : Reach} {i snap : ℕ} {l r : List ℕ} {f g : ℕ → List Op} {s : Slot} → View right h i snap l r f s →
    ((j : ℕ) → is_open s.guards j ≡ true → f j ≡ g j) → View right h i snap l r g s
reload v e = record { four = v.four; shape = v.shape; shows = λ j o. v.shows j o ∙ ap (λ (os : List Op). after os empty) (e j o); stale = v.stale; waited = v.waited }

-- the writer's own slot after an append before the first swap
pub twice_view :
    {right : Bool} {h : Reach} {i snap : ℕ} {l r : List ℕ} {f : ℕ → List Op} {s : Slot} → View right h i snap l r f s → Quiet s →
    View right h i snap l r f (with_due ((s.epoch + 2) % 2 ^ 64) s.due s)
twice_view {s} v q =
    no_guards v.four (outside (odd_twice s.epoch ∙ at_rest v.shape q.idle q.alone) q.idle q.alone) q.alone

-- a handle that is given back at rest
pub freed_view :
    {right : Bool} {h : Reach} {i snap : ℕ} {l r : List ℕ} {f : ℕ → List Op} {s : Slot} (k : ℕ) → View right h i snap l r f s → Quiet s →
    View right h i snap l r f (freed k s)
freed_view k v q = no_guards v.four (outside (at_rest v.shape q.idle q.alone) q.idle q.alone) q.alone

-- the writer's own, at take's finish
pub vacated_view :
    {right : Bool} {h : Reach} {i snap : ℕ} {l r : List ℕ} {f : ℕ → List Op} {s : Slot} (k : ℕ) → View right h i snap l r f s → Quiet s →
    View right h i snap l r f (vacated k s)
vacated_view {right} {h} {i} {snap} {l} {r} {f} {s} k v q = by (View right h i snap l r f) s.used (λ _. freed_view k v q) (λ _. v)

pub new_view : {right : Bool} {h : Reach} {i snap : ℕ} {l r : List ℕ} {f : ℕ → List Op} → View right h i snap l r f new_slot
new_view = no_guards refl (outside odd_zero refl none_open) none_open

-- a load that finds a copy opens a guard on it, which shows what is published
pub guarded_view :
    {right : Bool} {h : Reach} {i snap : ℕ} {l r : List ℕ} {f : ℕ → List Op} {s : Slot} → View right h i snap l r f s → s.used ≡ true →
    odd s.epoch ≡ true → all_open s.guards ≡ false → (pb : List Op) → copy_of right l r ≡ after pb empty → Held h.emptied h.resnapped i snap s.epoch →
    View right h i snap l r (with_at (first_guard false s.guards) pb f) (guarded right s)
guarded_view {right} {h} {i} {snap} {l} {r} {f} {s} v u od room pb read new-held =
    let k : ℕ = first_guard false s.guards in
    let new : Guard = open_on right in
    let lt : k < guard_count = has_room s.guards room in
    record {
      four = put_four s.guards v.four k new lt;
      shape = inside u od refl
          (some_open (put_guard k new s.guards) k
          (at_put s.guards v.four k new lt (λ j a b. j ≡ k → a ≡ true) (λ _. refl) (λ j ne e. absurd (ne e)) k refl));
      shows = at_put s.guards v.four k new lt (λ j a b. a ≡ true → copy_of b l r ≡ after (with_at k pb f j) empty)
          (λ o. rw (same_at k pb f) read) (λ j ne o. rw (other_at k pb f j ne) (v.shows j o));
      stale = at_put s.guards v.four k new lt (λ j a b. a ≡ true → b ≡ not right → Held h.cleared h.snapped i snap s.epoch)
          (λ o q. not_self right q) (λ j ne. v.stale j);
      waited = at_put s.guards v.four k new lt (λ j a b. a ≡ true → Held h.emptied h.resnapped i snap s.epoch)
          (λ o. new-held) (λ j ne. v.waited j);
    }

-- a guard closes
pub released_view :
    {right : Bool} {h : Reach} {i snap : ℕ} {l r : List ℕ} {f : ℕ → List Op} {s : Slot} (j : ℕ) → View right h i snap l r f s →
    is_open s.guards j ≡ true → View right h i snap l r f (released j s)
released_view {right} {h} {i} {snap} {l} {r} {f} {s} j v o =
    let (u, od, du) = guard_inside v.shape j o in
    let lt : j < guard_count = open_below s.guards j o in
    let gs : List Guard = put_guard j shut s.guards in
    by (λ (e : ℕ). View right h i snap l r f (with_reading e gs s.due s)) (any_open gs)
    (λ q. record {
      four = put_four s.guards v.four j shut lt;
      shape = inside u od du q;
      shows = at_put s.guards v.four j shut lt (λ k a b. a ≡ true → copy_of b l r ≡ after (f k) empty)
          (λ z. clash z refl) (λ k ne. v.shows k);
      stale = at_put s.guards v.four j shut lt (λ k a b. a ≡ true → b ≡ not right → Held h.cleared h.snapped i snap s.epoch)
          (λ z. clash z refl) (λ k ne. v.stale k);
      waited = at_put s.guards v.four j shut lt (λ k a b. a ≡ true → Held h.emptied h.resnapped i snap s.epoch)
          (λ z. clash z refl) (λ k ne. v.waited k);
    })
    (λ q. no_guards (put_four s.guards v.four j shut lt) (outside (odd_bumped s.epoch ∙ ap not od) du q) q)

-- every handle call that is admitted keeps the view of its slot; pb is published
module _ (c : Control) {h : Reach} {i snap : ℕ} {l r : List ℕ} {f : ℕ → List Op} {s : Slot}
    (pb : List Op) (read : copy_of c.right l r ≡ after pb empty) (v : View c.right h i snap l r f s) (used : s.used ≡ true)
    (none : c.null ≡ false → Held h.emptied h.resnapped i snap s.epoch)
  where
    abbrev pub Kept : Handle → Made → Type 0
    Kept hd m = View c.right h i snap l r (row_after hd (number m.answer) m.value pb f) m.slot

    -- the load of an enter or a go on
    loaded_view :
        (hd : Handle) → row_done hd (first_guard false s.guards) pb f ≡ with_at (first_guard false s.guards) pb f → (d : Due) →
        odd s.epoch ≡ true → (c.null ≡ false → all_open s.guards ≡ false) →
        View c.right h i snap l r f (with_due s.epoch d s) → Kept hd (loaded c d s)
    loaded_view hd e d od room w =
        by (Kept hd) c.null (λ z. w) (λ z. rw e (guarded_view v used od (room z) pb read (none z)))

    entered_view : is_due s.due ≡ false → all_open s.guards ≡ false → Kept Enter (entered c s)
    entered_view d room =
        by (Kept Enter) (any_open s.guards) (λ e. loaded_view Enter refl s.due (occupied v.shape e) (λ _. room) v)
        (λ e. no_guards v.four (announced used (odd_bumped s.epoch ∙ ap not (at_rest v.shape d e)) refl e) e)

    went_on_view :
        (d : Due) → s.due ≡ d → is_due d ≡ true → (is_load d ≡ true → c.null ≡ false → all_open s.guards ≡ false) →
        Kept GoOn (went_on c d s)
    went_on_view Nothing e q room = clash q refl
    went_on_view Load e q room =
        let (od, sh) = waiting v.shape (rw e) in
        loaded_view GoOn refl Restore od (room refl) (no_guards v.four (announced used od refl sh) sh)
    went_on_view Restore e q room =
        let (od, sh) = waiting v.shape (rw e) in
        no_guards v.four (outside (odd_bumped s.epoch ∙ ap not od) refl sh) sh

    timely : (own : Bool) (hd : Handle) → OnPassed c own s hd → mistimed (handle_number hd) s.due ≡ false
    timely own hd u = (neither (eqb (entry c.phase (column hd own)) 6) _ u.timely).1

    pub handled_view : (own : Bool) (hd : Handle) → OnPassed c own s hd → Kept hd (handled c i s hd l r)
    unfolding handled_by
    handled_view own Drop u = freed_view c.free v (record { idle = timely own Drop u; alone = u.guards })
    handled_view own Enter u = entered_view (timely own Enter u) u.fewer
    handled_view own GoOn u = went_on_view s.due refl (not-false _ (timely own GoOn u)) (lacks_none _ _ _ u.fewer)
    handled_view own (Release j) u = released_view j v (not-false _ u.guard)
    handled_view own (LookUp j key) u = v
    handled_view own WasDropped u = v

-- ---- the writer's steps, as a slot sees them

-- slot i is no less waited for
pub record Within (i : ℕ) (a b : Reach) : Type 0 where
  pub cleared : a.cleared ≤ b.cleared
  pub snapped : i < a.snapped → i < b.snapped
  pub emptied : a.emptied ≤ b.emptied
  pub resnapped : i < a.resnapped → i < b.resnapped

pub within_same : {a b : Reach} → a ≡ b → (i : ℕ) → Within i a b
within_same {b = b} e i = subst (λ (x : Reach). Within i x b) (sym e) (record { cleared = le_refl _; snapped = λ z. z; emptied = le_refl _; resnapped = λ z. z })

pub within_firstly : (first : Bool) {i : ℕ} {a b : Reach} → Within i a b → Within i (firstly first a) (firstly first b)
within_firstly true w = record { cleared = le_refl slot_count; snapped = w.snapped; emptied = w.emptied; resnapped = w.resnapped }
within_firstly false w = w

module _ {right : Bool} {h : Reach} {i snap : ℕ} {l r : List ℕ} {f : ℕ → List Op} {s : Slot} (v : View right h i snap l r f s) where
  -- no guard stands on the write copy
  abbrev pub Clear : Type 0
  Clear = (j : ℕ) → is_open s.guards j ≡ true → stands_right s.guards j ≡ not right → ⊥

  -- less is claimed of the guards
  pub weaken : {a : Reach} → Within i a h → View right a i snap l r f s
  weaken w = record {
    four = v.four;
    shape = v.shape;
    shows = v.shows;
    stale = λ j o e. let (x, y) = v.stale j o e in (omega (arith, w.cleared), λ z. y (w.snapped z));
    waited = λ j o. let (x, y) = v.waited j o in (omega (arith, w.emptied), λ z. y (w.resnapped z));
  }

  -- the write copy may change where no guard stands on it
  pub written_view : {l' r' : List ℕ} → Clear → copy_of right l' r' ≡ copy_of right l r → View right h i snap l' r' f s
  written_view {l'} {r'} x e = record {
    four = v.four;
    shape = v.shape;
    stale = v.stale;
    waited = v.waited;
    shows = λ j o. side (stands_right s.guards j) right (λ q. rw q (e ∙ (rw q at (v.shows j o)))) (λ q. absurd (x j o q));
  }
    where
      side : {C : Type 0} (a b : Bool) → (a ≡ b → C) → (a ≡ not b → C) → C
      side true true f g = f refl
      side true false f g = g refl
      side false true f g = g refl
      side false false f g = f refl

  -- the pointer changes side: no slot is cleared, and none snapped
  pub turned_view : View (not right) (before 0 0) i snap l r f s
  turned_view = record {
    four = v.four;
    shape = v.shape;
    shows = v.shows;
    stale = λ j o e. (omega arith, λ z. absurd (omega arith));
    waited = λ j o. (omega arith, λ z. absurd (omega arith));
  }

  -- the snapshot of the slot, whatever was snapped before
  pub snapped_view : {a : Reach} → a.cleared ≤ h.cleared → a.emptied ≤ h.emptied → View right a i (seen s snap) l r f s
  snapped_view c e = record {
    four = v.four;
    shape = v.shape;
    shows = v.shows;
    stale = λ j o q. (omega (arith, (v.stale j o q).0), λ z. found j o);
    waited = λ j o. (omega (arith, (v.waited j o).0), λ z. found j o);
  }
    where
      found : (j : ℕ) → is_open s.guards j ≡ true → seen s snap ≡ s.epoch
      found j o = rw ((guard_inside v.shape j o).0, seen) refl

  -- the poll of slot k, which is not held, finds no guard that a snapshot knows
  pub passed_held :
      {k n : ℕ} → k < n → (i ≡ k → holds s snap ≡ false) → (j : ℕ) → is_open s.guards j ≡ true → Held k n i snap s.epoch →
      Held (k + 1) n i snap s.epoch
  unfolding odd
  passed_held {k} lt p j o (c, q) = elim (ℕ_discrete i k) [
    | yes e ↦ let (u, od, du) = guard_inside v.shape j o in
        clash {b = holds s snap} (rw (q (omega arith), u, od, eq-eqb s.epoch s.epoch refl)) (p e)
    | no ne ↦ (omega arith, q)
  ]

-- the poll of slot k; g: what comes of what is said of all guards
pub polled_view :
    {right : Bool} {i k m x y snap : ℕ} {l r : List ℕ} {f : ℕ → List Op} {s : Slot} (first : Bool) →
    View right (firstly first (reach k slot_count x y)) i snap l r f s → k < slot_count → (i ≡ k → holds s snap ≡ false) →
    ((j : ℕ) → is_open s.guards j ≡ true → Held x y i snap s.epoch → Held m y i snap s.epoch) →
    View right (firstly first (reach (k + 1) slot_count m y)) i snap l r f s
polled_view true v lt p g = record { four = v.four; shape = v.shape; shows = v.shows; stale = v.stale; waited = λ j o. g j o (v.waited j o) }
polled_view false v lt p g = record {
  four = v.four;
  shape = v.shape;
  shows = v.shows;
  stale = λ j o e. passed_held v lt p j o (v.stale j o e);
  waited = λ j o. g j o (v.waited j o);
}
