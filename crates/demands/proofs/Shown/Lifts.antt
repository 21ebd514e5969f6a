-- Where the two halves of the invariant meet: what a change of one slot, of the control part, of the write copy or of a snapshot
-- leaves of it.
use Prim.Native.Nat.{ℕ, ◌≤◌, ◌<◌}
use mathlib.Core.Path.{◌≡◌, refl, sym, ap, ◌∙◌, subst, subst₂}
use mathlib.Core.Logic.{◌≢◌}
use mathlib.Core.Bool.{Bool, true, false, not}
use mathlib.Core.List.{List}
use native.Mathlib.Omega.{arith}
use native.Mathlib.Nat.{le_refl}
use lib.ListN.{length, get_or, set, replicate, get_or-eq_default}
use lib.Seq.{set-get_or}
use Rattle.table.specs.Order.{Op}
use Rattle.table.proofs.Booleans.{clash}
use Rattle.table.proofs.Lists.{at_set}
use Rattle.read.specs.declared.Phase.{Phase}
use Rattle.read.specs.declared.Phase.TheVariants.{Gone}
use Rattle.read.specs.declared.Job.{Job}
use Rattle.read.specs.declared.Slot.{Slot}
use Rattle.read.specs.declared.Control.{Control}
use Rattle.read.specs.Machine.{slot_count, no_slot, no_guards, log_words, with_free, is_open, underway, is_gone}
use Rattle.read.specs.Handles.{copy_of}
use Rattle.read.specs.Calls.{slot_at}
use Rattle.write.specs.Steps.{of_left, of_right, seen}
use Rattle.write.specs.Runs.{snap_at}
use Rattle.write.specs.World.{World}
use Rattle.demands.proofs.Sound.{Firm}
use Rattle.demands.proofs.Sides.{read_copy, write_copy}
use Rattle.demands.proofs.Shown.Invariant.{Seen, sight, Quiet, Reach, reach_at, or_all, firstly, View, ViewOf, ClearLog, Stage, Inv, ops_from, ops_of}
use Rattle.demands.proofs.Shown.Guards.{all_shut, none_open}
use Rattle.demands.proofs.Shown.Stages.{Stands, steered, onward}
use Rattle.demands.proofs.Shown.Slot.{Within, within_firstly, weaken, written_view, snapped_view}
use Rattle.read.proofs.Cases.{state_of}

abbrev pub ctl : World → Control
ctl w = w.state.control

-- a world by its parts
abbrev pub world : Control → List Slot → List ℕ → List ℕ → List ℕ → List ℕ → World
world c ss es l r g = record { state = state_of c ss es; left = l; right = r; log = g }

abbrev pub with_control : Control → World → World
with_control c w = world c w.state.slots w.state.snapshots w.left w.right w.log

abbrev pub at_slot : ℕ → Slot → World → World
at_slot i s w = world (ctl w) (set w.state.slots i s) w.state.snapshots w.left w.right w.log

abbrev pub snap_to : ℕ → ℕ → World → World
snap_to i e w = world (ctl w) w.state.slots (set w.state.snapshots i e) w.left w.right w.log

-- the copy that the pointer does not name becomes what f makes of it
abbrev pub wrote : Control → (List ℕ → List ℕ) → List ℕ → World → World
wrote c f g w = world c w.state.slots w.state.snapshots (of_left (ctl w).right f w.left) (of_right (ctl w).right f w.right) g

-- slot i, and its snapshot, put back as they were
abbrev pub slot_back : ℕ → World → World
slot_back i w = at_slot i (slot_at w.state i) w

abbrev pub snap_back : ℕ → World → World
snap_back i w = snap_to i (snap_at w.state i) w

pub slot_back_lem : (i : ℕ) (w : World) {t : Seen} → Inv w t → Inv (slot_back i w) t
slot_back_lem i w {t} h =
    subst (λ (ss : List Slot). Inv (world (ctl w) ss w.state.snapshots w.left w.right w.log) t) (sym (set-get_or w.state.slots i no_slot)) h

pub snap_back_lem : (i : ℕ) (w : World) {t : Seen} → Inv w t → Inv (snap_back i w) t
snap_back_lem i w {t} h =
    subst (λ (es : List ℕ). Inv (world (ctl w) w.state.slots es w.left w.right w.log) t) (sym (set-get_or w.state.snapshots i 0)) h

pub both_back : (i : ℕ) (w : World) {t : Seen} → Inv w t → Inv (snap_back i (slot_back i w)) t
both_back i w h = snap_back_lem i (slot_back i w) (slot_back_lem i w h)

-- another slot that is handed out next: no part of the invariant speaks of it
pub free_keeps : {w : World} {t : Seen} (k : ℕ) → Inv w t → Inv (with_control (with_free k (ctl w)) w) t
free_keeps k h =
    record {
      each = h.each;
      own = h.own;
      read = h.read;
      at_begin = h.at_begin;
      stage = h.stage;
      unused = h.unused;
      spent = h.spent;
    }

-- ---- the copies

read_same : (b : Bool) (f : List ℕ → List ℕ) (l r : List ℕ) → copy_of b (of_left b f l) (of_right b f r) ≡ copy_of b l r
read_same true f l r = refl
read_same false f l r = refl

write_new : (b : Bool) (f : List ℕ → List ℕ) (l r : List ℕ) → copy_of (not b) (of_left b f l) (of_right b f r) ≡ f (copy_of (not b) l r)
write_new true f l r = refl
write_new false f l r = refl

-- ---- the lifts

-- slot i, where the writer has come so far
abbrev pub ViewAs : World → Seen → Reach → ℕ → Type 0
ViewAs w t h i =
    View (ctl w).right (firstly (ctl w).first h) i (snap_at w.state i) w.left w.right (t.loaded i) (slot_at w.state i)

-- the log and the copies, where the writer stands in phase p with job j
abbrev pub StageIn : World → Seen → Phase → Job → Type 0
StageIn w t p j =
    Stage p j (ctl w).second (ctl w).swapped (ops_of w) (read_copy w) (write_copy w) t.accepted t.published (ctl w).first

module _ {w : World} {t : Seen} (sound : Firm w) (inv : Inv w t) where
  -- a slot that is not there has no guard
  no_guard : (i j : ℕ) → is_open (slot_at w.state i).guards j ≡ true → slot_count ≤ i → ⊥
  no_guard i j o le =
      let far : length w.state.slots ≤ i = omega (arith, sound.slots) in
      all_shut no_guards none_open j
      (subst (λ (s : Slot). is_open s.guards j ≡ true) (get_or-eq_default w.state.slots no_slot far) o)

  -- a take that has finished has waited for every slot
  pub gone_shut : (ctl w).phase ≡ Gone → (i j : ℕ) → is_open (slot_at w.state i).guards j ≡ true → ⊥
  gone_shut e i j o =
      let q : (reach_at (ctl w).phase).emptied ≡ slot_count = ap (λ (p : Phase). (reach_at p).emptied) e in
      no_guard i j o (omega (arith, ((inv.each i).waited j o).0))

  -- a call that changes slot i alone
  pub slot_keeps :
      (i : ℕ) → i < slot_count → (s : Slot) (ld : ℕ → ℕ → List Op) → ((k : ℕ) → k ≢ i → ld k ≡ t.loaded k) →
      (i ≡ 0 → underway (ctl w).phase ≡ true → Quiet s) → ViewOf w i (ld i) s → Inv (at_slot i s w) (sight t.accepted t.at_begin t.published ld)
  slot_keeps i lt s ld same quiet v =
      let lt' : i < length w.state.slots = omega (arith, sound.slots) in
      record {
        each = at_set (λ k x. ViewOf w k (ld k) x) w.state.slots i s no_slot lt' v
            (λ k ne. subst (λ (f : ℕ → List Op). ViewOf w k f (slot_at w.state k)) (sym (same k ne)) (inv.each k));
        own = at_set (λ k x. k ≡ 0 → underway (ctl w).phase ≡ true → Quiet x) w.state.slots i s no_slot lt' quiet
            (λ k ne z. subst (λ (n : ℕ). underway (ctl w).phase ≡ true → Quiet (slot_at w.state n)) (sym z) inv.own) 0 refl;
        read = inv.read;
        at_begin = inv.at_begin;
        stage = inv.stage;
        unused = inv.unused;
        spent = inv.spent;
      }

  -- a change of phase and job
  pub control_keeps :
      {null lock : Bool} {p : Phase} {j : Job} {bg : List Op} → ((i : ℕ) → ViewAs w t (reach_at p) i) →
      (underway p ≡ true → Quiet (slot_at w.state 0)) → (underway p ≡ true → bg ≡ t.accepted) → is_gone p ≡ false →
      StageIn w t p j → Inv (with_control (onward null lock p j (ctl w)) w) (sight t.accepted bg t.published t.loaded)
  control_keeps v quiet bg stays stg = record {
    each = v;
    own = quiet;
    read = inv.read;
    at_begin = bg;
    stage = stg;
    unused = inv.unused;
    spent = λ z. clash z stays;
  }

  -- a change of the write copy by f, to x, where no guard stands on it
  pub write_keeps :
      {null lock second : Bool} {p : Phase} {j : Job} {n s : ℕ} {g : List ℕ} (f : List ℕ → List ℕ) (x : List ℕ) {acc : List Op} →
      f (write_copy w) ≡ x → ClearLog n g → or_all (ctl w).first (reach_at (ctl w).phase).cleared ≡ slot_count →
      ((i : ℕ) → Within i (firstly (ctl w).first (reach_at p)) (firstly (ctl w).first (reach_at (ctl w).phase))) →
      (underway p ≡ true → Quiet (slot_at w.state 0)) → (underway p ≡ true → t.at_begin ≡ acc) →
      Stage p j second s (ops_from n 0 g) (read_copy w) x acc t.published (ctl w).first →
      (is_gone p ≡ true → g ≡ replicate log_words 0) →
      Inv (wrote (steered null lock second p j n s (ctl w)) f g w) (sight acc t.at_begin t.published t.loaded)
  write_keeps {null} {lock} {second} {p} {j} {n} {s} {g} f x {acc} e clear h in_reach quiet bg stg spent =
      let same = read_same (ctl w).right f w.left w.right in
      let new = write_new (ctl w).right f w.left w.right ∙ e in
      record {
        each = λ i. weaken (written_view (inv.each i) (λ j o q. no_guard i j o (omega (arith, ((inv.each i).stale j o q).0))) same) (in_reach i);
        own = quiet;
        read = same ∙ inv.read;
        at_begin = bg;
        spent = spent;
        unused = clear;
        stage = subst₂ (λ (y z : List ℕ). Stage p j second s (ops_from n 0 g) y z acc t.published (ctl w).first) (sym same) (sym new) stg;
      }

  -- the snapshot of slot k
  pub snap_keeps :
      {null lock : Bool} {p : Phase} {j : Job} {h : Reach} (k : ℕ) → k < slot_count → Stands h p → h.cleared ≡ 0 → h.emptied ≡ 0 →
      ((i : ℕ) → i ≢ k → Within i h (reach_at (ctl w).phase)) →
      (underway p ≡ true → Quiet (slot_at w.state 0)) → (underway p ≡ true → t.at_begin ≡ t.accepted) → StageIn w t p j →
      Inv (snap_to k (seen (slot_at w.state k) (snap_at w.state k)) (with_control (onward null lock p j (ctl w)) w)) t
  snap_keeps {p = p} {h = h} k lt b c e in_reach quiet bg stg = record {
    each = subst
        (λ (a : Reach). (i : ℕ) → View (ctl w).right (firstly (ctl w).first a) i (get_or (set w.state.snapshots k new) i 0) w.left w.right (t.loaded i) (slot_at w.state i))
        (sym b.at)
        (at_set (λ i x. View (ctl w).right (firstly (ctl w).first h) i x w.left w.right (t.loaded i) (slot_at w.state i))
        w.state.snapshots k new 0 (omega (arith, sound.snapshots))
        (snapped_view (inv.each k) (less (ctl w).first) (omega arith)) (λ i ne. weaken (inv.each i) (within_firstly (ctl w).first (in_reach i ne))));
    own = quiet;
    read = inv.read;
    at_begin = bg;
    stage = stg;
    unused = inv.unused;
    spent = λ z. clash z b.stays;
  }
    where
      new : ℕ
      new = seen (slot_at w.state k) (snap_at w.state k)

      less : (f : Bool) → or_all f h.cleared ≤ or_all f (reach_at (ctl w).phase).cleared
      less true = le_refl slot_count
      less false = omega arith
