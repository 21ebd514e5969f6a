-- What the calls on a handle, append and the beginnings do keeps the invariant.
use Prim.Native.Nat.{ℕ, ◌+◌, ◌%◌, ◌^◌, ◌≤◌}
use mathlib.Core.Path.{◌≡◌, refl, sym, ap, ◌∙◌, subst, subst₂}
use mathlib.Core.Bool.{Bool, true, false, not}
use mathlib.Core.List.{List, ◌++◌}
use native.Mathlib.Omega.{arith}
use lib.ListN.{length}
use lib.Dec.{eqb}
use borrow.Author.Tests.{eq-eqb, not-false}
use Rattle.table.specs.declared.Search.TheVariants.{Walk}
use Rattle.table.specs.Order.{Op, after}
use Rattle.table.proofs.Booleans.{neither, clash}
use Rattle.read.specs.declared.Phase.{Phase}
use Rattle.read.specs.declared.Phase.TheVariants.{Idle}
use Rattle.read.specs.declared.Job.{Job}
use Rattle.read.specs.declared.Slot.{Slot}
use Rattle.read.specs.declared.Handle.{Handle}
use Rattle.read.specs.declared.Handle.TheVariants.{Drop, Enter, GoOn, Release, LookUp, WasDropped}
use Rattle.read.specs.declared.Job.TheVariants as job
use Rattle.read.specs.Machine.{log_room, underway, is_gone}
use Rattle.read.specs.Admission.{column, entry, not_now}
use Rattle.read.specs.Handles.{with_due}
use Rattle.read.specs.Calls.{slot_at}
use Rattle.read.proofs.Phases.{gone_is}
use Rattle.write.specs.Steps.{polling, at, with_log}
use Rattle.write.specs.Begins.{taking, all_lawful, operated_all, logged_all, append_first, append_later, begun}
use Rattle.write.specs.Runs.{snap_at, lift}
use Rattle.write.specs.World.{World, world_of}
use Rattle.write.proofs.Control.{some_slot}
use Rattle.write.proofs.Cases.{with_job}
use Rattle.demands.proofs.Passed.{OnPassed}
use Rattle.demands.proofs.Sides.{read_copy, write_copy}
use Rattle.demands.proofs.Shown.Invariant.{Seen, sight, Quiet, Stage, Inv, ops_of, reach_at, firstly, or_all}
use Rattle.demands.proofs.Shown.Slot.{within_same, twice_view, weaken}
use Rattle.demands.proofs.Shown.Unused.{clear_logged_all}
use Rattle.demands.proofs.Shown.Log.{length_ops, ops_logged_all, all_made}
use Rattle.demands.proofs.Shown.Stages.{Begins, begins_polling, begins_beginning, begins_taking, stage_polling, stage_beginning, begin_stage, take_stage, log_stage, apply_stage}
use Rattle.demands.proofs.Shown.Lifts.{ctl, world, with_control, slot_back, snap_back, StageIn, snap_back_lem, both_back, slot_keeps, control_keeps, write_keeps}
use Rattle.demands.proofs.Sound.{Firm, firm_slot}
use Rattle.demands.proofs.Shown.Steps.{fit_write}

-- ---- slot 0 is left alone while a call of the writer is under way

gone_rests : (p : Phase) → is_gone p ≡ true → underway p ≡ false
gone_rests p g = ap underway (gone_is p g)

in_time : (b : Bool) → eqb (not_now b) 6 ≡ false → b ≡ false
in_time true e = clash refl e
in_time false e = refl

own_rests : (p : Phase) (h : Handle) → eqb (entry p (column h true)) 6 ≡ false → underway p ≡ false
unfolding entry
own_rests p Drop e = gone_rests p (not-false _ (in_time (not (is_gone p)) e))
own_rests p Enter e = in_time (underway p) e
own_rests p GoOn e = in_time (underway p) e
own_rests p (Release j) e = in_time (underway p) e
own_rests p (LookUp j key) e = in_time (underway p) e
own_rests p WasDropped e = in_time (underway p) e

module _ {w : World} {t : Seen} (sound : Firm w) (inv : Inv w t) where
  -- slot 0 is not called on while a call of the writer is under way
  pub own_quiet : (i : ℕ) (h : Handle) (s : Slot) → OnPassed (ctl w) (eqb i 0) (slot_at w.state i) h → i ≡ 0 → underway (ctl w).phase ≡ true → Quiet s
  own_quiet i h s u z r =
      clash r
      (own_rests (ctl w).phase h
      (subst (λ (b : Bool). eqb (entry (ctl w).phase (column h b)) 6 ≡ false) (eq-eqb i 0 z)
      (neither (eqb (entry (ctl w).phase (column h (eqb i 0))) 6) _ u.timely).0))

  -- ---- the writer's calls that are made at once

  -- in phase Idle, with slot 0 at rest
  pub record Resting : Type 0 where
    pub idle : (ctl w).phase ≡ Idle
    pub quiet : Quiet (slot_at w.state 0)

  stage_idle : (ctl w).phase ≡ Idle → StageIn w t Idle (ctl w).job
  stage_idle e = subst (λ (q : Phase). StageIn w t q (ctl w).job) e inv.stage

  module _ (rest : Resting) where
    not_underway : {C : Type 0} → underway (ctl w).phase ≡ true → C
    not_underway u = clash u (ap underway rest.idle)

    module _ (os : List Op) where
      abbrev grown : Seen
      grown = sight (t.accepted ++ os) t.at_begin t.published t.loaded

      pub first_keeps :
          (ctl w).first ≡ true → all_lawful os ≡ true →
          Inv (world_of (lift 0 w.state (append_first Walk os (ctl w) (slot_at w.state 0) (snap_at w.state 0) w.left w.right w.log))) grown
      first_keeps q law =
          let s = slot_at w.state 0 in
          let h = slot_keeps sound inv 0 some_slot (with_due ((s.epoch + 2) % 2 ^ 64) s.due s) t.loaded (λ k ne. refl) (λ _ u. not_underway u)
          (twice_view (inv.each 0) rest.quiet) in
          snap_back_lem 0 _
          (write_keeps (firm_slot 0 _ sound) h (operated_all os) (after os (write_copy w)) (all_made os (write_copy w) law (fit_write sound inv))
          inv.unused (ap (λ (f : Bool). or_all f (reach_at (ctl w).phase).cleared) q) (within_same refl)
          (λ u. not_underway u) (λ u. not_underway u)
          (subst
          (λ (p : Phase). Stage p (ctl w).job (ctl w).second (ctl w).swapped (ops_of w) (read_copy w) (after os (write_copy w)) (t.accepted ++ os) t.published (ctl w).first)
          (sym rest.idle) (apply_stage os q (stage_idle rest.idle)))
          inv.spent)

      pub later_keeps :
          (ctl w).first ≡ false → (ctl w).length + length os ≤ log_room →
          Inv (world_of (lift 0 w.state (append_later os (ctl w) (slot_at w.state 0) (snap_at w.state 0) w.left w.right w.log))) grown
      later_keeps q lt =
          let n = (ctl w).length in
          let g = logged_all n os w.log in
          both_back 0
          (world (with_log (n + length os) (ctl w).swapped (ctl w)) w.state.slots w.state.snapshots w.left w.right g)
          (record {
            each = inv.each;
            own = λ u. not_underway u;
            read = inv.read;
            at_begin = λ u. not_underway u;
            stage = subst₂
                (λ (p : Phase) (ls : List Op). Stage p (ctl w).job (ctl w).second (ctl w).swapped ls (read_copy w) (write_copy w) (t.accepted ++ os) t.published (ctl w).first)
                (sym rest.idle) (sym (ops_logged_all os n w.log lt sound.good.words.log))
                (log_stage os q (omega (arith, sound.good.whole.within, length_ops n 0 w.log)) (stage_idle rest.idle));
            unused = clear_logged_all os n w.log inv.unused;
            spent = λ z. clash z (ap is_gone rest.idle);
          })

    -- a publish, a try or a take begins
    abbrev begins : Seen
    begins = sight t.accepted t.accepted t.published t.loaded

    open_step :
        {j : Job} {q : Phase} → Begins (ctl w) q → StageIn w t q j →
        Inv (snap_back 0 (slot_back 0 (with_control (at q (with_job j (ctl w))) w))) begins
    open_step b stg =
        both_back 0 _ (control_keeps sound inv
        (λ i. weaken (inv.each i) (within_same (b.at ∙ ap (λ (p : Phase). firstly (ctl w).first (reach_at p)) (sym rest.idle)) i))
        (λ _. rest.quiet) (λ _. refl) b.stays stg)

    ln : length (ops_of w) ≡ (ctl w).length
    ln = length_ops (ctl w).length 0 w.log

    pub publish_keeps : Inv (snap_back 0 (slot_back 0 (with_control (begun (ctl w)) w))) begins
    publish_keeps =
        open_step (begins_beginning (ctl w)) (stage_beginning (with_job job.Publish (ctl w)) ln (begin_stage refl (stage_idle rest.idle)))

    pub try_keeps : Inv (snap_back 0 (slot_back 0 (with_control (at (polling (ctl w) 0) (with_job job.Try (ctl w))) w))) begins
    try_keeps =
        open_step (begins_polling (ctl w)) (stage_polling (with_job job.Try (ctl w)) 0 ln (begin_stage refl (stage_idle rest.idle)))

    pub take_keeps : Inv (snap_back 0 (slot_back 0 (with_control (at (taking (ctl w)) (with_job job.TakeFirst (ctl w))) w))) begins
    take_keeps = open_step (begins_taking (ctl w)) (take_stage (ctl w) ln (stage_idle rest.idle))
