-- Wrong machines that demand 1 stops, and wrong starts: each by one field.
use Prim.Native.Nat.{ℕ, zero, suc, ◌≤◌}
use mathlib.Core.Path.{◌≡◌, refl}
use mathlib.Core.Bool.{Bool, true, false, not, ◌&&◌}
use mathlib.Core.List.{List, [], ◌∷◌}
use native.Mathlib.Omega.{arith}
use lib.ListN.{get_or, set}
use lib.Dec.{lit≤, eqb, ltb, leb}
use Rattle.table.specs.declared.Answer.TheVariants.{Broken}
use Rattle.table.specs.Seek.{seek}
use Rattle.table.specs.Order.{op}
use Rattle.table.proofs.Booleans.{clash}
use Rattle.table.proofs.Computes.{apart}
use Rattle.std.specs.Prelude.{Some, Ok, Err}
use Rattle.read.specs.declared.Slot.{Slot}
use Rattle.read.specs.declared.State.{State}
use Rattle.read.specs.Machine.{Verdict, slot_count, no_slot, new_slot, with_use, with_free, behind, free_below, walk, orderly, first_unlawful, glanced, judged, fresh, place}
use Rattle.read.specs.Calls.{lent, with_slot, refusal}
use Rattle.write.specs.declared.Opening.TheVariants.{Publish}
use Rattle.write.specs.Call.{Call, Create, Append, append_one, Step}
use Rattle.write.specs.Steps.{with_log}
use Rattle.write.specs.Machine.{call_on, call_rule}
use Rattle.write.specs.World.{Machine, World, fresh_world}
use Rattle.demands.specs.Demand1.{Lengths, Sized, Fit, Demand1, Starts}
use Rattle.demands.specs.Demands.{told}
use Rattle.demands.specs.KnownEnds.{adds}
use Rattle.demands.proofs.Refusal.Ordered.{ordered, orderly_is}
use Rattle.demands.proofs.Wrong.Machines.{with_control, held_moves_on, stops_at_bad, takes_what_fits, refusal_writes, refusal_counts, calls_short, calls_broken, any_length, any_state, start_refuses, starts_any_length, start_leaves, start_zeroes, start_counts}
use Rattle.demands.proofs.Wrong.Histories.{tells, differ, meeting, crowded}

-- ---- worlds

fresh_sized : Sized fresh_world
fresh_sized = record { left = refl; right = refl; log = refl }

fresh_fit : Fit fresh_world
unfolding tells
fresh_fit =
    record {
      left = lit≤ tt;
      right = lit≤ tt;
      room = lit≤ tt;
      within = lit≤ tt;
      placed = refl;
      locked = refl;
      pointed = refl;
      lawfully = λ i b. absurd (omega arith);
      ordered = ordered fresh refl;
    }

-- the fresh one with another state and another left copy
abbrev world_with : State → List ℕ → World
world_with st l = record { state = st; left = l; right = fresh_world.right; log = fresh_world.log }

-- with another state alone
abbrev in_state : State → World
in_state st = world_with st fresh_world.left

-- the left copy has no words
abbrev short_world : World
short_world = world_with fresh []

-- the swap index is behind the log's end
abbrev broken_world : World
broken_world = in_state (with_control (with_log 0 1) fresh)

-- ---- demand 1

-- unsized
pub any_length_wrong : Demand1 any_length → ⊥
unfolding tells
any_length_wrong h = differ refl (h.unsized Create short_world (λ s. differ refl s.left))

-- broken
pub any_state_wrong : Demand1 any_state → ⊥
unfolding tells
any_state_wrong h = differ refl (h.broken Create broken_world fresh_sized (λ f. let z : 1 ≤ 0 = f.within in omega arith))

-- otherwise
pub calls_short_wrong : Demand1 calls_short → ⊥
unfolding tells
calls_short_wrong h = (h.otherwise (append_one 1 7 0) fresh_world fresh_sized fresh_fit).0 refl

pub calls_broken_wrong : Demand1 calls_broken → ⊥
unfolding tells
calls_broken_wrong h = (h.otherwise (append_one 1 7 0) fresh_world fresh_sized fresh_fit).1 refl

-- unchanged
pub refusal_writes_wrong : Demand1 refusal_writes → ⊥
unfolding tells
refusal_writes_wrong h = apart (λ w. get_or w.left 2 0) refl (h.unchanged (append_one 1 7 0) fresh_world refl)

pub stops_at_bad_wrong : Demand1 stops_at_bad → ⊥
unfolding tells
stops_at_bad_wrong h = apart (λ w. get_or w.right 3 0) refl (h.unchanged (Append (op 1 7 3 ∷ op 1 8 0 ∷ [])) fresh_world refl)

pub takes_what_fits_wrong : Demand1 takes_what_fits → ⊥
unfolding tells
takes_what_fits_wrong h =
    apart (λ w. w.state.control.length) refl (h.unchanged (Append (adds 60)) (told takes_what_fits crowded).world refl)

-- of a single step that answers 13 too
pub held_moves_on_wrong : Demand1 held_moves_on → ⊥
unfolding tells
held_moves_on_wrong h =
    apart (λ w. place w.state.control.phase) refl (h.unchanged Step (told held_moves_on (meeting Publish)).world refl)

-- valueless
pub refusal_counts_wrong : Demand1 refusal_counts → ⊥
unfolding tells
refusal_counts_wrong h = differ refl (h.valueless (append_one 1 7 0) fresh_world refl)

-- ---- the order of the free slots, judged otherwise

abbrev judged_by : (State → Bool) → State → List ℕ → List ℕ → List ℕ → Verdict
judged_by test st l r g =
    let n = st.control.length in
    elim (glanced st.control l r g) [
      | Ok _ ↦ elim (leb n (first_unlawful n g) && test st) [ true ↦ Ok tt | false ↦ Err Broken ]
      | Err a ↦ Err a
    ]

abbrev ordering : (State → Bool) → Machine
ordering test k st l r g =
    elim (judged_by test st l r g) [ Ok _ ↦ call_on k st l r g | Err a ↦ lent (refusal a st) l r g ]

-- by the rules' own test it is the rules
pub orderer : (k : Call) (st : State) (l r g : List ℕ) → ordering orderly k st l r g ≡ call_rule k st l r g
unfolding call_rule judged
orderer k st l r g = refl

-- a walk that takes another sort of slot, and another end
abbrev walk_by : (Slot → Bool) → (ℕ → Bool) → ℕ → List Slot → ℕ → Bool
walk_by takes ends zero ss k = ends k
walk_by takes ends (suc n) ss k =
    let s = get_or ss k no_slot in ltb k slot_count && (takes s && walk_by takes ends n ss (behind k s.link))

abbrev walking : (Slot → Bool) → (ℕ → Bool) → Machine
walking takes ends = ordering (λ st. walk_by takes ends (free_below slot_count st.slots) st.slots st.control.free)

-- a slot in use may stand in the order
abbrev takes_used : Machine
takes_used = walking (λ s. true) (λ k. eqb k slot_count)

-- the order need not end, so that a slot may stand in it twice
abbrev goes_round : Machine
goes_round = walking (λ s. not s.used) (λ k. true)

-- a walk of any length will do, so that free slots may be left out
abbrev leaves_out : Machine
leaves_out =
    ordering (λ st.
    let ends : ℕ → Bool = λ n. walk n st.slots st.control.free in
    ends (seek ends 0 slot_count))

-- slot 0, which is in use, stands in the place of slot 1
abbrev used_world : World
used_world = in_state (with_slot 0 (with_use true (Some 2) new_slot) (with_control (with_free 0) fresh))

-- slot 1 comes behind itself
abbrev round_world : World
round_world = in_state (with_slot 1 (with_use false (Some 1) no_slot) fresh)

-- slot 2 comes first, and slot 1 never
abbrev out_world : World
out_world = in_state (with_control (with_free 2) fresh)

disordered : (st : State) → orderly st ≡ false → ¬ (Fit (in_state st))
disordered st e f = clash (orderly_is st f.ordered) e

-- broken
pub takes_used_wrong : Demand1 takes_used → ⊥
unfolding tells
takes_used_wrong h = differ refl (h.broken Create used_world fresh_sized (disordered used_world.state refl))

pub goes_round_wrong : Demand1 goes_round → ⊥
unfolding tells
goes_round_wrong h = differ refl (h.broken Create round_world fresh_sized (disordered round_world.state refl))

pub leaves_out_wrong : Demand1 leaves_out → ⊥
unfolding tells
leaves_out_wrong h = differ refl (h.broken Create out_world fresh_sized (disordered out_world.state refl))

-- ---- starts

-- a left copy with a word in it
abbrev used : List ℕ
used = set fresh_world.left 2 1

used_sized : Lengths used fresh_world.right fresh_world.log
unfolding tells
used_sized = record { left = refl; right = refl; log = refl }

-- a slice of one word, for each of the three
abbrev one : List ℕ
one = 1 ∷ []

one_unsized : ¬ (Lengths one one one)
one_unsized s = differ refl s.left

-- done
pub start_refuses_wrong : Starts start_refuses → ⊥
unfolding tells
start_refuses_wrong h = differ refl (h.done used fresh_world.right fresh_world.log used_sized)

-- starts
pub start_leaves_wrong : Starts start_leaves → ⊥
unfolding tells
start_leaves_wrong h = apart (λ w. get_or w.left 2 0) refl (h.starts used fresh_world.right fresh_world.log used_sized)

-- unsized
pub starts_any_length_wrong : Starts starts_any_length → ⊥
unfolding tells
starts_any_length_wrong h = differ refl (h.unsized one one one one_unsized)

-- unchanged
pub start_zeroes_wrong : Starts start_zeroes → ⊥
unfolding tells
start_zeroes_wrong h = apart (λ w. get_or w.left 0 0) refl (h.unchanged one one one one_unsized)

-- valueless
pub start_counts_wrong : Starts start_counts → ⊥
unfolding tells
start_counts_wrong h = differ refl (h.valueless one one one)
