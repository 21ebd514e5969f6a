-- Wrong machines that what the demands come to stops, each by one field; and one that the known ends stop.
use Prim.Native.Nat.{ℕ, ◌+◌, ◌<◌}
use mathlib.Core.Path.{◌≡◌, refl, sym}
use mathlib.Core.Logic.{◌⊎◌, inl, inr}
use mathlib.Core.Bool.{false, true≢false}
use mathlib.Core.List.{List, [], ◌∷◌, ◌++◌, Memᴰ}
use native.Mathlib.Omega.{arith}
use lib.ListN.{length, get_or}
use lib.Dec.{eqb, lit≤}
use Rattle.table.proofs.Computes.{apart}
use Rattle.read.specs.declared.Handle.TheVariants.{Drop, Enter, Release}
use Rattle.read.specs.Machine.{slot_count}
use Rattle.write.specs.declared.Opening.TheVariants.{Publish, Take}
use Rattle.write.specs.Call.{Call, Create, On, Append, append_one, Open, Step, Run}
use Rattle.write.specs.Numbers.{call_number}
use Rattle.demands.specs.Follows.{Follows}
use Rattle.demands.specs.KnownEnds.{publish, adds, enters, p5, cases, KnownEnds}
use Rattle.demands.proofs.Wrong.Machines.{invents_value, publish_tries, take_declines, snaps_even, finish_turns, creates_one, drop_zeroes, drop_keeps, drops_open, enters_zero, goes_to_seven, stirs_each, counts_none, publishes_inside, publishes_gone, accepts_busy, never_rounds}
use Rattle.demands.proofs.KnownEnds.{known_end}
use Rattle.demands.proofs.Wrong.Histories.{tells, differ, entered, snapped, meeting}

neither : {k m n : ℕ} → eqb k m ≡ false → eqb k n ≡ false → (k ≡ m) ⊎ (k ≡ n) → ⊥
neither d f (inl e) = differ d e
neither d f (inr e) = differ f e

-- ---- looks_up

pub drops_open_wrong : Follows drops_open → ⊥
unfolding tells
drops_open_wrong h = differ refl (h.looks_up (entered ++ (On 1 Drop ∷ [])) 1 0 7 refl)

-- ---- stays

-- open
pub creates_one_wrong : Follows creates_one → ⊥
unfolding tells
creates_one_wrong h = true≢false (sym (h.stays entered Create 1 0 (λ e. apart call_number refl e) refl).0)

-- on what it loaded
pub enters_zero_wrong : Follows enters_zero → ⊥
unfolding tells
enters_zero_wrong h =
    apart length refl (h.stays (entered ++ (append_one 1 7 3 ∷ publish)) (On 1 Enter) 1 0 (λ e. apart call_number refl e) refl).1

-- ---- named

-- slot 0 is inside at a snapshot, and the next publish comes to it: with a guard, or before its load
abbrev own : List Call → List Call
own ks = ks ++ (publish ++ (Open Publish ∷ []))

-- other
pub publishes_inside_wrong : Follows publishes_inside → ⊥
unfolding tells
publishes_inside_wrong h = (h.named (own (enters 0)) 0 _ refl refl).other refl

-- present
pub goes_to_seven_wrong : Follows goes_to_seven → ⊥
unfolding tells
goes_to_seven_wrong h = true≢false (sym (h.named (meeting Publish) 1 _ refl refl).present)

-- releases
pub goes_to_seven_wrong_releases : Follows goes_to_seven → ⊥
unfolding tells
goes_to_seven_wrong_releases h = differ refl ((h.named (meeting Publish) 1 _ refl refl).releases 7 refl)

-- goes_on
pub publishes_inside_wrong_goes_on : Follows publishes_inside → ⊥
unfolding tells
publishes_inside_wrong_goes_on h = neither refl refl ((h.named (own (On 0 Enter ∷ [])) 0 _ refl refl).goes_on refl)

-- ---- goes

pub publishes_gone_wrong : Follows publishes_gone → ⊥
unfolding tells
publishes_gone_wrong h = differ refl (h.goes (Open Take ∷ Run ∷ Open Publish ∷ []) refl refl)

-- ---- ends

-- before
pub accepts_busy_wrong : Follows accepts_busy → ⊥
unfolding tells
accepts_busy_wrong h =
    let z : 2 + slot_count < 2 + slot_count = (h.ends [] Publish refl refl (Step ∷ Open Publish ∷ Run ∷ [])).before refl in omega arith

-- at_end
pub invents_value_wrong_at_end : Follows invents_value → ⊥
unfolding tells
invents_value_wrong_at_end h = differ refl ((h.ends [] Publish refl refl (Run ∷ [])).at_end refl refl)

-- rest
pub accepts_busy_wrong_rest : Follows accepts_busy → ⊥
unfolding tells
accepts_busy_wrong_rest h = apart length refl ((h.ends [] Publish refl refl (Step ∷ Open Publish ∷ [])).rest refl)

-- published
pub accepts_busy_wrong_published : Follows accepts_busy → ⊥
unfolding tells
accepts_busy_wrong_published h =
    apart length refl ((h.ends [] Publish refl refl (append_one 1 7 3 ∷ Open Publish ∷ Run ∷ [])).published refl refl)

-- gone
pub take_declines_wrong : Follows take_declines → ⊥
unfolding tells
take_declines_wrong h = true≢false (sym ((h.ends entered Take refl refl (Run ∷ [])).gone refl refl))

-- waits
pub publish_tries_wrong_waits : Follows publish_tries → ⊥
unfolding tells
publish_tries_wrong_waits h = true≢false ((h.ends snapped Publish refl refl (Run ∷ [])).waits refl)

-- ---- epochs

-- in use
pub drop_keeps_wrong : Follows drop_keeps → ⊥
unfolding tells
drop_keeps_wrong h = true≢false (h.epochs (Create ∷ On 1 Drop ∷ []) 1 (lit≤ tt)).0

-- its epoch
pub drop_zeroes_wrong : Follows drop_zeroes → ⊥
unfolding tells
drop_zeroes_wrong h = differ refl (h.epochs (entered ++ (On 1 (Release 0) ∷ On 1 Drop ∷ [])) 1 (lit≤ tt)).1

pub stirs_each_wrong : Follows stirs_each → ⊥
unfolding tells
stirs_each_wrong h = differ refl (h.epochs (Append (adds 2) ∷ []) 0 (lit≤ tt)).1

pub counts_none_wrong : Follows counts_none → ⊥
unfolding tells
counts_none_wrong h = differ refl (h.epochs (Append [] ∷ []) 0 (lit≤ tt)).1

-- its snapshot
pub snaps_even_wrong : Follows snaps_even → ⊥
unfolding tells
snaps_even_wrong h = differ refl (h.epochs (append_one 1 7 3 ∷ publish) 0 (lit≤ tt)).2

-- ---- side

pub finish_turns_wrong : Follows finish_turns → ⊥
unfolding tells
finish_turns_wrong h = true≢false (sym (h.side (Open Take ∷ Run ∷ [])))

-- ---- the known ends

-- P5: the epoch that is found
pub never_rounds_wrong : KnownEnds never_rounds → ⊥
unfolding tells
never_rounds_wrong h =
    let fifth : Memᴰ p5 cases = mathlib.Core.List.Memᴰ.tail (mathlib.Core.List.Memᴰ.tail (mathlib.Core.List.Memᴰ.tail (mathlib.Core.List.Memᴰ.tail (mathlib.Core.List.Memᴰ.head refl)))) in
    apart (λ p. get_or p 0 0) refl (known_end never_rounds h fifth).found
