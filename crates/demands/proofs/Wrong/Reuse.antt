-- Wrong machines that hand out other slots, or refuse to: each is stopped by one field. So the demands stop them too (demands_reuse).
use Prim.Native.Nat.{◌-◌}
use mathlib.Core.Path.{refl, sym}
use mathlib.Core.Bool.{true≢false}
use mathlib.Core.List.{List, [], ◌∷◌}
use native.Mathlib.Omega.{arith}
use lib.ListN.{replicate}
use Rattle.read.specs.declared.Handle.TheVariants.{Drop}
use Rattle.read.specs.Machine.{slot_count}
use Rattle.write.specs.declared.Opening.TheVariants.{Take}
use Rattle.write.specs.Call.{Call, Create, On, Open, Run}
use Rattle.demands.specs.Reuse.{Reuse}
use Rattle.demands.proofs.Wrong.Machines.{lowest_free, new_first, first_freed, finish_forgets, finish_loses, two_slots, creates_one, creates_full}
use Rattle.demands.proofs.Wrong.Histories.{tells, differ}

-- slots 1 and 2 were freed, 2 last
abbrev two_freed : List Call
two_freed = Create ∷ Create ∷ On 1 Drop ∷ On 2 Drop ∷ []

-- slot 1 was freed, and then slot 0
abbrev handed_over : List Call
handed_over = Create ∷ On 1 Drop ∷ Open Take ∷ Run ∷ []

-- a handle lives in each
abbrev all_used : List Call
all_used = replicate (slot_count - 1) Create

-- ---- made

pub finish_loses_wrong : Reuse finish_loses → ⊥
unfolding tells
finish_loses_wrong h = differ refl (h.made handed_over refl refl)

-- ---- hands_out

pub lowest_free_wrong : Reuse lowest_free → ⊥
unfolding tells
lowest_free_wrong h = differ refl (h.hands_out two_freed refl)

pub new_first_wrong : Reuse new_first → ⊥
unfolding tells
new_first_wrong h = differ refl (h.hands_out two_freed refl)

pub first_freed_wrong : Reuse first_freed → ⊥
unfolding tells
first_freed_wrong h = differ refl (h.hands_out two_freed refl)

pub finish_forgets_wrong : Reuse finish_forgets → ⊥
unfolding tells
finish_forgets_wrong h = differ refl (h.hands_out handed_over refl)

-- ---- vacant

-- it is a slot
pub creates_full_wrong : Reuse creates_full → ⊥
unfolding tells
creates_full_wrong h = let z = (h.vacant all_used refl).0 in omega arith

-- no handle lives in it
pub creates_one_wrong : Reuse creates_one → ⊥
unfolding tells
creates_one_wrong h = true≢false (h.vacant (Create ∷ []) refl).1

-- ---- full

pub creates_full_wrong_full : Reuse creates_full → ⊥
unfolding tells
creates_full_wrong_full h = differ refl (h.full all_used refl refl)

-- ---- only_full

pub two_slots_wrong : Reuse two_slots → ⊥
unfolding tells
two_slots_wrong h = true≢false (sym (h.only_full (Create ∷ []) refl).0)
