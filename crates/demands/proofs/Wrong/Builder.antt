-- The builder of wrong machines, given the rules' own step, is the rules: so it meets all that they meet. And so is that of appends, given
-- the rules' own test, and that of creates, given the order as it is.
use Prim.Native.Nat.{ℕ, zero, suc}
use mathlib.Core.Path.{◌≡◌, refl, sym, subst}
use mathlib.Core.List.{List}
use Rattle.table.specs.Order.{Op}
use Rattle.read.specs.declared.State.{State}
use Rattle.read.specs.declared.Reply.{Reply}
use Rattle.read.specs.Calls.{Lent}
use Rattle.write.specs.Call.{Call, Create, On, Append, Open, Step, Run}
use Rattle.write.specs.Steps.{step_at}
use Rattle.write.specs.Begins.{lawful_batch, append_by}
use Rattle.write.specs.Runs.{step_on, run_while, run_on}
use Rattle.write.specs.Machine.{call_on, call_rule}
use Rattle.write.specs.World.{answer_of}
use Rattle.demands.specs.Demand1.{Demand1}
use Rattle.demands.specs.Demands.{Demands}
use Rattle.demands.specs.Follows.{Follows}
use Rattle.demands.specs.Reuse.{Reuse}
use Rattle.demands.specs.KnownEnds.{KnownEnds}
use Rattle.demands.proofs.Wrong.Machines.{step_by, with_step, creating, testing}
use Rattle.demands.proofs.Refusal.Refused.{demand1}
use Rattle.demands.proofs.Account.Demands.{demands}
use Rattle.demands.proofs.Delay.Ends.{follows}
use Rattle.demands.proofs.Reuse.{reuse}
use Rattle.demands.proofs.KnownEnds.{known_ends}

-- ---- the machine

pub builder : (k : Call) (st : State) (l r g : List ℕ) → with_step step_at k st l r g ≡ call_rule k st l r g
unfolding with_step call_rule call_on step_by step_on run_on run_while
builder Create st l r g = refl
builder (On i h) st l r g = refl
builder (Append os) st l r g = refl
builder (Open o) st l r g = refl
builder Step st l r g = refl
builder Run st l r g = refl

same_machine : call_rule ≡ with_step step_at
same_machine = λ i k st l r g. sym (builder k st l r g) i

pub builder_1 : Demand1 (with_step step_at)
builder_1 = subst Demand1 same_machine demand1

pub builder_demands : Demands (with_step step_at)
builder_demands = subst Demands same_machine demands

pub builder_follows : Follows (with_step step_at)
builder_follows = subst Follows same_machine follows

pub builder_reuse : Reuse (with_step step_at)
builder_reuse = subst Reuse same_machine reuse

pub builder_ends : KnownEnds (with_step step_at)
builder_ends = subst KnownEnds same_machine known_ends

-- ---- an append

pub tester : (os : List Op) (st : State) (l r g : List ℕ) → testing lawful_batch (Append os) st l r g ≡ call_rule (Append os) st l r g
unfolding call_rule call_on append_by
tester os st l r g = refl

-- ---- a create

pub arranger : (st : State) (l r g : List ℕ) → creating (λ x. x) Create st l r g ≡ call_rule Create st l r g
arranger st l r g = go (answer_of (call_rule Create st l r g))
  where
    go : (n : ℕ) → ◌≡◌ {A = Lent Reply} (elim n [ zero ↦ call_rule Create st l r g | suc m ↦ call_rule Create st l r g ]) (call_rule Create st l r g)
    go zero = refl
    go (suc n) = refl
