-- Which slot a create hands out: account and machine agree on the one that is next.
use Prim.Native.Nat.{ℕ, zero, suc, ◌<◌}
use mathlib.Core.Path.{◌≡◌, refl, sym, ap, ◌∙◌, subst}
use mathlib.Core.Bool.{Bool, true, false}
use mathlib.Core.List.{List}
use native.Mathlib.Omega.{arith}
use borrow.Author.Tests.{leb-false}
use lib.Dec.{eqb}
use Rattle.read.specs.declared.Reply.{Reply}
use Rattle.read.specs.Machine.{slot_count}
use Rattle.read.specs.Handles.{bit}
use Rattle.read.specs.Calls.{Lent}
use Rattle.write.specs.Call.{Call, Create}
use Rattle.write.specs.Machine.{call_rule}
use Rattle.write.specs.World.{Machine, reply, answer_of, value_of}
use Rattle.demands.specs.Account.{Account}
use Rattle.demands.specs.Table.{lock_held, all_in_use, next_slot, wanted, wanted_value}
use Rattle.demands.specs.Demands.{Demands, told}
use Rattle.demands.specs.Reuse.{Reuse}
use Rattle.demands.proofs.Account.Order.{next_is, next_vacant}
use Rattle.demands.proofs.Account.Calls.{full_is}
use Rattle.demands.proofs.Account.Demands.{all_told, demands}
use Rattle.demands.proofs.Determine.{determine}

-- what the table says of a create, by the lock and by whether all slots are in use
abbrev answer_by : Bool → Bool → ℕ
answer_by locked full = elim locked [ true ↦ 7 | false ↦ elim full [ true ↦ 12 | false ↦ 0 ] ]

wanted_is : (a : Account) → wanted a Create ≡ answer_by (lock_held a) (all_in_use a)
unfolding wanted
wanted_is a = refl

done_by : (locked full : Bool) → answer_by locked full ≡ 0 → full ≡ false
done_by true full e = absurd (omega arith)
done_by false true e = absurd (omega arith)
done_by false false e = refl

full_by : (locked full : Bool) → answer_by locked full ≡ 12 → (full ≡ true) × (locked ≡ false)
full_by true full e = absurd (omega arith)
full_by false true e = (refl, refl)
full_by false false e = absurd (omega arith)

-- its value, where it is made
worth_by : (a : Account) → wanted a Create ≡ 0 → wanted_value a Create ≡ next_slot a
unfolding wanted_value
worth_by a e = ap (λ (n : ℕ). elim n [ zero ↦ next_slot a | suc k ↦ bit (eqb k 13) ]) e

-- the slot that comes next is one, and no handle lives in it
abbrev Vacant : Account → ℕ → Type 0
Vacant a v = (v < slot_count) × ((a.readers v).lives ≡ false)

next_free : (ks : List Call) → let a = (told call_rule ks).account in wanted a Create ≡ 0 → Vacant a (next_slot a)
next_free ks z =
    let h = all_told ks in
    let a = (told call_rule ks).account in
    let k = (told call_rule ks).world.state.control.free in
    subst (Vacant a) (next_is h.order)
    (leb-false slot_count k (sym (full_is h) ∙ done_by (lock_held a) (all_in_use a) (sym (wanted_is a) ∙ z)), sym (h.reads k).lives ∙ next_vacant h.order)

-- whatever meets the demands hands out these slots: its histories say what those of the rules say
module _ (m : Machine) (h : Demands m) (ks : List Call) where
  abbrev a : Account
  a = (told m ks).account

  abbrev o : Lent Reply
  o = reply m Create (told m ks).world

  create_is : answer_of o ≡ answer_by (lock_held a) (all_in_use a)
  create_is = h.answers ks Create refl ∙ wanted_is a

  value_is : answer_of o ≡ 0 → value_of o ≡ next_slot a
  value_is z = h.values ks Create refl ∙ worth_by a (sym (h.answers ks Create refl) ∙ z)

  is_vacant : answer_of o ≡ 0 → Vacant a (value_of o)
  is_vacant z =
      let same = (determine m call_rule h demands).accounts ks in
      subst (Vacant a) (sym (value_is z))
      (subst (λ (b : Account). wanted b Create ≡ 0 → Vacant b (next_slot b)) (sym same) (next_free ks) (sym (h.answers ks Create refl) ∙ z))

pub demands_reuse : (m : Machine) → Demands m → Reuse m
demands_reuse m h =
    record {
      made = λ ks f l. create_is m h ks ∙ (λ i. answer_by (l i) (f i));
      hands_out = value_is m h;
      vacant = is_vacant m h;
      full = λ ks f l. create_is m h ks ∙ (λ i. answer_by (l i) (f i));
      only_full = λ ks z. full_by _ _ (sym (create_is m h ks) ∙ z);
    }

pub reuse : Reuse call_rule
reuse = demands_reuse call_rule demands
