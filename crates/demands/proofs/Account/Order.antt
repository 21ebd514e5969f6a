-- The slots' numbers: the order in which free slots are handed out is what the history says.
use Prim.Native.Nat.{ℕ, zero, suc, ◌-◌, ◌≤◌, ◌<◌}
use mathlib.Core.Path.{◌≡◌, refl, sym, ap, ◌∙◌, subst}
use mathlib.Core.Logic.{◌≢◌}
use mathlib.Core.Bool.{Bool, true, false, not}
use mathlib.Core.List.{List, [], ◌∷◌, Memᴰ}
use native.Mathlib.Omega.{arith}
use native.Mathlib.Decide.{ℕ_discrete}
use lib.ListN.{length, set}
use lib.Seq.{get_or-set_same, get_or-set_other}
use lib.Dec.{ltb}
use borrow.Author.Tests.{eq-eqb, ne_eqb, lt-ltb, le-ltb}
use Rattle.table.specs.Seek.{seek}
use Rattle.table.proofs.Seek.{seek_none, seek_unique}
use Rattle.table.proofs.Split.{under}
use Rattle.table.proofs.Booleans.{clash}
use Rattle.table.proofs.Lists.{get_d_same}
use Rattle.std.specs.Prelude.{Option, None}
use Rattle.read.specs.declared.Slot.{Slot}
use Rattle.read.specs.declared.State.{State}
use Rattle.read.specs.Machine.{slot_count, no_slot, new_slot, behind, fresh}
use Rattle.read.specs.Handles.{freed}
use Rattle.read.proofs.FreeOrder.{at, Alike}
use Rattle.write.proofs.Control.{some_slot}
use Rattle.demands.specs.Account.{Account, with_at, without, fresh_account}
use Rattle.demands.proofs.Shown.Guards.{same_at, other_at}

-- ---- the slots that were freed

-- they come from k on, one behind the other, and then e: each is below e and free, and none comes twice
pub data Freed (ss : List Slot) (e : ℕ) : ℕ → List ℕ → Type 0 where
  none : Freed ss e e []
  first : {i : ℕ} {is : List ℕ} → i < e → (at ss i).used ≡ false → ¬ (Memᴰ i is) → Freed ss e (behind i (at ss i).link) is → Freed ss e i (i ∷ is)

freed_vacant : {ss : List Slot} {e k : ℕ} {is : List ℕ} → Freed ss e k is → (j : ℕ) → Memᴰ j is → (at ss j).used ≡ false
freed_vacant none j m = elim m [ ]
freed_vacant {ss} (first l u n f) j (mathlib.Core.List.Memᴰ.head p) = subst (λ (x : ℕ). (at ss x).used ≡ false) (sym p) u
freed_vacant (first l u n f) j (mathlib.Core.List.Memᴰ.tail m) = freed_vacant f j m

-- only what they have in their slots matters
freed_same : {ss ts : List Slot} {e k : ℕ} {is : List ℕ} →
    ((j : ℕ) → Memᴰ j is → ((at ts j).used ≡ (at ss j).used) × ((at ts j).link ≡ (at ss j).link)) → Freed ss e k is → Freed ts e k is
freed_same h none = none
freed_same {ss} {ts} {e} h (first {i} {is} l u n f) =
    let (p, q) = h i (mathlib.Core.List.Memᴰ.head refl) in
    first l (p ∙ u) n
    (subst (λ (x : Option ℕ). Freed ts e (behind i x) is) (sym q) (freed_same (λ j m. h j (mathlib.Core.List.Memᴰ.tail m)) f))

-- a store elsewhere
freed_apart : {ss : List Slot} {e k : ℕ} {is : List ℕ} (i : ℕ) (s : Slot) → ¬ (Memᴰ i is) → Freed ss e k is → Freed (set ss i s) e k is
freed_apart {ss} {e} {k} {is} i s n f =
    freed_same
    (λ j m.
    let o : at (set ss i s) j ≡ at ss j = get_or-set_other ss i j s no_slot (λ q. n (subst (λ (x : ℕ). Memᴰ x is) q m)) in
    (ap (λ (x : Slot). x.used) o, ap (λ (x : Slot). x.link) o))
    f

without_absent : (i : ℕ) (ns : List ℕ) → ¬ (Memᴰ i ns) → without i ns ≡ ns
without_absent i [] h = refl
without_absent i (n ∷ ns) h =
    ap (λ (b : Bool). elim b [ true ↦ without i ns | false ↦ n ∷ without i ns ]) (ne_eqb n i (λ e. h (mathlib.Core.List.Memᴰ.head (sym e))))
    ∙ ap (λ (x : List ℕ). n ∷ x) (without_absent i ns (λ m. h (mathlib.Core.List.Memᴰ.tail m)))

without_first : (i : ℕ) (ns : List ℕ) → ¬ (Memᴰ i ns) → without i (i ∷ ns) ≡ ns
without_first i ns h =
    ap (λ (b : Bool). elim b [ true ↦ without i ns | false ↦ i ∷ without i ns ]) (eq-eqb i i refl) ∙ without_absent i ns h

-- ---- the order

-- ns were freed and not handed out since, those that pass `used` were ever handed out, and k is first
pub record Order (ns : List ℕ) (used : ℕ → Bool) (k : ℕ) (ss : List Slot) : Type 0 where
  -- the lowest number never used
  pub end : ℕ
  pub within : end ≤ slot_count
  pub ever : (i : ℕ) → used i ≡ ltb i end
  pub comes : Freed ss end k ns
  -- from there on all are free, each with the next number behind it
  pub new : (i : ℕ) → end ≤ i → ((at ss i).used ≡ false) × ((at ss i).link ≡ None)

abbrev pub OrderOf : Account → State → Type 0
OrderOf a st = Order a.slots.freed a.slots.used st.control.free st.slots

-- ---- the one that is handed out next

module _ {ns : List ℕ} {used : ℕ → Bool} {k : ℕ} {ss : List Slot} (h : Order ns used k ss) where
  lowest_end : seek (λ i. not (used i)) 0 slot_count ≡ h.end
  lowest_end =
      under h.end slot_count
      (λ l.
      seek_unique (λ i. not (used i)) slot_count h.end l (ap not (h.ever h.end ∙ le-ltb h.end h.end (omega arith)))
      (λ j m. ap not (h.ever j ∙ lt-ltb j h.end m)))
      (λ l.
      seek_none (λ i. not (used i)) slot_count (λ j m. ap not (h.ever j ∙ lt-ltb j h.end (omega arith)))
      ∙ (let e : slot_count ≡ h.end = omega (arith, h.within) in e))

  -- it is what the history says
  pub next_is : k ≡ elim ns [ [] ↦ seek (λ i. not (used i)) 0 slot_count | i ∷ is ↦ i ]
  next_is = go h.comes
    where
      go : {k : ℕ} {ns : List ℕ} → Freed ss h.end k ns → ◌≡◌ {A = ℕ} k (elim ns [ [] ↦ seek (λ i. not (used i)) 0 slot_count | i ∷ is ↦ i ])
      go none = sym lowest_end
      go (first l u n f) = refl

  pub next_vacant : (at ss k).used ≡ false
  next_vacant = go h.comes
    where
      go : {k : ℕ} {ns : List ℕ} → Freed ss h.end k ns → (at ss k).used ≡ false
      go none = (h.new h.end (omega arith)).0
      go (first l u n f) = u

-- ---- what keeps the order

module _ {ns : List ℕ} {used : ℕ → Bool} {k : ℕ} {ss : List Slot} (h : Order ns used k ss) where
  -- the same use and the same link in each slot
  pub order_alike : {ts : List Slot} → Alike ss ts → Order ns used k ts
  order_alike e =
      record {
        end = h.end;
        within = h.within;
        ever = h.ever;
        comes = freed_same (λ j m. (e.used j, e.link j)) h.comes;
        new = λ i l. let (u, f) = h.new i l in (e.used i ∙ u, e.link i ∙ f);
      }

  -- a store below the end leaves all from there on
  new_apart : (i : ℕ) (s : Slot) (e : ℕ) → h.end ≤ e → i < e → (j : ℕ) → e ≤ j → ((at (set ss i s) j).used ≡ false) × ((at (set ss i s) j).link ≡ None)
  new_apart i s e le l j m =
      let o : at (set ss i s) j ≡ at ss j = get_or-set_other ss i j s no_slot (λ q. omega arith) in
      let (u, f) = h.new j (omega arith) in
      (ap (λ (x : Slot). x.used) o ∙ u, ap (λ (x : Slot). x.link) o ∙ f)

  -- slot i, which is in use, is freed, and is first
  pub order_freed : (i : ℕ) (s : Slot) → i < length ss → (at ss i).used ≡ true → Order (i ∷ ns) used i (set ss i (freed k s))
  order_freed i s b u =
      let t = freed k s in
      let o : at (set ss i t) i ≡ t = get_or-set_same ss i t no_slot b in
      let l : i < h.end = under i h.end (λ l. l) (λ l. clash u (h.new i l).0) in
      let n : ¬ (Memᴰ i ns) = λ m. clash u (freed_vacant h.comes i m) in
      record {
        end = h.end;
        within = h.within;
        ever = h.ever;
        comes = first l (ap (λ (x : Slot). x.used) o) n
            (subst (λ (x : Slot). Freed (set ss i t) h.end (behind i x.link) ns) (sym o) (freed_apart i t n h.comes));
        new = new_apart i t h.end (omega arith) l;
      }

  -- one more was handed out
  ever_more : (i e : ℕ) → i < e → ((j : ℕ) → j ≢ i → used j ≡ ltb j e) → (j : ℕ) → with_at i true used j ≡ ltb j e
  ever_more i e l f j = elim (ℕ_discrete j i) [
    | yes q ↦ subst (λ (x : ℕ). with_at i true used x ≡ ltb x e) (sym q) (same_at i true used ∙ sym (lt-ltb i e l))
    | no ne ↦ other_at i true used j ne ∙ f j ne
  ]

  -- a new one
  end_more : (j : ℕ) → j ≢ h.end → used j ≡ ltb j (suc h.end)
  end_more j ne =
      h.ever j
      ∙ under j h.end (λ l. lt-ltb j h.end l ∙ sym (lt-ltb j (suc h.end) (omega arith)))
      (λ l. le-ltb j h.end l ∙ sym (le-ltb j (suc h.end) (omega (arith, ne))))

  handed : {i : ℕ} {is : List ℕ} → Freed ss h.end i is → i < slot_count →
      Order (without i is) (with_at i true used) (behind i (at ss i).link) (set ss i new_slot)
  handed none b =
      let e = h.end in
      record {
        end = suc e;
        within = b;
        ever = ever_more e (suc e) (omega arith) end_more;
        comes = subst (λ (x : Option ℕ). Freed (set ss e new_slot) (suc e) (behind e x) []) (sym (h.new e (omega arith)).1) none;
        new = new_apart e new_slot (suc e) (omega arith) (omega arith);
      }
  handed (first {i} {is} l u n f) b =
      subst (λ (x : List ℕ). Order x (with_at i true used) (behind i (at ss i).link) (set ss i new_slot)) (sym (without_first i is n))
      (record {
        end = h.end;
        within = h.within;
        ever = ever_more i h.end l (λ j _. h.ever j);
        comes = freed_apart i new_slot n f;
        new = new_apart i new_slot h.end (omega arith) l;
      })

  -- the first one gets a new handle
  pub order_handed : k < slot_count → Order (without k ns) (with_at k true used) (behind k (at ss k).link) (set ss k new_slot)
  order_handed b = handed h.comes b

-- ---- the fresh machine

pub order_fresh : OrderOf fresh_account fresh
order_fresh =
    record {
      end = 1;
      within = omega (arith, some_slot);
      ever = ever;
      comes = none;
      new = new;
    }
  where
    ever : (i : ℕ) → fresh_account.slots.used i ≡ ltb i 1
    ever zero = refl
    ever (suc i) = other_at 0 true (λ k. false) (suc i) (λ e. omega arith) ∙ sym (le-ltb (suc i) 1 (omega arith))

    new : (i : ℕ) → 1 ≤ i → ((at fresh.slots i).used ≡ false) × ((at fresh.slots i).link ≡ None)
    new zero l = absurd (omega arith)
    new (suc i) l = let e = get_d_same (slot_count - 1) i no_slot in (ap (λ (s : Slot). s.used) e, ap (λ (s : Slot). s.link) e)
