-- The order in which free slots are handed out, on a list of slots: one turn of a count and of a walk, which slots a walk meets, and what
-- a store does to them.
use Rattle.std.proofs.Common.{◌≡◌, ℕ, zero, suc, ◌+◌, ◌-◌, ◌<◌, ◌≤◌, Bool, true, false, not, ◌&&◌, ltb, ◌≢◌, ◌⊎◌, List, [], ◌∷◌, length, get_or, set, sym, refl, ap, ◌∙◌, subst, inl, inr, ⊎_elim, arith, length-set, get_or-set_other, get_or-set_same, ltb-true, le-ltb, lt-ltb, eqb-true}
use Rattle.std.specs.Prelude.{count_by}
use Rattle.std.proofs.Common.{cond}
use Rattle.std.proofs.lemmas.List.Recursion.{is_count_by}
use native.Mathlib.Decide.{ℕ_discrete}
use borrow.Author.Tests.{not-true}
use Rattle.table.proofs.Booleans.{both, clash}
use Rattle.table.proofs.Split.{split, under}
use Rattle.read.specs.declared.Slot.{Slot}
use Rattle.read.specs.Machine.{slot_count, no_slot, new_slot, behind, free_below, walk}
use Rattle.read.specs.Handles.{freed}

-- slot i of a list
abbrev pub at : List Slot → ℕ → Slot
at ss i = get_or ss i no_slot

-- how many free slots one is, by whether it is in use
abbrev pub vacancy : Bool → ℕ
vacancy true = 0
vacancy false = 1

-- ---- one turn of a count

pub free_none : (ss : List Slot) → free_below 0 ss ≡ 0
unfolding free_below
free_none ss = refl

module _ (n : ℕ) (ss : List Slot) where
  pub free_kept : (at ss n).used ≡ true → free_below (suc n) ss ≡ free_below n ss
  unfolding free_below
  free_kept e = rw (e, free_below)

  pub free_more : (at ss n).used ≡ false → free_below (suc n) ss ≡ suc (free_below n ss)
  unfolding free_below
  free_more e = rw (e, free_below)

  pub free_turn : free_below (suc n) ss ≡ vacancy (at ss n).used + free_below n ss
  free_turn =
      split (at ss n).used
      (λ u. omega (arith, free_kept u, ap vacancy u))
      (λ u. omega (arith, free_more u, ap vacancy u))

-- the count goes from the last slot down, and from the first one up it is the same
free_cons : (n : ℕ) (s : Slot) (ss : List Slot) → free_below (suc n) (s ∷ ss) ≡ vacancy s.used + free_below n ss
free_cons zero s ss = free_turn 0 (s ∷ ss) ∙ ap (λ k. vacancy s.used + k) (free_none (s ∷ ss) ∙ sym (free_none ss))
free_cons (suc n) s ss = omega (arith, free_turn (suc n) (s ∷ ss), free_cons n s ss, free_turn n ss)

counts : (b : Bool) (n : ℕ) → vacancy b + n ≡ cond (not b) (1 + n) n
counts true n = omega arith
counts false n = refl

pub free_counted : (ss : List Slot) → free_below (length ss) ss ≡ count_by (λ s. not s.used) ss
free_counted =
    is_count_by (λ ss. free_below (length ss) ss) (λ s. not s.used) (free_none []) (λ s ss. free_cons (length ss) s ss ∙ counts s.used _)

-- none is free, so each is in use; and back
pub all_used : (n : ℕ) (ss : List Slot) → free_below n ss ≡ 0 → (i : ℕ) → i < n → (at ss i).used ≡ true
all_used zero ss e i h = absurd (omega arith)
all_used (suc n) ss e i h =
    split (at ss n).used
    (λ u. under i n (λ l. all_used n ss (omega (arith, free_kept n ss u)) i l) (λ l. here u (omega arith)))
    (λ u. absurd (omega (arith, free_more n ss u)))
  where
    here : (at ss n).used ≡ true → n ≡ i → (at ss i).used ≡ true
    here u q = subst (λ (x : ℕ). (at ss x).used ≡ true) q u

pub none_free : (n : ℕ) (ss : List Slot) → ((i : ℕ) → i < n → (at ss i).used ≡ true) → free_below n ss ≡ 0
none_free zero ss f = free_none ss
none_free (suc n) ss f = free_kept n ss (f n (omega arith)) ∙ none_free n ss (λ i h. f i (omega arith))

-- ---- one turn of a walk

module _ (n : ℕ) (ss : List Slot) (k : ℕ) where
  pub walk_past : slot_count ≤ k → walk (suc n) ss k ≡ false
  unfolding walk
  walk_past h = rw (le-ltb k slot_count h, walk)

  pub walk_met : k < slot_count → (at ss k).used ≡ true → walk (suc n) ss k ≡ false
  unfolding walk
  walk_met h u = rw (lt-ltb k slot_count h, u, walk)

  pub walk_on : k < slot_count → (at ss k).used ≡ false → walk (suc n) ss k ≡ walk n ss (behind k (at ss k).link)
  unfolding walk
  walk_on h u = rw (lt-ltb k slot_count h, u, walk)

-- what the first turn says
pub record Turn (n : ℕ) (ss : List Slot) (k : ℕ) : Type 0 where
  pub within : k < slot_count
  pub vacant : (at ss k).used ≡ false
  pub rest : walk n ss (behind k (at ss k).link) ≡ true

pub turn : (n : ℕ) (ss : List Slot) (k : ℕ) → walk (suc n) ss k ≡ true → Turn n ss k
unfolding walk
turn n ss k h =
    let (a, b) = both (ltb k slot_count) _ h in
    let (u, r) = both (not (at ss k).used) _ b in
    record { within = ltb-true k slot_count a; vacant = not-true _ u; rest = r }

-- and what no turn says
pub ends : (ss : List Slot) (k : ℕ) → walk 0 ss k ≡ true → k ≡ slot_count
unfolding walk
ends ss k h = eqb-true k slot_count h

-- ---- the slots that a walk meets

-- the one after j turns
abbrev pub after : ℕ → List Slot → ℕ → ℕ
after zero ss k = k
after (suc j) ss k = after j ss (behind k (at ss k).link)

-- a walk has one length
pub unique : (m n : ℕ) (ss : List Slot) (k : ℕ) → walk m ss k ≡ true → walk n ss k ≡ true → m ≡ n
unique zero zero ss k a b = refl
unique zero (suc n) ss k a b = absurd (omega (arith, ends ss k a, (turn n ss k b).within))
unique (suc m) zero ss k a b = absurd (omega (arith, ends ss k b, (turn m ss k a).within))
unique (suc m) (suc n) ss k a b = ap suc (unique m n ss _ (turn m ss k a).rest (turn n ss k b).rest)

pub later : (j n : ℕ) (ss : List Slot) (k : ℕ) → j ≤ n → walk n ss k ≡ true → walk (n - j) ss (after j ss k) ≡ true
later zero n ss k l h =
    let e : n - 0 ≡ n = omega arith in
    ap (λ (m : ℕ). walk m ss k) e ∙ h
later (suc j) zero ss k l h = absurd (omega arith)
later (suc j) (suc n) ss k l h =
    let e : suc n - suc j ≡ n - j = omega arith in
    ap (λ (m : ℕ). walk m ss (after (suc j) ss k)) e ∙ later j n ss _ (omega arith) (turn n ss k h).rest

-- one that comes to its end meets no slot twice
pub once :
    (i j n : ℕ) (ss : List Slot) (k : ℕ) → i ≤ n → j ≤ n → walk n ss k ≡ true → after i ss k ≡ after j ss k → i ≡ j
once i j n ss k a b h e =
    let p : walk (n - i) ss (after j ss k) ≡ true = subst (λ (x : ℕ). walk (n - i) ss x ≡ true) e (later i n ss k a h) in
    omega (arith, unique (n - i) (n - j) ss (after j ss k) p (later j n ss k b h))

-- each is free
pub met_free : (j n : ℕ) (ss : List Slot) (k : ℕ) → j < n → walk n ss k ≡ true → (at ss (after j ss k)).used ≡ false
met_free j n ss k l h =
    let e : n - j ≡ suc (n - suc j) = omega arith in
    (turn (n - suc j) ss (after j ss k) (ap (λ (m : ℕ). walk m ss (after j ss k)) (sym e) ∙ later j n ss k (omega arith) h)).vacant

-- what is put into a slot that it does not meet, it does not see
pub apart :
    (n : ℕ) (ss : List Slot) (k i : ℕ) (s : Slot) → ((j : ℕ) → j < n → after j ss k ≢ i) → walk n (set ss i s) k ≡ walk n ss k
unfolding walk
apart zero ss k i s f = refl
apart (suc n) ss k i s f =
    let o : at (set ss i s) k ≡ at ss k = get_or-set_other ss i k s no_slot (f 0 (omega arith)) in
    rw (o, walk)
    (ap (λ (b : Bool). ltb k slot_count && (not (at ss k).used && b)) (apart n ss _ i s (λ j l. f (suc j) (omega arith))))

-- ---- slots with the same use and the same link

pub record Alike (ss ts : List Slot) : Type 0 where
  pub used : (i : ℕ) → (at ts i).used ≡ (at ss i).used
  pub link : (i : ℕ) → (at ts i).link ≡ (at ss i).link

part_set :
    {A : Type 0} (f : Slot → A) (ss : List Slot) (i : ℕ) (s : Slot) → f s ≡ f (at ss i) → (k : ℕ) → f (at (set ss i s) k) ≡ f (at ss k)
part_set f [] i s h k = refl
part_set f (x ∷ ss) zero s h zero = h
part_set f (x ∷ ss) zero s h (suc k) = refl
part_set f (x ∷ ss) (suc i) s h zero = refl
part_set f (x ∷ ss) (suc i) s h (suc k) = part_set f ss i s h k

pub alike_set : (ss : List Slot) (i : ℕ) (s : Slot) → s.used ≡ (at ss i).used → s.link ≡ (at ss i).link → Alike ss (set ss i s)
alike_set ss i s u l =
    record { used = part_set (λ (x : Slot). x.used) ss i s u; link = part_set (λ (x : Slot). x.link) ss i s l }

pub free_alike : (n : ℕ) (ss ts : List Slot) → ((i : ℕ) → (at ts i).used ≡ (at ss i).used) → free_below n ts ≡ free_below n ss
free_alike zero ss ts f = free_none ts ∙ sym (free_none ss)
free_alike (suc n) ss ts f =
    free_turn n ts ∙ (λ i. vacancy (f n i) + free_alike n ss ts f i) ∙ sym (free_turn n ss)

pub free_same :
    (n : ℕ) (ss : List Slot) (i : ℕ) (s : Slot) → s.used ≡ (at ss i).used → free_below n (set ss i s) ≡ free_below n ss
free_same n ss i s u = free_alike n ss (set ss i s) (part_set (λ (x : Slot). x.used) ss i s u)

pub walk_alike : (n : ℕ) (ss ts : List Slot) → Alike ss ts → (k : ℕ) → walk n ts k ≡ walk n ss k
unfolding walk
walk_alike zero ss ts a k = refl
walk_alike (suc n) ss ts a k =
    (λ i. ltb k slot_count && (not (a.used k i) && walk n ts (behind k (a.link k i))))
    ∙ ap (λ (b : Bool). ltb k slot_count && (not (at ss k).used && b)) (walk_alike n ss ts a (behind k (at ss k).link))

-- ---- a store

-- what is free below n, where the store is above
free_above : (n : ℕ) (ss : List Slot) (i : ℕ) (s : Slot) → n ≤ i → free_below n (set ss i s) ≡ free_below n ss
free_above zero ss i s h = free_none (set ss i s) ∙ sym (free_none ss)
free_above (suc n) ss i s h =
    let o : at (set ss i s) n ≡ at ss n = get_or-set_other ss i n s no_slot (λ e. omega arith) in
    free_turn n (set ss i s)
    ∙ (λ j. vacancy (o j).used + free_above n ss i s (omega arith) j)
    ∙ sym (free_turn n ss)

pub free_set :
    (n : ℕ) (ss : List Slot) (i : ℕ) (s : Slot) → i < length ss → i < n →
    free_below n (set ss i s) + vacancy (at ss i).used ≡ free_below n ss + vacancy s.used
free_set zero ss i s b h = absurd (omega arith)
free_set (suc n) ss i s b h = under i n (λ l. before l (free_set n ss i s b l)) (λ l. here (omega arith))
  where
    before :
        i < n → free_below n (set ss i s) + vacancy (at ss i).used ≡ free_below n ss + vacancy s.used →
        free_below (suc n) (set ss i s) + vacancy (at ss i).used ≡ free_below (suc n) ss + vacancy s.used
    before l q =
        let o : at (set ss i s) n ≡ at ss n = get_or-set_other ss i n s no_slot (λ e. omega arith) in
        omega (arith, free_turn n (set ss i s), free_turn n ss, ap (λ (x : Slot). vacancy x.used) o)

    here : n ≡ i → free_below (suc n) (set ss i s) + vacancy (at ss i).used ≡ free_below (suc n) ss + vacancy s.used
    here e =
        let o : at (set ss i s) n ≡ s = ap (at (set ss i s)) e ∙ get_or-set_same ss i s no_slot b in
        omega (arith, free_turn n (set ss i s), free_turn n ss, free_above n ss i s (omega arith), ap (λ (x : Slot). vacancy x.used) o, ap (λ (k : ℕ). vacancy (at ss k).used) e)

-- the first slot is handed out
pub popped : (n : ℕ) (ss : List Slot) (i : ℕ) (s : Slot) → walk (suc n) ss i ≡ true → walk n (set ss i s) (behind i (at ss i).link) ≡ true
popped n ss i s h =
    apart n ss (behind i (at ss i).link) i s
    (λ j l e. absurd (omega (arith, once (suc j) 0 (suc n) ss i (omega arith) (omega arith) h e)))
    ∙ (turn n ss i h).rest

-- one in use is freed, and is first from now on
pub pushed :
    (n : ℕ) (ss : List Slot) (i k : ℕ) (s : Slot) → i < length ss → i < slot_count → (at ss i).used ≡ true → walk n ss k ≡ true →
    walk (suc n) (set ss i (freed k s)) i ≡ true
pushed n ss i k s b l u h =
    let t = freed k s in
    let o : at (set ss i t) i ≡ t = get_or-set_same ss i t no_slot b in
    walk_on n (set ss i t) i l (ap (λ (x : Slot). x.used) o)
    ∙ ap (λ (x : Slot). walk n (set ss i t) (behind i x.link)) o
    ∙ apart n ss k i t (λ j m e. clash (ap (λ (x : ℕ). (at ss x).used) e ∙ u) (met_free j n ss k m h))
    ∙ h

-- ---- the order: as many come as are free

abbrev pub ordered : List Slot → ℕ → Bool
ordered ss k = walk (free_below slot_count ss) ss k

-- by whether one comes
by_count :
    {C : Type 0} (ss : List Slot) (k n : ℕ) → (n ≡ 0 → k ≡ slot_count → C) → ((m : ℕ) → n ≡ suc m → walk (suc m) ss k ≡ true → C) →
    walk n ss k ≡ true → C
by_count ss k zero f g h = f refl (ends ss k h)
by_count ss k (suc n) f g h = g n refl h

by_first :
    {C : Type 0} (ss : List Slot) (k : ℕ) → (free_below slot_count ss ≡ 0 → k ≡ slot_count → C) →
    ((n : ℕ) → free_below slot_count ss ≡ suc n → walk (suc n) ss k ≡ true → C) → ordered ss k ≡ true → C
by_first ss k f g o = by_count ss k (free_below slot_count ss) f g o

module _ (ss : List Slot) (k : ℕ) (o : ordered ss k ≡ true) where
  pub first_bound : k ≤ slot_count
  first_bound = by_first ss k (λ e q. omega arith) (λ n e h. omega (arith, (turn n ss k h).within)) o

  pub first_vacant : k < slot_count → (at ss k).used ≡ false
  first_vacant l = by_first ss k (λ e q. absurd (omega arith)) (λ n e h. (turn n ss k h).vacant) o

  -- none comes exactly where all are in use
  pub end_full : k ≡ slot_count → (i : ℕ) → i < slot_count → (at ss i).used ≡ true
  end_full q =
      all_used slot_count ss (by_first ss k (λ e _. e) (λ n e h. absurd (omega (arith, (turn n ss k h).within))) o)

  pub full_end : ((i : ℕ) → i < slot_count → (at ss i).used ≡ true) → k ≡ slot_count
  full_end f =
      by_first ss k (λ e q. q) (λ n e h. absurd (omega (arith, none_free slot_count ss f))) o

pub ordered_alike : (ss ts : List Slot) → Alike ss ts → (k : ℕ) → ordered ts k ≡ ordered ss k
ordered_alike ss ts a k =
    ap (λ (n : ℕ). walk n ts k) (free_alike slot_count ss ts a.used) ∙ walk_alike (free_below slot_count ss) ss ts a k

module _ (ss : List Slot) (all : length ss ≡ slot_count) where
  -- the first slot is handed out
  pub ordered_popped :
      (k : ℕ) (s : Slot) → ordered ss k ≡ true → k < slot_count → s.used ≡ true → ordered (set ss k s) (behind k (at ss k).link) ≡ true
  ordered_popped k s o l u =
      by_first ss k (λ e q. absurd (omega arith))
      (λ n e h.
      let m : free_below slot_count (set ss k s) ≡ n =
      omega (arith, free_set slot_count ss k s (omega arith) l, ap vacancy u, ap vacancy (turn n ss k h).vacant) in
      ap (λ (m : ℕ). walk m (set ss k s) (behind k (at ss k).link)) m ∙ popped n ss k s h)
      o

  -- one in use is freed
  pub ordered_pushed :
      (i k : ℕ) (s : Slot) → ordered ss k ≡ true → i < slot_count → (at ss i).used ≡ true → ordered (set ss i (freed k s)) i ≡ true
  ordered_pushed i k s o l u =
      let n = free_below slot_count ss in
      let m : free_below slot_count (set ss i (freed k s)) ≡ suc n =
      omega (arith, free_set slot_count ss i (freed k s) (omega arith) l, ap vacancy u) in
      ap (λ (m : ℕ). walk m (set ss i (freed k s)) i) m ∙ pushed n ss i k s (omega arith) l u o

-- ---- all come

-- no more than are free
pub walk_bound : (n : ℕ) (ss : List Slot) (k : ℕ) → length ss ≡ slot_count → walk n ss k ≡ true → n ≤ free_below slot_count ss
walk_bound zero ss k e h = omega arith
walk_bound (suc n) ss k e h =
    let t = turn n ss k h in
    omega
    (arith, walk_bound n (set ss k new_slot) _ (length-set ss k new_slot ∙ e) (popped n ss k new_slot h), free_set slot_count ss k new_slot (omega arith) t.within, ap vacancy t.vacant)

meets : (n : ℕ) (ss : List Slot) (k i : ℕ) → ((j : ℕ) × (j < n) × (after j ss k ≡ i)) ⊎ ((j : ℕ) → j < n → after j ss k ≢ i)
meets zero ss k i = inr (λ j l. absurd (omega arith))
meets (suc n) ss k i = elim (ℕ_discrete k i) [
  | yes e ↦ inl (0, omega arith, e)
  | no ne ↦ ⊎_elim (λ m. inl (suc m.0, omega arith, m.2)) (λ f. inr (none ne f)) (meets n ss (behind k (at ss k).link) i)
]
  where
    none : k ≢ i → ((j : ℕ) → j < n → after j ss (behind k (at ss k).link) ≢ i) → (j : ℕ) → j < suc n → after j ss k ≢ i
    none ne f zero l = ne
    none ne f (suc j) l = f j (omega arith)

-- each that is free
pub all_met :
    (ss : List Slot) (k i : ℕ) → length ss ≡ slot_count → ordered ss k ≡ true → i < slot_count → (at ss i).used ≡ false →
    (j : ℕ) × (j < free_below slot_count ss) × (after j ss k ≡ i)
all_met ss k i e o l u =
    ⊎_elim (λ m. m)
    (λ f. absurd (omega (arith, free_set slot_count ss i new_slot (omega arith) l, ap vacancy u, walk_bound n (set ss i new_slot) k (length-set ss i new_slot ∙ e) (apart n ss k i new_slot f ∙ o))))
    (meets n ss k i)
  where
    n : ℕ
    n = free_below slot_count ss
