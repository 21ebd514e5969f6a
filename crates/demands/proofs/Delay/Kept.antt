-- What every account keeps, whatever a machine answers. Epochs grow and a new handle begins without a snapshot, so one that was read
-- from a handle's own epoch is never ahead of it. And before the first swap nothing is logged and no snapshot was read: in every plan the
-- swap comes first.
use Prim.Native.Nat.{ℕ, zero, suc, ◌%◌, ◌^◌, ◌≤◌}
use mathlib.Core.Path.{◌≡◌, refl, sym, ap, ◌∙◌}
use mathlib.Core.Bool.{Bool, true, false, not, ◌&&◌, ◌||◌, and-false}
use mathlib.Core.List.{List, [], ◌∷◌, ◌++◌}
use native.Mathlib.Omega.{arith}
use lib.ListN.{replicate}
use lib.Dec.{eqb, ltb, eqb-suc-zero}
use borrow.Author.Tests.{ne_eqb}
use Rattle.table.specs.Order.{Op}
use Rattle.table.proofs.Split.{by}
use Rattle.table.proofs.Booleans.{clash}
use Rattle.read.specs.declared.Due.{Due}
use Rattle.read.specs.declared.Due.TheVariants.{Nothing, Load, Restore}
use Rattle.read.specs.declared.Handle.{Handle}
use Rattle.read.specs.declared.Handle.TheVariants.{Drop, Enter, GoOn, Release, LookUp, WasDropped}
use Rattle.read.specs.Machine.{slot_count}
use Rattle.read.specs.Admission.{handle_number}
use Rattle.write.specs.declared.Opening.{Opening}
use Rattle.write.specs.Call.{Call, Create, On, Append, Open, Step, Run}
use Rattle.write.specs.declared.Opening.TheVariants as opening
use Rattle.write.specs.Numbers.{is}
use Rattle.write.specs.World.{Machine, reply, answer_of, value_of}
use Rattle.demands.specs.Account.{delays, Reader, Store, Account, Move, begin, poll, copy, apply, swap, snap, null, lock, finish, up_from, provided, publishing, publish_plan, first_inside, plan_of, unswapped, with_at, inside, with_plan, turned, closes, missed, spoke, advanced, ran, noted}
use Rattle.demands.specs.Table.{meets_reader}
use Rattle.demands.specs.Demands.{Told, fresh_told, tell, telling, told}
use Rattle.demands.proofs.Account.Moves.{meets, is_swap, is_snap, each_move, leaves_any, ran_keeps}

-- ---- plans

-- a swap comes before every snapshot, and b at the end
abbrev swaps_first : Bool → List Move → Bool
swaps_first b [] = b
swaps_first b (x ∷ ms) = elim (is_swap x) [ true ↦ true | false ↦ elim (is_snap x) [ true ↦ false | false ↦ swaps_first b ms ] ]

polls_first : (b : Bool) (n i : ℕ) (ms : List Move) → swaps_first b (up_from n i poll ++ ms) ≡ swaps_first b ms
polls_first b zero i ms = refl
polls_first b (suc n) i ms = polls_first b n (suc i) ms

applies_first : (b : Bool) (n : ℕ) (ms : List Move) → swaps_first b (replicate n apply ++ ms) ≡ swaps_first b ms
applies_first b zero ms = refl
applies_first b (suc n) ms = applies_first b n ms

publishing_first : (b p c : Bool) (n : ℕ) → swaps_first b (publishing p c n) ≡ true
publishing_first b true true n = polls_first b slot_count 0 _ ∙ applies_first b n _
publishing_first b true false n = polls_first b slot_count 0 _ ∙ applies_first b n _
publishing_first b false true n = applies_first b n _
publishing_first b false false n = applies_first b n _

-- what stands behind such a list does not matter
append_first : (b : Bool) (ms ns : List Move) → swaps_first false ms ≡ true → swaps_first b (ms ++ ns) ≡ true
append_first b [] ns e = clash e refl
append_first b (x ∷ ms) ns e = go (is_swap x) (is_snap x) (append_first b ms ns) e
  where
    go : (s r : Bool) → (swaps_first false ms ≡ true → swaps_first b (ms ++ ns) ≡ true) →
        elim s [ true ↦ true | false ↦ elim r [ true ↦ false | false ↦ swaps_first false ms ] ] ≡ true →
        elim s [ true ↦ true | false ↦ elim r [ true ↦ false | false ↦ swaps_first b (ms ++ ns) ] ] ≡ true
    go true r f e = refl
    go false true f e = e
    go false false f e = f e

plan_first : (o : Opening) (s : Store) → unswapped s ≡ true → swaps_first true (plan_of o s) ≡ true
plan_first opening.Publish s u = publishing_first true (not (unswapped s)) (not (unswapped s || s.synced)) s.in_log
plan_first opening.Try s u = publishing_first true true (not (unswapped s || s.synced)) s.in_log
plan_first opening.Flush s u = publishing_first true (not (unswapped s)) (not (unswapped s || s.synced)) s.in_log
plan_first opening.Take s u =
    append_first true (first_inside s) _
    (ap (λ (b : Bool). swaps_first false (provided (b || ltb 0 s.in_log) (begin ∷ publish_plan false s))) u
    ∙ publishing_first false (not (unswapped s)) (not (unswapped s || s.synced)) s.in_log)

-- ---- one reader; u: no swap came

record FineBy (u owned : Bool) (snapshot epoch : ℕ) : Type 0 where
  owns : owned ≡ true → snapshot ≤ epoch
  unread : u ≡ true → snapshot ≡ 0

abbrev Fine : Bool → Reader → Type 0
Fine u r = FineBy u r.owned r.snapshot r.epoch

-- nothing is asked of a new handle before its first snapshot
unowned : {u : Bool} {e : ℕ} (s : ℕ) → (u ≡ true → s ≡ 0) → FineBy u false s e
unowned s h = record { owns = λ o. clash o refl; unread = h }

module _ {u : Bool} (r : Reader) (h : Fine u r) where
  turned_fine : (n : ℕ) (d : Due) → Fine u (turned n d r)
  turned_fine n d = record { owns = λ o. omega (arith, h.owns o); unread = h.unread }

  missed_fine : Fine u (missed r)
  missed_fine = go r.due
    where
      go : (d : Due) → Fine u (elim d [ Nothing ↦ r | Load ↦ turned 0 Restore r | Restore ↦ turned 1 Nothing r ])
      go Nothing = h
      go Load = turned_fine 0 Restore
      go Restore = turned_fine 1 Nothing

  spoke_fine : (x : Handle) (n v : ℕ) (os : List Op) → Fine u (spoke x n v os r)
  spoke_fine x (suc n) v os = by (Fine u) (eqb (handle_number x) 4 && eqb (suc n) 15) (λ _. missed_fine) (λ _. h)
  spoke_fine Drop zero v os = h
  spoke_fine Enter zero v os = by (Fine u) (inside r) (λ _. h) (λ _. turned_fine 1 Load)
  spoke_fine GoOn zero v os = h
  spoke_fine (Release j) zero v os = by (Fine u) (inside (closes j r)) (λ _. h) (λ _. turned_fine 1 r.due)
  spoke_fine (LookUp j key) zero v os = h
  spoke_fine WasDropped zero v os = h

-- ---- an account

record KeptBy (u : Bool) (rs : ℕ → Reader) (in_log : ℕ) (ms : List Move) : Type 0 where
  readers : (i : ℕ) → Fine u (rs i)
  unlogged : u ≡ true → in_log ≡ 0
  unsnapped : u ≡ true → swaps_first true ms ≡ true

abbrev Kept : Account → Type 0
Kept a = KeptBy (unswapped a.store) a.readers a.store.in_log a.plan

-- another reader in one slot, and another plan
kept_at : {u : Bool} {rs : ℕ → Reader} {n : ℕ} {ms : List Move} → KeptBy u rs n ms → (k : ℕ) (r : Reader) → Fine u r → KeptBy u (with_at k r rs) n ms
kept_at {u} h k r x =
    record { readers = λ i. by (Fine u) (eqb i k) (λ _. x) (λ _. h.readers i); unlogged = h.unlogged; unsnapped = h.unsnapped }

kept_plan : {u : Bool} {rs : ℕ → Reader} {n : ℕ} {ms : List Move} → KeptBy u rs n ms → (ns : List Move) → (u ≡ true → swaps_first true ns ≡ true) → KeptBy u rs n ns
kept_plan h ns e = record { readers = h.readers; unlogged = h.unlogged; unsnapped = e }

-- ---- a call, however it is answered

step_kept : (a : Account) → Kept a → Kept (advanced a.plan a)
step_kept a h = go a.plan h.unsnapped
  where
    go : (ms : List Move) → (unswapped a.store ≡ true → swaps_first true ms ≡ true) → Kept (advanced ms a)
    go [] e = h
    go (x ∷ xs) e =
        let u : Bool = unswapped a.store in
        let rest : is_swap x ≡ false → is_snap x ≡ false → KeptBy u a.readers a.store.in_log xs =
        λ p q. kept_plan h xs (λ n. sym (λ i. elim (p i) [ true ↦ true | false ↦ elim (q i) [ true ↦ false | false ↦ swaps_first true xs ] ]) ∙ e n) in
        each_move Kept (with_plan a.trial xs a) x
        (λ p q _. record { same = rest p q; copied = rest p q; nulled = rest p q })
        (λ _.
        let z = eqb-suc-zero a.store.swaps in
        record { readers = λ i. record { owns = (h.readers i).owns; unread = λ n. clash n z }; unlogged = λ n. clash n z; unsnapped = λ n. clash n z })
        (λ i q.
        let none : u ≡ true → ⊥ = λ n. clash (e n) (ap (λ y. swaps_first true (y ∷ xs)) q) in
        kept_at (kept_plan h xs (λ n. absurd (none n))) i _
        (by (Fine u) (a.readers i).lives (λ _. record { owns = λ _. omega arith; unread = λ n. absurd (none n) }) (λ _. h.readers i)))
        (λ q. kept_at (rest (ap is_swap q) (ap is_snap q)) 0 _ (h.readers 0))

declined_kept : (n : ℕ) (a : Account) → Kept a → Kept (elim (eqb n 14) [ true ↦ with_plan a.trial [] a | false ↦ a ])
declined_kept n a h = by Kept (eqb n 14) (λ _. kept_plan h [] (λ _. refl)) (λ _. h)

noted_kept : (k : Call) (n v : ℕ) (a : Account) → Kept a → Kept (noted k n v a)
noted_kept Create zero v a h = kept_at h v _ (unowned (a.readers v).snapshot (h.readers v).unread)
noted_kept Create (suc n) v a h = h
noted_kept (On i x) n v a h =
    let r = kept_at h i _ (spoke_fine (a.readers i) (h.readers i) x n v a.store.published) in
    leaves_any Kept x n i _ r r
noted_kept (Append os) zero v a h =
    by Kept (unswapped a.store)
    (λ u. kept_at (record { readers = h.readers; unlogged = λ n. omega (arith, h.unlogged n); unsnapped = h.unsnapped }) 0 _ (turned_fine (a.readers 0) (h.readers 0) 2 (a.readers 0).due))
    (λ u. record { readers = h.readers; unlogged = λ n. clash n u; unsnapped = h.unsnapped })
noted_kept (Append os) (suc n) v a h = h
noted_kept (Open o) zero v a h =
    by Kept (is 11 (Open o) && not (eqb v 1)) (λ _. h) (λ _. kept_plan h (plan_of o a.store) (plan_first o a.store))
noted_kept (Open o) (suc n) v a h = h
noted_kept Step zero v a h = declined_kept 0 (advanced a.plan a) (step_kept a h)
noted_kept Step (suc n) v a h = declined_kept (suc n) a h
noted_kept Run n v a h = declined_kept n (ran v a) (ran_keeps Kept step_kept v a h)

-- ---- every history, of any machine

module _ (m : Machine) where
  telling_kept : (ks : List Call) (t : Told) → Kept t.account → Kept (telling m ks t).account
  unfolding tell telling
  telling_kept [] t h = h
  telling_kept (k ∷ ks) t h =
      let o = reply m k t.world in telling_kept ks (tell m k t) (noted_kept k (answer_of o) (value_of o) t.account h)

  kept : (ks : List Call) → Kept (told m ks).account
  kept ks =
      telling_kept ks fresh_told
      (record { readers = λ i. by (Fine true) (eqb i 0) (λ _. unowned 0 (λ _. refl)) (λ _. unowned 0 (λ _. refl)); unlogged = λ _. refl; unsnapped = λ _. refl })

  module _ (ks : List Call) where
    abbrev a : Account
    a = (told m ks).account

    pub owned_behind : (i : ℕ) → (a.readers i).owned ≡ true → (a.readers i).snapshot ≤ (a.readers i).epoch
    owned_behind i = ((kept ks).readers i).owns

    pub none_logged : unswapped a.store ≡ true → a.store.in_log ≡ 0
    none_logged = (kept ks).unlogged

    -- before the first swap no poll meets a reader
    pub none_met : unswapped a.store ≡ true → meets_reader a ≡ false
    none_met u = go a.plan
      where
        even : (i : ℕ) → delays (a.readers i) ≡ false
        even i =
            let e = ((kept ks).readers i).unread u in
            ap (λ (b : Bool). (a.readers i).lives && (b && eqb ((a.readers i).snapshot % 2 ^ 64) ((a.readers i).epoch % 2 ^ 64)))
            (ne_eqb ((a.readers i).snapshot % 2) 1 (λ q. omega (arith, e)))
            ∙ and-false (a.readers i).lives

        one : (x : Move) → meets a x ≡ false
        one begin = refl
        one (poll i) = even i
        one copy = refl
        one apply = refl
        one swap = refl
        one (snap i) = refl
        one null = refl
        one lock = refl
        one finish = refl

        go : (ms : List Move) → ◌≡◌ {A = Bool} (elim ms [ [] ↦ false | x ∷ xs ↦ meets a x ]) false
        go [] = refl
        go (x ∷ xs) = one x
