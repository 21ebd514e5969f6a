-- A guard stays open, on what it loaded, until it is released: no other call closes it, and none opens it anew.
use Prim.Native.Nat.{ℕ, zero, suc, ◌<◌}
use mathlib.Core.Path.{◌≡◌, refl, sym, ap, ◌∙◌, subst}
use mathlib.Core.Logic.{◌≢◌}
use mathlib.Core.Bool.{Bool, true, false, not, ◌&&◌}
use mathlib.Core.List.{List, [], ◌∷◌}
use native.Mathlib.Decide.{ℕ_discrete}
use lib.Dec.{eqb}
use Rattle.table.specs.Order.{Op}
use Rattle.table.proofs.Seek.{seek_found}
use Rattle.table.proofs.Split.{by}
use Rattle.table.proofs.Booleans.{clash}
use Rattle.read.specs.declared.Due.{Due}
use Rattle.read.specs.declared.Due.TheVariants.{Nothing, Load, Restore}
use Rattle.read.specs.declared.Control.{Control}
use Rattle.read.specs.declared.Handle.{Handle}
use Rattle.read.specs.declared.Handle.TheVariants.{Drop, Enter, GoOn, Release, LookUp, WasDropped}
use Rattle.read.specs.Machine.{guard_count}
use Rattle.read.specs.Calls.{slot_at}
use Rattle.read.specs.Admission.{handle_number}
use Rattle.write.specs.declared.Opening.{Opening}
use Rattle.write.specs.Call.{Call, Create, On, Append, Open, Step, Run}
use Rattle.write.specs.Machine.{call_rule}
use Rattle.write.specs.World.{World, reply, answer_of, value_of}
use Rattle.write.specs.Numbers.{is}
use Rattle.demands.specs.Account.{Reader, Account, Move, with_at, lowest, inside, new_reader, dropped, turned, opens, closes, reads_epoch, missed, spoke, unswapped, with_plan, advanced, ran, if_declined, noted}
use Rattle.demands.specs.Table.{worth_on}
use Rattle.demands.proofs.Others.{on_other}
use Rattle.demands.proofs.Shown.Guards.{open_below, same_at, other_at}
use Rattle.demands.proofs.Account.Moves.{no_move, leaves_any, ran_keeps}
use Rattle.demands.proofs.Account.Order.{next_is, next_vacant}
use Rattle.demands.proofs.Account.Calls.{Tie}
use Rattle.demands.proofs.Account.Demands.{worth_is, owner}

module _ (j : ℕ) where
  -- guard j, if it is open, stays so with what it loaded
  abbrev pub Stays : Reader → Reader → Type 0
  Stays r s = r.guards j ≡ true → (s.guards j ≡ true) × (s.loaded j ≡ r.loaded j)

  same : (r : Reader) → Stays r r
  same r o = (o, refl)

  then : (r s t : Reader) → Stays r s → Stays s t → Stays r t
  then r s t f g o = let (p, q) = f o in let (x, y) = g p in (x, y ∙ q)

  at_stays : (rs : ℕ → Reader) (k : ℕ) (s : Reader) (i : ℕ) → (k ≡ i → Stays (rs k) s) → Stays (rs i) (with_at k s rs i)
  at_stays rs k s i f = elim (ℕ_discrete i k) [
    | yes e ↦ subst (λ (z : ℕ). Stays (rs z) (with_at k s rs z)) (sym e) (subst (λ (q : Reader). Stays (rs k) q) (sym (same_at k s rs)) (f (sym e)))
    | no ne ↦ subst (λ (q : Reader). Stays (rs i) q) (sym (other_at k s rs i ne)) (same (rs i))
  ]

  -- ---- what is noted of the writer's calls

  module _ (i : ℕ) where
    -- reader i stays from account a to account b
    abbrev Both : Account → Account → Type 0
    Both a b = Stays (a.readers i) (b.readers i)

    step_stays : (ms : List Move) (a : Account) → Both a (advanced ms a)
    step_stays [] a = same (a.readers i)
    step_stays (x ∷ xs) a =
        let h = same (a.readers i) in
        no_move (Both a) (with_plan a.trial xs a) h h h h
        (λ k. at_stays a.readers k (reads_epoch (a.readers k)) i (λ _. by (Stays (a.readers k)) (a.readers k).lives (λ _ o. (o, refl)) (λ _ o. (o, refl))))
        (at_stays a.readers 0 (dropped (a.readers 0)) i (λ _ o. (o, refl))) x

    ran_stays : (n : ℕ) (a : Account) → Both a (ran n a)
    ran_stays n a = ran_keeps (Both a) (λ b h. then (a.readers i) (b.readers i) ((advanced b.plan b).readers i) h (step_stays b.plan b)) n a (same (a.readers i))

    -- a declined step ends its call
    ended_stays : (n : ℕ) (a b : Account) → Both a b → Both a (if_declined n b)
    ended_stays n a b h = by (Both a) (eqb n 14) (λ _. h) (λ _. h)

    made_stays : (n v : ℕ) (a : Account) → Both a (noted Step n v a)
    made_stays zero v a = ended_stays 0 a (advanced a.plan a) (step_stays a.plan a)
    made_stays (suc n) v a = ended_stays (suc n) a a (same (a.readers i))

    append_stays : (os : List Op) (n v : ℕ) (a : Account) → Both a (noted (Append os) n v a)
    append_stays os (suc n) v a = same (a.readers i)
    append_stays os zero v a =
        by (Both a) (unswapped a.store) (λ _. at_stays a.readers 0 (turned 2 (a.readers 0).due (a.readers 0)) i (λ _ o. (o, refl)))
        (λ _. same (a.readers i))

    open_stays : (o : Opening) (n v : ℕ) (a : Account) → Both a (noted (Open o) n v a)
    open_stays o (suc n) v a = same (a.readers i)
    open_stays o zero v a = by (Both a) (is 11 (Open o) && not (eqb v 1)) (λ _. same (a.readers i)) (λ _. same (a.readers i))

  -- ---- a call on its handle

  module _ (r : Reader) (below : r.guards j ≡ true → j < guard_count) (os : List Op) where
    -- what opens is a guard that was not open
    opens_stays : (v : ℕ) → v ≡ lowest r → Stays r (opens v os r)
    opens_stays v q o = (other_at v true r.guards j fresh ∙ o, other_at v os r.loaded j fresh)
      where
        fresh : j ≡ v → ⊥
        fresh e =
            let lt : lowest r < guard_count = subst (λ (x : ℕ). x < guard_count) (e ∙ q) (below o) in
            clash (seek_found (λ x. not (r.guards x)) guard_count lt) (ap not (subst (λ (x : ℕ). r.guards x ≡ true) (e ∙ q) o))

    missed_stays : Stays r (missed r)
    missed_stays = go r.due
      where
        go : (d : Due) → Stays r (elim d [ Nothing ↦ r | Load ↦ turned 0 Restore r | Restore ↦ turned 1 Nothing r ])
        go Nothing o = (o, refl)
        go Load o = (o, refl)
        go Restore o = (o, refl)

    spoke_stays : (x : Handle) → x ≢ Release j → (taken : Bool) (n v : ℕ) → (n ≡ 0 → v ≡ worth_on x taken r) → Stays r (spoke x n v os r)
    spoke_stays x ne taken (suc n) v f = by (Stays r) (eqb (handle_number x) 4 && eqb (suc n) 15) (λ _. missed_stays) (λ _. same r)
    spoke_stays Drop ne taken zero v f = λ o. (o, refl)
    spoke_stays Enter ne taken zero v f = go (inside r) (f refl)
      where
        go : (b : Bool) → v ≡ elim b [ true ↦ lowest r | false ↦ 0 ] → Stays r (elim b [ true ↦ opens v os r | false ↦ turned 1 Load r ])
        go true q = opens_stays v q
        go false q = λ o. (o, refl)
    spoke_stays GoOn ne taken zero v f = opens_stays v (f refl)
    spoke_stays (Release k) ne taken zero v f = go (inside (closes k r))
      where
        other : j ≡ k → ⊥
        other e = ne (ap Release (sym e))

        go : (b : Bool) → Stays r (elim b [ true ↦ closes k r | false ↦ turned 1 r.due (closes k r) ])
        go true o = (other_at k false r.guards j other ∙ o, refl)
        go false o = (other_at k false r.guards j other ∙ o, refl)
    spoke_stays (LookUp k key) ne taken zero v f = same r
    spoke_stays WasDropped ne taken zero v f = same r

-- ---- of the rules

module _ {w : World} {a : Account} (h : Tie w a) (i j : ℕ) where
  abbrev c : Control
  c = w.state.control

  free_slot : answer_of (reply call_rule Create w) ≡ 0 → (a.readers (value_of (reply call_rule Create w))).lives ≡ false
  free_slot z =
      subst (λ (x : ℕ). (a.readers x).lives ≡ false) (next_is h.order ∙ sym (worth_is h Create refl z))
      (sym (h.reads c.free).lives ∙ next_vacant h.order)

  create_stays : (n v : ℕ) → (n ≡ 0 → (a.readers v).lives ≡ false) → Stays j (a.readers i) ((noted Create n v a).readers i)
  create_stays zero v f = at_stays j a.readers v (new_reader (a.readers v)) i (λ e o. clash (owner h v j o) (f refl))
  create_stays (suc n) v f = same j (a.readers i)

  pub call_stays : (k : Call) → k ≢ On i (Release j) →
      Stays j (a.readers i) ((noted k (answer_of (reply call_rule k w)) (value_of (reply call_rule k w)) a).readers i)
  call_stays Create ne = create_stays (answer_of (reply call_rule Create w)) (value_of (reply call_rule Create w)) free_slot
  call_stays (On k x) ne =
      let o = reply call_rule (On k x) w in
      let s = at_stays j a.readers k _ i (λ e.
      spoke_stays j (a.readers k) (λ o. open_below (slot_at w.state k).guards j ((h.reads k).guards j ∙ o)) a.store.published x
      (λ q. ne (λ z. On (e z) (q z))) a.taken (answer_of o) (value_of o) (worth_is h (On k x) (on_other k x).no_run)) in
      leaves_any (λ (b : Account). Stays j (a.readers i) (b.readers i)) x (answer_of o) k _ s s
  call_stays (Append os) ne = append_stays j i os (answer_of (reply call_rule (Append os) w)) (value_of (reply call_rule (Append os) w)) a
  call_stays (Open o) ne = open_stays j i o (answer_of (reply call_rule (Open o) w)) (value_of (reply call_rule (Open o) w)) a
  call_stays Step ne = made_stays j i (answer_of (reply call_rule Step w)) (value_of (reply call_rule Step w)) a
  call_stays Run ne = ended_stays j i (answer_of (reply call_rule Run w)) a _ (ran_stays j i (value_of (reply call_rule Run w)) a)
