-- The log and the copies: each call and each step of the writer carries the stage to the next, with no word of slots or guards.
use Prim.Native.Nat.{ℕ, suc, ◌+◌, ◌≤◌, ◌<◌}
use mathlib.Core.Path.{◌≡◌, refl, sym, ap, ◌∙◌, subst}
use mathlib.Core.Bool.{Bool, true, false, ◌||◌}
use mathlib.Core.List.{List, [], ◌∷◌, ◌++◌, append_assoc, append-nil}
use native.Mathlib.Omega.{arith}
use native.Mathlib.Numerals.{add-one}
use lib.ListN.{length, get_or, take, drop}
use lib.Seq.{take-suc, take_all, take-length, drop-nil, take-append-le, drop-append-le}
use lib.Dec.{ltb}
use borrow.Author.Tests.{ltb-false}
use Rattle.table.specs.Copy.{applied}
use Rattle.table.specs.Order.{Op, empty, after}
use Rattle.table.proofs.Split.{by, below}
use Rattle.table.proofs.Booleans.{neither, clash}
use Rattle.read.specs.declared.Phase.{Phase}
use Rattle.read.specs.declared.Phase.TheVariants.{Idle, Begin, Poll, Copy, Drain, Keep, Swap, Snap, Null, Lock, LastSnap, LastPoll, Finish, Gone}
use Rattle.read.specs.declared.Job.{Job}
use Rattle.read.specs.declared.Job.TheVariants.{Publish, Try, TakeFirst, TakeSecond}
use Rattle.read.specs.declared.Control.{Control}
use Rattle.read.specs.Machine.{slot_count, is_gone, nulls}
use Rattle.write.specs.Steps.{keeping, draining, polled, polling, beginning, published, next_job, last_polling, last_snapping, snapping}
use Rattle.write.specs.Begins.{taking}
use Rattle.write.proofs.Cases.{keeping_cases, draining_cases, polled_cases, polling_cases, beginning_cases, last_polling_cases, last_snapping_cases, snapping_cases}
use Rattle.demands.proofs.Shown.Invariant.{Stage, early, late, Lacks, is_second, Reach, reach, before, reach_at, firstly}
use Rattle.demands.proofs.Shown.Log.{no_op}

pub after_append : (a b : List Op) (w : List ℕ) → after (a ++ b) w ≡ after b (after a w)
after_append [] b w = refl
after_append (o ∷ a) b w = after_append a b (applied o.kind o.key o.amount w)

no_ops : (os : List Op) → length os ≡ 0 → os ≡ []
no_ops [] e = refl
no_ops (o ∷ os) e = absurd (omega arith)

-- ---- how far the writer has come where it goes on, which is not behind take's finish

pub record Stands (h : Reach) (p : Phase) : Type 0 where
  pub at : reach_at p ≡ h
  pub stays : is_gone p ≡ false

pub here : {p : Phase} → is_gone p ≡ false → Stands (reach_at p) p
here e = record { at = refl; stays = e }

-- the same reach, otherwise said
thus : {a b : Reach} {p : Phase} → a ≡ b → Stands a p → Stands b p
thus e h = record { at = h.at ∙ e; stays = h.stays }

abbrev pub full : Reach
full = before slot_count slot_count

pub stands_keeping : (n k : ℕ) → Stands full (keeping n k)
stands_keeping n k = keeping_cases (Stands full) n k (λ _. here refl) (λ _. here refl)

pub stands_draining : (s n : ℕ) → Stands full (draining s n)
stands_draining s n = draining_cases (Stands full) s n (λ _. here refl) (λ _. stands_keeping n 0)

stands_polled : (c : Control) → Stands full (polled c)
stands_polled c =
    polled_cases (Stands full) c (λ _. here refl) (λ _ _. here refl) (λ _ _. stands_draining c.swapped c.length)

pub stands_polling : (c : Control) (k : ℕ) → k ≤ slot_count → Stands (before k slot_count) (polling c k)
stands_polling c k h =
    polling_cases (Stands (before k slot_count)) c k (λ _. here refl)
    (λ g. let q : slot_count ≡ k = omega arith in thus (ap (λ (x : ℕ). before x slot_count) q) (stands_polled c))

-- a call begins with all slots snapped, and none cleared but before the first swap
pub record Begins (c : Control) (p : Phase) : Type 0 where
  pub at : firstly c.first (reach_at p) ≡ firstly c.first (reach_at Idle)
  pub stays : is_gone p ≡ false

pub begins_polling : (c : Control) → Begins c (polling c 0)
begins_polling c = let h = stands_polling c 0 (omega arith) in record { at = ap (firstly c.first) h.at; stays = h.stays }

pub begins_beginning : (c : Control) → Begins c (beginning c)
begins_beginning c =
    beginning_cases (Begins c) c
    (λ e. record { at = ap (λ (f : Bool). firstly f full) e ∙ sym (ap (λ (f : Bool). firstly f (before 0 slot_count)) e); stays = refl })
    (λ e. begins_polling c)

pub begins_taking : (c : Control) → Begins c (taking c)
begins_taking c =
    by (Begins c) (c.first || ltb 0 c.length) (λ _. record { at = refl; stays = refl }) (λ _. record { at = refl; stays = refl })

stands_published : (j : Job) (n : ℕ) → Stands (before 0 slot_count) (published j n)
stands_published Publish n = here refl
stands_published Try n = here refl
stands_published TakeFirst n = below (Stands (before 0 slot_count)) 0 n (λ _. here refl) (λ _. here refl)
stands_published TakeSecond n = here refl

pub stands_snapping : (c : Control) (k : ℕ) → k ≤ slot_count → Stands (before 0 k) (snapping c k).phase
stands_snapping c k h =
    snapping_cases (λ d. Stands (before 0 k) d.phase) c k (λ _. here refl)
    (λ g. let q : slot_count ≡ k = omega arith in thus (ap (before 0) q) (stands_published c.job c.length))

pub stands_last_polling : (k : ℕ) → k ≤ slot_count → Stands (reach k slot_count k slot_count) (last_polling k)
stands_last_polling k h =
    last_polling_cases (Stands (reach k slot_count k slot_count)) k (λ _. here refl)
    (λ g. let q : slot_count ≡ k = omega arith in thus (ap (λ (x : ℕ). reach x slot_count x slot_count) q) (here refl))

pub stands_last_snapping : (k : ℕ) → k ≤ slot_count → Stands (reach 0 slot_count 0 k) (last_snapping k)
stands_last_snapping k h =
    last_snapping_cases (Stands (reach 0 slot_count 0 k)) k (λ _. here refl)
    (λ g. let q : slot_count ≡ k = omega arith in thus (ap (reach 0 slot_count 0) q) (stands_last_polling 0 (omega arith)))

-- the pointer's side and `first` stay
abbrev pub steered : Bool → Bool → Bool → Phase → Job → ℕ → ℕ → Control → Control
steered null lock second p j n s c = record {
  right = c.right;
  null = null;
  lock = lock;
  first = c.first;
  second = second;
  phase = p;
  job = j;
  length = n;
  swapped = s;
  free = c.free;
}

-- before null take has waited for nobody
pub before_null : (p : Phase) → nulls p ≡ false → ((reach_at p).emptied ≡ 0) × ((reach_at p).resnapped ≡ 0)
before_null Idle e = (refl, refl)
before_null Begin e = (refl, refl)
before_null (Poll k) e = (refl, refl)
before_null Copy e = (refl, refl)
before_null Drain e = (refl, refl)
before_null (Keep k) e = (refl, refl)
before_null Swap e = (refl, refl)
before_null (Snap k) e = (refl, refl)
before_null Null e = (refl, refl)
before_null Lock e = (refl, refl)
before_null (LastSnap k) e = clash refl e
before_null (LastPoll k) e = clash refl e
before_null Finish e = clash refl e
before_null Gone e = clash refl e

-- another phase and job, with a lock and a pointer that fit
abbrev pub onward : Bool → Bool → Phase → Job → Control → Control
onward null lock p j c = steered null lock c.second p j c.length c.swapped c

-- that is all that the snapshots change
pub snapping_onward : (c : Control) (k : ℕ) → snapping c k ≡ onward c.null (snapping c k).lock (snapping c k).phase (snapping c k).job c
snapping_onward c k = snapping_cases (λ d. d ≡ onward c.null d.lock d.phase d.job c) c k (λ _. refl) (λ _. refl)

-- ---- the stage where the writer goes on

module _ {os : List Op} {r w : List ℕ} {acc pb : List Op} where
  stage_keeping :
      {f b : Bool} {j : Job} {s : ℕ} (n k : ℕ) → length os ≡ n → f ≡ false → b ≡ false → s ≡ 0 → acc ≡ pb ++ drop s os →
      w ≡ after (take k os) r → (is_second j ≡ true → s ≡ length os) → Stage (keeping n k) j b s os r w acc pb f
  stage_keeping {f} {b} {j} {s} n k ln e q z sp h em =
      keeping_cases (λ p. Stage p j b s os r w acc pb f) n k
      (λ g. late e (record { behind = sp; holds = (q, z, h); empties = em }))
      (λ g. late e (record { behind = sp; holds = (q, z, h ∙ ap (λ (x : List Op). after x r) (take_all k os (omega arith))); empties = em }))

  stage_draining :
      {f b : Bool} {j : Job} {s : ℕ} (n : ℕ) → length os ≡ n → f ≡ false → b ≡ false → acc ≡ pb ++ drop s os → after (take s os) w ≡ r →
      (is_second j ≡ true → s ≡ length os) → Stage (draining s n) j b s os r w acc pb f
  stage_draining {f} {b} {j} {s} n ln e q sp h em =
      draining_cases (λ p. Stage p j b s os r w acc pb f) s n
      (λ g. late e (record { behind = sp; holds = (q, h); empties = em }))
      (λ z. stage_keeping n 0 ln e q z sp (subst (λ (x : ℕ). after (take x os) w ≡ r) z h) em)

  -- the polls are over
  stage_polled :
      (c : Control) → length os ≡ c.length → Stage Begin c.job c.second c.swapped os r w acc pb c.first →
      Stage (polled c) c.job c.second c.swapped os r w acc pb c.first
  stage_polled c ln (early e h) =
      polled_cases (λ p. Stage p c.job c.second c.swapped os r w acc pb c.first) c (λ _. early e h) (λ q _. clash e q) (λ q _. clash e q)
  stage_polled c ln (late e h) =
      polled_cases (λ p. Stage p c.job c.second c.swapped os r w acc pb c.first) c (λ q. clash q e)
      (λ _ q. late e (record { behind = h.behind; holds = subst (λ (b : Bool). Lacks b c.swapped os r w) q h.holds; empties = h.empties }))
      (λ _ q. stage_draining c.length ln e q h.behind (subst (λ (b : Bool). Lacks b c.swapped os r w) q h.holds) h.empties)

  -- the polls change nothing
  pub stage_polling :
      (c : Control) (k : ℕ) → length os ≡ c.length → Stage Begin c.job c.second c.swapped os r w acc pb c.first →
      Stage (polling c k) c.job c.second c.swapped os r w acc pb c.first
  stage_polling c k ln h =
      polling_cases (λ p. Stage p c.job c.second c.swapped os r w acc pb c.first) c k (λ _. to_poll h) (λ _. stage_polled c ln h)
    where
      to_poll : {j : Job} {b : Bool} {s : ℕ} {f : Bool} → Stage Begin j b s os r w acc pb f → Stage (Poll k) j b s os r w acc pb f
      to_poll (early e h) = early e h
      to_poll (late e h) = late e (record { behind = h.behind; holds = h.holds; empties = h.empties })

  pub stage_beginning :
      (c : Control) → length os ≡ c.length → Stage Begin c.job c.second c.swapped os r w acc pb c.first →
      Stage (beginning c) c.job c.second c.swapped os r w acc pb c.first
  stage_beginning c ln h =
      beginning_cases (λ p. Stage p c.job c.second c.swapped os r w acc pb c.first) c (λ e. to_swap e h) (λ _. stage_polling c 0 ln h)
    where
      to_swap : {j : Job} {b : Bool} {s : ℕ} {f : Bool} → f ≡ true → Stage Begin j b s os r w acc pb f → Stage Swap j b s os r w acc pb f
      to_swap q (early e h) = early e h
      to_swap q (late e h) = clash q e

  stage_published :
      {f b : Bool} {s : ℕ} (n : ℕ) (j : Job) → length os ≡ n → f ≡ false → acc ≡ pb ++ drop s os → Lacks b s os r w → s ≡ length os →
      (is_second j ≡ true → os ≡ []) → Stage (published j n) (next_job j) b s os r w acc pb f
  stage_published n Publish ln e sp h z em = late e (record { behind = sp; holds = h; empties = tt })
  stage_published n Try ln e sp h z em = late e (record { behind = sp; holds = h; empties = tt })
  stage_published {f} {b} {s} n TakeFirst ln e sp h z em =
      below (λ p. Stage p TakeSecond b s os r w acc pb f) 0 n
      (λ g. late e (record { behind = sp; holds = h; empties = λ _. z }))
      (λ g. late e (record { behind = sp; holds = tt; empties = no_ops os (omega arith) }))
  stage_published n TakeSecond ln e sp h z em = late e (record { behind = sp; holds = tt; empties = em refl })

  -- behind the swap
  pub stage_snapping :
      (c : Control) (k : ℕ) → length os ≡ c.length → c.first ≡ false → acc ≡ pb ++ drop c.swapped os →
      Lacks c.second c.swapped os r w → c.swapped ≡ length os → (is_second c.job ≡ true → os ≡ []) →
      Stage (snapping c k).phase (snapping c k).job c.second c.swapped os r w acc pb c.first
  stage_snapping c k ln e sp h z em =
      snapping_cases (λ d. Stage d.phase d.job c.second c.swapped os r w acc pb c.first) c k
      (λ g. late e (record { behind = sp; holds = h; empties = (z, em) }))
      (λ g. stage_published c.length c.job ln e sp h z em)

-- ---- each step

module _ {j : Job} {b : Bool} {s : ℕ} {os : List Op} {r w : List ℕ} {acc pb : List Op} {f : Bool} where
  -- another job, that is not take's second publish
  pub begin_stage : {j' : Job} → is_second j' ≡ false → Stage Idle j b s os r w acc pb f → Stage Begin j' b s os r w acc pb f
  begin_stage q (early e h) = early e h
  begin_stage q (late e h) = late e (record { behind = h.behind; holds = h.holds; empties = λ x. clash x q })

  -- a try is declined
  pub idle_stage : Stage Begin j b s os r w acc pb f → Stage Idle j b s os r w acc pb f
  idle_stage (early e h) = early e h
  idle_stage (late e h) = late e (record { behind = h.behind; holds = h.holds; empties = tt })

  pub poll_stage : {k : ℕ} → Stage (Poll k) j b s os r w acc pb f → Stage Begin j b s os r w acc pb f
  poll_stage (early e h) = early e h
  poll_stage (late e h) = late e (record { behind = h.behind; holds = h.holds; empties = h.empties })

  -- the copying: both copies are alike
  pub copy_stage : (n : ℕ) → length os ≡ n → Stage Copy j b s os r w acc pb f → Stage (draining s n) j false s os r r acc pb f
  copy_stage n ln (early e h) = clash h.0 refl
  copy_stage n ln (late e h) =
      stage_draining n ln e refl h.behind (subst (λ (x : ℕ). after (take x os) r ≡ r) (sym h.holds) refl) h.empties

  -- an operation that the read copy has already
  pub drain_stage :
      (n s' : ℕ) (o : Op) (os' : List Op) → length os' ≡ n → s ≡ suc s' → os ≡ o ∷ os' → Stage Drain j b s os r w acc pb f →
      Stage (draining s' n) j b s' os' r (after (o ∷ []) w) acc pb f
  drain_stage n s' o os' ln z q (early e h) = clash h.0 refl
  drain_stage n s' o os' ln z q (late e h) =
      stage_draining n ln e h.holds.0 (h.behind ∙ (λ t. pb ++ drop (z t) (q t))) ((λ t. after (take (sym z t) (sym q t)) w) ∙ h.holds.1)
      (λ x. let a = h.empties x in let d : length os ≡ suc (length os') = ap length q in omega arith)

  -- one that it has not
  pub keep_stage :
      {k : ℕ} (n : ℕ) → length os ≡ n → k < n → Stage (Keep k) j b s os r w acc pb f →
      Stage (keeping n (k + 1)) j b s os r (after (get_or os k no_op ∷ []) w) acc pb f
  keep_stage n ln lt (early e h) = clash h.0 refl
  keep_stage {k} n ln lt (late e h) =
      stage_keeping n (k + 1) ln e h.holds.0 h.holds.1 h.behind
      (ap (after (get_or os k no_op ∷ [])) h.holds.2
      ∙ sym (rw (add-one, take-suc os k no_op (omega arith)) (after_append (take k os) (get_or os k no_op ∷ []) r)))
      h.empties

  pub snap_stage :
      {k : ℕ} → Stage (Snap k) j b s os r w acc pb f →
      (f ≡ false) × (acc ≡ pb ++ drop s os) × Lacks b s os r w × (s ≡ length os) × (is_second j ≡ true → os ≡ [])
  snap_stage (early e h) = clash h.0 refl
  snap_stage (late e h) = (e, h.behind, h.holds, h.empties.0, h.empties.1)

  -- the write copy holds all that was accepted, and lacks nothing of what it will be read for
  pub swap_stage :
      Stage Swap j b s os r w acc pb f → r ≡ after pb empty →
      (w ≡ after acc empty) × Lacks b (length os) os w r × (is_second j ≡ true → os ≡ [])
  swap_stage (early e h) q =
      (h.1.holds, subst (λ (x : Bool). Lacks x (length os) os w r) (sym h.1.unsynced) (ap length h.1.unlogged), λ _. h.1.unlogged)
  swap_stage (late e h) q = (
    all,
    subst (λ (x : Bool). Lacks x (length os) os w r) (sym h.holds.0) (rw (take-length os) (sym h.holds.2)),
    λ x. no_ops os (let a = h.empties x in let d = h.holds.1 in omega arith),
  )
    where
      all : w ≡ after acc empty
      all = h.holds.2 ∙ sym (ap (λ (x : List Op). after x empty) (h.behind ∙ ap (λ (x : ℕ). pb ++ drop x os) h.holds.1) ∙ after_append pb os empty ∙ ap (after os) (sym q))

  -- operations are accepted
  pub log_stage :
      (ns : List Op) → f ≡ false → s ≤ length os → Stage Idle j b s os r w acc pb f → Stage Idle j b s (os ++ ns) r w (acc ++ ns) pb f
  log_stage ns q within (early e h) = clash e q
  log_stage ns q within (late e h) = late e (record {
    behind = rw (h.behind, drop-append-le s os ns within) (append_assoc pb (drop s os) ns);
    holds = go b h.holds;
    empties = tt;
  })
    where
      go : (b : Bool) → Lacks b s os r w → Lacks b s (os ++ ns) r w
      go true z = z
      go false z = rw (take-append-le s os ns within) z

  pub apply_stage : (ns : List Op) → f ≡ true → Stage Idle j b s os r w acc pb f → Stage Idle j b s os r (after ns w) (acc ++ ns) pb f
  apply_stage ns q (early e h) = early e (
    refl,
    record {
      unsynced = h.1.unsynced;
      unlogged = h.1.unlogged;
      holds = ap (after ns) h.1.holds ∙ sym (after_append acc ns empty);
    },
  )
  apply_stage ns q (late e h) = clash q e

-- a take begins
pub take_stage :
    {j : Job} {os : List Op} {r w : List ℕ} {acc pb : List Op} (c : Control) → length os ≡ c.length →
    Stage Idle j c.second c.swapped os r w acc pb c.first →
    Stage (taking c) TakeFirst c.second c.swapped os r w acc pb c.first
take_stage {j} {os} {r} {w} {acc} {pb} c ln h =
    by (λ p. Stage p TakeFirst c.second c.swapped os r w acc pb c.first) (c.first || ltb 0 c.length)
    (λ _. begin_stage refl h)
    (λ q.
    let z : c.length ≤ 0 = ltb-false 0 c.length (neither c.first _ q).1 in
    to_null h (neither c.first _ q).0 (no_ops os (omega arith)))
  where
    to_null : {b : Bool} {s : ℕ} {f : Bool} → Stage Idle j b s os r w acc pb f → f ≡ false → os ≡ [] → Stage Null TakeFirst b s os r w acc pb f
    to_null (early e h) q z = clash e q
    to_null (late e h) q z = late e (record { behind = h.behind; holds = tt; empties = z })

-- ---- take's end, where only the read copy counts

pub record Ending (s : ℕ) (os : List Op) (acc pb : List Op) (f : Bool) : Type 0 where
  pub swapped : f ≡ false
  pub behind : acc ≡ pb ++ drop s os
  pub spent : os ≡ []

module _ {j : Job} {b : Bool} {s : ℕ} {os : List Op} {r w : List ℕ} {acc pb : List Op} {f : Bool} where
  pub from_null : Stage Null j b s os r w acc pb f → Ending s os acc pb f
  from_null (early e h) = clash h.0 refl
  from_null (late e h) = record { swapped = e; behind = h.behind; spent = h.empties }

  pub from_lock : Stage Lock j b s os r w acc pb f → Ending s os acc pb f
  from_lock (early e h) = clash h.0 refl
  from_lock (late e h) = record { swapped = e; behind = h.behind; spent = h.empties }

  pub from_last_snap : {k : ℕ} → Stage (LastSnap k) j b s os r w acc pb f → Ending s os acc pb f
  from_last_snap (early e h) = clash h.0 refl
  from_last_snap (late e h) = record { swapped = e; behind = h.behind; spent = h.empties }

  pub from_last_poll : {k : ℕ} → Stage (LastPoll k) j b s os r w acc pb f → Ending s os acc pb f
  from_last_poll (early e h) = clash h.0 refl
  from_last_poll (late e h) = record { swapped = e; behind = h.behind; spent = h.empties }

  pub from_finish : Stage Finish j b s os r w acc pb f → Ending s os acc pb f
  from_finish (early e h) = clash h.0 refl
  from_finish (late e h) = record { swapped = e; behind = h.behind; spent = h.empties }

  module _ (h : Ending s os acc pb f) where
    pub to_lock : Stage Lock j b s os r w acc pb f
    to_lock = late h.swapped (record { behind = h.behind; holds = tt; empties = h.spent })

    pub to_last_polling : (k : ℕ) → Stage (last_polling k) j b s os r w acc pb f
    to_last_polling k =
        last_polling_cases (λ p. Stage p j b s os r w acc pb f) k
        (λ _. late h.swapped (record { behind = h.behind; holds = tt; empties = h.spent }))
        (λ _. late h.swapped (record { behind = h.behind; holds = tt; empties = h.spent }))

    pub to_last_snapping : (k : ℕ) → Stage (last_snapping k) j b s os r w acc pb f
    to_last_snapping k =
        last_snapping_cases (λ p. Stage p j b s os r w acc pb f) k
        (λ _. late h.swapped (record { behind = h.behind; holds = tt; empties = h.spent })) (λ _. to_last_polling 0)

pub to_gone :
    {j : Job} {b : Bool} {s : ℕ} {os : List Op} {r w : List ℕ} {acc pb : List Op} {f : Bool} → Ending s os acc pb f → w ≡ empty →
    Stage Gone j b 0 [] r w acc pb f
to_gone {s} {pb} h z = late h.swapped (record {
  behind = h.behind ∙ ap (λ (x : List Op). pb ++ x) (ap (drop s) h.spent ∙ drop-nil s);
  holds = z;
  empties = refl;
})

-- what take leaves is all that was accepted, and the other copy is empty
pub gone_stage :
    {j : Job} {b : Bool} {s : ℕ} {os : List Op} {r w : List ℕ} {acc pb : List Op} {f : Bool} → Stage Gone j b s os r w acc pb f →
    (acc ≡ pb) × (w ≡ empty)
gone_stage (early e h) = clash h.0 refl
gone_stage {s} {pb} (late e h) =
    (h.behind ∙ ap (λ (x : List Op). pb ++ x) (ap (drop s) h.empties ∙ drop-nil s) ∙ append-nil pb, h.holds)

-- before the first swap nothing is logged
pub early_empty :
    {p : Phase} {j : Job} {b : Bool} {s : ℕ} {os : List Op} {r w : List ℕ} {acc pb : List Op} {f : Bool} → f ≡ true →
    Stage p j b s os r w acc pb f → os ≡ []
early_empty q (early e h) = h.1.unlogged
early_empty q (late e h) = clash q e
