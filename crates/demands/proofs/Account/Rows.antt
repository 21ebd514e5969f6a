-- The table by rows: what the rules' signs say is what the account's rows say, so the answers are the same.
use Prim.Native.Nat.{ℕ, suc, ◌<◌}
use mathlib.Core.Path.{◌≡◌, refl, sym, ap, ◌∙◌}
use mathlib.Core.Logic.{◌≢◌, ⊎_elim}
use mathlib.Core.Bool.{Bool, true, false, not, ◌&&◌, ◌||◌, and-false, or-true, or-false}
use mathlib.Core.List.{List, [], ◌∷◌, ◌++◌}
use native.Mathlib.Omega.{arith}
use lib.Dec.{eqb, ltb}
use borrow.Author.Tests.{eq-eqb, eqb-true, ltb-true}
use Rattle.table.specs.Answers.{number}
use Rattle.table.proofs.Split.{split}
use Rattle.table.proofs.Booleans.{clash, both, or_first}
use Rattle.read.specs.declared.Phase.{Phase}
use Rattle.read.specs.declared.Phase.TheVariants.{Idle, Begin, Poll, Copy, Drain, Keep, Swap, Snap, Null, Lock, LastSnap, LastPoll, Finish, Gone}
use Rattle.read.specs.declared.Control.{Control}
use Rattle.read.specs.declared.Handle.{Handle}
use Rattle.read.specs.declared.Handle.TheVariants.{Drop, Enter, GoOn, Release, LookUp, WasDropped}
use Rattle.read.specs.Machine.{Verdict, underway, is_gone, locks}
use Rattle.std.specs.Prelude.{Ok, Err}
use Rattle.read.specs.Admission.{handle_number, column, entry, not_now, locked as locked_no}
use Rattle.read.specs.declared.Sign.{Sign}
use Rattle.read.specs.Handles.{smallest}
use Rattle.read.proofs.Phases.{idle_or_gone}
use Rattle.write.specs.Call.{Call, Create, On, Append, Open, Step, Run}
use Rattle.write.specs.declared.Opening.TheVariants as opening
use Rattle.write.specs.Numbers.{is, among, is_step}
use Rattle.write.proofs.Control.{Whole}
use Rattle.demands.specs.Account.{Move, Account, account}
use Rattle.demands.specs.Table.{least, busy, lock_held, meets_reader, what_comes_back, wanted}
use Rattle.demands.proofs.Account.Moves.{under_lock}
use Rattle.demands.proofs.Account.Plan.{move_of, plan, plan_head, plan_none}
use Rattle.demands.proofs.Account.Control.{SteersOf}

-- ---- rows

abbrev pub Row : Type 0
Row = ℕ × Bool

abbrev pub row : ℕ → Bool → Row
row n b = (n, b)

-- what the first of the rows says of the number n, and the rows behind it; both as if it were not there where its number is another
abbrev says : ℕ → List Row → Bool
says n [] = false
says n (s ∷ ss) = eqb s.0 n && s.1

abbrev behind_if : Bool → Row → List Row → List Row
behind_if b s ss = elim b [ true ↦ ss | false ↦ s ∷ ss ]

abbrev behind : ℕ → List Row → List Row
behind n [] = []
behind n (s ∷ ss) = behind_if (eqb s.0 n) s ss

-- row by row, the later ones where the earlier do not apply; a row that is absent on the right is one that does not apply
pub data Agree : List Row → List Row → Type 0 where
  none : Agree [] []
  here : {n : ℕ} {b : Bool} {rs ss : List Row} → b ≡ says n ss → (b ≡ false → Agree rs (behind n ss)) → Agree (row n b ∷ rs) ss

-- a row that both say in the same words
pub same : {n : ℕ} {rs ss : List Row} → Agree rs (behind n ss) → Agree (row n (says n ss) ∷ rs) ss
same h = here refl (λ _. h)

least_says : (n : ℕ) (ss : List Row) → least ss ≡ elim (says n ss) [ true ↦ n | false ↦ least (behind n ss) ]
least_says n [] = refl
least_says n (s ∷ ss) = go (eqb s.0 n) (eqb-true s.0 n)
  where
    go : (b : Bool) → (b ≡ true → s.0 ≡ n) →
        ◌≡◌ {A = ℕ} (elim s.1 [ true ↦ s.0 | false ↦ least ss ]) (elim (b && s.1) [ true ↦ n | false ↦ least (behind_if b s ss) ])
    go true f = ap (λ (m : ℕ). elim s.1 [ true ↦ m | false ↦ least ss ]) (f refl)
    go false f = refl

pub agree_least : {rs ss : List Row} → Agree rs ss → least rs ≡ least ss
agree_least none = refl
agree_least (here {n} {b} {rs} {ss} q f) = go b (says n ss) q (λ e. agree_least (f e)) ∙ sym (least_says n ss)
  where
    go : (x y : Bool) → x ≡ y → (x ≡ false → least rs ≡ least (behind n ss)) →
        ◌≡◌ {A = ℕ} (elim x [ true ↦ n | false ↦ least rs ]) (elim y [ true ↦ n | false ↦ least (behind n ss) ])
    go true true q f = refl
    go true false q f = clash refl q
    go false true q f = clash refl (sym q)
    go false false q f = f refl

abbrev pub is_busy : List Move → Bool
is_busy ms = elim ms [ [] ↦ false | x ∷ xs ↦ true ]

-- the number that is given is that of a row that applies
abbrev pub gives : ℕ → List Row → Bool
gives n [] = false
gives n (r ∷ rs) = eqb r.0 n && r.1 || gives n rs

pub least_gives : (n : ℕ) (rs : List Row) → least rs ≡ suc n → gives (suc n) rs ≡ true
least_gives n [] e = absurd (omega arith)
least_gives n (r ∷ rs) e = go r.1 (least_gives n rs) e
  where
    go : (b : Bool) → (least rs ≡ suc n → gives (suc n) rs ≡ true) → elim b [ true ↦ r.0 | false ↦ least rs ] ≡ suc n →
        (eqb r.0 (suc n) && b || gives (suc n) rs) ≡ true
    go true f e = ap (λ (x : Bool). x && true || gives (suc n) rs) (eq-eqb r.0 (suc n) e)
    go false f e = ap (λ (x : Bool). eqb r.0 (suc n) && false || x) (f e) ∙ or-true (eqb r.0 (suc n) && false)

-- a step is not made where no call is under way
pub idle_step : (a : Account) → busy a ≡ false → wanted a Step ≢ 0
unfolding wanted
idle_step a = go a.plan a.gone
  where
    go : (ms : List Move) (g : Bool) → is_busy ms ≡ false → wanted (account a.readers a.store ms a.trial a.taken g a.slots) Step ≢ 0
    go (x ∷ xs) g e = clash refl e
    go [] true e = λ z. omega arith
    go [] false e = λ z. omega arith

is_step_lem : (k : Call) → is 13 k ≡ is_step k
is_step_lem Create = refl
is_step_lem (On i Drop) = refl
is_step_lem (On i Enter) = refl
is_step_lem (On i GoOn) = refl
is_step_lem (On i (Release j)) = refl
is_step_lem (On i (LookUp j key)) = refl
is_step_lem (On i WasDropped) = refl
is_step_lem (Append os) = refl
is_step_lem (Open opening.Publish) = refl
is_step_lem (Open opening.Try) = refl
is_step_lem (Open opening.Flush) = refl
is_step_lem (Open opening.Take) = refl
is_step_lem Step = refl
is_step_lem Run = refl

-- only a step is declined, and a try's
pub declined_tries : (a : Account) (k : Call) → wanted a k ≡ 14 → (is_step k ≡ true) × (a.trial ≡ true)
unfolding wanted
declined_tries a k e =
    let (s, t) = both (is 13 k) (meets_reader a && a.trial) (sym (or-false _) ∙ least_gives 13 (what_comes_back a k) e) in
    (sym (is_step_lem k) ∙ s, (both (meets_reader a) a.trial t).1)

-- where a row applies, 0 is not given
abbrev numbered : List Row → Bool
numbered [] = true
numbered (r ∷ rs) = ltb 0 r.0 && numbered rs

gives_some : (n : ℕ) (rs : List Row) → numbered rs ≡ true → gives n rs ≡ true → least rs ≢ 0
gives_some n [] p e = clash e refl
gives_some n (r ∷ rs) p e = let (x, y) = both (ltb 0 r.0) (numbered rs) p in go r.1 (ltb-true 0 r.0 x) (gives_some n rs y) e
  where
    go : (b : Bool) → 0 < r.0 → (gives n rs ≡ true → least rs ≢ 0) → (eqb r.0 n && b || gives n rs) ≡ true →
        ◌≢◌ {A = ℕ} (elim b [ true ↦ r.0 | false ↦ least rs ]) 0
    go true x f e = λ z. omega arith
    go false x f e = f (sym (ap (λ (c : Bool). c || gives n rs) (and-false (eqb r.0 n))) ∙ e)

-- append and the beginnings are not made while a call is under way
pub writes_idle : (a : Account) (k : Call) → among 8 12 k ≡ true → wanted a k ≡ 0 → busy a ≡ false
unfolding wanted
writes_idle a k w z =
    split (busy a) (λ u. absurd (gives_some 6 (what_comes_back a k) refl (or_first _ (or_first _ (λ i. w i && u i))) z)) (λ u. u)

abbrev pub sign_rows : List Sign → List Row
sign_rows [] = []
sign_rows (x ∷ xs) = row (number x.answer) x.applies ∷ sign_rows xs

abbrev pub answer_no : Verdict → ℕ → ℕ
answer_no (Ok _) x = x
answer_no (Err a) x = number a

pub rows_least : (s : List Sign) (rest : List Row) → least (sign_rows s ++ rest) ≡ answer_no (smallest s) (least rest)
unfolding smallest
rows_least [] rest = refl
rows_least (x ∷ xs) rest = given x.applies (rows_least xs rest)
  where
    given : (b : Bool) → least (sign_rows xs ++ rest) ≡ answer_no (smallest xs) (least rest) →
        elim b [ true ↦ number x.answer | false ↦ least (sign_rows xs ++ rest) ] ≡ answer_no (elim b [ true ↦ Err x.answer | false ↦ smallest xs ]) (least rest)
    given true e = refl
    given false e = e

-- ---- tests

now_6 : (b : Bool) → eqb (not_now b) 6 ≡ b
now_6 true = refl
now_6 false = refl

now_7 : (b : Bool) → eqb (not_now b) 7 ≡ false
now_7 true = refl
now_7 false = refl

lock_6 : (b : Bool) → eqb (locked_no b) 6 ≡ false
lock_6 true = refl
lock_6 false = refl

lock_7 : (b : Bool) → eqb (locked_no b) 7 ≡ b
lock_7 true = refl
lock_7 false = refl

-- ---- the table of admissions, by what it asks

abbrev pub is_drop : Handle → Bool
is_drop h = eqb (handle_number h) 2

-- what a drop asks, and what any other call on a handle asks, of slot 0 and of another
abbrev asked : Bool → Bool → Phase → ℕ
asked drops own p =
    elim own [ true ↦ not_now (elim drops [ true ↦ not (is_gone p) | false ↦ underway p ]) | false ↦ elim drops [ true ↦ locked_no (locks p) | false ↦ 0 ] ]

entry_asks : (p : Phase) (h : Handle) (own : Bool) → entry p (column h own) ≡ asked (is_drop h) own p
unfolding entry
entry_asks p Drop true = refl
entry_asks p Drop false = refl
entry_asks p Enter true = refl
entry_asks p Enter false = refl
entry_asks p GoOn true = refl
entry_asks p GoOn false = refl
entry_asks p (Release j) true = refl
entry_asks p (Release j) false = refl
entry_asks p (LookUp j key) true = refl
entry_asks p (LookUp j key) false = refl
entry_asks p WasDropped true = refl
entry_asks p WasDropped false = refl

pub entry_6 : (p : Phase) (h : Handle) (own : Bool) →
    eqb (entry p (column h own)) 6 ≡ (own && elim (is_drop h) [ true ↦ not (is_gone p) | false ↦ underway p ])
entry_6 p h own = ap (λ (n : ℕ). eqb n 6) (entry_asks p h own) ∙ go (is_drop h) own
  where
    go : (d o : Bool) → eqb (asked d o p) 6 ≡ (o && elim d [ true ↦ not (is_gone p) | false ↦ underway p ])
    go d true = now_6 (elim d [ true ↦ not (is_gone p) | false ↦ underway p ])
    go true false = lock_6 (locks p)
    go false false = refl

pub entry_7 : (p : Phase) (h : Handle) (own : Bool) → eqb (entry p (column h own)) 7 ≡ (is_drop h && (not own && locks p))
entry_7 p h own = ap (λ (n : ℕ). eqb n 7) (entry_asks p h own) ∙ go (is_drop h) own
  where
    go : (d o : Bool) → eqb (asked d o p) 7 ≡ (d && (not o && locks p))
    go true true = now_7 (not (is_gone p))
    go true false = lock_7 (locks p)
    go false true = now_7 (underway p)
    go false false = refl

pub entry_create : (p : Phase) → eqb (entry p 0) 7 ≡ locks p
unfolding entry
entry_create p = lock_7 (locks p)

pub entry_step : (p : Phase) → eqb (entry p 12) 6 ≡ not (underway p)
unfolding entry
entry_step p = now_6 (not (underway p))

-- columns 7 to 11
pub entry_append : (p : Phase) → eqb (entry p 7) 6 ≡ (underway p || is_gone p)
unfolding entry
entry_append p = now_6 (underway p || is_gone p)

-- ---- a call is under way, and the lock is held, as the phase says

abbrev held_by : List Move → Bool
held_by ms = elim ms [ [] ↦ false | x ∷ xs ↦ under_lock x ]

move_locks : (p : Phase) → underway p ≡ true → under_lock (move_of p) ≡ locks p
move_locks Idle u = clash u refl
move_locks Begin u = refl
move_locks (Poll k) u = refl
move_locks Copy u = refl
move_locks Drain u = refl
move_locks (Keep k) u = refl
move_locks Swap u = refl
move_locks (Snap k) u = refl
move_locks Null u = refl
move_locks Lock u = refl
move_locks (LastSnap k) u = refl
move_locks (LastPoll k) u = refl
move_locks Finish u = refl
move_locks Gone u = clash u refl

pub plan_busy : (c : Control) → Whole c → is_busy (plan c) ≡ underway c.phase
plan_busy c w =
    split (underway c.phase) (λ u. ap is_busy (plan_head c w u).1 ∙ sym u) (λ u. ap is_busy (plan_none c u) ∙ sym u)

module _ (a : Account) (c : Control) (h : SteersOf a c) (w : Whole c) where
  pub busy_is : busy a ≡ underway c.phase
  busy_is = ap is_busy h.left ∙ plan_busy c w

  pub lock_is : lock_held a ≡ locks c.phase
  lock_is =
      ap held_by h.left
      ∙ split (underway c.phase) (λ u. ap held_by (plan_head c w u).1 ∙ move_locks c.phase u)
      (λ u. ap held_by (plan_none c u) ∙ sym (⊎_elim (ap locks) (ap locks) (idle_or_gone c.phase u)))
