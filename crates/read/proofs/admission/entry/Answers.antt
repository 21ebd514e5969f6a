-- The table's rule is one test over all of its admissions, each a digit of its row's word. It goes by rows; each phase has the admissions
-- of its row.
use Rattle.std.proofs.Common.{◌≡◌, ℕ, ◌+◌, ◌-◌, ◌*◌, ◌/◌, ◌%◌, ◌^◌, ◌<◌, ◌≤◌, Bool, true, eqb, List, [], ◌∷◌, length, get_or, sym, refl, ap, ◌∙◌, arith, lit<, eqb-true}
use lib.ListN.{get_or-eq_default}
use Rattle.read.specs.declared.Phase.{Phase}
use Rattle.read.specs.declared.Phase.TheVariants.{Idle, Begin, Poll, Copy, Drain, Keep, Swap, Snap, Null, Lock, LastSnap, LastPoll, Finish, Gone}
use Rattle.read.specs.Machine.{underway, row}
use Rattle.read.specs.Admission.{not_now, admissions, entry}
use Rattle.read.proofs.Table.{every, at_every}
use Rattle.read.proofs.admission.entry.Goals as goal

-- a row's word, from its digits
abbrev octal : ℕ → List ℕ → ℕ
octal w [] = w
octal w (d ∷ ds) = octal (8 * w + d) ds

-- the four rows that there are
abbrev idle : ℕ
idle = octal 0 (0 ∷ 0 ∷ 0 ∷ 0 ∷ 0 ∷ 0 ∷ 0 ∷ 0 ∷ 0 ∷ 0 ∷ 0 ∷ 0 ∷ 6 ∷ 6 ∷ 6 ∷ 0 ∷ 0 ∷ 0 ∷ 0 ∷ 0 ∷ [])

abbrev busy : ℕ
busy = octal 0 (0 ∷ 0 ∷ 0 ∷ 0 ∷ 0 ∷ 0 ∷ 0 ∷ 6 ∷ 6 ∷ 6 ∷ 6 ∷ 6 ∷ 0 ∷ 0 ∷ 6 ∷ 6 ∷ 6 ∷ 6 ∷ 6 ∷ 6 ∷ [])

abbrev locked : ℕ
locked = octal 0 (7 ∷ 7 ∷ 0 ∷ 0 ∷ 0 ∷ 0 ∷ 0 ∷ 6 ∷ 6 ∷ 6 ∷ 6 ∷ 6 ∷ 0 ∷ 0 ∷ 6 ∷ 6 ∷ 6 ∷ 6 ∷ 6 ∷ 6 ∷ [])

abbrev gone : ℕ
gone = octal 0 (0 ∷ 0 ∷ 0 ∷ 0 ∷ 0 ∷ 0 ∷ 0 ∷ 6 ∷ 6 ∷ 6 ∷ 6 ∷ 6 ∷ 6 ∷ 6 ∷ 0 ∷ 0 ∷ 0 ∷ 0 ∷ 0 ∷ 0 ∷ [])

admits : List ℕ
admits = idle ∷ busy ∷ locked ∷ locked ∷ locked ∷ locked ∷ locked ∷ locked ∷ busy ∷ busy ∷ locked ∷ locked ∷ locked ∷ gone ∷ []

-- a phase for each row
abbrev phases : List Phase
phases = Idle ∷ Begin ∷ Poll 0 ∷ Copy ∷ Drain ∷ Keep 0 ∷ Swap ∷ Snap 0 ∷ Null ∷ Lock ∷ LastSnap 0 ∷ LastPoll 0 ∷ Finish ∷ Gone ∷ []

abbrev digit : ℕ → ℕ → ℕ
digit w j = w / 2 ^ (57 - 3 * j) % 8

abbrev row_right : ℕ → ℕ → Bool
row_right i w = every (λ j x. eqb (digit w j) x) 0 (admissions (get_or phases i Idle))

-- all admissions at once
right : every row_right 0 admits ≡ true
unfolding admits
right = refl

-- a phase's position does not matter
record InRows (p : Phase) : Type 0 where
  below : row p < 14
  same : admissions (get_or phases (row p) Idle) ≡ admissions p
  long : length (admissions p) ≡ 20

in_rows : (p : Phase) → InRows p
in_rows Idle = record { below = lit< tt; same = refl; long = refl }
in_rows Begin = record { below = lit< tt; same = refl; long = refl }
in_rows (Poll k) = record { below = lit< tt; same = refl; long = refl }
in_rows Copy = record { below = lit< tt; same = refl; long = refl }
in_rows Drain = record { below = lit< tt; same = refl; long = refl }
in_rows (Keep k) = record { below = lit< tt; same = refl; long = refl }
in_rows Swap = record { below = lit< tt; same = refl; long = refl }
in_rows (Snap k) = record { below = lit< tt; same = refl; long = refl }
in_rows Null = record { below = lit< tt; same = refl; long = refl }
in_rows Lock = record { below = lit< tt; same = refl; long = refl }
in_rows (LastSnap k) = record { below = lit< tt; same = refl; long = refl }
in_rows (LastPoll k) = record { below = lit< tt; same = refl; long = refl }
in_rows Finish = record { below = lit< tt; same = refl; long = refl }
in_rows Gone = record { below = lit< tt; same = refl; long = refl }

in_table : (p : Phase) → row p < 14
in_table p = (in_rows p).below

entry_at : (p : Phase) (j : ℕ) → j < 20 → digit (get_or admits (row p) 0) j ≡ entry p j
unfolding admits entry
entry_at p j h =
    let d = not_now (underway p) in
    let w = get_or admits (row p) 0 in
    let r : every (λ j x. eqb (digit w j) x) 0 (admissions p) ≡ true =
    ap (every (λ j x. eqb (digit w j) x) 0) (sym (in_rows p).same) ∙ at_every row_right 0 admits right (row p) (in_table p) in
    eqb-true (digit w j) (get_or (admissions p) j d)
    (at_every (λ j x. eqb (digit w j) x) d (admissions p) r j (omega (arith, (in_rows p).long)))

last : (p : Phase) → get_or admits (row p) 0 % 8 ≡ entry p 19
last p =
    let w = get_or admits (row p) 0 in
    let e : w % 8 ≡ digit w 19 = omega arith in
    e ∙ entry_at p 19 (lit< tt)

-- behind the last column the rule is the last one's
entry_past : (p : Phase) (j : ℕ) → 20 ≤ j → entry p 19 ≡ entry p j
unfolding entry
entry_past p j h = sym (get_or-eq_default (admissions p) (not_now (underway p)) h)

pub offset_bounds-row : goal.offset_bounds-row
offset_bounds-row c = omega (arith, in_table c.args.p)

pub bounds-row : goal.bounds-row
bounds-row c = omega (arith, c.row.ensures, in_table c.args.p)

pub returns-then-column-lt20 : goal.returns-then-column-lt20
unfolding admits
returns-then-column-lt20 c =
    let a = c.args in
    ap (λ (i : ℕ). digit (get_or admits i 0) a.column) c.row.ensures ∙ entry_at a.p a.column c.if-column-lt20.true

pub returns : goal.returns
unfolding admits
returns c =
    let a = c.args in
    ap (λ (i : ℕ). get_or admits i 0 % 8) c.row.ensures ∙ last a.p ∙ entry_past a.p a.column c.if-column-lt20.false
