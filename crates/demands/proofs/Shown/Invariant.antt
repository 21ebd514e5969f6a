-- The invariant of demand 2. Its two halves never mention each other: each slot, with what its guards show and who waits for them; and
-- the log with the two copies, with what the write copy lacks and which words of the log are zero. No lemma stands here.
use Prim.Native.Nat.{ℕ, zero, suc, ◌*◌, ◌+◌, ◌≤◌, ◌<◌}
use mathlib.Core.Path.{◌≡◌}
use mathlib.Core.Bool.{Bool, true, false, not, ◌||◌}
use mathlib.Core.List.{List, [], ◌∷◌, ◌++◌}
use lib.ListN.{length, get_or, take, drop, replicate}
use lib.Dec.{eqb, leb}
use Rattle.table.specs.Order.{Op, empty, after}
use Rattle.table.proofs.Parity.{odd}
use Rattle.read.specs.declared.Phase.{Phase}
use Rattle.read.specs.declared.Phase.TheVariants.{Idle, Begin, Poll, Copy, Drain, Keep, Swap, Snap, Null, Lock, LastSnap, LastPoll, Finish, Gone}
use Rattle.read.specs.declared.Job.{Job}
use Rattle.read.specs.declared.Job.TheVariants.{Publish, Try, TakeFirst, TakeSecond}
use Rattle.read.specs.declared.Slot.{Slot}
use Rattle.read.specs.Machine.{row, slot_count, guard_count, log_words, is_open, stands_right, any_open, is_due, underway, is_gone}
use Rattle.read.specs.Handles.{copy_of}
use Rattle.read.specs.Calls.{slot_at}
use Rattle.write.specs.Runs.{snap_at}
use Rattle.write.specs.World.{World}
use Rattle.demands.specs.Account.{Account, Move}
use Rattle.demands.proofs.Account.Moves.{is_swap}
use Rattle.demands.proofs.Sides.{read_copy, write_copy}

-- ---- what it looks at in an account

pub record Seen : Type 0 where
  pub accepted : List Op
  pub at_begin : List Op
  pub published : List Op
  -- by slot and guard
  pub loaded : ℕ → ℕ → List Op

abbrev pub sight : List Op → List Op → List Op → (ℕ → ℕ → List Op) → Seen
sight a b p l = record { accepted = a; at_begin = b; published = p; loaded = l }

abbrev pub seen_of : Account → Seen
seen_of a = sight a.store.accepted a.store.at_begin a.store.published (λ i. (a.readers i).loaded)

-- a swap publishes what was accepted at the beginning; no other step changes any of it
abbrev pub after_move : Move → Seen → Seen
after_move x t = elim (is_swap x) [ true ↦ sight t.accepted t.at_begin t.at_begin t.loaded | false ↦ t ]

-- ---- one slot

-- a slot is outside, has announced itself, or has guards open; its epoch is odd in the last two, in which it is in use
pub data Shape (s : Slot) : Type 0 where
  outside : odd s.epoch ≡ false → is_due s.due ≡ false → any_open s.guards ≡ false → Shape s
  announced : s.used ≡ true → odd s.epoch ≡ true → is_due s.due ≡ true → any_open s.guards ≡ false → Shape s
  inside : s.used ≡ true → odd s.epoch ≡ true → is_due s.due ≡ false → any_open s.guards ≡ true → Shape s

-- nothing due, and no guard open
pub record Quiet (s : Slot) : Type 0 where
  pub idle : is_due s.due ≡ false
  pub alone : any_open s.guards ≡ false

-- ---- how far the writer has come

-- how many slots hold no guard on the write copy, and how many were snapped since the last swap; and, after null, how many hold no guard
-- at all, and how many were snapped since
pub record Reach : Type 0 where
  pub cleared : ℕ
  pub snapped : ℕ
  pub emptied : ℕ
  pub resnapped : ℕ

abbrev pub reach : ℕ → ℕ → ℕ → ℕ → Reach
reach c s e r = record { cleared = c; snapped = s; emptied = e; resnapped = r }

-- before take's last snapshots
abbrev pub before : ℕ → ℕ → Reach
before c s = reach c s 0 0

abbrev pub reach_at : Phase → Reach
reach_at Idle = before 0 slot_count
reach_at Begin = before 0 slot_count
reach_at (Poll k) = before k slot_count
reach_at Copy = before slot_count slot_count
reach_at Drain = before slot_count slot_count
reach_at (Keep k) = before slot_count slot_count
reach_at Swap = before slot_count slot_count
reach_at (Snap k) = before 0 k
reach_at Null = before 0 slot_count
reach_at Lock = before 0 slot_count
reach_at (LastSnap k) = reach 0 slot_count 0 k
reach_at (LastPoll k) = reach k slot_count k slot_count
reach_at Finish = reach slot_count slot_count slot_count slot_count
reach_at Gone = reach 0 slot_count slot_count slot_count

-- before the first swap all are cleared
abbrev pub or_all : Bool → ℕ → ℕ
or_all true k = slot_count
or_all false k = k

abbrev pub firstly : Bool → Reach → Reach
firstly first h = reach (or_all first h.cleared) h.snapped h.emptied h.resnapped

-- the first c slots are cleared, so slot i is none of them; and if it is one of the first s, which were snapped, its epoch e is what the
-- snapshot found
abbrev pub Held : ℕ → ℕ → ℕ → ℕ → ℕ → Type 0
Held c s i x e = (c ≤ i) × (i < s → x ≡ e)

-- slot i
pub record View (right : Bool) (h : Reach) (i snap : ℕ) (l r : List ℕ) (loaded : ℕ → List Op) (s : Slot) : Type 0 where
  pub four : length s.guards ≡ guard_count
  pub shape : Shape s
  -- an open guard shows what it loaded
  pub shows : (j : ℕ) → is_open s.guards j ≡ true → copy_of (stands_right s.guards j) l r ≡ after (loaded j) empty
  -- one on the write copy is not cleared yet; and after null none is
  pub stale : (j : ℕ) → is_open s.guards j ≡ true → stands_right s.guards j ≡ not right → Held h.cleared h.snapped i snap s.epoch
  pub waited : (j : ℕ) → is_open s.guards j ≡ true → Held h.emptied h.resnapped i snap s.epoch

-- ---- the log and the copies

-- operation i of the log's words
abbrev pub op_at : List ℕ → ℕ → Op
op_at g i = record { kind = get_or g (3 * i) 0; key = get_or g (3 * i + 1) 0; amount = get_or g (3 * i + 2) 0 }

-- n operations from number i on
abbrev pub ops_from : ℕ → ℕ → List ℕ → List Op
ops_from zero i g = []
ops_from (suc n) i g = op_at g i ∷ ops_from n (suc i) g

-- the first s operations of the log are what the write copy w lacks of the read copy r; one never synchronised is of no account
abbrev pub Lacks : Bool → ℕ → List Op → List ℕ → List ℕ → Type 0
Lacks true s os r w = s ≡ 0
Lacks false s os r w = after (take s os) w ≡ r

-- what the write copy holds, by the phase, after the first swap
abbrev pub Holds : Phase → Bool → ℕ → List Op → List ℕ → List ℕ → Type 0
Holds Idle second s os r w = Lacks second s os r w
Holds Begin second s os r w = Lacks second s os r w
Holds (Poll k) second s os r w = Lacks second s os r w
Holds Copy second s os r w = s ≡ 0
Holds Drain second s os r w = (second ≡ false) × (after (take s os) w ≡ r)
Holds (Keep k) second s os r w = (second ≡ false) × (s ≡ 0) × (w ≡ after (take k os) r)
Holds Swap second s os r w = (second ≡ false) × (s ≡ 0) × (w ≡ after os r)
Holds (Snap k) second s os r w = Lacks second s os r w
Holds Null second s os r w = Unit {0}
Holds Lock second s os r w = Unit {0}
Holds (LastSnap k) second s os r w = Unit {0}
Holds (LastPoll k) second s os r w = Unit {0}
Holds Finish second s os r w = Unit {0}
Holds Gone second s os r w = w ≡ empty

abbrev pub is_second : Job → Bool
is_second Publish = false
is_second Try = false
is_second TakeFirst = false
is_second TakeSecond = true

-- take's second publish finds all of the log published already, so it leaves an empty log, and so does take
abbrev pub Empties : Phase → Job → ℕ → List Op → Type 0
Empties Idle j s os = Unit {0}
Empties Begin j s os = is_second j ≡ true → s ≡ length os
Empties (Poll k) j s os = is_second j ≡ true → s ≡ length os
Empties Copy j s os = is_second j ≡ true → s ≡ length os
Empties Drain j s os = is_second j ≡ true → s ≡ length os
Empties (Keep k) j s os = is_second j ≡ true → s ≡ length os
Empties Swap j s os = is_second j ≡ true → s ≡ length os
Empties (Snap k) j s os = (s ≡ length os) × (is_second j ≡ true → os ≡ [])
Empties Null j s os = os ≡ []
Empties Lock j s os = os ≡ []
Empties (LastSnap k) j s os = os ≡ []
Empties (LastPoll k) j s os = os ≡ []
Empties Finish j s os = os ≡ []
Empties Gone j s os = os ≡ []

-- the words of a log behind n operations are zero
abbrev pub ClearLog : ℕ → List ℕ → Type 0
ClearLog n g = (x : ℕ) → 3 * n ≤ x → get_or g x 0 ≡ 0

-- before the first swap all that was accepted stands in the write copy, and nothing in the log
pub record First (second : Bool) (os : List Op) (w : List ℕ) (accepted : List Op) : Type 0 where
  pub unsynced : second ≡ true
  pub unlogged : os ≡ []
  pub holds : w ≡ after accepted empty

-- the phases that come before it: up to the polls, and the swap
abbrev pub Early : Phase → Type 0 → Type 0
Early p F = ((leb (row p) 2 || eqb (row p) 6) ≡ true) × F

-- after it, what is accepted and not yet published stands in the log behind the swap index
pub record Later (p : Phase) (j : Job) (second : Bool) (s : ℕ) (os : List Op) (r w : List ℕ) (accepted published : List Op) : Type 0 where
  pub behind : accepted ≡ published ++ drop s os
  pub holds : Holds p second s os r w
  pub empties : Empties p j s os

-- by the flag `first`
pub data Stage (p : Phase) (j : Job) (second : Bool) (s : ℕ) (os : List Op) (r w : List ℕ) (accepted published : List Op) (first : Bool) : Type 0 where
  early : first ≡ true → Early p (First second os w accepted) → Stage p j second s os r w accepted published first
  late : first ≡ false → Later p j second s os r w accepted published → Stage p j second s os r w accepted published first

-- ---- the machine

abbrev pub ViewOf : World → ℕ → (ℕ → List Op) → Slot → Type 0
ViewOf w i loaded s =
    View w.state.control.right (firstly w.state.control.first (reach_at w.state.control.phase)) i (snap_at w.state i) w.left
    w.right loaded s

-- the logged operations
abbrev pub ops_of : World → List Op
ops_of w = ops_from w.state.control.length 0 w.log

pub record Inv (w : World) (t : Seen) : Type 0 where
  pub each : (i : ℕ) → ViewOf w i (t.loaded i) (slot_at w.state i)
  -- the writer's own handle is at rest while a call of the writer is under way
  pub own : underway w.state.control.phase ≡ true → Quiet (slot_at w.state 0)
  -- the copy that the pointer names holds what was published
  pub read : read_copy w ≡ after t.published empty
  -- nothing is accepted while a publish is under way
  pub at_begin : underway w.state.control.phase ≡ true → t.at_begin ≡ t.accepted
  -- the other copy holds what the phase says
  pub stage :
      Stage w.state.control.phase w.state.control.job w.state.control.second w.state.control.swapped (ops_of w)
      (read_copy w) (write_copy w) t.accepted t.published w.state.control.first
  pub unused : ClearLog w.state.control.length w.log
  -- take leaves an empty log
  pub spent : is_gone w.state.control.phase ≡ true → w.log ≡ replicate log_words 0
