-- What a batch is beside its operations, appended one by one.
use Rattle.std.specs.Prelude.{ℕ, ◌+◌, ◌*◌, ◌%◌, ◌^◌, ◌≡◌, true, false, List, [], ◌∷◌, length, replicate}
use Rattle.table.specs.Order.{Op}
use Rattle.read.specs.Handles.{with_due}
use Rattle.read.specs.Calls.{slot_at, with_slot}
use Rattle.write.specs.Call.{Call, Append}
use Rattle.write.specs.Runs.{with_move}
use Rattle.write.specs.World.{Machine, World, reply, next, answer_of, played}
use Rattle.demands.specs.Demands.{told, shown}

-- an append for each
abbrev pub ones : List Op → List Call
ones [] = []
ones (o ∷ os) = Append (o ∷ []) ∷ ones os

-- slot 0's epoch, a word of 64 bits, n further
abbrev pub further : ℕ → World → World
further n w =
    let s = slot_at w.state 0 in
    record { state = with_slot 0 (with_due ((s.epoch + n) % 2 ^ 64) s.due s) w.state; left = w.left; right = w.right; log = w.log }

-- all but slot 0's epoch and its snapshot
abbrev pub aside : World → World
aside w =
    let s = slot_at w.state 0 in
    record { state = with_move 0 w.state.control (with_due 0 s.due s) 0 w.state; left = w.left; right = w.right; log = w.log }

-- of the appends, where the batch is answered 0
pub record AsAppends (m : Machine) (os : List Op) (w : World) : Type 0 where
  -- each is answered 0, with value 0
  pub made : (played m (ones os) w).replies ≡ replicate (2 * length os) 0
  -- where operations are logged, they leave what the batch leaves
  pub logged : w.state.control.first ≡ false → (played m (ones os) w).world ≡ next m (Append os) w
  -- where they are applied at once too, but for slot 0's epoch: a batch moves it on by 2, and they by 2 each. With what the other moved it on
  -- added, both are the same
  pub applied : w.state.control.first ≡ true → further 2 (played m (ones os) w).world ≡ further (2 * length os) (next m (Append os) w)

-- from two worlds on, whatever calls are made
pub record AlikeFrom (m : Machine) (x y : World) : Type 0 where
  -- they are answered alike
  pub replies : (js : List Call) → (played m js x).replies ≡ (played m js y).replies
  -- every guard shows the same
  pub views : (js : List Call) (i j : ℕ) → shown i j (played m js x).world ≡ shown i j (played m js y).world
  -- and nothing else differs but slot 0's epoch and its snapshot
  pub rest : (js : List Call) → aside (played m js x).world ≡ aside (played m js y).world

pub record Batches (m : Machine) : Type 0 where
  -- on any state and any words
  pub at_once : (os : List Op) (w : World) → answer_of (reply m (Append os) w) ≡ 0 → AsAppends m os w
  -- after any history
  pub ever : (ks : List Call) (os : List Op) → let w = (told m ks).world in
      answer_of (reply m (Append os) w) ≡ 0 → AlikeFrom m (next m (Append os) w) (played m (ones os) w).world
