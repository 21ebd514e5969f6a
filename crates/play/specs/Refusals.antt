-- What refuses a schedule file, said of its bytes, and what a refusal leaves as it was. The player is a parameter.
use Rattle.std.specs.Prelude.{ℕ, suc, ◌+◌, ◌*◌, ◌≤◌, ◌<◌, ◌≡◌, List, [], ◌∷◌, length, get_or, take, drop}
use Rattle.format.specs.Schedule.{number_at}
use Rattle.play.specs.Player.{Output}

-- a file, and the output as it was, to what comes back
abbrev pub Player : Type 0
Player = List ℕ → List ℕ → Output

-- of record i, counted from 0 on: that it is there as a whole; its call, which is its first byte; and its amount, the eight bytes from its
-- byte 12 on
abbrev pub Whole : List ℕ → ℕ → Type 0
Whole s i = 5 + 20 * i + 20 ≤ length s

abbrev pub call_at : List ℕ → ℕ → ℕ
call_at s i = get_or s (5 + 20 * i) 0

abbrev pub amount_at : List ℕ → ℕ → ℕ
amount_at s i = number_at 8 s (5 + 20 * i + 12)

-- from record i on there are n entries: one for each whole record, but none for those that belong to a batch, 15, as many as its amount says
pub data Entries (s : List ℕ) : ℕ → ℕ → Type 0 where
  none : (i : ℕ) → (Whole s i → ⊥) → Entries s i 0
  single : (i n : ℕ) → Whole s i → (call_at s i ≡ 15 → ⊥) → Entries s (i + 1) n → Entries s i (suc n)
  batch : (i n : ℕ) → Whole s i → call_at s i ≡ 15 → Entries s (i + 1 + amount_at s i) n → Entries s i (suc n)

-- what speaks against a file, by the number that is given for it
pub data Applies (s out : List ℕ) : ℕ → Type 0 where
  -- shorter than 5 bytes, or without the mark LRT
  short : length s < 5 → Applies s out 21
  unmarked : (take 3 s ≡ 76 ∷ 82 ∷ 84 ∷ [] → ⊥) → Applies s out 21
  -- a version, in two bytes, that is not 1
  version : (get_or s 3 0 + 256 * get_or s 4 0 ≡ 1 → ⊥) → Applies s out 22
  -- no whole number of records of 20 bytes
  torn : ((n : ℕ) → length s ≡ 5 + 20 * n → ⊥) → Applies s out 23
  -- a whole record whose call is not 1 to 15
  unknown : (i : ℕ) → Whole s i → ((1 ≤ call_at s i) × (call_at s i ≤ 15) → ⊥) → Applies s out 24
  -- a batch, 15, with fewer whole records behind it than its amount says
  cut_short : (i : ℕ) → Whole s i → call_at s i ≡ 15 → length s < 5 + 20 * (i + 1 + amount_at s i) → Applies s out 24
  -- a batch with a record among those that belong to it that is no append, 8
  mixed :
      (i j : ℕ) → call_at s i ≡ 15 → j < amount_at s i → Whole s (i + 1 + j) → (call_at s (i + 1 + j) ≡ 8 → ⊥) → Applies s out 24
  -- an output of less than 9 bytes an entry
  crowded : (n : ℕ) → Entries s 0 n → length out < 9 * n → Applies s out 25

-- the smallest number that applies, with 0 bytes reported and no byte written
pub record Refused (s out : List ℕ) (o : Output) : Type 0 where
  pub among : (21 ≤ o.result.answer) × (o.result.answer ≤ 25)
  pub applies : Applies s out o.result.answer
  pub smallest : (a : ℕ) → Applies s out a → o.result.answer ≤ a
  pub reported : o.result.written ≡ 0
  pub untouched : o.bytes ≡ out

-- none applies: 9 bytes an entry, and behind them the output as it was
pub record Done (s out : List ℕ) (o : Output) : Type 0 where
  pub flawless : (a : ℕ) → Applies s out a → ⊥
  pub records : ℕ
  pub whole : length s ≡ 5 + 20 * records
  pub entries : ℕ
  pub counted : Entries s 0 entries
  pub reported : o.result.written ≡ 9 * entries
  pub behind : drop (9 * entries) o.bytes ≡ drop (9 * entries) out
  pub as_long : length o.bytes ≡ length out

abbrev pub Outcome : List ℕ → List ℕ → Output → Type 0
Outcome s out o = (o.result.answer ≡ 0 → Done s out o) × ((o.result.answer ≡ 0 → ⊥) → Refused s out o)

abbrev pub Refusals : Player → Type 0
Refusals play = (s out : List ℕ) → Outcome s out (play s out)
