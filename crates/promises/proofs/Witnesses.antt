-- What the witnesses of more than one crate are made of, and what is read off a result.
use Prim.Native.Nat.{ℕ, ◌-◌}
use mathlib.Core.Path.{◌≡◌, refl}
use mathlib.Core.Bool.{true, false}
use mathlib.Core.List.{List, [], ◌∷◌, ◌++◌}
use lib.ListN.{length, get_or, set, replicate}
use Rattle.table.specs.Copy.{words}
use Rattle.read.specs.declared.Due.TheVariants.{Nothing}
use Rattle.read.specs.declared.Slot.{Slot}
use Rattle.read.specs.Machine.{open_on, no_guards, with_reading, new_slot, log_words}
use Rattle.promises.proofs.Contracts.{below, Words, slice}

-- a copy that begins with these words
abbrev pub copy_with : List ℕ → List ℕ
copy_with ws = ws ++ replicate (words - length ws) 0

abbrev pub copy : (ws : List ℕ) → below 64 (copy_with ws) ≡ true → Words
copy ws h = slice (copy_with ws) h

-- a copy with no pairs, and one that has key 7; and a log with no operation
abbrev pub none : Words
none = copy [] refl

abbrev pub seven : Words
seven = copy (1 ∷ 0 ∷ 7 ∷ 3 ∷ []) refl

-- one out of order: key 7 behind key 9
abbrev pub falls : Words
falls = copy (2 ∷ 0 ∷ 9 ∷ 1 ∷ 7 ∷ 2 ∷ []) refl

abbrev pub no_log : Words
no_log = slice (replicate log_words 0) refl

-- a handle inside, with guard 0 alone and an odd epoch
abbrev pub inside : Slot
inside = with_reading 1 (set no_guards 0 (open_on false)) Nothing new_slot

-- a word, or a number itself
abbrev pub word_at : ℕ → List ℕ → ℕ
word_at i w = get_or w i 0

abbrev pub itself : ℕ → ℕ
itself n = n
