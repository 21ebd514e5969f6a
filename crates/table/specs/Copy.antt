-- The count table on one copy: a list of words, and what each operation makes of it.
-- A copy is its entry count, its spill, and then its pairs of a key and a count. Nothing is asked of the pairs' order.
use Rattle.std.specs.Prelude.{ℕ, ◌+◌, ◌-◌, ◌*◌, ◌^◌, ◌≤◌, min, ◌≡◌, Bool, true, false, ◌&&◌, List, [], ◌∷◌, ◌++◌, length, get_or, take, drop, set, replicate, eqb, ltb, leb}
use Rattle.table.specs.declared.Answer.{Answer}
use Rattle.table.specs.declared.Answer.TheVariants.{Done, Length, Broken, Operation}
use Rattle.table.specs.declared.Search.{Search}
use Rattle.table.specs.declared.Search.TheVariants.{Walk, Halve}
use Rattle.table.specs.Seek.{seek, halve}

-- ---- sizes

-- how many pairs a copy has room for
abbrev pub pairs : ℕ
pairs = 512

-- how many words a copy has
abbrev pub words : ℕ
words = 2 + 2 * pairs

-- the largest number that a word holds
abbrev pub top : ℕ
top = 2 ^ 64 - 1

-- ---- the words of a copy

abbrev pub entries : List ℕ → ℕ
entries w = get_or w 0 0

abbrev pub spill : List ℕ → ℕ
spill w = get_or w 1 0

abbrev pub key_at : List ℕ → ℕ → ℕ
key_at w i = get_or w (2 * i + 2) 0

abbrev pub count_at : List ℕ → ℕ → ℕ
count_at w i = get_or w (2 * i + 3) 0

-- the used part: entry count, spill and the used pairs
abbrev pub used_of : List ℕ → List ℕ
used_of w = take (2 * entries w + 2) w

-- ---- a key's pair, and its place

-- by whether the key itself is sought: what the key of a pair is tested for
abbrev pub passes : Bool → ℕ → ℕ → Bool
passes true key k = eqb k key
passes false key k = leb key k

-- the first used pair whose key passes, or the entry count
abbrev pub first : Bool → ℕ → List ℕ → ℕ
first exact key w = seek (λ i. passes exact key (key_at w i)) 0 (entries w)

-- the same from pair i on
abbrev pub first_from : Bool → ℕ → List ℕ → ℕ → ℕ
first_from exact key w i = seek (λ j. passes exact key (key_at w j)) i (entries w - i)

-- the key's pair
abbrev pub pair_of : ℕ → List ℕ → ℕ
pair_of key w = first true key w

-- where the pair of a new key is placed: before the first whose key is not smaller
abbrev pub place_of : ℕ → List ℕ → ℕ
place_of key w = first false key w

abbrev pub present : ℕ → List ℕ → Bool
present key w = ltb (pair_of key w) (entries w)

-- ---- the same by how it is searched: a walk, or halving, which finds what a walk finds where the keys rise (laws pair_rising, place_rising)

-- where halving ends: where the keys rise, the place of a new pair
abbrev pub halved : ℕ → List ℕ → ℕ
halved key w = halve (λ i. passes false key (key_at w i)) (entries w) 0 (entries w)

-- pair i is used, and has the key
abbrev pub has_key : ℕ → List ℕ → ℕ → Bool
has_key key w i = ltb i (entries w) && eqb (key_at w i) key

-- where the key's pair is, if it has one
abbrev pub find_by : Search → ℕ → List ℕ → ℕ
find_by Walk key w = pair_of key w
find_by Halve key w = halved key w

abbrev pub pair_by : Search → ℕ → List ℕ → ℕ
pair_by Walk key w = pair_of key w
pair_by Halve key w = elim (has_key key w (halved key w)) [ true ↦ halved key w | false ↦ entries w ]

abbrev pub place_by : Search → ℕ → List ℕ → ℕ
place_by Walk key w = place_of key w
place_by Halve key w = halved key w

abbrev pub present_by : Search → ℕ → List ℕ → Bool
present_by how key w = ltb (pair_by how key w) (entries w)

-- ---- the operations

-- a number that grows and stops at the top
abbrev pub grown : ℕ → ℕ → ℕ
grown x a = min (x + a) top

-- the m words that p begins with move up by two, behind a new pair
abbrev pub opened : ℕ → ℕ → ℕ → List ℕ → List ℕ
opened m key amount p = key ∷ amount ∷ (take m p ++ drop (2 + m) p)

-- the m words that stand g behind p's begin move down to it, and the g words that they leave become zero
abbrev pub closed : ℕ → ℕ → List ℕ → List ℕ
closed g m p = take m (drop g p) ++ (replicate g 0 ++ drop (g + m) p)

-- a new pair before pair i
abbrev pub inserted : ℕ → ℕ → ℕ → List ℕ → List ℕ
inserted i key amount w =
    set (take (2 * i + 2) w ++ opened (2 * (entries w - i)) key amount (drop (2 * i + 2) w)) 0 (entries w + 1)

-- pair i taken out
abbrev pub removed : ℕ → List ℕ → List ℕ
removed i w =
    set (take (2 * i + 2) w ++ closed 2 (2 * (entries w - i - 1)) (drop (2 * i + 2) w)) 0 (entries w - 1)

-- ADD of a key that is absent: a new pair, or, where the copy is full, a larger spill
abbrev pub placed_by : Search → ℕ → ℕ → List ℕ → List ℕ
placed_by how key amount w =
    elim (ltb (entries w) pairs) [ true ↦ inserted (place_by how key w) key amount w | false ↦ set w 1 (grown (spill w) 1) ]

unfoldable pub added_by : Search → ℕ → ℕ → List ℕ → List ℕ
added_by how key amount w =
    elim (present_by how key w) [
      | true ↦ set w (2 * pair_by how key w + 3) (grown (count_at w (pair_by how key w)) amount)
      | false ↦ placed_by how key amount w
    ]

unfoldable pub dropped_by : Search → ℕ → List ℕ → List ℕ
dropped_by how key w = elim (present_by how key w) [ true ↦ removed (pair_by how key w) w | false ↦ w ]

abbrev pub zeros : List ℕ → List ℕ
zeros w = replicate (length w) 0

-- an operation as it is logged: 1 is ADD, 2 is DROP, 3 is CLEAR
unfoldable pub applied_by : Search → ℕ → ℕ → ℕ → List ℕ → List ℕ
applied_by how kind key amount w =
    elim (eqb kind 1) [
      | true ↦ added_by how key amount w
      | false ↦ elim (eqb kind 2) [ true ↦ dropped_by how key w | false ↦ elim (eqb kind 3) [ true ↦ zeros w | false ↦ w ] ]
    ]

-- the operations themselves, of any words: the first pair that has the key, and its place
abbrev pub placed : ℕ → ℕ → List ℕ → List ℕ
placed = placed_by Walk

abbrev pub added : ℕ → ℕ → List ℕ → List ℕ
added = added_by Walk

abbrev pub dropped : ℕ → List ℕ → List ℕ
dropped = dropped_by Walk

abbrev pub applied : ℕ → ℕ → ℕ → List ℕ → List ℕ
applied = applied_by Walk

-- ADD has an amount of at least 1, DROP none, CLEAR neither key nor amount
unfoldable pub lawful : ℕ → ℕ → ℕ → Bool
lawful kind key amount =
    elim (eqb kind 1) [
      | true ↦ leb 1 amount
      | false ↦ elim (eqb kind 2) [ true ↦ eqb amount 0 | false ↦ eqb kind 3 && (eqb key 0 && eqb amount 0) ]
    ]

-- ---- the calls, with what refuses them

-- the length is wrong, or there are more entries than pairs
unfoldable pub fitness : List ℕ → Answer
fitness w =
    elim (eqb (length w) words) [ true ↦ elim (leb (entries w) pairs) [ true ↦ Done | false ↦ Broken ] | false ↦ Length ]

abbrev pub fits : List ℕ → Bool
fits w = eqb (length w) words && leb (entries w) pairs

-- the same as facts: what the functions below the refusals ask
pub record Fit (w : List ℕ) : Type 0 where
  pub sized : length w ≡ words
  pub within : entries w ≤ pairs

-- there are the words of as many pairs as are used, and no more than have room
pub record Holds (w : List ℕ) : Type 0 where
  pub room : 2 * entries w + 2 ≤ length w
  pub within : entries w ≤ pairs

-- what comes back, and the words
pub record Out : Type 0 where
  pub answer : Answer
  pub copy : List ℕ

-- an operation on a copy: refused with nothing changed, or made
unfoldable pub apply_by : Search → ℕ → ℕ → ℕ → List ℕ → Out
apply_by how kind key amount w =
    elim (fits w) [
      | true ↦
          elim (lawful kind key amount) [
            | true ↦ record { answer = Done; copy = applied_by how kind key amount w }
            | false ↦ record { answer = Operation; copy = w }
          ]
      | false ↦ record { answer = fitness w; copy = w }
    ]

abbrev pub apply_rule : ℕ → ℕ → ℕ → List ℕ → Out
apply_rule = apply_by Walk

-- the two words of the key's pair; none where it is absent or the copy is unfit
unfoldable pub look_rule : ℕ → List ℕ → List ℕ
look_rule key w =
    elim (fits w)
    [ true ↦ elim (present key w) [ true ↦ take 2 (drop (2 * pair_of key w + 2) w) | false ↦ [] ] | false ↦ [] ]

-- the same, by how it is searched
unfoldable pub look_by : Search → ℕ → List ℕ → List ℕ
look_by how key w =
    elim (fits w)
    [ true ↦ elim (present_by how key w) [ true ↦ take 2 (drop (2 * pair_by how key w + 2) w) | false ↦ [] ] | false ↦ [] ]

unfoldable pub used_rule : List ℕ → List ℕ
used_rule w = elim (fits w) [ true ↦ used_of w | false ↦ [] ]

-- words that move down in any slice, where it has room for both parts; else nothing
unfoldable pub close_rule : ℕ → ℕ → List ℕ → List ℕ
close_rule g m p = elim (leb (g + m) (length p)) [ true ↦ closed g m p | false ↦ p ]
