-- Wrong programs, as definitions on lists, and for each a proof that the contract's promise (`Promises`) is false of it: one call, on
-- values that the source's types have, where what the program does wrong is read off.
use Prim.Native.Nat.{ℕ, zero, suc, ◌+◌, ◌-◌, ◌*◌, ◌/◌, ◌^◌, ◌%◌}
use mathlib.Core.Path.{◌≡◌, refl, ap, ◌∙◌}
use mathlib.Core.Bool.{Bool, true, false, not, ◌&&◌}
use mathlib.Core.List.{List, [], ◌∷◌, ◌++◌}
use lib.ListN.{length, take, drop, set, replicate}
use lib.Dec.{eqb, leb, ltb}
use native.Mathlib.Omega.{arith}
use Rattle.table.specs.declared.Answer.{Answer}
use Rattle.table.specs.declared.Answer.TheVariants.{Done, Length, Broken, Operation}
use Rattle.table.specs.Answers.{number, answer_of}
use Rattle.table.specs.Seek.{seek, halve}
use Rattle.table.specs.declared.Search.{Search}
use Rattle.table.specs.declared.Search.TheVariants.{Walk, Halve}
use Rattle.table.specs.Many.{filled, told, told_all, look_all_rule}
use Rattle.table.specs.Copy.{pairs, words, entries, spill, key_at, count_at, used_of, pair_of, place_of, present, has_key, opened, closed, inserted, placed, added, dropped, removed, zeros, applied_by, lawful, fits, Out, apply_rule, apply_by, look_rule, look_by}
use Rattle.table.proofs.Computes.{rules, apart}
use Rattle.table.proofs.CopyWords.{get_d_zeros}
use Rattle.table.proofs.CopyFind.{added_cases}
use Rattle.read.specs.Handles.{bit}
use Rattle.promises.proofs.Witnesses.{copy_with, copy, none, seven, falls, word_at, itself}
use Rattle.promises.proofs.Contracts.{below, Words, slice}
use Rattle.promises.proofs.Table.Promises.{NumberPromise, LawfulPromise, FitPromise, LookPromise, UsedPromise, ZeroPromise, ClosePromise, ApplyPromise, ApplyByPromise, LookByPromise, LookAllPromise, AddPromise, DropPromise, ClearPromise}

-- ---- what the witnesses are made of

-- a copy with two pairs that have the same key
abbrev twice : Words
twice = copy (2 ∷ 0 ∷ 7 ∷ 3 ∷ 7 ∷ 4 ∷ []) refl

-- a slice of two words
abbrev two : Words
two = slice (4 ∷ 5 ∷ []) refl

-- what is read off a result: a word of the copy that a call leaves, or its answer's number
abbrev word : ℕ → Out → ℕ
word i o = word_at i o.copy

abbrev answer : Out → ℕ
answer o = number o.answer

-- a call that is refused as the rule has it, with another effect
abbrev calling : (List ℕ → List ℕ) → ℕ → ℕ → ℕ → List ℕ → Out
calling effect kind key amount w =
    elim (fits w && lawful kind key amount)
    [ true ↦ record { answer = Done; copy = effect w } | false ↦ apply_rule kind key amount w ]

-- the number behind the last of the first n that passes the test, or 0
abbrev behind_last : (ℕ → Bool) → ℕ → ℕ
behind_last p zero = 0
behind_last p (suc n) = elim (p n) [ true ↦ suc n | false ↦ behind_last p n ]

-- the last used pair that has the key
abbrev last_pair : ℕ → List ℕ → ℕ
last_pair key w = behind_last (λ i. eqb (key_at w i) key) (entries w) - 1

-- ---- number

-- every answer is done
abbrev all_done : Answer → ℕ
all_done a = 0

all_done_wrong : NumberPromise all_done → ⊥
all_done_wrong h = apart itself refl (h Broken refl)

-- counted from 1
abbrev from_one : Answer → ℕ
from_one a = suc (number a)

from_one_wrong : NumberPromise from_one → ⊥
from_one_wrong h = apart itself refl (h Done refl)

-- ---- fit

-- one entry too many passes
abbrev one_more : List ℕ → Answer
one_more w = elim (eqb (length w) words) [ true ↦ elim (leb (entries w) (pairs + 1)) [ true ↦ Done | false ↦ Broken ] | false ↦ Length ]

one_more_wrong : FitPromise one_more → ⊥
unfolding rules
one_more_wrong h = apart (λ r. number (answer_of r)) refl (h (copy ((pairs + 1) ∷ []) refl) refl)

-- any length passes
abbrev any_length : List ℕ → Answer
any_length w = elim (leb (entries w) pairs) [ true ↦ Done | false ↦ Broken ]

any_length_wrong : FitPromise any_length → ⊥
unfolding rules
any_length_wrong h = apart (λ r. number (answer_of r)) refl (h (slice (copy_with [] ++ (0 ∷ [])) refl) refl)

-- every copy is broken
abbrev none_fit : List ℕ → Answer
none_fit w = Broken

none_fit_wrong : FitPromise none_fit → ⊥
unfolding rules
none_fit_wrong h = apart (λ r. number (answer_of r)) refl (h none refl)

-- ---- lawful

-- ADD of 0 passes
abbrev adds_nothing : ℕ → ℕ → ℕ → Bool
adds_nothing kind key amount = elim (eqb kind 1) [ true ↦ true | false ↦ lawful kind key amount ]

adds_nothing_wrong : LawfulPromise adds_nothing → ⊥
unfolding rules
adds_nothing_wrong h = apart bit refl (h 1 7 0 refl)

-- CLEAR passes with a key
abbrev clears_key : ℕ → ℕ → ℕ → Bool
clears_key kind key amount = elim (eqb kind 3) [ true ↦ eqb amount 0 | false ↦ lawful kind key amount ]

clears_key_wrong : LawfulPromise clears_key → ⊥
unfolding rules
clears_key_wrong h = apart bit refl (h 3 7 0 refl)

-- a fourth kind passes
abbrev fourth_kind : ℕ → ℕ → ℕ → Bool
fourth_kind kind key amount = elim (eqb kind 4) [ true ↦ true | false ↦ lawful kind key amount ]

fourth_kind_wrong : LawfulPromise fourth_kind → ⊥
unfolding rules
fourth_kind_wrong h = apart bit refl (h 4 0 0 refl)

-- nothing passes
abbrev none_lawful : ℕ → ℕ → ℕ → Bool
none_lawful kind key amount = false

none_lawful_wrong : LawfulPromise none_lawful → ⊥
unfolding rules
none_lawful_wrong h = apart bit refl (h 2 7 0 refl)

-- ---- zero

-- the last word is left
abbrev but_last : List ℕ → List ℕ
but_last w = replicate (length w - 1) 0 ++ drop (length w - 1) w

but_last_wrong : ZeroPromise but_last → ⊥
unfolding rules
but_last_wrong h = apart (word_at 1) refl (h two refl)

-- every word is left
abbrev leaves : List ℕ → List ℕ
leaves w = w

leaves_wrong : ZeroPromise leaves → ⊥
unfolding rules
leaves_wrong h = apart (word_at 0) refl (h two refl)

-- ---- close_gap

-- the words move down, and those that they leave are not zeroed
abbrev leaves_gap : ℕ → ℕ → List ℕ → List ℕ
leaves_gap g m p = elim (leb (g + m) (length p)) [ true ↦ take m (drop g p) ++ drop m p | false ↦ p ]

leaves_gap_wrong : ClosePromise leaves_gap → ⊥
unfolding rules
leaves_gap_wrong h = apart (word_at 1) refl (h 1 1 two refl)

-- the gap stays
abbrev gap_stays : ℕ → ℕ → List ℕ → List ℕ
gap_stays g m p = p

gap_stays_wrong : ClosePromise gap_stays → ⊥
unfolding rules
gap_stays_wrong h = apart (word_at 0) refl (h 1 1 two refl)

-- words move where there is no room for both parts, as many as there are
abbrev no_room : ℕ → ℕ → List ℕ → List ℕ
no_room g m p = take (length p) (closed g m p)

no_room_wrong : ClosePromise no_room → ⊥
unfolding rules
no_room_wrong h = apart (word_at 0) refl (h 1 2 two refl)

-- all behind the gap moves down, and not the m words alone
abbrev moves_rest : ℕ → ℕ → List ℕ → List ℕ
moves_rest g m p = elim (leb (g + m) (length p)) [ true ↦ closed g (length p - g) p | false ↦ p ]

moves_rest_wrong : ClosePromise moves_rest → ⊥
unfolding rules
moves_rest_wrong h = apart (word_at 1) refl (h 1 1 (slice (4 ∷ 5 ∷ 6 ∷ []) refl) refl)

-- ---- apply

-- every call is refused
abbrev refuses_all : ℕ → ℕ → ℕ → List ℕ → Out
refuses_all kind key amount w = record { answer = Operation; copy = w }

refuses_all_wrong : ApplyPromise refuses_all → ⊥
unfolding rules
refuses_all_wrong h = apart answer refl (h 1 7 3 none refl)

-- every call that is not refused is done, with nothing changed
abbrev does_nothing : ℕ → ℕ → ℕ → List ℕ → Out
does_nothing kind key amount w = calling (λ v. v) kind key amount w

does_nothing_wrong : ApplyPromise does_nothing → ⊥
unfolding rules
does_nothing_wrong h = apart (word 0) refl (h 1 7 3 none refl)

-- the operation is judged before the copy
abbrev operation_first : ℕ → ℕ → ℕ → List ℕ → Out
operation_first kind key amount w =
    elim (lawful kind key amount) [ true ↦ apply_rule kind key amount w | false ↦ record { answer = Operation; copy = w } ]

operation_first_wrong : ApplyPromise operation_first → ⊥
unfolding rules
operation_first_wrong h = apart answer refl (h 1 7 0 two refl)

-- a refused operation clears the copy
abbrev refusal_clears : ℕ → ℕ → ℕ → List ℕ → Out
refusal_clears kind key amount w =
    elim (fits w && not (lawful kind key amount))
    [ true ↦ record { answer = Operation; copy = zeros w } | false ↦ apply_rule kind key amount w ]

refusal_clears_wrong : ApplyPromise refusal_clears → ⊥
unfolding rules
refusal_clears_wrong h = apart (word 0) refl (h 1 7 0 seven refl)

-- ---- add

-- the count goes round at the top
abbrev no_top : ℕ → ℕ → List ℕ → Out
no_top key amount =
    calling
    (λ w. elim (present key w)
    [ true ↦ set w (2 * pair_of key w + 3) ((count_at w (pair_of key w) + amount) % 2 ^ 64) | false ↦ placed key amount w ])
    1 key amount

no_top_wrong : AddPromise no_top → ⊥
unfolding rules
no_top_wrong h = apart (word 3) refl (h 7 5 (copy (1 ∷ 0 ∷ 7 ∷ (2 ^ 64 - 2) ∷ []) refl) refl)

-- another place for a new pair, where there is room for it
abbrev placing : (ℕ → ℕ → List ℕ → List ℕ) → ℕ → ℕ → List ℕ → Out
placing place key amount =
    calling
    (λ w. elim (not (present key w) && ltb (entries w) pairs) [ true ↦ place key amount w | false ↦ added key amount w ])
    1 key amount

-- all words behind the place move up, and not the used ones alone
abbrev moves_all : ℕ → ℕ → List ℕ → Out
moves_all =
    placing
    (λ key amount w.
    let at = 2 * place_of key w + 2 in
    set (take at w ++ opened (length w - at - 2) key amount (drop at w)) 0 (entries w + 1))

moves_all_wrong : AddPromise moves_all → ⊥
unfolding rules
moves_all_wrong h = apart (word 6) refl (h 3 1 (copy (1 ∷ 0 ∷ 5 ∷ 1 ∷ 8 ∷ 9 ∷ []) refl) refl)

-- the new pair stands behind the last smaller key: the right place in a copy that is in order, and not in others
abbrev behind_smaller : ℕ → ℕ → List ℕ → Out
behind_smaller =
    placing (λ key amount w. inserted (behind_last (λ i. ltb (key_at w i) key) (entries w)) key amount w)

behind_smaller_wrong : AddPromise behind_smaller → ⊥
unfolding rules
behind_smaller_wrong h = apart (word 2) refl (h 3 1 (copy (2 ∷ 0 ∷ 5 ∷ 1 ∷ 1 ∷ 1 ∷ []) refl) refl)

-- the new pair always stands at the end
abbrev at_end : ℕ → ℕ → List ℕ → Out
at_end = placing (λ key amount w. inserted (entries w) key amount w)

at_end_wrong : AddPromise at_end → ⊥
unfolding rules
at_end_wrong h = apart (word 2) refl (h 3 1 seven refl)

-- a full copy loses the key without a word
abbrev no_spill : ℕ → ℕ → List ℕ → Out
no_spill key amount = calling (λ w. set (added key amount w) 1 (spill w)) 1 key amount

-- a full copy whose every key is 0
abbrev full : Words
full = copy (pairs ∷ []) refl

zero_key : (i : ℕ) → key_at full.list i ≡ 0
zero_key i =
    let e : 2 * i + 2 ≡ suc (2 * i + 1) = omega arith in
    ap (λ (x : ℕ). word_at x full.list) e ∙ get_d_zeros (words - 1) (2 * i + 1)

-- by a law: to compute the search takes as many steps as the square of the pairs
no_spill_wrong : AddPromise no_spill → ⊥
unfolding applied_by lawful apply_by
no_spill_wrong h =
    apart (word 1)
    (added_cases (λ v. eqb (word_at 1 (set v 1 0)) (word_at 1 v) ≡ false) 7 1 full.list
    (λ i p. absurd (omega (arith, zero_key i, p.same))) (λ i a p l. absurd (omega (arith, l))) (λ a l. refl))
    (h 7 1 full refl)

-- ---- drop

-- the place that is freed keeps its words
abbrev leaves_place : ℕ → List ℕ → Out
leaves_place key =
    calling
    (λ w. elim (present key w) [
      | true ↦
          let at = 2 * pair_of key w + 2 in
          let m = 2 * (entries w - pair_of key w - 1) in
          set (take at w ++ (take m (drop (at + 2) w) ++ drop (at + m) w)) 0 (entries w - 1)
      | false ↦ w
    ])
    2 key 0

leaves_place_wrong : DropPromise leaves_place → ⊥
unfolding rules
leaves_place_wrong h = apart (word 2) refl (h 7 seven refl)

-- of two pairs with the key the last goes
abbrev drops_last : ℕ → List ℕ → Out
drops_last key =
    calling
    (λ w. elim (present key w) [ true ↦ removed (last_pair key w) w | false ↦ w ]) 2 key 0

drops_last_wrong : DropPromise drops_last → ⊥
unfolding rules
drops_last_wrong h = apart (word 3) refl (h 7 twice refl)

-- the pair goes and the entry count stays
abbrev keeps_count : ℕ → List ℕ → Out
keeps_count key = calling (λ w. set (dropped key w) 0 (entries w)) 2 key 0

keeps_count_wrong : DropPromise keeps_count → ⊥
unfolding rules
keeps_count_wrong h = apart (word 0) refl (h 7 seven refl)

-- ---- clear

-- the used part alone is zeroed
abbrev clears_used : List ℕ → Out
clears_used = calling (λ w. zeros (used_of w) ++ drop (2 * entries w + 2) w) 3 0 0

clears_used_wrong : ClearPromise clears_used → ⊥
unfolding rules
clears_used_wrong h = apart (word 2) refl (h (copy (0 ∷ 0 ∷ 7 ∷ []) refl) refl)

-- the spill stays
abbrev keeps_spill : List ℕ → Out
keeps_spill = calling (λ w. set (zeros w) 1 (spill w)) 3 0 0

keeps_spill_wrong : ClearPromise keeps_spill → ⊥
unfolding rules
keeps_spill_wrong h = apart (word 1) refl (h (copy (0 ∷ 5 ∷ []) refl) refl)

-- ---- look_up

-- of two pairs with the key the last is shown
abbrev looks_last : ℕ → List ℕ → List ℕ
looks_last key w =
    elim (fits w && present key w)
    [ true ↦ take 2 (drop (2 * last_pair key w + 2) w) | false ↦ [] ]

looks_last_wrong : LookPromise looks_last → ⊥
unfolding rules
looks_last_wrong h = apart (word_at 1) refl (h 7 twice refl)

-- no key is ever found
abbrev looks_nowhere : ℕ → List ℕ → List ℕ
looks_nowhere key w = []

looks_nowhere_wrong : LookPromise looks_nowhere → ⊥
unfolding rules
looks_nowhere_wrong h = apart length refl (h 7 seven refl)

-- pairs behind the used part are found too
abbrev looks_behind : ℕ → List ℕ → List ℕ
looks_behind key w =
    elim (fits w) [ true ↦ take 2 (drop (2 * seek (λ i. eqb (key_at w i) key) 0 pairs + 2) w) | false ↦ [] ]

looks_behind_wrong : LookPromise looks_behind → ⊥
unfolding rules
looks_behind_wrong h = apart length refl (h 7 (copy (0 ∷ 0 ∷ 7 ∷ 3 ∷ []) refl) refl)

-- the count alone is shown
abbrev looks_count : ℕ → List ℕ → List ℕ
looks_count key w = drop 1 (look_rule key w)

looks_count_wrong : LookPromise looks_count → ⊥
unfolding rules
looks_count_wrong h = apart length refl (h 7 seven refl)

-- words are trusted to be in order
abbrev trusts : ℕ → List ℕ → List ℕ
trusts = look_by Halve

trusts_wrong : LookPromise trusts → ⊥
unfolding rules
trusts_wrong h = apart length refl (h 7 falls refl)

-- ---- look_up_by, apply_by

-- it halves where a walk is asked for
halves_always_wrong : LookByPromise (λ how. look_by Halve) → ⊥
unfolding rules
halves_always_wrong h = apart length refl (h Walk 7 falls refl)

-- the pair at a place, if it has the key
abbrev looks_at : ℕ → List ℕ → ℕ → List ℕ
looks_at key w i = elim (fits w && has_key key w i) [ true ↦ take 2 (drop (2 * i + 2) w) | false ↦ [] ]

-- halving that stops at any pair with the key: of two it may be the second
abbrev meets : ℕ → List ℕ → ℕ → ℕ → ℕ → ℕ
meets key w zero i n = i
meets key w (suc f) i n =
    elim (ltb 0 n) [
      | true ↦
          elim (eqb (key_at w (i + n / 2)) key) [
            | true ↦ i + n / 2
            | false ↦
                elim (leb key (key_at w (i + n / 2)))
                [ true ↦ meets key w f i (n / 2) | false ↦ meets key w f (i + n / 2 + 1) (n - n / 2 - 1) ]
          ]
      | false ↦ i
    ]

abbrev meets_any : ℕ → List ℕ → List ℕ
meets_any key w = looks_at key w (meets key w (entries w) 0 (entries w))

meets_any_wrong : LookByPromise (λ how. meets_any) → ⊥
unfolding rules
meets_any_wrong h = apart (word_at 1) refl (h Halve 7 twice refl)

-- halving that goes behind the key: one place late
abbrev late : ℕ → List ℕ → ℕ
late key w = halve (λ i. ltb key (key_at w i)) (entries w) 0 (entries w)

looks_late_wrong : LookByPromise (λ how key w. looks_at key w (late key w)) → ⊥
unfolding rules
looks_late_wrong h = apart length refl (h Halve 7 seven refl)

-- so that a key that is there is added once more
abbrev adds_late : Search → ℕ → ℕ → ℕ → List ℕ → Out
adds_late how kind key amount =
    calling
    (λ w. elim (has_key key w (late key w)) [ true ↦ added key amount w | false ↦ inserted (late key w) key amount w ])
    kind key amount

adds_late_wrong : ApplyByPromise adds_late → ⊥
unfolding rules
adds_late_wrong h = apart (word 0) refl (h Halve 1 7 1 seven refl)

-- an operation on words that are trusted to be in order
applies_trusting_wrong : ApplyByPromise (λ how. apply_by Halve) → ⊥
unfolding rules
applies_trusting_wrong h = apart (word 0) refl (h Walk 2 7 0 falls refl)

-- ---- look_up_all

-- the views of these copies, an output for one key, and one that is too short
abbrev view : (w : List ℕ) → below 64 (used_of w) ≡ true → Words
view w h = slice (used_of w) h

abbrev sought : Words
sought = slice (7 ∷ []) refl

abbrev blank : Words
blank = slice (5 ∷ 6 ∷ []) refl

abbrev short : Words
short = slice (5 ∷ []) refl

-- what is not refused is looked up in another way
abbrev looking : (ℕ → List ℕ → List ℕ) → List ℕ → List ℕ → List ℕ → Out
looking look v keys out =
    let o = look_all_rule v keys out in
    elim (eqb (number o.answer) 0) [ true ↦ record { answer = Done; copy = all keys } | false ↦ o ]
  where
    all : List ℕ → List ℕ
    all [] = []
    all (key ∷ keys) = told (look key (filled v)) ++ all keys

-- the order of the view is trusted
all_trust_wrong : LookAllPromise (looking (look_by Halve)) → ⊥
unfolding rules
all_trust_wrong h = apart (word 0) refl (h (view falls.list refl) sought blank refl)

-- halving that stops at any pair with the key
all_meet_wrong : LookAllPromise (looking meets_any) → ⊥
unfolding rules
all_meet_wrong h = apart (word 1) refl (h (view twice.list refl) sought blank refl)

-- every call is refused
all_refused_wrong : LookAllPromise (λ v keys out. record { answer = Length; copy = out }) → ⊥
unfolding rules
all_refused_wrong h = apart answer refl (h (view seven.list refl) sought blank refl)

-- every call is done, and nothing is written
all_idle_wrong : LookAllPromise (λ v keys out. record { answer = Done; copy = out }) → ⊥
unfolding rules
all_idle_wrong h = apart (word 0) refl (h (view seven.list refl) sought blank refl)

-- an output of another length is written as far as it goes
abbrev writes_short : List ℕ → List ℕ → List ℕ → Out
writes_short v keys out =
    let o = look_all_rule v keys out in
    record { answer = o.answer; copy = take (length out) (told_all keys (filled v)) }

writes_short_wrong : LookAllPromise writes_short → ⊥
unfolding rules
writes_short_wrong h = apart (word 0) refl (h (view seven.list refl) sought short refl)

-- a view that is longer than its entry count says is taken
abbrev any_view : List ℕ → List ℕ → List ℕ → Out
any_view v keys out = record { answer = Done; copy = told_all keys (filled v) }

any_view_wrong : LookAllPromise any_view → ⊥
unfolding rules
any_view_wrong h = apart answer refl (h seven sought blank refl)

-- whether a key is there is told by its count alone
abbrev counts_tell : List ℕ → List ℕ → List ℕ → Out
counts_tell v keys out = let o = look_all_rule v keys out in record { answer = o.answer; copy = set o.copy 0 (word_at 1 o.copy) }

counts_tell_wrong : LookAllPromise counts_tell → ⊥
unfolding rules
counts_tell_wrong h = apart (word 0) refl (h (view seven.list refl) sought blank refl)

-- ---- used

-- the last pair is missing
abbrev one_pair_short : List ℕ → List ℕ
one_pair_short w = elim (fits w) [ true ↦ take (2 * (entries w - 1) + 2) w | false ↦ [] ]

one_pair_short_wrong : UsedPromise one_pair_short → ⊥
unfolding rules
one_pair_short_wrong h = apart length refl (h seven refl)

-- the whole copy is shown
abbrev shows_all : List ℕ → List ℕ
shows_all w = elim (fits w) [ true ↦ w | false ↦ [] ]

shows_all_wrong : UsedPromise shows_all → ⊥
unfolding rules
shows_all_wrong h = apart length refl (h seven refl)

-- the empty table is shown always
abbrev shows_empty : List ℕ → List ℕ
shows_empty w = elim (fits w) [ true ↦ 0 ∷ 0 ∷ [] | false ↦ [] ]

shows_empty_wrong : UsedPromise shows_empty → ⊥
unfolding rules
shows_empty_wrong h = apart length refl (h seven refl)
