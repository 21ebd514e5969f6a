-- Known ends of the player, computed over the rules.
use Prim.Native.Nat.{ℕ, zero, suc, ◌+◌, ◌-◌, ◌^◌}
use mathlib.Core.Path.{◌≡◌, refl}
use mathlib.Core.List.{List, [], ◌∷◌, ◌++◌, map}
use lib.ListN.{replicate}
use Rattle.read.specs.Machine.{slot_total}
use Rattle.format.specs.Schedule.{bytes_of, count, flaw_of, place_of}
use Rattle.play.specs.Player.{refusal_of, output, play_rule}
use Rattle.play.proofs.Computes.{rules}

-- the mark and the version
abbrev pub head : List ℕ
head = 76 ∷ 82 ∷ 84 ∷ 1 ∷ 0 ∷ []

-- a record: call, slot, guard, kind, key and amount
abbrev pub record_of : ℕ → ℕ → ℕ → ℕ → ℕ → ℕ → List ℕ
record_of call slot guard kind key amount = call ∷ slot ∷ guard ∷ kind ∷ (bytes_of 8 key ++ bytes_of 8 amount)

abbrev pub create : List ℕ
create = record_of 1 0 0 0 0 0

-- a batch that says n
abbrev pub batch_of : ℕ → List ℕ
batch_of n = record_of 15 0 0 0 0 n

-- n appends, each of which adds 3 to key 7
abbrev pub adds : ℕ → List ℕ
adds zero = []
adds (suc n) = record_of 8 0 0 1 7 3 ++ adds n

-- create; these; publish; run; enter 1; go on 1; look up key 7 in slot 1, guard 0
abbrev pub looks_up : List ℕ → List ℕ
looks_up rs =
    head ++ (create ++ (rs ++ (record_of 9 0 0 0 0 0 ++ (record_of 14 0 0 0 0 0
    ++ (record_of 3 1 0 0 0 0 ++ (record_of 4 1 0 0 0 0 ++ record_of 6 1 0 0 7 0))))))

-- P1: one append
abbrev pub p1 : List ℕ
p1 = looks_up (adds 1)

-- an answer with a small value
abbrev entry : ℕ → ℕ → List ℕ
entry a v = a ∷ v ∷ 0 ∷ 0 ∷ 0 ∷ 0 ∷ 0 ∷ 0 ∷ 0 ∷ []

-- of seven calls, of which the last finds this count
abbrev found : ℕ → List ℕ
found n = entry 0 1 ++ (entry 0 0 ++ (entry 0 0 ++ (entry 0 (slot_total + 1) ++ (entry 0 0 ++ (entry 0 0 ++ entry 0 n)))))

-- its 63 bytes, over an output that is longer
p1_plays : play_rule p1 (replicate 65 170) ≡ output (record { answer = 0; written = 63 }) (found 3 ++ (170 ∷ 170 ∷ []))
unfolding rules
p1_plays = refl

-- a batch of two in its place: two records more, and as many bytes
batch_plays : play_rule (looks_up (batch_of 2 ++ adds 2)) (replicate 63 170) ≡ output (record { answer = 0; written = 63 }) (found 6)
unfolding rules
batch_plays = refl

-- a batch of 64, one of 65 and an empty one: three entries
sizes_play :
    play_rule (head ++ (batch_of 64 ++ (adds 64 ++ (batch_of 65 ++ (adds 65 ++ batch_of 0))))) (replicate 27 170)
    ≡ output (record { answer = 0; written = 27 }) (entry 0 0 ++ (entry 5 0 ++ entry 0 0))
unfolding rules
sizes_play = refl

-- ---- what refuses a file

-- a file, how many bytes its output has, and what refuses it: the first reason in the order of the numbers, and the record at which that
-- is found in the file, or how many it has
pub record Refusal : Type 0 where
  pub file : List ℕ
  pub room : ℕ
  pub answer : ℕ
  pub place : ℕ

abbrev refusal : List ℕ → ℕ → ℕ → ℕ → Refusal
refusal s m a i = record { file = s; room = m; answer = a; place = i }

abbrev refusals : List Refusal
refusals =
    refusal [] 9 21 0
    ∷ refusal (76 ∷ 82 ∷ 84 ∷ 1 ∷ []) 9 21 0
    ∷ refusal (76 ∷ 82 ∷ 85 ∷ 2 ∷ 0 ∷ []) 9 21 0
    ∷ refusal (76 ∷ 82 ∷ 84 ∷ 1 ∷ 1 ∷ 0 ∷ []) 9 22 0
    ∷ refusal (head ++ (record_of 16 0 0 0 0 0 ++ (1 ∷ []))) 0 23 1
    -- a batch that the torn record would have to fill
    ∷ refusal (head ++ (batch_of 1 ++ (8 ∷ []))) 0 23 1
    ∷ refusal (head ++ (create ++ record_of 0 0 0 0 0 0)) 0 24 1
    ∷ refusal (head ++ record_of 16 0 0 0 0 0) 0 24 0
    -- a batch cut short, and the longest that can be said
    ∷ refusal (head ++ (create ++ (batch_of 2 ++ adds 1))) 18 24 1
    ∷ refusal (head ++ (create ++ (batch_of (2 ^ 64 - 1) ++ adds 2))) 18 24 1
    -- a batch with a create in it, and one with a batch in it
    ∷ refusal (head ++ (batch_of 2 ++ (adds 1 ++ create))) 9 24 0
    ∷ refusal (head ++ (batch_of 2 ++ (adds 1 ++ batch_of 0))) 9 24 0
    -- more than 64 must be there too
    ∷ refusal (head ++ (batch_of 65 ++ adds 64)) 9 24 0
    ∷ refusal p1 62 25 7
    ∷ refusal p1 63 0 7
    -- two records of these three get no entry
    ∷ refusal (head ++ (batch_of 2 ++ adds 2)) 8 25 3
    ∷ refusal (head ++ (batch_of 2 ++ adds 2)) 9 0 3
    ∷ refusal head 0 0 0
    ∷ []

refusals_found :
    map (λ (c : Refusal). refusal_of c.file c.room ∷ place_of (count c.file) (flaw_of c.file) ∷ []) refusals
    ≡ map (λ (c : Refusal). c.answer ∷ c.place ∷ []) refusals
unfolding rules
refusals_found = refl
