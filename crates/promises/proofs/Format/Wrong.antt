-- Wrong programs, and for each a proof that the contract's promise (`Promises`) is false of it, by one computed input.
use Prim.Native.Nat.{ℕ, zero, suc, ◌+◌, ◌-◌, ◌/◌}
use mathlib.Core.Path.{refl}
use mathlib.Core.Bool.{Bool, true, false, not, ◌&&◌, ◌||◌}
use mathlib.Core.List.{List, [], ◌∷◌, ◌++◌}
use lib.Dec.{eqb, ltb, leb}
use lib.ListN.{length, get_or, drop, take, replicate}
use lib.Seq.{sets}
use Rattle.table.specs.Seek.{seek}
use Rattle.table.proofs.Computes.{apart}
use Rattle.promises.proofs.Contracts.{slice}
use Rattle.format.specs.declared.Fields.{Fields}
use Rattle.std.specs.Prelude.{Result, Ok, Err}
use Rattle.format.specs.declared.Flaw.{Flaw}
use Rattle.format.specs.declared.Fault.TheVariants.{Unmarked, Version, Torn, Bad}
use Rattle.format.specs.Schedule.{number_at, bytes_of, record_bytes, count, start_of, marked, version_of, torn, fields_at, members_in, members_at, fault_number, entries_in, other_at, first_other, bad_at, first_bad, flaw, flaw_in, flaw_of, number_of, place_of}
use Rattle.format.specs.Transcript.{entry_bytes, entry_of}
use Rattle.format.proofs.Computes.{rules}
use Rattle.promises.proofs.Format.Promises.{CountPromise, FieldsPromise, MembersPromise, FaultNumberPromise, FaultPromise, CheckPromise, PutPromise}

-- ---- what the witnesses are made of

-- a file with these records
abbrev file : List ℕ → List ℕ
file rs = 76 ∷ 82 ∷ 84 ∷ 1 ∷ 0 ∷ rs

-- a record of a call, with an amount below 256
abbrev one : ℕ → ℕ → List ℕ
one call amount = call ∷ (replicate 11 0 ++ (amount ∷ replicate 7 0))

-- n appends
abbrev appends : ℕ → List ℕ
appends zero = []
appends (suc n) = one 8 0 ++ appends n

-- a file with one record, of an unknown call, and n bytes behind it
abbrev unknown : ℕ → List ℕ
unknown n = file (one 16 0 ++ replicate n 0)

abbrev itself : ℕ → ℕ
itself n = n

abbrev byte_at : ℕ → List ℕ → ℕ
byte_at i w = get_or w i 0

-- ---- count

-- the records are counted with the head, or with the torn one
abbrev with_head : List ℕ → ℕ
with_head s = length s / record_bytes

with_head_wrong : CountPromise with_head → ⊥
with_head_wrong h = apart itself refl (h (slice (replicate 20 0) refl) refl)

abbrev with_torn : List ℕ → ℕ
with_torn s = elim (torn s) [ true ↦ suc (count s) | false ↦ count s ]

with_torn_wrong : CountPromise with_torn → ⊥
with_torn_wrong h = apart itself refl (h (slice (unknown 1) refl) refl)

-- ---- fields_at

-- the key is read one byte further on
abbrev key_further : List ℕ → ℕ → Fields
key_further s at =
    let f = fields_at s at in
    record {
      call = f.call;
      slot = f.slot;
      guard = f.guard;
      kind = f.kind;
      key = number_at 8 s (at + 5);
      amount = f.amount;
    }

key_further_wrong : FieldsPromise key_further → ⊥
key_further_wrong h = apart (λ f. f.key) refl (h (slice (0 ∷ 0 ∷ 0 ∷ 0 ∷ 7 ∷ replicate 15 0) refl) 0 refl)

-- a record that is cut short has nothing in it
abbrev whole_only : List ℕ → ℕ → Fields
whole_only s at = elim (leb (at + record_bytes) (length s)) [ true ↦ fields_at s at | false ↦ fields_at [] 0 ]

whole_only_wrong : FieldsPromise whole_only → ⊥
whole_only_wrong h = apart (λ f. f.call) refl (h (slice (0 ∷ 3 ∷ []) refl) 1 refl)

-- ---- members, and what a fault says

-- a batch has one record less than it says
abbrev one_less : Fields → ℕ
one_less f = members_in f - 1

one_less_wrong : MembersPromise one_less → ⊥
one_less_wrong h =
    apart itself refl (h (record { call = 15; slot = 0; guard = 0; kind = 0; key = 0; amount = 2 }) refl)

-- faults are numbered from 20 on
from20_wrong : FaultNumberPromise (λ f. fault_number f - 1) → ⊥
from20_wrong h = apart itself refl (h Unmarked refl)

-- whatever was found is a torn record
always_torn_wrong : FaultPromise (λ f. Torn) → ⊥
always_torn_wrong h = apart fault_number refl (h (record { fault = Bad; place = 0 }) refl)

-- the amount of any record counts; every fault has the same number; every fault is a bad record
any_amount_wrong : MembersPromise (λ f. f.amount) → ⊥
any_amount_wrong h = apart itself refl (h (record { call = 8; slot = 0; guard = 0; kind = 1; key = 0; amount = 2 }) refl)

one_number_wrong : FaultNumberPromise (λ f. 21) → ⊥
one_number_wrong h = apart itself refl (h Version refl)

always_bad_wrong : FaultPromise (λ f. Bad) → ⊥
always_bad_wrong h = apart fault_number refl (h (record { fault = Torn; place = 0 }) refl)

-- ---- check

abbrev entries_or_none : Result ℕ Flaw → ℕ
entries_or_none (Ok n) = n
entries_or_none (Err f) = 0

-- 24 is found before 23, or the record behind the bad one is named
abbrev pub unknown_first : List ℕ → Result ℕ Flaw
unknown_first s =
    let n = count s in
    let i = first_bad s n in
    elim (marked s) [
      | true ↦
          elim (eqb (version_of s) 1)
          [ true ↦ elim (ltb i n) [ true ↦ flaw Bad i | false ↦ elim (torn s) [ true ↦ flaw Torn n | false ↦ flaw_in s ] ] | false ↦ flaw Version 0 ]
      | false ↦ flaw Unmarked 0
    ]

unknown_first_check_wrong : CheckPromise unknown_first → ⊥
unfolding rules
unknown_first_check_wrong h = apart number_of refl (h (slice (unknown 1) refl) refl)

abbrev names_next : List ℕ → Result ℕ Flaw
names_next s =
    let f = flaw_of s in
    elim (eqb (number_of f) 24) [ true ↦ flaw Bad (suc (place_of (count s) f)) | false ↦ f ]

names_next_wrong : CheckPromise names_next → ⊥
unfolding rules
names_next_wrong h = apart (place_of 0) refl (h (slice (unknown 0) refl) refl)

-- a bad batch is found at the first record behind it that does not belong there
abbrev names_member : List ℕ → Result ℕ Flaw
names_member s =
    let f = flaw_of s in
    let i = place_of (count s) f in
    let m = members_at s (start_of i) in
    elim (eqb (number_of f) 24 && ltb 0 m) [ true ↦ flaw Bad (i + 1 + first_other s i m) | false ↦ f ]

names_member_wrong : CheckPromise names_member → ⊥
unfolding rules
names_member_wrong h = apart (place_of 0) refl (h (slice (file (one 15 1 ++ one 1 0)) refl) refl)

-- the records of a batch get entries too
abbrev counts_members : List ℕ → Result ℕ Flaw
counts_members s =
    let f = flaw_of s in
    elim (eqb (number_of f) 0) [ true ↦ Ok (count s) | false ↦ f ]

counts_members_wrong : CheckPromise counts_members → ⊥
unfolding rules
counts_members_wrong h = apart entries_or_none refl (h (slice (file (one 15 1 ++ appends 1)) refl) refl)

-- the records are judged by another test
abbrev judging : (List ℕ → ℕ → Bool) → List ℕ → Result ℕ Flaw
judging bad s =
    let n = count s in
    let i = seek (bad s) 0 n in
    let f = flaw_of s in
    elim (ltb 0 (number_of f) && ltb (number_of f) 24) [
      | true ↦ f
      | false ↦ elim (ltb i n) [ true ↦ flaw Bad i | false ↦ Ok (entries_in s) ]
    ]

-- a batch may stand inside a batch
abbrev pub nested : List ℕ → Result ℕ Flaw
nested =
    judging
    (λ s i.
    let call = get_or s (start_of i) 0 in
    let m = members_at s (start_of i) in
    let other : ℕ → Bool = λ j. other_at s i j && not (eqb (get_or s (start_of (i + 1 + j)) 0) 15) in
    not (leb 1 call && (leb call 15 && (leb m (count s - i - 1) && eqb (seek other 0 m) m))))

nested_wrong : CheckPromise nested → ⊥
unfolding rules
nested_wrong h = apart number_of refl (h (slice (file (one 15 1 ++ one 15 0)) refl) refl)

-- a batch may say more records than there are
abbrev pub cut_short : List ℕ → Result ℕ Flaw
cut_short = judging (λ s i. bad_at s i && leb (members_at s (start_of i)) (count s - i - 1))

cut_short_wrong : CheckPromise cut_short → ⊥
unfolding rules
cut_short_wrong h = apart number_of refl (h (slice (file (one 15 2 ++ appends 1)) refl) refl)

-- a batch of more than 64, which is for the machine to refuse, refuses the file
abbrev too_many : List ℕ → Result ℕ Flaw
too_many = judging (λ s i. bad_at s i || ltb 64 (members_at s (start_of i)))

too_many_wrong : CheckPromise too_many → ⊥
unfolding rules
too_many_wrong h = apart number_of refl (h (slice (file (one 15 65 ++ appends 65)) refl) refl)

-- ---- put

-- where the entry does not fit, what fits of it is written
abbrev in_part : ℕ → ℕ → ℕ → List ℕ → List ℕ
in_part a v at out = sets out at (entry_of a v)

in_part_wrong : PutPromise in_part → ⊥
unfolding rules
in_part_wrong h = apart (byte_at 0) refl (h 1 0 0 (slice (0 ∷ []) refl) refl)

-- a value is cut to 32 bits
abbrev cut_value : ℕ → ℕ → ℕ → List ℕ → List ℕ
cut_value a v at out =
    elim (leb (at + entry_bytes) (length out))
    [ true ↦ take at out ++ (a ∷ (bytes_of 4 v ++ (0 ∷ 0 ∷ 0 ∷ 0 ∷ drop (at + entry_bytes) out))) | false ↦ out ]

cut_value_wrong : PutPromise cut_value → ⊥
unfolding rules
cut_value_wrong h = apart (byte_at 5) refl (h 0 4294967296 0 (slice (replicate 9 0) refl) refl)
