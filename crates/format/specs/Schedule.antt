-- The schedule file: a mark, a version, and records of 20 bytes, each a call.
use Rattle.std.specs.Prelude.{ℕ, zero, suc, ◌+◌, ◌-◌, ◌*◌, ◌/◌, ◌%◌, Bool, true, false, not, ◌&&◌, List, [], ◌∷◌, length, get_or, eqb, ltb, leb}
use Rattle.table.specs.Seek.{seek}
use Rattle.std.specs.Prelude.{Result, Ok, Err}
use Rattle.format.specs.declared.Fields.{Fields}
use Rattle.format.specs.declared.Fault.{Fault}
use Rattle.format.specs.declared.Fault.TheVariants.{Unmarked, Version, Torn, Bad, Crowded}
use Rattle.format.specs.declared.Flaw.{Flaw}

-- ---- numbers in bytes, the lowest first

-- the number in the n bytes from `at` on
abbrev pub number_at : ℕ → List ℕ → ℕ → ℕ
number_at zero s at = 0
number_at (suc n) s at = get_or s at 0 + 256 * number_at n s (suc at)

-- n bytes of a number
abbrev pub bytes_of : ℕ → ℕ → List ℕ
bytes_of zero v = []
bytes_of (suc n) v = v % 256 ∷ bytes_of n (v / 256)

-- ---- the file

abbrev pub head_bytes : ℕ
head_bytes = 5

abbrev pub record_bytes : ℕ
record_bytes = 20

-- how many whole records there are
abbrev pub count : List ℕ → ℕ
count s = (length s - head_bytes) / record_bytes

-- where record i begins
abbrev pub start_of : ℕ → ℕ
start_of i = head_bytes + record_bytes * i

-- at least five bytes, of which the first three are the mark LRT
abbrev pub marked : List ℕ → Bool
marked s =
    leb head_bytes (length s) && (eqb (get_or s 0 0) 76 && (eqb (get_or s 1 0) 82 && eqb (get_or s 2 0) 84))

abbrev pub version_of : List ℕ → ℕ
version_of s = number_at 2 s 3

abbrev pub torn : List ℕ → Bool
torn s = not (eqb ((length s - head_bytes) % record_bytes) 0)

-- ---- a record

-- the record that begins at byte `at`, field by field
abbrev pub fields_at : List ℕ → ℕ → Fields
fields_at s at =
    record {
      call = get_or s at 0;
      slot = get_or s (at + 1) 0;
      guard = get_or s (at + 2) 0;
      kind = get_or s (at + 3) 0;
      key = number_at 8 s (at + 4);
      amount = number_at 8 s (at + 12);
    }

-- ---- batches

-- how many of the records behind it belong to a record: those of a batch
abbrev pub members_in : Fields → ℕ
members_in f = elim (eqb f.call 15) [ true ↦ f.amount | false ↦ 0 ]

unfoldable pub members_at : List ℕ → ℕ → ℕ
members_at s at = members_in (fields_at s at)

-- where the records begin that get an entry: of n from byte `at` on, the first `skip` belong to a batch before them
abbrev pub units_from : List ℕ → ℕ → ℕ → ℕ → List ℕ
units_from s at skip zero = []
units_from s at zero (suc n) = at ∷ units_from s (at + record_bytes) (members_at s at) n
units_from s at (suc skip) (suc n) = units_from s (at + record_bytes) skip n

-- how many entries the transcript of a file has
abbrev pub entries_in : List ℕ → ℕ
entries_in s = length (units_from s head_bytes 0 (count s))

-- ---- what refuses a file

-- of the records behind record i, counted from 0 on, the j-th is no append
abbrev pub other_at : List ℕ → ℕ → ℕ → Bool
other_at s i j = not (eqb (get_or s (start_of (i + 1 + j)) 0) 8)

-- the first of m that is none, or m
abbrev pub first_other : List ℕ → ℕ → ℕ → ℕ
first_other s i m = seek (other_at s i) 0 m

-- record i's call is none of 1 to 15, or it is a batch with fewer records behind it than it says, or with one among them that is no
-- append
unfoldable pub bad_at : List ℕ → ℕ → Bool
bad_at s i =
    let call = get_or s (start_of i) 0 in
    let m = members_at s (start_of i) in
    not (leb 1 call && (leb call 15 && (leb m (count s - i - 1) && eqb (first_other s i m) m)))

-- the first of n records that is bad, or n
abbrev pub first_bad : List ℕ → ℕ → ℕ
first_bad s n = seek (bad_at s) 0 n

-- the number that is given for a fault
abbrev pub fault_number : Fault → ℕ
fault_number Unmarked = 21
fault_number Version = 22
fault_number Torn = 23
fault_number Bad = 24
fault_number Crowded = 25

abbrev pub flaw : Fault → ℕ → Result ℕ Flaw
flaw a i = Err (record { fault = a; place = i })

-- of records that are all whole: 24 and the first bad one, or how many entries there will be
unfoldable pub flaw_in : List ℕ → Result ℕ Flaw
flaw_in s =
    let n = count s in
    let i = first_bad s n in
    elim (ltb i n) [ true ↦ flaw Bad i | false ↦ Ok (entries_in s) ]

-- 21 the mark, or shorter than five bytes; 22 the version; 23 a torn record; 24 a bad one; or how many entries there will be. With what is
-- wrong the record at which it was found
unfoldable pub flaw_of : List ℕ → Result ℕ Flaw
flaw_of s =
    elim (marked s) [
      | true ↦
          elim (eqb (version_of s) 1)
          [ true ↦ elim (torn s) [ true ↦ flaw Torn (count s) | false ↦ flaw_in s ] | false ↦ flaw Version 0 ]
      | false ↦ flaw Unmarked 0
    ]

-- the number of what is wrong with a file, 0 where nothing is
abbrev pub number_of : Result ℕ Flaw → ℕ
number_of (Ok n) = 0
number_of (Err f) = fault_number f.fault

-- the record at which it was found, of n; n where nothing is wrong
abbrev pub place_of : ℕ → Result ℕ Flaw → ℕ
place_of n (Ok m) = n
place_of n (Err f) = f.place
