-- Which call each phase of the writer admits: 0 is admitted, 6 not now, 7 locked.
use Rattle.std.specs.Prelude.{ℕ, ◌+◌, ◌-◌, Bool, true, false, not, ◌||◌, List, ◌∷◌, ◌++◌, replicate, slice_index_or}
use Rattle.read.specs.declared.Phase.{Phase}
use Rattle.read.specs.declared.Handle.{Handle}
use Rattle.read.specs.declared.Handle.TheVariants.{Drop, Enter, GoOn, Release, LookUp, WasDropped}
use Rattle.read.specs.Machine.{is_gone, underway, locks}

-- ---- columns

-- the calls by their numbers in a schedule, 1 to 14, stand in columns 0 to 13; those on slot 0, 2 to 7, again in columns 14 to 19
abbrev pub handle_number : Handle → ℕ
handle_number Drop = 2
handle_number Enter = 3
handle_number GoOn = 4
handle_number (Release g) = 5
handle_number (LookUp g key) = 6
handle_number WasDropped = 7

-- the guard that it names, 0 where it names none
abbrev pub guard_named : Handle → ℕ
guard_named Drop = 0
guard_named Enter = 0
guard_named GoOn = 0
guard_named (Release g) = g
guard_named (LookUp g key) = g
guard_named WasDropped = 0

-- by whether the slot is slot 0
abbrev pub column_by : ℕ → Bool → ℕ
column_by n true = n + 12
column_by n false = n - 1

abbrev pub column : Handle → Bool → ℕ
column h own = column_by (handle_number h) own

abbrev pub create_column : ℕ
create_column = 0

abbrev pub append_column : ℕ
append_column = 7

-- ---- the rule

abbrev pub not_now : Bool → ℕ
not_now true = 6
not_now false = 0

abbrev pub locked : Bool → ℕ
locked true = 7
locked false = 0

-- by columns: create and drop wait for the lock; the handle calls on other slots are always admitted; the writer's calls begin where none
-- is under way, and step and run go on where one is; slot 0 is the writer's own: dropped after gone alone, and left alone under way
abbrev pub admissions : Phase → List ℕ
admissions p =
    replicate 2 (locked (locks p))
    ++ (replicate 5 0
    ++ (replicate 5 (not_now (underway p || is_gone p))
    ++ (replicate 2 (not_now (not (underway p))) ++ (not_now (not (is_gone p)) ∷ replicate 5 (not_now (underway p))))))

unfoldable pub entry : Phase → ℕ → ℕ
entry p c = slice_index_or (admissions p) c (not_now (underway p))
