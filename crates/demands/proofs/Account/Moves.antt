-- A step of the writer, by what it changes in the account; and a run of them.
use Prim.Native.Nat.{ℕ, zero, suc}
use mathlib.Core.Path.{◌≡◌, refl}
use mathlib.Core.Bool.{Bool, true, false, ◌&&◌}
use mathlib.Core.List.{List, [], ◌∷◌}
use lib.Dec.{eqb}
use Rattle.table.proofs.Split.{by}
use Rattle.read.specs.declared.Handle.{Handle}
use Rattle.read.specs.Admission.{handle_number}
use Rattle.demands.specs.Account.{Move, begin, poll, copy, apply, swap, snap, null, lock, finish, Account, of_reader, of_store, with_end, with_plan, reads_epoch, on_copy, on_swap, leaves, frees, deed, advanced, ran}

abbrev pub under_lock : Move → Bool
under_lock x = (deed x).0

abbrev pub meets : Account → Move → Bool
meets a x = (deed x).1 a

abbrev pub makes : Move → Account → Account
makes x a = (deed x).2 a

abbrev move_number : Move → ℕ
move_number begin = 0
move_number (poll i) = 1
move_number copy = 2
move_number apply = 3
move_number swap = 4
move_number (snap i) = 5
move_number null = 6
move_number lock = 7
move_number finish = 8

abbrev pub is_swap : Move → Bool
is_swap x = eqb (move_number x) 4

abbrev pub is_snap : Move → Bool
is_snap x = eqb (move_number x) 5

abbrev pub is_finish : Move → Bool
is_finish x = eqb (move_number x) 8

-- no swap, no snapshot and no finish: it changes nothing, or says that the copies are synchronised, or that the pointer is null
pub record Plain (P : Account → Type 0) (a : Account) : Type 0 where
  pub same : P a
  pub copied : P (of_store on_copy a)
  pub nulled : P (with_end true a.gone a)

pub each_move :
    (P : Account → Type 0) (a : Account) (x : Move) → (is_swap x ≡ false → is_snap x ≡ false → is_finish x ≡ false → Plain P a) →
    (x ≡ swap → P (of_store on_swap a)) → ((i : ℕ) → x ≡ snap i → P (of_reader i reads_epoch a)) →
    (x ≡ finish → P (makes finish a)) → P (makes x a)
each_move P a begin h s r f = (h refl refl refl).same
each_move P a (poll i) h s r f = (h refl refl refl).same
each_move P a copy h s r f = (h refl refl refl).copied
each_move P a apply h s r f = (h refl refl refl).same
each_move P a swap h s r f = s refl
each_move P a (snap i) h s r f = r i refl
each_move P a null h s r f = (h refl refl refl).nulled
each_move P a lock h s r f = (h refl refl refl).same
each_move P a finish h s r f = f refl

-- what none of them changes
pub no_move : (P : Account → Type 0) (a : Account) → P a → P (of_store on_copy a) → P (of_store on_swap a) → P (with_end true a.gone a) →
    ((i : ℕ) → P (of_reader i reads_epoch a)) → P (makes finish a) → (x : Move) → P (makes x a)
no_move P a h c s n r f x = each_move P a x (λ _ _ _. record { same = h; copied = c; nulled = n }) (λ _. s) (λ i _. r i) (λ _. f)

-- what holds of the account whose plan is the rest, with each step made in it
pub advanced_rest : (a : Account) (x : Move) (xs : List Move) → (advanced (x ∷ xs) a).plan ≡ xs
advanced_rest a x xs = no_move (λ b. b.plan ≡ xs) (with_plan a.trial xs a) refl refl refl refl (λ _. refl) refl x

pub advanced_trial : (a : Account) (ms : List Move) → (advanced ms a).trial ≡ a.trial
advanced_trial a [] = refl
advanced_trial a (x ∷ xs) = no_move (λ b. b.trial ≡ a.trial) (with_plan a.trial xs a) refl refl refl refl (λ _. refl) refl x

-- ---- a call on a handle changes a reader, and a drop the order besides

pub leaves_any : (P : Account → Type 0) (h : Handle) (n i : ℕ) (a : Account) → P a → P (frees i a) → P (leaves h n i a)
leaves_any P h n i a x y = by P (eqb (handle_number h) 2 && eqb n 0) (λ _. y) (λ _. x)

-- ---- a run is its steps

pub ran_keeps : (P : Account → Type 0) → ((a : Account) → P a → P (advanced a.plan a)) → (n : ℕ) (a : Account) → P a → P (ran n a)
ran_keeps P f zero a h = h
ran_keeps P f (suc n) a h = ran_keeps P f n (advanced a.plan a) (f a h)
