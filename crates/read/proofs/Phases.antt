-- Phases by cases.
use Rattle.std.proofs.Common.{◌≡◌, true, false, ◌⊎◌, refl, inl, inr}
use Rattle.table.proofs.Booleans.{clash}
use Rattle.read.specs.declared.Phase.{Phase}
use Rattle.read.specs.declared.Phase.TheVariants.{Idle, Begin, Poll, Copy, Drain, Keep, Swap, Snap, Null, Lock, LastSnap, LastPoll, Finish, Gone}
use Rattle.read.specs.Machine.{underway, is_gone}

-- a phase is Idle, Gone, or one of a call under way
pub phase_cases : (P : Phase → Type 0) → P Idle → P Gone → ((p : Phase) → underway p ≡ true → is_gone p ≡ false → P p) → (p : Phase) → P p
phase_cases P i g f Idle = i
phase_cases P i g f Begin = f Begin refl refl
phase_cases P i g f (Poll k) = f (Poll k) refl refl
phase_cases P i g f Copy = f Copy refl refl
phase_cases P i g f Drain = f Drain refl refl
phase_cases P i g f (Keep k) = f (Keep k) refl refl
phase_cases P i g f Swap = f Swap refl refl
phase_cases P i g f (Snap k) = f (Snap k) refl refl
phase_cases P i g f Null = f Null refl refl
phase_cases P i g f Lock = f Lock refl refl
phase_cases P i g f (LastSnap k) = f (LastSnap k) refl refl
phase_cases P i g f (LastPoll k) = f (LastPoll k) refl refl
phase_cases P i g f Finish = f Finish refl refl
phase_cases P i g f Gone = g

pub idle_cases : (P : Phase → Type 0) → P Idle → P Gone → (p : Phase) → underway p ≡ false → P p
idle_cases P x y = phase_cases (λ p. underway p ≡ false → P p) (λ _. x) (λ _. y) (λ p u g n. clash u n)

pub underway_stays : (p : Phase) → underway p ≡ true → is_gone p ≡ false
underway_stays = phase_cases (λ p. underway p ≡ true → is_gone p ≡ false) (λ u. clash u refl) (λ u. clash u refl) (λ p u g _. g)

pub idle_or_gone : (p : Phase) → underway p ≡ false → (p ≡ Idle) ⊎ (p ≡ Gone)
idle_or_gone = idle_cases (λ p. (p ≡ Idle) ⊎ (p ≡ Gone)) (inl refl) (inr refl)

pub gone_is : (p : Phase) → is_gone p ≡ true → p ≡ Gone
gone_is = phase_cases (λ p. is_gone p ≡ true → p ≡ Gone) (λ e. clash e refl) (λ _. refl) (λ p u g e. clash e g)

pub idle_is : (p : Phase) → underway p ≡ false → is_gone p ≡ false → p ≡ Idle
idle_is = idle_cases (λ p. is_gone p ≡ false → p ≡ Idle) (λ _. refl) (λ e. clash refl e)
