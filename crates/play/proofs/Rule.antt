-- The player's rule, case by case: refused by what is wrong with the file, by the output's room, or played.
use Prim.Native.Nat.{ℕ, ◌*◌, ◌≤◌, ◌<◌}
use mathlib.Core.Path.{◌≡◌, refl, sym, ap, ◌∙◌}
use mathlib.Core.Bool.{Bool, true, false}
use mathlib.Core.List.{List, ◌++◌}
use borrow.Author.Tests.{le-leb, lt-leb, eq-eqb, ne_eqb, eqb-false}
use lib.Dec.{eqb, leb}
use lib.ListN.{length, drop}
use Rattle.write.specs.World.{fresh_world}
use Rattle.format.specs.Schedule.{entries_in, flaw_of, number_of}
use Rattle.format.specs.Transcript.{entry_bytes}
use Rattle.play.specs.Schedule.{calls_of}
use Rattle.play.specs.Player.{transcript, refusal_of, Output, output, play_rule}

module _ (s out : List ℕ) where
  abbrev answered : Bool → Bool → ℕ
  answered sound roomy = elim sound [ true ↦ elim roomy [ true ↦ 0 | false ↦ 25 ] | false ↦ number_of (flaw_of s) ]

  abbrev transcribed : Output
  transcribed =
      output (record { answer = 0; written = entry_bytes * entries_in s })
      (transcript (calls_of s) fresh_world ++ drop (entry_bytes * entries_in s) out)

  abbrev rule : ℕ → Bool → Output
  rule a b = elim b [ true ↦ transcribed | false ↦ output (record { answer = a; written = 0 }) out ]

  refused : (a : ℕ) → refusal_of s (length out) ≡ a → (a ≡ 0 → ⊥) → output (record { answer = a; written = 0 }) out ≡ play_rule s out
  unfolding play_rule
  refused a e n =
      sym
      (ap (λ (a : ℕ). rule a (eqb a 0)) e ∙ ap (rule a) (ne_eqb a 0 n))

  pub play_flawed :
      {a : ℕ} → a ≡ number_of (flaw_of s) → (a ≡ 0 → ⊥) → output (record { answer = a; written = 0 }) out ≡ play_rule s out
  play_flawed {a} e n =
      refused a
      (ap (λ (b : Bool). answered b (leb (entry_bytes * entries_in s) (length out))) (ne_eqb (number_of (flaw_of s)) 0 (λ z. n (e ∙ z))) ∙ sym e) n

  module _ (e : number_of (flaw_of s) ≡ 0) where
    pub play_short : length out < entry_bytes * entries_in s → output (record { answer = 25; written = 0 }) out ≡ play_rule s out
    play_short h =
        refused 25 (λ j. answered (eq-eqb (number_of (flaw_of s)) 0 e j) (lt-leb (entry_bytes * entries_in s) (length out) h j)) (eqb-false 25 0 refl)

    pub play_made :
        {n : ℕ} {w : List ℕ} → n ≡ entry_bytes * entries_in s → entry_bytes * entries_in s ≤ length out →
        w ≡ transcript (calls_of s) fresh_world ++ drop (entry_bytes * entries_in s) out →
        output (record { answer = 0; written = n }) w ≡ play_rule s out
    unfolding play_rule
    play_made {n} {w} x h y =
        let z : refusal_of s (length out) ≡ 0 =
        λ j. answered (eq-eqb (number_of (flaw_of s)) 0 e j) (le-leb (entry_bytes * entries_in s) (length out) h j) in
        (λ j. output (record { answer = 0; written = x j }) (y j)) ∙ sym (ap (λ (a : ℕ). rule a (eqb a 0)) z)
