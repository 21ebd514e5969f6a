-- How long a transcript is, and what a fresh machine is known to be.
use Prim.Native.Nat.{ℕ, ◌*◌, ◌/◌}
use mathlib.Core.Path.{◌≡◌, refl, sym, ap, subst, ◌∙◌}
use mathlib.Core.List.{List, [], ◌∷◌, ◌++◌}
use native.Mathlib.Omega.{arith}
use lib.ListN.{length, drop, replicate, length-drop, length-map}
use Rattle.table.specs.Copy.{words}
use Rattle.read.specs.declared.State.{State}
use Rattle.std.specs.Prelude.{Ok}
use Rattle.read.specs.Machine.{log_words, fresh, judged}
use Rattle.read.specs.Calls.{Lent}
use Rattle.write.specs.Call.{Call}
use Rattle.write.specs.World.{World, Machine, fresh_world, world_of, reply, played}
use Rattle.write.specs.Machine.{call_rule}
use Rattle.write.proofs.NeverBroken.{sound_fresh, sound_judged}
use Rattle.play.specs.declared.Reached.{Reached}
use Rattle.format.specs.Schedule.{head_bytes, record_bytes, units_from, entries_in}
use Rattle.format.proofs.Units.{units_drop}
use Rattle.format.specs.Transcript.{entry_bytes, entries_of}
use Rattle.play.specs.Schedule.{decoded, calls_in, calls_of}
use Rattle.play.specs.Player.{transcript, machine, reached}

played_length : (m : Machine) (ks : List Call) (w : World) → length (entries_of (played m ks w).replies) ≡ entry_bytes * length ks
unfolding played entries_of
played_length m [] w = refl
played_length m (k ∷ ks) w = let h = played_length m ks (world_of (reply m k w)) in omega (arith, h)

pub file_length : (s : List ℕ) (w : World) → length (transcript (calls_of s) w) ≡ entry_bytes * entries_in s
file_length s w =
    let n = length (drop head_bytes s) / record_bytes in
    played_length call_rule (calls_of s) w
    ∙ ap (λ (n : ℕ). entry_bytes * n)
    (length-map (units_from (drop head_bytes s) 0 0 n) (decoded (drop head_bytes s)) ∙ units_drop head_bytes s 0 0 n
    ∙ ap (λ (m : ℕ). length (units_from s head_bytes 0 (m / record_bytes))) (length-drop head_bytes s))

-- the same of the part behind the head, b
module _ (s : List ℕ) {b : List ℕ} (p : b ≡ drop head_bytes s) where
  pub part_length : (w : World) → length (transcript (calls_in b) w) ≡ entry_bytes * entries_in s
  part_length w = ap (λ (b : List ℕ). length (transcript (calls_in b) w)) p ∙ file_length s w

  pub part_written : (w : World) {r : Lent Reached} → r ≡ reached b w → r.made.written ≡ entry_bytes * entries_in s
  part_written w {r} e =
      let x : ◌≡◌ {A = ℕ} r.made.written (length (transcript (calls_in b) w)) = ap (λ (r : Lent Reached). r.made.written) e in
      x ∙ part_length w

  pub part_bytes :
      (out : List ℕ) {w : World} → w ≡ fresh_world →
      (let t = transcript (calls_in b) w in t ++ drop (length t) out) ≡ transcript (calls_of s) fresh_world ++ drop (entry_bytes * entries_in s) out
  part_bytes out e =
      (λ i. (let t = transcript (calls_in (p i)) (e i) in t ++ drop (length t) out))
      ∙ ap (λ (n : ℕ). transcript (calls_of s) fresh_world ++ drop n out) (file_length s fresh_world)

-- a fresh machine's own memory is zero
module _ {st : State} (e : st ≡ fresh) where
  pub fresh_world_lem : machine st (replicate words 0) (replicate words 0) (replicate log_words 0) ≡ fresh_world
  fresh_world_lem = ap (λ (st : State). machine st (replicate words 0) (replicate words 0) (replicate log_words 0)) e

  pub fresh_whole : judged st (replicate words 0) (replicate words 0) (replicate log_words 0) ≡ Ok tt
  fresh_whole = subst (λ (w : World). judged w.state w.left w.right w.log ≡ Ok tt) (sym fresh_world_lem) (sound_judged sound_fresh)
