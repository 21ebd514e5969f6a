-- Wrong players, each with one part of the right one changed, and for each a proof that the contract's promise (`Promises`) is false of
-- it: one file, of bytes, where what the player does wrong is read off.
use Prim.Native.Nat.{ℕ, ◌+◌, ◌-◌, ◌*◌, ◌/◌, ◌^◌, ◌≤◌, min}
use mathlib.Core.Path.{◌≡◌, refl, ap, ◌∙◌}
use mathlib.Core.Bool.{true, false, ◌&&◌}
use mathlib.Core.List.{List, [], ◌∷◌, ◌++◌, map}
use native.Mathlib.Omega.{arith}
use borrow.Author.Tests.{leb-true, ltb-true, eqb-false}
use lib.Dec.{eqb, ltb, leb}
use lib.ListN.{length, get_or, take, drop, set, replicate}
use Rattle.table.proofs.Computes.{apart}
use Rattle.promises.proofs.Contracts.{Bytes, slice}
use Rattle.table.specs.Order.{Op}
use Rattle.table.specs.declared.Answer.{Answer}
use Rattle.table.specs.declared.Answer.TheVariants as answer
use Rattle.read.specs.declared.Reply.{Reply}
use Rattle.read.specs.Machine.{with_free}
use Rattle.read.specs.Calls.{Lent, lent}
use Rattle.read.proofs.Cases.{state_of}
use Rattle.write.specs.Begins.{batch_room}
use Rattle.write.specs.Call.{Call, Append, Step}
use Rattle.write.specs.Numbers.{is, is_run, ops_of}
use Rattle.write.specs.Machine.{call_on, call_rule}
use Rattle.write.specs.World.{Machine, World, fresh_world, reply, world_of, answer_of, value_of, played}
use Rattle.std.specs.Prelude.{Result}
use Rattle.format.specs.declared.Flaw.{Flaw}
use Rattle.format.specs.Schedule.{number_at, bytes_of, head_bytes, record_bytes, count, start_of, fields_at, members_at, units_from, entries_in, flaw_of, number_of, place_of}
use Rattle.format.specs.Transcript.{entry_bytes, entry_of, entries_of}
use Rattle.promises.proofs.Format.Wrong.{unknown_first, nested, cut_short}
use Rattle.play.specs.Schedule.{call_of, ops_from, decoded}
use Rattle.play.specs.Player.{refusal_of, Output, output, play_rule}
use Rattle.play.specs.Refusals.{Player, Applies, Refusals}
use Rattle.play.proofs.Counted.{entries_ruled}
use Rattle.play.proofs.Computes.{rules}
use Rattle.play.proofs.Ends.{head, record_of, create, batch_of, adds, looks_up, p1}
use Rattle.promises.proofs.Play.Promises.{PlayPromise}

-- ---- what the witnesses are made of

-- P1, and with a batch of two
abbrev one : Bytes
one = slice p1 refl

abbrev two : Bytes
two = slice (looks_up (batch_of 2 ++ adds 2)) refl

-- a create, alone and with a batch behind it that is cut short
abbrev creates : Bytes
creates = slice (head ++ create) refl

abbrev cut : Bytes
cut = slice (head ++ (create ++ (batch_of 2 ++ adds 1))) refl

-- a call that is unknown, with a torn record behind it and without
abbrev unknown_torn : Bytes
unknown_torn = slice (head ++ (record_of 16 0 0 0 0 0 ++ (0 ∷ []))) refl

abbrev unknown : Bytes
unknown = slice (head ++ record_of 16 0 0 0 0 0) refl

-- an output of no byte, and one of as many as P1's transcript has
abbrev no_room : Bytes
no_room = slice [] refl

abbrev room : Bytes
room = slice (replicate 63 170) refl

-- what is read off a result
abbrev byte : ℕ → Output → ℕ
byte i o = get_or o.bytes i 0

abbrev answered : Output → ℕ
answered o = o.result.answer

abbrev reported : Output → ℕ
reported o = o.result.written

-- ---- a player by its parts

-- what is written for a record, and the world behind it
record Turned : Type 0 where
  bytes : List ℕ
  world : World

-- of the records, and where one of them begins that gets an entry
abbrev Turn : Type 0
Turn = List ℕ → ℕ → World → Turned

abbrev turn_by : (List ℕ → ℕ → Call) → Machine → (ℕ → ℕ → List ℕ) → Turn
turn_by decode m written s at w =
    let o = reply m (decode s at) w in
    record { bytes = written (answer_of o) (value_of o); world = world_of o }

abbrev turns : Turn → List ℕ → List ℕ → World → List ℕ
turns turn s [] w = []
turns turn s (at ∷ ats) w = let t = turn s at w in t.bytes ++ turns turn s ats t.world

-- what is wrong with a file, how many bytes its transcript has, and the turns
module _ (flawed : List ℕ → Result ℕ Flaw) (needs : List ℕ → ℕ) (turn : Turn) where
  abbrev refusal_by : List ℕ → ℕ → ℕ
  refusal_by s m =
      elim (eqb (number_of (flawed s)) 0) [ true ↦ elim (leb (needs s) m) [ true ↦ 0 | false ↦ 25 ] | false ↦ number_of (flawed s) ]

  abbrev play_by : Player
  play_by s out =
      let rs = drop head_bytes s in
      elim (eqb (refusal_by s (length out)) 0) [
        | true ↦
            output (record { answer = 0; written = needs s })
            (turns turn rs (units_from rs 0 0 (length rs / record_bytes)) fresh_world ++ drop (needs s) out)
        | false ↦ output (record { answer = refusal_by s (length out); written = 0 }) out
      ]

-- the right parts
abbrev entries_need : List ℕ → ℕ
entries_need s = entry_bytes * entries_in s

abbrev right_turn : Turn
right_turn = turn_by decoded call_rule entry_of

-- the turns of any machine are what it plays
turns_played :
    (decode : List ℕ → ℕ → Call) (m : Machine) (s ats : List ℕ) (w : World) →
    turns (turn_by decode m entry_of) s ats w ≡ entries_of (played m (map (decode s) ats) w).replies
unfolding played entries_of
turns_played decode m s [] w = refl
turns_played decode m s (at ∷ ats) w =
    let o = reply m (decode s at) w in
    ap (λ (b : List ℕ). entry_of (answer_of o) (value_of o) ++ b) (turns_played decode m s ats (world_of o))

-- the right parts keep the promise
right_plays : (s out : List ℕ) → play_by flaw_of entries_need right_turn s out ≡ play_rule s out
unfolding play_rule
right_plays s out =
    let rs = drop head_bytes s in
    ap
    (λ (w : List ℕ).
    elim (eqb (refusal_of s (length out)) 0) [
      | true ↦ output (record { answer = 0; written = entries_need s }) (w ++ drop (entries_need s) out)
      | false ↦ output (record { answer = refusal_of s (length out); written = 0 }) out
    ])
    (turns_played decoded call_rule rs (units_from rs 0 0 (length rs / record_bytes)) fresh_world)

right_keeps : PlayPromise (play_by flaw_of entries_need right_turn)
right_keeps s out typed = right_plays s.list out.list

-- with other turns, over another machine, or with another reading of a record
abbrev turning : Turn → Player
turning = play_by flaw_of entries_need

abbrev over : Machine → Player
over m = turning (turn_by decoded m entry_of)

abbrev decoding : (List ℕ → ℕ → Call) → Player
decoding decode = turning (turn_by decode call_rule entry_of)

-- ---- one byte of a key is read at another place

abbrev key_elsewhere : List ℕ → ℕ → Call
key_elsewhere s at =
    let f = fields_at s at in
    call_of (ops_from s (at + record_bytes) (members_at s at))
    (record {
      call = f.call;
      slot = f.slot;
      guard = f.guard;
      kind = f.kind;
      key = number_at 7 s (at + 4) + 256 ^ 7 * get_or s (at + 12) 0;
      amount = f.amount;
    })

key_elsewhere_wrong : PlayPromise (decoding key_elsewhere) → ⊥
unfolding rules
key_elsewhere_wrong h = apart (byte 55) refl (h one room refl)

-- ---- a value is cut to 32 bits

abbrev cut_to32 : ℕ → ℕ → List ℕ
cut_to32 a v = a ∷ (bytes_of 4 v ++ (0 ∷ 0 ∷ 0 ∷ 0 ∷ []))

-- an amount of 2^32 + 3 is looked up
abbrev large : Bytes
large = slice (looks_up (record_of 8 0 0 1 7 (2 ^ 32 + 3))) refl

cut_to32_wrong : PlayPromise (turning (turn_by decoded call_rule cut_to32)) → ⊥
unfolding rules
cut_to32_wrong h = apart (byte 59) refl (h large room refl)

-- ---- an entry has ten bytes

ten_bytes_wrong : PlayPromise (play_by flaw_of (λ s. 10 * entries_in s) (turn_by decoded call_rule (λ a v. a ∷ bytes_of 9 v))) → ⊥
unfolding rules
ten_bytes_wrong h = apart reported refl (h creates room refl)

-- ---- the records of a batch get entries, or are played again as appends

abbrev member_entries : Turn
member_entries s at w =
    let t = right_turn s at w in
    record { bytes = t.bytes ++ replicate (entry_bytes * members_at s at) 0; world = t.world }

member_entries_wrong : PlayPromise (play_by flaw_of (λ s. entry_bytes * count s) member_entries) → ⊥
unfolding rules
member_entries_wrong h = apart reported refl (h two (slice (replicate 81 170) refl) refl)

abbrev played_again : Turn
played_again s at w =
    let t = right_turn s at w in
    let os = ops_from s (at + record_bytes) (members_at s at) in
    record { bytes = t.bytes; world = (played call_rule (map (λ (o : Op). Append (o ∷ [])) os) t.world).world }

played_again_wrong : PlayPromise (turning played_again) → ⊥
unfolding rules
played_again_wrong h = apart (byte 55) refl (h two room refl)

-- ---- of more than 64 the first are taken, or all

abbrev too_many : Bytes
too_many = slice (head ++ (batch_of 65 ++ adds 65)) refl

abbrev first_of_many : List ℕ → ℕ → Call
first_of_many s at = call_of (ops_from s (at + record_bytes) (min batch_room (members_at s at))) (fields_at s at)

first_of_many_wrong : PlayPromise (decoding first_of_many) → ⊥
unfolding rules
first_of_many_wrong h = apart (byte 0) refl (h too_many room refl)

-- those behind the first 64 as a batch of their own
abbrev all_of_many : Machine
all_of_many k st l r g =
    let os = ops_of k in
    elim (ltb batch_room (length os)) [
      | true ↦ reply call_rule (Append (drop batch_room os)) (world_of (call_rule (Append (take batch_room os)) st l r g))
      | false ↦ call_rule k st l r g
    ]

all_of_many_wrong : PlayPromise (over all_of_many) → ⊥
unfolding rules
all_of_many_wrong h = apart (byte 0) refl (h too_many room refl)

-- ---- 24 is found before 23; a batch that is cut short, or has another in it, is played; 24 is found at its record's turn

unknown_first_wrong : PlayPromise (play_by unknown_first entries_need right_turn) → ⊥
unfolding rules
unknown_first_wrong h = apart answered refl (h unknown_torn no_room refl)

cut_short_wrong : PlayPromise (play_by cut_short entries_need right_turn) → ⊥
unfolding rules
cut_short_wrong h = apart answered refl (h cut room refl)

abbrev inside : Bytes
inside = slice (head ++ (batch_of 1 ++ batch_of 0)) refl

nested_wrong : PlayPromise (play_by nested entries_need right_turn) → ⊥
unfolding rules
nested_wrong h = apart answered refl (h inside room refl)

abbrev late : Player
late s out =
    let o = play_rule s out in
    elim (eqb (answered o) 24)
    [ true ↦ output o.result (play_rule (take (start_of (place_of (count s) (flaw_of s))) s) out).bytes | false ↦ o ]

late_wrong : PlayPromise late → ⊥
unfolding rules
late_wrong h = apart (byte 0) refl (h cut room refl)

-- ---- 25 asks for 9 bytes a record

abbrev by_records : Player
by_records s out =
    let o = play_rule s out in
    elim (eqb (answered o) 0 && ltb (length out) (entry_bytes * count s))
    [ true ↦ output (record { answer = 25; written = 0 }) out | false ↦ o ]

by_records_wrong : PlayPromise by_records → ⊥
unfolding rules
by_records_wrong h = apart answered refl (h two room refl)

-- ---- a machine that does nothing

abbrev idle_machine : Machine
idle_machine k st l r g = lent (record { answer = answer.Done; value = 0; state = st }) l r g

idle_machine_wrong : PlayPromise (over idle_machine) → ⊥
unfolding rules
idle_machine_wrong h = apart (byte 1) refl (h creates room refl)

-- ---- a drop that leaves which slot is first

abbrev drop_forgets : Machine
drop_forgets k st l r g =
    let o = call_on k st l r g in
    let d = o.made.state in
    elim (is 2 k) [
      | true ↦
          lent
          (record {
            answer = o.made.answer;
            value = value_of o;
            state = state_of (with_free st.control.free d.control) d.slots d.snapshots;
          })
          o.left o.right o.log
      | false ↦ o
    ]

-- create; drop 1; create, which is to hand out slot 1 again
abbrev again : Bytes
again = slice (head ++ (create ++ (record_of 2 1 0 0 0 0 ++ create))) refl

drop_forgets_wrong : PlayPromise (over drop_forgets) → ⊥
unfolding rules
drop_forgets_wrong h = apart (byte 19) refl (h again room refl)

-- ---- a run that invents its value, forgets it where it is held, or goes on behind its end

abbrev run_by : (Lent Reply → Lent Reply) → Machine
run_by f k st l r g = let o = call_rule k st l r g in elim (is_run k) [ true ↦ f o | false ↦ o ]

abbrev replied : Answer → ℕ → Lent Reply → Lent Reply
replied a v o = lent (record { answer = a; value = v; state = o.made.state }) o.left o.right o.log

abbrev inventing : Machine
inventing = run_by (λ o. replied o.made.answer (value_of o + 1) o)

inventing_wrong : PlayPromise (over inventing) → ⊥
unfolding rules
inventing_wrong h = apart (byte 28) refl (h one room refl)

abbrev forgetting : Machine
forgetting = run_by (λ o. elim (eqb (answer_of o) 13) [ true ↦ replied o.made.answer 0 o | false ↦ o ])

-- create; enter 1; go on 1; publish; run; publish; run: the poll of slot 1 is held, after that of slot 0
abbrev held : Bytes
held =
    slice
    (head ++ (create ++ (record_of 3 1 0 0 0 0 ++ (record_of 4 1 0 0 0 0 ++ (record_of 9 0 0 0 0 0 ++ (record_of 14 0 0 0 0 0
    ++ (record_of 9 0 0 0 0 0 ++ record_of 14 0 0 0 0 0)))))))
    refl

forgetting_wrong : PlayPromise (over forgetting) → ⊥
unfolding rules
forgetting_wrong h = apart (byte 55) refl (h held room refl)

-- one step more is made, and its answer is the run's
abbrev going_on : Machine
going_on =
    run_by (λ o. elim (eqb (answer_of o) 0) [ true ↦ replied (reply call_rule Step (world_of o)).made.answer (value_of o) o | false ↦ o ])

going_on_wrong : PlayPromise (over going_on) → ⊥
unfolding rules
going_on_wrong h = apart (byte 27) refl (h one room refl)

-- ---- the output past the transcript is touched

abbrev wiping : Player
wiping s out =
    let o = play_rule s out in
    let n = reported o in
    elim (eqb (answered o) 0) [ true ↦ output o.result (take n o.bytes ++ replicate (length out - n) 0) | false ↦ o ]

wiping_wrong : PlayPromise wiping → ⊥
unfolding rules
wiping_wrong h = apart (byte 9) refl (h creates room refl)

-- ---- every file is refused; a refused file is written for, or has bytes reported

abbrev refusing : Player
refusing s out = output (record { answer = 21; written = 0 }) out

refusing_wrong : PlayPromise refusing → ⊥
unfolding rules
refusing_wrong h = apart answered refl (h creates room refl)

abbrev hasty : Player
hasty s out =
    let o = play_rule s out in
    elim (eqb (answered o) 0) [ true ↦ o | false ↦ output o.result (set out 0 0) ]

hasty_wrong : PlayPromise hasty → ⊥
unfolding rules
hasty_wrong h = apart (byte 0) refl (h unknown room refl)

abbrev boasting : Player
boasting s out = let o = play_rule s out in output (record { answer = answered o; written = entries_need s }) o.bytes

boasting_wrong : PlayPromise boasting → ⊥
unfolding rules
boasting_wrong h = apart reported refl (h one no_room refl)

-- ---- the refusals, as `Refusals` has them

-- a byte is written for a refused file
hasty_refusals_wrong : Refusals hasty → ⊥
unfolding rules
hasty_refusals_wrong h = apart (λ w. get_or w 0 0) refl ((h [] (170 ∷ [])).1 (eqb-false 21 0 refl)).untouched

-- bytes are reported for a refused file
boasting_refusals_wrong : Refusals boasting → ⊥
unfolding rules
boasting_refusals_wrong h = eqb-false 63 0 refl ((h p1 []).1 (eqb-false 25 0 refl)).reported

-- 24 is given where 23 applies
unknown_first_refusals_wrong : Refusals (play_by unknown_first entries_need right_turn) → ⊥
unfolding rules
unknown_first_refusals_wrong h =
    let s = unknown_torn.list in
    let t : Applies s [] 23 = Applies.torn (λ n e. let d : 26 ≡ 5 + 20 * n = e in omega arith) in
    let l : 24 ≤ 23 = ((h s []).1 (eqb-false 24 0 refl)).smallest 23 t in
    omega arith

-- a batch that is cut short, or has another in it, is played
cut_short_refusals_wrong : Refusals (play_by cut_short entries_need right_turn) → ⊥
unfolding rules
cut_short_refusals_wrong h =
    ((h cut.list room.list).0 refl).flawless 24 (Applies.cut_short 1 (leb-true 45 65 refl) refl (ltb-true 65 85 refl))

nested_refusals_wrong : Refusals (play_by nested entries_need right_turn) → ⊥
unfolding rules
nested_refusals_wrong h =
    ((h inside.list room.list).0 refl).flawless 24
    (Applies.mixed 0 0 refl (ltb-true 0 1 refl) (leb-true 45 45 refl) (eqb-false 15 8 refl))

-- the records of a batch are counted with the entries
member_entries_refusals_wrong : Refusals (play_by flaw_of (λ s. entry_bytes * count s) member_entries) → ⊥
unfolding rules
member_entries_refusals_wrong h =
    let d = (h two.list (replicate 81 170)).0 refl in
    eqb-false 81 63 refl (d.reported ∙ ap (λ (n : ℕ). entry_bytes * n) (entries_ruled two.list d.counted))

-- 25 is given where the entries have room
by_records_refusals_wrong : Refusals by_records → ⊥
unfolding rules
by_records_refusals_wrong h = crowded_room ((h two.list room.list).1 (eqb-false 25 0 refl)).applies
  where
    crowded_room : Applies two.list room.list 25 → ⊥
    crowded_room (Applies.crowded n e l) = omega (arith, entries_ruled two.list e)
