-- The player's loop: before a turn, what stands in the output, and that the records still to come give the rest of what is to be
-- written, and the machine that is to be reached.
use Prim.Native.Nat.{ℕ, suc, ◌+◌, ◌-◌, ◌*◌, ◌/◌, ◌≤◌, ◌<◌, min}
use mathlib.Core.Path.{◌≡◌, refl, sym, ap, subst, ◌∙◌}
use mathlib.Core.Bool.{false}
use mathlib.Core.List.{List, [], ◌∷◌, ◌++◌, map, append_assoc, append-nil}
use native.Mathlib.Omega.{arith}
use lib.ListN.{length, get_or, set, take, drop, length-append, length-drop, take-append-drop}
use lib.Seq.{length-take-le, take_at, drop-append-add, drop-drop}
use Rattle.read.specs.declared.Control.{Control}
use Rattle.read.specs.declared.Slot.{Slot}
use Rattle.read.specs.declared.State.{State}
use Rattle.read.specs.declared.Reply.{Reply}
use Rattle.std.specs.Prelude.{Ok}
use Rattle.read.specs.Machine.{slot_count, no_slot, judged}
use Rattle.read.specs.Calls.{Lent, lent}
use Rattle.write.specs.declared.Moved.{Moved}
use Rattle.write.specs.Call.{Call}
use Rattle.table.specs.Order.{Op, Tidy}
use Rattle.write.specs.Machine.{call_on, call_rule}
use Rattle.write.specs.World.{World, world_of, answer_of, value_of, Played, answering, played}
use Rattle.write.proofs.Judged.{judged_good, judged_orderly}
use Rattle.write.proofs.NeverBroken.{Sound, call_made, sound_call}
use Rattle.table.specs.declared.Answer.{Answer}
use Rattle.table.specs.Answers.{number}
use Rattle.play.specs.declared.Reached.{Reached}
use Rattle.format.specs.Schedule.{record_bytes, members_at, units_from}
use Rattle.format.proofs.Units.{units_next}
use Rattle.format.specs.Transcript.{entry_bytes, entry_of, entries_of}
use Rattle.play.specs.Schedule.{decoded, calls_in}
use Rattle.play.specs.Player.{transcript, machine}
use Rattle.play.specs.Turns.{meant, named, is_going, turn_on}
use Rattle.play.specs.declared.schedule.Act.{Act}
use Rattle.play.proofs.Turned.{within, put_slot, turn_made}
use Rattle.play.proofs.Going.{Said, said}
use Rattle.read.proofs.Cases.{state_of}

-- a call that takes one turn: what its move says, its slot being put back
pub turn_said :
    (os : List Op) (k : Act) → is_going k ≡ false → (c : Control) (ss : List Slot) (es l r g : List ℕ) {i : ℕ} → i ≡ named k c.free →
    {s : Slot} → s ≡ get_or ss (within i) no_slot → {m : Moved} {l' r' g' : List ℕ} → lent m l' r' g' ≡ turn_on (meant os k) i c s l r g →
    Said (call_on (meant os k) (state_of c ss es) l r g) m.answer m.value m.control (set ss (within i) m.slot) es l' r' g'
turn_said os k p c ss es l r g {i} e q x =
    let st = state_of c ss es in
    said
    (turn_made st l r g os k p ∙ ap (λ (i : ℕ). put_slot (within i) st (turn_on (meant os k) i c (get_or ss (within i) no_slot) l r g)) (sym e)
    ∙ ap (λ (s : Slot). put_slot (within i) st (turn_on (meant os k) i c s l r g)) (sym q) ∙ ap (put_slot (within i) st) (sym x))

-- ---- before a turn

-- how many whole records stand from byte `from` on
abbrev pub remain : List ℕ → ℕ → ℕ
remain s from = (length s - from) / record_bytes

-- the records still to come
abbrev rest : List ℕ → ℕ → World → Played
rest s from w = played call_rule (map (decoded s) (units_from s from 0 (remain s from))) w

-- whole: what the output is to begin with; end: the machine that is to be reached
pub record Plays (s out₀ whole : List ℕ) (end : World) (out : List ℕ) (from to : ℕ) (c : Control) (ss : List Slot) (es l r g : List ℕ) :
    Type 0
  where
    pub sound : Sound (state_of c ss es) l r g
    pub upto : from ≤ length s
    pub used : from + record_bytes * remain s from ≡ record_bytes * (length s / record_bytes)
    pub sized : length out ≡ length out₀
    pub room : length whole ≤ length out₀
    pub behind : drop (length whole) out ≡ drop (length whole) out₀
    pub count : to + length (entries_of (rest s from (machine (state_of c ss es) l r g)).replies) ≡ length whole
    pub same : take to out ++ entries_of (rest s from (machine (state_of c ss es) l r g)).replies ≡ whole
    pub ends : (rest s from (machine (state_of c ss es) l r g)).world ≡ end

-- a machine that is whole, and whose copies are tidy
pub sound_judged : (st : State) (l r g : List ℕ) → judged st l r g ≡ Ok tt → Tidy l → Tidy r → length st.slots ≡ slot_count →
    length st.snapshots ≡ slot_count → Sound st l r g
sound_judged st l r g h a b x y =
    let d = judged_good st l r g h in
    record {
      good =
          record { whole = d.whole; words = record { left = a; right = b; log = d.words.log; lawfully = d.words.lawfully } };
      ordered = judged_orderly st l r g h;
      slots = x;
      snapshots = y;
    }

pub plays_start :
    (s out : List ℕ) (st : State) (l r g : List ℕ) → Sound st l r g → length (transcript (calls_in s) (machine st l r g)) ≤ length out →
    (let w = machine st l r g in
    Plays s out (transcript (calls_in s) w) (played call_rule (calls_in s) w).world out 0 0 st.control st.slots st.snapshots l r g)
plays_start s out st l r g h b =
    let w = machine st l r g in
    let e : remain s 0 ≡ length s / record_bytes = omega arith in
    let f : rest s 0 w ≡ played call_rule (calls_in s) w = ap (λ (n : ℕ). played call_rule (map (decoded s) (units_from s 0 0 n)) w) e in
    record {
      sound = h;
      upto = omega arith;
      used = omega (arith, e);
      sized = refl;
      room = b;
      behind = refl;
      count = omega (arith, ap (λ (p : Played). length (entries_of p.replies)) f);
      same = ap (λ (p : Played). entries_of p.replies) f;
      ends = ap (λ (p : Played). p.world) f;
    }

module _ {s out₀ whole : List ℕ} {end : World} {out : List ℕ} {from to : ℕ} {c : Control} {ss : List Slot} {es l r g : List ℕ}
    (p : Plays s out₀ whole end out from to c ss es l r g)
  where
    abbrev here : World
    here = machine (state_of c ss es) l r g

    -- behind the last record
    module _ (b : record_bytes * (length s / record_bytes) ≤ from) where
      none : rest s from here ≡ record { replies = []; world = here }
      unfolding played
      none = ap (λ (n : ℕ). played call_rule (map (decoded s) (units_from s from 0 n)) here) (let z : remain s from ≡ 0 = omega (arith, p.used) in z)

      written : to ≡ length whole
      unfolding entries_of
      written = omega (arith, p.count, ap (λ (q : Played). length (entries_of q.replies)) none)

      pub plays_end : out ≡ whole ++ drop (length whole) out₀
      unfolding entries_of
      plays_end =
          let x : take (length whole) out ≡ whole =
          ap (λ (n : ℕ). take n out) (sym written) ∙ sym (append-nil (take to out))
          ∙ ap (λ (q : Played). take to out ++ entries_of q.replies) (sym none) ∙ p.same in
          sym (take-append-drop (length whole) out) ∙ (λ j. x j ++ p.behind j)

      pub plays_reached :
          lent {A = Reached} (record { state = state_of c ss es; used = from; written = to }) l r g
          ≡ lent
          (record { state = end.state; used = record_bytes * (length s / record_bytes); written = length whole })
          end.left end.right end.log
      plays_reached =
          let e : here ≡ end = ap (λ (q : Played). q.world) (sym none) ∙ p.ends in
          let u : from ≡ record_bytes * (length s / record_bytes) =
          (omega (arith, p.used)) in
          λ j. lent {A = Reached} (record { state = (e j).state; used = u j; written = written j }) (e j).left (e j).right (e j).log

    -- a record is at hand
    module _ (b : from < record_bytes * (length s / record_bytes)) where
      pub plays_record : from + record_bytes ≤ length s
      plays_record = omega (arith, p.used)

      abbrev call : Call
      call = decoded s from

      abbrev reply : Lent Reply
      reply = call_rule call (state_of c ss es) l r g

      -- where the next record begins that gets an entry
      abbrev pub next : ℕ
      next = from + record_bytes * suc (min (members_at s from) (remain s from - 1))

      abbrev more : List Call
      more = map (decoded s) (units_from s next 0 (remain s next))

      units : units_from s from 0 (remain s from) ≡ from ∷ units_from s next 0 (remain s next)
      units =
          let n = remain s from - 1 in
          let k = min (members_at s from) n in
          ap (units_from s from 0) {x = remain s from} {y = suc n} (omega (arith, plays_record))
          ∙ units_next s from n k (omega arith)
          ∙ ap (λ (m : ℕ). from ∷ units_from s next 0 m) {x = n - k} {y = remain s next} (omega (arith, plays_record))

      opens : rest s from here ≡ answering (answer_of reply) (value_of reply) (played call_rule more (world_of reply))
      unfolding played
      opens = ap (λ (us : List ℕ). played call_rule (map (decoded s) us) here) units

      pub plays_room : to + entry_bytes ≤ length out
      unfolding entries_of
      plays_room =
          omega (arith, p.count, p.room, p.sized, ap (λ (q : Played). length (entries_of q.replies)) opens)

      pub plays_next :
          {a : Answer} {v : ℕ} {d : Control} {ts : List Slot} {fs l' r' g' : List ℕ} →
          Said (call_on call (state_of c ss es) l r g) a v d ts fs l' r' g' → (out' : List ℕ) →
          out' ≡ take to out ++ (entry_of (number a) v ++ drop (to + entry_bytes) out) → {x : ℕ} → x ≡ next →
          Plays s out₀ whole end out' x (to + entry_bytes) d ts fs l' r' g'
      unfolding entries_of
      plays_next {a} {v} {d} {ts} {fs} {l'} {r'} {g'} q out' w there =
          let e : Said reply a v d ts fs l' r' g' =
          subst (λ (o : Lent Reply). Said o a v d ts fs l' r' g') (sym (call_made call (state_of c ss es) l r g p.sound)) q in
          let after : World = machine (state_of d ts fs) l' r' g' in
          let entry : List ℕ = entry_of (number a) v in
          let opened : rest s from here ≡ answering (number a) v (rest s next after) =
          opens ∙ (λ j. answering (e.answer j) (e.value j) (played call_rule more (e.world j))) in
          let fit : to + entry_bytes ≤ length out = plays_room in
          let head : List ℕ = take to out ++ entry in
          let taken : length (take to out) ≡ to = length-take-le to out (omega arith) in
          let tall : length head ≡ to + entry_bytes = length-append (take to out) entry ∙ omega (arith, taken) in
          let x : out' ≡ head ++ drop (to + entry_bytes) out = w ∙ sym (append_assoc (take to out) entry (drop (to + entry_bytes) out)) in
          let many : to + (entry_bytes + length (entries_of (rest s next after).replies)) ≡ length whole =
          omega (arith, p.count, ap (λ (q : Played). length (entries_of q.replies)) opened) in
          let y : length whole ≡ length head + (length whole - (to + entry_bytes)) = omega (arith, tall, many) in
          let z : to + entry_bytes + (length whole - (to + entry_bytes)) ≡ length whole = omega (arith, many) in
          subst (λ (x : ℕ). Plays s out₀ whole end out' x (to + entry_bytes) d ts fs l' r' g') (sym there)
          record {
            sound = subst (λ (w : World). Sound w.state w.left w.right w.log) e.world (sound_call call (state_of c ss es) l r g p.sound);
            upto = omega (arith, plays_record);
            used = omega (arith, p.used, plays_record);
            sized =
                ap length x ∙ length-append head (drop (to + entry_bytes) out)
                ∙ omega (arith, tall, fit, length-drop (to + entry_bytes) out, p.sized);
            room = p.room;
            behind =
                ap (drop (length whole)) x ∙ ap (λ (n : ℕ). drop n (head ++ drop (to + entry_bytes) out)) y
                ∙ drop-append-add head (drop (to + entry_bytes) out) (length whole - (to + entry_bytes))
                ∙ drop-drop (length whole - (to + entry_bytes)) (to + entry_bytes) out ∙ ap (λ (n : ℕ). drop n out) z ∙ p.behind;
            count = omega (arith, many);
            same =
                ap (λ (v : List ℕ). take (to + entry_bytes) v ++ entries_of (rest s next after).replies) x
                ∙ ap (λ (v : List ℕ). v ++ entries_of (rest s next after).replies)
                (take_at head (drop (to + entry_bytes) out) (to + entry_bytes) tall)
                ∙ append_assoc (take to out) entry (entries_of (rest s next after).replies)
                ∙ ap (λ (q : Played). take to out ++ entries_of q.replies) (sym opened) ∙ p.same;
            ends = ap (λ (q : Played). q.world) (sym opened) ∙ p.ends;
          }
