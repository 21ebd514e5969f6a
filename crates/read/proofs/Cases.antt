-- The rules, case by case: what each is under the tests that lead there.
use Rattle.std.proofs.Common.{◌≡◌, ℕ, zero, suc, ◌*◌, ◌<◌, ◌≤◌, Bool, true, false, ◌&&◌, eqb, leb, List, [], ◌∷◌, length, get_or, set, sym, refl, ap, ◌∙◌, arith, le-ltb, lt-ltb, eqb-true, leb-false, leb-true}
use lib.Seq.{set-get_or}
use Rattle.table.proofs.Split.{split}
use Rattle.table.specs.Copy.{pairs, words, entries, zeros}
use Rattle.table.specs.declared.Answer.{Answer}
use Rattle.table.specs.declared.Answer.TheVariants as answer
use Rattle.table.proofs.Booleans.{both}
use Rattle.read.specs.declared.Due.{Due}
use Rattle.read.specs.declared.Due.TheVariants.{Nothing, Load}
use Rattle.read.specs.declared.Guard.{Guard}
use Rattle.std.specs.Prelude.{None, Ok, Err}
use Rattle.read.specs.declared.Slot.{Slot}
use Rattle.read.specs.declared.Control.{Control}
use Rattle.read.specs.declared.Handle.{Handle}
use Rattle.read.specs.declared.Handle.TheVariants.{LookUp}
use Rattle.read.specs.declared.State.{State}
use Rattle.read.specs.Machine.{with_reading, slot_count, no_slot, new_slot, fresh, log_room, log_words, guard_count, shut, is_open, stands_right, put_guard, first_guard, any_open, whole_control, sized, orderly, glanced, judged, first_unlawful, behind}
use Rattle.read.specs.Handles.{made_of, copy_of, guarded_copy, bumped, with_due, guarded, loaded, entered, released, smallest, handle_signs, handled_by, handle_by, handle_on, create_signs, create_on}
use Rattle.read.specs.Calls.{slot_at, refusal, reply_of, lent, handle_reply, handle_rule, create_reply, create_rule, through_guard, through_rule, start_rule}
use Rattle.read.proofs.Verdicts.{refused_not, silent}

-- a state by its parts
abbrev pub state_of : Control → List Slot → List ℕ → State
state_of c ss es = record { control = c; slots = ss; snapshots = es }

-- another lock than the phase asks
abbrev pub with_lock : Bool → Control → Control
with_lock lock c =
    record {
      right = c.right;
      null = c.null;
      lock = lock;
      first = c.first;
      second = c.second;
      phase = c.phase;
      job = c.job;
      length = c.length;
      swapped = c.swapped;
      free = c.free;
    }

-- ---- guards

module _ (gs : List Guard) (j : ℕ) where
  pub open_in : j < guard_count → is_open gs j ≡ (get_or gs j shut).opened
  open_in h = rw (lt-ltb j guard_count h)

  pub open_out : guard_count ≤ j → is_open gs j ≡ false
  open_out h = rw (le-ltb j guard_count h)

  pub stands_in : j < guard_count → stands_right gs j ≡ (get_or gs j shut).right
  stands_in h = rw (lt-ltb j guard_count h)

  pub stands_out : guard_count ≤ j → stands_right gs j ≡ false
  stands_out h = rw (le-ltb j guard_count h)

  pub copy_right : (l r : List ℕ) → stands_right gs j ≡ true → guarded_copy gs j l r ≡ r
  copy_right l r e = ap (λ b. copy_of b l r) e

  pub copy_left : (l r : List ℕ) → stands_right gs j ≡ false → guarded_copy gs j l r ≡ l
  copy_left l r e = ap (λ b. copy_of b l r) e

module _ (j : ℕ) (x : Guard) (gs : List Guard) where
  pub put_in : j < guard_count → put_guard j x gs ≡ set gs j x
  put_in h = rw (lt-ltb j guard_count h, put_guard)

  pub put_out : guard_count ≤ j → put_guard j x gs ≡ gs
  put_out h = rw (le-ltb j guard_count h, put_guard)

-- ---- what is done to a slot

module _ (c : Control) (d : Due) (s : Slot) where
  pub loaded_null : c.null ≡ true → loaded c d s ≡ made_of c answer.None 0 (with_due s.epoch d s)
  loaded_null e = rw (e, loaded)

  pub loaded_side :
      c.null ≡ false → loaded c d s ≡ made_of c answer.Done (first_guard false s.guards) (guarded c.right s)
  loaded_side e = rw (e, loaded)

module _ (c : Control) (s : Slot) where
  pub entered_inside : any_open s.guards ≡ true → entered c s ≡ loaded c s.due s
  entered_inside e = rw (e, entered)

  pub entered_outside :
      any_open s.guards ≡ false → entered c s ≡ made_of c answer.Done 0 (with_due (bumped s.epoch) Load s)
  entered_outside e = rw (e, entered)

-- by whether a guard stays open behind guard j, which is shut by x
module _ (j : ℕ) (s : Slot) {x : Guard} {gs : List Guard} {b : Bool} (e : x ≡ shut) (f : gs ≡ put_guard j x s.guards) (q : b ≡ any_open gs) where
  gs_is : gs ≡ put_guard j shut s.guards
  gs_is = f ∙ ap (λ (x : Guard). put_guard j x s.guards) e

  pub released_one : {r : Slot} → b ≡ true → r ≡ with_reading s.epoch gs s.due s → r ≡ released j s
  released_one o h =
      h ∙ ap (λ (gs : List Guard). with_reading s.epoch gs s.due s) gs_is
      ∙ sym (rw (ap any_open (sym gs_is) ∙ sym q ∙ o, released))

  pub released_last : {d : ℕ} {r : Slot} → b ≡ false → d ≡ bumped s.epoch → r ≡ with_reading d gs s.due s → r ≡ released j s
  released_last o u h =
      h ∙ (λ i. with_reading (u i) (gs_is i) s.due s) ∙ sym (rw (ap any_open (sym gs_is) ∙ sym q ∙ o, released))

-- ---- the judgement

-- the lengths that the slices must have
pub record Sized (l r g : List ℕ) : Type 0 where
  pub left : length l ≡ words
  pub right : length r ≡ words
  pub log : length g ≡ log_words

module _ (l r g : List ℕ) where
  pub sized_lengths : sized l r g ≡ true → Sized l r g
  sized_lengths e =
      let (a, f) = both (eqb (length l) words) _ e in
      let (b, d) = both (eqb (length r) words) _ f in
      record { left = eqb-true (length l) words a; right = eqb-true (length r) words b; log = eqb-true (length g) log_words d }

whole_length : (c : Control) → whole_control c ≡ true → c.length ≤ log_room
whole_length c e = leb-true c.length log_room (both (leb c.length log_room) _ e).0

module _ (c : Control) (l r g : List ℕ) where
  pub glanced_length : sized l r g ≡ false → glanced c l r g ≡ Err answer.Length
  unfolding glanced
  glanced_length e = rw (e, glanced)

  pub glanced_broken :
      sized l r g ≡ true → (leb (entries l) pairs && (leb (entries r) pairs && whole_control c)) ≡ false →
      glanced c l r g ≡ Err answer.Broken
  unfolding glanced
  glanced_broken e f = rw (e, f, glanced)

  pub glanced_whole :
      sized l r g ≡ true → (leb (entries l) pairs && (leb (entries r) pairs && whole_control c)) ≡ true → glanced c l r g ≡ Ok tt
  unfolding glanced
  glanced_whole e f = rw (e, f, glanced)

  -- the log has room for the operations that the control part counts
  pub glanced_room : glanced c l r g ≡ Ok tt → 3 * c.length ≤ length g
  glanced_room e =
      split (sized l r g)
      (λ s. split (leb (entries l) pairs && (leb (entries r) pairs && whole_control c))
      (λ w. omega (arith, sized_lengths l r g s, whole_length c (both (leb (entries r) pairs) (whole_control c) (both (leb (entries l) pairs) _ w).1).1))
      (λ w. refused_not (sym (glanced_broken s w) ∙ e)))
      (λ s. refused_not (sym (glanced_length s) ∙ e))

module _ (st : State) (l r g : List ℕ) where
  pub judged_refused : (a : Answer) → glanced st.control l r g ≡ Err a → judged st l r g ≡ Err a
  unfolding judged
  judged_refused a e = rw (e, judged)

  module _ (e : glanced st.control l r g ≡ Ok tt) where
    pub judged_broken :
        (leb st.control.length (first_unlawful st.control.length g) && orderly st) ≡ false → judged st l r g ≡ Err answer.Broken
    unfolding judged
    judged_broken f = rw (e, f, judged)

    pub judged_whole : (leb st.control.length (first_unlawful st.control.length g) && orderly st) ≡ true → judged st l r g ≡ Ok tt
    unfolding judged
    judged_whole f = rw (e, f, judged)

-- ---- slots

-- what the code reads of slots past the end: the same use and the same link as the rule reads there
abbrev pub blank : Slot
blank = record { used = false; epoch = 0; guards = []; due = Nothing; link = None }

part_past : {A : Type 0} (f : Slot → A) (ss : List Slot) (i : ℕ) (d e : Slot) → f d ≡ f e → f (get_or ss i d) ≡ f (get_or ss i e)
part_past f [] i d e h = h
part_past f (s ∷ ss) zero d e h = refl
part_past f (s ∷ ss) (suc i) d e h = part_past f ss i d e h

pub used_past : (ss : List Slot) (i : ℕ) → (get_or ss i no_slot).used ≡ (get_or ss i blank).used
used_past ss i = part_past (λ (s : Slot). s.used) ss i no_slot blank refl

pub link_past : (ss : List Slot) (i : ℕ) → (get_or ss i no_slot).link ≡ (get_or ss i blank).link
link_past ss i = part_past (λ (s : Slot). s.link) ss i no_slot blank refl

-- ---- calls on a handle

-- what holds of both copies holds of the one that a pointer names
pub of_copy : (P : List ℕ → Type 0) (right : Bool) {l r : List ℕ} → P l → P r → P (copy_of right l r)
of_copy P true x y = y
of_copy P false x y = x

module _ (look : ℕ → List ℕ → List ℕ) (c : Control) (i : ℕ) (s : Slot) (h : Handle) (l r : List ℕ) where
  pub handle_refused : (a : Answer) → smallest (handle_signs c (eqb i 0) s h) ≡ Err a → handle_by look c i s h l r ≡ made_of c a 0 s
  unfolding handle_by
  handle_refused a e = rw (e, handle_by)

  pub handle_made : smallest (handle_signs c (eqb i 0) s h) ≡ Ok tt → handle_by look c i s h l r ≡ handled_by look c i s h l r
  unfolding handle_by
  handle_made e = rw (e, handle_by)

-- where a call is refused, what was made is put back as it was
pub reply_back :
    (i : ℕ) (a : Answer) (v : ℕ) (st : State) →
    reply_of i (made_of st.control a v (slot_at st i)) st ≡ record { answer = a; value = v; state = st }
reply_back i a v st = rw (set-get_or st.slots i no_slot)

module _ (i : ℕ) (h : Handle) (l r : List ℕ) (st : State) where
  pub reply_past : slot_count ≤ i → handle_reply i h l r st ≡ refusal answer.NoSlot st
  reply_past p = rw (le-ltb i slot_count p, handle_reply)

  pub reply_in : i < slot_count → handle_reply i h l r st ≡ reply_of i (handle_on st.control i (slot_at st i) h l r) st
  reply_in p = rw (lt-ltb i slot_count p, handle_reply)

  module _ (g : List ℕ) where
    pub call_refused : (a : Answer) → judged st l r g ≡ Err a → handle_rule i h l r g st ≡ refusal a st
    unfolding handle_rule
    call_refused a e = rw (e, handle_rule)

    pub call_judged : judged st l r g ≡ Ok tt → handle_rule i h l r g st ≡ handle_reply i h l r st
    unfolding handle_rule
    call_judged e = rw (e, handle_rule)

-- ---- create

module _ (c : Control) (s : Slot) where
  pub create_refused : (a : Answer) → smallest (create_signs c) ≡ Err a → create_on c s ≡ made_of c a 0 s
  unfolding create_on
  create_refused a e = rw (e, create_on)

  pub create_made :
      smallest (create_signs c) ≡ Ok tt →
      create_on c s ≡ record { answer = answer.Done; value = c.free; slot = new_slot; free = behind c.free s.link }
  unfolding create_on
  create_made e = rw (e, create_on)

-- where it is made, the slot is there
pub create_room : (c : Control) → smallest (create_signs c) ≡ Ok tt → c.free < slot_count
create_room c e = leb-false slot_count c.free (silent 12 (create_signs c) e)

module _ (l r g : List ℕ) (st : State) where
  pub new_refused : (a : Answer) → judged st l r g ≡ Err a → create_rule l r g st ≡ refusal a st
  unfolding create_rule
  new_refused a e = rw (e, create_rule)

  pub new_judged : judged st l r g ≡ Ok tt → create_rule l r g st ≡ create_reply st
  unfolding create_rule
  new_judged e = rw (e, create_rule)

-- ---- a guard's view

module _ (i j : ℕ) (l r : List ℕ) (st : State) where
  pub guard_past : slot_count ≤ i → through_guard i j l r st ≡ []
  guard_past p = rw (le-ltb i slot_count p, through_guard)

  pub guard_refused :
      i < slot_count → (a : Answer) → smallest (handle_signs st.control (eqb i 0) (slot_at st i) (LookUp j 0)) ≡ Err a →
      through_guard i j l r st ≡ []
  guard_refused p a e = rw (lt-ltb i slot_count p, e, through_guard)

  pub guard_shown :
      i < slot_count → smallest (handle_signs st.control (eqb i 0) (slot_at st i) (LookUp j 0)) ≡ Ok tt →
      through_guard i j l r st ≡ guarded_copy (slot_at st i).guards j l r
  guard_shown p e = rw (lt-ltb i slot_count p, e, through_guard)

  module _ (g : List ℕ) where
    pub through_refused : (a : Answer) → judged st l r g ≡ Err a → through_rule i j l r g st ≡ []
    unfolding through_rule
    through_refused a e = rw (e, through_rule)

    pub through_judged : judged st l r g ≡ Ok tt → through_rule i j l r g st ≡ through_guard i j l r st
    unfolding through_rule
    through_judged e = rw (e, through_rule)

-- ---- start

module _ (l r g : List ℕ) where
  pub start_refused : sized l r g ≡ false → start_rule l r g ≡ lent (refusal answer.Length fresh) l r g
  unfolding start_rule
  start_refused e = rw (e, start_rule)

  pub start_made :
      sized l r g ≡ true →
      start_rule l r g ≡ lent (record { answer = answer.Done; value = 0; state = fresh }) (zeros l) (zeros r) (zeros g)
  unfolding start_rule
  start_made e = rw (e, start_rule)
