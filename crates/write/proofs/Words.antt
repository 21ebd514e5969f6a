-- The lent words: what every call is judged on, as facts, and that every step and append keeps it.
use Rattle.std.proofs.Common.{◌≡◌, ℕ, suc, ◌+◌, ◌-◌, ◌*◌, ◌<◌, ◌≤◌, Bool, true, false, List, [], ◌∷◌, length, get_or, set, sym, refl, ◌∙◌, subst, append-nil, arith, length-set, drop_of_length-le, take_all, get_or-set_other, get_or-set_same, le-leb}
use lib.ListN.{length-replicate}
use Rattle.table.specs.Copy.{zeros, applied, closed, lawful, Fit}
use Rattle.table.specs.declared.Search.TheVariants.{Walk}
use Rattle.table.specs.Order.{Op, Tidy}
use Rattle.table.proofs.Booleans.{both}
use Rattle.table.proofs.Split.{split, under, below}
use Rattle.table.proofs.Cases.{close_room, apply_made, apply_unlawful}
use Rattle.table.proofs.CopyWords.{length_closed, closed_moved}
use Rattle.table.proofs.CopyFit.{fit_applied, fit_zeros, fit_fits}
use Rattle.table.proofs.CopyOrder.{tidy_applied, tidy_zeros}
use Rattle.read.specs.declared.Slot.{Slot}
use Rattle.read.specs.declared.Phase.{Phase}
use Rattle.read.specs.declared.Phase.TheVariants.{Idle, Begin, Poll, Copy, Drain, Keep, Swap, Snap, Null, Lock, LastSnap, LastPoll, Finish, Gone}
use Rattle.read.specs.declared.Job.{Job}
use Rattle.read.specs.declared.Job.TheVariants.{Publish, Try, TakeFirst, TakeSecond}
use Rattle.read.specs.declared.Control.{Control}
use Rattle.read.specs.Machine.{log_room, log_words, lawful_at}
use Rattle.read.specs.Handles.{copy_of}
use Rattle.read.specs.Calls.{Lent}
use Rattle.read.proofs.Cases.{of_copy}
use Rattle.write.specs.declared.Moved.{Moved}
use Rattle.write.specs.Steps.{of_left, of_right, operated, operated_by, log_applied, over, unlogged, snapping, swapped_over, holds, stopped, poll_move, last_poll_move, step_at, step_by}
use Rattle.write.specs.Begins.{all_lawful, logged, operated_all, logged_all, append_on}
use Rattle.write.proofs.Cases.{snapping_cases, append_cases}
use Rattle.write.proofs.Control.{Whole, Fits, fits}

-- ---- the copies

-- what is asked of both copies, and every operation keeps: that they are fit, or that they are tidy
pub record Kept (P : List ℕ → Type 0) : Type 0 where
  pub fit : (w : List ℕ) → P w → Fit w
  pub applied : (kind key amount : ℕ) (w : List ℕ) → P w → P (applied kind key amount w)
  pub zeros : (w : List ℕ) → P w → P (zeros w)

pub kept_fit : Kept Fit
kept_fit = record { fit = λ w f. f; applied = fit_applied; zeros = fit_zeros }

pub kept_tidy : Kept Tidy
kept_tidy = record { fit = λ w t. t.fit; applied = tidy_applied; zeros = tidy_zeros }

pub record Words (P : List ℕ → Type 0) (n : ℕ) (l r g : List ℕ) : Type 0 where
  pub left : P l
  pub right : P r
  pub log : length g ≡ log_words
  pub lawfully : (i : ℕ) → i < n → lawful_at g i ≡ true

module _ (P : List ℕ → Type 0) (kept : Kept P) where
  pub keep_operated : (kind key amount : ℕ) (w : List ℕ) → P w → P (operated kind key amount w)
  keep_operated kind key amount w x =
      let f = fit_fits w (kept.fit w x) in
      split (lawful kind key amount)
      (λ e. rw (operated_by, apply_made Walk kind key amount w f e) (kept.applied kind key amount w x))
      (λ e. rw (operated_by, apply_unlawful Walk kind key amount w f e) x)

  pub keep_operated_all : (os : List Op) (w : List ℕ) → P w → P (operated_all os w)
  keep_operated_all [] w x = x
  keep_operated_all (o ∷ os) w x =
      keep_operated_all os (operated o.kind o.key o.amount w) (keep_operated o.kind o.key o.amount w x)

  keep_log_applied : (g : List ℕ) (i : ℕ) (w : List ℕ) → P w → P (log_applied g i w)
  keep_log_applied g i w x = below P i log_room (λ h. keep_operated _ _ _ w x) (λ h. x)

  keep_over : (v w : List ℕ) → P v → P w → P (over v w)
  keep_over v w x y =
      let e : length v ≡ length w = (kept.fit v x).sized ∙ sym (kept.fit w y).sized in
      rw (take_all (length w) v (omega arith), drop_of_length-le w {i = length v} (omega arith), append-nil v) x

module _ (P : List ℕ → Type 0) (f : List ℕ → List ℕ) (h : (w : List ℕ) → P w → P (f w)) where
  keep_left : (right : Bool) (l : List ℕ) → P l → P (of_left right f l)
  keep_left true l x = h l x
  keep_left false l x = x

  keep_right : (right : Bool) (r : List ℕ) → P r → P (of_right right f r)
  keep_right true r x = x
  keep_right false r x = h r x

-- ---- the log

alike_lawful :
    (g d : List ℕ) (i j : ℕ) → get_or d (3 * j) 0 ≡ get_or g (3 * i) 0 → get_or d (3 * j + 1) 0 ≡ get_or g (3 * i + 1) 0 →
    get_or d (3 * j + 2) 0 ≡ get_or g (3 * i + 2) 0 → lawful_at g i ≡ true → lawful_at d j ≡ true
alike_lawful g d i j x y z h = (λ k. lawful (x k) (y k) (z k)) ∙ h

-- the first of n operations is taken off
module _ (n : ℕ) (g : List ℕ) (some : 0 < n) (room : n ≤ log_room) (sized : length g ≡ log_words) where
  unlogged_closed : unlogged n g ≡ closed 3 (3 * (n - 1)) g
  unlogged_closed = rw (le-leb n log_room room, unlogged, close_room 3 (3 * (n - 1)) g (omega arith))

  length_unlogged : length (unlogged n g) ≡ log_words
  length_unlogged = rw (unlogged_closed, length_closed 3 (3 * (n - 1)) g (omega arith)) sized

  pub moved_word : (x y : ℕ) → x < 3 * (n - 1) → y ≡ 3 + x → get_or (unlogged n g) x 0 ≡ get_or g y 0
  moved_word x y b e = rw unlogged_closed (closed_moved 3 (3 * (n - 1)) g (omega arith) x y e b)

  lawful_unlogged : ((i : ℕ) → i < n → lawful_at g i ≡ true) → (i : ℕ) → i < n - 1 → lawful_at (unlogged n g) i ≡ true
  lawful_unlogged h i b =
      alike_lawful g (unlogged n g) (i + 1) i (moved_word (3 * i) (3 * (i + 1)) (omega arith) (omega arith))
      (moved_word (3 * i + 1) (3 * (i + 1) + 1) (omega arith) (omega arith))
      (moved_word (3 * i + 2) (3 * (i + 1) + 2) (omega arith) (omega arith)) (h (i + 1) (omega arith))

-- one more operation behind n others
module _ (n kind key amount : ℕ) (g : List ℕ) (room : n < log_room) (sized : length g ≡ log_words) where
  length_logged : length (logged n kind key amount g) ≡ log_words
  length_logged = simp length-set sized

  pub other_word : (x : ℕ) → x < 3 * n → get_or (logged n kind key amount g) x 0 ≡ get_or g x 0
  other_word x b =
      get_or-set_other (set (set g (3 * n) kind) (3 * n + 1) key) (3 * n + 2) x amount 0 (omega arith)
      ∙ get_or-set_other (set g (3 * n) kind) (3 * n + 1) x key 0 (omega arith)
      ∙ get_or-set_other g (3 * n) x kind 0 (omega arith)

  pub kind_word : get_or (logged n kind key amount g) (3 * n) 0 ≡ kind
  kind_word =
      get_or-set_other (set (set g (3 * n) kind) (3 * n + 1) key) (3 * n + 2) (3 * n) amount 0 (omega arith)
      ∙ get_or-set_other (set g (3 * n) kind) (3 * n + 1) (3 * n) key 0 (omega arith)
      ∙ get_or-set_same g (3 * n) kind 0 (omega arith)

  pub key_word : get_or (logged n kind key amount g) (3 * n + 1) 0 ≡ key
  key_word =
      get_or-set_other (set (set g (3 * n) kind) (3 * n + 1) key) (3 * n + 2) (3 * n + 1) amount 0 (omega arith)
      ∙ get_or-set_same (set g (3 * n) kind) (3 * n + 1) key 0 (rw (length-set g (3 * n) kind) (omega arith))

  pub amount_word : get_or (logged n kind key amount g) (3 * n + 2) 0 ≡ amount
  amount_word =
      get_or-set_same (set (set g (3 * n) kind) (3 * n + 1) key) (3 * n + 2) amount 0
      (rw (length-set (set g (3 * n) kind) (3 * n + 1) key, length-set g (3 * n) kind) (omega arith))

  lawful_logged :
      lawful kind key amount ≡ true → ((i : ℕ) → i < n → lawful_at g i ≡ true) → (i : ℕ) → i < suc n →
      lawful_at (logged n kind key amount g) i ≡ true
  lawful_logged new h i b =
      under i n
      (λ u.
      alike_lawful g (logged n kind key amount g) i i (other_word (3 * i) (omega arith)) (other_word (3 * i + 1) (omega arith))
      (other_word (3 * i + 2) (omega arith)) (h i u))
      (λ u.
      let e : i ≡ n = omega arith in
      rw e ((λ k. lawful (kind_word k) (key_word k) (amount_word k)) ∙ new))

-- more operations behind n others: what is asked of a log of n
abbrev Logs : ℕ → List ℕ → Type 0
Logs n g = (length g ≡ log_words) × ((i : ℕ) → i < n → lawful_at g i ≡ true)

logs_all : (os : List Op) (n : ℕ) (g : List ℕ) → n + length os ≤ log_room → all_lawful os ≡ true → Logs n g → Logs (n + length os) (logged_all n os g)
logs_all [] n g room lawfully h = subst (λ (m : ℕ). Logs m g) {x = n} {y = n + 0} (omega arith) h
logs_all (o ∷ os) n g room lawfully h =
    let u : n < log_room = omega arith in
    let v = both (lawful o.kind o.key o.amount) (all_lawful os) lawfully in
    subst (λ (m : ℕ). Logs m (logged_all n (o ∷ os) g)) {x = suc n + length os} {y = n + suc (length os)} (omega arith)
    (logs_all os (suc n) (logged n o.kind o.key o.amount g) (omega arith) v.1
    (length_logged n o.kind o.key o.amount g u h.0, lawful_logged n o.kind o.key o.amount g u h.0 v.0 h.1))

-- ---- a step, and append

abbrev pub WordsOf : (List ℕ → Type 0) → Lent Moved → Type 0
WordsOf P m = Words P m.made.control.length m.left m.right m.log

-- what changes the copies alone
words_copies :
    {P : List ℕ → Type 0} {n : ℕ} {l r g : List ℕ} (right : Bool) (f : List ℕ → List ℕ) → ((w : List ℕ) → P w → P (f w)) →
    Words P n l r g → Words P n (of_left right f l) (of_right right f r) g
words_copies {P} {l = l} {r = r} right f h w =
    record { left = keep_left P f h right l w.left; right = keep_right P f h right r w.right; log = w.log; lawfully = w.lawfully }

module _ {P : List ℕ → Type 0} (kept : Kept P) (c : Control) (s : Slot) (e : ℕ) (l r g : List ℕ) (w : Words P c.length l r g) where
  words_snapping : (d : Control) (k : ℕ) → d.length ≡ c.length → Words P (snapping d k).length l r g
  words_snapping d k q =
      snapping_cases (λ x. Words P x.length l r g) d k (λ h. subst (λ (n : ℕ). Words P n l r g) (sym q) w)
      (λ h. subst (λ (n : ℕ). Words P n l r g) (sym q) w)

  words_stopped : (j : Job) → Words P (stopped j c s e).control.length l r g
  words_stopped Publish = w
  words_stopped Try = w
  words_stopped TakeFirst = w
  words_stopped TakeSecond = w

  words_poll : (held : Bool) (k : ℕ) → Words P (poll_move held k c s e).control.length l r g
  words_poll true k = words_stopped c.job
  words_poll false k = w

  words_last_poll : (held : Bool) (k : ℕ) → Words P (last_poll_move held k c s e).control.length l r g
  words_last_poll true k = w
  words_last_poll false k = w

  words_step_at : Whole c → (p : Phase) → Fits c.length c.swapped c.null p → WordsOf P (step_at p c s e l r g)
  unfolding step_by
  words_step_at v Idle f = w
  words_step_at v Begin f = w
  words_step_at v (Poll k) f = words_poll (holds s e) k
  words_step_at v Copy f =
      words_copies c.right (over (copy_of c.right l r))
      (λ x h. keep_over P kept (copy_of c.right l r) x (of_copy P c.right w.left w.right) h) w
  words_step_at v Drain f =
      let x = words_copies c.right (log_applied g 0) (keep_log_applied P kept g 0) w in
      let some : 0 < c.length = omega (arith, v.within) in
      record {
        left = x.left;
        right = x.right;
        log = length_unlogged c.length g some v.room w.log;
        lawfully = lawful_unlogged c.length g some v.room w.log w.lawfully;
      }
  words_step_at v (Keep k) f = words_copies c.right (log_applied g k) (keep_log_applied P kept g k) w
  words_step_at v Swap f = words_snapping (swapped_over c) 0 refl
  words_step_at v (Snap k) f = words_snapping c (k + 1) refl
  words_step_at v Null f = w
  words_step_at v Lock f = w
  words_step_at v (LastSnap k) f = w
  words_step_at v (LastPoll k) f = words_last_poll (holds s e) k
  words_step_at v Finish f =
      let x = words_copies c.right zeros kept.zeros w in
      record { left = x.left; right = x.right; log = length-replicate (length g) 0 ∙ w.log; lawfully = λ i h. absurd (omega arith) }
  words_step_at v Gone f = w

  pub words_step : Whole c → WordsOf P (step_at c.phase c s e l r g)
  words_step v = words_step_at v c.phase (fits v)

  pub words_append : (os : List Op) → WordsOf P (append_on os c s e l r g)
  words_append os =
      append_cases (WordsOf P) os c s e l r g (λ q h. words_copies c.right (operated_all os) (keep_operated_all P kept os) w)
      (λ q u h.
      let x = logs_all os c.length g u h.lawfully (w.log, w.lawfully) in
      record { left = w.left; right = w.right; log = x.0; lawfully = x.1 })
      (λ a h. w)
