-- What each call answers is the first row of the table that applies.
use Prim.Native.Nat.{ℕ, ◌+◌, ◌≤◌, ◌<◌}
use mathlib.Core.Path.{◌≡◌, refl, sym, ap, ◌∙◌}
use mathlib.Core.Bool.{Bool, true, false, not, ◌&&◌, ◌||◌, and-false, or-false, and_self_left}
use mathlib.Core.List.{List, [], ◌∷◌, ◌++◌}
use lib.ListN.{length}
use lib.Dec.{eqb, ltb, leb}
use borrow.Author.Tests.{lt-ltb, le-ltb}
use Rattle.table.specs.Order.{Op}
use Rattle.table.proofs.Seek.{seek_suc_here}
use Rattle.table.proofs.Split.{split}
use Rattle.table.proofs.Booleans.{neither, clash}
use Rattle.read.specs.declared.Phase.TheVariants.{Idle}
use Rattle.read.specs.declared.Guard.{Guard}
use Rattle.read.specs.declared.Slot.{Slot}
use Rattle.read.specs.declared.Control.{Control}
use Rattle.read.specs.declared.Due.{Due}
use Rattle.read.specs.declared.Handle.{Handle}
use Rattle.read.specs.declared.Handle.TheVariants.{Drop, Enter, GoOn, Release, LookUp, WasDropped}
use Rattle.read.specs.declared.Due.TheVariants as due
use Rattle.read.specs.Machine.{slot_count, guard_count, log_room, underway, is_gone, locks, is_due, is_load, is_open, any_open, all_open}
use Rattle.read.specs.Admission.{column, entry}
use Rattle.read.specs.declared.Sign.{Sign}
use Rattle.read.specs.Handles.{smallest, handle_signs, create_signs}
use Rattle.read.proofs.Phases.{underway_stays, gone_is, idle_is}
use Rattle.write.specs.declared.Opening.{Opening}
use Rattle.write.specs.Call.{Call, Create, On, Append, Open, Step}
use Rattle.write.specs.declared.Opening.TheVariants as opening
use Rattle.write.specs.Begins.{writer_signs, step_signs, column_of, lawful_batch, crowds}
use Rattle.write.proofs.Control.{Whole}
use Rattle.demands.specs.Account.{Account, unswapped, inside}
use Rattle.demands.specs.Table.{least, all_in_use, what_comes_back, wanted, busy, lock_held, meets_reader}
use Rattle.demands.proofs.Shown.Invariant.{Shape, outside, announced, inside as entered}
use Rattle.demands.proofs.Shown.Guards.{all_shut}
use Rattle.demands.proofs.Account.Control.{stands_at, SteersOf}
use Rattle.demands.proofs.Account.Reader.{Reads, is_inside, is_lowest, misses, answer15}
use Rattle.demands.proofs.Account.Rows.{Agree, none as no_more, same, here, agree_least, sign_rows, answer_no, rows_least, entry_6, entry_7, entry_create, entry_step, entry_append, busy_is, lock_is, Row, row}

-- ---- tests

six_drop : (o d b g : Bool) → (b ≡ true → g ≡ false) → (d || (o && b || o && not g)) ≡ (o && not g || d)
six_drop true true true true f = refl
six_drop true true true false f = refl
six_drop true true false true f = refl
six_drop true true false false f = refl
six_drop true false true true f = clash refl (f refl)
six_drop true false true false f = refl
six_drop true false false true f = refl
six_drop true false false false f = refl
six_drop false true b g f = refl
six_drop false false b g f = refl

seven_drop : (o d b g l : Bool) → (g ≡ true → l ≡ false) → (d || (o && b || o && not g)) ≡ false → l ≡ (not o && l)
seven_drop true true b g l f e = clash refl e
seven_drop true false true g l f e = clash refl e
seven_drop true false false true l f e = f refl
seven_drop true false false false l f e = clash refl e
seven_drop false d b g l f e = refl

six_on : (a b : Bool) → (a || (b || false)) ≡ (b || a)
six_on true true = refl
six_on true false = refl
six_on false true = refl
six_on false false = refl

-- no guard is open where a load is due
none_all : (gs : List Guard) → any_open gs ≡ false → all_open gs ≡ false
none_all gs e =
    ap (leb guard_count) (seek_suc_here (λ j. not (is_open gs j)) 0 3 (split (is_open gs 0) (λ o. absurd (all_shut gs e 0 o)) (λ o. ap not o)))

load_due : (d : Due) → is_due d ≡ false → is_load d ≡ false
load_due d e = go d e
  where
    go : (d : Due) → is_due d ≡ false → is_load d ≡ false
    go due.Nothing e = refl
    go due.Load e = clash refl e
    go due.Restore e = refl

room_due : (s : Slot) (null : Bool) → Shape s → (is_load s.due && (not null && all_open s.guards)) ≡ false
room_due s null (outside a b e) = ap (λ (x : Bool). x && (not null && all_open s.guards)) (load_due s.due b)
room_due s null (announced a b d e) =
    ap (λ (x : Bool). is_load s.due && (not null && x)) (none_all s.guards e) ∙ ap (λ (x : Bool). is_load s.due && x) (and-false (not null))
    ∙ and-false (is_load s.due)
room_due s null (entered u d b a) = ap (λ (x : Bool). x && (not null && all_open s.guards)) (load_due s.due b)

by_signs : (a : Account) (k : Call) (s : List Sign) (rest : List Row) → Agree (what_comes_back a k) (sign_rows s ++ rest) → wanted a k ≡ answer_no (smallest s) (least rest)
unfolding wanted
by_signs a k s rest h = agree_least h ∙ rows_least s rest

module _ (a : Account) (c : Control) (h : SteersOf a c) (w : Whole c) where
  busy' : busy a ≡ underway c.phase
  busy' = busy_is a c h w

  lock' : lock_held a ≡ locks c.phase
  lock' = lock_is a c h w

  gone' : a.gone ≡ is_gone c.phase
  gone' = sym h.stands.over

  busy_stays : busy a ≡ true → a.gone ≡ false
  busy_stays e = gone' ∙ underway_stays c.phase (sym busy' ∙ e)

  gone_unheld : a.gone ≡ true → lock_held a ≡ false
  gone_unheld e = lock' ∙ ap locks (gone_is c.phase (sym gone' ∙ e))

  -- ---- a call on a handle

  module _ (i : ℕ) (lt : i < slot_count) (s : Slot) (e : ℕ) (rd : Reads (a.readers i) s e) (sh : Shape s) where
    abbrev own : Bool
    own = eqb i 0

    no_slot_lem : not (ltb i slot_count && (a.readers i).lives) ≡ not s.used
    no_slot_lem = λ j. not (lt-ltb i slot_count lt j && sym rd.lives j)

    abbrev signs : Handle → List Sign
    signs hd = handle_signs c own s hd

    abbrev rest : Handle → List Row
    rest hd = row 13 false ∷ row 14 false ∷ row 15 (misses (a.readers i) hd c.null) ∷ []

    abbrev Rows : Handle → Type 0
    Rows hd = Agree (what_comes_back a (On i hd)) (sign_rows (signs hd) ++ rest hd)

    drop_rows : Rows Drop
    drop_rows =
        same (here no_slot_lem (λ _. same (here six (λ n. here (seven n) (λ _. here (or-false (inside (a.readers i)) ∙ sym (is_inside rd)) (λ _. same (same (same (same (same (same (same no_more))))))))))))
      where
        six : (is_due (a.readers i).due || (own && busy a || own && not a.gone)) ≡ (eqb (entry c.phase (column Drop own)) 6 || is_due s.due)
        six =
            six_drop own (is_due (a.readers i).due) (busy a) a.gone busy_stays
            ∙ (λ j. own && not (gone' j) || is_due (sym rd.due j))
            ∙ ap (λ (x : Bool). x || is_due s.due) (sym (entry_6 c.phase Drop own))

        seven : (is_due (a.readers i).due || (own && busy a || own && not a.gone)) ≡ false → lock_held a ≡ eqb (entry c.phase (column Drop own)) 7
        seven n =
            seven_drop own (is_due (a.readers i).due) (busy a) a.gone (lock_held a) gone_unheld n
            ∙ ap (λ (x : Bool). not own && x) lock' ∙ sym (entry_7 c.phase Drop own)

    -- the other calls, on slot 0 while a call is under way
    six_entry : (hd : Handle) (x y : Bool) → eqb (entry c.phase (column hd own)) 6 ≡ (own && underway c.phase) → x ≡ y →
        (x || (own && busy a || false)) ≡ (eqb (entry c.phase (column hd own)) 6 || y)
    six_entry hd x y q p =
        six_on x (own && busy a) ∙ (λ j. own && busy' j || p j) ∙ ap (λ (z : Bool). z || y) (sym q)

    due_is : is_due (a.readers i).due ≡ is_due s.due
    due_is = ap is_due (sym rd.due)

    enter_rows : Rows Enter
    enter_rows =
        same (here no_slot_lem (λ _. same (here (six_entry Enter (is_due (a.readers i).due) (is_due s.due) (entry_6 c.phase Enter own) due_is) (λ n. here (sym (entry_7 c.phase Enter own)) (λ _. same (same (here (ap (leb guard_count) (sym (is_lowest rd))) (λ _. same (same (same (same (here (or-false (inside (a.readers i) && a.taken) ∙ ap (λ (x : Bool). inside (a.readers i) && x) (sym h.null)) (λ _. no_more)))))))))))))

    go_on_rows : Rows GoOn
    go_on_rows =
        same (here no_slot_lem (λ _. same (here (six_entry GoOn (not (is_due (a.readers i).due)) (not (is_due s.due)) (entry_6 c.phase GoOn own) (ap not due_is)) (λ n. here (sym (entry_7 c.phase GoOn own)) (λ _. same (same (here (sym (room_due s c.null sh)) (λ _. same (same (same (same (here (ap (λ (x : Bool). x || not (is_load (a.readers i).due)) (sym h.null)) (λ _. no_more)))))))))))))

    no_guard : (j : ℕ) → not (ltb j guard_count && (a.readers i).guards j) ≡ not (is_open s.guards j)
    no_guard j = ap (λ (x : Bool). not (ltb j guard_count && x)) (sym (rd.guards j)) ∙ ap not (and_self_left (ltb j guard_count) _)

    release_rows : (j : ℕ) → Rows (Release j)
    release_rows j =
        same (here no_slot_lem (λ _. same (here (six_entry (Release j) false false (entry_6 c.phase (Release j) own) refl) (λ n. here (sym (entry_7 c.phase (Release j) own)) (λ _. same (here (no_guard j) (λ _. same (same (same (same (same (same no_more))))))))))))

    look_up_rows : (j key : ℕ) → Rows (LookUp j key)
    look_up_rows j key =
        same (here no_slot_lem (λ _. same (here (six_entry (LookUp j key) false false (entry_6 c.phase (LookUp j key) own) refl) (λ n. here (sym (entry_7 c.phase (LookUp j key) own)) (λ _. same (here (no_guard j) (λ _. same (same (same (same (same (same no_more))))))))))))

    was_dropped_rows : Rows WasDropped
    was_dropped_rows =
        same (here no_slot_lem (λ _. same (here (six_entry WasDropped false false (entry_6 c.phase WasDropped own) refl) (λ n. here (sym (entry_7 c.phase WasDropped own)) (λ _. same (same (same (same (same (same (same (same no_more))))))))))))

    handle_rows : (hd : Handle) → Rows hd
    handle_rows Drop = drop_rows
    handle_rows Enter = enter_rows
    handle_rows GoOn = go_on_rows
    handle_rows (Release j) = release_rows j
    handle_rows (LookUp j key) = look_up_rows j key
    handle_rows WasDropped = was_dropped_rows

    pub wanted_on : (hd : Handle) → wanted a (On i hd) ≡ answer_no (smallest (signs hd)) (answer15 (misses (a.readers i) hd c.null))
    wanted_on hd = by_signs a (On i hd) (signs hd) (rest hd) (handle_rows hd)

  -- a slot number over 15
  pub wanted_past : (i : ℕ) → slot_count ≤ i → (hd : Handle) → wanted a (On i hd) ≡ 4
  unfolding wanted
  wanted_past i le Drop = rw (le-ltb i slot_count le)
  wanted_past i le Enter = rw (le-ltb i slot_count le)
  wanted_past i le GoOn = rw (le-ltb i slot_count le)
  wanted_past i le (Release j) = rw (le-ltb i slot_count le)
  wanted_past i le (LookUp j key) = rw (le-ltb i slot_count le)
  wanted_past i le WasDropped = rw (le-ltb i slot_count le)

  -- ---- create

  abbrev none : List Row
  none = row 13 false ∷ row 14 false ∷ row 15 false ∷ []

  pub wanted_create : all_in_use a ≡ leb slot_count c.free → wanted a Create ≡ answer_no (smallest (create_signs c)) 0
  wanted_create q = by_signs a Create (create_signs c) none rows
    where
      rows : Agree (what_comes_back a Create) (sign_rows (create_signs c) ++ none)
      rows =
          same (same (same (same (here (lock' ∙ sym (entry_create c.phase)) (λ _. same (same (same (same (here q (λ _. same (same (same no_more))))))))))))

  -- ---- the writer's calls

  module _ (s : Slot) (e : ℕ) (rd : Reads (a.readers 0) s e) where
    -- under way, or a step of slot 0 due, where the writer is not gone
    six_write : (x : ℕ) → eqb (entry c.phase x) 6 ≡ (underway c.phase || is_gone c.phase) → a.gone ≡ false →
        (busy a || (is_due (a.readers 0).due || false)) ≡ (eqb (entry c.phase x) 6 || is_due s.due)
    six_write x q n =
        (λ j. busy' j || or-false (is_due (sym rd.due j)) j) ∙ ap (λ (y : Bool). y || is_due s.due) (sym (or-false (underway c.phase)))
        ∙ ap (λ (y : Bool). underway c.phase || y || is_due s.due) (sym (sym gone' ∙ n)) ∙ ap (λ (y : Bool). y || is_due s.due) (sym q)

    -- append and the beginnings, in a column of the table of admissions
    write_rows : (x : ℕ) (unlawful full full' : Bool) → eqb (entry c.phase x) 6 ≡ (underway c.phase || is_gone c.phase) →
        (c.phase ≡ Idle → full ≡ full') →
        Agree
        (row 3 a.gone ∷ row 4 false ∷ row 5 unlawful ∷ row 6 (busy a || (is_due (a.readers 0).due || false)) ∷ row 7 false
        ∷ row 8 (inside (a.readers 0)) ∷ row 9 false ∷ row 10 false ∷ row 11 full ∷ row 12 false ∷ none)
        (sign_rows (writer_signs x unlawful full' c s) ++ none)
    write_rows x unlawful full full' q f =
        here gone' (λ g. same (same (here (six_write x q g) (λ n. same (here (sym (is_inside rd)) (λ _. same (same (here (f (idle n g)) (λ _. same (same (same (same no_more))))))))))))
      where
        idle : (busy a || (is_due (a.readers 0).due || false)) ≡ false → a.gone ≡ false → c.phase ≡ Idle
        idle n g = idle_is c.phase (sym busy' ∙ (neither (busy a) _ n).0) (sym gone' ∙ g)

    pub wanted_append : (os : List Op) →
        wanted a (Append os) ≡ answer_no (smallest (writer_signs 7 (not (lawful_batch os)) (crowds (length os) c) c s)) 0
    wanted_append os =
        by_signs a (Append os) (writer_signs 7 (not (lawful_batch os)) (crowds (length os) c) c s) none
        (write_rows 7 (not (lawful_batch os)) (not (unswapped a.store) && ltb log_room (a.store.in_log + length os)) (crowds (length os) c)
        (entry_append c.phase) full)
      where
        full : c.phase ≡ Idle → (not (unswapped a.store) && ltb log_room (a.store.in_log + length os)) ≡ crowds (length os) c
        full q =
            let x = stands_at a h q in
            λ j. not (sym h.first j) && ltb log_room (sym x.log.0 j + length os)

    pub wanted_open : (o : Opening) → wanted a (Open o) ≡ answer_no (smallest (writer_signs (column_of o) false false c s)) 0
    unfolding entry
    wanted_open opening.Publish =
        by_signs a (Open opening.Publish) (writer_signs 8 false false c s) none (write_rows 8 false false false (entry_append c.phase) (λ _. refl))
    wanted_open opening.Try =
        by_signs a (Open opening.Try) (writer_signs 9 false false c s) none (write_rows 9 false false false (entry_append c.phase) (λ _. refl))
    wanted_open opening.Flush =
        by_signs a (Open opening.Flush) (writer_signs 10 false false c s) none (write_rows 10 false false false (entry_append c.phase) (λ _. refl))
    wanted_open opening.Take =
        by_signs a (Open opening.Take) (writer_signs 11 false false c s) none (write_rows 11 false false false (entry_append c.phase) (λ _. refl))

  -- ---- step

  abbrev pub stops : Bool → Bool → List Row
  stops m t = row 13 (m && not t) ∷ row 14 (m && t) ∷ row 15 false ∷ []

  pub wanted_step : wanted a Step ≡ answer_no (smallest (step_signs 12 c)) (least (stops (meets_reader a) a.trial))
  wanted_step = by_signs a Step (step_signs 12 c) (stops (meets_reader a) a.trial) rows
    where
      rows : Agree (what_comes_back a Step) (sign_rows (step_signs 12 c) ++ stops (meets_reader a) a.trial)
      rows =
          here gone' (λ _. same (same (here (or-false (not (busy a)) ∙ ap not busy' ∙ sym (entry_step c.phase)) (λ _. same (same (same (same (same (same (same (same (same no_more))))))))))))
