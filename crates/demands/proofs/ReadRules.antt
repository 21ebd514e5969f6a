-- The rules that `read`'s contracts cite are those of the whole machine.
use Prim.Native.Nat.{ℕ, ◌*◌}
use mathlib.Core.Path.{◌≡◌, refl, sym, ap, ◌∙◌, subst₂}
use mathlib.Core.Logic.{◌≢◌}
use mathlib.Core.Bool.{Bool, true, false}
use mathlib.Core.List.{List, []}
use lib.Dec.{eqb, ltb}
use lib.ListN.{length, get_or, replicate}
use Rattle.table.specs.declared.Answer.TheVariants as answer
use Rattle.table.specs.Answers.{number}
use Rattle.table.specs.Copy.{zeros, fits, look_rule, used_rule}
use Rattle.table.specs.Many.{told_all, look_all_rule}
use Rattle.table.proofs.Split.{split}
use Rattle.table.proofs.Cases.{fits_fit, used_fit, used_unfit}
use Rattle.table.proofs.Many.{look_all_view}
use Rattle.read.specs.Machine.{Verdict, slot_count, sized, judged, fresh}
use Rattle.std.specs.Prelude.{Ok, Err}
use Rattle.read.specs.declared.State.{State}
use Rattle.read.specs.declared.Slot.{Slot}
use Rattle.read.specs.declared.Made.{Made}
use Rattle.read.specs.declared.Reply.{Reply}
use Rattle.read.specs.declared.Handle.{Handle}
use Rattle.read.specs.declared.Handle.TheVariants.{LookUp}
use Rattle.read.specs.declared.Sign.{Sign}
use Rattle.read.specs.Handles.{smallest, handle_signs, made_of, guarded_copy, handled, handled_by, handle_by}
use Rattle.read.specs.Calls.{Lent, lent, slot_at, refusal, reply_of, handle_reply, handle_rule, create_reply, create_rule, through_rule, view_rule, pair_rule, start_rule}
use Rattle.write.specs.Call.{Create, On}
use Rattle.write.specs.Machine.{call_on, call_rule}
use Rattle.write.specs.World.{World, reply, world_of, answer_of, value_of}
use Rattle.demands.specs.Demand1.{Lengths, Starts}
use Rattle.demands.specs.Demands.{shown}
use Rattle.demands.proofs.Refusal.Judged.{sized_lengths, lengths_sized}

by_verdict : (v : Verdict) (st : State) (x : Reply) (l r g : List ℕ) →
    ◌≡◌ {A = Lent Reply} (elim v [ Ok _ ↦ lent x l r g | Err a ↦ lent (refusal a st) l r g ]) (lent (elim v [ Ok _ ↦ x | Err a ↦ refusal a st ]) l r g)
by_verdict (Ok _) st x l r g = refl
by_verdict (Err a) st x l r g = refl

pub one_handle : (i : ℕ) (h : Handle) (st : State) (l r g : List ℕ) → call_rule (On i h) st l r g ≡ lent (handle_rule i h l r g st) l r g
unfolding call_rule call_on handle_rule
one_handle i h st l r g = by_verdict (judged st l r g) st (handle_reply i h l r st) l r g

pub one_create : (st : State) (l r g : List ℕ) → call_rule Create st l r g ≡ lent (create_rule l r g st) l r g
unfolding call_rule call_on create_rule
one_create st l r g = by_verdict (judged st l r g) st (create_reply st) l r g

-- ---- what a guard shows

module _ (i j key : ℕ) (w : World) where
  abbrev looked : Lent Reply
  looked = reply call_rule (On i (LookUp j key)) w

  abbrev s : Slot
  s = slot_at w.state i

  -- a look up, and the copy that it is made in, by what both are judged on: words and control part; the slot's number; the slot
  abbrev made_by : Verdict → Made
  made_by u =
      elim u [ Ok _ ↦ handled w.state.control i s (LookUp j key) w.left w.right | Err a ↦ made_of w.state.control a 0 s ]

  abbrev reply_by : Verdict → Bool → Verdict → Reply
  reply_by v b u =
      elim v [
        | Ok _ ↦
            elim b [
              | true ↦ reply_of i (made_by u) w.state
              | false ↦ refusal answer.NoSlot w.state
            ]
        | Err a ↦ refusal a w.state
      ]

  abbrev shown_by : Verdict → Bool → Verdict → List ℕ
  shown_by v b u =
      elim v [
        | Ok _ ↦ elim b [ true ↦ elim u [ Ok _ ↦ guarded_copy s.guards j w.left w.right | Err a ↦ [] ] | false ↦ [] ]
        | Err a ↦ []
      ]

  -- the value is the count of the pair that is shown, and where it is refused nothing is
  record Joined (o : Reply) (x : List ℕ) : Type 0 where
    counts : o.value ≡ get_or (look_rule key x) 1 0
    refused : number o.answer ≢ 0 → x ≡ []

  unseen : (o : Reply) → o.value ≡ 0 → Joined o []
  unfolding look_rule
  unseen o e = record { counts = e; refused = λ _. refl }

  joined_by : (v : Verdict) (b : Bool) (u : Verdict) → Joined (reply_by v b u) (shown_by v b u)
  unfolding handled_by
  joined_by (Ok _) true (Ok _) = record { counts = refl; refused = λ n. absurd (n refl) }
  joined_by (Ok _) true (Err a) = unseen (reply_by (Ok tt) true (Err a)) refl
  joined_by (Ok _) false u = unseen (reply_by (Ok tt) false u) refl
  joined_by (Err a) b u = unseen (reply_by (Err a) b u) refl

  -- no sign looks at the key
  any_key : (own : Bool) → handle_signs w.state.control own s (LookUp j key) ≡ handle_signs w.state.control own s (LookUp j 0)
  any_key true = refl
  any_key false = refl

  joined : Joined looked.made (shown i j w)
  unfolding handle_rule handle_by through_rule
  joined =
      let v = judged w.state w.left w.right w.log in
      let signs = handle_signs w.state.control (eqb i 0) s (LookUp j key) in
      subst₂ (λ (o : Lent Reply) (u : List Sign). Joined o.made (shown_by v (ltb i slot_count) (smallest u)))
      (sym (one_handle i (LookUp j key) w.state w.left w.right w.log)) (any_key (eqb i 0))
      (joined_by v (ltb i slot_count) (smallest signs))

  -- the pair that `pair_rule` hands back has the value of the look up
  pub one_pair : value_of looked ≡ get_or (pair_rule i j key w.left w.right w.log w.state) 1 0
  one_pair = joined.counts

  -- a view is of no words where the look up is refused
  pub one_view : answer_of looked ≢ 0 → view_rule i j w.left w.right w.log w.state ≡ []
  unfolding used_rule
  one_view n = ap used_rule (joined.refused n)

-- of each of many keys in a view is told what `pair_rule` hands back of it, which is what a look up in the copy that is shown finds
pub one_all :
    (i j : ℕ) (w : World) (keys out : List ℕ) → length out ≡ 2 * length keys →
    view_rule i j w.left w.right w.log w.state ≢ [] →
    look_all_rule (view_rule i j w.left w.right w.log w.state) keys out
    ≡ record { answer = answer.Done; copy = told_all keys (shown i j w) }
one_all i j w keys out e n =
    let x = shown i j w in
    split (fits x)
    (λ f. ap (λ (v : List ℕ). look_all_rule v keys out) (used_fit x f) ∙ look_all_view x (fits_fit x f) keys out e)
    (λ f. absurd (n (used_unfit x f)))

-- ---- start

pub one_start : Starts start_rule
unfolding start_rule
one_start =
    record {
      done = λ l r g h. ap answer_of (long l r g h);
      starts = λ l r g h. ap world_of (long l r g h) ∙ (λ z. record { state = fresh; left = replicate (h.left z) 0; right = replicate (h.right z) 0; log = replicate (h.log z) 0 });
      unsized = λ l r g n. ap answer_of (short l r g n);
      unchanged = λ l r g n. ap world_of (short l r g n);
      valueless = λ l r g. go (sized l r g) l r g;
    }
  where
    by_length : Bool → List ℕ → List ℕ → List ℕ → Lent Reply
    by_length b l r g =
        elim b [
          | true ↦ lent (record { answer = answer.Done; value = 0; state = fresh }) (zeros l) (zeros r) (zeros g)
          | false ↦ lent (refusal answer.Length fresh) l r g
        ]

    long : (l r g : List ℕ) → Lengths l r g → start_rule l r g ≡ by_length true l r g
    long l r g h = ap (λ (b : Bool). by_length b l r g) (lengths_sized h)

    short : (l r g : List ℕ) → ¬ (Lengths l r g) → start_rule l r g ≡ by_length false l r g
    short l r g n = ap (λ (b : Bool). by_length b l r g) (split (sized l r g) (λ e. absurd (n (sized_lengths e))) (λ e. e))

    go : (b : Bool) (l r g : List ℕ) → value_of (by_length b l r g) ≡ 0
    go true l r g = refl
    go false l r g = refl
