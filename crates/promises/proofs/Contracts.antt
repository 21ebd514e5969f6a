-- What the promises are made of: a contract, as the check reads it from the source (`Post`), of the values that the
-- parameters' types have (`Kinds.ps`).
use Prim.Native.Nat.{ℕ, ◌^◌}
use mathlib.Core.Path.{◌≡◌}
use mathlib.Core.Bool.{Bool, true, ◌&&◌}
use mathlib.Core.List.{List, [], ◌∷◌}
use lib.Dec.{ltb}
use mir.Val.{Val, Vals, vunit, vbool, vint, vfloat, vptr, vcode, vstruct, vnil, vcons, bits, has_ty}
use contract.Lifetimes.{Lfts}
use denote.Ref.{Bor, MutBor}
use borrow.Fn.Kinds.{ParamKind, Dens}

-- ---- the values that a type has

-- each number is one that its width holds
abbrev mutual
  pub ranged : Val → Bool
  ranged vunit = true
  ranged (vbool b) = true
  ranged (vint w n) = ltb n (2 ^ bits w)
  ranged (vfloat f x) = true
  ranged (vptr k o) = true
  ranged (vcode k) = true
  ranged (vstruct vs) = all_ranged vs

  pub all_ranged : Vals → Bool
  all_ranged vnil = true
  all_ranged (vcons v vs) = ranged v && all_ranged vs

-- each argument is of its type, as the check tests a machine value: an array has the length that is declared
abbrev pub typed : {n : ℕ} (κs : Lfts n) (ps : List (ParamKind n)) → Dens κs ps → Bool
typed κs [] a = true
typed κs (k ∷ ps) a =
    let v = k.is.val κs a.0 in
    has_ty k.is.ty v && (ranged v && typed κs ps a.1)

-- ---- slices

-- the numbers of a lent slice, which that test does not reach: each has b bits
abbrev pub below : ℕ → List ℕ → Bool
below b [] = true
below b (w ∷ ws) = ltb w (2 ^ b) && below b ws

pub record Slice (b : ℕ) : Type 0 where
  pub list : List ℕ
  pub fits : below b list ≡ true

abbrev pub slice : {b : ℕ} (w : List ℕ) → below b w ≡ true → Slice b
slice w h = record { list = w; fits = h }

abbrev pub Words : Type 0
Words = Slice 64

abbrev pub Bytes : Type 0
Bytes = Slice 8

-- a reference to these numbers. No contract says where they lie, or for how long they are lent: here for ever
abbrev pub Ref : Type 0
Ref = Bor (List ℕ)

abbrev pub ref : {A : Type 0} → A → Bor A
ref w = record { ref_ptr = (0, 0); now = w }

-- the same, to be changed: it has a name besides, under which what it refers to is kept, and no contract says which
abbrev pub MutRef : Type 0
MutRef = MutBor (List ℕ)

abbrev pub mut_ref : List ℕ → MutRef
mut_ref w = record { ref_ptr = (0, 0); ghost_name = 0; now = w }

-- the two copies and the log, as a machine is lent them
abbrev pub Refs : Type 0
Refs = Ref × (Ref × (Ref × Unit {0}))

abbrev pub refs : List ℕ → List ℕ → List ℕ → Refs
refs l r g = (ref l, (ref r, (ref g, tt)))

abbrev pub lends : Words → Words → Words → Refs
lends l r g = refs l.list r.list g.list

abbrev pub MutRefs : Type 0
MutRefs = MutRef × (MutRef × (MutRef × Unit {0}))

abbrev pub mut_refs : List ℕ → List ℕ → List ℕ → MutRefs
mut_refs l r g = (mut_ref l, (mut_ref r, (mut_ref g, tt)))

abbrev pub mut_lends : Words → Words → Words → MutRefs
mut_lends l r g = mut_refs l.list r.list g.list

abbrev pub κ₁ : Lfts 1
κ₁ = ([], tt)

abbrev pub κ₂ : Lfts 2
κ₂ = ([], κ₁)

abbrev pub κ₃ : Lfts 3
κ₃ = ([], κ₂)

abbrev pub κ₄ : Lfts 4
κ₄ = ([], κ₃)

-- ---- a promise, of a result

-- of what comes back and of the parameters at exit
abbrev pub Leaves : {A R S : Type 0} → (A → Bool) → (A → R → S → Type 0) → A → R → S → Type 0
Leaves has post a r s = has a ≡ true → post a r s

-- nothing is changed in place: at exit the parameters are what they were
abbrev pub Keeps : {A R : Type 0} → (A → Bool) → (A → R → A → Type 0) → A → R → Type 0
Keeps has post a r = Leaves has post a r a

abbrev pub Keeps1 : {A R : Type 0} → (A × Unit {0} → Bool) → (A × Unit {0} → R → A × Unit {0} → Type 0) → (A → R) → Type 0
Keeps1 {A = A} has post f = (a : A) → Keeps has post (a, tt) (f a)

abbrev pub Keeps2 :
    {A B R : Type 0} → (A × (B × Unit {0}) → Bool) → (A × (B × Unit {0}) → R → A × (B × Unit {0}) → Type 0) → (A → B → R) → Type 0
Keeps2 {A = A} {B = B} has post f = (a : A) (b : B) → Keeps has post (a, (b, tt)) (f a b)

-- ---- a contract that determines

-- any two results that it allows are equal; of a part that is handed back, its words
abbrev pub Determines : {K : Type 0} {A R S : K → Type 0} → ((κs : K) → A κs → R κs → S κs → Type 0) → Type 0
Determines {K = K} {A = A} {R = R} {S = S} post = (κs : K) (a : A κs) (r q : R κs) (s t : S κs) → post κs a r s → post κs a q t → r ≡ q

abbrev pub DeterminesWords : {K : Type 0} {A S : K → Type 0} → ((κs : K) → A κs → Ref → S κs → Type 0) → Type 0
DeterminesWords {K = K} {A = A} {S = S} post =
    (κs : K) (a : A κs) (r q : Ref) (s t : S κs) → post κs a r s → post κs a q t → r.now ≡ q.now
