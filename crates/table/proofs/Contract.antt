-- A contract as the check reads it from the source: what a function takes and gives, and what it promises of them. As a value it can be
-- cited where the function cannot be called, in a proof of another crate.
use Prim.Native.Nat.{ℕ}
use mathlib.Core.List.{List}
use borrow.Fn.Kinds.{ParamKind, ResultKind, Out}

pub record Contract (n : ℕ) : Type 3 where
  pub takes : List (ParamKind n)
  pub gives : ResultKind n
  pub post : Out n takes gives
