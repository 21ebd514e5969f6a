-- That two tests are the same, as a test and as an equation.
use Rattle.std.proofs.Common.{◌≡◌, Bool, true, false, sym, refl}
use mathlib.Core.Bool.{beq}
use Rattle.read.specs.Machine.{same}

pub same_equal : (a b : Bool) → same a b ≡ true → a ≡ b
same_equal true b e = sym e
same_equal false true e = e
same_equal false false e = refl

pub equal_same : (a b : Bool) → a ≡ b → same a b ≡ true
equal_same true b e = sym e
equal_same false true e = e
equal_same false false e = refl

-- the other way round, as the code tests it
pub same_beq : (a b : Bool) → same a b ≡ beq b a
same_beq true true = refl
same_beq true false = refl
same_beq false true = refl
same_beq false false = refl
