-- What a test that is made of tests says of each, and each of it. Equations between tests are in `mathlib.Core.Bool`.
use mathlib.Core.Path.{◌≡◌, refl, sym, ap, ◌∙◌}
use mathlib.Core.Bool.{Bool, true, false, not, ◌&&◌, ◌||◌, true≢false}

pub clash : {C : Type 0} {b : Bool} → b ≡ true → b ≡ false → C
clash p q = absurd (true≢false (sym p ∙ q))

pub not_self : {C : Type 0} (b : Bool) → b ≡ not b → C
not_self true e = clash refl e
not_self false e = clash e refl

pub both : (a b : Bool) → (a && b) ≡ true → (a ≡ true) × (b ≡ true)
both true b e = (refl, e)
both false b e = clash e refl

pub neither : (a b : Bool) → (a || b) ≡ false → (a ≡ false) × (b ≡ false)
neither true b e = clash refl e
neither false b e = (refl, e)

pub or_first : {a : Bool} (b : Bool) → a ≡ true → (a || b) ≡ true
or_first b e = ap (λ (x : Bool). x || b) e

pub lacks_none : (a b d : Bool) → (a && (not b && d)) ≡ false → a ≡ true → b ≡ false → d ≡ false
lacks_none a b d e p q = sym (λ i. p i && (not (q i) && d)) ∙ e
