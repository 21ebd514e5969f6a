-- The public contract determines what comes back and every byte of the output: any two results that it allows are equal.
-- `Post` is the contract itself, as the check reads it from the source: of the arguments a, the result and the parameters at exit.
use mathlib.Core.Path.{◌≡◌, sym, ap, ◌∙◌}
use Rattle.play.specs.Player.{Output}
use Rattle.play.proofs.lrt_play.Reads as lrt_play

-- what comes back, and the whole output
lrt_play_determined :
    (κs : _) (a : _) (r q : _) (s t : _) → lrt_play.Post κs a r s → lrt_play.Post κs a q t →
    (r ≡ q) × (s.1.0.now ≡ t.1.0.now)
lrt_play_determined κs a r q s t h l =
    (ap (λ (z : Output). z.result) (h ∙ sym l), ap (λ (z : Output). z.bytes) (h ∙ sym l))
