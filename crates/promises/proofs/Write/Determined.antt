-- Each public contract determines what comes back and every lent word: any two results that it allows are equal.
-- `Post` is the contract itself, as the check reads it from the source: of the arguments a, the result and the parameters at exit.
use mathlib.Core.Path.{◌≡◌, sym, ap, ◌∙◌}
use mathlib.Core.List.{List}
use Prim.Native.Nat.{ℕ}
use Rattle.read.specs.Calls.{Lent, lent}
use Rattle.machine.proofs.extend.Reads as extend
use Rattle.machine.proofs.append.Reads as append
use Rattle.machine.proofs.step.Reads as step
use Rattle.machine.proofs.run.Reads as run
use Rattle.machine.proofs.publish.Reads as publish
use Rattle.machine.proofs.try_publish.Reads as try_publish
use Rattle.machine.proofs.flush.Reads as flush
use Rattle.machine.proofs.take.Reads as take
use Rattle.write.proofs.begins.extend_by.Reads as extend_by
use Rattle.write.proofs.begins.append_by.Reads as append_by
use Rattle.write.proofs.begins.open_on.Reads as open_on
use Rattle.write.proofs.steps.advance_by.Reads as advance_by
use Rattle.write.proofs.steps.holds.Reads as holds
use Rattle.write.proofs.steps.place.Reads as place
use Rattle.write.proofs.phases.underway.Reads as underway
use Rattle.write.proofs.phases.at.Reads as at
use Rattle.write.proofs.phases.polling.Reads as polling
use Rattle.write.proofs.phases.last_polling.Reads as last_polling
use Rattle.write.proofs.begins.step_verdict.Reads as step_verdict
use Rattle.promises.proofs.Contracts.{Determines}
use Rattle.table.specs.declared.Search.TheVariants.{Walk}

-- two outcomes that are both what a rule says
same :
    {A : Type 0} {x y : A} {l m r q g h : List ℕ} {o : Lent A} → lent x l r g ≡ o → lent y m q h ≡ o →
    (x ≡ y) × (l ≡ m) × (r ≡ q) × (g ≡ h)
same {A} a b = (
  ap (λ (o : Lent A). o.made) (a ∙ sym b),
  ap (λ (o : Lent A). o.left) (a ∙ sym b),
  ap (λ (o : Lent A). o.right) (a ∙ sym b),
  ap (λ (o : Lent A). o.log) (a ∙ sym b),
)

made_same : {A : Type 0} {x y : A} {l r g : List ℕ} {o : Lent A} → lent x l r g ≡ o → lent y l r g ≡ o → x ≡ y
made_same a b = (same a b).0

extend_determined :
    (κs : _) (a : _) (r q : _) (s t : _) → extend.Post κs a r s → extend.Post κs a q t →
    (r ≡ q) × (s.1.1.0.now ≡ t.1.1.0.now) × (s.1.1.1.0.now ≡ t.1.1.1.0.now) × (s.1.1.1.1.0.now ≡ t.1.1.1.1.0.now)
extend_determined κs a r q s t h l = same h l

append_determined :
    (κs : _) (a : _) (r q : _) (s t : _) → append.Post κs a r s → append.Post κs a q t →
    (r ≡ q) × (s.1.1.1.1.0.now ≡ t.1.1.1.1.0.now) × (s.1.1.1.1.1.0.now ≡ t.1.1.1.1.1.0.now) × (s.1.1.1.1.1.1.0.now ≡ t.1.1.1.1.1.1.0.now)
append_determined κs a r q s t h l = same h l

step_determined :
    (κs : _) (a : _) (r q : _) (s t : _) → step.Post κs a r s → step.Post κs a q t →
    (r ≡ q) × (s.1.0.now ≡ t.1.0.now) × (s.1.1.0.now ≡ t.1.1.0.now) × (s.1.1.1.0.now ≡ t.1.1.1.0.now)
step_determined κs a r q s t h l = same h l

run_determined :
    (κs : _) (a : _) (r q : _) (s t : _) → run.Post κs a r s → run.Post κs a q t →
    (r ≡ q) × (s.1.0.now ≡ t.1.0.now) × (s.1.1.0.now ≡ t.1.1.0.now) × (s.1.1.1.0.now ≡ t.1.1.1.0.now)
run_determined κs a r q s t h l = same h l

publish_determined : Determines publish.Post
publish_determined κs a r q s t h l = made_same h l

try_publish_determined : Determines try_publish.Post
try_publish_determined κs a r q s t h l = made_same h l

flush_determined : Determines flush.Post
flush_determined κs a r q s t h l = made_same h l

take_determined : Determines take.Post
take_determined κs a r q s t h l = made_same h l

extend_by_determined :
    (κs : _) (a : _) (r q : _) (s t : _) → extend_by.Post κs a r s → extend_by.Post κs a q t →
    (r ≡ q) × (s.1.1.1.1.1.0.now ≡ t.1.1.1.1.1.0.now) × (s.1.1.1.1.1.1.0.now ≡ t.1.1.1.1.1.1.0.now) × (s.1.1.1.1.1.1.1.0.now ≡ t.1.1.1.1.1.1.1.0.now)
extend_by_determined κs a r q s t h l = same h l

extend_on_determined :
    (κs : _) (a : _) (r q : _) (s t : _) → extend_by.Post κs (Walk, a) r s → extend_by.Post κs (Walk, a) q t →
    (r ≡ q) × (s.1.1.1.1.1.0.now ≡ t.1.1.1.1.1.0.now) × (s.1.1.1.1.1.1.0.now ≡ t.1.1.1.1.1.1.0.now) × (s.1.1.1.1.1.1.1.0.now ≡ t.1.1.1.1.1.1.1.0.now)
extend_on_determined κs a = extend_by_determined κs (Walk, a)

append_by_determined :
    (κs : _) (a : _) (r q : _) (s t : _) → append_by.Post κs a r s → append_by.Post κs a q t →
    (r ≡ q) × (s.1.1.1.1.1.1.1.0.now ≡ t.1.1.1.1.1.1.1.0.now) × (s.1.1.1.1.1.1.1.1.0.now ≡ t.1.1.1.1.1.1.1.1.0.now) × (s.1.1.1.1.1.1.1.1.1.0.now ≡ t.1.1.1.1.1.1.1.1.1.0.now)
append_by_determined κs a r q s t h l = same h l

append_on_determined :
    (κs : _) (a : _) (r q : _) (s t : _) → append_by.Post κs (Walk, a) r s → append_by.Post κs (Walk, a) q t →
    (r ≡ q) × (s.1.1.1.1.1.1.1.0.now ≡ t.1.1.1.1.1.1.1.0.now) × (s.1.1.1.1.1.1.1.1.0.now ≡ t.1.1.1.1.1.1.1.1.0.now) × (s.1.1.1.1.1.1.1.1.1.0.now ≡ t.1.1.1.1.1.1.1.1.1.0.now)
append_on_determined κs a = append_by_determined κs (Walk, a)

advance_by_determined :
    (κs : _) (a : _) (r q : _) (s t : _) → advance_by.Post κs a r s → advance_by.Post κs a q t →
    (r ≡ q) × (s.1.1.1.1.0.now ≡ t.1.1.1.1.0.now) × (s.1.1.1.1.1.0.now ≡ t.1.1.1.1.1.0.now) × (s.1.1.1.1.1.1.0.now ≡ t.1.1.1.1.1.1.0.now)
advance_by_determined κs a r q s t h l = same h l

advance_determined :
    (κs : _) (a : _) (r q : _) (s t : _) → advance_by.Post κs (Walk, a) r s → advance_by.Post κs (Walk, a) q t →
    (r ≡ q) × (s.1.1.1.1.0.now ≡ t.1.1.1.1.0.now) × (s.1.1.1.1.1.0.now ≡ t.1.1.1.1.1.0.now) × (s.1.1.1.1.1.1.0.now ≡ t.1.1.1.1.1.1.0.now)
advance_determined κs a = advance_by_determined κs (Walk, a)

open_on_determined : Determines open_on.Post
open_on_determined κs a r q s t h l = h ∙ sym l

holds_determined : Determines holds.Post
holds_determined κs a r q s t h l = h ∙ sym l

place_determined : Determines place.Post
place_determined κs a r q s t h l = h ∙ sym l

underway_determined : Determines underway.Post
underway_determined κs a r q s t h l = h ∙ sym l

at_determined : Determines at.Post
at_determined κs a r q s t h l = h ∙ sym l

polling_determined : Determines polling.Post
polling_determined κs a r q s t h l = h ∙ sym l

last_polling_determined : Determines last_polling.Post
last_polling_determined κs a r q s t h l = h ∙ sym l

step_verdict_determined : Determines step_verdict.Post
step_verdict_determined κs a r q s t h l = h ∙ sym l
