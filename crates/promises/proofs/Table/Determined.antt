-- Each public contract determines what comes back and every lent word: any two results that it allows are equal.
-- `Post` is the contract itself, as the check reads it from the source: of the arguments a, the result and the parameters at exit.
use mathlib.Core.Path.{◌≡◌, sym, ap, ◌∙◌}
use Rattle.table.specs.Copy.{Out}
use Rattle.table.proofs.U8FromAnswer.from.Reads as number
use Rattle.table.proofs.fit.Reads as fit
use Rattle.table.proofs.lawful.Reads as lawful
use Rattle.table.proofs.zero.Reads as zero
use Rattle.table.proofs.close_gap.Reads as close_gap
use Rattle.table.proofs.apply_by.Reads as apply_by
use Rattle.table.proofs.apply.Reads as apply
use Rattle.table.proofs.add.Reads as add
use Rattle.table.proofs.drop.Reads as drop
use Rattle.table.proofs.clear.Reads as clear
use Rattle.table.proofs.look_up_by.Reads as look_up_by
use Rattle.table.proofs.look_up.Reads as look_up
use Rattle.table.proofs.look_up_all.Reads as look_up_all
use Rattle.table.proofs.used.Reads as used
use Rattle.promises.proofs.Contracts.{Determines, DeterminesWords}

-- two outcomes that are both what a rule says have the same answer and the same words
same : {x y o : Out} → x ≡ o → y ≡ o → (x.answer ≡ y.answer) × (x.copy ≡ y.copy)
same h l = (ap (λ (z : Out). z.answer) (h ∙ sym l), ap (λ (z : Out). z.copy) (h ∙ sym l))

number_determined : Determines number.Post
number_determined κs a r q s t h l = h ∙ sym l

fit_determined : Determines fit.Post
fit_determined κs a r q s t h l = h ∙ sym l

lawful_determined : Determines lawful.Post
lawful_determined κs a r q s t h l = h ∙ sym l

zero_determined : (κs : _) (a : _) (r q : _) (s t : _) → zero.Post κs a r s → zero.Post κs a q t → s.0.now ≡ t.0.now
zero_determined κs a r q s t h l = h ∙ sym l

close_gap_determined : (κs : _) (a : _) (r q : _) (s t : _) → close_gap.Post κs a r s → close_gap.Post κs a q t → s.0.now ≡ t.0.now
close_gap_determined κs a r q s t h l = h ∙ sym l

apply_by_determined :
    (κs : _) (a : _) (r q : _) (s t : _) → apply_by.Post κs a r s → apply_by.Post κs a q t → (r ≡ q) × (s.1.0.now ≡ t.1.0.now)
apply_by_determined κs a r q s t h l = same h l

apply_determined : (κs : _) (a : _) (r q : _) (s t : _) → apply.Post κs a r s → apply.Post κs a q t → (r ≡ q) × (s.0.now ≡ t.0.now)
apply_determined κs a r q s t h l = same h l

add_determined : (κs : _) (a : _) (r q : _) (s t : _) → add.Post κs a r s → add.Post κs a q t → (r ≡ q) × (s.0.now ≡ t.0.now)
add_determined κs a r q s t h l = same h l

drop_determined : (κs : _) (a : _) (r q : _) (s t : _) → drop.Post κs a r s → drop.Post κs a q t → (r ≡ q) × (s.0.now ≡ t.0.now)
drop_determined κs a r q s t h l = same h l

clear_determined : (κs : _) (a : _) (r q : _) (s t : _) → clear.Post κs a r s → clear.Post κs a q t → (r ≡ q) × (s.0.now ≡ t.0.now)
clear_determined κs a r q s t h l = same h l

look_up_by_determined : DeterminesWords look_up_by.Post
look_up_by_determined κs a r q s t h l = h ∙ sym l

look_up_determined : DeterminesWords look_up.Post
look_up_determined κs a r q s t h l = h ∙ sym l

look_up_all_determined :
    (κs : _) (a : _) (r q : _) (s t : _) → look_up_all.Post κs a r s → look_up_all.Post κs a q t →
    (r ≡ q) × (s.1.1.0.now ≡ t.1.1.0.now)
look_up_all_determined κs a r q s t h l = same h l

used_determined : DeterminesWords used.Post
used_determined κs a r q s t h l = h ∙ sym l
