-- Each public contract determines what comes back and every byte of the output: any two results that it allows are equal.
-- `Post` is the contract itself, as the check reads it from the source: of the arguments a, the result and the parameters at exit.
use mathlib.Core.Path.{◌≡◌, sym, ◌∙◌}
use Rattle.promises.proofs.Contracts.{Determines}
use Rattle.format.proofs.count.Reads as count
use Rattle.format.proofs.fields_at.Reads as fields_at
use Rattle.format.proofs.check.Reads as check
use Rattle.format.proofs.Fields.members.Reads as members
use Rattle.format.proofs.U64FromFault.from.Reads as fault_number
use Rattle.format.proofs.FaultFromFlaw.from.Reads as fault_of
use Rattle.format.proofs.put.Reads as put

count_determined : Determines count.Post
count_determined κs a r q s t h l = h ∙ sym l

fields_at_determined : Determines fields_at.Post
fields_at_determined κs a r q s t h l = h ∙ sym l

members_determined : Determines members.Post
members_determined κs a r q s t h l = h ∙ sym l

fault_number_determined : Determines fault_number.Post
fault_number_determined κs a r q s t h l = h ∙ sym l

fault_of_determined : Determines fault_of.Post
fault_of_determined κs a r q s t h l = h ∙ sym l

check_determined : Determines check.Post
check_determined κs a r q s t h l = h ∙ sym l

put_determined : (κs : _) (a : _) (r q : _) (s t : _) → put.Post κs a r s → put.Post κs a q t → s.0.now ≡ t.0.now
put_determined κs a r q s t h l = h ∙ sym l
