-- What speaks against the call decides.
use Rattle.write.proofs.Made.{append_fits, append_admitted, append_refused}
use Rattle.write.proofs.begins.append.Goals as goal

pub appended-requires : goal.appended-requires
appended-requires g c =
    let a = c.args in
    append_fits (g.B.Operations.listed a.ops) a.part.control a.part.slot c.are_lawful-unlawful.ensures c.how_many.ensures c.crowds-full.ensures c.writer_verdict.ensures c.in-Ok.is

pub returns-in-Ok : goal.returns-in-Ok
returns-in-Ok g c = search append_admitted

pub returns-in-Err : goal.returns-in-Err
returns-in-Err g c = search append_refused
