-- What a computed witness opens.
use Rattle.table.specs.Seek.{seek}
use Rattle.format.specs.Schedule.{members_at, bad_at, flaw_in, flaw_of}
use Rattle.format.specs.Transcript.{entries_of, put_rule}

unfoldable pub rules : Type 0
unfolding seek members_at bad_at flaw_in flaw_of entries_of put_rule
rules = Unit {0}
