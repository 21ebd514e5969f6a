-- What a computed witness opens.
use Rattle.write.proofs.Computes.{rules as write_rules}
use Rattle.write.specs.World.{played}
use Rattle.format.proofs.Computes.{rules as format_rules}
use Rattle.play.specs.Schedule.{decoded}
use Rattle.play.specs.Player.{play_rule}

unfoldable pub rules : Type 0
unfolding write_rules format_rules played play_rule decoded
rules = Unit {0}
