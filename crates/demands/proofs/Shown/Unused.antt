-- The words of the log behind its operations stay zero.
use Prim.Native.Nat.{ℕ, suc, ◌+◌, ◌-◌, ◌*◌, ◌≤◌, ◌<◌}
use mathlib.Core.Path.{◌≡◌, ◌∙◌}
use mathlib.Core.List.{List, [], ◌∷◌}
use native.Mathlib.Omega.{arith}
use lib.ListN.{length, get_or, set}
use lib.Seq.{get_or-set_other}
use borrow.Author.Tests.{le-leb}
use Rattle.table.specs.Copy.{closed}
use Rattle.table.specs.Order.{Op}
use Rattle.table.proofs.Split.{under}
use Rattle.table.proofs.Cases.{close_room}
use Rattle.table.proofs.CopyWords.{closed_left, closed_behind}
use Rattle.read.specs.Machine.{log_room, log_words}
use Rattle.write.specs.Steps.{unlogged}
use Rattle.write.specs.Begins.{logged, logged_all}
use Rattle.demands.proofs.Shown.Invariant.{ClearLog}

clear_logged : (n kind key amount : ℕ) (g : List ℕ) → ClearLog n g → ClearLog (suc n) (logged n kind key amount g)
clear_logged n kind key amount g c x b =
    get_or-set_other (set (set g (3 * n) kind) (3 * n + 1) key) (3 * n + 2) x amount 0 (omega arith)
    ∙ get_or-set_other (set g (3 * n) kind) (3 * n + 1) x key 0 (omega arith)
    ∙ get_or-set_other g (3 * n) x kind 0 (omega arith)
    ∙ c x (omega arith)

pub clear_logged_all : (os : List Op) (n : ℕ) (g : List ℕ) → ClearLog n g → ClearLog (n + length os) (logged_all n os g)
clear_logged_all [] n g c x b = c x (omega arith)
clear_logged_all (o ∷ os) n g c x b =
    clear_logged_all os (suc n) (logged n o.kind o.key o.amount g) (clear_logged n o.kind o.key o.amount g c) x (omega arith)

-- where the words behind those that move down are zero, all behind them is zero afterwards
closed_zero :
    (d m : ℕ) (g : List ℕ) → d + m ≤ length g → ((x : ℕ) → d + m ≤ x → get_or g x 0 ≡ 0) → (x : ℕ) → m ≤ x → get_or (closed d m g) x 0 ≡ 0
closed_zero d m g h c x b =
    under x (d + m) (λ l. closed_left d m g h x b l) (λ l. closed_behind d m g h x l ∙ c x l)

pub clear_unlogged : (n : ℕ) (g : List ℕ) → 0 < n → n ≤ log_room → length g ≡ log_words → ClearLog n g → ClearLog (n - 1) (unlogged n g)
clear_unlogged n g some room sized c x b =
    rw (le-leb n log_room room, unlogged, close_room 3 (3 * (n - 1)) g (omega arith))
    (closed_zero 3 (3 * (n - 1)) g (omega arith) (λ y h. c y (omega arith)) x b)
