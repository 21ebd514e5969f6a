-- Which slot a create hands out, after any history.
use Rattle.std.specs.Prelude.{◌<◌, ◌≡◌, true, false, List}
use Rattle.read.specs.Machine.{slot_count}
use Rattle.write.specs.Call.{Call, Create}
use Rattle.write.specs.World.{Machine, reply, answer_of, value_of}
use Rattle.demands.specs.Table.{lock_held, all_in_use, next_slot}
use Rattle.demands.specs.Demands.{told}

pub record Reuse (m : Machine) : Type 0 where
  -- a create is answered 0 where a slot and the lock are free
  pub made : (ks : List Call) → let t = told m ks in
      all_in_use t.account ≡ false → lock_held t.account ≡ false → answer_of (reply m Create t.world) ≡ 0
  -- one that is answered 0 hands out the slot freed last and not handed out since; where there is none, the lowest number never used
  pub hands_out : (ks : List Call) → let t = told m ks in let o = reply m Create t.world in
      answer_of o ≡ 0 → value_of o ≡ next_slot t.account
  -- that is a slot, and no handle lives in it
  pub vacant : (ks : List Call) → let t = told m ks in let o = reply m Create t.world in
      answer_of o ≡ 0 → (value_of o < slot_count) × ((t.account.readers (value_of o)).lives ≡ false)
  -- one is answered 12 where all slots are in use and the lock is free, and nowhere else
  pub full : (ks : List Call) → let t = told m ks in
      all_in_use t.account ≡ true → lock_held t.account ≡ false → answer_of (reply m Create t.world) ≡ 12
  pub only_full : (ks : List Call) → let t = told m ks in
      answer_of (reply m Create t.world) ≡ 12 → (all_in_use t.account ≡ true) × (lock_held t.account ≡ false)
