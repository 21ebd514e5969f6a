-- What a search comes to: the key's pair, or none.
use Rattle.std.specs.Prelude.{ℕ, List, ◌≡◌, ◌≤◌, ◌<◌, true, false}
use Rattle.table.specs.declared.Search.{Search}
use Rattle.table.specs.Copy.{entries, has_key, find_by}

-- pair i, where the search ends, has the key
pub record Found (how : Search) (key : ℕ) (w : List ℕ) (i : ℕ) : Type 0 where
  pub at : i ≡ find_by how key w
  pub used : i < entries w
  pub has : has_key key w i ≡ true

-- the search ends at i, and the key has no pair there
pub record Missing (how : Search) (key : ℕ) (w : List ℕ) (i : ℕ) : Type 0 where
  pub at : i ≡ find_by how key w
  pub upto : i ≤ entries w
  pub none : has_key key w i ≡ false
