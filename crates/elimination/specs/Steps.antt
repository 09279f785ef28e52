-- For the private functions, and needs no belief: what single steps make of rows in a room of words.
use Rattle.std.specs.Prelude.{ℕ, ◌+◌, ◌≤◌, ◌<◌, ◌≡◌, ◌≢◌, Bool, List, eqb, length, get_or}
use Rattle.std.specs.Int.Bits.{bit_xor}
use Rattle.refusal.specs.Search.{some_below}

-- one of k rows is zero
unfoldable pub zero_among : ℕ → (ℕ → ℕ) → Bool
zero_among k g = some_below k (λ r. eqb (g r) 0)

-- n words from the word `from` on are added to those from the word `to` on; every other word stays
pub record Added (from to n : ℕ) (ws vs : List ℕ) : Type 0 where
  pub at : (i : ℕ) → i < n → get_or vs (to + i) 0 ≡ bit_xor (get_or ws (to + i) 0) (get_or ws (from + i) 0)
  pub other : (j : ℕ) → ((i : ℕ) → i < n → j ≢ to + i) → get_or vs j 0 ≡ get_or ws j 0
  pub long : length vs ≡ length ws

-- the words past the first `size` stay
pub record Same (size : ℕ) (ws vs : List ℕ) : Type 0 where
  pub long : length vs ≡ length ws
  pub behind : (j : ℕ) → size ≤ j → get_or vs j 0 ≡ get_or ws j 0
