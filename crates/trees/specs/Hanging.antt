-- What refusal 8 means: all nodes hang from one root.
use Rattle.std.specs.Prelude.{ℕ, ◌/◌, ◌<◌, ◌≡◌}
use Rattle.refusal.specs.Search.{found, none}
use Rattle.trees.specs.Trees.{Tree, up}

-- node i is node r, or its parent hangs from r
pub data Hangs (t : Tree) (r : ℕ) : ℕ → Type 0 where
  itself : {i : ℕ} → i ≡ r → Hangs t r i
  below : {i k : ℕ} → up t i ≡ found k → Hangs t r (k / 3) → Hangs t r i

pub record OneRoot (t : Tree) : Type 0 where
  pub root : ℕ
  pub node : root < t.n
  pub parentless : up t root ≡ none
  pub all_hang : (i : ℕ) → i < t.n → Hangs t root i
