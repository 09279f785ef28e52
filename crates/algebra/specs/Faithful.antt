-- What is claimed of an encoding: occupation lists and the strings that they encode to stand for one another.
use Rattle.std.specs.Prelude.{ℕ, ◌^◌, ◌<◌, ◌≡◌, ◌≢◌, ◌↔◌}
use Rattle.algebra.specs.Rows.{dot}
use Rattle.algebra.specs.Modes.{Modes, c, e}
use Rattle.algebra.specs.Coding.{encode, done, decode, found, foreign}

pub record Faithful (m : Modes) (v : ℕ) : Type 0 where
  -- e and c are dual
  pub dual_same : (i : ℕ) → i < m.n → dot (e m i) (c m i) ≡ 1
  pub dual_other : (i j : ℕ) → i < m.n → j < m.n → i ≢ j → dot (e m i) (c m j) ≡ 0
  -- every occupation list encodes
  pub encodes : (l : ℕ) → l < 2 ^ m.n → (s : ℕ) × (f : ℕ) × (encode m v l ≡ done s f)
  -- no two share a string
  pub apart : (l l' s f f' : ℕ) → l < 2 ^ m.n → l' < 2 ^ m.n → encode m v l ≡ done s f → encode m v l' ≡ done s f' → l ≡ l'
  -- decoding gives the list back
  pub back : (l s f : ℕ) → l < 2 ^ m.n → encode m v l ≡ done s f → decode m v s ≡ found l
  -- a list that decoding finds encodes to the string
  pub from : (l s : ℕ) → decode m v s ≡ found l → (l < 2 ^ m.n) × ((f : ℕ) × (encode m v l ≡ done s f))
  -- a string is refused exactly if no list encodes to it
  pub refuses : (s : ℕ) → (decode m v s ≡ foreign) ↔ ((l f : ℕ) → l < 2 ^ m.n → encode m v l ≢ done s f)
