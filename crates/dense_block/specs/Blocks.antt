-- Rows laid one after another, row k from word k * w on, and numbers one after another.
use Rattle.std.specs.Prelude.{ℕ, zero, suc, ◌*◌, ◌/◌, ◌%◌, ◌^◌, List, [], ◌∷◌, ◌++◌, drop}
use Rattle.dense_block.specs.Words.{words_of}

-- word k of a number
abbrev pub word_at : ℕ → ℕ → ℕ
word_at v k = v / 2 ^ (64 * k) % 2 ^ 64

-- the rows f 0 to f (m - 1), each in w words
abbrev pub rows_of : ℕ → (ℕ → ℕ) → ℕ → List ℕ
rows_of w f zero = []
rows_of w f (suc m) = rows_of w f m ++ words_of w (f m)

-- the same in the first words of a slice; those past them stay
abbrev pub laid : ℕ → (ℕ → ℕ) → ℕ → List ℕ → List ℕ
laid w f m ws = rows_of w f m ++ drop (m * w) ws

-- the numbers f 0 to f (m - 1)
abbrev pub numbers_of : (ℕ → ℕ) → ℕ → List ℕ
numbers_of f zero = []
numbers_of f (suc m) = numbers_of f m ++ (f m ∷ [])

-- the same in the first places of a slice; those past them stay
abbrev pub listed : (ℕ → ℕ) → ℕ → List ℕ → List ℕ
listed f m ns = numbers_of f m ++ drop m ns
