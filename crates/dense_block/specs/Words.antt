-- A bit row packed into 64 bit words is the number that the words stand for, the lowest word first. What each function makes of words.
use Rattle.std.specs.Prelude.{ℕ, zero, suc, ◌+◌, ◌-◌, ◌*◌, ◌/◌, ◌%◌, ◌^◌, Bool, true, false, ◌&&◌, List, [], ◌∷◌, ◌++◌, take, drop, ◌==◌, bit_and, bit_xor, nat_lt, slice_index, slice_set}
use Rattle.refusal.specs.Search.{some_below}
use Rattle.algebra.specs.Rows.{bit, dot}

-- the number of a row: column j, bit j mod 64 of word j / 64, is its binary digit j
abbrev pub value : List ℕ → ℕ
value [] = 0
value (w ∷ ws) = w + 2 ^ 64 * value ws

-- the w lowest words of a number
abbrev pub words_of : ℕ → ℕ → List ℕ
words_of zero v = []
words_of (suc w) v = v % 2 ^ 64 ∷ words_of w (v / 2 ^ 64)

-- the number v in the first w words; those past them stay
abbrev pub filled : ℕ → ℕ → List ℕ → List ℕ
filled w v ws = words_of w v ++ drop w ws

-- ceil(q / 64)
abbrev pub words_for : ℕ → ℕ
words_for q = (q + 63) / 64

-- column j is set
unfoldable pub column : List ℕ → ℕ → Bool
column ws j = bit (value ws) j == 1

abbrev pub digit : Bool → ℕ
digit true = 1
digit false = 0

-- x with its digit k made `on`
unfoldable pub put_bit : ℕ → ℕ → Bool → ℕ
put_bit x k on = x - bit x k * 2 ^ k + digit on * 2 ^ k

-- column j made `on`; past the end `set` changes nothing
unfoldable pub put : List ℕ → ℕ → Bool → List ℕ
put ws j on = slice_set ws (j / 64) (put_bit (slice_index ws (j / 64)) (j % 64) on)

-- ds changed by f along ss, over the shorter length
abbrev pub along : (ℕ → ℕ → ℕ) → List ℕ → List ℕ → List ℕ
along f [] ss = []
along f (d ∷ ds) [] = d ∷ ds
along f (d ∷ ds) (s ∷ ss) = f d s ∷ along f ds ss

abbrev pub xors : List ℕ → List ℕ → List ℕ
xors ds ss = along bit_xor ds ss

abbrev pub copied : List ℕ → List ℕ → List ℕ
copied ds ss = along (λ d s. s) ds ss

-- the common ones of two rows, word by word, folded into one word by xor, over the shorter length
abbrev pub folded : List ℕ → List ℕ → ℕ
folded [] ys = 0
folded (x ∷ xs) [] = 0
folded (x ∷ xs) (y ∷ ys) = bit_xor (bit_and x y) (folded xs ys)

-- the number of common ones is odd
unfoldable pub odd : List ℕ → List ℕ → Bool
odd xs ys = dot (value xs) (value ys) == 1

-- the first n words made 0
abbrev pub zeroed : ℕ → List ℕ → List ℕ
zeroed zero ws = ws
zeroed (suc n) [] = []
zeroed (suc n) (w ∷ ws) = 0 ∷ zeroed n ws

-- the same words, and as many
abbrev pub alike : List ℕ → List ℕ → Bool
alike [] [] = true
alike [] (y ∷ ys) = false
alike (x ∷ xs) [] = false
alike (x ∷ xs) (y ∷ ys) = x == y && alike xs ys

-- a column at or above q is set: what is left above q columns is not 0
unfoldable pub strays : List ℕ → ℕ → Bool
strays ws q = nat_lt 0 (value ws / 2 ^ q)

-- row `term` of a block of rows of `width` words
abbrev pub term_of : ℕ → List ℕ → ℕ → List ℕ
term_of width ws term = take width (drop (term * width) ws)

-- one of the first n rows of a block has a column at or above q set
unfoldable pub strays_in : ℕ → List ℕ → ℕ → ℕ → Bool
strays_in width ws n q = some_below n (λ k. strays (term_of width ws k) q)

-- the block with that row made ys
abbrev pub with_term : ℕ → List ℕ → ℕ → List ℕ → List ℕ
with_term width ws term ys = take (term * width) ws ++ (ys ++ drop width (drop (term * width) ws))
