-- Values placed one after another from the front of a slice, one more; and the numbers of the table as a flatpack's.
use Prim.Native.Nat.{ℕ, zero, suc, ◌+◌, ◌*◌, min, max}
use native.Mathlib.Numerals.{add-one}
use mathlib.Core.Path.{◌≡◌, refl, ◌∙◌}
use mathlib.Core.List.{List}
use lib.ListN.{length, get_or, set, length-set}
use Rattle.flatpack_text.specs.Entries.{placed, used}

pub length_placed : {A : Type 0} (f : ℕ → A) (n : ℕ) (d : List A) → length (placed f n d) ≡ length d
length_placed f zero d = refl
length_placed f (suc k) d = length-set (placed f k d) k (f k) ∙ length_placed f k d

-- one more
pub placed_next : {A : Type 0} (f : ℕ → A) (d : List A) {e r : List A} (i : ℕ) {v : A} → e ≡ placed f i d → v ≡ f i → r ≡ set e i v → r ≡ placed f (i + 1) d
placed_next f d i p q h = rw (h, p, q, add-one i)

pub used_next : (table : List ℕ) (i : ℕ) {top q r : ℕ} → top ≡ used table i → q ≡ get_or table (4 * i) 0 → r ≡ max top (min q 256 + 1) → r ≡ used table (i + 1)
unfolding used
used_next table i p q h = rw (h, p, q, add-one i)
