-- Which slots of a flatpack are filled, from bytes: any byte but 0 says so.
use Rattle.std.specs.Prelude.{ℕ, ◌*◌, min, List, map, Bool, not, eqb, take}

abbrev pub flag : ℕ → Bool
flag b = not (eqb b 0)

-- The flags of n entries, three an entry, and of 256 entries, which have 768, if there are more. These are enough: more than 256 entries are refused by 1 before a flag is
-- looked at, and no byte behind the slots ever is
unfoldable pub flags : ℕ → List ℕ → List Bool
flags n bytes = map flag (take (3 * min n 256) bytes)
