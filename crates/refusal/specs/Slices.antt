-- Lent slices as the code has them, for the definition of what 2 refuses.
use Rattle.std.specs.Prelude.{List, [], ◌∷◌}
use Rattle.refusal.specs.declared.Lent.{Lent}
use Rattle.refusal.specs.Table as table
use Rattle.refusal.specs.Table.{◌of◌}

abbrev pub lengths : List Lent → List table.Lent
lengths [] = []
lengths (l ∷ rest) = (l.0 of l.1) ∷ lengths rest
