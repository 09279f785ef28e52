-- A tree's number: its refusal, and the tree that is built, told.
use Prim.Native.Nat.{ℕ, ◌≤◌, ◌<◌}
use native.Mathlib.Omega.{arith}
use mathlib.Core.Path.{◌≡◌, refl, subst}
use Rattle.std.specs.Prelude.{Err}
use Rattle.refusal.specs.Numbers.{Answer}
use Rattle.refusal.specs.declared.Refusal.TheVariants.{Size}
use Rattle.trees.specs.declared.Named.{Named}
use Rattle.ternarytree.specs.Building.{asked, NamedBuilt}
use Rattle.exports.specs.declared.told.RopethistleAnswer.{RopethistleAnswer}
use Rattle.exports.specs.Behind.{answer_told, Tells, named_by, Slices, NumberBuilt}

pub number_refused : (tree n q : ℕ) (old : Slices) (r : RopethistleAnswer) → 3 < tree → r ≡ answer_told (Err Size) → Tells answer_told (λ a. NumberBuilt tree n q old a old) r
number_refused tree n q old r h e = record {
  behind = Err Size;
  stands = e;
  holds = record { named = λ (k : tree ≤ 3). absurd (omega (arith, h, k)); other = λ k. (refl, refl) };
}

pub number_built : (tree n q : ℕ) (old new : Slices) (a : Answer) (r : RopethistleAnswer) (t : Named) → tree ≤ 3 → t ≡ named_by tree
    → NamedBuilt (asked t n q old.xs old.zs old.ps old.vs old.room) a new.xs new.zs new.ps new.vs new.room
    → r ≡ answer_told a → Tells answer_told (λ b. NumberBuilt tree n q old b new) r
number_built tree n q old new a r t h e built f = record {
  behind = a;
  stands = f;
  holds = record {
    named = λ (k : tree ≤ 3). subst (λ (u : Named). NamedBuilt (asked u n q old.xs old.zs old.ps old.vs old.room) a new.xs new.zs new.ps new.vs new.room) e built;
    other = λ (k : 3 < tree). absurd (omega (arith, h, k));
  };
}
