-- `flatpack_text::read::finish` meets its contract: well formed if no field is ended and none is begun.
use native.Mathlib.Omega.{arith}
use mathlib.Core.Path.{◌≡◌, sym, ap, ◌∙◌}
use Rattle.flatpack_text.specs.declared.read.Field.TheVariants.{Nothing}
use Rattle.flatpack_text.specs.declared.read.State.{State}
use Rattle.flatpack_text.specs.Moves.{finished}
use Rattle.flatpack_text.proofs.Moves.{faulty, fault_at, not_first}
use Rattle.flatpack_text.proofs.Reading.{answers}
use Rattle.flatpack_text.proofs.read.finish.Goals.{in_default-via-in-0+in_default, in_default-via-in_default}
use Rattle.flatpack_text.proofs.read.finish.Goals as goal

pub returns-in-0-Nothing : goal.returns-in-0-Nothing
unfolding finished
returns-in-0-Nothing c =
    let none : c.args.s.fields ≡ 0 = omega (arith, c.in-0-Nothing.is-0) in
    answers c.args.s _ (rw (none, c.in-0-Nothing.is-1))

-- a line is begun
is_faulty : (s : State) → (s.fields ≡ 0 → s.field ≡ Nothing → ⊥) → faulty s.entries ≡ finished s
unfolding finished
is_faulty s h = sym (not_first s.fields s.field s.entries h)

pub returns-in_default : goal.returns-in_default
returns-in_default c =
    answers c.args.s _ (
    ap fault_at c.count_on.ensures
    ∙ elim c.in_default.branch [ in_default-via-in-0+in_default w ↦ is_faulty c.args.s (λ k f. w.in_default.not-Nothing-1 f) | in_default-via-in_default w ↦ is_faulty c.args.s (λ k f. w.in_default.is-0.1 (omega (arith, k))) ])
