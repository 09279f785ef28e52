-- `pauli::sum_into` meets its contract: a row copied whole, and the other added.
use mathlib.Core.Path.{ap, sym, ◌≡◌, ◌∙◌, ap₂}
use mathlib.Core.List.{List}
use Prim.Native.Nat.{ℕ}
use native.Mathlib.Omega.{arith}
use lib.Bits.{bit_xor}
use Rattle.dense_block.specs.Words.{words_of, xors}
use Rattle.dense_block.proofs.Alongs.{copied_whole, length_along, words_xors, value_xors}
use Rattle.dense_block.proofs.Values.{words_of_value}
use Rattle.pauli.proofs.sum_into.Goals as goal

pub returns : goal.returns
returns c =
    let a = c.args in
    let sum : c.xor_assign.new.dst ≡ xors a.a.now a.b.now =
    c.xor_assign.ensures ∙ ap (λ (l : List ℕ). xors l a.b.now) (c.copy.ensures ∙ copied_whole a.out.now a.a.now (sym c.requires.0)) in
    let words = words_xors a.a.now a.b.now (λ k. (c.type_inv.a k).fits) (λ k. (c.type_inv.b k).fits) in
    sum ∙ sym (words_of_value (xors a.a.now a.b.now) words)
    ∙ ap₂ words_of (length_along bit_xor a.a.now a.b.now ∙ c.requires.0)
    (value_xors a.a.now a.b.now (omega (arith, c.requires)) (λ k. (c.type_inv.a k).fits) (λ k. (c.type_inv.b k).fits))
