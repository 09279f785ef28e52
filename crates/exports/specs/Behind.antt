-- The structs of numbers that stand for answers, and what an exported function promises by them.
use Rattle.std.specs.Prelude.{ℕ, zero, suc, ◌≤◌, ◌<◌, ◌≡◌, List, Float, Result}
use Rattle.refusal.specs.Numbers.{Answer, bare, answered}
use Rattle.refusal.specs.declared.Refusal.{Refusal}
use Rattle.dense_block.specs.Words.{digit}
use Rattle.pauli.specs.declared.Phase.{Phase}
use Rattle.pauli.specs.declared.Coefficient.{Coefficient}
use Rattle.pauli.specs.declared.Meeting.{Meeting}
use Rattle.pauli.specs.declared.Marked.{Marked}
use Rattle.pauli.specs.declared.Marked.TheVariants.{Real, Imag}
use Rattle.pauli.specs.Product.{product_paper}
use Rattle.majorana.specs.Codes.{encoded_paper}
use Rattle.products.specs.Products.{multiplied_paper, real_paper}
use Rattle.trees.specs.declared.Named.{Named}
use Rattle.trees.specs.declared.Named.TheVariants.{JordanWigner, Parity, BravyiKitaev, Jkmn}
use Rattle.ternarytree.specs.Building.{NamedBuilt, asked}
use Rattle.exports.specs.declared.told.RopethistleAnswer.{RopethistleAnswer}
use Rattle.exports.specs.declared.told.RopethistlePhase.{RopethistlePhase}
use Rattle.exports.specs.declared.told.RopethistleMultiplied.{RopethistleMultiplied}
use Rattle.exports.specs.declared.told.RopethistleProduct.{RopethistleProduct}
use Rattle.exports.specs.declared.told.RopethistleRealProduct.{RopethistleRealProduct}

-- r stands for an answer that meets P, the contract of the call behind; `told` makes the struct of an answer
pub record Tells {A C : Type 0} (told : A → C) (P : A → Type 0) (r : C) : Type 0 where
  pub behind : A
  pub stands : r ≡ told behind
  pub holds : P behind

-- a contract leaves one outcome. P e is that of the call behind, e being what the slices lent for writing hold at exit: two structs that tell of it, with what is left in the
-- slices, are equal
abbrev pub OneOutcome : {A C E : Type 0} → (A → C) → (E → A → Type 0) → Type 0
OneOutcome {A} {C} {E} told P = (d e : E) (r s : C) → Tells told (P d) r → Tells told (P e) s → (d ≡ e) × (r ≡ s)

-- the number of an answer, and the pair of 10
abbrev pub answer_told : Answer → RopethistleAnswer
answer_told a = record { number = (answered a).number; first = (answered a).first; second = (answered a).second }

abbrev pub encoded_told : Result Phase Refusal → RopethistlePhase
encoded_told e = record { number = (encoded_paper e).told.number; phase = (encoded_paper e).phase }

-- 1 if the two rows commute, and 0 if they do not or the product is refused
abbrev pub product_told : Result Meeting Refusal → RopethistleMultiplied
product_told p = record { number = (product_paper p).told.number; phase = (product_paper p).phase; commute = digit (product_paper p).commute }

abbrev pub multiplied_told : Result (Phase × Coefficient) Refusal → RopethistleProduct
multiplied_told m = record { number = (multiplied_paper m).told.number; phase = (multiplied_paper m).phase; re = (multiplied_paper m).coefficient.re; im = (multiplied_paper m).coefficient.im }

-- a marked number: 0 real, 1 imaginary
abbrev pub mark : Marked → ℕ
mark (Real x) = 0
mark (Imag x) = 1

abbrev pub value : Marked → Float
value (Real x) = x
value (Imag x) = x

abbrev pub real_told : Result (Phase × Marked) Refusal → RopethistleRealProduct
real_told m = record { number = (real_paper m).told.number; phase = (real_paper m).phase; imaginary = mark (real_paper m).coefficient; value = value (real_paper m).coefficient }

-- ---- a named tree, given by a number

-- 0 Jordan-Wigner, 1 parity, 2 Bravyi-Kitaev, 3 JKMN
abbrev pub named_by : ℕ → Named
named_by zero = JordanWigner
named_by (suc zero) = Parity
named_by (suc (suc zero)) = BravyiKitaev
named_by (suc (suc (suc k))) = Jkmn

-- what is lent, and at exit left, in the X parts, the Z parts, the phases, the vacuum and the work room
pub record Slices : Type 0 where
  pub xs : List ℕ
  pub zs : List ℕ
  pub ps : List ℕ
  pub vs : List ℕ
  pub room : List ℕ

abbrev pub slices : List ℕ → List ℕ → List ℕ → List ℕ → List ℕ → Slices
slices xs zs ps vs room = record { xs = xs; zs = zs; ps = ps; vs = vs; room = room }

-- a number up to 3 builds its tree; another is refused by 1, and nothing is changed
pub record NumberBuilt (tree n q : ℕ) (old : Slices) (a : Answer) (new : Slices) : Type 0 where
  pub named : tree ≤ 3 → NamedBuilt (asked (named_by tree) n q old.xs old.zs old.ps old.vs old.room) a new.xs new.zs new.ps new.vs new.room
  pub other : 3 < tree → (answered a ≡ bare 1) × (new ≡ old)
