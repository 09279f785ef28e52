-- The equations of a row set as the room holds them, and what solving makes of them.
use Prim.Native.Nat.{ℕ, zero, suc, ◌+◌, ◌-◌, ◌*◌, ◌/◌, ◌%◌, ◌^◌, ◌≤◌, ◌<◌}
use native.Mathlib.Nat.{mod-eq_of_lt, mul-le-mul, lt_of_lt_of_le}
use native.Mathlib.Omega.{arith}
use mathlib.Core.Path.{◌≡◌, refl, sym, ap, ap₂, ◌∙◌}
use mathlib.Core.Bool.{Bool, true, false, ◌&&◌}
use mathlib.Core.List.{List, [], ◌∷◌, ◌++◌, append-nil}
use lib.Bits.{bit_xor, xor_lt}
use lib.Pow.{pow_pos, pow_mono}
use lib.ListN.{length, get_or, set, take, drop, length-append, length-drop, drop_of_length-le}
use lib.Seq.{take_at, drop_at, drop-drop}
use Rattle.std.specs.Prelude.{Ok, Err}
use Rattle.refusal.specs.declared.Refusal.TheVariants.{NoVacuum}
use Rattle.refusal.specs.declared.Refusal.{Refusal}
use Rattle.refusal.specs.Numbers.{Answer, Paper, paper, answered}
use Rattle.refusal.proofs.Outcome.{refused_number}
use Rattle.refusal.specs.Table.{if_zero, on_done}
use Rattle.refusal.specs.Search.{all_below, Least, found, none, least_below}
use Rattle.refusal.proofs.Searches.{all_at, least_found}
use Rattle.refusal.proofs.Bools.{never}
use Rattle.algebra.specs.Modes.{Modes, e, d, paired, vacuum_rule}
use Rattle.algebra.specs.Solving.{plain, solvable, solved_vacuum}
use Rattle.dense_block.specs.Words.{value, xors, term_of, words_of, filled}
use Rattle.dense_block.proofs.Values.{value_of_words}
use Rattle.dense_block.proofs.Alongs.{length_along, value_xors}
use Rattle.dense_block.proofs.Terms.{words_term, length_term}
use Rattle.elimination.specs.Solving.{left_at, right_at, is_found, written}
use Rattle.elimination.proofs.Vacuums.{unpaired_vacuum, unpaired_solvable, solvable_found}
use Rattle.majorana.specs.Sets.{modes_at, bad_rows}
use Rattle.majorana.specs.Held.{Fits, Held}
use Rattle.majorana.specs.Rooms.{Same, task_checked, all_paired, equation_of, EquationsLoaded, SolvedLent, NewLent}
use Rattle.majorana.specs.Vacuums.{vacuum_of, vacuum}
use Rattle.majorana.proofs.ModeLaws.{d_below}
use Rattle.majorana.proofs.SetLaws.{z_row, z_below}

-- ---- an equation written

-- the word behind a row
set_behind : (a : List ℕ) (x v : ℕ) → set (a ++ (x ∷ [])) (length a) v ≡ a ++ (v ∷ [])
set_behind [] x v = refl
set_behind (b ∷ a) x v = ap (λ (l : List ℕ). b ∷ l) (set_behind a x v)

single : (t : List ℕ) → length t ≡ 1 → t ≡ get_or t 0 0 ∷ []
single [] h = absurd (omega arith)
single (x ∷ []) h = refl
single (x ∷ y ∷ t) h = absurd (omega arith)

-- a copied, b added, and the word behind them set
pub equation_made : (w : ℕ) (p a b : List ℕ) (right : ℕ) → length a ≡ w → length b ≡ w → length p ≡ w + 1
    → (l r : List ℕ) → l ≡ a → r ≡ xors (take w (l ++ drop w p)) b
    → set (r ++ drop w (l ++ drop w p)) w right ≡ xors a b ++ (right ∷ [])
equation_made w p a b right ea eb ep l r la hr =
    let ll : length l ≡ w = ap length la ∙ ea in
    let rb : r ≡ xors a b = hr ∙ ap (λ (t : List ℕ). xors t b) (take_at l (drop w p) w ll ∙ la) in
    let last : drop w (l ++ drop w p) ≡ get_or (drop w p) 0 0 ∷ [] = drop_at l (drop w p) w ll ∙ single (drop w p) (omega (arith, length-drop w p)) in
    let len : length (xors a b) ≡ w = length_along bit_xor a b ∙ ea in
    ap₂ (λ (s t : List ℕ). set (s ++ t) w right) rb last
    ∙ ap (λ (k : ℕ). set (xors a b ++ (get_or (drop w p) 0 0 ∷ [])) k right) (sym len)
    ∙ set_behind (xors a b) (get_or (drop w p) 0 0) right

pub length_equation : (n w : ℕ) (xs zs ps : List ℕ) (i : ℕ) → Fits n w xs zs ps → i < n → length (equation_of n w xs zs ps i) ≡ w + 1
length_equation n w xs zs ps i fits h =
    length-append (xors (term_of w zs (2 * i)) (term_of w zs (2 * i + 1))) (d (modes_at n w xs zs ps) i / 2 ∷ [])
    ∙ ap (λ (k : ℕ). k + 1) (length_along bit_xor (term_of w zs (2 * i)) (term_of w zs (2 * i + 1)) ∙ length_term w zs (2 * i) (z_row fits (2 * i) (omega arith)))

-- ---- the equations as the elimination reads them

last_word : (a : List ℕ) (w v : ℕ) → length a ≡ w → get_or (a ++ (v ∷ [])) w 0 ≡ v
last_word a w v h = ap (λ (k : ℕ). get_or (a ++ (v ∷ [])) k 0) (sym h) ∙ go a
  where
    go : (a : List ℕ) → get_or (a ++ (v ∷ [])) (length a) 0 ≡ v
    go [] = refl
    go (b ∷ a) = go a

module _ (n q w : ℕ) (xs zs ps before ws : List ℕ) (held : Held n w xs zs ps) (good : bad_rows n q w xs zs ps ≡ false) (loaded : EquationsLoaded n w xs zs ps before ws) (i : ℕ) (low : i < n) where
  abbrev first : List ℕ
  first = term_of w zs (2 * i)

  abbrev second : List ℕ
  second = term_of w zs (2 * i + 1)

  first_long : length first ≡ w
  first_long = length_term w zs (2 * i) (z_row held.fits (2 * i) (omega arith))

  second_long : length second ≡ w
  second_long = length_term w zs (2 * i + 1) (z_row held.fits (2 * i + 1) (omega arith))

  both_long : length (xors first second) ≡ w
  both_long = length_along bit_xor first second ∙ first_long

  pub left_loaded : left_at w ws i ≡ e (modes_at n w xs zs ps) i
  unfolding left_at e
  left_loaded =
      ap (λ (t : List ℕ). value (take w t)) (loaded.at i low)
      ∙ ap value (take_at (xors first second) (d (modes_at n w xs zs ps) i / 2 ∷ []) w both_long)
      ∙ value_xors first second (omega (arith, first_long, second_long)) (words_term w zs (2 * i) held.z_words) (words_term w zs (2 * i + 1) held.z_words)

  pub right_loaded : right_at w ws i ≡ d (modes_at n w xs zs ps) i / 2
  unfolding right_at
  right_loaded =
      ap (λ (t : List ℕ). get_or t w 0 % 2) (loaded.at i low)
      ∙ ap (λ (k : ℕ). k % 2) (last_word (xors first second) w (d (modes_at n w xs zs ps) i / 2) both_long)
      ∙ mod-eq_of_lt (omega (arith, d_below (modes_at n w xs zs ps) i))

  pub left_below : e (modes_at n w xs zs ps) i < 2 ^ q
  unfolding e
  left_below = xor_lt q _ _ (z_below n q w xs zs ps good (2 * i) (omega arith)) (z_below n q w xs zs ps good (2 * i + 1) (omega arith))

-- ---- modes that are not all paired

unpaired_at : (n : ℕ) (test : ℕ → Bool) → all_below n test ≡ false → (k : ℕ) × (k < n) × (test k ≡ false)
unfolding all_below
unpaired_at zero test h = absurd (never refl h)
unpaired_at (suc n) test h = go (test n) refl h (unpaired_at n test)
  where
    go : (b : Bool) → test n ≡ b → (b && all_below n test) ≡ false → (all_below n test ≡ false → (k : ℕ) × (k < n) × (test k ≡ false)) → (k : ℕ) × (k < suc n) × (test k ≡ false)
    go false e p rest = (n, omega arith, e)
    go true e p rest = let r = rest p in (r.0, omega (arith, r.1), r.2)

pub unpaired : (m : Modes) (q : ℕ) → all_paired m ≡ false → (solvable m q ≡ false) × (solved_vacuum m q ≡ none)
unfolding all_paired
unpaired m q h = let k = unpaired_at m.n (paired m) h in (unpaired_solvable m k.0 k.1 k.2 q, unpaired_vacuum m k.0 k.1 k.2 q)

pub all_paired_lem : (m : Modes) → all_paired m ≡ true → (i : ℕ) → i < m.n → paired m i ≡ true
unfolding all_paired
all_paired_lem m h = all_at m.n (paired m) h

-- ---- what is written

-- a vacuum that was found
pub written_found : (m : Modes) (q w : ℕ) (vs : List ℕ) → solvable m q ≡ true → written w (solved_vacuum m q) vs ≡ filled w (vacuum m q) vs
unfolding vacuum
written_found m q w vs h = go (solved_vacuum m q) (sym (solvable_found m q) ∙ h)
  where
    go : (l : Least) → is_found l ≡ true → written w l vs ≡ filled w (vacuum_of l) vs
    go (found v) k = refl
    go none k = cc

pub written_none : (m : Modes) (q w : ℕ) (vs : List ℕ) → solvable m q ≡ false → written w (solved_vacuum m q) vs ≡ vs
written_none m q w vs h = go (solved_vacuum m q) (sym (solvable_found m q) ∙ h)
  where
    go : (l : Least) → is_found l ≡ false → written w l vs ≡ vs
    go (found v) k = cc
    go none k = refl

-- ---- outputs

pub if_refused : {A : Type 0} (p : Paper) (new old : A) → (p.number ≡ 0 → ⊥) → on_done p new old ≡ old
if_refused p new old h = go p.number h
  where
    go : (k : ℕ) → (k ≡ 0 → ⊥) → if_zero k new old ≡ old
    go zero h = absurd (h refl)
    go (suc k) h = refl

-- ---- rooms

-- what is behind a part is behind a longer one
pub same_longer : {a b : ℕ} {before after : List ℕ} → a ≤ b → Same a before after → Same b before after
same_longer {a} {b} {before} {after} h s =
    let e : a + (b - a) ≡ b = omega arith in
    record { long = s.long; behind = sym (further e after) ∙ ap (drop (b - a)) s.behind ∙ further e before }
  where
    further : a + (b - a) ≡ b → (l : List ℕ) → drop (b - a) (drop a l) ≡ drop b l
    further e l = drop-drop (b - a) a l ∙ ap (λ (k : ℕ). drop k l) e

pub same_then : {a : ℕ} {first second third : List ℕ} → Same a first second → Same a second third → Same a first third
same_then s t = record { long = t.long ∙ s.long; behind = t.behind ∙ s.behind }

-- n(w + 1) words are among 4nw
pub room_within : (n w : ℕ) → 0 < w → n * (w + 1) ≤ 2 * n * (w + w)
room_within n w h = let l : n ≤ 2 * n = omega arith in let k : w + 1 ≤ w + w = omega arith in mul-le-mul l k

-- ---- the vacuum that is found

pub vacuum_low : (m : Modes) (q : ℕ) → vacuum m q < 2 ^ q
unfolding vacuum solved_vacuum
vacuum_low m q = go (least_below (2 ^ q) (λ v. vacuum_rule m v && plain m q v)) refl
  where
    go : (l : Least) → least_below (2 ^ q) (λ v. vacuum_rule m v && plain m q v) ≡ l → vacuum_of l < 2 ^ q
    go (found v) h = (least_found (2 ^ q) (λ v. vacuum_rule m v && plain m q v) v h).low
    go none h = pow_pos q

-- a string of w words that is written over whole
pub whole : (m : Modes) (q w : ℕ) (vs us : List ℕ) → length vs ≡ w → solvable m q ≡ true → us ≡ written w (solved_vacuum m q) vs → us ≡ words_of w (vacuum m q)
whole m q w vs us h k e =
    e ∙ written_found m q w vs k ∙ ap (λ (t : List ℕ). words_of w (vacuum m q) ++ t) (drop_of_length-le vs {i = w} (omega (arith, h))) ∙ append-nil (words_of w (vacuum m q))

value_whole : (m : Modes) (q w : ℕ) → q ≤ 64 * w → value (words_of w (vacuum m q)) ≡ vacuum m q
value_whole m q w h = value_of_words w (vacuum m q) (lt_of_lt_of_le (vacuum_low m q) (pow_mono h))

-- ---- which test refuses, once 1 and 2 are passed

module _ (m : Modes) (q w : ℕ) (vs room : List ℕ) where
  pub solved_done : {bad : Bool} {after left : List ℕ} → bad ≡ false → solvable m q ≡ true → after ≡ written w (solved_vacuum m q) vs → Same (m.n * (w + 1)) room left
      → SolvedLent bad m q w vs room (Ok tt) after left
  solved_done h k e s = record { answer = rw (h, k); string = e ∙ written_found m q w vs k; same = s }

  pub solved_none : {bad : Bool} {after left : List ℕ} → bad ≡ false → solvable m q ≡ false → after ≡ written w (solved_vacuum m q) vs → Same (m.n * (w + 1)) room left
      → SolvedLent bad m q w vs room (Err NoVacuum) after left
  solved_none h k e s = record { answer = rw (h, k); string = e ∙ written_none m q w vs k; same = s }

  module _ (fits : m.n * (w + 1) ≤ 2 * m.n * (w + w)) where
    pub new_none : {bad : Bool} {left : List ℕ} → bad ≡ false → solvable m q ≡ false → Same (m.n * (w + 1)) room left → NewLent bad m q w vs room (Err NoVacuum) vs left
    new_none h k s = record { answer = rw (h, k); string = refl; same = same_longer fits s }

    -- the string us, solved in vs₀, is checked
    pub new_task_lem : {bad : Bool} {after used left : List ℕ} (vs₀ us : List ℕ) (r : Answer) → bad ≡ false → solvable m q ≡ true → q ≤ 64 * w → length vs₀ ≡ w
        → us ≡ written w (solved_vacuum m q) vs₀ → Same (m.n * (w + 1)) room used
        → answered r ≡ task_checked m (value us) → after ≡ on_done (answered r) (us ++ drop w vs) vs → Same (2 * m.n * (w + w)) used left
        → NewLent bad m q w vs room r after left
    unfolding task_checked
    new_task_lem vs₀ us r h k low len e s a t u =
        let f = whole m q w vs₀ us len k e in
        let v : value us ≡ vacuum m q = ap value f ∙ value_whole m q w low in
        record {
          answer = a ∙ rw (h, k, v);
          string = t ∙ ap (λ (l : List ℕ). on_done (answered r) (l ++ drop w vs) vs) f;
          same = same_then (same_longer fits s) u;
        }

    -- refused: the string stays
    pub new_refused : {bad : Bool} {used left : List ℕ} (vs₀ us : List ℕ) (x : Refusal) → bad ≡ false → solvable m q ≡ true → q ≤ 64 * w → length vs₀ ≡ w
        → us ≡ written w (solved_vacuum m q) vs₀ → Same (m.n * (w + 1)) room used
        → paper x ≡ task_checked m (value us) → Same (2 * m.n * (w + w)) used left
        → NewLent bad m q w vs room (Err x) vs left
    new_refused vs₀ us x h k low len e s a u =
        new_task_lem vs₀ us (Err x) h k low len e s a (sym (if_refused (paper x) (us ++ drop w vs) vs (refused_number x))) u

    -- done: the string is copied
    pub new_done_lem : {bad : Bool} {used left : List ℕ} (vs₀ us : List ℕ) → bad ≡ false → solvable m q ≡ true → q ≤ 64 * w → length vs₀ ≡ w
        → us ≡ written w (solved_vacuum m q) vs₀ → Same (m.n * (w + 1)) room used
        → answered {A = Unit {0}} (Ok tt) ≡ task_checked m (value us) → Same (2 * m.n * (w + w)) used left
        → NewLent bad m q w vs room (Ok tt) (us ++ drop w vs) left
    new_done_lem vs₀ us h k low len e s a u = new_task_lem vs₀ us (Ok tt) h k low len e s a refl u
