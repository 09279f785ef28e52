-- The moves of a reader on a line: what a tab, a line feed and any other byte make of the fields so far. Field by field, through the cases of a field.
use Prim.Native.Nat.{ℕ, zero, suc, ◌≤◌}
use native.Mathlib.Omega.{arith}
use mathlib.Core.Path.{◌≡◌, refl, sym, ◌∙◌}
use mathlib.Core.List.{List, [], ◌∷◌, ◌++◌}
use mathlib.Core.Bool.{Bool, true, false, cond}
use lib.Dec.{eqb}
use Rattle.std.specs.Prelude.{Option, Some, None, unwrap_or, option_map}
use Rattle.flatpack_text.specs.declared.read.Field.{Field}
use Rattle.flatpack_text.specs.declared.read.Field.TheVariants.{Nothing, Dash, Number, Bad}
use Rattle.flatpack_text.specs.declared.read.State.{State}
use Rattle.flatpack_text.specs.Text.{put_first, cut, decimal, is_number, is_dash, field_of, Slot, empty, numbered, as_qubit, as_slot, Entry, Line, entry, no_entry, line_of}
use Rattle.flatpack_text.specs.Machine.{Told, slot_number, stopped, on_line, line_after}
use Rattle.flatpack_text.specs.Moves.{more, next, tabbed_at, tabbed, at_last, line_ended, kept_at, line_kept, ended_at, finished}
use Rattle.flatpack_text.proofs.Numbers.{field_more}

-- ---- two readings of one field that agree on each case

module _ {A B C : Type 0} (h : A → C) (g : B → C) where
  qubit_both : (f : Field) (a : ℕ → A) (x : A) (b : ℕ → B) (y : B) → ((q : ℕ) → h (a q) ≡ g (b q)) → h x ≡ g y → h (as_qubit f a x) ≡ g (as_qubit f b y)
  qubit_both Nothing a x b y p q = q
  qubit_both Dash a x b y p q = q
  qubit_both (Number n) a x b y p q = p n
  qubit_both Bad a x b y p q = q

  slot_both : (f : Field) (a : Slot → A) (x : A) (b : Slot → B) (y : B) → ((s : Slot) → h (a s) ≡ g (b s)) → h x ≡ g y → h (as_slot f a x) ≡ g (as_slot f b y)
  slot_both Nothing a x b y p q = q
  slot_both Dash a x b y p q = p empty
  slot_both (Number n) a x b y p q = p (numbered n)
  slot_both Bad a x b y p q = q

-- and readings that come to the same in every case
module _ {A C : Type 0} (h : A → C) (c : C) where
  qubit_any : (f : Field) (a : ℕ → A) (x : A) → ((q : ℕ) → h (a q) ≡ c) → h x ≡ c → h (as_qubit f a x) ≡ c
  qubit_any Nothing a x p q = q
  qubit_any Dash a x p q = q
  qubit_any (Number n) a x p q = p n
  qubit_any Bad a x p q = q

  slot_any : (f : Field) (a : Slot → A) (x : A) → ((s : Slot) → h (a s) ≡ c) → h x ≡ c → h (as_slot f a x) ≡ c
  slot_any Nothing a x p q = q
  slot_any Dash a x p q = p empty
  slot_any (Number n) a x p q = p (numbered n)
  slot_any Bad a x p q = q

-- ---- a tab

tab_qubit : (n : ℕ) (f : Field) → tabbed (on_line n 0 0 0 0 f) ≡ as_qubit f (λ q. on_line n 1 q 0 0 Nothing) (stopped n)
unfolding tabbed
tab_qubit n Nothing = refl
tab_qubit n Dash = refl
tab_qubit n (Number m) = refl
tab_qubit n Bad = refl

tab_x : (n q : ℕ) (f : Field) → tabbed (on_line n 1 q 0 0 f) ≡ as_slot f (λ x. on_line n 2 q (slot_number x) 0 Nothing) (stopped n)
unfolding tabbed
tab_x n q Nothing = refl
tab_x n q Dash = refl
tab_x n q (Number m) = refl
tab_x n q Bad = refl

tab_y : (n q x : ℕ) (f : Field) → tabbed (on_line n 2 q x 0 f) ≡ as_slot f (λ y. on_line n 3 q x (slot_number y) Nothing) (stopped n)
unfolding tabbed
tab_y n q x Nothing = refl
tab_y n q x Dash = refl
tab_y n q x (Number m) = refl
tab_y n q x Bad = refl

tab_z : (n q x y : ℕ) (f : Field) → tabbed (on_line n 3 q x y f) ≡ stopped n
unfolding tabbed
tab_z n q x y Nothing = refl
tab_z n q x y Dash = refl
tab_z n q x y (Number m) = refl
tab_z n q x y Bad = refl

abbrev same : State → State
same s = s

pub tab_after : (n : ℕ) (fs : List (List ℕ)) (f : List ℕ) → tabbed (line_after n fs f) ≡ line_after n (fs ++ (f ∷ [])) []
unfolding tabbed field_of
tab_after n [] f = tab_qubit n (field_of f)
tab_after n (a ∷ []) f = qubit_both tabbed same (field_of a) _ _ _ _ (λ q. tab_x n q (field_of f)) refl
tab_after n (a ∷ b ∷ []) f =
    qubit_both tabbed same (field_of a) _ _ _ _ (λ q.
    slot_both tabbed same (field_of b) _ _ _ _ (λ x. tab_y n q (slot_number x) (field_of f)) refl) refl
tab_after n (a ∷ b ∷ c ∷ []) f =
    qubit_any tabbed (stopped n) (field_of a) _ _ (λ q.
    slot_any tabbed (stopped n) (field_of b) _ _ (λ x.
    slot_any tabbed (stopped n) (field_of c) _ _ (λ y. tab_z n q (slot_number x) (slot_number y) (field_of f)) refl) refl) refl
tab_after n (a ∷ b ∷ c ∷ d ∷ fs) f = refl

-- a tab from any state: what is made of the field, if it is one that may stand there
option_qubit : {A : Type 0} (f : Field) (good : ℕ → A) (bad : A) → as_qubit f good bad ≡ unwrap_or (option_map good (as_qubit f Some None)) bad
option_qubit Nothing good bad = refl
option_qubit Dash good bad = refl
option_qubit (Number n) good bad = refl
option_qubit Bad good bad = refl

option_slot : {A : Type 0} (f : Field) (good : ℕ → A) (bad : A) → as_slot f (λ z. good (slot_number z)) bad ≡ unwrap_or (option_map good (as_slot f (λ z. Some (slot_number z)) None)) bad
option_slot Nothing good bad = refl
option_slot Dash good bad = refl
option_slot (Number n) good bad = refl
option_slot Bad good bad = refl

module _ (s : State) {r : Option ℕ} where
  pub tab_at_0 : s.fields ≡ 0 → r ≡ as_qubit s.field Some None → unwrap_or (option_map (λ q. on_line s.entries 1 q 0 0 Nothing) r) (stopped s.entries) ≡ tabbed s
  unfolding tabbed
  tab_at_0 k p = rw (k, p) (sym (option_qubit s.field (λ q. on_line s.entries 1 q 0 0 Nothing) (stopped s.entries)))

  pub tab_at_1 : s.fields ≡ 1 → r ≡ as_slot s.field (λ z. Some (slot_number z)) None → unwrap_or (option_map (λ x. on_line s.entries 2 s.qubit x 0 Nothing) r) (stopped s.entries) ≡ tabbed s
  unfolding tabbed
  tab_at_1 k p = rw (k, p) (sym (option_slot s.field (λ x. on_line s.entries 2 s.qubit x 0 Nothing) (stopped s.entries)))

  pub tab_at_2 : s.fields ≡ 2 → r ≡ as_slot s.field (λ z. Some (slot_number z)) None → unwrap_or (option_map (λ y. on_line s.entries 3 s.qubit s.x y Nothing) r) (stopped s.entries) ≡ tabbed s
  unfolding tabbed
  tab_at_2 k p = rw (k, p) (sym (option_slot s.field (λ y. on_line s.entries 3 s.qubit s.x y Nothing) (stopped s.entries)))

-- ---- any other byte

abbrev pub goes_on : State → ℕ → State
goes_on s b = on_line s.entries s.fields s.qubit s.x s.y (next s.field b)

field_goes : (n k q x y : ℕ) (f : Field) (b : ℕ) → goes_on (on_line n k q x y f) b ≡ on_line n k q x y (next f b)
unfolding next
field_goes n k q x y Nothing b = refl
field_goes n k q x y Dash b = refl
field_goes n k q x y (Number m) b = refl
field_goes n k q x y Bad b = refl

pub byte_after : (n : ℕ) (fs : List (List ℕ)) (f : List ℕ) (b : ℕ) → goes_on (line_after n fs f) b ≡ line_after n fs (f ++ (b ∷ []))
unfolding next
byte_after n [] f b = rw field_more (field_goes n 0 0 0 0 (field_of f) b)
byte_after n (a ∷ []) f b = rw (field_more f b) (qubit_both (λ s. goes_on s b) same (field_of a) _ _ _ _ (λ q. field_goes n 1 q 0 0 (field_of f) b) refl)
byte_after n (a ∷ c ∷ []) f b =
    rw (field_more f b) (
    qubit_both (λ s. goes_on s b) same (field_of a) _ _ _ _ (λ q.
    slot_both (λ s. goes_on s b) same (field_of c) _ _ _ _ (λ x. field_goes n 2 q (slot_number x) 0 (field_of f) b) refl) refl)
byte_after n (a ∷ c ∷ e ∷ []) f b =
    rw (field_more f b) (
    qubit_both (λ s. goes_on s b) same (field_of a) _ _ _ _ (λ q.
    slot_both (λ s. goes_on s b) same (field_of c) _ _ _ _ (λ x.
    slot_both (λ s. goes_on s b) same (field_of e) _ _ _ _ (λ y. field_goes n 3 q (slot_number x) (slot_number y) (field_of f) b) refl) refl) refl)
byte_after n (a ∷ c ∷ e ∷ g ∷ fs) f b = refl

-- ---- a line feed

abbrev pub on_entry : {A : Type 0} → Line → (Entry → A) → A → A
on_entry (entry e) good bad = good e
on_entry no_entry good bad = bad

-- what is made of a line that ends: `bad` unless four fields are there, and of those what they say
module _ {A : Type 0} (h : State → A) (n : ℕ) (good : Entry → A) (bad : A) (stops : h (stopped n) ≡ bad)
    (one : (f : Field) → h (on_line n 0 0 0 0 f) ≡ bad)
    (two : (q : ℕ) (f : Field) → h (on_line n 1 q 0 0 f) ≡ bad)
    (three : (q x : ℕ) (f : Field) → h (on_line n 2 q x 0 f) ≡ bad)
    (four : (q : ℕ) (x y : Slot) (f : Field) → h (on_line n 3 q (slot_number x) (slot_number y) f) ≡ as_slot f (λ z. good (record { qubit = q; x = x; y = y; z = z })) bad)
  where
    abbrev made : Line → A
    made l = on_entry l good bad

    last : (q : ℕ) (x y : Slot) (f : Field) → h (on_line n 3 q (slot_number x) (slot_number y) f) ≡ made (as_slot f (λ z. entry (record { qubit = q; x = x; y = y; z = z })) no_entry)
    last q x y f = four q x y f ∙ slot_both (λ a. a) made f _ _ _ _ (λ z. refl) refl

    line_ends : (fs : List (List ℕ)) (f : List ℕ) → h (line_after n fs f) ≡ on_entry (line_of fs f) good bad
    line_ends [] f = one (field_of f)
    line_ends (a ∷ []) f = qubit_any h bad (field_of a) _ _ (λ q. two q (field_of f)) stops
    line_ends (a ∷ b ∷ []) f = qubit_any h bad (field_of a) _ _ (λ q. slot_any h bad (field_of b) _ _ (λ x. three q (slot_number x) (field_of f)) stops) stops
    line_ends (a ∷ b ∷ c ∷ []) f =
        qubit_both h made (field_of a) _ _ _ _ (λ q.
        slot_both h made (field_of b) _ _ _ _ (λ x.
        slot_both h made (field_of c) _ _ _ _ (λ y. last q x y (field_of f)) stops) stops) stops
    line_ends (a ∷ b ∷ c ∷ d ∷ fs) f = stops

-- a line that has one more entry before it
abbrev pub fresh : ℕ → State
fresh n = on_line n 0 0 0 0 Nothing

pub end_after : (n : ℕ) (fs : List (List ℕ)) (f : List ℕ) → line_ended (line_after n fs f) ≡ on_entry (line_of fs f) (λ e. fresh (more n)) (stopped n)
unfolding line_ended
end_after n fs f = line_ends line_ended n (λ e. fresh (more n)) (stopped n) refl one two three four fs f
  where
    one : (f : Field) → line_ended (on_line n 0 0 0 0 f) ≡ stopped n
    one Nothing = refl
    one Dash = refl
    one (Number m) = refl
    one Bad = refl

    two : (q : ℕ) (f : Field) → line_ended (on_line n 1 q 0 0 f) ≡ stopped n
    two q Nothing = refl
    two q Dash = refl
    two q (Number m) = refl
    two q Bad = refl

    three : (q x : ℕ) (f : Field) → line_ended (on_line n 2 q x 0 f) ≡ stopped n
    three q x Nothing = refl
    three q x Dash = refl
    three q x (Number m) = refl
    three q x Bad = refl

    four : (q : ℕ) (x y : Slot) (f : Field) → line_ended (on_line n 3 q (slot_number x) (slot_number y) f) ≡ as_slot f (λ z. fresh (more n)) (stopped n)
    four q x y Nothing = refl
    four q x y Dash = refl
    four q x y (Number m) = refl
    four q x y Bad = refl

-- entry n of the table
abbrev pub entered : ℕ → List ℕ → Entry → List ℕ
entered n d e = kept_at n e.qubit (slot_number e.x) (slot_number e.y) (slot_number e.z) d

pub kept_after : (n : ℕ) (fs : List (List ℕ)) (f : List ℕ) (d : List ℕ) → line_kept (line_after n fs f) d ≡ on_entry (line_of fs f) (entered n d) d
unfolding line_kept
kept_after n fs f d = line_ends (λ s. line_kept s d) n (entered n d) d refl one two three four fs f
  where
    one : (f : Field) → line_kept (on_line n 0 0 0 0 f) d ≡ d
    one Nothing = refl
    one Dash = refl
    one (Number m) = refl
    one Bad = refl

    two : (q : ℕ) (f : Field) → line_kept (on_line n 1 q 0 0 f) d ≡ d
    two q Nothing = refl
    two q Dash = refl
    two q (Number m) = refl
    two q Bad = refl

    three : (q x : ℕ) (f : Field) → line_kept (on_line n 2 q x 0 f) d ≡ d
    three q x Nothing = refl
    three q x Dash = refl
    three q x (Number m) = refl
    three q x Bad = refl

    four : (q : ℕ) (x y : Slot) (f : Field) → line_kept (on_line n 3 q (slot_number x) (slot_number y) f) d ≡ as_slot f (λ z. entered n d (record { qubit = q; x = x; y = y; z = z })) d
    four q x y Nothing = refl
    four q x y Dash = refl
    four q x y (Number m) = refl
    four q x y Bad = refl

-- ---- the end of the text

-- not well formed: line k is no entry
abbrev pub fault_at : ℕ → Told
fault_at k = record { number = 16; entries = 0; line = k }

-- the line after n entries
abbrev pub faulty : ℕ → Told
faulty n = fault_at (more n)

begun : (n k q x y : ℕ) (f : Field) → finished (on_line n (suc k) q x y f) ≡ faulty n
unfolding finished
begun n k q x y Nothing = refl
begun n k q x y Dash = refl
begun n k q x y (Number m) = refl
begun n k q x y Bad = refl

-- a line of which a field is ended
fields_begun : (n : ℕ) (a : List ℕ) (fs : List (List ℕ)) (f : List ℕ) → finished (line_after n (a ∷ fs) f) ≡ faulty n
unfolding finished
fields_begun n a [] f = qubit_any finished (faulty n) (field_of a) _ _ (λ q. begun n 0 q 0 0 (field_of f)) refl
fields_begun n a (b ∷ []) f = qubit_any finished (faulty n) (field_of a) _ _ (λ q. slot_any finished (faulty n) (field_of b) _ _ (λ x. begun n 1 q (slot_number x) 0 (field_of f)) refl) refl
fields_begun n a (b ∷ c ∷ []) f =
    qubit_any finished (faulty n) (field_of a) _ _ (λ q.
    slot_any finished (faulty n) (field_of b) _ _ (λ x.
    slot_any finished (faulty n) (field_of c) _ _ (λ y. begun n 2 q (slot_number x) (slot_number y) (field_of f)) refl) refl) refl
fields_begun n a (b ∷ c ∷ d ∷ fs) f = refl

-- a line that has begun, with its first field
field_begun : (n : ℕ) (b : ℕ) (f : List ℕ) → finished (line_after n [] (b ∷ f)) ≡ faulty n
unfolding finished field_of
field_begun n b f = go (is_dash (b ∷ f)) (is_number (b ∷ f))
  where
    go : (d k : Bool) → finished (on_line n 0 0 0 0 (cond d Dash (cond k (Number (decimal (b ∷ f))) Bad))) ≡ faulty n
    go true k = refl
    go false true = refl
    go false false = refl

pub begun_after : (n : ℕ) (b : ℕ) (t : List ℕ) → finished (line_after n (cut 9 (b ∷ t)).ended (cut 9 (b ∷ t)).rest) ≡ faulty n
unfolding cut
begun_after n b t = go (eqb b 9) (cut 9 t).ended (cut 9 t).rest
  where
    go : (h : Bool) (fs : List (List ℕ)) (f : List ℕ) → finished (line_after n (cond h (record { ended = [] ∷ fs; rest = f }) (put_first b fs f)).ended (cond h (record { ended = [] ∷ fs; rest = f }) (put_first b fs f)).rest) ≡ faulty n
    go true fs f = fields_begun n [] fs f
    go false [] f = field_begun n b f
    go false (a ∷ fs) f = fields_begun n (b ∷ a) fs f

-- ---- states that no text leads to

pub tab_past : (k n q x : ℕ) (f : Field) → 3 ≤ k → tabbed_at k n q x f ≡ stopped n
tab_past zero n q x f h = absurd (omega arith)
tab_past (suc zero) n q x f h = absurd (omega arith)
tab_past (suc (suc zero)) n q x f h = absurd (omega arith)
tab_past (suc (suc (suc k))) n q x f h = refl

pub not_last : {A : Type 0} (k : ℕ) (f : Field) (good : Slot → A) (bad : A) → (k ≡ 3 → ⊥) → at_last k f good bad ≡ bad
not_last zero f good bad h = refl
not_last (suc zero) f good bad h = refl
not_last (suc (suc zero)) f good bad h = refl
not_last (suc (suc (suc zero))) f good bad h = absurd (h refl)
not_last (suc (suc (suc (suc k)))) f good bad h = refl

-- where the last field is as an Option
pub last_option : {A : Type 0} (k : ℕ) (f : Field) (good : ℕ → A) (bad : A) {r : Option ℕ} → k ≡ 3 → r ≡ as_slot f (λ z. Some (slot_number z)) None
    → unwrap_or (option_map good r) bad ≡ at_last k f (λ z. good (slot_number z)) bad
last_option k f good bad p q = rw (p, q) (sym (option_slot f good bad))

pub not_first : (k : ℕ) (f : Field) (n : ℕ) → (k ≡ 0 → f ≡ Nothing → ⊥) → ended_at k f n ≡ faulty n
not_first zero Nothing n h = absurd (h refl refl)
not_first zero Dash n h = refl
not_first zero (Number m) n h = refl
not_first zero Bad n h = refl
not_first (suc k) f n h = refl

pub last_any : {A C : Type 0} (h : A → C) (c : C) (k : ℕ) (f : Field) (good : Slot → A) (bad : A) → ((z : Slot) → h (good z) ≡ c) → h bad ≡ c → h (at_last k f good bad) ≡ c
last_any h c zero f good bad p q = q
last_any h c (suc zero) f good bad p q = q
last_any h c (suc (suc zero)) f good bad p q = q
last_any h c (suc (suc (suc zero))) f good bad p q = slot_any h c f good bad p q
last_any h c (suc (suc (suc (suc k)))) f good bad p q = q
