-- What the calls that read promise.
use Rattle.std.specs.Prelude.{ℕ, ◌≡◌, List, ◌++◌, Result}
use Rattle.flatpack_text.specs.declared.read.State.{State}
use Rattle.flatpack_text.specs.declared.read.Malformed.{Malformed}
use Rattle.flatpack_text.specs.Text.{parse}
use Rattle.flatpack_text.specs.Machine.{text_paper, told, kept, after}
use Rattle.flatpack_text.specs.Moves.{fed, fed_kept, finished}

-- feed: from the state s and the table d, the chunk u leads to the state r and the table e. If s and d are what the text t leads to, then r and e are what t with u
-- added leads to
pub record Feeds (s : State) (u d : List ℕ) (r : State) (e : List ℕ) : Type 0 where
  pub state : r ≡ fed s u
  pub entries : e ≡ fed_kept s u d
  pub text_state : (t : List ℕ) → s ≡ after t → r ≡ after (t ++ u)
  pub text_entries : (t o : List ℕ) → s ≡ after t → d ≡ kept t o → e ≡ kept (t ++ u) o

-- finish: the answer a from the state s. If s is what the text t leads to, then a is what the definition says of t
pub record Finishes (s : State) (a : Result ℕ Malformed) : Type 0 where
  pub answer : text_paper a ≡ finished s
  pub text_answer : (t : List ℕ) → s ≡ after t → text_paper a ≡ told (parse t)

-- read: the answer a to the text t, and the table e where d was lent
pub record Reads (t d : List ℕ) (a : Result ℕ Malformed) (e : List ℕ) : Type 0 where
  pub answer : text_paper a ≡ told (parse t)
  pub entries : e ≡ kept t d
