-- What the calls of `report` promise together with those of `flatpack_text`.
--
-- In plain words: the reply to a text that was fed, in chunks of any number and any lengths, is its output, byte for byte (specs/Output.antt): the report of its tree, or the
-- number of the first refusal: `text_answered`. The number in the reply is that of the definition, 16 if the text is not well formed and else the verdict on its entries, and its
-- line is the first that is no entry, None if every line is one: `text_numbered`. What `locate` names is that line, or the slot for which the entries are refused: the first slot of the
-- text's tree that has a fault, with the number refused as its fault (specs/Located.antt). It names no slot for any other refusal, and none that is not at fault: `text_located`.
-- Where it names neither, the entries are refused by 1, or a qubit has two entries, or no slot is at fault: `text_unlocated`. No input leaves `respond` two outcomes: `respond_outcome`.
-- Below, a call is its contract: `FedInTurn` has a call of `feed` for each chunk, `Replied` and `located` of specs/Replies.antt are `respond` and `locate`.
use Prim.Native.Nat.{ℕ, ◌*◌, ◌≤◌, ◌<◌}
use mathlib.Core.Path.{◌≡◌, sym, ap, ◌∙◌, subst}
use mathlib.Core.Logic.{◌⊎◌}
use mathlib.Core.Bool.{true}
use mathlib.Core.List.{List, [], ◌++◌}
use lib.ListN.{length, drop}
use Rattle.std.specs.Prelude.{None}
use Rattle.refusal.specs.Numbers.{answered}
use Rattle.refusal.proofs.Outcome.{one_outcome, answered_injective}
use Rattle.trees.specs.Trees.{twice, fault}
use Rattle.flatpack_text.specs.declared.read.State.{State}
use Rattle.report.specs.declared.reply.Reply.{Reply}
use Rattle.flatpack_text.specs.Text.{Entry, well_formed, parse}
use Rattle.flatpack_text.specs.Machine.{Told, told, kept, after}
use Rattle.flatpack_text.specs.Moves.{finished}
use Rattle.flatpack_text.proofs.Reading.{start_kept, finished_after}
use Rattle.flatpack_text.proofs.Theorems.{joined, FedInTurn, fed_on}
use Rattle.report.specs.Output.{tree, verdict, verdict_of, output}
use Rattle.report.specs.Located.{told_line, SiteOf}
use Rattle.report.specs.Replies.{Replied, located}
use Rattle.report.proofs.Outputs.{reply_whole, reply_numbered}
use Rattle.report.proofs.Sites.{site_of, slotless, unnamed}

-- ---- one outcome is left

pub respond_outcome : {t : Told} {table out e f : List ℕ} {a b : Reply} → Replied t table out a e → Replied t table out b f → (a ≡ b) × (e ≡ f)
respond_outcome h k =
    let x = answered_injective (one_outcome h.number k.number) in
    let y = one_outcome h.line k.line in
    let z = one_outcome h.length k.length in
    (λ i. record { answer = x i; line = y i; length = z i }, one_outcome h.bytes k.bytes)

-- ---- a text that was fed

module _ {us : List (List ℕ)} {s r : State} {d e : List ℕ} (begin : s ≡ after []) (run : FedInTurn s d us r e) (room : 1024 ≤ length d) where
  -- what reading told is what the definition says of the chunks joined
  read_as : (finished r ≡ told (parse (joined us))) × (e ≡ kept (joined us) d)
  read_as = let g = fed_on [] d begin (sym (start_kept d)) run in (ap finished g.0 ∙ finished_after (joined us), g.1)

  -- the reply: the text's output at the front of the buffer, and its length
  pub text_answered : (out : List ℕ) {a : Reply} {f : List ℕ} → 164480 ≤ length out → Replied (finished r) e out a f
      → (a.length ≡ length (output (joined us))) × (f ≡ output (joined us) ++ drop (length (output (joined us))) out)
  text_answered out {a} {f} wide reply = reply_whole (joined us) d e out read_as.1 room wide (subst (λ (t : Told). Replied t e out a f) read_as.0 reply)

  -- its number and line
  pub text_numbered : {out : List ℕ} {a : Reply} {f : List ℕ} → Replied (finished r) e out a f
      → (answered a.answer ≡ verdict_of (parse (joined us))) × (a.line ≡ told_line (told (parse (joined us))))
  text_numbered {out} {a} {f} reply = reply_numbered (joined us) d e out read_as.1 room (subst (λ (t : Told). Replied t e out a f) read_as.0 reply)

  -- the line or slot that is named
  pub text_located : SiteOf (parse (joined us)) (located (finished r) e)
  text_located = subst (λ (t : Told). SiteOf (parse (joined us)) (located t e)) (sym read_as.0) (site_of (joined us) d e read_as.1 room)

  -- where no line and no slot is
  pub text_unlocated : (es : List Entry) → parse (joined us) ≡ well_formed es → located (finished r) e ≡ None
      → ((verdict es).number ≡ 1) ⊎ ((twice (tree es) ≡ true) ⊎ ((k : ℕ) → k < 3 * length es → fault (tree es) k ≡ 0))
  text_unlocated es parsed none = slotless es (unnamed text_located parsed none)
