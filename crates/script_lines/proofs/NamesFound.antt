-- Names that are found by their words.
use Rattle.std.proofs.Common.{◌≡◌, ℕ, cond, List, [], ◌∷◌, Option, Some, None, refl, sym, ap, ◌∙◌, inl, inr}
use Rattle.std.specs.Prelude.{MatchOption}
use Rattle.std.specs.Str.{bytes_eq}
use Rattle.std.proofs.lemmas.Bool.{cases_Bool}
use Rattle.std.proofs.lemmas.Option.{same_Some}
use Rattle.std.proofs.lemmas.Slice.Eq.{bytes_eq-Decides}
use Rattle.amo.specs.declared.function.AmoFunction.TheVariants as functions
use Rattle.amo.specs.declared.name.AmoName.TheVariants as amos
use Rattle.script_lines.specs.declared.op_name.OpName.{OpName}
use Rattle.script_lines.specs.declared.op_name.OpName.TheVariants as ops
use Rattle.script_lines.specs.declared.said_name.SaidName.{SaidName}
use Rattle.script_lines.specs.declared.said_name.SaidName.TheVariants as saids
use Rattle.script_lines.specs.Names.{by_word, guest_ops, is_guests, op_named, op_names, op_word, said_named, said_names, said_word}

module _ {A : Type 0} (word_of : A → List ℕ) (word : List ℕ) where
  -- what is found has the word
  pub found_by_word : (names : List A) (name : A) → by_word word_of names word ≡ Some name → word ≡ word_of name
  found_by_word [] name found = absurd cc
  found_by_word (first ∷ names) name found = elim (cases_Bool (bytes_eq word (word_of first))) [
    | inl same ↦ (bytes_eq-Decides word (word_of first)).0 same ∙ ap word_of (same_Some first name (rw same at found))
    | inr other ↦ found_by_word names name (rw other at found)
  ]

  pub matched_by_word : (names : List A) (o : Option A) → o ≡ by_word word_of names word → MatchOption o (by_word word_of names word ≡ None) (λ name. word ≡ word_of name)
  matched_by_word names None is = sym is
  matched_by_word names (Some name) is = found_by_word names name (sym is)

-- ---- each name is found by its own word

-- among all operations, and among those of guests
pub record IsFoundOp (name : OpName) : Type 0 where
  pub found : op_named (op_word name) ≡ Some name
  pub guests : by_word op_word guest_ops (op_word name) ≡ cond (is_guests name) (Some name) None

pub op_found : (name : OpName) → IsFoundOp name
unfolding op_named
op_found ops.Ecall = record { found = refl; guests = refl }
op_found ops.Load = record { found = refl; guests = refl }
op_found ops.Store = record { found = refl; guests = refl }
op_found ops.Fetch = record { found = refl; guests = refl }
op_found ops.Satp = record { found = refl; guests = refl }
op_found ops.Sie = record { found = refl; guests = refl }
op_found ops.Sstatus = record { found = refl; guests = refl }
op_found ops.Sip = record { found = refl; guests = refl }
op_found ops.Clearssip = record { found = refl; guests = refl }
op_found ops.Sfence = record { found = refl; guests = refl }
op_found ops.Fencei = record { found = refl; guests = refl }
op_found ops.Wfi = record { found = refl; guests = refl }
op_found (ops.Amo (amos.Double functions.Swap)) = record { found = refl; guests = refl }
op_found (ops.Amo (amos.Double functions.Add)) = record { found = refl; guests = refl }
op_found (ops.Amo (amos.Double functions.And)) = record { found = refl; guests = refl }
op_found (ops.Amo (amos.Double functions.Or)) = record { found = refl; guests = refl }
op_found (ops.Amo (amos.Double functions.Xor)) = record { found = refl; guests = refl }
op_found (ops.Amo (amos.Double functions.Min)) = record { found = refl; guests = refl }
op_found (ops.Amo (amos.Double functions.Max)) = record { found = refl; guests = refl }
op_found (ops.Amo (amos.Double functions.Minu)) = record { found = refl; guests = refl }
op_found (ops.Amo (amos.Double functions.Maxu)) = record { found = refl; guests = refl }
op_found (ops.Amo (amos.Half functions.Swap)) = record { found = refl; guests = refl }
op_found (ops.Amo (amos.Half functions.Add)) = record { found = refl; guests = refl }
op_found (ops.Amo (amos.Half functions.And)) = record { found = refl; guests = refl }
op_found (ops.Amo (amos.Half functions.Or)) = record { found = refl; guests = refl }
op_found (ops.Amo (amos.Half functions.Xor)) = record { found = refl; guests = refl }
op_found (ops.Amo (amos.Half functions.Min)) = record { found = refl; guests = refl }
op_found (ops.Amo (amos.Half functions.Max)) = record { found = refl; guests = refl }
op_found (ops.Amo (amos.Half functions.Minu)) = record { found = refl; guests = refl }
op_found (ops.Amo (amos.Half functions.Maxu)) = record { found = refl; guests = refl }
op_found (ops.Amo amos.Cas) = record { found = refl; guests = refl }
op_found (ops.Amo amos.Store1) = record { found = refl; guests = refl }
op_found (ops.Amo amos.Store2) = record { found = refl; guests = refl }
op_found (ops.Amo amos.Store4) = record { found = refl; guests = refl }
op_found ops.Poll = record { found = refl; guests = refl }
op_found ops.Serve = record { found = refl; guests = refl }
op_found ops.Advance = record { found = refl; guests = refl }
op_found ops.Tick = record { found = refl; guests = refl }

pub op_is_named : (name : OpName) → op_named (op_word name) ≡ Some name
op_is_named name = (op_found name).found

pub op_of_word : (word : List ℕ) (name : OpName) → op_named word ≡ Some name → word ≡ op_word name
unfolding op_named
op_of_word word name found = found_by_word op_word word op_names name found

pub said_found : (name : SaidName) → said_named (said_word name) ≡ Some name
unfolding said_named
said_found saids.Ret = refl
said_found saids.Waiting = refl
said_found saids.Gone = refl
said_found saids.Entry = refl
said_found saids.Value = refl
said_found saids.Fault = refl
said_found saids.Served = refl
said_found saids.Moved = refl
said_found saids.Done = refl
said_found saids.Refused = refl

pub said_of_word : (word : List ℕ) (name : SaidName) → said_named word ≡ Some name → word ≡ said_word name
unfolding said_named
said_of_word word name found = found_by_word said_word word said_names name found
