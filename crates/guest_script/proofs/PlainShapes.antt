-- Names with a number in each place, and the shapes that they are kept as.
use Rattle.std.proofs.Common.{◌≡◌, ◌≢◌, ℕ, zero, suc, ◌≤◌, List, [], ◌∷◌, length, map, Option, Some, refl, sym, arith}
use Rattle.std.proofs.lemmas.Option.{same_Some}
use Rattle.board_terms.specs.declared.op.Op.TheVariants.{Advance, Sfence}
use Rattle.script_lines.specs.declared.op_name.OpName.{OpName}
use Rattle.script_lines.specs.declared.op_name.OpName.TheVariants as ops
use Rattle.script_lines.specs.declared.op_shape.OpShape.TheVariants as shapes
use Rattle.script_lines.specs.declared.places.Places.{Places}
use Rattle.script_lines.specs.declared.said.Said.{Said}
use Rattle.script_lines.specs.declared.said.Said.TheVariants.{Done}
use Rattle.script_lines.specs.declared.said_name.SaidName.{SaidName}
use Rattle.script_lines.specs.declared.said_name.SaidName.TheVariants as saids
use Rattle.guest_script.specs.Words.{last_number}
use Rattle.guest_script.specs.Forms.{argument_at, form_of, number_at, said_form_of}
use Rattle.guest_script.specs.Reading.{IsFormAt, made_from}
use Rattle.guest_script.proofs.Named.{op_forms, said_forms_of}
use Rattle.script_lines.specs.Names.{op_from, op_places, op_word, said_from, said_places, said_word}
use Rattle.script_lines.specs.Packing.{named_said_shape, named_shape, number_from, op_made, said_made}

-- each number as an argument
abbrev pub some_all : List ℕ → List (Option ℕ)
some_all ns = map (λ n. Some n) ns

at_some : (ns : List ℕ) (k : ℕ) → number_at (some_all ns) k ≡ number_from ns k
at_some [] k = refl
at_some (n ∷ ns) zero = refl
at_some (n ∷ ns) (suc k) = at_some ns k

both_given : (ns : List ℕ) → 2 ≤ length ns → op_made shapes.SfenceBoth ns ≡ Sfence (argument_at (some_all ns) 0) (argument_at (some_all ns) 1)
both_given [] enough = absurd (omega (arith, enough))
both_given (a ∷ []) enough = absurd (omega (arith, enough))
both_given (a ∷ b ∷ ns) enough = refl

pub name_makes : (name : OpName) (ns : List ℕ) → (op_places name).limit ≡ last_number → (op_places name).least ≤ length ns → op_made (named_shape name) ns ≡ op_from name (some_all ns)
name_makes ops.Ecall ns limit enough = rw (at_some ns 0, at_some ns 1, at_some ns 2, at_some ns 3, at_some ns 4, at_some ns 5, at_some ns 6, at_some ns 7) refl
name_makes ops.Load ns limit enough = rw (at_some ns 0) refl
name_makes ops.Store ns limit enough = rw (at_some ns 0, at_some ns 1) refl
name_makes ops.Fetch ns limit enough = rw (at_some ns 0) refl
name_makes (ops.Amo name) ns limit enough = rw (at_some ns 0, at_some ns 1, at_some ns 2) refl
name_makes ops.Satp ns limit enough = rw (at_some ns 0) refl
name_makes ops.Sie ns limit enough = rw (at_some ns 0) refl
name_makes ops.Sip ns limit enough = refl
name_makes ops.Clearssip ns limit enough = refl
name_makes ops.Fencei ns limit enough = refl
name_makes ops.Wfi ns limit enough = refl
name_makes ops.Poll ns limit enough = refl
name_makes ops.Serve ns limit enough = refl
name_makes ops.Advance ns limit enough = refl
name_makes ops.Tick ns limit enough = rw (at_some ns 0) refl
name_makes ops.Sstatus ns limit enough = absurd (omega (arith, limit))
name_makes ops.Sfence ns limit enough = both_given ns (omega (arith, enough))

pub op_form_at : (name : OpName) (places : Places) → places ≡ op_places name → IsFormAt places (form_of (op_word name))
op_form_at name places is = rw (is, (op_forms name).0) (refl, refl, refl, refl)

pub op_makes : (name : OpName) (places : Places) (ns : List ℕ) → places ≡ op_places name → places.limit ≡ last_number → places.least ≤ length ns
    → op_made (named_shape name) ns ≡ made_from Advance (form_of (op_word name)) (some_all ns)
op_makes name places ns is limit enough = rw (op_forms name).0 (name_makes name ns (rw is at limit) (rw is at enough))

pub said_form_at : (name : SaidName) (places : Places) → name ≢ saids.Ret → places ≡ said_places name → IsFormAt places (said_form_of (said_word name))
said_form_at name places other is = rw (is, said_forms_of name other) (refl, refl, refl, refl)

pub said_makes : (name : SaidName) (ns : List ℕ) (said : Said) → said_made (named_said_shape name) ns ≡ Some said → said ≡ said_from name (some_all ns)
said_makes saids.Ret ns said is = rw (at_some ns 0, at_some ns 1) (same_Some _ _ (sym is))
said_makes saids.Waiting ns said is = same_Some _ _ (sym is)
said_makes saids.Gone ns said is = same_Some _ _ (sym is)
said_makes saids.Served ns said is = same_Some _ _ (sym is)
said_makes saids.Done ns said is = same_Some _ _ (sym is)
said_makes saids.Entry ns said is = rw (at_some ns 0, at_some ns 1, at_some ns 2) (same_Some _ _ (sym is))
said_makes saids.Value ns said is = rw (at_some ns 0) (same_Some _ _ (sym is))
said_makes saids.Fault ns said is = rw (at_some ns 0) (same_Some _ _ (sym is))
said_makes saids.Moved ns said is = rw (at_some ns 0) (same_Some _ _ (sym is))
said_makes saids.Refused ns said is = rw (at_some ns 0) (same_Some _ _ (sym is))

pub said_made_from : (name : SaidName) (ns : List ℕ) (said : Said) → name ≢ saids.Ret → said_made (named_said_shape name) ns ≡ Some said
    → said ≡ made_from Done (said_form_of (said_word name)) (some_all ns)
said_made_from name ns said other is = rw (said_forms_of name other) (said_makes name ns said is)
