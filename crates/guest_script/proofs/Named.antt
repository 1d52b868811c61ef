-- Names, and the words behind them, as they are read.
use Rattle.std.proofs.Common.{◌≡◌, ◌≢◌, ℕ, ℤ, Bool, true, false, List, [], ◌∷◌, ◌++◌, Option, Some, None, Ok, Err, cond, map, refl, sym, ap, ◌∙◌, inl, inr}
use Rattle.std.specs.Option.{option_map}
use Rattle.std.specs.Str.{bytes_eq}
use Rattle.std.proofs.lemmas.Bool.{cases_Bool}
use Rattle.std.proofs.lemmas.Option.{same_Some}
use Rattle.board_terms.specs.Refusals.{first_that_holds}
use Rattle.guest_script.specs.declared.fault.FaultKind.TheVariants.{BadNumber}
use Rattle.script_lines.specs.declared.said.Said.TheVariants.{Ret}
use Rattle.guest_script.specs.Words.{last_number}
use Rattle.script_lines.specs.declared.op_name.OpName.{OpName}
use Rattle.script_lines.specs.declared.said_name.SaidName.{SaidName}
use Rattle.script_lines.specs.declared.said_name.SaidName.TheVariants as saids
use Rattle.script_lines.specs.Names.{by_word, guest_ops, is_guests, op_named, op_names, op_word, said_named, said_word, unsigned_saids}
use Rattle.guest_script.specs.Forms.{Form, form_of, guest_form_of, guest_forms, named, op_form, other_forms, said_form, said_form_of}
use Rattle.guest_script.specs.Values.{is_signed, number_in, ret_in, signed_in}
use Rattle.guest_script.specs.FirstFault.{ret_tests}
use Rattle.guest_script.specs.Reading.{or_fault, tested}
use Rattle.script_lines.proofs.NamesFound.{op_found, said_found}
use Rattle.guest_script.proofs.ArgumentsIn.{is_number_none, is_number_some}
use Rattle.guest_script.proofs.LinesFrom.{tested_fail, tested_pass}

named_front : {A : Type 0} (table more : List (List ℕ × Form A)) (name : List ℕ) → named (table ++ more) name ≡ None → named table name ≡ None
named_front [] more name none = refl
named_front (row ∷ table) more name none = elim (cases_Bool (bytes_eq name row.0)) [
  | inl same ↦ absurd (let e = rw same at none in cc)
  | inr other ↦ rw other (named_front table more name (rw other at none))
]

-- a name of no operation is none of a guest's
pub not_for_guests : (name : List ℕ) → form_of name ≡ None → guest_form_of name ≡ None
unfolding form_of guest_form_of
not_for_guests name none = named_front guest_forms other_forms name none

-- ---- the table's rows

-- what a table has under a word is the form of the name that the word finds
named_by_word : {A N : Type 0} (word_of : N → List ℕ) (form : N → Form A) (names : List N) (word : List ℕ)
    → named (map (λ name. (word_of name, form name)) names) word ≡ option_map form (by_word word_of names word)
named_by_word word_of form [] word = refl
named_by_word word_of form (name ∷ names) word = elim (cases_Bool (bytes_eq word (word_of name))) [
  | inl same ↦ rw same refl
  | inr other ↦ rw other (named_by_word word_of form names word)
]

pub unnamed_op : (word : List ℕ) → op_named word ≡ None → form_of word ≡ None
unfolding form_of op_named
unnamed_op word none = named_by_word op_word op_form op_names word ∙ ap (option_map op_form) none

pub unnamed_said : (word : List ℕ) → said_named word ≡ None → said_form_of word ≡ None
unfolding said_form_of said_named
unnamed_said word none = named_by_word said_word said_form unsigned_saids word ∙ ap (option_map said_form) (later_none (bytes_eq word (said_word saids.Ret)) none) where
  later_none : {o : Option SaidName} (b : Bool) → cond b (Some saids.Ret) o ≡ None → o ≡ None
  later_none true none = absurd cc
  later_none false none = none

map_cond : {A B : Type 0} (f : A → B) (b : Bool) (x : A) → option_map f (cond b (Some x) None) ≡ cond b (Some (f x)) None
map_cond f true x = refl
map_cond f false x = refl

-- the forms of a name's word
pub op_forms : (name : OpName) → (form_of (op_word name) ≡ Some (op_form name)) × (guest_form_of (op_word name) ≡ cond (is_guests name) (Some (op_form name)) None)
unfolding form_of guest_form_of op_named
op_forms name =
    let is = op_found name in (
      named_by_word op_word op_form op_names (op_word name) ∙ ap (option_map op_form) is.found,
      named_by_word op_word op_form guest_ops (op_word name) ∙ ap (option_map op_form) is.guests ∙ map_cond op_form (is_guests name) name,
    )

pub named_op : (word : List ℕ) (name : OpName) → word ≡ op_word name → form_of word ≡ Some (op_form name)
named_op word name is = rw is (op_forms name).0

pub guests_op : (word : List ℕ) (name : OpName) → word ≡ op_word name → is_guests name ≡ true → guest_form_of word ≡ Some (op_form name)
guests_op word name is guests = rw (is, (op_forms name).1, guests) refl

pub firmwares_op : (word : List ℕ) (name : OpName) → word ≡ op_word name → is_guests name ≡ false → guest_form_of word ≡ None
firmwares_op word name is other = rw (is, (op_forms name).1, other) refl

-- the form of the word of what is said
pub said_forms_of : (name : SaidName) → name ≢ saids.Ret → said_form_of (said_word name) ≡ Some (said_form name)
unfolding said_form_of said_named
said_forms_of name other =
    named_by_word said_word said_form unsigned_saids (said_word name)
    ∙ ap (option_map said_form) (not_first (bytes_eq (said_word name) (said_word saids.Ret)) (said_found name)) where
      not_first : {o : Option SaidName} (b : Bool) → cond b (Some saids.Ret) o ≡ Some name → o ≡ Some name
      not_first true found = absurd (other (sym (same_Some saids.Ret name found)))
      not_first false found = found

pub named_said : (word : List ℕ) (name : SaidName) → word ≡ said_word name → name ≢ saids.Ret → said_form_of word ≡ Some (said_form name)
named_said word name is other = rw is (said_forms_of name other)

pub ret_said : (word : List ℕ) → word ≡ said_word saids.Ret → said_form_of word ≡ None
unfolding said_form_of
ret_said word is = rw is refl

-- ---- `ret`

signed_some : (word : List ℕ) (e : ℤ) → signed_in word ≡ Some e → is_signed word ≡ true
unfolding signed_in
signed_some word e some = elim (cases_Bool (is_signed word)) [ inl good ↦ good | inr bad ↦ absurd (let no = rw bad at some in cc) ]

signed_none : (word : List ℕ) → signed_in word ≡ None → is_signed word ≡ false
unfolding signed_in
signed_none word none = elim (cases_Bool (is_signed word)) [ inl good ↦ absurd (let no = rw good at none in cc) | inr bad ↦ bad ]

pub ret_good : (error value : List ℕ) (e : ℤ) (v : ℕ) → signed_in error ≡ Some e → number_in last_number value ≡ Some v
    → tested (ret_tests (error ∷ value ∷ [])) (ret_in (error ∷ value ∷ [])) ≡ Ok (Ret e v)
ret_good error value e v first second = rw (signed_some error e first, is_number_some last_number value v second, first, second) refl

pub ret_bad_error : (error value : List ℕ) → signed_in error ≡ None → tested (ret_tests (error ∷ value ∷ [])) (ret_in (error ∷ value ∷ [])) ≡ Err BadNumber
ret_bad_error error value first = rw (signed_none error first) refl

pub ret_bad_value : (error value : List ℕ) (e : ℤ) → signed_in error ≡ Some e → number_in last_number value ≡ None
    → tested (ret_tests (error ∷ value ∷ [])) (ret_in (error ∷ value ∷ [])) ≡ Err BadNumber
ret_bad_value error value e first second = rw (signed_some error e first, is_number_none last_number value second) refl

-- ---- tests one after another

value_of : {A F : Type 0} (o : Option F) (x y : A) → or_fault o x ≡ Ok y → (o ≡ None) × (x ≡ y)
value_of None x y e = (refl, cc)
value_of (Some fault) x y e = absurd cc

fault_of : {A F : Type 0} (o : Option F) (x : A) (fault : F) → or_fault o x ≡ Err fault → o ≡ Some fault
fault_of None x fault e = absurd cc
fault_of (Some f) x fault e = cc

module _ {A B C F : Type 0} (tests more : List (Bool × F)) (value : A) (later : B) (all : C) where
  pub first_bad : (fault : F) → Err fault ≡ tested tests value → Err fault ≡ tested (tests ++ more) all
  first_bad fault bad = sym (tested_fail tests more all fault (fault_of (first_that_holds tests) value fault (sym bad)))

  pub second_bad : (a : A) (fault : F) → Ok a ≡ tested tests value → Err fault ≡ tested more later → Err fault ≡ tested (tests ++ more) all
  second_bad a fault good bad =
      let first = value_of (first_that_holds tests) value a (sym good) in
      sym (tested_pass tests more all first.0 ∙ ap (λ (o : Option F). or_fault o all) (fault_of (first_that_holds more) later fault (sym bad)))

pub both_good : {A B F : Type 0} (tests more : List (Bool × F)) (value a : A) (later b : B) (all found : A × B) → all ≡ (value, later) → found ≡ (a, b) → Ok a ≡ tested tests value
    → Ok b ≡ tested more later → Ok found ≡ tested (tests ++ more) all
both_good tests more value a later b all found is was good after =
    let first = value_of (first_that_holds tests) value a (sym good) in
    let second = value_of (first_that_holds more) later b (sym after) in
    rw (is, was) (sym (tested_pass tests more (value, later) first.0 ∙ rw (second.0, first.1, second.1) refl))

-- what is made of a value that is read
pub made_good : {A B F : Type 0} (f : A → B) (tests : List (Bool × F)) (value a : A) → Ok a ≡ tested tests value → Ok (f a) ≡ tested tests (f value)
made_good f tests value a good =
    let first = value_of (first_that_holds tests) value a (sym good) in
    rw first.0 (ap (λ x. Ok (f x)) (sym first.1))
