-- A condition's beginning goes on with one of a few texts.
use Rattle.std.proofs.Common.{◌≡◌, ℕ, ◌+◌, ◌-◌, ◌<◌, ◌≤◌, take, get_or, below_more, Result, Ok, Err, Bool, true, false, List, [], ◌∷◌, ◌++◌, length, Option, Some, None, codes, refl, sym, ap, ◌∙◌, subst, inl, inr, append_assoc, length-append, arith}
use Rattle.std.specs.Prelude.{◌⊎◌, ◌≢◌, slice_get}
use Rattle.std.specs.List.{AllZip}
use Rattle.std.proofs.lemmas.Grind.{flat_map-append}
use Rattle.std.proofs.lemmas.List.{append-nil, get_or-map, length-map, take-map}
use Rattle.std.proofs.lemmas.Option.{get_or_from_slice_get, slice_get-get_or, slice_get_within}
use Rattle.line_words.specs.Values.{words_in}
use Rattle.condition_script.specs.declared.items.Item.{Item}
use Rattle.condition_script.specs.declared.keywords.Keyword.{Keyword}
use Rattle.condition_script.specs.declared.keywords.Keyword.TheVariants as keywords
use Rattle.condition_script.specs.declared.rules.Ending.{Ending}
use Rattle.condition_script.specs.declared.rules.Ending.TheVariants.{Quiet}
use Rattle.condition_script.specs.declared.marks.Mark.{Mark}
use Rattle.condition_script.specs.declared.marks.Mark.TheVariants.{Unfirm, Unlenient, Unsteady}
use Rattle.condition_script.specs.Grammar.{AreEndings, ArePatterns, AsksNumber, Before, CanEnd, Each, End, IsAsked, IsAsking, IsNameAndNumbers, IsPattern, IsRule, IsRuleOf, IsStepPattern, IsWithout, Never, NeverAfter, OfSome, RuleValue, Wanted, asked_words, behind, comma_apart, ending_word, ends_meant, has_mark, is_mark, mark_name, marked, most_numbers, rule_value, up_to, with_commas}
use Rattle.std.specs.Borrow.{Bor}
use Rattle.condition_script.specs.declared.faults.Unread.{Unread}
use Rattle.condition_script.specs.declared.faults.Wrong.{Wrong}
use Rattle.condition_script.specs.declared.faults.Wrong.TheVariants.{NoMemory}
use Rattle.condition_script.specs.declared.rules.Rule.{Rule}
use Rattle.condition_script.specs.declared.words.Word.{Word}
use Rattle.condition_script.specs.FirstFault.{IsBeginning, IsCondition, IsFaultColumn, IsLongestBeginning, IsUnreadable}
use Rattle.condition_script.specs.Inside.Reading.{Decides, Gives, GoesOnBy, IsBetween, IsRead, bytes_of, texts}

-- ---- texts that conditions go on with

abbrev pub completions : List (List ℕ)
completions =
    codes "" ∷ codes "_" ∷ codes "-> _" ∷ codes "_ -> _" ∷ codes ", _" ∷ codes "_ , _" ∷ codes "quiet" ∷ codes "end" ∷ codes "never _" ∷ []

-- the words of one of these texts
pub record IsCompletion (more : List (List ℕ)) : Type 0 where
  pub k : ℕ
  pub text : List ℕ
  pub stands : slice_get completions k ≡ Some text
  pub are : more ≡ words_in text

by_nothing : IsCompletion []
unfolding words_in
by_nothing = record { k = 0; text = codes ""; stands = refl; are = refl }

by_any : IsCompletion (codes "_" ∷ [])
unfolding words_in
by_any = record { k = 1; text = codes "_"; stands = refl; are = refl }

by_reply : IsCompletion (codes "->" ∷ codes "_" ∷ [])
unfolding words_in
by_reply = record { k = 2; text = codes "-> _"; stands = refl; are = refl }

by_step_reply : IsCompletion (codes "_" ∷ codes "->" ∷ codes "_" ∷ [])
unfolding words_in
by_step_reply = record { k = 3; text = codes "_ -> _"; stands = refl; are = refl }

by_second : IsCompletion (codes "," ∷ codes "_" ∷ [])
unfolding words_in
by_second = record { k = 4; text = codes ", _"; stands = refl; are = refl }

by_both : IsCompletion (codes "_" ∷ codes "," ∷ codes "_" ∷ [])
unfolding words_in
by_both = record { k = 5; text = codes "_ , _"; stands = refl; are = refl }

by_end : IsCompletion (codes "quiet" ∷ [])
unfolding words_in
by_end = record { k = 6; text = codes "quiet"; stands = refl; are = refl }

by_can_end : IsCompletion (codes "end" ∷ [])
unfolding words_in
by_can_end = record { k = 7; text = codes "end"; stands = refl; are = refl }

by_never : IsCompletion (codes "never" ∷ codes "_" ∷ [])
unfolding words_in
by_never = record { k = 8; text = codes "never _"; stands = refl; are = refl }

-- with the words of one of the texts behind them, words are such
pub record GoesOn (P : List (List ℕ) → Type 0) (words : List (List ℕ)) : Type 0 where
  pub more : List (List ℕ)
  pub is_completion : IsCompletion more
  pub holds : P (words ++ more)

-- they are such, or would be with `_` behind them
abbrev pub Reaches : (P : List (List ℕ) → Type 0) → List (List ℕ) → Type 0
Reaches P words = P words ⊎ P (words ++ codes "_" ∷ [])

goes : (P : List (List ℕ) → Type 0) (words : List (List ℕ)) → Reaches P words → GoesOn P words
goes P words (inl is) = record { more = []; is_completion = by_nothing; holds = rw (append-nil words) is }
goes P words (inr is) = record { more = codes "_" ∷ []; is_completion = by_any; holds = is }

-- ---- marks among words

bool_cases : (b : Bool) → (b ≡ true) ⊎ (b ≡ false)
bool_cases true = inl refl
bool_cases false = inr refl

module _ (mark : List ℕ) where
  -- words without the mark
  has_behind : (words more : List (List ℕ)) → has_mark mark words ≡ false → has_mark mark (words ++ more) ≡ has_mark mark more
  has_behind [] more none = refl
  has_behind (word ∷ words) more none = elim (bool_cases (is_mark mark word)) [
    | inl here ↦ let e = rw here at none in absurd cc
    | inr other ↦ let e = rw other at none in rw other (has_behind words more e)
  ]

  up_to_behind : (words more : List (List ℕ)) → has_mark mark words ≡ false → up_to mark (words ++ more) ≡ words ++ up_to mark more
  up_to_behind [] more none = refl
  up_to_behind (word ∷ words) more none = elim (bool_cases (is_mark mark word)) [
    | inl here ↦ let e = rw here at none in absurd cc
    | inr other ↦ let e = rw other at none in rw other (ap (λ ws. word ∷ ws) (up_to_behind words more e))
  ]

  behind_behind : (words more : List (List ℕ)) → has_mark mark words ≡ false → behind mark (words ++ more) ≡ behind mark more
  behind_behind [] more none = refl
  behind_behind (word ∷ words) more none = elim (bool_cases (is_mark mark word)) [
    | inl here ↦ let e = rw here at none in absurd cc
    | inr other ↦ let e = rw other at none in rw other (behind_behind words more e)
  ]

  -- words with the mark
  has_within : (words more : List (List ℕ)) → has_mark mark words ≡ true → has_mark mark (words ++ more) ≡ true
  has_within [] more has = absurd cc
  has_within (word ∷ words) more has = elim (bool_cases (is_mark mark word)) [
    | inl here ↦ rw here refl
    | inr other ↦ let e = rw other at has in rw other (has_within words more e)
  ]

  up_to_within : (words more : List (List ℕ)) → has_mark mark words ≡ true → up_to mark (words ++ more) ≡ up_to mark words
  up_to_within [] more has = absurd cc
  up_to_within (word ∷ words) more has = elim (bool_cases (is_mark mark word)) [
    | inl here ↦ rw here refl
    | inr other ↦ let e = rw other at has in rw other (ap (λ ws. word ∷ ws) (up_to_within words more e))
  ]

  behind_within : (words more : List (List ℕ)) → has_mark mark words ≡ true → behind mark (words ++ more) ≡ behind mark words ++ more
  behind_within [] more has = absurd cc
  behind_within (word ∷ words) more has = elim (bool_cases (is_mark mark word)) [
    | inl here ↦ rw here refl
    | inr other ↦ let e = rw other at has in rw other (behind_within words more e)
  ]

  -- none of all, so none of the first
  none_within : (words more : List (List ℕ)) → has_mark mark (words ++ more) ≡ false → has_mark mark words ≡ false
  none_within words more none = elim (bool_cases (has_mark mark words)) [
    | inl has ↦ let e = sym (has_within words more has) ∙ none in absurd cc
    | inr other ↦ other
  ]

-- ---- words that are read one by one

zip_front : {A B : Type 0} (R : A → B → Type 0) (xs more : List A) (ys : List B) → AllZip R (xs ++ more) ys → (zs : List B) × AllZip R xs zs
zip_front R [] more ys zip = ([], tt)
zip_front R (x ∷ xs) more [] zip = absurd zip
zip_front R (x ∷ xs) more (y ∷ ys) zip = let rest = zip_front R xs more ys zip.1 in (y ∷ rest.0, (zip.0, rest.1))

named_front : (is_reply : Bool) (name : List ℕ) (words more : List (List ℕ)) (items : List (Option Item)) → IsNameAndNumbers is_reply (name ∷ (words ++ more)) items
    → (others : List (Option Item)) × IsNameAndNumbers is_reply (name ∷ words) others
named_front is_reply name words more items (item, others, most, is, asks, (short, zip)) =
    let front = zip_front AsksNumber words more others zip in
    (item ∷ front.0, (item, front.0, most, refl, asks, (omega (arith, length-append words more, short), front.1)))

any_named : (is_reply : Bool) → IsNameAndNumbers is_reply (codes "_" ∷ []) (None ∷ [])
any_named is_reply = (None, [], most_numbers is_reply, refl, inl (refl, refl, refl), (omega arith, tt))

abbrev pub IsNamed : (is_reply : Bool) → List (List ℕ) → Type 0
IsNamed is_reply words = (items : List (Option Item)) × IsNameAndNumbers is_reply words items

named_goes : (is_reply : Bool) (words more : List (List ℕ)) (items : List (Option Item)) → IsNameAndNumbers is_reply (words ++ more) items → Reaches (IsNamed is_reply) words
named_goes is_reply [] more items is = inr (None ∷ [], any_named is_reply)
named_goes is_reply (name ∷ words) more items is = inl (named_front is_reply name words more items is)

named_filled : (is_reply : Bool) (words : List (List ℕ)) (items : List (Option Item)) → IsNameAndNumbers is_reply words items → items ≢ []
named_filled is_reply [] items is = absurd is
named_filled is_reply (name ∷ words) items is = λ none. let e = sym none ∙ is.3 in absurd cc

-- ---- steps

abbrev pub IsStepOf : List (List ℕ) → Type 0
IsStepOf words = (items : List (Option Item)) × IsStepPattern words items

step_front : (actor : List ℕ) (words more : List (List ℕ)) (items : List (Option Item)) → IsStepPattern (actor ∷ (words ++ more)) items → IsStepOf (actor ∷ words)
step_front actor [] more items is = (is.0 ∷ [], (is.0, [], refl, is.3, refl))
step_front actor (name ∷ words) more items is =
    let front = named_front false name words more is.1 is.4 in
    (is.0 ∷ front.0, (is.0, front.0, refl, is.3, front.1))

any_step : IsStepPattern (codes "_" ∷ []) (None ∷ [])
any_step = (None, [], refl, inl (refl, refl), refl)

step_goes : (words more : List (List ℕ)) (items : List (Option Item)) → IsStepPattern (words ++ more) items → Reaches IsStepOf words
step_goes [] more items is = inr (None ∷ [], any_step)
step_goes (actor ∷ words) more items is = inl (step_front actor words more items is)

-- ---- patterns

abbrev pub IsPatternOf : List (List ℕ) → Type 0
IsPatternOf words = (p : Wanted) × IsPattern words p

abbrev pub any_wanted : Wanted
any_wanted = record { step = None ∷ []; reply = [] }

any_pattern : IsPattern (codes "_" ∷ []) any_wanted
any_pattern = inl (refl, any_step, refl)

-- the words before an arrow that isn't there yet are a step's
step_of : (words more : List (List ℕ)) (p : Wanted) → has_mark (codes "->") words ≡ false → IsPattern (words ++ more) p → Reaches IsStepOf words
step_of words more p none (inl x) = step_goes words more p.step x.1
step_of words more p none (inr x) = step_goes words (up_to (codes "->") more) p.step (rw (up_to_behind (codes "->") words more none) at x.1)

stepped : (words : List (List ℕ)) → has_mark (codes "->") words ≡ false → Reaches IsStepOf words → Reaches IsPatternOf words
stepped words none (inl (items, is)) = inl (record { step = items; reply = [] }, inl (none, is, refl))
stepped words none (inr (items, is)) = inr (record { step = items; reply = [] }, inl (has_behind (codes "->") words (codes "_" ∷ []) none, is, refl))

replied : (words : List (List ℕ)) (items : List (Option Item)) → has_mark (codes "->") words ≡ true → IsStepPattern (up_to (codes "->") words) items
    → Reaches (IsNamed true) (behind (codes "->") words) → Reaches IsPatternOf words
replied words items has step (inl (others, is)) = inl (record { step = items; reply = others }, inr (has, step, is))
replied words items has step (inr (others, is)) =
    inr (
      record { step = items; reply = others },
      inr (
        has_within (codes "->") words (codes "_" ∷ []) has,
        rw (up_to_within (codes "->") words (codes "_" ∷ []) has) step,
        rw (behind_within (codes "->") words (codes "_" ∷ []) has) is,
      ),
    )

marked_goes : (words more : List (List ℕ)) (p : Wanted) → has_mark (codes "->") words ≡ true → IsPattern (words ++ more) p → Reaches IsPatternOf words
marked_goes words more p has (inl x) = let e = sym (has_within (codes "->") words more has) ∙ x.0 in absurd cc
marked_goes words more p has (inr x) =
    replied words p.step has (rw (up_to_within (codes "->") words more has) at x.1)
    (named_goes true (behind (codes "->") words) more p.reply (rw (behind_within (codes "->") words more has) at x.2))

pattern_goes : (words more : List (List ℕ)) (p : Wanted) → IsPattern (words ++ more) p → Reaches IsPatternOf words
pattern_goes words more p is = elim (bool_cases (has_mark (codes "->") words)) [
  | inl has ↦ marked_goes words more p has is
  | inr none ↦ stepped words none (step_of words more p none is)
]

-- a pattern whose reply follows
with_reply : (words : List (List ℕ)) (items : List (Option Item)) → has_mark (codes "->") words ≡ false → IsStepPattern words items
    → IsPattern (words ++ codes "->" ∷ codes "_" ∷ []) (record { step = items; reply = None ∷ [] })
with_reply words items none is = inr (
  has_behind (codes "->") words (codes "->" ∷ codes "_" ∷ []) none,
  rw (up_to_behind (codes "->") words (codes "->" ∷ codes "_" ∷ []) none, append-nil words) is,
  rw (behind_behind (codes "->") words (codes "->" ∷ codes "_" ∷ []) none) (any_named true),
)

-- a pattern with an arrow has a reply
has_reply : (words : List (List ℕ)) (p : Wanted) → has_mark (codes "->") words ≡ true → IsPattern words p → p.reply ≢ []
has_reply words p has (inl x) = let e = sym has ∙ x.0 in absurd cc
has_reply words p has (inr x) = named_filled true (behind (codes "->") words) p.reply x.2

-- ---- two patterns

module _ (mark : List ℕ) where
  abbrev pub ArePatternsOf : List (List ℕ) → Type 0
  ArePatternsOf words = (p q : Wanted) × ArePatterns mark words p q

  second_of : (words : List (List ℕ)) (p : Wanted) → has_mark mark words ≡ true → IsPattern (up_to mark words) p → Reaches IsPatternOf (behind mark words) → Reaches ArePatternsOf words
  second_of words p has first (inl (q, is)) = inl (p, q, (has, first, is))
  second_of words p has first (inr (q, is)) =
      inr (
        p,
        q,
        (
          has_within mark words (codes "_" ∷ []) has,
          rw (up_to_within mark words (codes "_" ∷ []) has) first,
          rw (behind_within mark words (codes "_" ∷ []) has) is,
        ),
      )

  two_go : (words more : List (List ℕ)) (p q : Wanted) → has_mark mark words ≡ true → ArePatterns mark (words ++ more) p q → Reaches ArePatternsOf words
  two_go words more p q has two =
      second_of words p has (rw (up_to_within mark words more has) at two.1)
      (pattern_goes (behind mark words) more q (rw (behind_within mark words more has) at two.2))

  first_goes : (words more : List (List ℕ)) (p : Wanted) → has_mark mark words ≡ false → IsPattern (up_to mark (words ++ more)) p → Reaches IsPatternOf words
  first_goes words more p none is = pattern_goes words (up_to mark more) p (rw (up_to_behind mark words more none) at is)

-- ---- what keywords ask

abbrev pub IsOf : Keyword → List (List ℕ) → Type 0
IsOf keyword words = (asked : RuleValue) × IsRuleOf keyword words asked

never_alone : (words : List (List ℕ)) → has_mark (codes "after") words ≡ false → Reaches IsPatternOf words → Reaches (IsOf keywords.Never) words
never_alone words none (inl (p, is)) = inl (Never p, inl (p, refl, none, is))
never_alone words none (inr (p, is)) = inr (Never p, inl (p, refl, has_behind (codes "after") words (codes "_" ∷ []) none, is))

never_after : (words : List (List ℕ)) → Reaches (ArePatternsOf (codes "after")) words → Reaches (IsOf keywords.Never) words
never_after words (inl (p, q, are)) = inl (NeverAfter p q, inr (inl (p, q, refl, are)))
never_after words (inr (p, q, are)) = inr (NeverAfter p q, inr (inl (p, q, refl, are)))

never_mark : (words more : List (List ℕ)) (mark : Mark) → words ++ more ≡ mark_name mark ∷ [] → Reaches (IsOf keywords.Never) words
never_mark [] more mark is = inr (Never any_wanted, inl (any_wanted, refl, refl, any_pattern))
never_mark (word ∷ []) more mark is =
    let same : word ≡ mark_name mark = cc in
    inl (Never (marked mark (None ∷ [])), inr (inr (mark, refl, ap (λ w. w ∷ []) same)))
never_mark (word ∷ other ∷ words) more mark is = let e = is in absurd cc

never_goes : (words more : List (List ℕ)) (asked : RuleValue) → IsRuleOf keywords.Never (words ++ more) asked → Reaches (IsOf keywords.Never) words
never_goes words more asked (inl x) =
    never_alone words (none_within (codes "after") words more x.2) (pattern_goes words more x.0 x.3)
never_goes words more asked (inr (inr x)) = never_mark words more x.0 x.2
never_goes words more asked (inr (inl x)) = elim (bool_cases (has_mark (codes "after") words)) [
  | inl has ↦ never_after words (two_go (codes "after") words more x.0 x.1 has x.3)
  | inr none ↦ never_alone words none (first_goes (codes "after") words more x.0 none x.3.1)
]

some_reached : (words : List (List ℕ)) → Reaches IsPatternOf words → Reaches (IsOf keywords.Some) words
some_reached words (inl (p, is)) = inl (OfSome p, (p, refl, is))
some_reached words (inr (p, is)) = inr (OfSome p, (p, refl, is))

each_reached : (words : List (List ℕ)) → has_mark (codes "->") words ≡ true → Reaches IsPatternOf words → Reaches (IsOf keywords.Each) words
each_reached words has (inl (p, is)) = inl (Each p, (p, refl, is, has_reply words p has is))
each_reached words has (inr (p, is)) =
    inr (Each p, (p, refl, is, has_reply (words ++ codes "_" ∷ []) p (has_within (codes "->") words (codes "_" ∷ []) has) is))

each_of : (words : List (List ℕ)) (items : List (Option Item)) → has_mark (codes "->") words ≡ false → IsStepPattern words items
    → IsOf keywords.Each (words ++ codes "->" ∷ codes "_" ∷ [])
each_of words items none is =
    let p : Wanted = record { step = items; reply = None ∷ [] } in
    (Each p, (p, refl, with_reply words items none is, λ e. cc))

each_stepped : (words : List (List ℕ)) → has_mark (codes "->") words ≡ false → Reaches IsStepOf words → GoesOn (IsOf keywords.Each) words
each_stepped words none (inl (items, is)) = record { more = codes "->" ∷ codes "_" ∷ []; is_completion = by_reply; holds = each_of words items none is }
each_stepped words none (inr (items, is)) = record {
  more = codes "_" ∷ codes "->" ∷ codes "_" ∷ [];
  is_completion = by_step_reply;
  holds = subst (IsOf keywords.Each) (append_assoc words (codes "_" ∷ []) (codes "->" ∷ codes "_" ∷ []))
      (each_of (words ++ codes "_" ∷ []) items (has_behind (codes "->") words (codes "_" ∷ []) none) is);
}

each_goes : (words more : List (List ℕ)) (asked : RuleValue) → IsRuleOf keywords.Each (words ++ more) asked → GoesOn (IsOf keywords.Each) words
each_goes words more asked x = elim (bool_cases (has_mark (codes "->") words)) [
  | inl has ↦ goes (IsOf keywords.Each) words (each_reached words has (marked_goes words more x.0 has x.2))
  | inr none ↦ each_stepped words none (step_of words more x.0 none x.2)
]

end_goes : (words more : List (List ℕ)) (asked : RuleValue) → IsRuleOf keywords.End (words ++ more) asked → GoesOn (IsOf keywords.End) words
end_goes [] more asked x =
    record { more = codes "quiet" ∷ []; is_completion = by_end; holds = (End (Quiet ∷ []), (Quiet ∷ [], refl, (λ e. cc), (refl, tt))) }
end_goes (word ∷ words) more asked x =
    let front = zip_front (λ w ending. w ≡ ending_word ending) (word ∷ words) more x.0 x.3 in
    goes (IsOf keywords.End) (word ∷ words) (inl (End front.0, (front.0, refl, (λ e. cc), front.1)))

-- two patterns, of which the first is there
second_behind : (words : List (List ℕ)) (p : Wanted) → has_mark (codes ",") words ≡ false → IsPattern words p
    → ArePatterns (codes ",") (words ++ codes "," ∷ codes "_" ∷ []) p any_wanted
second_behind words p none is = (
  has_behind (codes ",") words (codes "," ∷ codes "_" ∷ []) none,
  rw (up_to_behind (codes ",") words (codes "," ∷ codes "_" ∷ []) none, append-nil words) is,
  rw (behind_behind (codes ",") words (codes "," ∷ codes "_" ∷ []) none) any_pattern,
)

commas : (words more : List (List ℕ)) → with_commas (words ++ more) ≡ with_commas words ++ with_commas more
commas words more = flat_map-append comma_apart words more

before_reached : (words : List (List ℕ)) → Reaches (ArePatternsOf (codes ",")) (with_commas words) → Reaches (IsOf keywords.Before) words
before_reached words (inl (p, q, are)) = inl (Before p q, (p, q, refl, are))
before_reached words (inr (p, q, are)) =
    inr (Before p q, (p, q, refl, subst (λ ws. ArePatterns (codes ",") ws p q) (sym (commas words (codes "_" ∷ []))) are))

before_first : (words : List (List ℕ)) → has_mark (codes ",") (with_commas words) ≡ false → Reaches IsPatternOf (with_commas words) → GoesOn (IsOf keywords.Before) words
before_first words none (inl (p, is)) = record {
  more = codes "," ∷ codes "_" ∷ [];
  is_completion = by_second;
  holds = (
    Before p any_wanted,
    (
      p,
      any_wanted,
      refl,
      subst (λ ws. ArePatterns (codes ",") ws p any_wanted) (sym (commas words (codes "," ∷ codes "_" ∷ [])))
          (second_behind (with_commas words) p none is),
    ),
  );
}
before_first words none (inr (p, is)) = record {
  more = codes "_" ∷ codes "," ∷ codes "_" ∷ [];
  is_completion = by_both;
  holds = (
    Before p any_wanted,
    (
      p,
      any_wanted,
      refl,
      subst (λ ws. ArePatterns (codes ",") ws p any_wanted)
          (append_assoc (with_commas words) (codes "_" ∷ []) (codes "," ∷ codes "_" ∷ []) ∙ sym (commas words (codes "_" ∷ codes "," ∷ codes "_" ∷ [])))
          (second_behind (with_commas words ++ codes "_" ∷ []) p (has_behind (codes ",") (with_commas words) (codes "_" ∷ []) none) is),
    ),
  );
}

before_goes : (words more : List (List ℕ)) (asked : RuleValue) → IsRuleOf keywords.Before (words ++ more) asked → GoesOn (IsOf keywords.Before) words
before_goes words more asked x =
    let are : ArePatterns (codes ",") (with_commas words ++ with_commas more) x.0 x.1 = subst (λ ws. ArePatterns (codes ",") ws x.0 x.1) (commas words more) x.3 in
    elim (bool_cases (has_mark (codes ",") (with_commas words))) [
      | inl has ↦ goes (IsOf keywords.Before) words (before_reached words (two_go (codes ",") (with_commas words) (with_commas more) x.0 x.1 has are))
      | inr none ↦ before_first words none (first_goes (codes ",") (with_commas words) (with_commas more) x.0 none are.1)
    ]

can_front : (words more others : List (List ℕ)) (ends : List Ending) → words ++ more ≡ others → has_mark (codes "history-full") others ≡ false → AreEndings others ends
    → (front : List Ending) × (has_mark (codes "history-full") words ≡ false) × AreEndings words front
can_front words more others ends is none are =
    let front = zip_front (λ w ending. w ≡ ending_word ending) words more ends (subst (λ ws. AreEndings ws ends) (sym is) are) in
    (front.0, none_within (codes "history-full") words more (subst (λ ws. has_mark (codes "history-full") ws ≡ false) (sym is) none), front.1)

can_goes : (words more : List (List ℕ)) (asked : RuleValue) → IsRuleOf keywords.Can (words ++ more) asked → GoesOn (IsOf keywords.Can) words
can_goes [] more asked x =
    record { more = codes "end" ∷ []; is_completion = by_can_end; holds = (CanEnd (ends_meant []), ([], [], refl, refl, refl, tt)) }
can_goes (word ∷ words) more asked x =
    let first : word ≡ codes "end" = let e = x.3 in cc in
    let front = can_front words more x.1 x.0 (let e = x.3 in cc) x.4 x.5 in
    goes (IsOf keywords.Can) (word ∷ words) (inl (CanEnd (ends_meant front.0), (front.0, words, refl, ap (λ w. w ∷ words) first, front.1, front.2)))

abbrev IsWithoutOf : Mark → List (List ℕ) → Type 0
IsWithoutOf mark words = (asked : RuleValue) × IsWithout mark words asked

without_goes : (mark : Mark) (words more : List (List ℕ)) (asked : RuleValue) → IsWithout mark (words ++ more) asked → GoesOn (IsWithoutOf mark) words
without_goes mark [] more asked x = goes (IsWithoutOf mark) [] (inl (Never (marked mark (None ∷ [])), (None ∷ [], refl, refl)))
without_goes mark (actor ∷ words) more asked x =
    let front = step_front actor words more x.0 x.2 in
    goes (IsWithoutOf mark) (actor ∷ words) (inl (Never (marked mark front.0), (front.0, refl, front.1)))

keyword_goes : (keyword : Keyword) (words more : List (List ℕ)) (asked : RuleValue) → IsRuleOf keyword (words ++ more) asked → GoesOn (IsOf keyword) words
keyword_goes keywords.Never words more asked x = goes (IsOf keywords.Never) words (never_goes words more asked x)
keyword_goes keywords.Some words more asked x = goes (IsOf keywords.Some) words (some_reached words (pattern_goes words more x.0 x.2))
keyword_goes keywords.Each words more asked x = each_goes words more asked x
keyword_goes keywords.End words more asked x = end_goes words more asked x
keyword_goes keywords.Before words more asked x = before_goes words more asked x
keyword_goes keywords.Can words more asked x = can_goes words more asked x
keyword_goes keywords.Steady words more asked x = without_goes Unsteady words more asked x
keyword_goes keywords.Firm words more asked x = without_goes Unfirm words more asked x
keyword_goes keywords.Lenient words more asked x = without_goes Unlenient words more asked x

-- ---- conditions

abbrev pub Asks : List (List ℕ) → Type 0
Asks words = (asked : RuleValue) × IsAsked words asked

never_any : Asks (codes "never" ∷ codes "_" ∷ [])
never_any = (Never any_wanted, (keywords.Never, refl, inl (any_wanted, refl, refl, any_pattern)))

asked_goes : (words more : List (List ℕ)) (asked : RuleValue) → IsAsked (words ++ more) asked → GoesOn Asks words
asked_goes [] more asked x = record { more = codes "never" ∷ codes "_" ∷ []; is_completion = by_never; holds = never_any }
asked_goes (word ∷ words) more asked x =
    let on = keyword_goes x.0 words more asked x.2 in
    record { more = on.more; is_completion = on.is_completion; holds = (on.holds.0, (x.0, x.1, on.holds.1)) }

plain : (words : List (List ℕ)) → GoesOn Asks words → GoesOn IsCondition words
plain words on = record { more = on.more; is_completion = on.is_completion; holds = (false, on.holds.0, on.holds.1) }

condition_goes : (words more : List (List ℕ)) (is_maybe : Bool) (asked : RuleValue) → IsRule (words ++ more) is_maybe asked → GoesOn IsCondition words
condition_goes words more false asked x = plain words (asked_goes words more asked x)
condition_goes [] more true asked x = plain [] (record { more = codes "never" ∷ codes "_" ∷ []; is_completion = by_never; holds = never_any })
condition_goes (word ∷ words) more true asked x =
    let on = asked_goes words more asked x.1 in
    record { more = on.more; is_completion = on.is_completion; holds = (true, on.holds.0, (x.0, on.holds.1)) }

pub beginning_goes : (words : List (List ℕ)) → IsBeginning words → GoesOn IsCondition words
beginning_goes words is = condition_goes words is.0 is.1.0 is.1.1 is.1.2

-- nothing is no fault: each condition begins so
pub nothing_begins : IsBeginning []
nothing_begins = (codes "never" ∷ codes "_" ∷ [], (false, never_any.0, never_any.1))

-- ---- the longest beginning

pub longest_is : (words : List Word) (least most : ℕ) → most ≤ least → IsBetween words least most → IsLongestBeginning (texts words) least
longest_is words least most over is =
    let same : most ≡ least = omega (arith, over, is.ordered) in
    let long : length (texts words) ≡ length words = length-map words (λ word. word.text.now) in
    record {
      within = omega (arith, is.ordered, is.within, long);
      goes_on = subst IsBeginning (sym (take-map (λ word. word.text.now) least words)) is.goes_on;
      stops = λ less begins. is.stops (omega (arith, less, long, same))
          (subst IsBeginning (take-map (λ word. word.text.now) (least + 1) words ∙ ap (λ n. texts (take (n + 1) words)) (sym same)) begins);
    }

pub begins_there : (words : List Word) (least most middle : ℕ) → least < middle → middle ≤ most → IsBetween words least most → IsBeginning (texts (take middle words)) → IsBetween words middle most
begins_there words least most middle low high is begins = record { ordered = high; within = is.within; goes_on = begins; stops = is.stops }

pub stops_there : (words : List Word) (least most middle : ℕ) → least < middle → middle ≤ most → IsBetween words least most → (IsBeginning (texts (take middle words)) → ⊥) → IsBetween words least (middle - 1)
stops_there words least most middle low high is none =
    let same : middle - 1 + 1 ≡ middle = omega arith in
    record {
      ordered = omega arith;
      within = omega (arith, is.within);
      goes_on = is.goes_on;
      stops = λ less begins. none (subst (λ n. IsBeginning (texts (take n words))) same begins);
    }

-- ---- all texts were tried

same_bytes : (xs : List (Bor (List ℕ))) (k : ℕ) (d : Bor (List ℕ)) → k < length xs → get_or (bytes_of xs) k [] ≡ (get_or xs k d).now
same_bytes xs k d within = get_or-map (λ text. text.now) xs k d [] within

pub goes_here : (words : List (List ℕ)) (xs : List (Bor (List ℕ))) (k : ℕ) (d : Bor (List ℕ)) → k < length xs → IsCondition (words ++ words_in (get_or xs k d).now) → GoesOnBy words (bytes_of xs)
goes_here words xs k d within is = (
  k,
  get_or (bytes_of xs) k [],
  slice_get-get_or (bytes_of xs) k [] (rw (length-map xs (λ text. text.now)) within),
  subst (λ t. IsCondition (words ++ words_in t)) (sym (same_bytes xs k d within)) is,
)

abbrev pub NoneGoesOn : List (List ℕ) → List (Bor (List ℕ)) → ℕ → Type 0
NoneGoesOn words xs n = (k : ℕ) → k < n → (text : List ℕ) → slice_get (bytes_of xs) k ≡ Some text → IsCondition (words ++ words_in text) → ⊥

pub none_more_goes : (words : List (List ℕ)) (xs : List (Bor (List ℕ))) (n : ℕ) (d : Bor (List ℕ)) → n < length xs → (IsCondition (words ++ words_in (get_or xs n d).now) → ⊥)
    → NoneGoesOn words xs n → NoneGoesOn words xs (n + 1)
none_more_goes words xs n d within other none =
    let P : ℕ → Type 0 = λ k. (text : List ℕ) → slice_get (bytes_of xs) k ≡ Some text → IsCondition (words ++ words_in text) → ⊥ in
    below_more P n none (λ text at is. other (subst (λ t. IsCondition (words ++ words_in t)) (sym (get_or_from_slice_get (bytes_of xs) n text [] at) ∙ same_bytes xs n d within) is))

pub none_goes : (words : List (List ℕ)) (xs : List (Bor (List ℕ))) (n : ℕ) → length xs ≤ n → NoneGoesOn words xs n → GoesOnBy words (bytes_of xs) → ⊥
none_goes words xs n all none on =
    let within : on.0 < length (bytes_of xs) = slice_get_within (bytes_of xs) on.0 on.1 on.2 in
    let long : length (bytes_of xs) ≡ length xs = length-map xs (λ text. text.now) in
    none on.0 (omega (arith, within, long, all)) on.1 on.2 on.3

-- ---- what is told of words

pub read_tells : (all words : List (List ℕ)) → words ≡ all → (found : Result (Bool × Rule) Wrong) (result : Result Bool Wrong)
    → Gives {A = Bool × RuleValue} (λ f. (f.0, rule_value f.1)) (λ r. IsRule words r.0 r.1) found → IsRead found result → Decides result (IsCondition all)
read_tells all words same (Ok f) (Ok is) gives says = ((λ _. (f.0, rule_value f.1, subst (λ ws. IsRule ws f.0 (rule_value f.1)) same gives)), (λ _. says))
read_tells all words same (Ok f) (Err wrong) gives says = absurd says
read_tells all words same (Err wrong) (Ok is) (inl lacks) says = absurd (says.1 lacks)
read_tells all words same (Err wrong) (Ok is) (inr none) says =
    ((λ t. absurd (let e = sym says.0 ∙ t in cc)), (λ c. absurd (none (c.0, c.1) (subst (λ ws. IsRule ws c.0 c.1) (sym same) c.2))))
read_tells all words same (Err wrong) (Err other) gives says = says

pub begins_by : (words : List (List ℕ)) → GoesOnBy words completions → IsBeginning words
begins_by words on = (words_in on.1, on.3)

pub goes_by : (words : List (List ℕ)) → IsBeginning words → GoesOnBy words completions
goes_by words begins =
    let on = beginning_goes words begins in
    (on.is_completion.k, on.is_completion.text, on.is_completion.stands, subst (λ more. IsCondition (words ++ more)) on.is_completion.are on.holds)

pub tells_beginning : (words : List (List ℕ)) (result : Result Bool Wrong) → Decides result (GoesOnBy words completions) → Decides result (IsBeginning words)
tells_beginning words (Ok is) tells = ((λ t. begins_by words (tells.0 t)), (λ begins. tells.1 (goes_by words begins)))
tells_beginning words (Err wrong) lacks = lacks

-- ---- lines

pub line_unread : (n : ℕ) (text rest : List ℕ) (words : List (List ℕ)) → IsAsking n text rest → words ≡ asked_words rest → (wrong : Wrong)
    → (wrong ≡ NoMemory) ⊎ ((a : Bool × RuleValue) → IsRule words a.0 a.1 → ⊥) → (u : Unread) → (u.wrong ≡ NoMemory) ⊎ ((wrong ≡ NoMemory → u.wrong ≡ NoMemory) × IsFaultColumn text rest u.column)
    → (u.wrong ≡ NoMemory) ⊎ IsUnreadable n text u.column
line_unread n text rest words asking same wrong found u (inl lacks) = inl lacks
line_unread n text rest words asking same wrong (inl lacks) u (inr placed) = inl (placed.0 lacks)
line_unread n text rest words asking same wrong (inr none) u (inr placed) = inr (record {
  rest = rest;
  is_asking = asking;
  no_condition = λ c. none (c.0, c.1) (subst (λ ws. IsRule ws c.0 c.1) (sym same) c.2);
  is_there = placed.1;
})
