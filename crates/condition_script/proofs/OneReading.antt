-- Bytes have one list of conditions at most.
use Rattle.std.proofs.Common.{◌≡◌, ℕ, zero, suc, ◌+◌, ◌<◌, ◌≤◌, Bool, true, false, List, [], ◌∷◌, ◌++◌, take, Option, Some, None, codes, refl, sym, ap, ◌∙◌, subst, inl, inr, append_assoc, arith}
use Rattle.std.proofs.lemmas.Bool.{cases_order}
use Rattle.std.specs.List.{AllZip}
use Rattle.std.specs.Str.{bytes_eq}
use Rattle.std.specs.Str.Lines.{lines}
use Rattle.std.proofs.lemmas.Slice.Eq.{bytes_eq-Decides}
use Rattle.script_lines.specs.Names.{last_hart, op_named, op_word, said_named, said_word}
use Rattle.line_words.specs.Values.{number_in}
use Rattle.condition_script.specs.declared.items.Item.{Item}
use Rattle.condition_script.specs.declared.keywords.Keyword.{Keyword}
use Rattle.condition_script.specs.declared.keywords.Keyword.TheVariants as keywords
use Rattle.condition_script.specs.declared.marks.Mark.{Mark}
use Rattle.condition_script.specs.declared.marks.Mark.TheVariants.{Missed, Stale, Unfirm, Unlenient, Unsteady}
use Rattle.condition_script.specs.Grammar.{AreEndings, ArePatterns, AsksActor, AsksName, AsksNumber, BeginsAsking, ConditionValue, HasCondition, HaveConditions, IsAsked, IsAsking, IsNameAndNumbers, IsNameOf, IsOperation, IsPattern, IsRule, IsRuleOf, IsStepOrAny, IsStepPattern, RuleValue, Wanted, asked_words, ending_named, ending_word, has_mark, keyword_named, keyword_word, mark_name, mark_named, number_item, with_commas}
use Rattle.condition_script.specs.declared.rules.Ending.{Ending}
use Rattle.condition_script.specs.FirstFault.{HasOneReading, IsBeginning, IsCondition, IsFaultColumn, IsFirstUnreadable, IsLongestBeginning, IsReadable, IsUnreadable, column_behind}
use Rattle.condition_script.proofs.Named.{any_is_no_hart, any_is_no_mark, any_is_no_number, any_is_no_op, any_is_no_said, clock_is_no_hart, clock_is_no_mark, dash_is_no_number, ending_own, keyword_own, mark_is_no_hart, mark_is_no_said, mark_own, maybe_is_no_keyword, none_named, one_named, op_own, said_own}

-- a word with a value isn't one without
other_word : {A : Type 0} (value : List ℕ → Option A) (word other : List ℕ) (a : A) → value word ≡ Some a → value other ≡ None → word ≡ other → ⊥
other_word value word other a is none same = let e = sym is ∙ ap value same ∙ none in absurd cc

one_value : {A : Type 0} (o : Option A) (a b : A) → o ≡ Some a → o ≡ Some b → a ≡ b
one_value o a b x y = let e = sym x ∙ y in cc

-- a word isn't two different ones
pub other_bytes : (word a b : List ℕ) → word ≡ a → word ≡ b → bytes_eq a b ≡ false → ⊥
other_bytes word a b is_a is_b apart = let same = (bytes_eq-Decides a b).1 (sym is_a ∙ is_b) in let e = sym same ∙ apart in absurd cc

-- ---- words

actor_one : (word : List ℕ) (i j : Option Item) → AsksActor word i → AsksActor word j → i ≡ j
actor_one word i j (inl a) (inl b) = a.1 ∙ sym b.1
actor_one word i j (inl a) (inr (inl b)) = absurd (other_bytes word (codes "_") (codes "c") a.0 b.0 refl)
actor_one word i j (inl a) (inr (inr b)) = absurd (other_word (number_in last_hart) word (codes "_") b.0 b.1 (any_is_no_hart last_hart) a.0)
actor_one word i j (inr (inl a)) (inl b) = absurd (other_bytes word (codes "_") (codes "c") b.0 a.0 refl)
actor_one word i j (inr (inl a)) (inr (inl b)) = a.1 ∙ sym b.1
actor_one word i j (inr (inl a)) (inr (inr b)) = absurd (other_word (number_in last_hart) word (codes "c") b.0 b.1 (clock_is_no_hart last_hart) a.0)
actor_one word i j (inr (inr a)) (inl b) = absurd (other_word (number_in last_hart) word (codes "_") a.0 a.1 (any_is_no_hart last_hart) b.0)
actor_one word i j (inr (inr a)) (inr (inl b)) = absurd (other_word (number_in last_hart) word (codes "c") a.0 a.1 (clock_is_no_hart last_hart) b.0)
actor_one word i j (inr (inr a)) (inr (inr b)) = let same = one_value _ a.0 b.0 a.1 b.1 in rw (a.2, b.2, same) refl

number_one : (word : List ℕ) (i j : Option Item) → AsksNumber word i → AsksNumber word j → i ≡ j
number_one word i j (inl a) (inl b) = a.1 ∙ sym b.1
number_one word i j (inl a) (inr (inl b)) = absurd (other_bytes word (codes "_") (codes "-") a.0 b.0 refl)
number_one word i j (inl a) (inr (inr b)) = absurd (other_word number_item word (codes "_") b.0 b.1 any_is_no_number a.0)
number_one word i j (inr (inl a)) (inl b) = absurd (other_bytes word (codes "_") (codes "-") b.0 a.0 refl)
number_one word i j (inr (inl a)) (inr (inl b)) = a.1 ∙ sym b.1
number_one word i j (inr (inl a)) (inr (inr b)) = absurd (other_word number_item word (codes "-") b.0 b.1 dash_is_no_number a.0)
number_one word i j (inr (inr a)) (inl b) = absurd (other_word number_item word (codes "_") a.0 a.1 any_is_no_number b.0)
number_one word i j (inr (inr a)) (inr (inl b)) = absurd (other_word number_item word (codes "-") a.0 a.1 dash_is_no_number b.0)
number_one word i j (inr (inr a)) (inr (inr b)) = let same = one_value _ a.0 b.0 a.1 b.1 in rw (a.2, b.2, same) refl

name_of_one : (is_reply : Bool) (word : List ℕ) (i j : Item) (m n : ℕ) → IsNameOf is_reply word i m → IsNameOf is_reply word j n → (i ≡ j) × (m ≡ n)
name_of_one false word i j m n a b =
    let same = one_named op_named op_word op_own a.0 b.0 (sym a.1 ∙ b.1) in
    rw (a.2, b.2, a.3, b.3, same) (refl, refl)
name_of_one true word i j m n (inl a) (inl b) =
    let same = one_named said_named said_word said_own a.0 b.0 (sym a.2 ∙ b.2) in
    rw (a.3, b.3, a.4, b.4, same) (refl, refl)
name_of_one true word i j m n (inl a) (inr b) = absurd (none_named said_named said_word said_own (mark_name b.0) a.0 (mark_is_no_said b.0) (sym b.1 ∙ a.2))
name_of_one true word i j m n (inr a) (inl b) = absurd (none_named said_named said_word said_own (mark_name a.0) b.0 (mark_is_no_said a.0) (sym a.1 ∙ b.2))
name_of_one true word i j m n (inr a) (inr b) =
    let same = one_named mark_named mark_name mark_own a.0 b.0 (sym a.1 ∙ b.1) in
    rw (a.2, b.2, a.3, b.3, same) (refl, refl)

pub any_is_no_name : (is_reply : Bool) (word : List ℕ) (i : Item) (m : ℕ) → word ≡ codes "_" → IsNameOf is_reply word i m → ⊥
any_is_no_name false word i m any a = none_named op_named op_word op_own (codes "_") a.0 any_is_no_op (sym any ∙ a.1)
any_is_no_name true word i m any (inl a) = none_named said_named said_word said_own (codes "_") a.0 any_is_no_said (sym any ∙ a.2)
any_is_no_name true word i m any (inr a) = none_named mark_named mark_name mark_own (codes "_") a.0 any_is_no_mark (sym any ∙ a.1)

pub name_one : (is_reply : Bool) (word : List ℕ) (i j : Option Item) (m n : ℕ) → AsksName is_reply word i m → AsksName is_reply word j n → (i ≡ j) × (m ≡ n)
name_one is_reply word i j m n (inl a) (inl b) = (a.1 ∙ sym b.1, a.2 ∙ sym b.2)
name_one is_reply word i j m n (inl a) (inr b) = absurd (any_is_no_name is_reply word b.0 n a.0 b.1)
name_one is_reply word i j m n (inr a) (inl b) = absurd (any_is_no_name is_reply word a.0 m b.0 a.1)
name_one is_reply word i j m n (inr a) (inr b) =
    let same = name_of_one is_reply word a.0 b.0 m n a.1 b.1 in
    (rw (a.2, b.2, same.0) refl, same.1)

pub zip_one : {A B : Type 0} (R : A → B → Type 0) → ((a : A) (x y : B) → R a x → R a y → x ≡ y) → (words : List A) (xs ys : List B) → AllZip R words xs → AllZip R words ys → xs ≡ ys
zip_one R one [] [] [] a b = refl
zip_one R one [] (x ∷ xs) ys a b = absurd a
zip_one R one [] [] (y ∷ ys) a b = absurd b
zip_one R one (word ∷ words) [] ys a b = absurd a
zip_one R one (word ∷ words) (x ∷ xs) [] a b = absurd b
zip_one R one (word ∷ words) (x ∷ xs) (y ∷ ys) a b =
    rw (one word x y a.0 b.0, zip_one R one words xs ys a.1 b.1) refl

named_one : (is_reply : Bool) (words : List (List ℕ)) (i j : List (Option Item)) → IsNameAndNumbers is_reply words i → IsNameAndNumbers is_reply words j → i ≡ j
named_one is_reply [] i j a b = absurd a
named_one is_reply (name ∷ words) i j (x, xs, m, is_x, asks_x, more_x) (y, ys, n, is_y, asks_y, more_y) =
    let first = name_one is_reply name x y m n asks_x asks_y in
    let others = zip_one AsksNumber number_one words xs ys more_x.1 more_y.1 in
    rw (is_x, is_y, first.0, others) refl

operation_one : (words : List (List ℕ)) (i j : List (Option Item)) → IsOperation words i → IsOperation words j → i ≡ j
operation_one [] i j a b = a ∙ sym b
operation_one (name ∷ words) i j a b = named_one false (name ∷ words) i j a b

step_one : (words : List (List ℕ)) (i j : List (Option Item)) → IsStepPattern words i → IsStepPattern words j → i ≡ j
step_one [] i j a b = absurd a
step_one (actor ∷ words) i j (x, xs, is_x, asks_x, more_x) (y, ys, is_y, asks_y, more_y) =
    rw (is_x, is_y, actor_one actor x y asks_x asks_y, operation_one words xs ys more_x more_y) refl

step_or_any_one : (words : List (List ℕ)) (i j : List (Option Item)) → IsStepOrAny words i → IsStepOrAny words j → i ≡ j
step_or_any_one [] i j a b = a ∙ sym b
step_or_any_one (actor ∷ words) i j a b = step_one (actor ∷ words) i j a b

-- ---- a mark that stands alone

actor_is_no_mark : (mark : Mark) (item : Option Item) → AsksActor (mark_name mark) item → ⊥
actor_is_no_mark mark item (inl a) = none_named mark_named mark_name mark_own (codes "_") mark any_is_no_mark (sym a.0)
actor_is_no_mark mark item (inr (inl a)) = none_named mark_named mark_name mark_own (codes "c") mark clock_is_no_mark (sym a.0)
actor_is_no_mark mark item (inr (inr a)) = let e = sym a.1 ∙ mark_is_no_hart last_hart mark in cc

no_arrow : (mark : Mark) → has_mark (codes "->") (mark_name mark ∷ []) ≡ true → ⊥
no_arrow Stale e = cc
no_arrow Missed e = cc
no_arrow Unsteady e = cc
no_arrow Unfirm e = cc
no_arrow Unlenient e = cc

pub no_after : (mark : Mark) (words : List (List ℕ)) → words ≡ mark_name mark ∷ [] → has_mark (codes "after") words ≡ true → ⊥
no_after mark words is e = by_mark mark (subst (λ (ws : List (List ℕ)). has_mark (codes "after") ws ≡ true) is e)
  where
    by_mark : (mark : Mark) → has_mark (codes "after") (mark_name mark ∷ []) ≡ true → ⊥
    by_mark Stale e = cc
    by_mark Missed e = cc
    by_mark Unsteady e = cc
    by_mark Unfirm e = cc
    by_mark Unlenient e = cc

mark_is_no_pattern : (mark : Mark) (p : Wanted) → IsPattern (mark_name mark ∷ []) p → ⊥
mark_is_no_pattern mark p (inl x) = actor_is_no_mark mark x.1.0 x.1.3
mark_is_no_pattern mark p (inr x) = no_arrow mark x.0

no_pattern : (mark : Mark) (words : List (List ℕ)) (p : Wanted) → words ≡ mark_name mark ∷ [] → IsPattern words p → ⊥
no_pattern mark words p is pattern = mark_is_no_pattern mark p (subst (λ (ws : List (List ℕ)). IsPattern ws p) is pattern)

-- ---- patterns

wanted_same : (p q : Wanted) → p.step ≡ q.step → p.reply ≡ q.reply → p ≡ q
wanted_same p q step reply =
    ap (λ s. record { step = s; reply = p.reply }) step ∙ ap (λ r. record { step = q.step; reply = r }) reply

pattern_one : (words : List (List ℕ)) (p q : Wanted) → IsPattern words p → IsPattern words q → p ≡ q
pattern_one words p q (inl a) (inl b) = wanted_same p q (step_one _ _ _ a.1 b.1) (a.2 ∙ sym b.2)
pattern_one words p q (inl a) (inr b) = absurd (let e = sym a.0 ∙ b.0 in cc)
pattern_one words p q (inr a) (inl b) = absurd (let e = sym a.0 ∙ b.0 in cc)
pattern_one words p q (inr a) (inr b) = wanted_same p q (step_one _ _ _ a.1 b.1) (named_one true _ _ _ a.2 b.2)

patterns_one : (mark : List ℕ) (words : List (List ℕ)) (p q r s : Wanted) → ArePatterns mark words p q → ArePatterns mark words r s → (p ≡ r) × (q ≡ s)
patterns_one mark words p q r s a b = (pattern_one _ p r a.1 b.1, pattern_one _ q s a.2 b.2)

-- ---- conditions

endings_one : (words : List (List ℕ)) (s t : List Ending) → AreEndings words s → AreEndings words t → s ≡ t
endings_one words s t a b =
    zip_one (λ word ending. word ≡ ending_word ending) (λ word c d is_c is_d. one_named ending_named ending_word ending_own c d (sym is_c ∙ is_d)) words s t a b

asks_one : (keyword : Keyword) (words : List (List ℕ)) (a b : RuleValue) → IsRuleOf keyword words a → IsRuleOf keyword words b → a ≡ b
asks_one keywords.Never words a b (inl x) (inl y) = rw (x.1, y.1, pattern_one words x.0 y.0 x.3 y.3) refl
asks_one keywords.Never words a b (inl x) (inr (inl y)) = absurd (let e = sym x.2 ∙ y.3.0 in cc)
asks_one keywords.Never words a b (inl x) (inr (inr y)) = absurd (no_pattern y.0 words x.0 y.2 x.3)
asks_one keywords.Never words a b (inr (inl x)) (inl y) = absurd (let e = sym y.2 ∙ x.3.0 in cc)
asks_one keywords.Never words a b (inr (inl x)) (inr (inl y)) =
    let same = patterns_one (codes "after") words x.0 x.1 y.0 y.1 x.3 y.3 in
    rw (x.2, y.2, same.0, same.1) refl
asks_one keywords.Never words a b (inr (inl x)) (inr (inr y)) = absurd (no_after y.0 words y.2 x.3.0)
asks_one keywords.Never words a b (inr (inr x)) (inl y) = absurd (no_pattern x.0 words y.0 x.2 y.3)
asks_one keywords.Never words a b (inr (inr x)) (inr (inl y)) = absurd (no_after x.0 words x.2 y.3.0)
asks_one keywords.Never words a b (inr (inr x)) (inr (inr y)) =
    let both = sym x.2 ∙ y.2 in
    let same = one_named mark_named mark_name mark_own x.0 y.0 (cc) in
    rw (x.1, y.1, same) refl
asks_one keywords.Some words a b x y = rw (x.1, y.1, pattern_one words x.0 y.0 x.2 y.2) refl
asks_one keywords.Each words a b x y = rw (x.1, y.1, pattern_one words x.0 y.0 x.2 y.2) refl
asks_one keywords.End words a b x y =
    rw (x.1, y.1, endings_one words x.0 y.0 x.3 y.3) refl
asks_one keywords.Before words a b x y =
    let same = patterns_one (codes ",") (with_commas words) x.0 x.1 y.0 y.1 x.3 y.3 in
    rw (x.2, y.2, same.0, same.1) refl
asks_one keywords.Can words a b x y =
    let others : y.1 ≡ x.1 = let e = sym y.3 ∙ x.3 in cc in
    let same = endings_one x.1 x.0 y.0 x.5 (subst (λ (w : List (List ℕ)). AreEndings w y.0) others y.5) in
    rw (x.2, y.2, same) refl
asks_one keywords.Steady words a b x y = rw (x.1, y.1, step_or_any_one words x.0 y.0 x.2 y.2) refl
asks_one keywords.Firm words a b x y = rw (x.1, y.1, step_or_any_one words x.0 y.0 x.2 y.2) refl
asks_one keywords.Lenient words a b x y = rw (x.1, y.1, step_or_any_one words x.0 y.0 x.2 y.2) refl

asked_one : (words : List (List ℕ)) (a b : RuleValue) → IsAsked words a → IsAsked words b → a ≡ b
asked_one [] a b x y = absurd x
asked_one (word ∷ words) a b x y =
    let same : y.0 ≡ x.0 = one_named keyword_named keyword_word keyword_own y.0 x.0 (sym y.1 ∙ x.1) in
    asks_one x.0 words a b x.2 (subst (λ (k : Keyword). IsRuleOf k words b) same y.2)

pub not_maybe : (word : List ℕ) (keyword : Keyword) → word ≡ codes "maybe" → word ≡ keyword_word keyword → ⊥
not_maybe word keyword maybe is = none_named keyword_named keyword_word keyword_own (codes "maybe") keyword maybe_is_no_keyword (sym maybe ∙ is)

rule_one : (words : List (List ℕ)) (m n : Bool) (a b : RuleValue) → IsRule words m a → IsRule words n b → (m ≡ n) × (a ≡ b)
rule_one words false false a b x y = (refl, asked_one words a b x y)
rule_one [] false true a b x y = absurd y
rule_one (word ∷ words) false true a b x y = absurd (not_maybe word x.0 y.0 x.1)
rule_one [] true n a b x y = absurd x
rule_one (word ∷ words) true false a b x y = absurd (not_maybe word y.0 x.0 y.1)
rule_one (word ∷ words) true true a b x y = (refl, asked_one words a b x.1 y.1)

-- ---- lines

begins_one : (text r s : List ℕ) → BeginsAsking text r → BeginsAsking text s → r ≡ s
begins_one text r s (inl a) (inl b) = let e = sym a ∙ b in cc
begins_one text r s (inl a) (inr b) = absurd (b.0 r a)
begins_one text r s (inr a) (inl b) = absurd (a.0 s b)
begins_one text r s (inr a) (inr b) = a.2 ∙ sym b.2

asking_one : (n : ℕ) (text r s : List ℕ) → IsAsking n text r → IsAsking n text s → r ≡ s
asking_one n text r s a b = begins_one text r s a.begins b.begins

told_same : (c d : ConditionValue) → c.line ≡ d.line → c.is_maybe ≡ d.is_maybe → c.asked ≡ d.asked → c ≡ d
told_same c d line maybe asked =
    ap (λ n. record { line = n; is_maybe = c.is_maybe; asked = c.asked }) line
    ∙ ap (λ m. record { line = d.line; is_maybe = m; asked = c.asked }) maybe
    ∙ ap (λ a. record { line = d.line; is_maybe = d.is_maybe; asked = a }) asked

condition_one : (n : ℕ) (text : List ℕ) (c d : ConditionValue) → HasCondition n text c → HasCondition n text d → c ≡ d
condition_one n text c d a b =
    let same = asking_one n text b.rest a.rest b.is_asking a.is_asking in
    let rule = rule_one (asked_words a.rest) c.is_maybe d.is_maybe c.asked d.asked a.is_rule (subst (λ (r : List ℕ). IsRule (asked_words r) d.is_maybe d.asked) same b.is_rule) in
    told_same c d (a.is_line ∙ sym b.is_line) rule.0 rule.1

not_readable : (n : ℕ) (text : List ℕ) (column : ℕ) → IsReadable n text → IsUnreadable n text column → ⊥
not_readable n text column (inl silent) un = silent un.rest un.is_asking
not_readable n text column (inr (c, has)) un =
    let same = asking_one n text has.rest un.rest has.is_asking un.is_asking in
    un.no_condition (c.is_maybe, c.asked, subst (λ (r : List ℕ). IsRule (asked_words r) c.is_maybe c.asked) same has.is_rule)

conditions_one : (n : ℕ) (texts : List (List ℕ)) (s t : List ConditionValue) → HaveConditions n texts s → HaveConditions n texts t → s ≡ t
conditions_one n [] s t a b = a ∙ sym b
conditions_one n (text ∷ texts) s t (inl a) (inl b) = conditions_one (n + 1) texts s t a.1 b.1
conditions_one n (text ∷ texts) s t (inl a) (inr b) = absurd (a.0 b.2.rest b.2.is_asking)
conditions_one n (text ∷ texts) s t (inr a) (inl b) = absurd (b.0 a.2.rest a.2.is_asking)
conditions_one n (text ∷ texts) s t (inr a) (inr b) =
    rw (a.4, b.4, condition_one n text a.0 b.0 a.2 b.2, conditions_one (n + 1) texts a.1 b.1 a.3 b.3) refl

not_both : (n : ℕ) (texts : List (List ℕ)) (s : List ConditionValue) (line column : ℕ) → HaveConditions n texts s → IsFirstUnreadable n texts line column → ⊥
not_both n [] s line column a wrong = wrong
not_both n (text ∷ texts) s line column (inl a) (inl wrong) = not_both (n + 1) texts s line column a.1 wrong.1
not_both n (text ∷ texts) s line column (inl a) (inr wrong) = not_readable n text column (inl a.0) wrong.1
not_both n (text ∷ texts) s line column (inr a) (inl wrong) = not_both (n + 1) texts a.1 line column a.3 wrong.1
not_both n (text ∷ texts) s line column (inr a) (inr wrong) = not_readable n text column (inr (a.0, a.2)) wrong.1

-- words up to a place, and then those up to a later one
front_of : (words : List (List ℕ)) (few many : ℕ) → few ≤ many → (rest : List (List ℕ)) × (take few words ++ rest ≡ take many words)
front_of words zero many le = (take many words, refl)
front_of words (suc few) zero le = absurd (omega (arith, le))
front_of [] (suc few) (suc many) le = ([], refl)
front_of (word ∷ words) (suc few) (suc many) le =
    let front = front_of words few many (omega (arith, le)) in
    (front.0, ap (λ ws. word ∷ ws) front.1)

-- a condition begins with fewer words, too
pub fewer_begin : (words : List (List ℕ)) (few many : ℕ) → few ≤ many → IsBeginning (take many words) → IsBeginning (take few words)
fewer_begin words few many le is =
    let front = front_of words few many le in
    (front.0 ++ is.0, subst IsCondition (ap (λ ws. ws ++ is.0) (sym front.1) ∙ append_assoc (take few words) front.0 is.0) is.1)

no_longer : (words : List (List ℕ)) (i j : ℕ) → IsLongestBeginning words i → IsLongestBeginning words j → i < j → ⊥
no_longer words i j a b less = a.stops (omega (arith, less, b.within)) (fewer_begin words (i + 1) j (omega (arith, less)) b.goes_on)

longest_one : (words : List (List ℕ)) (i j : ℕ) → IsLongestBeginning words i → IsLongestBeginning words j → i ≡ j
longest_one words i j a b = elim (cases_order i j) [
  | inl same ↦ same
  | inr (inl less) ↦ absurd (no_longer words i j a b less)
  | inr (inr more) ↦ absurd (no_longer words j i b a more)
]

column_one : (line rest : List ℕ) (a b : ℕ) → IsFaultColumn line rest a → IsFaultColumn line rest b → a ≡ b
column_one line rest a b x y =
    x.is_behind ∙ ap (λ many. column_behind line rest many) (longest_one (asked_words rest) x.many y.many x.is_longest y.is_longest) ∙ sym y.is_behind

unreadable_one : (n : ℕ) (text : List ℕ) (a b : ℕ) → IsUnreadable n text a → IsUnreadable n text b → a ≡ b
unreadable_one n text a b x y =
    let same : y.rest ≡ x.rest = asking_one n text y.rest x.rest y.is_asking x.is_asking in
    column_one text x.rest a b x.is_there (subst (λ (r : List ℕ). IsFaultColumn text r b) same y.is_there)

one_place : (n : ℕ) (texts : List (List ℕ)) (j k a b : ℕ) → IsFirstUnreadable n texts j a → IsFirstUnreadable n texts k b → (j ≡ k) × (a ≡ b)
one_place n [] j k a b x y = absurd x
one_place n (text ∷ texts) j k a b (inl x) (inl y) = one_place (n + 1) texts j k a b x.1 y.1
one_place n (text ∷ texts) j k a b (inl x) (inr y) = absurd (not_readable n text b x.0 y.1)
one_place n (text ∷ texts) j k a b (inr x) (inl y) = absurd (not_readable n text a y.0 x.1)
one_place n (text ∷ texts) j k a b (inr x) (inr y) = (x.0 ∙ sym y.0, unreadable_one n text a b x.1 y.1)

pub one_reading : (bytes : List ℕ) → HasOneReading bytes
one_reading bytes = record {
  at_most_one = λ s t a b. conditions_one 1 (lines bytes) s t a b;
  not_both = λ s line column a wrong. not_both 1 (lines bytes) s line column a wrong;
  one_line = λ j k a b x y. (one_place 1 (lines bytes) j k a b x y).0;
  one_column = λ j k a b x y. (one_place 1 (lines bytes) j k a b x y).1;
}
