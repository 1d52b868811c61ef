-- The words of a condition, one by one.
use Rattle.std.proofs.Common.{◌≡◌, ℕ, zero, suc, ◌+◌, ◌<◌, ◌≤◌, Bool, true, false, List, [], ◌∷◌, ◌++◌, length, map, take, drop, Option, Some, None, Result, Ok, Err, codes, eqb, inl, inr, refl, sym, ap, ◌∙◌, subst, below_more, get_or, ltb, append_assoc, arith}
use Rattle.std.specs.Prelude.{MatchOption, ◌⊎◌, slice_get}
use Rattle.std.specs.Str.{bytes_eq}
use Rattle.std.proofs.lemmas.Slice.Eq.{bytes_eq-Decides}
use Rattle.std.proofs.lemmas.Bool.{eqb-true, ltb-true, lt-ltb}
use Rattle.std.proofs.lemmas.List.{length-map, take_all}
use Rattle.std.proofs.lemmas.Option.{get_or_from_slice_get, slice_get-get_or}
use Rattle.std.specs.List.{AllZip}
use Rattle.condition_script.specs.declared.items.Item.{Item}
use Rattle.condition_script.specs.declared.words.Word.{Word}
use Rattle.condition_script.specs.declared.marks.Mark.{Mark}
use Rattle.condition_script.specs.Grammar.{ArePatterns, mark_name, mark_named, RuleValue, IsRuleOf, IsAsked, IsPattern, Wanted, rule_value, keyword_named, keyword_word, with_commas, AreNumberWords, AsksActor, AsksName, AsksNumber, IsNameAndNumbers, IsNameOf, IsOperation, IsStepOrAny, IsStepPattern, behind, has_mark, is_mark, up_to, IsSaidName, IsMarkName}
use Rattle.condition_script.specs.declared.faults.Wrong.{Wrong}
use Rattle.condition_script.specs.Inside.Reading.{Gives, Puts, texts}
use Rattle.condition_script.proofs.OneReading.{name_one, no_after}
use Rattle.condition_script.proofs.Named.{keyword_own, mark_own, none_named, one_named}
use Rattle.condition_script.specs.declared.keywords.Keyword.{Keyword}
use Rattle.condition_script.specs.declared.keywords.Keyword.TheVariants as keywords
use Rattle.condition_script.specs.declared.rules.Rule.{Rule}

-- ---- lists

pub one_more : {A : Type 0} (xs : List A) (x : A) (ys : List A) → (xs ++ x ∷ []) ++ ys ≡ xs ++ x ∷ ys
one_more [] x ys = refl
one_more (y ∷ xs) x ys = ap (λ zs. y ∷ zs) (one_more xs x ys)

pub map_push : {A B : Type 0} (f : A → B) (xs : List A) (x : A) → map f (xs ++ x ∷ []) ≡ map f xs ++ f x ∷ []
map_push f [] x = refl
map_push f (y ∷ xs) x = ap (λ zs. f y ∷ zs) (map_push f xs x)

-- one word more
pub word_read : (all front others : List (List ℕ)) (found : List Word) (w : Word) → all ≡ texts found ++ front → front ≡ w.text.now ∷ others → all ≡ texts (found ++ w ∷ []) ++ others
word_read all front others found w is front_is =
    is ∙ ap (λ ws. texts found ++ ws) front_is ∙ sym (one_more (texts found) w.text.now others) ∙ ap (λ ws. ws ++ others) (sym (map_push (λ word. word.text.now) found w))

-- ---- the first word that is a mark

abbrev pub NoneBefore : (mark : List ℕ) → List Word → ℕ → Type 0
NoneBefore mark words n = (k : ℕ) → k < n → (w : Word) → slice_get words k ≡ Some w → is_mark mark w.text.now ≡ false

found_at : (mark : List ℕ) (words : List Word) (k : ℕ) (w : Word) → slice_get words k ≡ Some w → NoneBefore mark words k → is_mark mark w.text.now ≡ true
    → (has_mark mark (texts words) ≡ true) × (texts (take k words) ≡ up_to mark (texts words)) × (texts (drop (suc k) words) ≡ behind mark (texts words))
found_at mark [] k w at none is = absurd cc
found_at mark (v ∷ words) zero w at none is =
    let same : v ≡ w = cc in
    let here : is_mark mark v.text.now ≡ true = rw same is in
    rw here (refl, refl, refl)
found_at mark (v ∷ words) (suc k) w at none is =
    let later = found_at mark words k w at (λ j below x here. none (suc j) (omega (arith, below)) x here) is in
    let other = none 0 (omega arith) v refl in
    rw other (later.0, ap (λ ws. v.text.now ∷ ws) later.1, later.2)

pub found_here : (mark : List ℕ) (words : List Word) (k n : ℕ) (d : Word) → k < length words → NoneBefore mark words k → is_mark mark (get_or words k d).text.now ≡ true → n ≡ suc k
    → (has_mark mark (texts words) ≡ true) × (texts (take k words) ≡ up_to mark (texts words)) × (texts (drop n words) ≡ behind mark (texts words))
found_here mark words k n d within none is next = rw next (found_at mark words k (get_or words k d) (slice_get-get_or words k d within) none is)

pub none_found : (mark : List ℕ) (words : List Word) (n : ℕ) → length words ≤ n → NoneBefore mark words n → has_mark mark (texts words) ≡ false
none_found mark [] n long none = refl
none_found mark (v ∷ words) zero long none = absurd (omega (arith, long))
none_found mark (v ∷ words) (suc n) long none =
    let other = none 0 (omega arith) v refl in
    rw other (none_found mark words n (omega (arith, long)) (λ j below x here. none (suc j) (omega (arith, below)) x here))

pub none_more : (mark : List ℕ) (words : List Word) (n : ℕ) (d : Word) → n < length words → is_mark mark (get_or words n d).text.now ≡ false → NoneBefore mark words n → NoneBefore mark words (n + 1)
none_more mark words n d within other none =
    let P : ℕ → Type 0 = λ k. (v : Word) → slice_get words k ≡ Some v → is_mark mark v.text.now ≡ false in
    let Q : Word → Type 0 = λ v. is_mark mark v.text.now ≡ false in
    below_more P n none (λ v here. subst Q (get_or_from_slice_get words n v d here) other)

-- ---- words that are read one by one

module _ {W A B : Type 0} (f : W → A) (R : A → B → Type 0) where
  push_at : (words : List W) (k : ℕ) (xs : List B) (w : W) (x : B) → slice_get words k ≡ Some w → AllZip R (map f (take k words)) xs → R (f w) x
      → AllZip R (map f (take (suc k) words)) (xs ++ x ∷ [])
  push_at [] k xs w x at zip is = absurd cc
  push_at (v ∷ words) zero [] w x at zip is = let same : w ≡ v = cc in (subst (λ u. R (f u) x) same is, tt)
  push_at (v ∷ words) zero (y ∷ xs) w x at zip is = absurd zip
  push_at (v ∷ words) (suc k) [] w x at zip is = absurd zip
  push_at (v ∷ words) (suc k) (y ∷ xs) w x at zip is = (zip.0, push_at words k xs w x at zip.1 is)

  pub zip_push : (words : List W) (k n : ℕ) (xs : List B) (d : W) (x : B) → k < length words → AllZip R (map f (take k words)) xs → R (f (get_or words k d)) x → n ≡ suc k
      → AllZip R (map f (take n words)) (xs ++ x ∷ [])
  zip_push words k n xs d x within zip is next = rw next (push_at words k xs (get_or words k d) x (slice_get-get_or words k d within) zip is)

  none_at : (words : List W) (k : ℕ) (w : W) → slice_get words k ≡ Some w → ((x : B) → R (f w) x → ⊥) → (xs : List B) → AllZip R (map f words) xs → ⊥
  none_at [] k w at none xs zip = absurd cc
  none_at (v ∷ words) k w at none [] zip = absurd zip
  none_at (v ∷ words) zero w at none (y ∷ xs) zip = let same : v ≡ w = cc in none y (subst (λ u. R (f u) y) same zip.0)
  none_at (v ∷ words) (suc k) w at none (y ∷ xs) zip = none_at words k w at none xs zip.1

  pub zip_none : (words : List W) (k : ℕ) (d : W) → k < length words → ((x : B) → R (f (get_or words k d)) x → ⊥) → (xs : List B) → AllZip R (map f words) xs → ⊥
  zip_none words k d within none xs zip = none_at words k (get_or words k d) (slice_get-get_or words k d within) none xs zip

abbrev pub text_of : Word → List ℕ
text_of w = w.text.now

-- numbers up to a place, behind what was there before
abbrev pub NumbersUpTo : List Word → (most k : ℕ) → (initial found : List (Option Item)) → Type 0
NumbersUpTo words most k initial found =
    (k ≤ most) × ((items : List (Option Item)) × (found ≡ initial ++ items) × AllZip AsksNumber (texts (take k words)) items)

pub numbers_more : (words : List Word) (most k n : ℕ) (d : Word) (initial before after : List (Option Item)) (item : Option Item) → k < length words → ltb k most ≡ true
    → AsksNumber (get_or words k d).text.now item → after ≡ before ++ item ∷ [] → n ≡ suc k → NumbersUpTo words most k initial before → NumbersUpTo words most n initial after
numbers_more words most k n d initial before after item within may asks is next up = (
  omega (arith, next, ltb-true k most may),
  (
    up.1.0 ++ item ∷ [],
    is ∙ ap (λ xs. xs ++ item ∷ []) up.1.1 ∙ append_assoc initial up.1.0 (item ∷ []),
    zip_push text_of AsksNumber words k n up.1.0 d item within up.1.2 asks next,
  ),
)

pub numbers_all : (words : List Word) (most k : ℕ) (initial found : List (Option Item)) → length words ≤ k → k ≤ length words → NumbersUpTo words most k initial found
    → (items : List (Option Item)) × (found ≡ initial ++ items) × AreNumberWords most (texts words) items
numbers_all words most k initial found long short up =
    (up.1.0, up.1.1, (rw (length-map words text_of) (omega (arith, up.0, short, long)), rw (take_all k words long) at up.1.2))

pub numbers_none : (words : List Word) (most k : ℕ) (d : Word) → k < length words → (ltb k most ≡ true → (item : Option Item) → AsksNumber (get_or words k d).text.now item → ⊥)
    → (items : List (Option Item)) → AreNumberWords most (texts words) items → ⊥
numbers_none words most k d within none items are =
    let short : length words ≤ most = rw (length-map words text_of) at are.0 in
    zip_none text_of AsksNumber words k d within (none (lt-ltb k most (omega (arith, within, short)))) items are.1

-- ---- names, and steps

pub none_asked : (is_reply : Bool) (word : List ℕ) → bytes_eq word (codes "_") ≡ false → ((item : Item) (most : ℕ) → IsNameOf is_reply word item most → ⊥)
    → (item : Option Item) (most : ℕ) → AsksName is_reply word item most → ⊥
none_asked is_reply word no_any no_name item most (inl any) = let same = (bytes_eq-Decides word (codes "_")).1 any.0 in let e = sym same ∙ no_any in absurd cc
none_asked is_reply word no_any no_name item most (inr named) = no_name named.0 most named.1

-- a word that names no reply and no mark
pub none_said : (word : List ℕ) (found : Option (Item × ℕ)) → found ≡ None → MatchOption found ((item : Item) (most : ℕ) → IsSaidName word item most → ⊥) (λ f. IsSaidName word f.0 f.1)
    → ((item : Item) (most : ℕ) → IsMarkName word item most → ⊥) → (item : Item) (most : ℕ) → IsNameOf true word item most → ⊥
none_said word (Some f) is no_said no_mark item most named = absurd cc
none_said word None is no_said no_mark item most (inl said) = no_said item most said
none_said word None is no_said no_mark item most (inr mark) = no_mark item most mark

pub name_asked : (is_reply : Bool) (word : List ℕ) (found : Option (Option Item × ℕ)) → bytes_eq word (codes "_") ≡ false
    → MatchOption found ((item : Item) (most : ℕ) → IsNameOf is_reply word item most → ⊥) (λ f. AsksName is_reply word f.0 f.1)
    → MatchOption found ((item : Option Item) (most : ℕ) → AsksName is_reply word item most → ⊥) (λ f. AsksName is_reply word f.0 f.1)
name_asked is_reply word None no_any is = none_asked is_reply word no_any is
name_asked is_reply word (Some f) no_any is = is

pub named_with : (is_reply : Bool) (words : List Word) (first : Word) (rest : List Word) → words ≡ first ∷ rest → (item : Option Item) (most : ℕ) → AsksName is_reply first.text.now item most
    → (old middle new : List (Option Item)) → middle ≡ old ++ item ∷ [] → {X : Type 0} (result : Result X Wrong) → Puts middle new (AreNumberWords most (texts rest)) result
    → Puts old new (IsNameAndNumbers is_reply (texts words)) result
named_with is_reply words first rest parts item most asks old middle new is (Ok x) put =
    rw parts (item ∷ put.0, put.1 ∙ ap (λ xs. xs ++ put.0) is ∙ one_more old item put.0, (item, put.0, most, refl, asks, put.2))
named_with is_reply words first rest parts item most asks old middle new is (Err u) (inl lacks) = inl lacks
named_with is_reply words first rest parts item most asks old middle new is (Err u) (inr none) =
    inr (λ items named.
    let here : IsNameAndNumbers is_reply (texts (first ∷ rest)) items = rw parts at named in
    let same = name_one is_reply first.text.now here.0 item here.2 most here.4 asks in
    none here.1 (subst (λ m. AreNumberWords m (texts rest) here.1) same.1 here.5))

pub none_named_so : (is_reply : Bool) (words : List Word) (first : Word) (rest : List Word) → words ≡ first ∷ rest → ((item : Option Item) (most : ℕ) → AsksName is_reply first.text.now item most → ⊥)
    → (items : List (Option Item)) → IsNameAndNumbers is_reply (texts words) items → ⊥
none_named_so is_reply words first rest parts none items named =
    let here : IsNameAndNumbers is_reply (texts (first ∷ rest)) items = rw parts at named in
    none here.0 here.2 here.4

pub no_step : (words : List Word) (first : Word) (rest : List Word) → words ≡ first ∷ rest → ((item : Option Item) → AsksActor first.text.now item → ⊥)
    → (items : List (Option Item)) → IsStepPattern (texts words) items → ⊥
no_step words first rest parts none items step =
    let here : IsStepPattern (texts (first ∷ rest)) items = rw parts at step in
    none here.0 here.3

no_operation_of : (rest : List Word) → (eqb (length rest) 0 ≡ false) → ((items : List (Option Item)) → IsNameAndNumbers false (texts rest) items → ⊥) → (items : List (Option Item)) → IsOperation (texts rest) items → ⊥
no_operation_of [] some none items is = absurd cc
no_operation_of (w ∷ rest) some none items is = none items is

pub no_operation : (words : List Word) (first : Word) (rest : List Word) → words ≡ first ∷ rest → (eqb (length rest) 0 ≡ false) → ((items : List (Option Item)) → IsNameAndNumbers false (texts rest) items → ⊥)
    → (items : List (Option Item)) → IsStepPattern (texts words) items → ⊥
no_operation words first rest parts some none items step =
    let here : IsStepPattern (texts (first ∷ rest)) items = rw parts at step in
    no_operation_of rest some none here.1 here.4

pub either : {P Q R : Type 0} → (Q → R) → P ⊎ Q → P ⊎ R
either f (inl x) = inl x
either f (inr x) = inr (f x)

-- ---- patterns

pub no_reply : (words back : List (List ℕ)) → has_mark (codes "->") words ≡ true → back ≡ behind (codes "->") words → ((items : List (Option Item)) → IsNameAndNumbers true back items → ⊥) → (p : Wanted) → IsPattern words p → ⊥
no_reply words back marked is none p (inl x) = let e = sym x.0 ∙ marked in absurd cc
no_reply words back marked is none p (inr x) = none p.reply (subst (λ r. IsNameAndNumbers true r p.reply) (sym is) x.2)

pub no_two : (mark : List ℕ) (words front back : List (List ℕ)) → front ≡ up_to mark words → back ≡ behind mark words
    → ((ps : Wanted × Wanted) → IsPattern front ps.0 × IsPattern back ps.1 → ⊥) → (p q : Wanted) → ArePatterns mark words p q → ⊥
no_two mark words front back is_front is_back none p q two =
    none (p, q) (subst (λ r. IsPattern r p) (sym is_front) two.1, subst (λ r. IsPattern r q) (sym is_back) two.2)

pub no_never : (words front back : List (List ℕ)) → has_mark (codes "after") words ≡ true → front ≡ up_to (codes "after") words → back ≡ behind (codes "after") words
    → ((ps : Wanted × Wanted) → IsPattern front ps.0 × IsPattern back ps.1 → ⊥) → (a : RuleValue) → IsRuleOf keywords.Never words a → ⊥
no_never words front back marked is_front is_back none a (inl x) = let e = sym x.2 ∙ marked in absurd cc
no_never words front back marked is_front is_back none a (inr (inl x)) = no_two (codes "after") words front back is_front is_back none x.0 x.1 x.3
no_never words front back marked is_front is_back none a (inr (inr x)) = no_after x.0 words x.2 marked

pub no_plain_never : (words : List (List ℕ)) → has_mark (codes "after") words ≡ false → ((mark : Mark) → words ≡ mark_name mark ∷ [] → ⊥) → ((p : Wanted) → IsPattern words p → ⊥)
    → (a : RuleValue) → IsRuleOf keywords.Never words a → ⊥
no_plain_never words unmarked other none a (inl x) = none x.0 x.3
no_plain_never words unmarked other none a (inr (inl x)) = let e = sym x.3.0 ∙ unmarked in absurd cc
no_plain_never words unmarked other none a (inr (inr x)) = other x.0 x.2

-- one word is a mark as it names one
pub lone_read : (words : List Word) (first : Word) (rest : List Word) → words ≡ first ∷ rest → eqb (length rest) 0 ≡ true → (found : Option Mark)
    → MatchOption found (mark_named first.text.now ≡ None) (λ m. first.text.now ≡ mark_name m) → MatchOption found ((mark : Mark) → texts words ≡ mark_name mark ∷ [] → ⊥) (λ m. texts words ≡ mark_name m ∷ [])
lone_read words first (v ∷ rest) parts one found named = let e : length (v ∷ rest) ≡ 0 = eqb-true (length (v ∷ rest)) 0 one in absurd (omega (arith, e))
lone_read words first [] parts one (Some m) named = rw parts (ap (λ t. t ∷ []) named)
lone_read words first [] parts one None none = λ mark lone.
    let here : texts (first ∷ []) ≡ mark_name mark ∷ [] = rw parts at lone in
    let word : first.text.now ≡ mark_name mark = cc in
    none_named mark_named mark_name mark_own first.text.now mark none word

-- more words are none
pub not_lone : (words : List Word) (first : Word) (rest : List Word) → words ≡ first ∷ rest → eqb (length rest) 0 ≡ false → (mark : Mark) → texts words ≡ mark_name mark ∷ [] → ⊥
not_lone words first [] parts some mark lone = absurd cc
not_lone words first (v ∷ rest) parts some mark lone =
    let here : texts (first ∷ v ∷ rest) ≡ mark_name mark ∷ [] = rw parts at lone in
    absurd cc

-- words that are a step are no empty ones
pub step_given : {X : Type 0} (words : List Word) → eqb (length words) 0 ≡ false → (view : X → List (Option Item)) (result : Result X Wrong)
    → Gives view (IsStepPattern (texts words)) result → Gives view (IsStepOrAny (texts words)) result
step_given [] some view result gives = absurd cc
step_given (w ∷ words) some view result gives = gives

pub no_before : (words commas front back : List (List ℕ)) → commas ≡ with_commas words → front ≡ up_to (codes ",") commas → back ≡ behind (codes ",") commas
    → ((ps : Wanted × Wanted) → IsPattern front ps.0 × IsPattern back ps.1 → ⊥) → (a : RuleValue) → IsRuleOf keywords.Before words a → ⊥
no_before words commas front back is is_front is_back none a x =
    no_two (codes ",") commas front back is_front is_back none x.0 x.1 (subst (λ c. ArePatterns (codes ",") c x.0 x.1) (sym is) x.3)

-- ---- conditions

pub rule_with : (words : List Word) (first : Word) (rest : List Word) → words ≡ first ∷ rest → (keyword : Keyword) → first.text.now ≡ keyword_word keyword → (result : Result Rule Wrong)
    → Gives rule_value (IsRuleOf keyword (texts rest)) result → Gives rule_value (IsAsked (texts words)) result
rule_with words first rest parts keyword is (Ok r) gives = rw parts (keyword, is, gives)
rule_with words first rest parts keyword is (Err u) (inl lacks) = inl lacks
rule_with words first rest parts keyword is (Err u) (inr none) = inr (λ a asks.
    let here : IsAsked (texts (first ∷ rest)) a = rw parts at asks in
    let same : here.0 ≡ keyword = one_named keyword_named keyword_word keyword_own here.0 keyword (sym here.1 ∙ is) in
    none a (subst (λ k. IsRuleOf k (texts rest) a) same here.2))

pub no_rule : (words : List Word) (first : Word) (rest : List Word) → words ≡ first ∷ rest → keyword_named first.text.now ≡ None → (a : RuleValue) → IsAsked (texts words) a → ⊥
no_rule words first rest parts none a asks =
    let here : IsAsked (texts (first ∷ rest)) a = rw parts at asks in
    none_named keyword_named keyword_word keyword_own first.text.now here.0 none here.1
