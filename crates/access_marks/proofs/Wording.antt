-- Notes of words, after one event more.
use Rattle.std.proofs.Common.{◌≡◌, ◌↔◌, ℕ, zero, suc, Bool, true, false, not, List, [], ◌∷◌, ◌++◌, map, replicate, refl, sym, ap, subst, ◌∙◌, Option, Some, None}
use Rattle.std.specs.Prelude.{◌==◌, ◌&&◌, ◌||◌, if◌then◌else◌, filter, is_some, slice_index_or}
use Rattle.std.specs.List.{All, fold}
use Rattle.std.proofs.lemmas.Bool.{eq-eqb, eqb-true, ne_eqb}
use Rattle.std.proofs.lemmas.Option.{same_Some}
use Rattle.std.proofs.lemmas.List.Elements.{All-append, All-cons, All-head, All-nil, All-tail}
use Rattle.std.proofs.lemmas.List.Sums.{fold-append}
use Rattle.rfence.specs.Applied as applied
use Rattle.rfence.specs.Applied.{Drops}
use Rattle.tlb_model.specs.declared.cache.Numbered.{Numbered}
use Rattle.tlb_model.specs.declared.caches.Caches.{Caches}
use Rattle.tlb_model.specs.declared.fence.Flush.TheVariants as flushes
use Rattle.tlb_model.specs.declared.word.FetchWord.{FetchWord}
use Rattle.tlb_model.specs.Words.{is_at}
use Rattle.board_terms.specs.declared.config.Config.{Config}
use Rattle.board_core.specs.History.{Event}
use Rattle.board_core.specs.Memory.{Zeroed, memory, writing_by}
use Rattle.board_core.specs.Opening.{Opening, no_caches, opening_at}
use Rattle.board_core.specs.Replies.{IsLegal}
use Rattle.any_tlb.specs.Effects.{effect_at}
use Rattle.any_tlb.specs.WatchedWords.{WatchedWordsAgree, watched_words, word_or_none}
use Rattle.any_tlb.specs.Words.{ends_words}
use Rattle.tlb_watch.specs.declared.effect.CacheEffect.{CacheEffect}
use Rattle.tlb_watch.specs.declared.effect.CacheEffect.TheVariants.{Nothing, Applied, Reset}
use Rattle.tlb_watch.specs.Effects.{effect_on}
use Rattle.access_marks.specs.declared.changes.Written.{Written}
use Rattle.access_marks.specs.declared.words.WordNote.{WordNote}
use Rattle.access_marks.specs.declared.words.WordNote.TheVariants.{Changed, Fenced}
use Rattle.access_marks.specs.Inside.Changes.{IsChange, SaysWritten}
use Rattle.access_marks.specs.Inside.Words.{AreNoted, differs, differs_by, is_note, with_change, with_effect, with_note}
use Rattle.access_marks.proofs.Changing.{in-ram, stays, zeroed-ends}

-- ---- tests

and-true : (b : Bool) → (b && true) ≡ b
and-true true = refl
and-true false = refl

and-false : (b : Bool) → (b && false) ≡ false
and-false true = refl
and-false false = refl

or-true : (b : Bool) → (b || true) ≡ true
or-true true = refl
or-true false = refl

or-false : (b : Bool) → (b || false) ≡ b
or-false true = refl
or-false false = refl

-- ---- what notes say of a word

module _ (h pa : ℕ) where
  -- notes that change nothing can be dropped
  dropped : (drops : WordNote → Bool) → ((before : Bool) (note : WordNote) → drops note ≡ true → differs_by h pa before note ≡ before) → (before : Bool) (notes : List WordNote)
      → fold (differs_by h pa) before (filter (λ note. not (drops note)) notes) ≡ fold (differs_by h pa) before notes
  dropped drops idle before [] = refl
  dropped drops idle before (note ∷ notes) = by_test (drops note) refl (λ later. dropped drops idle later notes)
    where
      by_test : (b : Bool) → drops note ≡ b
          → ((later : Bool) → fold (differs_by h pa) later (filter (λ note. not (drops note)) notes) ≡ fold (differs_by h pa) later notes)
          → fold (differs_by h pa) before (if not b then note ∷ filter (λ note. not (drops note)) notes else filter (λ note. not (drops note)) notes) ≡ fold (differs_by h pa) (differs_by h pa before note) notes
      by_test true is rest = rest before ∙ ap (λ (b : Bool). fold (differs_by h pa) b notes) (sym (idle before note is))
      by_test false is rest = rest (differs_by h pa before note)

  -- a change of another word, and a fence of another hart
  other-word : (at : ℕ) → (at == pa) ≡ false → (before : Bool) (note : WordNote) → is_note (Changed at) note ≡ true → differs_by h pa before note ≡ before
  other-word at apart before (Changed place) is =
      let same : place ≡ at = eqb-true place at is in
      ap (λ (n : ℕ). before || (n == pa)) same ∙ ap (λ (b : Bool). before || b) apart ∙ or-false before
  other-word at apart before (Fenced x) is = cc

  other-hart : (x : ℕ) → (x == h) ≡ false → (before : Bool) (note : WordNote) → is_note (Fenced x) note ≡ true → differs_by h pa before note ≡ before
  other-hart x apart before (Changed place) is = cc
  other-hart x apart before (Fenced hart) is =
      let same : hart ≡ x = eqb-true hart x is in
      ap (λ (n : ℕ). before && not (n == h)) same ∙ ap (λ (b : Bool). before && not b) apart ∙ and-true before

  older : (notes : List WordNote) (note : WordNote) → differs_by h pa (differs (filter (λ other. not (is_note note other)) notes) h pa) note ≡ differs_by h pa (differs notes h pa) note
  older notes (Changed at) = by_test (at == pa) refl
    where
      by_test : (b : Bool) → (at == pa) ≡ b → (differs (filter (λ other. not (is_note (Changed at) other)) notes) h pa || b) ≡ (differs notes h pa || b)
      by_test true is = or-true (differs (filter (λ other. not (is_note (Changed at) other)) notes) h pa) ∙ sym (or-true (differs notes h pa))
      by_test false is = ap (λ (d : Bool). d || false) (dropped (is_note (Changed at)) (other-word at is) false notes)
  older notes (Fenced x) = by_test (x == h) refl
    where
      by_test : (b : Bool) → (x == h) ≡ b → (differs (filter (λ other. not (is_note (Fenced x) other)) notes) h pa && not b) ≡ (differs notes h pa && not b)
      by_test true is = and-false (differs (filter (λ other. not (is_note (Fenced x) other)) notes) h pa) ∙ sym (and-false (differs notes h pa))
      by_test false is = ap (λ (d : Bool). d && true) (dropped (is_note (Fenced x)) (other-hart x is) false notes)

  noted : (notes : List WordNote) (note : WordNote) → differs (with_note note notes) h pa ≡ differs_by h pa (differs notes h pa) note
  noted notes note = fold-append (differs_by h pa) false (filter (λ other. not (is_note note other)) notes) (note ∷ []) ∙ older notes note

  -- an effect that ends all words
  ended : (effect : CacheEffect) (notes : List WordNote) → ends_words (effect_on effect h) ≡ true → differs (with_effect effect notes) h pa ≡ false
  ended Nothing notes ends = cc
  ended (Applied x flushes.Words) notes ends = noted notes (Fenced x) ∙ by_test (x == h) ends
    where
      by_test : (b : Bool) → ends_words (if b then Drops flushes.Words else applied.Nothing) ≡ true → (differs notes h pa && not b) ≡ false
      by_test true ends = and-false (differs notes h pa)
      by_test false ends = cc
  ended (Applied x (flushes.Entries fence)) notes ends = by_test (x == h) ends
    where
      by_test : (b : Bool) → ends_words (if b then Drops (flushes.Entries fence) else applied.Nothing) ≡ true → differs notes h pa ≡ false
      by_test true ends = cc
      by_test false ends = cc
  ended Reset notes ends = refl

  -- and one that ends none
  left : (effect : CacheEffect) (notes : List WordNote) → ends_words (effect_on effect h) ≡ false → differs (with_effect effect notes) h pa ≡ differs notes h pa
  left Nothing notes ends = refl
  left (Applied x flushes.Words) notes ends = noted notes (Fenced x) ∙ by_test (x == h) ends
    where
      by_test : (b : Bool) → ends_words (if b then Drops flushes.Words else applied.Nothing) ≡ false → (differs notes h pa && not b) ≡ differs notes h pa
      by_test true ends = cc
      by_test false ends = and-true (differs notes h pa)
  left (Applied x (flushes.Entries fence)) notes ends = refl
  left Reset notes ends = cc

  -- a change of another word, or of none
  other : (changed : Option ℕ) (notes : List WordNote) → (changed ≡ Some pa → ⊥) → differs (with_change changed notes) h pa ≡ differs notes h pa
  other None notes apart = refl
  other (Some at) notes apart =
      noted notes (Changed at) ∙ ap (λ b. differs notes h pa || b) (ne_eqb at pa (λ same. apart (ap (λ n. let p : Option ℕ = Some n in p) same))) ∙ or-false (differs notes h pa)

  -- and of the word itself
  itself : (notes : List WordNote) → differs (with_change (Some pa) notes) h pa ≡ true
  itself notes = noted notes (Changed pa) ∙ ap (λ b. differs notes h pa || b) (eq-eqb pa pa refl) ∙ or-true (differs notes h pa)

-- ---- words that are watched

module _ (P : ℕ → Type 0) where
  first-part : (xs ys : List ℕ) → All P (xs ++ ys) → All P xs
  first-part [] ys all = All-nil P
  first-part (x ∷ xs) ys all = All-cons P x xs (All-head P x (xs ++ ys) all) (first-part xs ys (All-tail P x (xs ++ ys) all))

  last-part : (xs ys : List ℕ) → All P (xs ++ ys) → All P ys
  last-part [] ys all = all
  last-part (x ∷ xs) ys all = last-part xs ys (All-tail P x (xs ++ ys) all)

  held : (found : Option ℕ) (word : ℕ) → found ≡ Some word → All P (word_or_none found) → P word
  held None word is all = cc
  held (Some other) word is all = subst P (same_Some other word is) (All-head P other [] all)

abbrev Same : Option ℕ → ℕ → Type 0
Same found word = found ≡ Some word

now : (found : Option ℕ) → All (Same found) (word_or_none found)
now None = All-nil (Same None)
now (Some word) = All-cons (Same (Some word)) word [] refl (All-nil (Same (Some word)))

agree-ended : (ends : Bool) (words : List ℕ) (found : Option ℕ) → ends ≡ true → All (Same found) ((if ends then [] else words) ++ word_or_none found)
agree-ended true words found is = now found
agree-ended false words found is = cc

agree-on : (ends : Bool) (words : List ℕ) (before after : Option ℕ) → ends ≡ false → after ≡ before → All (Same before) words → All (Same after) ((if ends then [] else words) ++ word_or_none after)
agree-on true words before after is same all = cc
agree-on false words before after is same all = All-append (Same after) words (word_or_none after) (subst (λ (found : Option ℕ). All (Same found) words) (sym same) all) (now after)

agree-back : (ends : Bool) (words : List ℕ) (before after : Option ℕ) → ends ≡ false → after ≡ before → All (Same after) ((if ends then [] else words) ++ word_or_none after) → All (Same before) words
agree-back true words before after is same all = cc
agree-back false words before after is same all = subst (λ (found : Option ℕ). All (Same found) words) same (first-part (Same after) words (word_or_none after) all)

kept-part : (ends : Bool) (words : List ℕ) (after : Option ℕ) → ends ≡ false → All (Same after) ((if ends then [] else words) ++ word_or_none after) → All (Same after) words
kept-part true words after is all = cc
kept-part false words after is all = first-part (Same after) words (word_or_none after) all

-- the memory's word is watched
of-now : (o : Opening) (past : List Event) (h pa word : ℕ) (P : ℕ → Type 0) → memory o past pa ≡ Some word → All P (watched_words o past h pa) → P word
of-now o [] h pa word P is all = held P (memory o [] pa) word is (last-part P _ (word_or_none (memory o [] pa)) all)
of-now o (event ∷ past) h pa word P is all = held P (memory o (event ∷ past) pa) word is (last-part P _ (word_or_none (memory o (event ∷ past) pa)) all)

some-of : (found : Option ℕ) → is_some found ≡ true → (word : ℕ) × (found ≡ Some word)
some-of (Some word) is = (word, refl)
some-of None is = cc

-- ---- one event more

module _ (o : Opening) (event : Event) (past : List Event) (written : Option Written) (changed : Option ℕ) (effect : CacheEffect) (notes : List WordNote)
    (legal : IsLegal o (event ∷ past)) (says : SaysWritten o past event written) (changes : IsChange written (memory o (event ∷ past)) changed)
    (does : (h : ℕ) → effect_on effect h ≡ effect_at o past event h) (noted_so : AreNoted o past notes) where
  -- a word that isn't the one that changed
  unchanged : (pa : ℕ) → (writing_by event.op event.reply event.translation ≡ Some Zeroed → ⊥) → (written : Option Written) (changed : Option ℕ) → SaysWritten o past event written
      → IsChange written (memory o (event ∷ past)) changed → (changed ≡ Some pa → ⊥) → memory o (event ∷ past) pa ≡ memory o past pa
  unchanged pa no_reset None changed says changes apart = stays o past event pa no_reset (λ is. let none = sym says ∙ is in cc)
  unchanged pa no_reset (Some w) None says changes apart = by_test (w.at == pa) refl
    where
      by_test : (b : Bool) → (w.at == pa) ≡ b → memory o (event ∷ past) pa ≡ memory o past pa
      by_test true same = subst (λ (n : ℕ). memory o (event ∷ past) n ≡ memory o past n) (eqb-true w.at pa same) (changes ∙ says.1)
      by_test false differs = stays o past event pa no_reset (λ is. let same = eq-eqb w.at pa (same_Some w.at pa (sym says.0 ∙ is)) in let both = sym same ∙ differs in cc)
  unchanged pa no_reset (Some w) (Some at) says changes apart =
      stays o past event pa no_reset (λ is. apart (ap (λ n. let p : Option ℕ = Some n in p) (changes.0 ∙ same_Some w.at pa (sym says.0 ∙ is))))

  -- a word that changed isn't steady
  disagree : (h pa : ℕ) → ends_words (effect_at o past event h) ≡ false → (written : Option Written) (changed : Option ℕ) → SaysWritten o past event written
      → IsChange written (memory o (event ∷ past)) changed → changed ≡ Some pa → WatchedWordsAgree o (event ∷ past) h pa → ⊥
  disagree h pa kept None changed says changes is agree = let none = sym changes ∙ is in cc
  disagree h pa kept (Some w) None says changes is agree = cc
  disagree h pa kept (Some w) (Some at) says changes is agree =
      let here : w.at ≡ pa = sym changes.0 ∙ same_Some at pa is in
      let before = some-of (memory o past pa) (subst (λ (n : ℕ). is_some (memory o past n) ≡ true) here (in-ram o past event w.at legal says.0)) in
      let words = kept-part (ends_words (effect_at o past event h)) (watched_words o past h pa) (memory o (event ∷ past) pa) kept agree in
      let after = of-now o past h pa before.0 (Same (memory o (event ∷ past) pa)) before.1 words in
      changes.1 (subst (λ (n : ℕ). memory o (event ∷ past) n ≡ memory o past n) (sym here) (after ∙ sym before.1) ∙ sym says.1)

  pub noted-more : AreNoted o (event ∷ past) (with_effect effect (with_change changed notes))
  noted-more h pa = by_end (ends_words (effect_at o past event h)) refl
    where
      more : List WordNote
      more = with_change changed notes

      words : List ℕ
      words = watched_words o past h pa

      tells : (ends : Bool) → ends_words (effect_at o past event h) ≡ ends → ends_words (effect_on effect h) ≡ ends
      tells ends is = ap ends_words (does h) ∙ is

      here : ends_words (effect_at o past event h) ≡ false → changed ≡ Some pa → (differs (with_effect effect more) h pa ≡ false) ↔ WatchedWordsAgree o (event ∷ past) h pa
      here kept is = (
        λ steady. let gone : true ≡ false =
            sym (left h pa effect more (tells false kept) ∙ ap (λ (c : Option ℕ). differs (with_change c notes) h pa) is ∙ itself h pa notes) ∙ steady in cc,
        λ agree. absurd (disagree h pa kept written changed says changes is agree),
      )

      there : ends_words (effect_at o past event h) ≡ false → (changed ≡ Some pa → ⊥) → (differs (with_effect effect more) h pa ≡ false) ↔ WatchedWordsAgree o (event ∷ past) h pa
      there kept apart =
          let ends = ends_words (effect_at o past event h) in
          let no_reset : writing_by event.op event.reply event.translation ≡ Some Zeroed → ⊥ =
          λ e. let both : true ≡ false = sym (zeroed-ends o past event h legal.0 e) ∙ kept in cc in
          let same = unchanged pa no_reset written changed says changes apart in
          let test = left h pa effect more (tells false kept) ∙ other h pa changed notes apart in (
            λ steady. agree-on ends words (memory o past pa) (memory o (event ∷ past) pa) kept same ((noted_so h pa).0 (sym test ∙ steady)),
            λ agree. test ∙ (noted_so h pa).1 (agree-back ends words (memory o past pa) (memory o (event ∷ past) pa) kept same agree),
          )

      by_place : ends_words (effect_at o past event h) ≡ false → (c : Option ℕ) → changed ≡ c → (differs (with_effect effect more) h pa ≡ false) ↔ WatchedWordsAgree o (event ∷ past) h pa
      by_place kept None is = there kept (λ hit. let none = sym is ∙ hit in cc)
      by_place kept (Some at) is = by_test (at == pa) refl
        where
          by_test : (b : Bool) → (at == pa) ≡ b → (differs (with_effect effect more) h pa ≡ false) ↔ WatchedWordsAgree o (event ∷ past) h pa
          by_test true same = here kept (is ∙ ap (λ n. let p : Option ℕ = Some n in p) (eqb-true at pa same))
          by_test false apart = there kept (λ hit. let both = sym (eq-eqb at pa (same_Some at pa (sym is ∙ hit))) ∙ apart in cc)

      by_end : (ends : Bool) → ends_words (effect_at o past event h) ≡ ends → (differs (with_effect effect more) h pa ≡ false) ↔ WatchedWordsAgree o (event ∷ past) h pa
      by_end true is = (
        λ steady. agree-ended (ends_words (effect_at o past event h)) words (memory o (event ∷ past) pa) is,
        λ agree. ended h pa effect more (tells true is),
      )
      by_end false is = by_place is changed refl

-- ---- at a first opening

of-many : {A : Type 0} (n k : ℕ) (x : A) → slice_index_or (replicate n x) k x ≡ x
of-many zero k x = refl
of-many (suc n) zero x = refl
of-many (suc n) (suc k) x = of-many n k x

pub noted-first : (c : Config) → AreNoted (opening_at c) [] []
noted-first c h pa = (λ steady. agree, λ agree. refl)
  where
    word : Option ℕ
    word = memory (opening_at c) [] pa

    agree : WatchedWordsAgree (opening_at c) [] h pa
    agree = subst (λ (k : Caches). All (Same word) (map (λ (x : Numbered FetchWord). x.item.word) (filter (λ (x : Numbered FetchWord). is_at pa x.item) k.words.live) ++ word_or_none word))
        (sym (of-many c.harts h no_caches)) (now word)
