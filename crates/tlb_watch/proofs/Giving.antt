-- What logs of walks give.
use Rattle.std.proofs.Common.{◌≡◌, ℕ, Bool, true, false, not, List, [], ◌∷◌, ◌++◌, refl, subst, ◌∙◌, inl, inr, cond, Option, Result, Ok, Err}
use Rattle.std.specs.Prelude.{◌⊎◌, ◌==◌, filter, IfOk}
use Rattle.std.proofs.lemmas.Bool.{eqb-true}
use Rattle.rfence.specs.Applied.{Effect, Nothing, Drops, Empties}
use Rattle.tlb_model.specs.declared.fence.Flush.{Flush}
use Rattle.tlb_model.specs.Entries.{Entry}
use Rattle.any_tlb.specs.declared.watcher.Walking.{Walking}
use Rattle.any_tlb.specs.declared.watcher.Walking.TheVariants.{Had, Fenced}
use Rattle.any_tlb.specs.Possible.{leaves_no_copy}
use Rattle.any_tlb.specs.Watch.{entries_left, given_by, given_for, logged, spared}
use Rattle.tlb_watch.specs.declared.hart_address.HartAddress.{HartAddress}
use Rattle.tlb_watch.specs.Sets.{HaveSameMembers, IsIn}
use Rattle.tlb_watch.specs.Watched.{GiveTheSame, WatchTheSame, WatchedAddress, after_event}
use Rattle.tlb_watch.proofs.Members.{in-cases, in-filter, in-left, in-right, out-filter, same-by, same-filtered, same-joined, same-on, same-self}

-- whether a log's entry says that the hart had this satp
abbrev is_had : (satp : ℕ) → Walking → Bool
is_had satp (Had other) = other == satp
is_had satp (Fenced flush) = false

-- the other entries of a log
abbrev pub others : (satp : ℕ) → List Walking → List Walking
others satp walks = filter (λ walking. not (is_had satp walking)) walks

-- whether a fence leaves an entry
abbrev pub left_by : Flush → Entry → Bool
left_by flush entry = not (leaves_no_copy (Drops flush) entry)

module _ (memory : ℕ → Option ℕ) (va : ℕ) where
  -- a log that goes on
  pub given-on : (before : List Entry) (walks more : List Walking) → given_by memory va before (walks ++ more) ≡ given_by memory va (given_by memory va before walks) more
  given-on before [] more = refl
  given-on before (Had satp ∷ walks) more = given-on (before ++ given_for memory satp va) walks more
  given-on before (Fenced flush ∷ walks) more = given-on (entries_left flush before) walks more

  -- ---- without the older notes of a satp

  module _ (satp : ℕ) where
    -- nothing more is given
    pub less : (walks : List Walking) (few many : List Entry) → ((x : Entry) → IsIn few x → IsIn many x) → (x : Entry)
        → IsIn (given_by memory va few (others satp walks)) x → IsIn (given_by memory va many walks) x
    less [] few many within x there = within x there
    less (Had other ∷ walks) few many within x there = by_test (less walks) (other == satp) there
      where
        by_side : (x : Entry) → IsIn few x ⊎ IsIn (given_for memory other va) x → IsIn (many ++ (given_for memory other va)) x
        by_side x (inl there) = in-left many (given_for memory other va) x (within x there)
        by_side x (inr there) = in-right many (given_for memory other va) x there

        by_test : ((few many : List Entry) → ((x : Entry) → IsIn few x → IsIn many x) → (x : Entry) → IsIn (given_by memory va few (others satp walks)) x → IsIn (given_by memory va many walks) x)
            → (same : Bool) → IsIn (given_by memory va few (cond (not same) (Had other ∷ others satp walks) (others satp walks))) x → IsIn (given_by memory va (many ++ (given_for memory other va)) walks) x
        by_test again true there = again few (many ++ (given_for memory other va)) (λ x there. in-left many (given_for memory other va) x (within x there)) x there
        by_test again false there = again (few ++ (given_for memory other va)) (many ++ (given_for memory other va)) (λ x there. by_side x (in-cases few (given_for memory other va) x there)) x there
    less (Fenced flush ∷ walks) few many within x there =
        less walks (entries_left flush few) (entries_left flush many)
        (λ x there. let kept = out-filter (left_by flush) few x there in in-filter (left_by flush) many x kept.1 (within x kept.0)) x there

    -- and nothing less but what the satp gives
    pub more : (walks : List Walking) (few many : List Entry) → ((x : Entry) → IsIn many x → IsIn few x ⊎ IsIn (given_for memory satp va) x) → (x : Entry)
        → IsIn (given_by memory va many walks) x → IsIn (given_by memory va few (others satp walks)) x ⊎ IsIn (given_for memory satp va) x
    more [] few many within x there = within x there
    more (Had other ∷ walks) few many within x there = by_test (more walks) (other == satp) refl
      where
        of-satp : other ≡ satp → (x : Entry) → IsIn many x ⊎ IsIn (given_for memory other va) x → IsIn few x ⊎ IsIn (given_for memory satp va) x
        of-satp same x (inl there) = within x there
        of-satp same x (inr there) = inr (subst (λ (n : ℕ). IsIn (given_for memory n va) x) same there)

        in-few : (x : Entry) → IsIn few x ⊎ IsIn (given_for memory satp va) x → IsIn (few ++ (given_for memory other va)) x ⊎ IsIn (given_for memory satp va) x
        in-few x (inl there) = inl (in-left few (given_for memory other va) x there)
        in-few x (inr there) = inr there

        of-other : (x : Entry) → IsIn many x ⊎ IsIn (given_for memory other va) x → IsIn (few ++ (given_for memory other va)) x ⊎ IsIn (given_for memory satp va) x
        of-other x (inl there) = in-few x (within x there)
        of-other x (inr there) = inl (in-right few (given_for memory other va) x there)

        by_test : ((few many : List Entry) → ((x : Entry) → IsIn many x → IsIn few x ⊎ IsIn (given_for memory satp va) x) → (x : Entry) → IsIn (given_by memory va many walks) x → IsIn (given_by memory va few (others satp walks)) x ⊎ IsIn (given_for memory satp va) x)
            → (same : Bool) → (other == satp) ≡ same
            → IsIn (given_by memory va few (cond (not same) (Had other ∷ others satp walks) (others satp walks))) x ⊎ IsIn (given_for memory satp va) x
        by_test again true is = again few (many ++ (given_for memory other va)) (λ x there. of-satp (eqb-true other satp is) x (in-cases many (given_for memory other va) x there)) x there
        by_test again false is = again (few ++ (given_for memory other va)) (many ++ (given_for memory other va)) (λ x there. of-other x (in-cases many (given_for memory other va) x there)) x there
    more (Fenced flush ∷ walks) few many within x there = more walks (entries_left flush few) (entries_left flush many) kept x there
      where
        side : (x : Entry) → left_by flush x ≡ true → IsIn few x ⊎ IsIn (given_for memory satp va) x → IsIn (entries_left flush few) x ⊎ IsIn (given_for memory satp va) x
        side x passes (inl there) = inl (in-filter (left_by flush) few x passes there)
        side x passes (inr there) = inr there

        kept : (x : Entry) → IsIn (entries_left flush many) x → IsIn (entries_left flush few) x ⊎ IsIn (given_for memory satp va) x
        kept x there = let passed = out-filter (left_by flush) many x there in side x passed.1 (within x passed.0)

    -- a note of the satp makes up for the older ones
    noted-now : (walks : List Walking) → HaveSameMembers (given_by memory va [] (others satp walks) ++ given_for memory satp va) (given_by memory va [] walks ++ given_for memory satp va)
    noted-now walks x = (
      λ there. to (in-cases (given_by memory va [] (others satp walks)) (given_for memory satp va) x there),
      λ there. back (in-cases (given_by memory va [] walks) (given_for memory satp va) x there),
    )
      where
        to : IsIn (given_by memory va [] (others satp walks)) x ⊎ IsIn (given_for memory satp va) x → IsIn (given_by memory va [] walks ++ (given_for memory satp va)) x
        to (inl there) = in-left (given_by memory va [] walks) (given_for memory satp va) x (less walks [] [] (λ x there. there) x there)
        to (inr there) = in-right (given_by memory va [] walks) (given_for memory satp va) x there

        found : IsIn (given_by memory va [] (others satp walks)) x ⊎ IsIn (given_for memory satp va) x → IsIn (given_by memory va [] (others satp walks) ++ (given_for memory satp va)) x
        found (inl there) = in-left (given_by memory va [] (others satp walks)) (given_for memory satp va) x there
        found (inr there) = in-right (given_by memory va [] (others satp walks)) (given_for memory satp va) x there

        back : IsIn (given_by memory va [] walks) x ⊎ IsIn (given_for memory satp va) x → IsIn (given_by memory va [] (others satp walks) ++ (given_for memory satp va)) x
        back (inl there) = found (more walks [] [] (λ x there. inl there) x there)
        back (inr there) = found (inr there)

    pub noted : (walks : List Walking) → HaveSameMembers (given_by memory va [] (others satp walks ++ Had satp ∷ [])) (given_by memory va [] (walks ++ Had satp ∷ []))
    noted walks =
        same-by _ _ _ _ (given-on [] (others satp walks) (Had satp ∷ [])) (given-on [] walks (Had satp ∷ [])) (noted-now walks)

-- ---- logs and watches that are like each other go on so

same-logged : (done : Effect Flush) (walks other : List Walking) → GiveTheSame walks other → GiveTheSame (logged done walks) (logged done other)
same-logged Nothing walks other same memory va = same memory va
same-logged (Drops flush) walks other same memory va =
    same-by _ _ _ _ (given-on memory va [] walks (Fenced flush ∷ [])) (given-on memory va [] other (Fenced flush ∷ []))
    (same-filtered (left_by flush) (given_by memory va [] walks) (given_by memory va [] other) (same memory va))
same-logged Empties walks other same memory va = same-self []

pub same-noted : (satp : ℕ) (walks other : List Walking) → GiveTheSame walks other → GiveTheSame (walks ++ Had satp ∷ []) (other ++ Had satp ∷ [])
same-noted satp walks other same memory va =
    same-by _ _ _ _ (given-on memory va [] walks (Had satp ∷ [])) (given-on memory va [] other (Had satp ∷ []))
    (same-joined (given_by memory va [] walks) (given_by memory va [] other) (given_for memory satp va) (given_for memory satp va) (same memory va) (same-self (given_for memory satp va)))

pub like-after : (done : Effect Flush) (memory : ℕ → Option ℕ) (satp : ℕ) (a b : WatchedAddress) → WatchTheSame a b → WatchTheSame (after_event done memory satp a) (after_event done memory satp b)
like-after done memory satp a b like =
    let walks = same-noted satp (logged done a.walks) (logged done b.walks) (same-logged done a.walks b.walks like.walks) in
    record {
      at = like.at;
      walks = walks;
      entries = same-joined (spared done a.entries) (spared done b.entries) _ _
          (same-filtered (λ (entry : Entry). not (leaves_no_copy done entry)) a.entries b.entries like.entries)
          (subst (λ (at : HartAddress). HaveSameMembers (given_by memory a.at.address [] (logged done a.walks ++ Had satp ∷ [])) (given_by memory at.address [] (logged done b.walks ++ Had satp ∷ [])))
          like.at (walks memory a.at.address));
    }

pub like-self : (a : WatchedAddress) → WatchTheSame a a
like-self a = record { at = refl; walks = λ memory va. same-self (given_by memory va [] a.walks); entries = same-self a.entries }

pub like-on : (a b c : WatchedAddress) → WatchTheSame a b → WatchTheSame b c → WatchTheSame a c
like-on a b c one two = record {
  at = one.at ∙ two.at;
  walks = λ memory va. same-on _ _ _ (one.walks memory va) (two.walks memory va);
  entries = same-on _ _ _ one.entries two.entries;
}

-- what holds of a value that there is
pub if-ok : {A E : Type 0} (r : Result A E) (P Q : A → Type 0) → ((a : A) → P a → Q a) → IfOk r P → IfOk r Q
if-ok (Ok a) P Q follows holds = follows a holds
if-ok (Err e) P Q follows holds = tt
