-- Which steps that a condition needs were met, record by record.
use Rattle.std.proofs.Common.{◌≡◌, ◌↔◌, ◌⊎◌, Bool, true, false, List, [], ◌∷◌, ◌++◌, sym, subst, ◌∙◌, inl, inr}
use Rattle.board_core.specs.History.{Event}
use Rattle.conditions.specs.Rule.{Rule}
use Rattle.conditions.specs.declared.vacuity.NeedsMet.{NeedsMet}
use Rattle.outcome_statistics.specs.Records.{SomeIs, Tried}
use Rattle.outcome_statistics.specs.Met.{AreNeedsMet, EachIsMet, HasFirst, HasSecond, IsEachFitting}

met-next : (M : Tried → Type 0) (x : Tried) (tried : List Tried) (before after : Bool) → (after ≡ true) ↔ ((before ≡ true) ⊎ M x)
    → (before ≡ true) ↔ SomeIs M tried → (after ≡ true) ↔ SomeIs M (x ∷ tried)
met-next M x tried before after sees has = (
  (λ yes. elim (sees.0 yes) [
    | inl old ↦ inr (has.0 old)
    | inr new ↦ inl new
  ]),
  (λ some. elim some [
    | inl new ↦ sees.1 (inr new)
    | inr old ↦ sees.1 (inl (has.1 old))
  ]),
)

pub some-before : (P : Tried → Type 0) (more tried : List Tried) → SomeIs P tried → SomeIs P (more ++ tried)
some-before P [] tried some = some
some-before P (x ∷ more) tried some = inr (some-before P more tried some)

pub some-behind : (P : Tried → Type 0) (more tried : List Tried) → SomeIs P more → SomeIs P (more ++ tried)
some-behind P [] tried some = absurd some
some-behind P (x ∷ more) tried (inl here) = inl here
some-behind P (x ∷ more) tried (inr there) = inr (some-behind P more tried there)

pub some-of-both : (P : Tried → Type 0) (more tried : List Tried) → SomeIs P (more ++ tried) → SomeIs P tried ⊎ SomeIs P more
some-of-both P [] tried some = inl some
some-of-both P (x ∷ more) tried (inl here) = inr (inl here)
some-of-both P (x ∷ more) tried (inr there) = elim (some-of-both P more tried there) [
  | inl before ↦ inl before
  | inr behind ↦ inr (inr behind)
]

met-both : (P : Tried → Type 0) (more tried : List Tried) (one other both : Bool) → (both ≡ true) ↔ ((one ≡ true) ⊎ (other ≡ true))
    → (one ≡ true) ↔ SomeIs P tried → (other ≡ true) ↔ SomeIs P more → (both ≡ true) ↔ SomeIs P (more ++ tried)
met-both P more tried one other both adds here there = (
  (λ yes. elim (adds.0 yes) [
    | inl before ↦ some-before P more tried (here.0 before)
    | inr behind ↦ some-behind P more tried (there.0 behind)
  ]),
  (λ some. elim (some-of-both P more tried some) [
    | inl before ↦ adds.1 (inl (here.1 before))
    | inr behind ↦ adds.1 (inr (there.1 behind))
  ]),
)

met-none : (told : Bool) → told ≡ false → (told ≡ true) ↔ ⊥
met-none told is = ((λ yes. let t = sym yes ∙ is in cc), (λ no. absurd no))

pub are-met-none : (rule : Rule) (met : NeedsMet) → met.first ≡ false → met.second ≡ false → AreNeedsMet rule [] met
are-met-none rule met first second = record { first = met-none met.first first; second = met-none met.second second }

pub are-met-next : (rule : Rule) (x : Tried) (tried : List Tried) (before after : NeedsMet)
    → (after.first ≡ true) ↔ ((before.first ≡ true) ⊎ HasFirst rule x) → (after.second ≡ true) ↔ ((before.second ≡ true) ⊎ HasSecond rule x)
    → AreNeedsMet rule tried before → AreNeedsMet rule (x ∷ tried) after
are-met-next rule x tried before after first second have = record {
  first = met-next (HasFirst rule) x tried before.first after.first first have.first;
  second = met-next (HasSecond rule) x tried before.second after.second second have.second;
}

pub are-met-both : (rule : Rule) (more tried : List Tried) (one other both : NeedsMet) → (both.first ≡ true) ↔ ((one.first ≡ true) ⊎ (other.first ≡ true))
    → (both.second ≡ true) ↔ ((one.second ≡ true) ⊎ (other.second ≡ true)) → AreNeedsMet rule tried one → AreNeedsMet rule more other → AreNeedsMet rule (more ++ tried) both
are-met-both rule more tried one other both first second here there = record {
  first = met-both (HasFirst rule) more tried one.first other.first both.first first here.first there.first;
  second = met-both (HasSecond rule) more tried one.second other.second both.second second here.second there.second;
}

-- the same of a condition that is known
pub fitting-by : (rule same : Rule) (events : List Event) (told : Bool) → rule ≡ same → (told ≡ true) ↔ IsEachFitting same events → (told ≡ true) ↔ IsEachFitting rule events
fitting-by rule same events told is fits = subst (λ r. (told ≡ true) ↔ IsEachFitting r events) (sym is) fits

pub met-by : (rule same : Rule) (tried : List Tried) (met : NeedsMet) (told : Bool) → rule ≡ same → (AreNeedsMet same tried met → (told ≡ true) ↔ EachIsMet same tried)
    → AreNeedsMet rule tried met → (told ≡ true) ↔ EachIsMet rule tried
met-by rule same tried met told is tells = subst (λ r. AreNeedsMet r tried met → (told ≡ true) ↔ EachIsMet r tried) (sym is) tells

pub both-by : {A B P Q : Type 0} (told : Bool) → (told ≡ true) ↔ (A × B) → A ↔ P → B ↔ Q → (told ≡ true) ↔ (P × Q)
both-by told both one other = (
  (λ yes. let is = both.0 yes in (one.0 is.0, other.0 is.1)),
  (λ is. both.1 (one.1 is.0, other.1 is.1)),
)
