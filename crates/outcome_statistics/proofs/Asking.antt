-- What a condition says of a record, by whether it asks of marks.
use Rattle.std.proofs.Common.{◌≡◌, ◌↔◌, ℕ, ◌+◌, ◌<◌, Bool, true, false, List, get_or, sym, subst, ◌∙◌, below_more}
use Rattle.std.specs.Prelude.{Option, Some, slice_get}
use Rattle.std.proofs.lemmas.Option.{get_or_from_slice_get}
use Rattle.access_marks.specs.declared.marks.Marks.{Marks}
use Rattle.board_core.specs.History.{Event}
use Rattle.conditions.specs.Condition.{Condition}
use Rattle.conditions.specs.Ending.{Ending}
use Rattle.conditions.specs.Rule.{Rule}
use Rattle.conditions.specs.Rules.{Holds}
use Rattle.marked_conditions.specs.Marked.{HoldsWith, asks_of_marks}
use Rattle.outcome_statistics.specs.Records.{HoldsOf, Tried}

module _ (rule : Rule) (x : Tried) (asks : Bool) (events : List Event) (is : asks ≡ asks_of_marks rule) (same : x.events ≡ events) where
  module _ (told : Bool) (end : Option Ending) (ended : x.end ≡ end) where
    pub holds-marked : (marks : List Marks) → x.marks ≡ marks → asks ≡ true → (told ≡ true) ↔ HoldsWith rule events marks end
        → (told ≡ true) ↔ HoldsOf (asks_of_marks rule) rule x
    holds-marked marks marked asked tells =
        subst (λ (b : Bool). (told ≡ true) ↔ HoldsOf b rule x) (sym asked ∙ is)
        (subst (λ (e : List Event). (told ≡ true) ↔ HoldsWith rule e x.marks x.end) (sym same)
        (subst (λ (m : List Marks). (told ≡ true) ↔ HoldsWith rule events m x.end) (sym marked)
        (subst (λ (e : Option Ending). (told ≡ true) ↔ HoldsWith rule events marks e) (sym ended) tells)))

    pub holds-bare : asks ≡ false → (told ≡ true) ↔ Holds rule events end → (told ≡ true) ↔ HoldsOf (asks_of_marks rule) rule x
    holds-bare bare tells =
        subst (λ (b : Bool). (told ≡ true) ↔ HoldsOf b rule x) (sym bare ∙ is)
        (subst (λ (e : List Event). (told ≡ true) ↔ Holds rule e x.end) (sym same)
        (subst (λ (e : Option Ending). (told ≡ true) ↔ Holds rule events e) (sym ended) tells))

-- ---- whether some condition asks

module _ (of : Rule → Bool) where
  abbrev pub NoneAsks : List Condition → ℕ → Type 0
  NoneAsks conditions n = (k : ℕ) → k < n → (c : Condition) → slice_get conditions k ≡ Some c → of c.rule ≡ true → ⊥

  pub none-asks-next : (conditions : List Condition) (n : ℕ) (d : Condition) (asks : Bool) → d ≡ get_or conditions n d → asks ≡ of d.rule → asks ≡ false
      → NoneAsks conditions n → NoneAsks conditions (n + 1)
  none-asks-next conditions n d asks is tells bare before =
      let P : ℕ → Type 0 = λ k. (c : Condition) → slice_get conditions k ≡ Some c → of c.rule ≡ true → ⊥ in
      below_more P n before (λ c at asked.
      let same : c ≡ d = sym (get_or_from_slice_get conditions n c d at) ∙ sym is in
      let here : of d.rule ≡ true = subst (λ (c : Condition). of c.rule ≡ true) same asked in
      absurd (let t = sym bare ∙ tells ∙ here in cc))
