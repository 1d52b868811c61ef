-- Lists as sets of their members.
use Rattle.std.specs.Prelude.{◌≡◌, ◌⊎◌, ◌↔◌, List, [], ◌∷◌}

-- The list has this member.
abbrev pub IsIn : {A : Type 0} → List A → A → Type 0
IsIn [] x = ⊥
IsIn (y ∷ ys) x = (y ≡ x) ⊎ IsIn ys x

-- Two lists have the same members, in any order, each once or more often.
abbrev pub HaveSameMembers : {A : Type 0} → (xs ys : List A) → Type 0
HaveSameMembers {A} xs ys = (x : A) → IsIn xs x ↔ IsIn ys x
