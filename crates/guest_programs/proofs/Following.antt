-- A guest goes on by what its hart does.
use Rattle.std.proofs.Common.{◌≡◌, ◌≢◌, ◌↔◌, ◌<◌, ◌==◌, ℕ, length, get_or, set, inl, inr, true, false, List, [], ◌∷◌, ◌++◌, refl, sym, ap, subst, ◌∙◌, append_assoc, append-nil}
use Rattle.std.specs.Prelude.{Option, Some, None}
use Rattle.std.proofs.lemmas.Bool.{cases_Bool, eq-eqb, eqb-false, eqb-true}
use Rattle.std.proofs.lemmas.List.{get_or-set_other, get_or-set_same, length-set}
use Rattle.board_terms.specs.declared.op.Actor.TheVariants.{Hart}
use Rattle.board_terms.specs.declared.op.Op.{Op}
use Rattle.board_terms.specs.declared.reply.Reply.{Reply}
use Rattle.board_terms.specs.declared.reply.Reply.TheVariants.{Ret, Waiting, Gone, Entry, Value, Fault, Served, Moved, Done}
use Rattle.board_core.specs.History.{Event}
use Rattle.guest_programs.specs.Guests.{AreNext, Did, Entered, IsAt, IsBehind, Meaning, Next, Rest, did, did_after, entry_after, is_guest, last_entry, meaning_by, meaning_of, next_for}
use Rattle.guest_programs.specs.Guests.Meaning.{Does, Enters, Still}
use Rattle.guest_programs.specs.Places.{AllFollowed, IsFollowed, IsFollowedTo}
use Rattle.guest_programs.specs.declared.found_end.Followed.{Followed}
use Rattle.guest_programs.specs.declared.found_end.Followed.TheVariants.{To, Strayed}

-- ---- what an event means

pub own-turn : (h : ℕ) (e : Event) → e.actor ≡ Hart h → meaning_of h e ≡ meaning_by e.op e.reply
own-turn h e by = rw (by, eq-eqb h h refl) refl

-- no reply is an entry
abbrev pub IsNoEntry : Reply → Type 0
IsNoEntry r = (addr hart opaque : ℕ) → r ≡ Entry addr hart opaque → ⊥

pub turn-does : (op : Op) (r : Reply) → is_guest op ≡ true → IsNoEntry r → meaning_by op r ≡ Does op r
turn-does op (Entry addr hart opaque) guest none = absurd (none addr hart opaque refl)
turn-does op (Ret ret) guest none = rw guest refl
turn-does op Waiting guest none = rw guest refl
turn-does op Gone guest none = rw guest refl
turn-does op (Value value) guest none = rw guest refl
turn-does op (Fault cause) guest none = rw guest refl
turn-does op Served guest none = rw guest refl
turn-does op (Moved state) guest none = rw guest refl
turn-does op Done guest none = rw guest refl

pub turn-still : (op : Op) (r : Reply) → is_guest op ≡ false → IsNoEntry r → meaning_by op r ≡ Still
turn-still op (Entry addr hart opaque) other none = absurd (none addr hart opaque refl)
turn-still op (Ret ret) other none = rw other refl
turn-still op Waiting other none = rw other refl
turn-still op Gone other none = rw other refl
turn-still op (Value value) other none = rw other refl
turn-still op (Fault cause) other none = rw other refl
turn-still op Served other none = rw other refl
turn-still op (Moved state) other none = rw other refl
turn-still op Done other none = rw other refl

-- ---- where a guest is behind it

behind-entry : (rest : Rest) (guests : Next) (entry : Entered) → ((more : Did) → rest more ≡ guests entry more) → IsBehind rest guests (Some entry) []
behind-entry rest guests entry is more = is more ∙ ap (guests entry) (sym (append-nil more))

behind-one : (rest now : Rest) (guests : Next) (entry : Option Entered) (before : Did) (one : Op × Reply) → IsBehind rest guests entry before
    → ((more : Did) → now more ≡ rest (more ++ one ∷ [])) → IsBehind now guests entry (one ∷ before)
behind-one rest now guests entry before one at is more =
    is more ∙ at (more ++ one ∷ []) ∙ ap (next_for guests entry) (append_assoc more (one ∷ []) before)

module _ (guests : Next) (past : List Event) (h : ℕ) (e : Event) (by : e.actor ≡ Hart h) where
  -- so by what an event means
  turned : (P : Option Entered → Did → Type 0) (t : Meaning) → meaning_by e.op e.reply ≡ t → P (entry_after t (last_entry past h)) (did_after t (did past h))
      → P (last_entry (e ∷ past) h) (did (e ∷ past) h)
  turned P t is holds = subst (λ (m : Meaning). P (entry_after m (last_entry past h)) (did_after m (did past h))) (sym (own-turn h e by ∙ is)) holds

  pub at-entry : (rest : Rest) (addr hart opaque : ℕ) → e.reply ≡ Entry addr hart opaque
      → ((more : Did) → rest more ≡ guests (record { addr = addr; hart = hart; opaque = opaque }) more) → IsAt rest guests (e ∷ past) h
  at-entry rest addr hart opaque told is =
      let entry : Entered = record { addr = addr; hart = hart; opaque = opaque } in
      turned (λ at before. IsBehind rest guests at before) (Enters entry) (ap (meaning_by e.op) told) (behind-entry rest guests entry is)

  pub at-one : (rest now : Rest) → is_guest e.op ≡ true → IsNoEntry e.reply → IsAt rest guests past h
      → ((more : Did) → now more ≡ rest (more ++ (e.op, e.reply) ∷ [])) → IsAt now guests (e ∷ past) h
  at-one rest now guest none at is =
      turned (λ entry before. IsBehind now guests entry before) (Does e.op e.reply) (turn-does e.op e.reply guest none)
      (behind-one rest now guests (last_entry past h) (did past h) (e.op, e.reply) at is)

  pub at-same : (rest : Rest) → is_guest e.op ≡ false → IsNoEntry e.reply → IsAt rest guests past h → IsAt rest guests (e ∷ past) h
  at-same rest other none at = turned (λ entry before. IsBehind rest guests entry before) Still (turn-still e.op e.reply other none) at

  -- ---- and whether it did what was next

  module _ {P : Type 0} (rest_at : P → Rest) where
    pub followed-entry : (place : P) (addr hart opaque : ℕ) → e.reply ≡ Entry addr hart opaque
        → ((more : Did) → rest_at place more ≡ guests (record { addr = addr; hart = hart; opaque = opaque }) more) → IsFollowed rest_at guests (e ∷ past) h (To place)
    followed-entry place addr hart opaque told is =
        let entry : Entered = record { addr = addr; hart = hart; opaque = opaque } in
        turned (λ at before. IsFollowedTo rest_at guests at before (To place)) (Enters entry) (ap (meaning_by e.op) told) (behind-entry (rest_at place) guests entry is, tt)

    pub followed-one : (found : Followed P) → is_guest e.op ≡ true → IsNoEntry e.reply
        → IsFollowedTo rest_at guests (last_entry past h) ((e.op, e.reply) ∷ did past h) found → IsFollowed rest_at guests (e ∷ past) h found
    followed-one found guest none is = turned (λ entry before. IsFollowedTo rest_at guests entry before found) (Does e.op e.reply) (turn-does e.op e.reply guest none) is

    pub followed-same : (found : Followed P) → is_guest e.op ≡ false → IsNoEntry e.reply → IsFollowed rest_at guests past h found → IsFollowed rest_at guests (e ∷ past) h found
    followed-same found other none is = turned (λ entry before. IsFollowedTo rest_at guests entry before found) Still (turn-still e.op e.reply other none) is

module _ {P : Type 0} (rest_at : P → Rest) (guests : Next) (entry : Option Entered) (before : Did) (op : Op) (reply : Reply) where
  -- it does its next operation
  pub followed_next : (place now : P) → IsFollowedTo rest_at guests entry before (To place) → rest_at place [] ≡ Some op
      → ((more : Did) → rest_at now more ≡ rest_at place (more ++ (op, reply) ∷ [])) → IsFollowedTo rest_at guests entry ((op, reply) ∷ before) (To now)
  followed_next place now at next is =
      (behind-one (rest_at place) (rest_at now) guests entry before (op, reply) at.0 is, (sym (at.0 []) ∙ next, at.1))

  -- another one
  pub followed_other : (place : P) (next : Op) → IsFollowedTo rest_at guests entry before (To place) → rest_at place [] ≡ Some next → next ≢ op
      → IsFollowedTo rest_at guests entry ((op, reply) ∷ before) Strayed
  followed_other place next at is other did = other (let t = sym is ∙ at.0 [] ∙ did.0 in cc)

  -- one where it has none
  pub followed_over : (place : P) → IsFollowedTo rest_at guests entry before (To place) → rest_at place [] ≡ None
      → IsFollowedTo rest_at guests entry ((op, reply) ∷ before) Strayed
  followed_over place at none did = let t = sym none ∙ at.0 [] ∙ did.0 in cc

  -- and one behind another that wasn't next
  pub strayed_before : IsFollowedTo rest_at guests entry before Strayed → IsFollowedTo rest_at guests entry ((op, reply) ∷ before) Strayed
  strayed_before strayed did = strayed did.1

-- a guest is through exactly where it has none
pub through-to : {P : Type 0} (rest_at : P → Rest) (guests : Next) (entry : Option Entered) (before : Did) (place : P) → IsFollowedTo rest_at guests entry before (To place)
    → (rest_at place [] ≡ None) ↔ (AreNext guests entry before × (next_for guests entry before ≡ None))
through-to rest_at guests entry before place at = ((λ none. (at.1, sym (at.0 []) ∙ none)), (λ both. at.0 [] ∙ both.1))

-- ---- of all harts

turn-other : (k h : ℕ) (e : Event) → e.actor ≡ Hart h → k ≢ h → meaning_of k e ≡ Still
turn-other k h e by other = elim (cases_Bool (k == h)) [
  | inl same ↦ absurd (other (eqb-true k h same))
  | inr not ↦ rw (by, not) refl
]

module _ {P : Type 0} (rest_at : P → Rest) (guests : Next) where
  followed-else : (past : List Event) (k : ℕ) (e : Event) (found : Followed P) → meaning_of k e ≡ Still → IsFollowed rest_at guests past k found → IsFollowed rest_at guests (e ∷ past) k found
  followed-else past k e found still is =
      subst (λ (t : Meaning). IsFollowedTo rest_at guests (entry_after t (last_entry past k)) (did_after t (did past k)) found) (sym still) is

  pub see-all : (founds : List (Followed P)) (past : List Event) (e : Event) (h : ℕ) (before now : Followed P) → e.actor ≡ Hart h → h < length founds
      → (IsFollowed rest_at guests past h (get_or founds h before) → IsFollowed rest_at guests (e ∷ past) h now) → AllFollowed rest_at guests founds past
      → AllFollowed rest_at guests (set founds h now) (e ∷ past)
  see-all founds past e h before now by within sees all k d below = elim (cases_Bool (k == h)) [
    | inl same ↦
        let here : k ≡ h = eqb-true k h same in
        let there : get_or (set founds h now) k d ≡ now = ap (λ (n : ℕ). get_or (set founds h now) n d) here ∙ get_or-set_same founds h now d within in
        subst (λ (found : Followed P). IsFollowed rest_at guests (e ∷ past) k found) (sym there)
        (subst (λ (n : ℕ). IsFollowed rest_at guests (e ∷ past) n now) (sym here) (sees (all h before within)))
    | inr not ↦
        let other : k ≢ h = eqb-false k h not in
        let there : get_or (set founds h now) k d ≡ get_or founds k d = get_or-set_other founds h k now d other in
        subst (λ (found : Followed P). IsFollowed rest_at guests (e ∷ past) k found) (sym there)
        (followed-else past k e (get_or founds k d) (turn-other k h e by other) (all k d (subst (λ (n : ℕ). k < n) (length-set founds h now) below)))
  ]
