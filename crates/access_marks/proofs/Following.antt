-- A board that follows a record, after one event more.
use Rattle.std.proofs.Common.{◌≡◌, ◌↔◌, ℕ, ◌+◌, ◌<◌, Bool, true, false, not, List, [], ◌∷◌, ◌++◌, length, get_or, reverse, refl, sym, ap, subst, ◌∙◌, Option, Some, None, Result, Ok, Err}
use Rattle.std.specs.Prelude.{IfOk, if◌then◌else◌}
use Rattle.std.specs.List.{All}
use Rattle.std.proofs.lemmas.Bool.{lt-ltb}
use Rattle.std.proofs.lemmas.List.{length-append, reverse-reverse}
use mathlib.Core.List.{reverse-cons}
use Rattle.rfence.specs.Applied.{Nothing}
use Rattle.sv39.specs.declared.cause.Cause.{Cause}
use Rattle.hart_access.specs.declared.accesses.Access.{Access}
use Rattle.hart_access.specs.declared.accesses.Access.TheVariants.{Fetch}
use Rattle.board_terms.specs.declared.op.Actor.{Actor}
use Rattle.board_terms.specs.declared.op.Actor.TheVariants.{Hart, Clock}
use Rattle.board_terms.specs.declared.reply.Refusal.{Refusal}
use Rattle.board_terms.specs.declared.reply.Reply.{Reply}
use Rattle.board_core.specs.Accesses.{used_by_actor}
use Rattle.board_core.specs.Course.{Course}
use Rattle.board_core.specs.History.{Event, Reach, access_of}
use Rattle.board_core.specs.Opening.{Opening}
use Rattle.board_core.specs.Replies.{answer, recorded, stepped}
use Rattle.any_tlb.specs.Effects.{effect_at}
use Rattle.any_tlb.specs.Steady.{IsSteadyWord}
use Rattle.any_tlb.specs.WatchedWords.{WatchedWordsAgree}
use Rattle.tlb_watch.specs.declared.effect.CacheEffect.{CacheEffect}
use Rattle.tlb_watch.specs.declared.hart_address.HartAddress.{HartAddress}
use Rattle.tlb_watch.specs.Effects.{effect_on, effect_there, is_there}
use Rattle.tlb_watch.specs.Tracked.{IsTracking, addresses_of}
use Rattle.tlb_watch.specs.Watched.{WatchedAddress}
use Rattle.access_marks.specs.declared.marks.Marks.{Marks}
use Rattle.access_marks.specs.Marks.{IsMarkedAs, IsMarkedStep, IsWalkMarkedAs, IsWalkMarkedStep, unmarked}
use Rattle.access_marks.specs.Inside.Accessed.{IsPresent}
use Rattle.access_marks.specs.Inside.Following.{IsNext}

-- what holds of a value that there is
pub if-ok : {A E : Type 0} (r : Result A E) (P Q : A → Type 0) → ((a : A) → P a → Q a) → IfOk r P → IfOk r Q
if-ok (Ok a) P Q follows holds = follows a holds
if-ok (Err e) P Q follows holds = tt

-- ---- watches

-- the watches of the addresses that they have
pub of-own : (o : Opening) (past : List Event) (addresses : List HartAddress) (watches : List WatchedAddress) → IsTracking o past addresses watches → IsTracking o past (addresses_of watches) watches
of-own o past addresses watches tracks = record {
  are = refl;
  present = subst (λ (l : List HartAddress). All (λ (at : HartAddress). at.hart < o.config.harts) l) (sym tracks.are) tracks.present;
  each = tracks.each;
}

-- ---- effects

-- what an event is seen to do, it does: its actor is there
pub does : (o : Opening) (past : List Event) (event : Event) (effect : CacheEffect) → IsPresent o.config.harts event.actor → ((h : ℕ) → effect_on effect h ≡ effect_there o past event h)
    → (h : ℕ) → effect_on effect h ≡ effect_at o past event h
does o past event effect present sees h = sees h ∙ ap (λ (there : Bool). if there then effect_at o past event h else Nothing) (by_actor event.actor present)
  where
    by_actor : (actor : Actor) → IsPresent o.config.harts actor → is_there o.config.harts actor ≡ true
    by_actor (Hart x) inside = lt-ltb x o.config.harts inside
    by_actor Clock inside = refl

-- ---- steps

last : (xs : List Event) (x d : Event) → get_or (xs ++ x ∷ []) (length xs) d ≡ x
last [] x d = refl
last (y ∷ xs) x d = last xs x d

-- An accepted step of a board: its courses before and after, its histories, and the event at the end of the later one.
pub record Taken (old new : Course) (event : Event) (reply : Reply) (before after : List Event) : Type 0 where
  pub answered : Ok reply ≡ answer old.opening old.past event.actor event.op
  pub went : new ≡ stepped old event.actor event.op
  pub was : reverse before ≡ old.past
  pub is : reverse after ≡ new.past

module _ (old new : Course) (event : Event) (reply : Reply) (before after : List Event) (t : Taken old new event reply before after) where
  goes_on : new ≡ record { opening = old.opening; past = record { actor = event.actor; op = event.op; reply = reply; translation = used_by_actor old.opening old.past event.actor event.op } ∷ old.past }
  goes_on = t.went ∙ sym (ap (recorded old event.actor event.op) t.answered)

  grown : after ≡ before ++ record { actor = event.actor; op = event.op; reply = reply; translation = used_by_actor old.opening old.past event.actor event.op } ∷ []
  grown =
      sym (reverse-reverse after) ∙ ap reverse (t.is ∙ ap (λ (c : Course). c.past) goes_on) ∙ reverse-cons _ old.past
      ∙ ap (λ (es : List Event). es ++ record { actor = event.actor; op = event.op; reply = reply; translation = used_by_actor old.opening old.past event.actor event.op } ∷ []) (ap reverse (sym t.was) ∙ reverse-reverse before)

  pub one-longer : length after ≡ length before + 1
  one-longer = ap length grown ∙ length-append before _

  module _ (at : Event) (found : at ≡ get_or after (length before) at) where
    entry : at.translation ≡ used_by_actor old.opening old.past event.actor event.op
    entry = ap (λ (e : Event). e.translation) (found ∙ ap (λ (es : List Event). get_or es (length before) at) grown ∙ last before _ at)

    pub tells-next : (says : Bool) → (says ≡ true) ↔ ((reply ≡ event.reply) × (at.translation ≡ event.translation)) → (says ≡ true) ↔ IsNext old.opening old.past event
    tells-next says tells = (
      λ says-so. let same = tells.0 says-so in record {
        answered = sym t.answered ∙ ap (λ (r : Reply). let ok : Result Reply Refusal = Ok r in ok) same.0;
        uses = sym same.1 ∙ entry;
      },
      λ next. tells.1 ((let e = t.answered ∙ next.answered in cc), entry ∙ sym next.uses),
    )

    pub goes-on : (says : Bool) → (says ≡ true) ↔ ((reply ≡ event.reply) × (at.translation ≡ event.translation)) → says ≡ true → new ≡ record { opening = old.opening; past = event ∷ old.past }
    goes-on says tells says-so =
        let same = tells.0 says-so in
        goes_on ∙ (λ i. record {
          opening = old.opening;
          past = record { actor = event.actor; op = event.op; reply = same.0 i; translation = (sym entry ∙ same.1) i } ∷ old.past;
        })

pub refused-is-none : (old : Course) (event : Event) (refusal : Refusal) → Err refusal ≡ answer old.opening old.past event.actor event.op → (false ≡ true) ↔ IsNext old.opening old.past event
refused-is-none old event refusal is = ((λ bad. absurd cc), (λ next. let e = is ∙ next.answered in absurd cc))

-- ---- what is steady

pub not-false : (b : Bool) (P : Type 0) → (b ≡ true) ↔ P → (not b ≡ false) ↔ P
not-false true P tells = ((λ is. tells.0 refl), (λ p. refl))
not-false false P tells = ((λ is. absurd cc), (λ p. let e = tells.1 p in absurd cc))

-- a fetch of a word, by the place that the page tables give it
pub word-steady : (o : Opening) (past : List Event) (h : ℕ) (place : Result ℕ Cause) (address : ℕ) (differs : Bool) → place ≡ Ok address → (differs ≡ false) ↔ WatchedWordsAgree o past h address
    → WatchedWordsAgree o past h address ↔ IsSteadyWord o past h address
    → (not differs ≡ true) ↔ ((let fetch : Access = Fetch in fetch) ≡ Fetch → (pa : ℕ) → place ≡ Ok pa → IsSteadyWord o past h pa)
word-steady o past h place address true is tells decides = (
  (λ bad. absurd cc),
  (λ steady. let e = tells.1 (decides.1 (steady refl address is)) in absurd cc),
)
word-steady o past h place address false is tells decides = (
  (λ good fetch pa there.
      let same : address ≡ pa = let e = sym is ∙ there in cc in
      subst (IsSteadyWord o past h) same (decides.0 (tells.0 refl))),
  (λ steady. refl),
)

pub no-word : (o : Opening) (past : List Event) (h : ℕ) (place : Result ℕ Cause) (cause : Cause) → place ≡ Err cause
    → (true ≡ true) ↔ ((let fetch : Access = Fetch in fetch) ≡ Fetch → (pa : ℕ) → place ≡ Ok pa → IsSteadyWord o past h pa)
no-word o past h place cause is = ((λ good fetch pa there. let e = sym is ∙ there in absurd cc), (λ steady. refl))

-- ---- marks

pub of-access : (o : Opening) (past : List Event) (event : Event) (h : ℕ) (reach : Reach) (m : Marks) → event.actor ≡ Hart h → access_of event.op ≡ Some reach → IsMarkedAs o past h event reach m
    → IsMarkedStep o past event event.actor (access_of event.op) m
of-access o past event h reach m own access marked =
    subst (λ (actor : Actor). IsMarkedStep o past event actor (access_of event.op) m) (sym own)
    (subst (λ (reach : Option Reach). IsMarkedStep o past event (Hart h) reach m) (sym access) marked)

pub of-other : (o : Opening) (past : List Event) (event : Event) (h : ℕ) (m : Marks) → event.actor ≡ Hart h → access_of event.op ≡ None → m ≡ unmarked
    → IsMarkedStep o past event event.actor (access_of event.op) m
of-other o past event h m own none same =
    subst (λ (actor : Actor). IsMarkedStep o past event actor (access_of event.op) m) (sym own)
    (subst (λ (reach : Option Reach). IsMarkedStep o past event (Hart h) reach m) (sym none) same)

pub of-clock : (o : Opening) (past : List Event) (event : Event) (m : Marks) → event.actor ≡ Clock → m ≡ unmarked → IsMarkedStep o past event event.actor (access_of event.op) m
of-clock o past event m own same = subst (λ (actor : Actor). IsMarkedStep o past event actor (access_of event.op) m) (sym own) same

-- ---- what marks say of walks

module _ (o : Opening) (past : List Event) (event : Event) where
  pub walks-of-access : (h : ℕ) (reach : Reach) (m : Marks) → event.actor ≡ Hart h → access_of event.op ≡ Some reach → IsWalkMarkedAs o past h reach m
      → IsWalkMarkedStep o past event.actor (access_of event.op) m
  walks-of-access h reach m own access marked =
      subst (λ (actor : Actor). IsWalkMarkedStep o past actor (access_of event.op) m) (sym own)
      (subst (λ (reach : Option Reach). IsWalkMarkedStep o past (Hart h) reach m) (sym access) marked)

  pub walks-of-other : (h : ℕ) (m : Marks) → event.actor ≡ Hart h → access_of event.op ≡ None → IsWalkMarkedStep o past event.actor (access_of event.op) m
  walks-of-other h m own none =
      subst (λ (actor : Actor). IsWalkMarkedStep o past actor (access_of event.op) m) (sym own)
      (subst (λ (reach : Option Reach). IsWalkMarkedStep o past (Hart h) reach m) (sym none) tt)

  pub walks-of-clock : (m : Marks) → event.actor ≡ Clock → IsWalkMarkedStep o past event.actor (access_of event.op) m
  walks-of-clock m own = subst (λ (actor : Actor). IsWalkMarkedStep o past actor (access_of event.op) m) (sym own) tt
