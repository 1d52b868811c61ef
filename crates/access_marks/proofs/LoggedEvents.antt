-- A log of walks after one event more.
use Rattle.std.proofs.Common.{◌≡◌, ℕ, ◌<◌, Bool, true, false, List, ◌∷◌, refl, sym, ap, subst, ◌∙◌, Option, Some, None, Result, Ok, Err}
use Rattle.std.specs.Prelude.{◌==◌, if◌then◌else◌, option_map, IfOk, IfSome}
use Rattle.std.proofs.lemmas.Bool.{eq-eqb, eqb-true, ne_eqb}
use Rattle.std.proofs.lemmas.Option.{same_Some}
use Rattle.sbi_abi.specs.declared.reset.Reset.{Reset as ResetMade}
use Rattle.rfence.specs.Applied as applied
use Rattle.rfence.specs.Applied.{Effect, Empties, Drops}
use Rattle.board_terms.specs.declared.config.Config.{Config}
use Rattle.board_terms.specs.declared.op.Actor.{Actor}
use Rattle.board_terms.specs.declared.op.Op.{Op}
use Rattle.board_terms.specs.declared.op.Op.TheVariants.{WriteSatp, Advance}
use Rattle.board_terms.specs.declared.reply.Reply.{Reply}
use Rattle.board_terms.specs.declared.reply.Reply.TheVariants.{Entry}
use Rattle.board_terms.specs.Limits.{spaces_of}
use Rattle.sv39.specs.Satp.{satp_of_write}
use Rattle.board_core.specs.Course.{is_hart}
use Rattle.board_core.specs.History.{Event}
use Rattle.board_core.specs.Memory.{Zeroed, memory, satp, satp_by, writing_by}
use Rattle.board_core.specs.Opening.{Opening}
use Rattle.board_core.specs.Replies.{IsLegal}
use Rattle.board_core.specs.Resets.{reset_by}
use Rattle.board_core.specs.Writes.{Write, Here, Everywhere, at_reset, latest}
use Rattle.any_tlb.specs.Effects.{effect_at}
use Rattle.tlb_watch.specs.declared.effect.CacheEffect.{CacheEffect}
use Rattle.tlb_watch.specs.declared.effect.CacheEffect.TheVariants.{Nothing, Applied, Reset}
use Rattle.tlb_watch.specs.Effects.{effect_on}
use Rattle.walk_watch.specs.declared.former.FormerSatp.{FormerSatp}
use Rattle.walk_watch.specs.declared.former.FormerWord.{FormerWord}
use Rattle.walk_watch.specs.Logged.{IsFormerSatp, IsFormerWord, IsLogged, LoggedWalks, notes_after, satps_after}
use Rattle.access_marks.specs.declared.changes.Written.{Written}
use Rattle.access_marks.specs.Inside.Accessed.{IsPresent}
use Rattle.access_marks.specs.Inside.Changes.{SaysWritten}
use Rattle.access_marks.specs.Inside.Logging.{IsFormerOf, IsSatpChange, SaysSatp}
use Rattle.access_marks.proofs.Changing.{reset-empties, reset-of, stays}

-- an effect that empties all caches of a hart is a reset
empties-all : (effect : CacheEffect) (h : ℕ) → effect_on effect h ≡ Empties → effect ≡ Reset
empties-all Nothing h is = cc
empties-all (Applied x flush) h is = by_test (x == h) is
  where
    by_test : (b : Bool) → (if b then Drops flush else applied.Nothing) ≡ Empties → (let e : CacheEffect = Applied x flush in e) ≡ Reset
    by_test true is = cc
    by_test false is = cc
empties-all Reset h is = refl

-- ---- satps

-- a write at every hart is a reset's
at-reset : (found : Option ResetMade) (value : ℕ) → at_reset found 0 ≡ Some (Everywhere value) → (reset : ResetMade) × (found ≡ Some reset)
at-reset None value is = absurd cc
at-reset (Some reset) value is = (reset, refl)

not-here : (found : Option ℕ) (value : ℕ) → option_map Here found ≡ Some (Everywhere value) → ⊥
not-here None value is = cc
not-here (Some n) value is = cc

everywhere : (c : Config) (op : Op) (r : Reply) (value : ℕ) → satp_by c op r ≡ Some (Everywhere value) → (reset : ResetMade) × (reset_by op r ≡ Some reset)
everywhere c (WriteSatp n) r value is = absurd (not-here (satp_of_write (spaces_of c) n) value is)
everywhere c Advance (Entry addr hart opaque) value is = absurd cc
everywhere c op r value is = at-reset (reset_by op r) value is

latest-else : (w : Option (Write ℕ)) (before : ℕ) → ((value : ℕ) → w ≡ Some (Everywhere value) → ⊥) → latest w false before ≡ before
latest-else None before never = refl
latest-else (Some (Here value)) before never = refl
latest-else (Some (Everywhere value)) before never = absurd (never value refl)

module _ (o : Opening) (past : List Event) (event : Event) (no_reset : (reset : ResetMade) → reset_by event.op event.reply ≡ Some reset → ⊥) where
  satp-else : (h : ℕ) → is_hart h event.actor ≡ false → satp o (event ∷ past) h ≡ satp o past h
  satp-else h other =
      ap (λ (own : Bool). latest (satp_by o.config event.op event.reply) own (satp o past h)) other
      ∙ latest-else (satp_by o.config event.op event.reply) (satp o past h)
      (λ value is. let made = everywhere o.config event.op event.reply value is in no_reset made.0 made.1)

  satp-changed : (former changed : Option FormerSatp) → SaysSatp o past event.actor former → IsSatpChange former (satp o (event ∷ past)) changed
      → IsFormerSatp (satp o past) (satp o (event ∷ past)) changed
  satp-changed None changed says is =
      subst (IsFormerSatp (satp o past) (satp o (event ∷ past))) (sym is) (λ h. satp-else h (ap (is_hart h) says))
  satp-changed (Some former) None says same = λ h. by_test h (h == former.hart) refl
    where
      by_test : (h : ℕ) (b : Bool) → (h == former.hart) ≡ b → satp o (event ∷ past) h ≡ satp o past h
      by_test h true here =
          let own = eqb-true h former.hart here in
          ap (satp o (event ∷ past)) own ∙ same ∙ says.1 ∙ ap (satp o past) (sym own)
      by_test h false there = satp-else h (ap (is_hart h) says.0 ∙ there)
  satp-changed (Some former) (Some changed) says is =
      subst (λ (f : FormerSatp). IsFormerSatp (satp o past) (satp o (event ∷ past)) (Some f)) (sym is)
      (says.1, λ h apart. satp-else h (ap (is_hart h) says.0 ∙ ne_eqb h former.hart (λ same. apart (sym same))))

  -- ---- words

  no_zeroed : writing_by event.op event.reply event.translation ≡ Some Zeroed → ⊥
  no_zeroed is = let made = reset-of event.op event.reply event.translation is in no_reset made.0 made.1

  word-changed : (written : Option Written) (former : Option FormerWord) → SaysWritten o past event written → IsFormerOf written (memory o (event ∷ past)) former
      → IsFormerWord (memory o past) (memory o (event ∷ past)) former
  word-changed None former says is =
      subst (IsFormerWord (memory o past) (memory o (event ∷ past))) (sym is)
      (λ pa. stays o past event pa no_zeroed (λ there. let e = sym says ∙ there in cc))
  word-changed (Some written) None says same = λ pa. by_test pa (written.at == pa) refl
    where
      by_test : (pa : ℕ) (b : Bool) → (written.at == pa) ≡ b → memory o (event ∷ past) pa ≡ memory o past pa
      by_test pa true here =
          let own = eqb-true written.at pa here in
          ap (memory o (event ∷ past)) (sym own) ∙ same ∙ says.1 ∙ ap (memory o past) own
      by_test pa false apart =
          stays o past event pa no_zeroed
          (λ there. let e : true ≡ false = sym (eq-eqb written.at pa (same_Some written.at pa (sym says.0 ∙ there))) ∙ apart in cc)
  word-changed (Some written) (Some former) says is = (
    is.1 ∙ says.1 ∙ ap (memory o past) (sym is.0),
    λ pa apart. stays o past event pa no_zeroed (λ there. apart (is.0 ∙ same_Some written.at pa (sym says.0 ∙ there))),
  )

-- ---- one event more

pub logged-more : (o : Opening) (event : Event) (past : List Event) (written : Option Written) (word : Option FormerWord) (former changed : Option FormerSatp) (effect : CacheEffect) (before after : LoggedWalks)
    → IsLegal o (event ∷ past) → SaysWritten o past event written → IsFormerOf written (memory o (event ∷ past)) word → SaysSatp o past event.actor former
    → IsSatpChange former (satp o (event ∷ past)) changed → ((h : ℕ) → effect_on effect h ≡ effect_at o past event h) → IsLogged o past before
    → after.own ≡ satps_after false effect changed before.own → after.global ≡ satps_after true effect changed before.global → after.notes ≡ notes_after effect word before.notes
    → IsLogged o (event ∷ past) after
logged-more o event past written word former changed effect before after legal says wrote had changes does logged own global notes = (
  before,
  logged,
  record {
    effect = effect;
    word = word;
    former = changed;
    does = does;
    words = λ other. word-changed o past event (no-reset other) written word says wrote;
    satps = λ other. satp-changed o past event (no-reset other) former changed had changes;
    own = own;
    global = global;
    notes = notes;
  },
)
  where
    no-reset : (effect ≡ Reset → ⊥) → (reset : ResetMade) → reset_by event.op event.reply ≡ Some reset → ⊥
    no-reset other reset is = other (empties-all effect 0 (does 0 ∙ reset-empties o past event 0 reset legal.0 is))

-- the hart is there
pub satp-present : (o : Opening) (past : List Event) (harts : ℕ) (actor : Actor) (former : Option FormerSatp) → IsPresent harts actor → SaysSatp o past actor former → IfSome former (λ (f : FormerSatp). f.hart < harts)
satp-present o past harts actor None present says = tt
satp-present o past harts actor (Some former) present says = subst (IsPresent harts) says.0 present

-- what holds of a value that there is, by three facts
pub if-ok-3 : {A E : Type 0} (r : Result A E) (P Q R S : A → Type 0) → ((a : A) → P a → Q a → R a → S a) → IfOk r P → IfOk r Q → IfOk r R → IfOk r S
if-ok-3 (Ok a) P Q R S follows p q r = follows a p q r
if-ok-3 (Err e) P Q R S follows p q r = tt
