-- Newer events, on what older ones leave, are as all events together.
use Rattle.std.proofs.Common.{◌≡◌, ℕ, ◌<◌, ◌≤◌, Bool, true, false, List, [], ◌∷◌, ◌++◌, length, length-append, subst, refl, sym, ap, ◌∙◌, arith, Ok, inl, inr}
use Rattle.std.specs.Prelude.{drop, nat_le, not}
use Rattle.std.proofs.lemmas.Bool.{cases_Bool, ne_eqb}
use Rattle.board_core.specs.Accesses.{used, used_by_actor}
use Rattle.board_core.specs.Csrs.{sie, sstatus_sie}
use Rattle.board_core.specs.Cuts.{IsHeld, IsOpened, opening_of}
use Rattle.board_terms.specs.declared.config.Config.{Config}
use Rattle.board_terms.specs.declared.op.Actor.{Actor}
use Rattle.board_terms.specs.declared.op.Actor.TheVariants.{Hart, Clock}
use Rattle.board_terms.specs.declared.op.Op.{Op}
use Rattle.board_terms.specs.declared.reply.Refusal.{Refusal}
use Rattle.board_terms.specs.declared.reply.Refusal.TheVariants as refusals
use Rattle.board_terms.specs.declared.reply.Reply.{Reply}
use Rattle.board_terms.specs.declared.reply.Reply.TheVariants.{Done}
use Rattle.board_core.specs.Fences.{outstanding, waiting}
use Rattle.board_core.specs.History.{Event}
use Rattle.board_core.specs.Interrupts.{deadline, ssip, stip, time, wake}
use Rattle.board_core.specs.Memory.{caches_of, memory, satp}
use Rattle.board_core.specs.Need.{need}
use Rattle.board_core.specs.Opening.{Opening}
use Rattle.board_core.specs.Refusals.{clock_refusals, first_that_holds, has_nothing_to_do, is_full, is_out_of_phase, is_tick, situation}
use Rattle.board_core.specs.Replies.{IsLegal, answer_when, refused_or, reply}
use Rattle.board_core.specs.Resets.{is_off, last_reset}
use Rattle.board_core.specs.Starts.{kept}
use Rattle.board_core.specs.States.{state}
use Rattle.board_core.specs.Totals.{totals}
use Rattle.board_core.proofs.InCalls.{taken}
use Rattle.board_core.proofs.Steps.{room-left}
use Rattle.board_core.proofs.Unseen.{unseen}
use Rattle.board_laws.specs.Limits.{with_limit}
use Rattle.board_laws.specs.Seams.{AnswerAlike, AreLegal, AreOne, IsSeamless, joined, left_by}
use Rattle.board_laws.proofs.Held.{held-by, held-cut, held-more, held-opened}
use Rattle.board_laws.proofs.Limits.{held-within, onward-within, unseen-within, used-within}
use Rattle.board_laws.proofs.Onward.{again, onward, used-cut}
use Rattle.board_laws.proofs.Places.{legal-older}

-- ---- the room of a history

-- a step is accepted where the history isn't full
full-refuses : (o : Opening) (past : List Event) (actor : Actor) (op : Op) (r : Reply) → answer_when true o past actor op ≡ Ok r → ⊥
full-refuses o past (Hart x) op r e =
    by_tests (is_off o past) (nat_le o.config.harts x) (is_out_of_phase op (situation o past x)) (has_nothing_to_do op (situation o past x)) e
  where
    by_tests : (off missing out idle : Bool)
        → refused_or (first_that_holds ((off, refusals.Off) ∷ (missing, refusals.WrongPhase) ∷ (out, refusals.WrongPhase) ∷ (idle, refusals.Nothing) ∷ (true, refusals.HistoryFull) ∷ []))
        (reply o past x op) ≡ Ok r → ⊥
    by_tests true missing out idle e = cc
    by_tests false true out idle e = cc
    by_tests false false true idle e = cc
    by_tests false false false true e = cc
    by_tests false false false false e = cc
full-refuses o past Clock op r e = by_tests (is_off o past) (is_tick op) (drop 3 (clock_refusals true o past op)) e
  where
    by_tests : (off tick : Bool) (others : List (Bool × Refusal))
        → refused_or (first_that_holds ((off, refusals.Off) ∷ (not tick, refusals.WrongPhase) ∷ (true, refusals.HistoryFull) ∷ others)) Done ≡ Ok r → ⊥
    by_tests true tick others e = cc
    by_tests false true others e = cc
    by_tests false false others e = cc

has-room : (o : Opening) (past : List Event) (event : Event) → IsLegal o (event ∷ past) → is_full o past ≡ false
has-room o past event legal = elim (cases_Bool (is_full o past)) [
  | inl full ↦ absurd (full-refuses o past event.actor event.op event.reply (subst (λ f. answer_when f o past event.actor event.op ≡ Ok event.reply) full legal.0))
  | inr room ↦ room
]

-- so a legal history is within its limit
within-limit : (o : Opening) (past : List Event) → IsLegal o past → length past ≤ o.config.limit
within-limit o [] legal = omega arith
within-limit o (event ∷ past) legal = let less = room-left o past (has-room o past event legal) (within-limit o past legal.2) in omega arith

-- ---- the parts of a history

-- Newer events on an opening, and the same after older ones on another: as one history they are held within a limit.
module _ (o : Opening) (limit : ℕ) (q : Opening) (older : List Event) where
  pub record Parted (newer : List Event) : Type 0 where
    pub part : IsHeld q newer
    pub all : IsHeld (with_limit limit o) (newer ++ older)
    pub leaves : opening_of q newer ≡ opening_of o (newer ++ older)

  module _ (newer : List Event) (p : Parted newer) where
    same-numbers : q.config ≡ o.config
    same-numbers = ap (λ (left : Opening). left.config) p.leaves

    there : (h : ℕ) → h < o.config.harts → h < q.config.harts
    there h inside = subst (λ (c : Config). h < c.harts) (sym same-numbers) inside

    -- a look-up that answers on what each leaves what it answers on each
    through : {A : Type 0} (look : Opening → List Event → A) → look (opening_of q newer) [] ≡ look q newer → look (opening_of o (newer ++ older)) [] ≡ look o (newer ++ older)
        → look q newer ≡ look o (newer ++ older)
    through look part all = sym part ∙ ap (λ left. look left []) p.leaves ∙ all

    same-used : (h : ℕ) → h < o.config.harts → (op : Op) → used q newer h op ≡ used o (newer ++ older) h op
    same-used h inside op =
        through (λ left past. used left past h op) (used-cut q newer p.part h (there h inside) op) (used-within limit o (newer ++ older) p.all h inside op)

    pub alike : AnswerAlike o.config.harts (record { opening = q; past = newer }) (record { opening = o; past = newer ++ older })
    alike =
        let part = unseen q newer p.part in
        let all = unseen-within limit o (newer ++ older) p.all in
        record {
          state = λ h inside. through (λ left past. state left past h) (part.state h (there h inside)) (all.state h inside);
          kept = λ h inside. through (λ left past. kept left past h) (part.kept h (there h inside)) (all.kept h inside);
          sstatus_sie = λ h inside. through (λ left past. sstatus_sie left past h) (part.sstatus_sie h (there h inside)) (all.sstatus_sie h inside);
          sie = λ h inside. through (λ left past. sie left past h) (part.sie h (there h inside)) (all.sie h inside);
          ssip = λ h inside. through (λ left past. ssip left past h) (part.ssip h (there h inside)) (all.ssip h inside);
          stip = λ h inside. through (λ left past. stip left past h) (part.stip h (there h inside)) (all.stip h inside);
          wake = λ h inside. through (λ left past. wake left past h) (part.wake h (there h inside)) (all.wake h inside);
          deadline = λ h inside. through (λ left past. deadline left past h) (part.deadline h (there h inside)) (all.deadline h inside);
          satp = λ h inside. through (λ left past. satp left past h) (part.satp h (there h inside)) (all.satp h inside);
          caches = λ h inside. through (λ left past. caches_of left past h) (part.caches h (there h inside)) (all.caches h inside);
          waiting = λ h. through (λ left past. waiting left past h) (part.waiting h) (all.waiting h);
          outstanding = λ h. through (λ left past. outstanding left past h) (part.outstanding h) (all.outstanding h);
          need = λ h t. through (λ left past. need left past h t) (part.need h t) (all.need h t);
          time = through time part.time all.time;
          last_reset = through last_reset part.last_reset all.last_reset;
          word = through memory part.word all.word;
          totals = through totals part.totals all.totals;
          answer = λ is_full actor op. through (λ left past. answer_when is_full left past actor op) (part.answer is_full actor op) (all.answer is_full actor op);
          used = same-used;
        }

    same-uses : (actor : Actor) (op : Op) → ((h : ℕ) → actor ≡ Hart h → h < o.config.harts) → used_by_actor q newer actor op ≡ used_by_actor o (newer ++ older) actor op
    same-uses (Hart x) op inside = same-used x (inside x refl) op
    same-uses Clock op inside = refl

    -- an event that is accepted after the newer ones is accepted after all, where these are fewer than the limit
    module _ (event : Event) (legal : IsLegal q (event ∷ newer)) (few : length (newer ++ older) < limit) where
      room : is_full (with_limit limit o) (newer ++ older) ≡ false
      room = ne_eqb (length (newer ++ older)) limit (λ e. absurd (omega (arith, e, few)))

      answered : answer_when (is_full (with_limit limit o) (newer ++ older)) o (newer ++ older) event.actor event.op ≡ Ok event.reply
      answered =
          ap (λ f. answer_when f o (newer ++ older) event.actor event.op) room
          ∙ sym (alike.answer false event.actor event.op)
          ∙ sym (ap (λ f. answer_when f q newer event.actor event.op) (has-room q newer event legal))
          ∙ legal.0

      by_own : (actor : Actor) → answer_when (is_full q newer) q newer actor event.op ≡ Ok event.reply → (h : ℕ) → actor ≡ Hart h → h < o.config.harts
      by_own (Hart x) accepted h is =
          let inside = subst (λ (c : Config). x < c.harts) same-numbers (taken q newer x event.op event.reply accepted).inside in
          subst (λ (actor : Actor). h < o.config.harts) is (let same : x ≡ h = cc in subst (λ n. n < o.config.harts) same inside)
      by_own Clock accepted h is = cc

      all-legal : IsLegal (with_limit limit o) (event ∷ (newer ++ older))
      all-legal = (answered, legal.1 ∙ same-uses event.actor event.op (by_own event.actor legal.0), p.all.legal)

      more : Parted (event ∷ newer)
      more = record {
        part = held-more q newer event p.part legal;
        all = held-more (with_limit limit o) (newer ++ older) event p.all all-legal;
        leaves = sym (onward q newer p.part event legal) ∙ ap (λ left. opening_of left (event ∷ [])) p.leaves ∙ onward-within limit o (newer ++ older) p.all event all-legal;
      }

    -- and one that is accepted after all is accepted after the newer ones
    module _ (event : Event) (legal : IsLegal o (event ∷ (newer ++ older))) where
      part-room : is_full q newer ≡ false
      part-room =
          let less = room-left o (newer ++ older) (has-room o (newer ++ older) event legal) (within-limit o (newer ++ older) legal.2) in
          let limits = ap (λ (c : Config). c.limit) same-numbers in
          ne_eqb (length newer) q.config.limit (λ e. absurd (omega (arith, e, limits, less, length-append newer older)))

      part-answered : answer_when (is_full q newer) q newer event.actor event.op ≡ Ok event.reply
      part-answered =
          ap (λ f. answer_when f q newer event.actor event.op) part-room
          ∙ alike.answer false event.actor event.op
          ∙ sym (ap (λ f. answer_when f o (newer ++ older) event.actor event.op) (has-room o (newer ++ older) event legal))
          ∙ legal.0

      by_all : (actor : Actor) → answer_when (is_full o (newer ++ older)) o (newer ++ older) actor event.op ≡ Ok event.reply → (h : ℕ) → actor ≡ Hart h → h < o.config.harts
      by_all (Hart x) accepted h is =
          let same : x ≡ h = cc in
          subst (λ n. n < o.config.harts) same (taken o (newer ++ older) x event.op event.reply accepted).inside
      by_all Clock accepted h is = cc

      part-legal : IsLegal q (event ∷ newer)
      part-legal = (part-answered, legal.1 ∙ sym (same-uses event.actor event.op (by_all event.actor legal.0)), p.part.legal)

  -- ---- all of the newer events

  pub onto : Parted [] → (newer : List Event) → IsLegal q newer → length (newer ++ older) ≤ limit → Parted newer
  onto p [] legal few = p
  onto p (event ∷ newer) legal few = more newer (onto p newer legal.2 (omega arith)) event legal (omega arith)

  pub parted : Parted [] → (newer : List Event) → IsLegal o (newer ++ older) → length (newer ++ older) ≤ limit → Parted newer
  parted p [] legal few = p
  parted p (event ∷ newer) legal few =
      let before = parted p newer legal.2 (omega arith) in
      more newer before event (part-legal newer before event legal) (omega arith)

-- ---- a cut

-- what the newer events leave is what all leave
cut : (o : Opening) (limit : ℕ) (q : Opening) (older newer : List Event) → Parted o limit q older newer → Parted o limit (opening_of q newer) (newer ++ older) []
cut o limit q older newer p = record { part = held-cut q newer p.part; all = p.all; leaves = again q newer p.part ∙ p.leaves }

pub begins : (o : Opening) (limit : ℕ) → IsHeld o [] → (parts : List (List Event)) → AreLegal o parts → length (joined parts) ≤ limit → Parted o limit (left_by o parts) (joined parts) []
begins o limit held [] legal few = record { part = held; all = held-within limit o held; leaves = refl }
begins o limit held (part ∷ parts) legal few =
    let before = begins o limit held parts legal.1 (omega (arith, length-append part (joined parts))) in
    cut o limit (left_by o parts) (joined parts) part (onto o limit (left_by o parts) (joined parts) before part legal.0 few)

pub parts-are-one : (o : Opening) (limit : ℕ) (newer : List Event) (parts : List (List Event)) → IsOpened o → AreLegal o (newer ∷ parts) → length (newer ++ joined parts) ≤ limit
    → Parted o limit (left_by o parts) (joined parts) newer
parts-are-one o limit newer parts opened legal few =
    onto o limit (left_by o parts) (joined parts) (begins o limit (held-opened o opened) parts legal.1 (omega (arith, length-append newer (joined parts)))) newer legal.0 few

pub joined-are-one : (o : Opening) (newer : List Event) (parts : List (List Event)) → IsOpened o → AreLegal o (newer ∷ parts) → AreOne o newer parts
joined-are-one o newer parts opened legal =
    let all = newer ++ joined parts in
    let p = parts-are-one o (length all) newer parts opened legal (omega arith) in
    record {
      legal = λ limit few. (parts-are-one o limit newer parts opened legal few).all.legal;
      alike = alike o (length all) (left_by o parts) (joined parts) newer p;
      leaves = p.leaves;
    }

pub parted-are-seamless : (o : Opening) (newer older : List Event) → IsOpened o → IsLegal o (newer ++ older) → IsSeamless o newer older
parted-are-seamless o newer older opened legal =
    let limit = o.config.limit in
    let held = held-by o older opened (legal-older o newer older legal) in
    let begun : Parted o limit (opening_of o older) older [] = record { part = held-cut o older held; all = held; leaves = again o older held } in
    let p = parted o limit (opening_of o older) older begun newer legal (within-limit o (newer ++ older) legal) in
    record { legal = p.part.legal; alike = alike o limit (opening_of o older) older newer p; leaves = p.leaves }
