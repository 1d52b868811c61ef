-- A fence call that was open where the history was cut strikes as it would have without the cut.
use Rattle.std.proofs.Common.{◌≡◌, ℕ, zero, suc, Bool, true, false, List, [], ◌∷◌, ◌++◌, append_assoc, length, length-append, subst, refl, sym, ap, ◌∙◌, arith, Some, None}
use Rattle.std.specs.Prelude.{◌==◌, ◌≤◌, ◌<◌, if◌then◌else◌}
use Rattle.std.proofs.lemmas.Bool.{eqb-true}
use Rattle.std.proofs.lemmas.List.Elements.{All-same}
use Rattle.hart_mask.specs.Ids.{has, ids_where}
use Rattle.hart_mask.proofs.Sets.{passes-ids_where}
use Rattle.tlb_model.specs.declared.cache.Numbered.{Numbered}
use Rattle.tlb_model.specs.declared.caches.Caches.{Caches}
use Rattle.tlb_model.specs.declared.fence.Flush.{Flush}
use Rattle.tlb_model.specs.declared.word.FetchWord.{FetchWord}
use Rattle.tlb_model.specs.Entries.{Entry, covers_entry}
use Rattle.tlb_model.specs.Words.{covers_word}
use Rattle.rfence.specs.declared.opened.FenceCall.{FenceCall}
use Rattle.rfence.specs.Calls.{open_by, open_call}
use Rattle.rfence.specs.Laws.{WasStruck}
use Rattle.rfence.specs.Opening as fences
use Rattle.rfence.specs.Opening.{called_at, nothing_before}
use Rattle.rfence.specs.Right.{IsRight}
use Rattle.rfence.specs.Turns.{Turn, Ask, Own, Serve, Poll, Stop, Reset, Quiet}
use Rattle.rfence.proofs.Seams.{all-same, called-after}
use Rattle.rfence.proofs.Success.{right-older, success}
use Rattle.board_terms.specs.declared.config.Config.{Config}
use Rattle.board_terms.specs.Limits.{IsGood}
use Rattle.board_core.specs.Cuts.{IsOpened, OpensAfter, opening_of}
use Rattle.board_core.specs.Fences.{turn_of, turns}
use Rattle.board_core.specs.History.{Event}
use Rattle.board_core.specs.Opening.{Opening, opening_at}
use Rattle.board_core.specs.Replies.{IsLegal}
use Rattle.board_laws.specs.Fences.{OpenedReached, Reached}
use Rattle.board_laws.specs.Lives.{NoneLives, Struck, live_entries, live_words}
use Rattle.board_laws.specs.Places.{past_at}
use Rattle.board_laws.specs.Limits.{with_limit}
use Rattle.board_laws.specs.Seams.{AreLegal, joined, left_by}
use Rattle.board_laws.proofs.Acts.{SplitAt, one_turn, split-at}
use Rattle.board_laws.proofs.Gone.{struck_is_gone}
use Rattle.board_laws.proofs.Parting.{Parted, alike, begins, onto}
use Rattle.board_laws.proofs.Held.{held-opened}
use Rattle.board_laws.proofs.Places.{one-place}
use Rattle.board_laws.proofs.Reached.{event-strikes, reached-inside, reached-strikes}

-- ---- the turn that asked

-- the call that hart c is in was asked among these turns
record WasAsked {F : Type 0} (o : fences.Opening F) (turns : List (Turn F)) (c : ℕ) (call : FenceCall F) : Type 0 where
  newer : List (Turn F)
  asked : ℕ → Bool
  older : List (Turn F)
  made : turns ≡ newer ++ Ask c asked call.flush ∷ older
  placed : fences.place_after o older ≡ call.place
  ids : ids_where asked ≡ call.asked

asked-more : {F : Type 0} (o : fences.Opening F) (turn : Turn F) (turns : List (Turn F)) (c : ℕ) (call : FenceCall F) → WasAsked o turns c call → WasAsked o (turn ∷ turns) c call
asked-more o turn turns c call was = record {
  newer = turn ∷ was.newer;
  asked = was.asked;
  older = was.older;
  made = ap (λ before. turn ∷ before) was.made;
  placed = was.placed;
  ids = was.ids;
}

was-asked : {F : Type 0} (o : fences.Opening F) (turns : List (Turn F)) (c : ℕ) (call : FenceCall F) → called_at o c ≡ None → open_call o turns c ≡ Some call → WasAsked o turns c call
was-asked o [] c call none e = let wrong : None ≡ Some call = sym none ∙ e in cc
was-asked {F} o (turn ∷ turns) c call none e = by_turn turn e (was-asked o turns c call none)
  where
    more : (turn : Turn F) → (open_call o turns c ≡ Some call → WasAsked o turns c call) → open_call o turns c ≡ Some call → WasAsked o (turn ∷ turns) c call
    more turn before e = asked-more o turn turns c call (before e)

    by_turn : (turn : Turn F) → open_by (fences.place_after o turns) turn c (open_call o turns c) ≡ Some call → (open_call o turns c ≡ Some call → WasAsked o turns c call) → WasAsked o (turn ∷ turns) c call
    by_turn (Ask x asked flush) e before = by_hart (x == c) refl e
      where
        by_hart : (own : Bool) → (x == c) ≡ own → (if own then Some (record { place = fences.place_after o turns; asked = ids_where asked; flush = flush }) else open_call o turns c) ≡ Some call
            → WasAsked o (Ask x asked flush ∷ turns) c call
        by_hart true own e =
            let same : (let made : FenceCall F = record { place = fences.place_after o turns; asked = ids_where asked; flush = flush } in made) ≡ call = cc in
            record {
              newer = [];
              asked = asked;
              older = turns;
              made = ap (λ y. Ask y asked flush ∷ turns) (eqb-true x c own) ∙ ap (λ (k : FenceCall F). Ask c asked k.flush ∷ turns) same;
              placed = ap (λ (k : FenceCall F). k.place) same;
              ids = ap (λ (k : FenceCall F). k.asked) same;
            }
        by_hart false own e = more (Ask x asked flush) before e
    by_turn (Own x flush) e before = more (Own x flush) before e
    by_turn (Serve x) e before = more (Serve x) before e
    by_turn (Poll x) e before = by_hart (x == c) e
      where
        by_hart : (own : Bool) → (if own then None else open_call o turns c) ≡ Some call → WasAsked o (Poll x ∷ turns) c call
        by_hart true e = cc
        by_hart false e = more (Poll x) before e
    by_turn (Stop x) e before = more (Stop x) before e
    by_turn Reset e before = cc
    by_turn Quiet e before = more Quiet before e

-- ---- without the cut

-- the turns of newer events come after those of the older ones
record After (o : Opening) (newer older : List Event) : Type 0 where
  later : List (Turn Flush)
  made : turns o (newer ++ older) ≡ later ++ turns o older

turns-after : (o : Opening) (newer older : List Event) → After o newer older
turns-after o [] older = record { later = []; made = refl }
turns-after o (event ∷ newer) older =
    let rest = turns-after o newer older in
    let turn = turn_of o (newer ++ older) event.actor event.op event.reply in
    record { later = turn ∷ rest.later; made = ap (λ before. turn ∷ before) rest.made }

-- Events after older ones, on another opening: a call that was open there, and then polled.
module _ (o : Opening) (limit : ℕ) (q : Opening) (older past : List Event) (start : Parted o limit q older []) (p : Parted o limit q older past) where
  abbrev all : List Event
  all = past ++ older

  call-is : (c : ℕ) → called_at q.fences c ≡ open_call o.fences (turns o older) c
  call-is c =
      sym (called-after q.fences q.config.harts [] start.part.right c)
      ∙ ap (λ (left : Opening). called_at left.fences c) start.leaves
      ∙ called-after o.fences o.config.harts (turns o older) start.all.right c

  -- what was struck in all of them is gone
  pub gone-in-part : (t place : ℕ) (flush : Flush) → t < o.config.harts → Struck o all t place flush → NoneLives q past t place flush
  gone-in-part t place flush inside struck =
      let gone = struck_is_gone o all t place flush struck in
      let same = (alike o limit q older past p).caches t inside in
      record {
        entries = All-same (λ (x : Numbered Entry). x.date ≤ place → covers_entry flush x.item ≡ false) (live_entries q past t) (live_entries o all t)
            (ap (λ (caches : Caches). caches.tlb.live) same) gone.entries;
        words = All-same (λ (x : Numbered FetchWord). x.date ≤ place → covers_word flush x.item ≡ false) (live_words q past t) (live_words o all t)
            (ap (λ (caches : Caches). caches.words.live) same) gone.words;
      }

  -- as is what a fence covers that has reached a hart, wherever it was asked
  pub reached-is-gone : (t place : ℕ) (flush : Flush) → Reached o all t place flush → NoneLives q past t place flush
  reached-is-gone t place flush reached =
      gone-in-part t place flush (reached-inside o all t place flush p.all.right reached)
      (reached-strikes o all t place flush (one-place (with_limit limit o) all p.all.legal) p.all.right reached)

  module _ (c t : ℕ) (call : FenceCall Flush) (r : OpenedReached q past c t call) (none : called_at o.fences c ≡ None) where
    was : WasAsked o.fences (turns o older) c call
    was = was-asked o.fences (turns o older) c call none (sym (call-is c) ∙ r.called)

    named : was.asked t ≡ true
    named = (passes-ids_where was.asked t (ap (λ ids. has ids t) was.ids ∙ r.asked)).1

    abbrev before : List Event
    before = past_at q past r.succeeded.end

    -- what came between the ask and the poll
    over : After o before older
    over = turns-after o before older

    abbrev between : List (Turn Flush)
    between = over.later ++ was.newer

    asked-before : turns o (before ++ older) ≡ between ++ Ask c was.asked call.flush ∷ was.older
    asked-before = over.made ∙ ap (λ turns. over.later ++ turns) was.made ∙ sym (append_assoc over.later was.newer (Ask c was.asked call.flush ∷ was.older))

    poll-turn : turn_of o (before ++ older) r.succeeded.event.actor r.succeeded.event.op r.succeeded.event.reply ≡ Poll c
    poll-turn = rw (r.succeeded.by_hart, r.succeeded.poll) refl

    polled : SplitAt (turns o) (one_turn o) r.succeeded.happened.newer r.succeeded.event (before ++ older)
    polled = split-at (turns o) (one_turn o) r.succeeded.happened.newer r.succeeded.event (before ++ older)

    whole-turns : turns o all ≡ polled.later ++ Poll c ∷ (between ++ Ask c was.asked call.flush ∷ was.older)
    whole-turns =
        ap (λ (events : List Event). turns o (events ++ older)) r.succeeded.happened.made
        ∙ ap (turns o) (append_assoc r.succeeded.happened.newer (r.succeeded.event ∷ before) older)
        ∙ polled.made
        ∙ ap (λ (turn : Turn Flush). polled.later ++ turn ∷ turns o (before ++ older)) poll-turn
        ∙ ap (λ turns. polled.later ++ Poll c ∷ turns) asked-before

    right : IsRight o.fences o.config.harts (polled.later ++ Poll c ∷ (between ++ Ask c was.asked call.flush ∷ was.older))
    right = subst (IsRight o.fences o.config.harts) whole-turns p.all.right

    struck : Struck o all t call.place call.flush
    struck =
        let was_struck = success o.fences o.config.harts polled.later between was.older c was.asked call.flush t named right in
        event-strikes o all t call.place call.flush (one-place (with_limit limit o) all p.all.legal)
        (subst (λ n. WasStruck o.fences (turns o all) t n call.flush) was.placed
        (subst (λ (all_turns : List (Turn Flush)). WasStruck o.fences all_turns t (fences.place_after o.fences was.older) call.flush) (sym whole-turns) was_struck))

    inside : t < o.config.harts
    inside =
        let asking = right-older o.fences o.config.harts (polled.later ++ Poll c ∷ between) (Ask c was.asked call.flush ∷ was.older)
        (subst (IsRight o.fences o.config.harts) (sym (append_assoc polled.later (Poll c ∷ between) (Ask c was.asked call.flush ∷ was.older))) right) in
        asking.0.1 t named

    pub gone-since : NoneLives q past t call.place call.flush
    gone-since = gone-in-part t call.place call.flush inside struck

pub fences_outlast_cuts : (o : Opening) (newer : List Event) (parts : List (List Event)) (t place : ℕ) (flush : Flush) → IsOpened o → AreLegal o (newer ∷ parts)
    → Reached o (newer ++ joined parts) t place flush → NoneLives (left_by o parts) newer t place flush
fences_outlast_cuts o newer parts t place flush opened legal reached =
    let q = left_by o parts in
    let limit = length (newer ++ joined parts) in
    let start = begins o limit (held-opened o opened) parts legal.1 (omega (arith, length-append newer (joined parts))) in
    let p = onto o limit q (joined parts) start newer legal.0 (omega arith) in
    reached-is-gone o limit q (joined parts) newer start p t place flush reached

-- ---- what a board opens with was left by the parts of a history

record FirstOf (o : Opening) : Type 0 where
  numbers : Config
  good : IsGood numbers
  parts : List (List Event)
  legal : AreLegal (opening_at numbers) parts
  left : o ≡ left_by (opening_at numbers) parts

first-of : (cuts : ℕ) (o : Opening) → OpensAfter cuts o → FirstOf o
first-of zero o opens = record { numbers = o.config; good = opens.0; parts = []; legal = tt; left = opens.1 }
first-of (suc cuts) o opens =
    let first = first-of cuts opens.0 opens.2 in
    record {
      numbers = first.numbers;
      good = first.good;
      parts = opens.1 ∷ first.parts;
      legal = (subst (λ (before : Opening). IsLegal before opens.1) first.left opens.3, first.legal);
      left = opens.4 ∙ ap (λ (before : Opening). opening_of before opens.1) first.left;
    }

gone-on : (numbers : Config) → IsGood numbers → (parts : List (List Event)) (past : List Event) (c t : ℕ) (call : FenceCall Flush) → AreLegal (opening_at numbers) (past ∷ parts)
    → OpenedReached (left_by (opening_at numbers) parts) past c t call → NoneLives (left_by (opening_at numbers) parts) past t call.place call.flush
gone-on numbers good parts past c t call legal r =
    let o = opening_at numbers in
    let q = left_by o parts in
    let limit = length (past ++ joined parts) in
    let start = begins o limit (held-opened o (record { cuts = 0; opens = (good, refl) })) parts legal.1 (omega (arith, length-append past (joined parts))) in
    let p = onto o limit q (joined parts) start past legal.0 (omega arith) in
    gone-since o limit q (joined parts) past start p c t call r (all-same numbers.harts c None)

pub opened_is_gone : (o : Opening) (past : List Event) (c t : ℕ) (call : FenceCall Flush) → IsOpened o → IsLegal o past → OpenedReached o past c t call → NoneLives o past t call.place call.flush
opened_is_gone o past c t call opened legal r =
    let first = first-of opened.cuts o opened.opens in
    let q = left_by (opening_at first.numbers) first.parts in
    subst (λ (p : Opening). NoneLives p past t call.place call.flush) (sym first.left)
    (gone-on first.numbers first.good first.parts past c t call (subst (λ (p : Opening). IsLegal p past) first.left legal, first.legal)
    (subst (λ (p : Opening). OpenedReached p past c t call) first.left r))
