-- What the events of a history do to the caches of a hart. What is used of how fences act on them stands here alone.
use Rattle.std.proofs.Common.{◌≡◌, ℕ, suc, Bool, true, false, List, [], ◌∷◌, ◌++◌, length, refl, sym, ap, ◌∙◌}
use Rattle.std.specs.Prelude.{Option, Some, None}
use Rattle.std.proofs.lemmas.Bool.{eq-eqb, eqb-true}
use Rattle.rfence.specs.Turns.{Own}
use Rattle.rfence.specs.Applied.{Effect, Nothing, Drops, Empties, effect}
use Rattle.rfence.specs.Laws as turns_laws
use Rattle.tlb_model.specs.Entries.{Entry}
use Rattle.tlb_model.specs.declared.fence.Flush.{Flush}
use Rattle.tlb_model.specs.declared.word.FetchWord.{FetchWord}
use Rattle.tlb_model.specs.Acts.{Fill}
use Rattle.board_core.specs.Opening.{Opening}
use Rattle.board_terms.specs.declared.op.Actor.{Actor}
use Rattle.board_terms.specs.declared.op.Actor.TheVariants.{Hart, Clock}
use Rattle.board_terms.specs.declared.op.Op.{Op}
use Rattle.board_terms.specs.declared.op.Op.TheVariants.{Sfence, FenceI}
use Rattle.board_terms.specs.declared.reply.Reply.{Reply}
use Rattle.board_core.specs.Course.{is_hart}
use Rattle.board_core.specs.Fences.{turn_by, turn_of, turns}
use Rattle.board_core.specs.History.{Event}
use Rattle.board_core.specs.Memory.{act_by, cached_in, entry_filling, hit_in, memory, own_filling, satp, tlb_acts, word_acts, word_filling}
use Rattle.board_laws.specs.Fences.{own_fence}
use Rattle.board_laws.specs.Lives.{ActStrikes, last_act}

module _ {A : Type 0} where
  -- there is one for each event, and they are newest first as the events are
  pub record OneForEach (seen : List Event → List A) : Type 0 where
    pub of : Event → List Event → A
    pub none : seen [] ≡ []
    pub more : (event : Event) (past : List Event) → seen (event ∷ past) ≡ of event past ∷ seen past

  module _ (seen : List Event → List A) (are : OneForEach seen) where
    pub length-seen : (past : List Event) → length (seen past) ≡ length past
    length-seen [] = ap length are.none
    length-seen (event ∷ past) = ap length (are.more event past) ∙ ap suc (length-seen past)

    -- those before and after that of one event
    pub record SplitAt (newer : List Event) (event : Event) (older : List Event) : Type 0 where
      pub later : List A
      pub made : seen (newer ++ event ∷ older) ≡ later ++ are.of event older ∷ seen older

    pub split-at : (newer : List Event) (event : Event) (older : List Event) → SplitAt newer event older
    split-at [] event older = record { later = []; made = are.more event older }
    split-at (first ∷ newer) event older =
        let rest = split-at newer event older in
        record {
          later = are.of first (newer ++ event ∷ older) ∷ rest.later;
          made = are.more first (newer ++ event ∷ older) ∙ ap (λ ys. are.of first (newer ++ event ∷ older) ∷ ys) rest.made;
        }

    -- the event whose it is
    pub record SeenOf (past : List Event) (x : A) (before : List A) : Type 0 where
      pub newer : List Event
      pub event : Event
      pub older : List Event
      pub made : past ≡ newer ++ event ∷ older
      pub same : are.of event older ≡ x
      pub rest : seen older ≡ before

    seen-more : (event : Event) (past : List Event) (x : A) (before : List A) → SeenOf past x before → SeenOf (event ∷ past) x before
    seen-more event past x before found = record {
      newer = event ∷ found.newer;
      event = found.event;
      older = found.older;
      made = ap (λ ys. event ∷ ys) found.made;
      same = found.same;
      rest = found.rest;
    }

    pub seen-of : (past : List Event) (later : List A) (x : A) (before : List A) → seen past ≡ later ++ x ∷ before → SeenOf past x before
    seen-of [] [] x before e = let none = are.none in cc
    seen-of [] (first ∷ later) x before e = let none = are.none in cc
    seen-of (event ∷ past) [] x before e =
        let same : are.of event past ∷ seen past ≡ x ∷ before = sym (are.more event past) ∙ e in
        record { newer = []; event = event; older = past; made = refl; same = cc; rest = cc }
    seen-of (event ∷ past) (first ∷ later) x before e =
        let same : are.of event past ∷ seen past ≡ first ∷ (later ++ x ∷ before) = sym (are.more event past) ∙ e in
        seen-more event past x before (seen-of past later x before (cc))

-- ---- the acts of a board

abbrev pub one_tlb_act : (o : Opening) (t : ℕ) → OneForEach (λ past. tlb_acts o past t)
one_tlb_act o t = record { of = λ event past. last_act (tlb_acts o (event ∷ past) t); none = refl; more = λ event past. refl }

abbrev pub one_word_act : (o : Opening) (t : ℕ) → OneForEach (λ past. word_acts o past t)
one_word_act o t = record { of = λ event past. last_act (word_acts o (event ∷ past) t); none = refl; more = λ event past. refl }

abbrev pub one_turn : (o : Opening) → OneForEach (turns o)
one_turn o = record { of = λ event past. turn_of o past event.actor event.op event.reply; none = refl; more = λ event past. refl }

own-actor : (actor : Actor) (t : ℕ) → is_hart t actor ≡ true → actor ≡ Hart t
own-actor (Hart n) t own = ap Hart (sym (eqb-true t n own))
own-actor Clock t own = cc

-- what fills is the hart's own, and is filled
fill-acted : {E : Type 0} (own : Bool) (done : Effect Flush) (filling : Option E) (item : E) → act_by done (own_filling own filling) ≡ Fill item → (own ≡ true) × (filling ≡ Some item)
fill-acted true Nothing (Some other) item e = (refl, cc)
fill-acted false Nothing (Some other) item e = cc
fill-acted own Nothing None item e = cc
fill-acted true (Drops flush) (Some other) item e = cc
fill-acted false (Drops flush) (Some other) item e = cc
fill-acted own (Drops flush) None item e = cc
fill-acted true Empties (Some other) item e = cc
fill-acted false Empties (Some other) item e = cc
fill-acted own Empties None item e = cc

module _ (o : Opening) (t : ℕ) (event : Event) (older : List Event) where
  -- an entry is filled by an access of its hart
  pub entry-filled : (item : Entry) → last_act (tlb_acts o (event ∷ older) t) ≡ Fill item
      → (event.actor ≡ Hart t) × (entry_filling event.op event.translation (satp o older t) (hit_in o t (tlb_acts o older t)) ≡ Some item)
  entry-filled item e =
      let facts = fill-acted (is_hart t event.actor) (effect o.fences (turns o older) (turn_of o older event.actor event.op event.reply) t)
      (entry_filling event.op event.translation (satp o older t) (hit_in o t (tlb_acts o older t))) item e in
      (own-actor event.actor t facts.0, facts.1)

  -- and so is a word
  pub word-filled : (item : FetchWord) → last_act (word_acts o (event ∷ older) t) ≡ Fill item
      → (event.actor ≡ Hart t) × (word_filling event.op event.reply event.translation (memory o older) (cached_in o t (word_acts o older t)) ≡ Some item)
  word-filled item e =
      let facts = fill-acted (is_hart t event.actor) (effect o.fences (turns o older) (turn_of o older event.actor event.op event.reply) t)
      (word_filling event.op event.reply event.translation (memory o older) (cached_in o t (word_acts o older t))) item e in
      (own-actor event.actor t facts.0, facts.1)

-- what strikes the caches of a hart strikes each of them
effect-strikes : {E : Type 0} (done : Effect Flush) (filling : Option E) (flush : Flush) → turns_laws.Strikes flush done → ActStrikes flush (act_by done filling)
effect-strikes Nothing filling flush strikes = absurd strikes
effect-strikes (Drops other) filling flush strikes = strikes
effect-strikes Empties filling flush strikes = strikes

pub turn-strikes : (o : Opening) (t : ℕ) (event : Event) (older : List Event) (flush : Flush)
    → turns_laws.Strikes flush (effect o.fences (turns o older) (turn_of o older event.actor event.op event.reply) t)
    → ActStrikes flush (last_act (tlb_acts o (event ∷ older) t)) × ActStrikes flush (last_act (word_acts o (event ∷ older) t))
turn-strikes o t event older flush strikes =
    let done = effect o.fences (turns o older) (turn_of o older event.actor event.op event.reply) t in (
      effect-strikes done (own_filling (is_hart t event.actor) (entry_filling event.op event.translation (satp o older t) (hit_in o t (tlb_acts o older t)))) flush strikes,
      effect-strikes done (own_filling (is_hart t event.actor) (word_filling event.op event.reply event.translation (memory o older) (cached_in o t (word_acts o older t)))) flush strikes,
    )

-- a local fence is a turn of the hart alone
fence-turn : (o : Opening) (older : List Event) (t : ℕ) (op : Op) (reply : Reply) (flush : Flush) → own_fence o.config op ≡ Some flush → turn_by o older t op reply ≡ Own t flush
fence-turn o older t (Sfence va asid) reply flush e = cc
fence-turn o older t FenceI reply flush e = cc
fence-turn o older t op reply flush e = cc

pub own-turn : (o : Opening) (t : ℕ) (event : Event) (older : List Event) (flush : Flush) → event.actor ≡ Hart t → own_fence o.config event.op ≡ Some flush
    → turn_of o older event.actor event.op event.reply ≡ Own t flush
own-turn o t event older flush own fences = ap (λ actor. turn_of o older actor event.op event.reply) own ∙ fence-turn o older t event.op event.reply flush fences

pub own-strikes : (o : Opening) (t : ℕ) (event : Event) (older : List Event) (flush : Flush) → event.actor ≡ Hart t → own_fence o.config event.op ≡ Some flush
    → turns_laws.Strikes flush (effect o.fences (turns o older) (turn_of o older event.actor event.op event.reply) t)
own-strikes o t event older flush own fences = rw (own-turn o t event older flush own fences, eq-eqb t t refl) refl
