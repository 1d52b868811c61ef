-- What is stale, and what is missed.
use Rattle.std.proofs.Common.{◌≡◌, ℕ, List, ◌∷◌, subst, sym, ap, ◌∙◌, arith, true, Option, Some, Ok, inl, inr}
use Rattle.sv39.specs.declared.cause.Kind.{Kind}
use Rattle.sv39.specs.declared.page.Leaf.{Leaf}
use Rattle.sv39.specs.Maps.{maps}
use Rattle.sv39.proofs.PageLaw.{one_leaf_for_a_page}
use Rattle.tlb_model.specs.declared.fence.Flush.TheVariants.{Entries}
use Rattle.tlb_model.specs.Entries.{Entry, matches}
use Rattle.hart_access.specs.AccessKinds.{kind_of}
use Rattle.hart_access.specs.Ways.{translated}
use Rattle.hart_access.proofs.Used.{is_used}
use Rattle.board_core.specs.Accesses.{hit}
use Rattle.board_core.specs.Cuts.{IsOpened}
use Rattle.board_core.specs.History.{Event, Reach, access_of}
use Rattle.board_core.specs.Memory.{address_by, memory, satp}
use Rattle.board_core.specs.Opening.{Opening, place_after}
use Rattle.board_core.specs.Replies.{IsLegal}
use Rattle.board_terms.specs.declared.op.Actor.TheVariants.{Hart}
use Rattle.board_laws.specs.Fences.{Asks, ByCall, Reached}
use Rattle.board_laws.specs.Fresh.{is_of_space}
use Rattle.board_laws.specs.Places.{past_at}
use Rattle.board_laws.proofs.Fresh.{translations_are_fresh}
use Rattle.board_laws.proofs.Leaves.{page-bounds}
use Rattle.board_laws.proofs.Lives.{used-reach}
use Rattle.board_laws.proofs.Places.{within}
use Rattle.sv39.proofs.PageLaw.{leaf_page}
use Rattle.any_tlb.specs.Possible.{Possible}
use Rattle.any_tlb.specs.Stale.{IsMissed, IsOtherThan, IsStale}
use Rattle.any_tlb.specs.Steady.{IsSteady, phys_of}
use Rattle.any_tlb.proofs.Living.{found-in, live_is_possible}
use Rattle.any_tlb.proofs.Sources.{all-of, before-more, last}
use Rattle.any_tlb.proofs.Ways.{by-right}

-- what the page tables give an access of some kind, the leaf gives each access
leaf-same : (memory_now : ℕ → Option ℕ) (satp_now va : ℕ) (other kind : Kind) (leaf : Leaf) → maps memory_now satp_now va other ≡ Ok leaf
    → translated leaf va kind ≡ phys_of (maps memory_now satp_now va kind) va
leaf-same memory_now satp_now va other kind leaf e =
    let page = leaf_page memory_now satp_now va other leaf e in
    let bounds = page-bounds leaf.level va in
    by-right leaf va kind
    ∙ ap (λ r. phys_of r va) (sym (one_leaf_for_a_page memory_now satp_now va va other kind leaf e (rw page bounds.0) (rw page bounds.1)))

pub missed_is_stale : (o : Opening) (past : List Event) (h : ℕ) (event : Event) (reach : Reach) → IsMissed o past h event reach → IsStale o past h event reach
missed_is_stale o past h event reach x =
    let asked = within o past x.place x.asked.event x.asked.happened in
    record {
      entry = x.entry;
      uses = x.uses;
      other = subst (λ (past_then : List Event). IsOtherThan (memory o past_then) (satp o past h) reach.va (kind_of reach.access) x.entry) (all-of o past)
          (x.other_now (place_after o past) (omega arith) (omega arith));
    }

pub stale_is_unsteady : (o : Opening) (event : Event) (past : List Event) (h : ℕ) (reach : Reach) → IsLegal o (event ∷ past) → event.actor ≡ Hart h → access_of event.op ≡ Some reach
    → IsStale o past h event reach → IsSteady o past h reach.va (kind_of reach.access) → ⊥
stale_is_unsteady o event past h reach legal own access x steady =
    let used = sym (legal.1 ∙ used-reach o past h event.actor event.op reach own access) ∙ x.uses in
    elim ((is_used (memory o past) (satp o past h) (hit o past h) reach.va reach.access x.entry).0 used) [
      | inl hits ↦
          let found = found-in (Possible o past h) (matches (address_by (satp o past h) reach.va)) _ x.entry (live_is_possible o past h legal.2) hits.hit in
          x.other (steady hits.translated x.entry found.0 found.1)
      | inr fills ↦ x.other (leaf-same (memory o past) (satp o past h) reach.va (kind_of reach.access) (kind_of reach.access) x.entry.leaf fills.mapped)
    ]

-- what the page tables give after one past they give after another one that is the same
same-maps : (o : Opening) (h va : ℕ) (kind : Kind) (leaf : Leaf) (a b : List Event) → a ≡ b → maps (memory o a) (satp o a h) va kind ≡ Ok leaf → maps (memory o b) (satp o b h) va kind ≡ Ok leaf
same-maps o h va kind leaf a b same gives = subst (λ (past : List Event). maps (memory o past) (satp o past h) va kind ≡ Ok leaf) same gives

pub asked_harts_miss_nothing : (o : Opening) (event : Event) (past : List Event) (h : ℕ) (reach : Reach) → IsOpened o → IsLegal o (event ∷ past) → event.actor ≡ Hart h
    → access_of event.op ≡ Some reach → (x : IsMissed o past h event reach) → Asks o past x.caller h x.place (Entries x.fence) → ⊥
asked_harts_miss_nothing o event past h reach opened legal own access x asks =
    let there : past_at o (event ∷ past) (place_after o past) ≡ past = before-more o event past (place_after o past) (omega arith) ∙ all-of o past in
    let given = translations_are_fresh o (event ∷ past) o.config.limit h x.place (place_after o past) x.fence reach x.entry opened legal (record {
      event = event;
      happened = last o event past;
      by_hart = own;
      access = access;
      reached = subst (λ (past : List Event). Reached o past h x.place (Entries x.fence)) (sym there) (ByCall x.caller asks x.returned);
      page = x.page;
      space = λ entry uses.
          let same : x.entry ≡ entry = (let e = sym x.uses ∙ uses in cc) in
          subst (λ (past : List Event). is_of_space x.fence.asid (satp o past h) entry.leaf ≡ true) (sym there)
          (subst (λ (entry : Entry). is_of_space x.fence.asid (satp o past h) entry.leaf ≡ true) same x.space);
    }) x.uses in
    let after = given.after in
    let upto = given.upto in
    let gives = same-maps o h reach.va (kind_of given.there.access) x.entry.leaf (past_at o (event ∷ past) given.place) (past_at o past given.place) (before-more o event past given.place upto) given.gives in
    x.other_then given.place (omega arith) upto
    (leaf-same (memory o (past_at o past given.place)) (satp o (past_at o past given.place) h) reach.va (kind_of given.there.access) (kind_of reach.access) x.entry.leaf gives)
