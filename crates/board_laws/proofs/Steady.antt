-- A steady result decides the access.
use Rattle.std.proofs.Common.{◌≡◌, ℕ, ◌%◌, Bool, true, false, List, refl, sym, ap, ◌∙◌, arith, Option, Some, None, Result, Ok, Err}
use Rattle.std.specs.Prelude.{if◌then◌else◌}
use Rattle.std.proofs.lemmas.Bool.{eq-eqb}
use Rattle.sv39.specs.declared.cause.Cause.{Cause}
use Rattle.sv39.specs.declared.cause.Kind.{Kind}
use Rattle.sv39.specs.declared.page.Leaf.{Leaf}
use Rattle.sv39.specs.Causes.{page_fault}
use Rattle.sv39.specs.Leaves.{allows, by_right}
use Rattle.sv39.specs.Maps.{maps}
use Rattle.sv39.specs.Satp.{asid_of}
use Rattle.sv39.proofs.PageLaw.{one_leaf_for_a_page}
use Rattle.tlb_model.specs.declared.entry.Address.{Address}
use Rattle.tlb_model.specs.Entries.{Entry}
use Rattle.tlb_model.specs.declared.fence.Fence.{Fence}
use Rattle.hart_access.specs.declared.accesses.Access.{Access}
use Rattle.hart_access.specs.declared.accesses.Access.TheVariants.{Load, Store, Fetch, Amo}
use Rattle.hart_access.specs.Accesses as whole
use Rattle.hart_access.specs.AccessKinds.{kind_of}
use Rattle.hart_access.specs.Translations.{IsTranslated, hit_at}
use Rattle.hart_access.specs.Ways.{in_memory, phys_at, phys_by, phys_in, translated, used_by, way, way_by}
use Rattle.board_core.specs.Opening.{Opening}
use Rattle.board_terms.specs.declared.reply.Reply.TheVariants as replies
use Rattle.board_core.specs.Accesses.{access_reply_of, cached, hit}
use Rattle.board_core.specs.History.{Event, Reach}
use Rattle.board_core.specs.Memory.{memory, satp}
use Rattle.board_core.specs.Cuts.{IsOpened}
use Rattle.board_core.specs.Replies.{IsLegal}
use Rattle.board_laws.specs.Fresh.{FencedAccess}
use Rattle.board_laws.specs.Limits.{with_limit}
use Rattle.board_laws.specs.Places.{past_at}
use Rattle.board_laws.specs.Steady.{IsDecidedBy, TablesAreSteady, no_tlb}
use Rattle.board_laws.proofs.Fresh.{after-fence, translations_are_fresh}
use Rattle.board_laws.proofs.Leaves.{page-bounds}
use Rattle.sv39.proofs.PageLaw.{leaf_page}
use Rattle.board_laws.proofs.Lives.{answered-reach, used-reach}
use Rattle.board_core.proofs.Beginning.{is-good}
use Rattle.board_laws.proofs.Places.{legal-with}

-- the physical address that the result of the page tables gives an address, or the fault
abbrev phys_of : Result Leaf Cause → (va : ℕ) → Result ℕ Cause
phys_of (Ok leaf) va = Ok (phys_in leaf va)
phys_of (Err cause) va = Err cause

-- an access that is translated hits or walks
translated-way : (memory_now : ℕ → Option ℕ) (satp_now : ℕ) (tlb : Address → Option Entry) (va : ℕ) (kind : Kind) → IsTranslated satp_now va
    → way memory_now satp_now tlb va kind ≡ way_by (hit_at satp_now tlb va) (asid_of satp_now) (maps memory_now satp_now va kind)
translated-way memory_now satp_now tlb va kind is = rw (eq-eqb (va % 8) 0 is.aligned, is.mode, is.valid) refl

-- what a leaf that decides an access gives it
leaf-decides : (leaf : Leaf) (va : ℕ) (kind : Kind) (result : Result Leaf Cause) → result ≡ by_right kind leaf → translated leaf va kind ≡ phys_of result va
leaf-decides leaf va kind result is = sym (ap (λ r. phys_of r va) is ∙ by_test (allows kind leaf))
  where
    by_test : (b : Bool) → phys_of (if b then Ok leaf else Err (page_fault kind)) va ≡ (if b then Ok (phys_in leaf va) else Err (page_fault kind))
    by_test true = refl
    by_test false = refl

-- a walk's leaf allows the access
walked-allows : (memory_now : ℕ → Option ℕ) (satp_now va : ℕ) (kind : Kind) (leaf : Leaf) → maps memory_now satp_now va kind ≡ Ok leaf → maps memory_now satp_now va kind ≡ by_right kind leaf
walked-allows memory_now satp_now va kind leaf e =
    let page = leaf_page memory_now satp_now va kind leaf e in
    let bounds = page-bounds leaf.level va in
    one_leaf_for_a_page memory_now satp_now va va kind kind leaf e (rw page bounds.0) (rw page bounds.1)

-- the way of an access that one result decides, whether it hits or walks
way-decided : (found : Option Entry) (asid va : ℕ) (kind : Kind) (walked result : Result Leaf Cause) → walked ≡ result
    → ((entry : Entry) → used_by (way_by found asid walked) ≡ Some entry → result ≡ by_right kind entry.leaf)
    → phys_by (way_by found asid walked) va kind ≡ phys_of result va
way-decided (Some entry) asid va kind walked result same decides = leaf-decides entry.leaf va kind result (decides entry refl)
way-decided None asid va kind (Ok leaf) result same decides = leaf-decides leaf va kind result (decides (record { leaf = leaf; asid = asid }) refl)
way-decided None asid va kind (Err cause) result same decides = ap (λ r. phys_of r va) same

-- and that of one without TLBs
way-walked : (asid va : ℕ) (kind : Kind) (walked result : Result Leaf Cause) → walked ≡ result → ((leaf : Leaf) → walked ≡ Ok leaf → walked ≡ by_right kind leaf)
    → phys_by (way_by None asid walked) va kind ≡ phys_of result va
way-walked asid va kind (Ok leaf) result same allowed = leaf-decides leaf va kind result (sym same ∙ allowed leaf refl)
way-walked asid va kind (Err cause) result same allowed = ap (λ r. phys_of r va) same

right-leaf : (kind : Kind) (entry_leaf leaf : Leaf) (result : Result Leaf Cause) → result ≡ by_right kind entry_leaf → result ≡ Ok leaf → entry_leaf ≡ leaf
right-leaf kind entry_leaf leaf result is e = by_test (allows kind entry_leaf) (sym is ∙ e)
  where
    by_test : (b : Bool) → (let r : Result Leaf Cause = Err (page_fault kind) in if b then Ok entry_leaf else r) ≡ Ok leaf → entry_leaf ≡ leaf
    by_test true e = cc
    by_test false e = cc

-- the address that it comes to
address-decided : (found : Option Entry) (asid va : ℕ) (kind : Kind) (walked result : Result Leaf Cause) (leaf : Leaf) → walked ≡ result → result ≡ Ok leaf
    → ((entry : Entry) → used_by (way_by found asid walked) ≡ Some entry → result ≡ by_right kind entry.leaf)
    → phys_at (used_by (way_by found asid walked)) va ≡ phys_in leaf va
address-decided (Some entry) asid va kind walked result leaf same is decides = ap (λ l. phys_in l va) (right-leaf kind entry.leaf leaf result (decides entry refl) is)
address-decided None asid va kind (Ok other) result leaf same is decides = ap (λ l. phys_in l va) (right-leaf kind other leaf result (decides (record { leaf = other; asid = asid }) refl) is)
address-decided None asid va kind (Err cause) result leaf same is decides = absurd (let wrong = same ∙ is in cc)

failed : (access : Access) (cause : Cause) → access_reply_of access (Err cause) ≡ replies.Fault cause
failed Load cause = refl
failed (Store value) cause = refl
failed Fetch cause = refl
failed (Amo at amo) cause = refl

pub steady_tables_decide : (o : Opening) (past : List Event) (limit t a p : ℕ) (fence : Fence) (reach : Reach) (result : Result Leaf Cause)
    → IsOpened (with_limit limit o) → IsLegal o past → (x : FencedAccess o past t a p fence reach) → IsTranslated (satp o (past_at o past p) t) reach.va → TablesAreSteady o past t a p reach result
    → IsDecidedBy o (past_at o past p) t x.event reach result
steady_tables_decide o past limit t a p fence reach result opened legal x is_translated steady =
    let older = past_at o past p in
    let kind = kind_of reach.access in
    let found = hit_at (satp o older t) (hit o older t) reach.va in
    let walked = maps (memory o older) (satp o older t) reach.va kind in
    let with_event = legal-with o past p x.event legal x.happened in
    let way_is = translated-way (memory o older) (satp o older t) (hit o older t) reach.va kind is_translated in
    let entry_used : x.event.translation ≡ used_by (way_by found (asid_of (satp o older t)) walked) =
    with_event.1 ∙ used-reach o older t x.event.actor x.event.op reach x.by_hart x.access ∙ ap used_by way_is in
    let walked_is : walked ≡ result = steady.one_result p (after-fence o past t a p fence reach ((is-good (with_limit limit o) opened).boot_hart_is_there) legal x) (omega arith) in
    let decides = λ (entry : Entry) (used_entry : used_by (way_by found (asid_of (satp o older t)) walked) ≡ Some entry). decided entry (entry_used ∙ used_entry) in
    let place_is = ap (λ w. in_memory (memory o older) kind (phys_by w reach.va kind)) way_is
    ∙ ap (in_memory (memory o older) kind) (way-decided found (asid_of (satp o older t)) reach.va kind walked result walked_is decides) in
    let alone_is = ap (λ w. in_memory (memory o older) kind (phys_by w reach.va kind)) (translated-way (memory o older) (satp o older t) no_tlb reach.va kind is_translated)
    ∙ ap (in_memory (memory o older) kind) (way-walked (asid_of (satp o older t)) reach.va kind walked result walked_is (walked-allows (memory o older) (satp o older t) reach.va kind)) in
    let reply_is = answered-reach o older t x.event.actor x.event.op x.event.reply reach x.by_hart x.access with_event.0
    ∙ ap (λ place. access_reply_of reach.access (whole.answer_by (memory o older) (cached o older t) place reach.access)) place_is in
    record {
      address = λ leaf is. ap (λ u. phys_at u reach.va) entry_used ∙ address-decided found (asid_of (satp o older t)) reach.va kind walked result leaf walked_is is decides;
      fault = λ cause is. reply_is
          ∙ ap (λ (r : Result Leaf Cause). access_reply_of reach.access (whole.answer_by (memory o older) (cached o older t) (in_memory (memory o older) kind (phys_of r reach.va)) reach.access)) is
          ∙ failed reach.access cause;
      reply = reply_is ∙ sym (ap (λ place. access_reply_of reach.access (whole.answer_by (memory o older) (cached o older t) place reach.access)) alone_is);
    }
  where
    -- each entry that the access may use is the result's leaf, or doesn't allow the access
    decided : (entry : Entry) → x.event.translation ≡ Some entry → result ≡ by_right (kind_of reach.access) entry.leaf
    decided entry translation =
        let given = translations_are_fresh o past limit t a p fence reach entry opened legal x translation in
        let before = past_at o past given.place in
        let kind = kind_of given.there.access in
        let page = leaf_page (memory o before) (satp o before t) reach.va kind entry.leaf given.gives in
        let bounds = page-bounds entry.leaf.level reach.va in
        sym (steady.one_result given.place given.after given.upto)
        ∙ ap (λ s. maps (memory o before) s reach.va (kind_of reach.access)) (sym (steady.same_satp given.place given.after given.upto))
        ∙ one_leaf_for_a_page (memory o before) (satp o before t) reach.va reach.va kind (kind_of reach.access) entry.leaf given.gives (rw page bounds.0) (rw page bounds.1)
