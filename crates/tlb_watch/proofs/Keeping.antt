-- What is kept once of an address says what is watched of it.
use Rattle.std.proofs.Common.{◌≡◌, ℕ, ◌+◌, ◌<◌, Bool, true, false, List, [], ◌∷◌, ◌++◌, length, take, get_or, refl, sym, subst, ap, ◌∙◌, inl, inr, append_assoc, append-nil}
use Rattle.std.specs.Prelude.{◌&&◌, ◌||◌, ◌==◌, if◌then◌else◌, Option}
use Rattle.std.specs.List.{All}
use Rattle.std.proofs.lemmas.Bool.{eqb-true}
use Rattle.std.proofs.lemmas.List.{take_more}
use Rattle.std.proofs.lemmas.List.Elements.{All-cons, All-head, All-nil, All-tail}
use Rattle.std.proofs.lemmas.List.Sums.{fold-append}
use Rattle.rfence.specs.Applied.{Effect}
use Rattle.tlb_model.specs.declared.fence.Flush.{Flush}
use Rattle.tlb_model.specs.Entries.{Entry}
use Rattle.board_core.specs.History.{Event}
use Rattle.board_core.specs.Memory as memories
use Rattle.board_core.specs.Opening.{Opening}
use Rattle.any_tlb.specs.declared.watcher.Walking.{Walking}
use Rattle.any_tlb.specs.Effects.{effect_at}
use Rattle.any_tlb.specs.Watch.{given_by, spared}
use Rattle.tlb_watch.specs.declared.hart_address.HartAddress.{HartAddress}
use Rattle.tlb_watch.specs.Kept.{all_kept_after, has_entry, is_same_entry, kept_after, logged_once, with_entries, with_entry, with_satp}
use Rattle.tlb_watch.specs.Sets.{HaveSameMembers, IsIn}
use Rattle.tlb_watch.specs.Tracked.{IsTracking, addresses_of}
use Rattle.tlb_watch.specs.Watched.{WatchTheSame, WatchedAddress, after_event, watch_of}
use Rattle.tlb_watch.proofs.Giving.{like-after, like-on}
use Rattle.tlb_watch.proofs.Leaves.{leaves-decide}
use Rattle.tlb_watch.proofs.Logging.{walks-like}
use Rattle.tlb_watch.proofs.Members.{has-one, same-by, same-joined, same-on, same-self}

-- ---- entries that are kept once

both : (p q : Bool) → p && q ≡ true → (p ≡ true) × (q ≡ true)
both true true is = (refl, refl)
both true false is = cc
both false q is = cc

pub same-entry : (a b : Entry) → is_same_entry a b ≡ true → a ≡ b
same-entry a b is =
    let parts = both _ (a.asid == b.asid) is in
    let leaf = (leaves-decide a.leaf b.leaf).0 parts.0 in
    let asid = eqb-true a.asid b.asid parts.1 in
    λ i. record { leaf = leaf i; asid = asid i }

there : (entries : List Entry) (entry : Entry) → has_entry entries entry ≡ true → IsIn entries entry
there [] entry is = cc
there (other ∷ entries) entry is = by_test (there entries entry) (is_same_entry other entry) refl is
  where
    by_test : (has_entry entries entry ≡ true → IsIn entries entry) → (b : Bool) → is_same_entry other entry ≡ b → (b || has_entry entries entry) ≡ true → IsIn (other ∷ entries) entry
    by_test rest true same is = inl (same-entry other entry same)
    by_test rest false same is = inr (rest is)

one-like : (entries : List Entry) (entry : Entry) → HaveSameMembers (with_entry entries entry) (entries ++ entry ∷ [])
one-like entries entry = by_test (has_entry entries entry) refl
  where
    by_test : (b : Bool) → has_entry entries entry ≡ b → HaveSameMembers (if b then entries else entries ++ entry ∷ []) (entries ++ entry ∷ [])
    by_test true is = has-one entries entries entry (there entries entry is) (same-self entries)
    by_test false is = same-self (entries ++ entry ∷ [])

pub entries-like : (entries given : List Entry) → HaveSameMembers (with_entries entries given) (entries ++ given)
entries-like entries [] = same-by entries (entries ++ []) entries entries refl (append-nil entries) (same-self entries)
entries-like entries (entry ∷ given) =
    same-on (with_entries (with_entry entries entry) given) (with_entry entries entry ++ given) (entries ++ entry ∷ given)
    (entries-like (with_entry entries entry) given)
    (same-by (with_entry entries entry ++ given) (entries ++ entry ∷ given) (with_entry entries entry ++ given) ((entries ++ entry ∷ []) ++ given) refl (sym (append_assoc entries (entry ∷ []) given))
    (same-joined (with_entry entries entry) (entries ++ entry ∷ []) given given (one-like entries entry) (same-self given)))

-- a loop that adds them
pub one-more : (old given : List Entry) (i : ℕ) (x : Entry) → i < length given → x ≡ get_or given i x → with_entries old (take (i + 1) given) ≡ with_entry (with_entries old (take i given)) x
one-more old given i x inside is =
    ap (with_entries old) (take_more given i x inside) ∙ fold-append with_entry old (take i given) (get_or given i x ∷ []) ∙ ap (with_entry (with_entries old (take i given))) (sym is)

pub when-there : (entries : List Entry) (entry : Entry) → has_entry entries entry ≡ true → with_entry entries entry ≡ entries
when-there entries entry is = ap (λ (b : Bool). if b then entries else entries ++ entry ∷ []) is

pub when-new : (entries : List Entry) (entry : Entry) → has_entry entries entry ≡ false → with_entry entries entry ≡ entries ++ entry ∷ []
when-new entries entry is = ap (λ (b : Bool). if b then entries else entries ++ entry ∷ []) is

-- ---- what is kept of an address

pub kept-like : (done : Effect Flush) (memory : ℕ → Option ℕ) (satp : ℕ) (w : WatchedAddress) → WatchTheSame (kept_after done memory satp w) (after_event done memory satp w)
kept-like done memory satp w =
    let walks = with_satp satp (logged_once done w.walks) in
    let given : List Walking → List Entry = λ l. given_by memory w.at.address [] l in
    let left = spared done w.entries in
    record {
      at = refl;
      walks = walks-like done satp w.walks;
      entries = same-on (with_entries left (given walks)) (left ++ given walks) _ (entries-like left (given walks))
          (same-joined left left _ _ (same-self left) (walks-like done satp w.walks memory w.at.address));
    }

module _ (o : Opening) (event : Event) (past : List Event) (does : ℕ → Effect Flush) (memory : ℕ → Option ℕ) (satps : ℕ → ℕ)
    (effects : (h : ℕ) → h < o.config.harts → does h ≡ effect_at o past event h) (leaves : memory ≡ memories.memory o (event ∷ past))
    (have : (h : ℕ) → h < o.config.harts → satps h ≡ memories.satp o (event ∷ past) h) where
  abbrev Like : WatchedAddress → Type 0
  Like w = WatchTheSame w (watch_of o past w.at)

  abbrev LikeAfter : WatchedAddress → Type 0
  LikeAfter w = WatchTheSame w (watch_of o (event ∷ past) w.at)

  kept-one : (w : WatchedAddress) → w.at.hart < o.config.harts → Like w → LikeAfter (kept_after (does w.at.hart) memory (satps w.at.hart) w)
  kept-one w present like =
      let h = w.at.hart in
      let done = effects h present in
      let register = have h present in
      let changed : WatchedAddress → WatchedAddress = after_event (does h) memory (satps h) in
      let is : changed (watch_of o past w.at) ≡ watch_of o (event ∷ past) w.at = (λ i. after_event (done i) (leaves i) (register i) (watch_of o past w.at)) in
      subst (WatchTheSame (kept_after (does h) memory (satps h) w)) is
      (like-on _ (changed w) (changed (watch_of o past w.at)) (kept-like (does h) memory (satps h) w) (like-after (does h) memory (satps h) w (watch_of o past w.at) like))

  kept-all : (watches : List WatchedAddress) → All (λ (at : HartAddress). at.hart < o.config.harts) (addresses_of watches) → All Like watches → All LikeAfter (all_kept_after does memory satps watches)
  kept-all [] present like = All-nil LikeAfter
  kept-all (w ∷ watches) present like =
      let Present : HartAddress → Type 0 = λ at. at.hart < o.config.harts in
      All-cons LikeAfter (kept_after (does w.at.hart) memory (satps w.at.hart) w) (all_kept_after does memory satps watches)
      (kept-one w (All-head Present w.at (addresses_of watches) present) (All-head Like w watches like))
      (kept-all watches (All-tail Present w.at (addresses_of watches) present) (All-tail Like w watches like))

  same-addresses : (watches : List WatchedAddress) → addresses_of (all_kept_after does memory satps watches) ≡ addresses_of watches
  same-addresses [] = refl
  same-addresses (w ∷ watches) = ap (λ (rest : List HartAddress). w.at ∷ rest) (same-addresses watches)

  pub kept-tracks : (addresses : List HartAddress) (watches : List WatchedAddress) → IsTracking o past addresses watches → IsTracking o (event ∷ past) addresses (all_kept_after does memory satps watches)
  kept-tracks addresses watches tracks = record {
    are = same-addresses watches ∙ tracks.are;
    present = tracks.present;
    each = kept-all watches (subst (λ (l : List HartAddress). All (λ (at : HartAddress). at.hart < o.config.harts) l) (sym tracks.are) tracks.present) tracks.each;
  }
