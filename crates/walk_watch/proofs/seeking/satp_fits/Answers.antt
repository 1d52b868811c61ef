use Rattle.std.proofs.Common.{◌≡◌, Bool, true, false, not, sym, ap, ◌∙◌}
use Rattle.std.specs.Prelude.{◌||◌}
use Rattle.sv39.specs.declared.paging.Paging.TheVariants.{Sv39, Sv48}
use Rattle.sv39.specs.Memory.{word_in}
use Rattle.sv39.specs.Pages.{levels_from}
use Rattle.sv39.specs.Paging.{scheme}
use Rattle.sv39.specs.Satp.{asid_of, paging_of, root_address}
use Rattle.tlb_watch.proofs.Giving.{if-ok}
use Rattle.walk_watch.specs.Inside.Fits.{fits_from, is_counted}
use Rattle.walk_watch.proofs.seeking.satp_fits.Goals as goal

pub returns-in-Sv39 : goal.returns-in-Sv39
returns-in-Sv39 c =
    let w = c.args.wanted in
    let met = c.args.met in
    let register = c.args.satp in
    let memory = word_in c.args.ram.now in
    let notes = c.args.notes.now in
    let counted : is_counted met c.args.present w.va register ≡ true = sym c.is_counted.ensures ∙ c.if-not-is_counted.false in
    let mode : paging_of register ≡ Sv39 = sym c.paging.ensures ∙ c.in-Sv39.is in
    if-ok c.fits_from.result _ _
    (λ fits is.
    is
    ∙ (λ i. fits_from (record { wanted = w; met = met; asid = c.asid.ensures i }) notes memory (levels_from (scheme (sym mode i)).root) (c.root-table.ensures.root i) false)
    ∙ ap (λ (b : Bool). not b || fits_from (record { wanted = w; met = met; asid = asid_of register }) notes memory (levels_from (scheme (paging_of register)).root) (root_address register) false) (sym counted))
    c.fits_from.ensures

pub returns-in-Sv48 : goal.returns-in-Sv48
returns-in-Sv48 c =
    let w = c.args.wanted in
    let met = c.args.met in
    let register = c.args.satp in
    let memory = word_in c.args.ram.now in
    let notes = c.args.notes.now in
    let counted : is_counted met c.args.present w.va register ≡ true = sym c.is_counted.ensures ∙ c.if-not-is_counted.false in
    let mode : paging_of register ≡ Sv48 = sym c.paging.ensures ∙ c.in-Sv48.is in
    if-ok c.fits_from-in-Sv48.result _ _
    (λ fits is.
    is
    ∙ (λ i. fits_from (record { wanted = w; met = met; asid = c.asid.ensures i }) notes memory (levels_from (scheme (sym mode i)).root) (c.root-table.ensures.root i) false)
    ∙ ap (λ (b : Bool). not b || fits_from (record { wanted = w; met = met; asid = asid_of register }) notes memory (levels_from (scheme (paging_of register)).root) (root_address register) false) (sym counted))
    c.fits_from-in-Sv48.ensures
