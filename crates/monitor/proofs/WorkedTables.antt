-- Worked tables, computed from the definitions.
use Rattle.std.proofs.Common.{◌≡◌, [], ◌∷◌, replicate, None, codes, refl, pos}
use Rattle.std.specs.Fmt.{digits}
use Rattle.sbi_abi.specs.Calls.{call_of}
use Rattle.sbi_abi.specs.ResetTypes.{reset_kind_of}
use Rattle.board_terms.specs.declared.config.Config.{Config}
use Rattle.board_terms.specs.declared.op.Actor.TheVariants.{Hart}
use Rattle.board_terms.specs.declared.op.Op.TheVariants.{Ecall, Advance}
use Rattle.board_terms.specs.declared.reply.Reply.TheVariants.{Ret, Entry, Gone, Waiting}
use Rattle.board_core.specs.Opening.{opening_at}
use Rattle.hart_mask.specs.HartList.{names_stray, targets_of}
use Rattle.hart_mask.specs.Ids.{ids_where}
use Rattle.monitor.specs.Table.{entry_cells, fence_cells, hart_cells, head_cells, table, time_cells, totals_cells}

abbrev one_hart : Config
one_hart = record { harts = 1; pages = 1; limit = 10; boot_hart = 0; boot_addr = 0x80000000; boot_opaque = 0; asid_len = 16; width = 39 }

-- after the boot hart's entry and one call
table-version : table (opening_at one_hart)
    (record { actor = Hart 0; op = Ecall (record { eid = 0x10; fid = 0; a = replicate 6 0 }); reply = Ret (record { error = pos 0; value = 0x1000000 }); translation = None }
    ∷ record { actor = Hart 0; op = Advance; reply = Entry 0x80000000 0 0; translation = None }
    ∷ [])
    ≡ codes "# time 0000000000000000 events       2 power on reset none\n# starts 1 entries 1 pending 0 asked 0 applied 0 waiting 0\n# hart state           wait out ss st ie se satp             deadline         tlb ic\n#    0 STARTED            0   -  0  0 00  0 0000000000000000 ----------------   0  0\n"
unfolding digits call_of time_cells totals_cells head_cells hart_cells
table-version = refl

-- the opening, with the start pending
table-opening : table (opening_at one_hart) []
    ≡ codes "# time 0000000000000000 events       0 power on reset none\n# starts 1 entries 0 pending 1 asked 0 applied 0 waiting 0\n# hart state           wait out ss st ie se satp             deadline         tlb ic\n#    0 START_PENDING      0   -  0  0 00  0 0000000000000000 ----------------   0  0\n# entry   0 0000000080000000 0000000000000000\n"
unfolding digits time_cells totals_cells head_cells hart_cells entry_cells
table-opening = refl

-- after the boot hart's entry and its warm reboot for a reason of the implementation's, with upper bits that aren't read
table-reboot : table (opening_at one_hart)
    (record { actor = Hart 0; op = Ecall (record { eid = 0x53525354; fid = 0; a = 0x100000002 ∷ 0x1e0000009 ∷ 0 ∷ 0 ∷ 0 ∷ 0 ∷ [] }); reply = Gone; translation = None }
    ∷ record { actor = Hart 0; op = Advance; reply = Entry 0x80000000 0 0; translation = None }
    ∷ [])
    ≡ codes "# time 0000000000000000 events       2 power on reset 00000002 e0000009\n# starts 1 entries 0 pending 1 asked 0 applied 0 waiting 0\n# hart state           wait out ss st ie se satp             deadline         tlb ic\n#    0 START_PENDING      0   -  0  0 00  0 0000000000000000 ----------------   0  0\n# entry   0 0000000080000000 0000000000000000\n"
unfolding digits call_of reset_kind_of time_cells totals_cells head_cells hart_cells entry_cells
table-reboot = refl

-- after its shutdown
table-shutdown : table (opening_at one_hart)
    (record { actor = Hart 0; op = Ecall (record { eid = 0x53525354; fid = 0; a = 0 ∷ 1 ∷ 0 ∷ 0 ∷ 0 ∷ 0 ∷ [] }); reply = Gone; translation = None }
    ∷ record { actor = Hart 0; op = Advance; reply = Entry 0x80000000 0 0; translation = None }
    ∷ [])
    ≡ codes "# time 0000000000000000 events       2 power off reset 00000000 00000001\n# starts 0 entries 0 pending 0 asked 0 applied 0 waiting 0\n# hart state           wait out ss st ie se satp             deadline         tlb ic\n#    0 STOPPED            0   -  0  0 00  0 0000000000000000 ----------------   0  0\n"
unfolding digits call_of reset_kind_of time_cells totals_cells head_cells hart_cells
table-shutdown = refl

abbrev two_harts : Config
two_harts = record { harts = 2; pages = 1; limit = 10; boot_hart = 0; boot_addr = 0x80000000; boot_opaque = 0; asid_len = 16; width = 39 }

-- inside a call of remote_sfence_vma_asid, whose fence waits at hart 1
table-waiting : table (opening_at two_harts)
    (record { actor = Hart 0; op = Ecall (record { eid = 0x52464e43; fid = 2; a = 2 ∷ 0 ∷ 0x1000 ∷ 0x80 ∷ 5 ∷ 0 ∷ [] }); reply = Waiting; translation = None }
    ∷ record { actor = Hart 1; op = Advance; reply = Entry 0x80000000 1 0; translation = None }
    ∷ record { actor = Hart 0; op = Ecall (record { eid = 0x48534d; fid = 0; a = 1 ∷ 0x80000000 ∷ 0 ∷ 0 ∷ 0 ∷ 0 ∷ [] }); reply = Ret (record { error = pos 0; value = 0 }); translation = None }
    ∷ record { actor = Hart 0; op = Advance; reply = Entry 0x80000000 0 0; translation = None }
    ∷ [])
    ≡ codes "# time 0000000000000000 events       4 power on reset none\n# starts 2 entries 2 pending 0 asked 1 applied 0 waiting 1\n# hart state           wait out ss st ie se satp             deadline         tlb ic\n#    0 STARTED            0   1  0  0 00  0 0000000000000000 ----------------   0  0\n#    1 STARTED            1   -  0  0 00  0 0000000000000000 ----------------   0  0\n# fence   1 from   0 vma 0000000000001000 0000000000000080 asid 0005\n"
unfolding digits call_of targets_of names_stray ids_where time_cells totals_cells head_cells hart_cells fence_cells
table-waiting = refl
