-- The passes give a program, or a fault, exactly where the relations do. So a text says one program, or has one fault.
use Rattle.std.proofs.Common.{◌≡◌, ℕ, suc, ◌+◌, List, [], ◌∷◌, ◌++◌, length, map, refl, sym, ap, ◌∙◌, subst, append_assoc, append-nil, inl, inr, arith, Result, Ok, Err}
use Rattle.std.specs.Prelude.{Bool, true, false, if◌then◌else◌, Option, Some, None}
use Rattle.std.specs.List.{flat_map}
use Rattle.asm_expressions.specs.declared.faults.Fault.{Fault}
use Rattle.asm_expressions.specs.declared.faults.Wrong.TheVariants.{Backwards, Unsettled}
use Rattle.asm_expressions.specs.Values.{wrong_at}
use Rattle.asm_expressions.specs.Symbols.{Named}
use Rattle.asm_tokens.specs.Places.{place_in}
use Rattle.asm_tokens.specs.Readings.{HasOneRow, TokenSpot}
use Rattle.asm_program.specs.declared.assemble.ProgramWrong.{ProgramWrong}
use Rattle.asm_program.specs.declared.assemble.ProgramWrong.TheVariants.{InText, InStatement}
use Rattle.asm_program.specs.declared.code.CodeLine.{CodeLine}
use Rattle.asm_program.specs.declared.data.Datum.{Datum}
use Rattle.asm_program.specs.Assembles.{Assembles, CantStand, HaveFault, HaveSizes, Image, IsFaultAt, LeadTo, SayProgram, Settle, Stand, WriteAll}
use Rattle.asm_program.specs.Inside.Passes.{Laid, Sum, added, added_if, based_by, imaged, laid_in, laid_on, nothing_laid, nothing_written, program_in, settled_by, sized_by, sum_after, sum_in, sum_on, with_laid, with_one}
use Rattle.asm_program.specs.Laws.{HasOneAssembly}
use Rattle.asm_program.specs.Layout.{PartsReach, Standing, before_parts, ends_of, standing, reach_more}
use Rattle.asm_program.specs.Parts.{Piece, parts_of}
use Rattle.asm_program.specs.declared.sections.Counters.{Counters}
use Rattle.asm_program.specs.Sections.{are_settled, bases_of, zeros}
use Rattle.asm_program.specs.Written.{AllKnown, PartWriting, written_ticks, data_in, known_of, lines_in, part_written}
use Rattle.asm_program.specs.Written.PartWriting.{Blank, Lines, Numbers, Ticks}

abbrev parts_at : List Standing → List Piece
parts_at standings = map (λ (one : Standing). one.part) standings

abbrev laid_ok : PartsReach → List Standing → Result Laid Fault
laid_ok reached standings = Ok (record { reached = reached; standings = standings })

abbrev sum_ok : List CodeLine → List Datum → List ℕ → Result Sum Fault
sum_ok code numbers ticks = Ok (record { code = code; numbers = numbers; ticks = ticks })

abbrev image_ok : List CodeLine → List Datum → List ℕ → List Named → List ℕ → Result Image Fault
image_ok code numbers ticks symbols ends =
    Ok (record { code = code; numbers = numbers; ticks = ticks; symbols = symbols; ends = ends })

-- one part more of the first pass
abbrev goes_on : (number : ℕ) → List Standing → PartsReach → Piece → List Piece → Result PartsReach Fault → Result Laid Fault
goes_on number before from part parts stepped =
    laid_on (λ next. laid_in (suc number) next parts) (with_one before (standing number from part) stepped)

-- one part more of the second
abbrev adds_on : AllKnown → Sum → List Standing → Result PartWriting Fault → Result Sum Fault
adds_on known before more writing = sum_on (λ next. sum_in known next more) (added_if before writing)

-- ---- the first pass

abbrev Led : (number : ℕ) → Laid → List Piece → Laid → Type 0
Led number laid parts end = (more : List Standing) × (end.standings ≡ laid.standings ++ more) × (parts_at more ≡ parts)
    × LeadTo number laid.reached more end.reached

led_by : (number : ℕ) (laid end : Laid) (part : Piece) (parts : List Piece)
    → ((next : Laid) → laid_in (suc number) next parts ≡ Ok end → Led (suc number) next parts end)
    → (stepped : Result PartsReach Fault) → reach_more number laid.reached part ≡ stepped
    → goes_on number laid.standings laid.reached part parts stepped ≡ Ok end → Led number laid (part ∷ parts) end
led_by number laid end part parts later (Err fault) is same = absurd cc
led_by number laid end part parts later (Ok reached) is same =
    let one : Standing = standing number laid.reached part in
    let more = later (record { reached = reached; standings = laid.standings ++ one ∷ [] }) same in
    (one ∷ more.0, more.1 ∙ append_assoc laid.standings (one ∷ []) more.0, ap (λ (rest : List Piece). part ∷ rest) more.2, (refl, reached, is, more.3))

laid_leads : (number : ℕ) (laid end : Laid) (parts : List Piece) → laid_in number laid parts ≡ Ok end → Led number laid parts end
laid_leads number laid end [] same =
    let e : laid ≡ end = cc in
    ([], ap (λ (one : Laid). one.standings) (sym e) ∙ sym (append-nil laid.standings), refl, ap (λ (one : Laid). one.reached) e)
laid_leads number laid end (part ∷ parts) same =
    led_by number laid end part parts (λ next on. laid_leads (suc number) next end parts on) (reach_more number laid.reached part) refl same

abbrev Fails : (number : ℕ) → PartsReach → List Piece → Fault → Type 0
Fails number from parts fault = (before : List Standing) × (at : PartsReach) × (part : Piece) × (behind : List Piece)
    × (parts_at before ++ part ∷ behind ≡ parts) × LeadTo number from before at
    × (reach_more (number + length before) at part ≡ Err fault)

fails_by : (number : ℕ) (laid : Laid) (fault : Fault) (part : Piece) (parts : List Piece)
    → ((next : Laid) → laid_in (suc number) next parts ≡ Err fault → Fails (suc number) next.reached parts fault)
    → (stepped : Result PartsReach Fault) → reach_more number laid.reached part ≡ stepped
    → goes_on number laid.standings laid.reached part parts stepped ≡ Err fault → Fails number laid.reached (part ∷ parts) fault
fails_by number laid fault part parts later (Err other) is same =
    let e : other ≡ fault = cc in
    let none : number + 0 ≡ number = omega arith in
    ([], laid.reached, part, parts, refl, refl, ap (λ (k : ℕ). reach_more k laid.reached part) none ∙ is ∙ ap Err e)
fails_by number laid fault part parts later (Ok reached) is same =
    let one : Standing = standing number laid.reached part in
    let more = later (record { reached = reached; standings = laid.standings ++ one ∷ [] }) same in
    let next : number + suc (length more.0) ≡ suc number + length more.0 = omega arith in (
      one ∷ more.0,
      more.1,
      more.2,
      more.3,
      ap (λ (rest : List Piece). part ∷ rest) more.4,
      (refl, reached, is, more.5),
      ap (λ (k : ℕ). reach_more k more.1 more.2) next ∙ more.6,
    )

laid_fails : (number : ℕ) (laid : Laid) (parts : List Piece) (fault : Fault) → laid_in number laid parts ≡ Err fault
    → Fails number laid.reached parts fault
laid_fails number laid [] fault same = absurd cc
laid_fails number laid (part ∷ parts) fault same =
    fails_by number laid fault part parts (λ next on. laid_fails (suc number) next parts fault on) (reach_more number laid.reached part) refl same

stands : (number : ℕ) (from : PartsReach) (before : List Standing) (one : Standing) → one ≡ standing number from one.part
    → before ++ standing number from one.part ∷ [] ≡ before ++ one ∷ []
stands number from before one is = ap (λ (s : Standing). before ++ s ∷ []) (sym is)

leads_laid : (number : ℕ) (from to : PartsReach) (before more : List Standing) → LeadTo number from more to
    → laid_in number (record { reached = from; standings = before }) (parts_at more) ≡ laid_ok to (before ++ more)
leads_laid number from to before [] lead = λ i. laid_ok (lead i) (sym (append-nil before) i)
leads_laid number from to before (one ∷ more) lead =
    ap (goes_on number before from one.part (parts_at more)) lead.2
    ∙ ap (λ (b : List Standing). laid_in (suc number) (record { reached = lead.1; standings = b }) (parts_at more)) (stands number from before one lead.0)
    ∙ leads_laid (suc number) lead.1 to (before ++ one ∷ []) more lead.3
    ∙ ap (laid_ok to) (append_assoc before (one ∷ []) more)

fails_laid : (number : ℕ) (from at : PartsReach) (before more : List Standing) (part : Piece) (behind : List Piece) (fault : Fault)
    → LeadTo number from more at → reach_more (number + length more) at part ≡ Err fault
    → laid_in number (record { reached = from; standings = before }) (parts_at more ++ part ∷ behind) ≡ Err fault
fails_laid number from at before [] part behind fault lead fails =
    let none : number ≡ number + 0 = omega arith in
    let e : reach_more number from part ≡ Err fault =
    ap (λ (k : ℕ). reach_more k from part) none ∙ ap (λ (r : PartsReach). reach_more (number + 0) r part) lead ∙ fails in
    ap (goes_on number before from part behind) e
fails_laid number from at before (one ∷ more) part behind fault lead fails =
    let next : suc number + length more ≡ number + suc (length more) = omega arith in
    ap (goes_on number before from one.part (parts_at more ++ part ∷ behind)) lead.2
    ∙ ap (λ (b : List Standing). laid_in (suc number) (record { reached = lead.1; standings = b }) (parts_at more ++ part ∷ behind)) (stands number from before one lead.0)
    ∙ fails_laid (suc number) lead.1 at (before ++ one ∷ []) more part behind fault lead.3 (ap (λ (k : ℕ). reach_more k at part) next ∙ fails)

-- ---- the second pass

added-code : (before : Sum) (writing : PartWriting) → (added before writing).code ≡ before.code ++ lines_in writing
added-code before Blank = sym (append-nil before.code)
added-code before (Lines lines) = refl
added-code before (Numbers numbers) = sym (append-nil before.code)
added-code before (Ticks ticks) = sym (append-nil before.code)

added-numbers : (before : Sum) (writing : PartWriting) → (added before writing).numbers ≡ before.numbers ++ data_in writing
added-numbers before Blank = sym (append-nil before.numbers)
added-numbers before (Lines lines) = sym (append-nil before.numbers)
added-numbers before (Numbers numbers) = refl
added-numbers before (Ticks ticks) = sym (append-nil before.numbers)

added-ticks : (before : Sum) (writing : PartWriting) → (added before writing).ticks ≡ before.ticks ++ written_ticks writing
added-ticks before Blank = sym (append-nil before.ticks)
added-ticks before (Lines lines) = sym (append-nil before.ticks)
added-ticks before (Numbers numbers) = sym (append-nil before.ticks)
added-ticks before (Ticks ticks) = refl

code_more : (before : Sum) (writing : PartWriting) (writings : List PartWriting)
    → (added before writing).code ++ flat_map lines_in writings ≡ before.code ++ flat_map lines_in (writing ∷ writings)
code_more before writing writings =
    ap (λ (code : List CodeLine). code ++ flat_map lines_in writings) (added-code before writing)
    ∙ append_assoc before.code (lines_in writing) (flat_map lines_in writings)

numbers_more : (before : Sum) (writing : PartWriting) (writings : List PartWriting)
    → (added before writing).numbers ++ flat_map data_in writings ≡ before.numbers ++ flat_map data_in (writing ∷ writings)
numbers_more before writing writings =
    ap (λ (numbers : List Datum). numbers ++ flat_map data_in writings) (added-numbers before writing)
    ∙ append_assoc before.numbers (data_in writing) (flat_map data_in writings)

ticks_more : (before : Sum) (writing : PartWriting) (writings : List PartWriting)
    → (added before writing).ticks ++ flat_map written_ticks writings ≡ before.ticks ++ flat_map written_ticks (writing ∷ writings)
ticks_more before writing writings =
    ap (λ (ticks : List ℕ). ticks ++ flat_map written_ticks writings) (added-ticks before writing)
    ∙ append_assoc before.ticks (written_ticks writing) (flat_map written_ticks writings)

write_more : (known : AllKnown) (one : Standing) (more : List Standing) (writing : PartWriting) (writings : List PartWriting)
    → part_written known one ≡ Ok writing → WriteAll known more writings → WriteAll known (one ∷ more) (writing ∷ writings)
write_more known one more writing writings is write = λ i. is i ∷ write i

abbrev Wrote : AllKnown → Sum → List Standing → Sum → Type 0
Wrote known before standings end = (writings : List PartWriting) × WriteAll known standings writings
    × (end.code ≡ before.code ++ flat_map lines_in writings) × (end.numbers ≡ before.numbers ++ flat_map data_in writings)
    × (end.ticks ≡ before.ticks ++ flat_map written_ticks writings)

wrote_by : (known : AllKnown) (before end : Sum) (one : Standing) (more : List Standing)
    → ((next : Sum) → sum_in known next more ≡ Ok end → Wrote known next more end)
    → (writing : Result PartWriting Fault) → part_written known one ≡ writing → adds_on known before more writing ≡ Ok end
    → Wrote known before (one ∷ more) end
wrote_by known before end one more later (Err fault) is same = absurd cc
wrote_by known before end one more later (Ok writing) is same =
    let rest = later (added before writing) same in (
      writing ∷ rest.0,
      write_more known one more writing rest.0 is rest.1,
      rest.2 ∙ code_more before writing rest.0,
      rest.3 ∙ numbers_more before writing rest.0,
      rest.4 ∙ ticks_more before writing rest.0,
    )

sum_writes : (known : AllKnown) (before end : Sum) (standings : List Standing) → sum_in known before standings ≡ Ok end
    → Wrote known before standings end
sum_writes known before end [] same =
    let e : before ≡ end = cc in
    let back = sym e in (
      [],
      refl,
      ap (λ (sum : Sum). sum.code) back ∙ sym (append-nil before.code),
      ap (λ (sum : Sum). sum.numbers) back ∙ sym (append-nil before.numbers),
      ap (λ (sum : Sum). sum.ticks) back ∙ sym (append-nil before.ticks),
    )
sum_writes known before end (one ∷ more) same =
    wrote_by known before end one more (λ next on. sum_writes known next end more on) (part_written known one) refl same

abbrev Misses : AllKnown → List Standing → Fault → Type 0
Misses known standings fault = (front : List Standing) × (one : Standing) × (behind : List Standing) × (writings : List PartWriting)
    × (front ++ one ∷ behind ≡ standings) × WriteAll known front writings × (part_written known one ≡ Err fault)

misses_by : (known : AllKnown) (before : Sum) (fault : Fault) (one : Standing) (more : List Standing)
    → ((next : Sum) → sum_in known next more ≡ Err fault → Misses known more fault)
    → (writing : Result PartWriting Fault) → part_written known one ≡ writing → adds_on known before more writing ≡ Err fault
    → Misses known (one ∷ more) fault
misses_by known before fault one more later (Err other) is same =
    let e : other ≡ fault = cc in
    ([], one, more, [], refl, refl, is ∙ ap Err e)
misses_by known before fault one more later (Ok writing) is same =
    let rest = later (added before writing) same in (
      one ∷ rest.0,
      rest.1,
      rest.2,
      writing ∷ rest.3,
      ap (λ (standings : List Standing). one ∷ standings) rest.4,
      write_more known one rest.0 writing rest.3 is rest.5,
      rest.6,
    )

sum_misses : (known : AllKnown) (before : Sum) (standings : List Standing) (fault : Fault) → sum_in known before standings ≡ Err fault
    → Misses known standings fault
sum_misses known before [] fault same = absurd cc
sum_misses known before (one ∷ more) fault same =
    misses_by known before fault one more (λ next on. sum_misses known next more fault on) (part_written known one) refl same

writes_sum : (known : AllKnown) (before : Sum) (standings : List Standing) (writings : List PartWriting) → WriteAll known standings writings
    → sum_in known before standings
    ≡ sum_ok (before.code ++ flat_map lines_in writings) (before.numbers ++ flat_map data_in writings) (before.ticks ++ flat_map written_ticks writings)
writes_sum known before [] [] write =
    λ i. sum_ok (sym (append-nil before.code) i) (sym (append-nil before.numbers) i) (sym (append-nil before.ticks) i)
writes_sum known before [] (writing ∷ writings) write = absurd cc
writes_sum known before (one ∷ more) [] write = absurd cc
writes_sum known before (one ∷ more) (writing ∷ writings) write =
    let first : part_written known one ≡ Ok writing = cc in
    let rest : WriteAll known more writings = cc in
    ap (adds_on known before more) first
    ∙ writes_sum known (added before writing) more writings rest
    ∙ (λ i. sum_ok (code_more before writing writings i) (numbers_more before writing writings i) (ticks_more before writing writings i))

misses_sum : (known : AllKnown) (before : Sum) (front : List Standing) (one : Standing) (behind : List Standing) (writings : List PartWriting) (fault : Fault)
    → WriteAll known front writings → part_written known one ≡ Err fault → sum_in known before (front ++ one ∷ behind) ≡ Err fault
misses_sum known before [] one behind writings fault write fails = ap (adds_on known before behind) fails
misses_sum known before (first ∷ front) one behind [] fault write fails = absurd cc
misses_sum known before (first ∷ front) one behind (writing ∷ writings) fault write fails =
    let is : part_written known first ≡ Ok writing = cc in
    let rest : WriteAll known front writings = cc in
    ap (adds_on known before (front ++ one ∷ behind)) is
    ∙ misses_sum known (added before writing) front one behind writings fault rest fails

-- ---- both passes, forth

stand_of : (bases : Counters) (parts : List Piece) (laid : Laid) → laid_in 0 (nothing_laid bases) parts ≡ Ok laid
    → Stand bases parts laid.standings laid.reached
stand_of bases parts laid is =
    let led = laid_leads 0 (nothing_laid bases) laid parts is in
    record {
      all = ap parts_at led.1 ∙ led.2;
      lead = subst (λ (s : List Standing). LeadTo 0 (before_parts bases) s laid.reached) (sym led.1) led.3;
    }

sizes_of : (parts : List Piece) (sizes : Laid) → laid_in 0 (nothing_laid zeros) parts ≡ Ok sizes → HaveSizes parts sizes.reached.counters
sizes_of parts sizes is =
    record { standings = sizes.standings; to = sizes.reached; stand = stand_of zeros parts sizes is; same = refl }

cant_of : (bases : Counters) (parts : List Piece) (fault : Fault) → laid_in 0 (nothing_laid bases) parts ≡ Err fault
    → CantStand bases parts fault
cant_of bases parts fault is =
    let f = laid_fails 0 (nothing_laid bases) parts fault is in
    let none : length f.0 ≡ 0 + length f.0 = omega arith in
    record {
      before = f.0;
      from = f.1;
      part = f.2;
      behind = f.3;
      all = f.4;
      lead = f.5;
      fails = ap (λ (k : ℕ). reach_more k f.1 f.2) none ∙ f.6;
    }

-- what the passes went through
module _ (parts : List Piece) (sizes : Laid) (has : laid_in 0 (nothing_laid zeros) parts ≡ Ok sizes) where
  module _ (bases : Counters) (follow : bases_of sizes.reached.counters ≡ Some bases) where
    module _ (laid : Laid) (is : laid_in 0 (nothing_laid bases) parts ≡ Ok laid) where
      settle_of : are_settled bases sizes.reached.counters laid.reached.counters ≡ true → Settle parts laid.standings laid.reached
      settle_of same = record {
        sizes = sizes.reached.counters;
        bases = bases;
        have_sizes = sizes_of parts sizes has;
        follow = follow;
        stand = stand_of bases parts laid is;
        same = same;
      }

      said_by : (image : Image) (settled : are_settled bases sizes.reached.counters laid.reached.counters ≡ true)
          → (sum : Result Sum Fault) → sum_after laid ≡ sum → imaged laid sum ≡ Ok image → SayProgram parts image
      said_by image settled (Err fault) adds same = absurd cc
      said_by image settled (Ok sum) adds same =
          let made : Image = record {
            code = sum.code;
            numbers = sum.numbers;
            ticks = sum.ticks;
            symbols = laid.reached.symbols;
            ends = ends_of laid.reached;
          } in
          let e : made ≡ image = cc in
          let wrote = sum_writes (known_of laid.reached laid.standings) nothing_written sum laid.standings adds in
          record {
            standings = laid.standings;
            to = laid.reached;
            writings = wrote.0;
            settle = settle_of settled;
            symbols = ap (λ (one : Image). one.symbols) (sym e);
            ends = ap (λ (one : Image). one.ends) (sym e);
            write = wrote.1;
            code = ap (λ (one : Image). one.code) (sym e) ∙ wrote.2;
            numbers = ap (λ (one : Image). one.numbers) (sym e) ∙ wrote.3;
            ticks = ap (λ (one : Image). one.ticks) (sym e) ∙ wrote.4;
          }

      missed_by : (fault : Fault) (settled : are_settled bases sizes.reached.counters laid.reached.counters ≡ true)
          → (sum : Result Sum Fault) → sum_after laid ≡ sum → imaged laid sum ≡ Err fault → HaveFault parts fault
      missed_by fault settled (Ok sum) adds same = absurd cc
      missed_by fault settled (Err other) adds same =
          let e : other ≡ fault = cc in
          let known : AllKnown = known_of laid.reached laid.standings in
          let m = sum_misses known nothing_written laid.standings fault (adds ∙ ap Err e) in
          let same_known : known ≡ known_of laid.reached (m.0 ++ m.1 ∷ m.2) = ap (known_of laid.reached) (sym m.4) in
          inr (inr (inr (inr (record {
            before = m.0;
            one = m.1;
            behind = m.2;
            to = laid.reached;
            writings = m.3;
            settle = subst (λ (s : List Standing). Settle parts s laid.reached) (sym m.4) (settle_of settled);
            write = subst (λ (k : AllKnown). WriteAll k m.0 m.3) same_known m.5;
            fails = subst (λ (k : AllKnown). part_written k m.1 ≡ Err fault) same_known m.6;
          }))))

      say_settled : (image : Image) (settled : Bool) → are_settled bases sizes.reached.counters laid.reached.counters ≡ settled
          → (if settled then imaged laid (sum_after laid) else wrong_at Unsettled 0) ≡ Ok image → SayProgram parts image
      say_settled image false is same = absurd cc
      say_settled image true is same = said_by image is (sum_after laid) refl same

      have_settled : (fault : Fault) (settled : Bool) → are_settled bases sizes.reached.counters laid.reached.counters ≡ settled
          → (if settled then imaged laid (sum_after laid) else wrong_at Unsettled 0) ≡ Err fault → HaveFault parts fault
      have_settled fault true is same = missed_by fault is (sum_after laid) refl same
      have_settled fault false differ same =
          let e : record { wrong = Unsettled; left = 0 } ≡ fault = cc in
          inr (inr (inr (inl (record {
            sizes = sizes.reached.counters;
            bases = bases;
            standings = laid.standings;
            to = laid.reached;
            have_sizes = sizes_of parts sizes has;
            follow = follow;
            stand = stand_of bases parts laid is;
            differ = differ;
            is = sym e;
          }))))

    say_laid : (image : Image) (laid : Result Laid Fault) → laid_in 0 (nothing_laid bases) parts ≡ laid
        → with_laid (settled_by bases sizes) laid ≡ Ok image → SayProgram parts image
    say_laid image (Err fault) is same = absurd cc
    say_laid image (Ok laid) is same =
        say_settled laid is image (are_settled bases sizes.reached.counters laid.reached.counters) refl same

    have_laid : (fault : Fault) (laid : Result Laid Fault) → laid_in 0 (nothing_laid bases) parts ≡ laid
        → with_laid (settled_by bases sizes) laid ≡ Err fault → HaveFault parts fault
    have_laid fault (Ok laid) is same =
        have_settled laid is fault (are_settled bases sizes.reached.counters laid.reached.counters) refl same
    have_laid fault (Err other) is same =
        let e : other ≡ fault = cc in
        inr (inr (inl (record {
          sizes = sizes.reached.counters;
          bases = bases;
          have_sizes = sizes_of parts sizes has;
          follow = follow;
          cant = cant_of bases parts fault (is ∙ ap Err e);
        })))

  say_based : (image : Image) (bases : Option Counters) → bases_of sizes.reached.counters ≡ bases → based_by parts sizes bases ≡ Ok image
      → SayProgram parts image
  say_based image None follow same = absurd cc
  say_based image (Some bases) follow same = say_laid bases follow image (laid_in 0 (nothing_laid bases) parts) refl same

  have_based : (fault : Fault) (bases : Option Counters) → bases_of sizes.reached.counters ≡ bases → based_by parts sizes bases ≡ Err fault
      → HaveFault parts fault
  have_based fault (Some bases) follow same = have_laid bases follow fault (laid_in 0 (nothing_laid bases) parts) refl same
  have_based fault None none same =
      let e : record { wrong = Backwards; left = 0 } ≡ fault = cc in
      inr (inl (record { sizes = sizes.reached.counters; have_sizes = sizes_of parts sizes has; none = none; is = sym e }))

say_by : (parts : List Piece) (image : Image) (sizes : Result Laid Fault) → laid_in 0 (nothing_laid zeros) parts ≡ sizes
    → with_laid (sized_by parts) sizes ≡ Ok image → SayProgram parts image
say_by parts image (Err fault) is same = absurd cc
say_by parts image (Ok sizes) is same = say_based parts sizes is image (bases_of sizes.reached.counters) refl same

pub say_of : (parts : List Piece) (image : Image) → program_in parts ≡ Ok image → SayProgram parts image
say_of parts image same = say_by parts image (laid_in 0 (nothing_laid zeros) parts) refl same

have_by : (parts : List Piece) (fault : Fault) (sizes : Result Laid Fault) → laid_in 0 (nothing_laid zeros) parts ≡ sizes
    → with_laid (sized_by parts) sizes ≡ Err fault → HaveFault parts fault
have_by parts fault (Ok sizes) is same = have_based parts sizes is fault (bases_of sizes.reached.counters) refl same
have_by parts fault (Err other) is same = let e : other ≡ fault = cc in inl (cant_of zeros parts fault (is ∙ ap Err e))

pub have_of : (parts : List Piece) (fault : Fault) → program_in parts ≡ Err fault → HaveFault parts fault
have_of parts fault same = have_by parts fault (laid_in 0 (nothing_laid zeros) parts) refl same

-- ---- and back

laid_of : (bases : Counters) (parts : List Piece) (standings : List Standing) (to : PartsReach) → Stand bases parts standings to
    → laid_in 0 (nothing_laid bases) parts ≡ laid_ok to standings
laid_of bases parts standings to stand =
    ap (laid_in 0 (nothing_laid bases)) (sym stand.all) ∙ leads_laid 0 (before_parts bases) to [] standings stand.lead

cant_laid : (bases : Counters) (parts : List Piece) (fault : Fault) → CantStand bases parts fault
    → laid_in 0 (nothing_laid bases) parts ≡ Err fault
cant_laid bases parts fault cant =
    let none : 0 + length cant.before ≡ length cant.before = omega arith in
    ap (laid_in 0 (nothing_laid bases)) (sym cant.all)
    ∙ fails_laid 0 (before_parts bases) cant.from [] cant.before cant.part cant.behind fault cant.lead
    (ap (λ (k : ℕ). reach_more k cant.from cant.part) none ∙ cant.fails)

-- behind the sizes there is what the bases give
back_sizes : (parts : List Piece) (sizes : Counters) (have : HaveSizes parts sizes) (bases : Option Counters) → bases_of sizes ≡ bases
    → program_in parts ≡ based_by parts (record { reached = have.to; standings = have.standings }) bases
back_sizes parts sizes have bases follow =
    let laid : Laid = record { reached = have.to; standings = have.standings } in
    ap (with_laid (sized_by parts)) (laid_of zeros parts have.standings have.to have.stand)
    ∙ ap (based_by parts laid) (ap bases_of have.same ∙ follow)

back_laid : (parts : List Piece) (sizes bases : Counters) (have : HaveSizes parts sizes) → bases_of sizes ≡ Some bases
    → (standings : List Standing) (to : PartsReach) → Stand bases parts standings to → (settled : Bool)
    → are_settled bases sizes to.counters ≡ settled
    → program_in parts ≡ (if settled then imaged (record { reached = to; standings = standings }) (sum_in (known_of to standings) nothing_written standings) else wrong_at Unsettled 0)
back_laid parts sizes bases have follow standings to stand settled same =
    let first : Laid = record { reached = have.to; standings = have.standings } in
    let laid : Laid = record { reached = to; standings = standings } in
    back_sizes parts sizes have (Some bases) follow
    ∙ ap (with_laid (settled_by bases first)) (laid_of bases parts standings to stand)
    ∙ ap (λ (settled : Bool). if settled then imaged laid (sum_after laid) else wrong_at Unsettled 0)
    (ap (λ (counters : Counters). are_settled bases counters to.counters) have.same ∙ same)

of_say : (parts : List Piece) (image : Image) → SayProgram parts image → program_in parts ≡ Ok image
of_say parts image say =
    let laid : Laid = record { reached = say.to; standings = say.standings } in
    let s = say.settle in
    back_laid parts s.sizes s.bases s.have_sizes s.follow say.standings say.to s.stand true s.same
    ∙ ap (imaged laid) (writes_sum (known_of say.to say.standings) nothing_written say.standings say.writings say.write)
    ∙ (λ i. image_ok (sym say.code i) (sym say.numbers i) (sym say.ticks i) (sym say.symbols i) (sym say.ends i))

of_have : (parts : List Piece) (fault : Fault) → HaveFault parts fault → program_in parts ≡ Err fault
of_have parts fault (inl cant) = ap (with_laid (sized_by parts)) (cant_laid zeros parts fault cant)
of_have parts fault (inr (inl full)) =
    back_sizes parts full.sizes full.have_sizes None full.none ∙ ap Err (sym full.is)
of_have parts fault (inr (inr (inl cant))) =
    let first : Laid = record { reached = cant.have_sizes.to; standings = cant.have_sizes.standings } in
    back_sizes parts cant.sizes cant.have_sizes (Some cant.bases) cant.follow
    ∙ ap (with_laid (settled_by cant.bases first)) (cant_laid cant.bases parts fault cant.cant)
of_have parts fault (inr (inr (inr (inl differ)))) =
    back_laid parts differ.sizes differ.bases differ.have_sizes differ.follow differ.standings differ.to differ.stand false differ.differ ∙ ap Err (sym differ.is)
of_have parts fault (inr (inr (inr (inr cant)))) =
    let standings : List Standing = cant.before ++ cant.one ∷ cant.behind in
    let laid : Laid = record { reached = cant.to; standings = standings } in
    let s = cant.settle in
    back_laid parts s.sizes s.bases s.have_sizes s.follow standings cant.to s.stand true s.same
    ∙ ap (imaged laid) (misses_sum (known_of cant.to standings) nothing_written cant.before cant.one cant.behind cant.writings fault cant.write cant.fails)

-- ---- texts

same_program : (one other : List TokenSpot) → one ≡ other → program_in (parts_of one) ≡ program_in (parts_of other)
same_program one other same = ap (λ (tokens : List TokenSpot). program_in (parts_of tokens)) same

apart_by : (rows : (text : List ℕ) → HasOneRow text) (text : List ℕ) (image : Image) (wrong : ProgramWrong) (left : ℕ) → Assembles text image → IsFaultAt text wrong left → ⊥
apart_by rows text image (InText wrong) left says fault =
    let row = rows text in
    row.apart says.tokens (record { wrong = wrong; left = left }) says.are_tokens fault
apart_by rows text image (InStatement wrong) left says fault =
    let row = rows text in
    let tokens = row.tokens says.tokens fault.tokens says.are_tokens fault.are_tokens in
    let a = of_say (parts_of says.tokens) image says.say in
    let b = of_have (parts_of fault.tokens) (record { wrong = wrong; left = left }) fault.have in
    let e = same_program says.tokens fault.tokens tokens in
    cc

same_fault : (rows : (text : List ℕ) → HasOneRow text) (text : List ℕ) (one other : ProgramWrong) (a b : ℕ) → IsFaultAt text one a → IsFaultAt text other b
    → (one ≡ other) × (a ≡ b)
same_fault rows text (InText one) (InText other) a b f g =
    let row = rows text in
    let e : record { wrong = one; left = a } ≡ record { wrong = other; left = b } = row.fault (record { wrong = one; left = a }) (record { wrong = other; left = b }) f g in
    ((λ i. InText (e i).wrong), λ i. (e i).left)
same_fault rows text (InText one) (InStatement other) a b f g =
    let row = rows text in
    absurd (row.apart g.tokens (record { wrong = one; left = a }) g.are_tokens f)
same_fault rows text (InStatement one) (InText other) a b f g =
    let row = rows text in
    absurd (row.apart f.tokens (record { wrong = other; left = b }) f.are_tokens g)
same_fault rows text (InStatement one) (InStatement other) a b f g =
    let row = rows text in
    let first : Fault = record { wrong = one; left = a } in
    let second : Fault = record { wrong = other; left = b } in
    let x = of_have (parts_of f.tokens) first f.have in
    let y = of_have (parts_of g.tokens) second g.have in
    let t = same_program f.tokens g.tokens (row.tokens f.tokens g.tokens f.are_tokens g.are_tokens) in
    let both : Err first ≡ Err second = sym x ∙ t ∙ y in
    let e : first ≡ second = cc in
    ((λ i. InStatement (e i).wrong), λ i. (e i).left)

pub one_assembly_of : ((text : List ℕ) → HasOneRow text) → (text : List ℕ) → HasOneAssembly text
one_assembly_of rows text = record {
  program = λ one other a b.
      let row = rows text in
      let t = same_program a.tokens b.tokens (row.tokens a.tokens b.tokens a.are_tokens b.are_tokens) in
      let x = of_say (parts_of a.tokens) one a.say in
      let y = of_say (parts_of b.tokens) other b.say in
      cc;
  apart = λ image fault a f. apart_by rows text image fault.wrong f.0 a f.1;
  fault = λ one other f g.
      let same = same_fault rows text one.wrong other.wrong f.0 g.0 f.1 g.1 in
      let place : one.place ≡ other.place = f.2 ∙ ap (place_in text) same.1 ∙ sym g.2 in
      λ i. record { wrong = same.0 i; place = place i };
}
