-- Guests are identified by their words: what the words tell is read back.
use Rattle.std.proofs.Common.{◌≡◌, ℕ, zero, suc, ◌+◌, ◌*◌, ◌/◌, ◌%◌, ◌<◌, ◌==◌, Bool, true, false, if◌then◌else◌, List, [], ◌∷◌, ◌++◌, Option, Some, None, refl, sym, ap, ◌∙◌, append-nil, arith, is_some, unwrap_or, replicate}
use Rattle.std.proofs.lemmas.Bool.{eqb-true}
use Rattle.asm_guests.specs.declared.csrs.GuestCsrs.{GuestCsrs}
use Rattle.asm_guests.specs.declared.guest.AsmGuest.{AsmGuest}
use Rattle.asm_guests.specs.declared.guest.AsmGuest.TheVariants.{Nowhere, Before, Trapping, Through, Astray}
use Rattle.asm_guests.specs.declared.guest.Lost.{Lost}
use Rattle.asm_guests.specs.declared.guest.Lost.TheVariants.{NoInstruction, Endless, NoHandler, UserMode}
use Rattle.asm_guests.specs.declared.state.RegisterContent.{RegisterContent}
use Rattle.asm_guests.specs.declared.state.GuestState.{GuestState}
use Rattle.asm_guests.specs.States.{unknown}
use Rattle.asm_guests.specs.Words.{csr_words, flag, guest_words, kind, lost_number, register_words, guest_state_words}

-- ---- registers

-- the register of a kind and a value
abbrev content_by : (kind value : ℕ) → RegisterContent
content_by kind value = record { value = value; is_known = kind == 1 }

unknown_small : (is_zero : Bool) → (if is_zero then 0 else 2) < 3
unknown_small true = omega arith
unknown_small false = omega arith

small_by : (value : ℕ) (is_known : Bool) → kind (record { value = value; is_known = is_known }) < 3
small_by value true = omega arith
small_by value false = unknown_small (value == 0)

blank_unknown : (value : ℕ) (is_zero : Bool) → (value == 0) ≡ is_zero → ((if is_zero then 0 else 2) == 0) ≡ true
    → record { value = value; is_known = false } ≡ unknown
blank_unknown value true none is = let e : value ≡ 0 = eqb-true value 0 none in λ i. record { value = e i; is_known = false }
blank_unknown value false none is = absurd (let t = is in cc)

blank_by : (value : ℕ) (is_known : Bool) → (kind (record { value = value; is_known = is_known }) == 0) ≡ true
    → record { value = value; is_known = is_known } ≡ unknown
blank_by value true is = absurd (let t = is in cc)
blank_by value false is = blank_unknown value (value == 0) refl is

same_unknown : (value : ℕ) (is_zero : Bool) → ((if is_zero then 0 else 2) == 0) ≡ false
    → content_by (if is_zero then 0 else 2) value ≡ record { value = value; is_known = false }
same_unknown value true is = absurd (let t = is in cc)
same_unknown value false is = refl

same_by : (value : ℕ) (is_known : Bool) → (kind (record { value = value; is_known = is_known }) == 0) ≡ false
    → content_by (kind (record { value = value; is_known = is_known })) value ≡ record { value = value; is_known = is_known }
same_by value true is = refl
same_by value false is = same_unknown value (value == 0) is

-- what words say of registers, and the words behind these
abbrev joined : List RegisterContent → RegisterContent → List RegisterContent × List ℕ → List RegisterContent × List ℕ
joined blanks content more = (blanks ++ content ∷ more.0, more.1)

abbrev read_by : (left kind value : ℕ) → (rest : List ℕ) → List RegisterContent × List ℕ → List RegisterContent × List ℕ
read_by skipped kind value rest more =
    if kind == 0 then (replicate skipped unknown, value ∷ rest) else joined (replicate skipped unknown) (content_by kind value) more

abbrev read : List ℕ → List RegisterContent × List ℕ
read [] = ([], [])
read (word ∷ []) = (replicate (word / 3) unknown, [])
read (word ∷ value ∷ rest) = read_by (word / 3) (word % 3) value rest (read rest)

thirds : (skipped kind : ℕ) → kind < 3 → ((3 * skipped + kind) / 3 ≡ skipped) × ((3 * skipped + kind) % 3 ≡ kind)
thirds skipped kind small = (omega arith, omega arith)

blanks_end : (skipped : ℕ) → replicate (3 * skipped / 3) unknown ≡ replicate skipped unknown ++ []
blanks_end skipped =
    let e : 3 * skipped / 3 ≡ skipped = omega arith in
    ap (λ (n : ℕ). replicate n unknown) e ∙ sym (append-nil (replicate skipped unknown))

blanks_more : (n : ℕ) (a : List RegisterContent) → replicate (suc n) unknown ++ a ≡ replicate n unknown ++ unknown ∷ a
blanks_more zero a = refl
blanks_more (suc n) a = ap (λ (rest : List RegisterContent). unknown ∷ rest) (blanks_more n a)

ended : (skipped : ℕ) (rest : List ℕ) → read ((3 * skipped) ∷ rest) ≡ (replicate skipped unknown ++ [], rest)
ended skipped [] = λ i. (blanks_end skipped i, [])
ended skipped (value ∷ rest) =
    let e : 3 * skipped % 3 ≡ 0 = omega arith in
    ap (λ (kind : ℕ). read_by (3 * skipped / 3) kind value rest (read rest)) e ∙ (λ i. (blanks_end skipped i, value ∷ rest))

back_by : (skipped : ℕ) (content : RegisterContent) (more : List RegisterContent) (rest : List ℕ)
    → ((n : ℕ) → read (register_words n more ++ rest) ≡ (replicate n unknown ++ more, rest))
    → (is_blank : Bool) → (kind content == 0) ≡ is_blank
    → read ((if is_blank then register_words (suc skipped) more else (3 * skipped + kind content) ∷ content.value ∷ register_words 0 more) ++ rest)
    ≡ (replicate skipped unknown ++ content ∷ more, rest)
back_by skipped content more rest later true is =
    let blank : content ≡ unknown = blank_by content.value content.is_known is in
    let e : replicate (suc skipped) unknown ++ more ≡ replicate skipped unknown ++ content ∷ more =
    blanks_more skipped more ∙ ap (λ (c : RegisterContent). replicate skipped unknown ++ c ∷ more) (sym blank) in
    later (suc skipped) ∙ (λ i. (e i, rest))
back_by skipped content more rest later false is =
    let parts = thirds skipped (kind content) (small_by content.value content.is_known) in
    let same : content_by (kind content) content.value ≡ content = same_by content.value content.is_known is in
    let behind : List ℕ = register_words 0 more ++ rest in
    ap (λ (n : ℕ). read_by ((3 * skipped + kind content) / 3) n content.value behind (read behind)) parts.1
    ∙ ap (λ (n : ℕ). read_by n (kind content) content.value behind (read behind)) parts.0
    ∙ ap (λ (is_blank : Bool). if is_blank then (replicate skipped unknown, content.value ∷ behind) else joined (replicate skipped unknown) (content_by (kind content) content.value) (read behind)) is
    ∙ (λ i. joined (replicate skipped unknown) (same i) (later 0 i))

back : (skipped : ℕ) (registers : List RegisterContent) (rest : List ℕ)
    → read (register_words skipped registers ++ rest) ≡ (replicate skipped unknown ++ registers, rest)
back skipped [] rest = ended skipped rest
back skipped (content ∷ more) rest =
    back_by skipped content more rest (λ n. back n more rest) (kind content == 0) refl

registers-told : (a b : List RegisterContent) (front behind : List ℕ) → register_words 0 a ++ front ≡ register_words 0 b ++ behind
    → (a ≡ b) × (front ≡ behind)
registers-told a b front behind same =
    let e = sym (back 0 a front) ∙ ap read same ∙ back 0 b behind in
    (ap (λ (pair : List RegisterContent × List ℕ). pair.0) e, ap (λ (pair : List RegisterContent × List ℕ). pair.1) e)

-- ---- CSRs

flag-told : (a b : Bool) → flag a ≡ flag b → a ≡ b
flag-told true true same = refl
flag-told true false same = absurd cc
flag-told false true same = absurd cc
flag-told false false same = refl

option-told : (a b : Option ℕ) → flag (is_some a) ≡ flag (is_some b) → unwrap_or a 0 ≡ unwrap_or b 0 → a ≡ b
option-told None None flags values = refl
option-told None (Some m) flags values = absurd cc
option-told (Some n) None flags values = absurd cc
option-told (Some n) (Some m) flags values = ap Some values

csrs-told : (a b : GuestCsrs) (front behind : List ℕ) → csr_words a ++ front ≡ csr_words b ++ behind → (a ≡ b) × (front ≡ behind)
csrs-told a b front behind same =
    let flag0 : flag a.interrupts ≡ flag b.interrupts = cc in
    let flag1 : flag a.interrupts_before ≡ flag b.interrupts_before = cc in
    let flag2 : flag a.from_supervisor ≡ flag b.from_supervisor = cc in
    let flag3 : flag (is_some a.stvec) ≡ flag (is_some b.stvec) = cc in
    let value3 : unwrap_or a.stvec 0 ≡ unwrap_or b.stvec 0 = cc in
    let interrupts : a.interrupts ≡ b.interrupts = flag-told a.interrupts b.interrupts flag0 in
    let before : a.interrupts_before ≡ b.interrupts_before = flag-told a.interrupts_before b.interrupts_before flag1 in
    let mode : a.from_supervisor ≡ b.from_supervisor = flag-told a.from_supervisor b.from_supervisor flag2 in
    let stvec : a.stvec ≡ b.stvec = option-told a.stvec b.stvec flag3 value3 in
    let satp : a.satp ≡ b.satp = cc in
    let sie : a.sie ≡ b.sie = cc in
    let sepc : a.sepc ≡ b.sepc = cc in
    let scause : a.scause ≡ b.scause = cc in
    let stval : a.stval ≡ b.stval = cc in
    let sscratch : a.sscratch ≡ b.sscratch = cc in
    let rest : front ≡ behind = cc in (
      (λ i. record {
        satp = satp i;
        sie = sie i;
        interrupts = interrupts i;
        interrupts_before = before i;
        from_supervisor = mode i;
        stvec = stvec i;
        sepc = sepc i;
        scause = scause i;
        stval = stval i;
        sscratch = sscratch i;
      }),
      rest,
    )

-- ---- guests

state-told : (a b : GuestState) (front behind : List ℕ) → guest_state_words a ++ front ≡ guest_state_words b ++ behind → (a ≡ b) × (front ≡ behind)
state-told a b front behind same =
    let pc : a.pc ≡ b.pc = cc in
    let words : csr_words a.csrs ++ (register_words 0 a.registers ++ front) ≡ csr_words b.csrs ++ (register_words 0 b.registers ++ behind) = cc in
    let csrs = csrs-told a.csrs b.csrs (register_words 0 a.registers ++ front) (register_words 0 b.registers ++ behind) words in
    let registers = registers-told a.registers b.registers front behind csrs.1 in
    ((λ i. record { pc = pc i; registers = registers.0 i; csrs = csrs.0 i }), registers.1)

lost-told : (a b : Lost) → lost_number a ≡ lost_number b → a ≡ b
lost-told NoInstruction NoInstruction same = refl
lost-told NoInstruction Endless same = absurd cc
lost-told NoInstruction NoHandler same = absurd cc
lost-told NoInstruction UserMode same = absurd cc
lost-told Endless NoInstruction same = absurd cc
lost-told Endless Endless same = refl
lost-told Endless NoHandler same = absurd cc
lost-told Endless UserMode same = absurd cc
lost-told NoHandler NoInstruction same = absurd cc
lost-told NoHandler Endless same = absurd cc
lost-told NoHandler NoHandler same = refl
lost-told NoHandler UserMode same = absurd cc
lost-told UserMode NoInstruction same = absurd cc
lost-told UserMode Endless same = absurd cc
lost-told UserMode NoHandler same = absurd cc
lost-told UserMode UserMode same = refl

pub guest-told : (a b : AsmGuest) (front behind : List ℕ) → guest_words a ++ front ≡ guest_words b ++ behind → (a ≡ b) × (front ≡ behind)
guest-told Nowhere Nowhere front behind same = (refl, cc)
guest-told Nowhere (Through r) front behind same = absurd cc
guest-told Nowhere (Before t) front behind same = absurd cc
guest-told Nowhere (Trapping t) front behind same = absurd cc
guest-told Nowhere (Astray lost at) front behind same = absurd cc
guest-told (Through r) Nowhere front behind same = absurd cc
guest-told (Through r) (Through q) front behind same =
    let words : register_words 0 r ++ front ≡ register_words 0 q ++ behind = cc in
    let told = registers-told r q front behind words in
    (ap Through told.0, told.1)
guest-told (Through r) (Before t) front behind same = absurd cc
guest-told (Through r) (Trapping t) front behind same = absurd cc
guest-told (Through r) (Astray lost at) front behind same = absurd cc
guest-told (Before s) Nowhere front behind same = absurd cc
guest-told (Before s) (Through r) front behind same = absurd cc
guest-told (Before s) (Before t) front behind same =
    let words : guest_state_words s ++ front ≡ guest_state_words t ++ behind = cc in
    let told = state-told s t front behind words in
    (ap Before told.0, told.1)
guest-told (Before s) (Trapping t) front behind same = absurd cc
guest-told (Before s) (Astray lost at) front behind same = absurd cc
guest-told (Trapping s) Nowhere front behind same = absurd cc
guest-told (Trapping s) (Through r) front behind same = absurd cc
guest-told (Trapping s) (Before t) front behind same = absurd cc
guest-told (Trapping s) (Trapping t) front behind same =
    let words : guest_state_words s ++ front ≡ guest_state_words t ++ behind = cc in
    let told = state-told s t front behind words in
    (ap Trapping told.0, told.1)
guest-told (Trapping s) (Astray lost at) front behind same = absurd cc
guest-told (Astray lost at) Nowhere front behind same = absurd cc
guest-told (Astray lost at) (Through r) front behind same = absurd cc
guest-told (Astray lost at) (Before t) front behind same = absurd cc
guest-told (Astray lost at) (Trapping t) front behind same = absurd cc
guest-told (Astray lost at) (Astray other to) front behind same =
    let numbers : lost_number lost ≡ lost_number other = cc in
    let losts : lost ≡ other = lost-told lost other numbers in
    let ats : at ≡ to = cc in
    ((λ i. Astray (losts i) (ats i)), cc)
