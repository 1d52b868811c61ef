-- Worked operations, computed from the definitions.
use Rattle.std.proofs.Common.{◌≡◌, refl, true, false, negsuc}
use Rattle.rv64_alu.specs.declared.alu.AluOp.TheVariants.{Add, Sub, Sll, Slt, Sltu, Xor, Srl, Sra, Or, And, Mul, Mulh, Mulhsu, Mulhu, Div, Divu, Rem, Remu, Word}
use Rattle.rv64_alu.specs.declared.word.WordOp.TheVariants as words
use Rattle.rv64_alu.specs.declared.comparison.Comparison.TheVariants.{Eq, Ne, Lt, Ge, Ltu, Geu}
use Rattle.rv64_alu.specs.declared.load.LoadKind.TheVariants.{Lb, Lh, Lw, Ld, Lbu, Lhu, Lwu}
use Rattle.rv64_alu.specs.Table.{computed}
use Rattle.rv64_alu.specs.Comparisons.{is_taken}
use Rattle.rv64_alu.specs.Loads.{loaded}
use Rattle.rv64_alu.specs.Immediates.{auipc, immediate, lui}

-- ---- sums and differences wrap

wrapped-sum : computed Add 0xffffffffffffffff 2 ≡ 1
wrapped-sum = refl

wrapped-difference : computed Sub 1 2 ≡ 0xffffffffffffffff
wrapped-difference = refl

word-sum : computed (Word words.Add) 0x7fffffff 1 ≡ 0xffffffff80000000
word-sum = refl

word-sum-takes_low_halves : computed (Word words.Add) 0x100000003 0x500000004 ≡ 7
word-sum-takes_low_halves = refl

word-difference : computed (Word words.Sub) 0 1 ≡ 0xffffffffffffffff
word-difference = refl

-- ---- -1 is below 1 as a signed number alone

signed-below : computed Slt 0xffffffffffffffff 1 ≡ 1
signed-below = refl

signed-not_below : computed Slt 1 0xffffffffffffffff ≡ 0
signed-not_below = refl

unsigned-not_below : computed Sltu 0xffffffffffffffff 1 ≡ 0
unsigned-not_below = refl

unsigned-below : computed Sltu 1 0xffffffffffffffff ≡ 1
unsigned-below = refl

-- ---- the low 6 bits of a shift count, and 5 at a word

by_33 : computed Sll 1 0x21 ≡ 0x200000000
by_33 = refl

by_65 : computed Sll 3 0x41 ≡ 6
by_65 = refl

by_top : computed Sll 1 0x3f ≡ 0x8000000000000000
by_top = refl

right_by_63 : computed Srl 0xffffffffffffffff 0x3f ≡ 1
right_by_63 = refl

right_by_64 : computed Srl 0xffffffffffffffff 0x40 ≡ 0xffffffffffffffff
right_by_64 = refl

signed_right_by_63 : computed Sra 0x8000000000000000 0x3f ≡ 0xffffffffffffffff
signed_right_by_63 = refl

signed_right_by_4 : computed Sra 0x8000000000000010 4 ≡ 0xf800000000000001
signed_right_by_4 = refl

signed_right_of_positive : computed Sra 0x7fffffffffffffff 0x3e ≡ 1
signed_right_of_positive = refl

word_by_31 : computed (Word words.Sll) 1 0x1f ≡ 0xffffffff80000000
word_by_31 = refl

word_by_33 : computed (Word words.Sll) 3 0x21 ≡ 6
word_by_33 = refl

word_right : computed (Word words.Srl) 0xffffffff80000000 4 ≡ 0x8000000
word_right = refl

word_signed_right : computed (Word words.Sra) 0x80000000 4 ≡ 0xfffffffff8000000
word_signed_right = refl

word_signed_right_of_positive : computed (Word words.Sra) 0x8000000040000000 4 ≡ 0x4000000
word_signed_right_of_positive = refl

word_signed_right_by_32 : computed (Word words.Sra) 0x80000000 0x20 ≡ 0xffffffff80000000
word_signed_right_by_32 = refl

-- ---- bits

exclusive : computed Xor 0xf0 0x3c ≡ 0xcc
exclusive = refl

joined : computed Or 0xf0 0x3c ≡ 0xfc
joined = refl

common : computed And 0xf0 0x3c ≡ 0x30
common = refl

-- ---- products

low_product : computed Mul 0xffffffffffffffff 3 ≡ 0xfffffffffffffffd
low_product = refl

high_signed : computed Mulh 0xffffffffffffffff 0xffffffffffffffff ≡ 0
high_signed = refl

high_signed_of_least : computed Mulh 0x8000000000000000 0x8000000000000000 ≡ 0x4000000000000000
high_signed_of_least = refl

high_signed_mixed_signs : computed Mulh 0xffffffffffffffff 2 ≡ 0xffffffffffffffff
high_signed_mixed_signs = refl

high_mixed : computed Mulhsu 0xffffffffffffffff 0xffffffffffffffff ≡ 0xffffffffffffffff
high_mixed = refl

high_mixed_of_positive : computed Mulhsu 2 0xffffffffffffffff ≡ 1
high_mixed_of_positive = refl

high_unsigned : computed Mulhu 0xffffffffffffffff 0xffffffffffffffff ≡ 0xfffffffffffffffe
high_unsigned = refl

word_product : computed (Word words.Mul) 0xffff0001 0x10001 ≡ 1
word_product = refl

-- ---- quotients and remainders round towards zero

quotient : computed Div 0xfffffffffffffff9 2 ≡ 0xfffffffffffffffd
quotient = refl

quotient_by_negative : computed Div 7 0xfffffffffffffffe ≡ 0xfffffffffffffffd
quotient_by_negative = refl

remainder : computed Rem 0xfffffffffffffff9 2 ≡ 0xffffffffffffffff
remainder = refl

remainder_by_negative : computed Rem 7 0xfffffffffffffffe ≡ 1
remainder_by_negative = refl

unsigned_quotient : computed Divu 0xfffffffffffffff9 2 ≡ 0x7ffffffffffffffc
unsigned_quotient = refl

unsigned_remainder : computed Remu 0xfffffffffffffff9 0x10 ≡ 9
unsigned_remainder = refl

word_quotient : computed (Word words.Div) 0xfffffffffffffff9 2 ≡ 0xfffffffffffffffd
word_quotient = refl

word_remainder : computed (Word words.Rem) 0xfffffffffffffff9 2 ≡ 0xffffffffffffffff
word_remainder = refl

word_unsigned_quotient : computed (Word words.Divu) 0xffffffff 1 ≡ 0xffffffffffffffff
word_unsigned_quotient = refl

word_unsigned_remainder : computed (Word words.Remu) 0xfffffffe 0xffffffff ≡ 0xfffffffffffffffe
word_unsigned_remainder = refl

-- ---- division by 0 (table 7.1)

quotient_by_0 : computed Div 5 0 ≡ 0xffffffffffffffff
quotient_by_0 = refl

unsigned_quotient_by_0 : computed Divu 5 0 ≡ 0xffffffffffffffff
unsigned_quotient_by_0 = refl

remainder_by_0 : computed Rem 0xfffffffffffffffb 0 ≡ 0xfffffffffffffffb
remainder_by_0 = refl

unsigned_remainder_by_0 : computed Remu 5 0 ≡ 5
unsigned_remainder_by_0 = refl

word_quotient_by_0 : computed (Word words.Div) 5 0x100000000 ≡ 0xffffffffffffffff
word_quotient_by_0 = refl

word_unsigned_quotient_by_0 : computed (Word words.Divu) 5 0 ≡ 0xffffffffffffffff
word_unsigned_quotient_by_0 = refl

word_remainder_by_0 : computed (Word words.Rem) 0x80000005 0 ≡ 0xffffffff80000005
word_remainder_by_0 = refl

word_unsigned_remainder_by_0 : computed (Word words.Remu) 0x80000005 0 ≡ 0xffffffff80000005
word_unsigned_remainder_by_0 = refl

-- ---- the smallest number by -1 (table 7.1)

quotient-wraps : computed Div 0x8000000000000000 0xffffffffffffffff ≡ 0x8000000000000000
quotient-wraps = refl

remainder-of_wrapped : computed Rem 0x8000000000000000 0xffffffffffffffff ≡ 0
remainder-of_wrapped = refl

word_quotient-wraps : computed (Word words.Div) 0x80000000 0xffffffff ≡ 0xffffffff80000000
word_quotient-wraps = refl

word_remainder-of_wrapped : computed (Word words.Rem) 0x80000000 0xffffffff ≡ 0
word_remainder-of_wrapped = refl

-- ---- branches

equal : is_taken Eq 5 5 ≡ true
equal = refl

not_equal : is_taken Ne 5 5 ≡ false
not_equal = refl

branch_signed : is_taken Lt 0xffffffffffffffff 0 ≡ true
branch_signed = refl

branch_signed_least : is_taken Ge 0x8000000000000000 0 ≡ false
branch_signed_least = refl

branch_signed_same : is_taken Ge 0xffffffffffffffff 0xffffffffffffffff ≡ true
branch_signed_same = refl

branch_unsigned : is_taken Ltu 0xffffffffffffffff 0 ≡ false
branch_unsigned = refl

branch_unsigned_least : is_taken Geu 0x8000000000000000 0 ≡ true
branch_unsigned_least = refl

-- ---- loads

load-byte : loaded Lb 0x1000 0x8877665544332291 ≡ 0xffffffffffffff91
load-byte = refl

load-unsigned_byte : loaded Lbu 0x1000 0x8877665544332291 ≡ 0x91
load-unsigned_byte = refl

load-byte_at_3 : loaded Lb 0x1003 0x8877665544332291 ≡ 0x44
load-byte_at_3 = refl

load-last_byte : loaded Lb 0x1007 0x8877665544332291 ≡ 0xffffffffffffff88
load-last_byte = refl

load-half : loaded Lh 0x1006 0x8877665544332291 ≡ 0xffffffffffff8877
load-half = refl

load-unsigned_half : loaded Lhu 0x1006 0x8877665544332291 ≡ 0x8877
load-unsigned_half = refl

load-half_at_2 : loaded Lh 0x1002 0x8877665544332291 ≡ 0x4433
load-half_at_2 = refl

load-word : loaded Lw 0x1004 0x8877665544332291 ≡ 0xffffffff88776655
load-word = refl

load-unsigned_word : loaded Lwu 0x1004 0x8877665544332291 ≡ 0x88776655
load-unsigned_word = refl

load-low_word : loaded Lw 0x1000 0x8877665544332291 ≡ 0x44332291
load-low_word = refl

load-double : loaded Ld 0x1000 0x8877665544332291 ≡ 0x8877665544332291
load-double = refl

-- ---- immediates

negative-immediate : immediate (negsuc 0) ≡ 0xffffffffffffffff
negative-immediate = refl

low-upper : lui 0x12345 ≡ 0x12345000
low-upper = refl

high-upper : lui 0x80000 ≡ 0xffffffff80000000
high-upper = refl

relative-upper : auipc 0x80000010 0xfffff ≡ 0x7ffff010
relative-upper = refl
