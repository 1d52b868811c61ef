-- Worked operations, computed from the definitions.
use Rattle.std.proofs.Common.{◌≡◌, ℕ, refl}
use Rattle.amo.specs.declared.amo.Amo.{Amo}
use Rattle.amo.specs.declared.amo.Amo.TheVariants.{Double, Half, Cas, Store1, Store2, Store4}
use Rattle.amo.specs.declared.function.AmoFunction.TheVariants.{Swap, Add, And, Xor, Min, Max, Minu, Maxu}
use Rattle.amo.specs.Amos.{new_word, old_value}
use Rattle.amo.specs.Parts.{word_at}

-- -1 is below 1 as a signed number, and above it as an unsigned one
signed-min : new_word (Double Min 1) 0x80000000 0xffffffffffffffff ≡ 0xffffffffffffffff
signed-min = refl

signed-max : new_word (Double Max 1) 0x80000000 0xffffffffffffffff ≡ 1
signed-max = refl

unsigned-min : new_word (Double Minu 1) 0x80000000 0xffffffffffffffff ≡ 1
unsigned-min = refl

unsigned-max : new_word (Double Maxu 1) 0x80000000 0xffffffffffffffff ≡ 0xffffffffffffffff
unsigned-max = refl

-- a sum wraps
wrapped : new_word (Double Add 2) 0x80000000 0xffffffffffffffff ≡ 1
wrapped = refl

-- of a half too, and the other half stays
low-half : new_word (Half Add 1) 0x80000000 0x11223344ffffffff ≡ 0x1122334400000000
low-half = refl

high-half : new_word (Half Add 1) 0x80000004 0xffffffff55667788 ≡ 0x55667788
high-half = refl

-- only the low 4 bytes of an operand count
cut : new_word (Half Swap 0xabcd00000007) 0x80000004 0x1122334455667788 ≡ 0x0000000755667788
cut = refl

-- a half is compared by its own sign, and read sign-extended
half-min : new_word (Half Min 1) 0x80000000 0x0000000080000000 ≡ 0x80000000
half-min = refl

extended : old_value (Half Swap 0) 0x80000000 0x0000000080000000 ≡ 0xffffffff80000000
extended = refl

not-extended : old_value (Half Swap 0) 0x80000004 0x7fffffff80000000 ≡ 0x7fffffff
not-extended = refl

-- a compare-and-swap writes only if the word is the expected one
swapped : new_word (Cas 7 9) 0x80000000 7 ≡ 9
swapped = refl

not-swapped : new_word (Cas 8 9) 0x80000000 7 ≡ 7
not-swapped = refl

-- stores of some bytes leave the others
one-byte : new_word (Store1 0x1ab) 0x80000003 0x1122334455667788 ≡ 0x11223344ab667788
one-byte = refl

last-byte : new_word (Store1 0xab) 0x80000007 0x1122334455667788 ≡ 0xab22334455667788
last-byte = refl

two-bytes : new_word (Store2 0x1abcd) 0x80000006 0x1122334455667788 ≡ 0xabcd334455667788
two-bytes = refl

four-bytes : new_word (Store4 0x1aabbccdd) 0x80000004 0x1122334455667788 ≡ 0xaabbccdd55667788
four-bytes = refl

bits : new_word (Double And 0xf0) 0x80000000 0x3c ≡ 0x30
bits = refl

other-bits : new_word (Double Xor 0xf0) 0x80000000 0x3c ≡ 0xcc
other-bits = refl

-- the word around an address
around : word_at 4 0x8000000c ≡ 0x80000008
around = refl

-- an address that isn't aligned stays
misaligned : word_at 4 0x8000000a ≡ 0x8000000a
misaligned = refl
