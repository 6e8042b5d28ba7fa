-- The lengths of the parts of a generated file.
use Rattle.std.proofs.Common.{◌≡◌, ℕ, zero, suc, ◌+◌, ◌-◌, ◌*◌, List, ◌++◌, length, refl, arith}
use Rattle.std.proofs.lemmas.List.{length-append, length-replicate}
use Rattle.rz_elf.specs.WrittenFile.{segment_bytes}
use Rattle.rz_gen.specs.Places.{head_length, head_size}
use Rattle.rz_gen.specs.Code.{each_below, filling, call, table_calls, head, function, function_adding, table_word, code}
use Rattle.rz_gen.specs.Generated.{code_segment, header_page, generated}

length-each_below : (piece : ℕ → List ℕ) (size n : ℕ) → ((j : ℕ) → length (piece j) ≡ size) → length (each_below piece n) ≡ size * n
unfolding each_below
length-each_below piece size zero each = omega arith
length-each_below piece size (suc n) each =
    let ih = length-each_below piece size n each in
    let a = length-append (each_below piece n) (piece n) in
    let b = each n in
    omega arith

length-filling : (byte count : ℕ) → length (filling byte count) ≡ count
unfolding filling
length-filling byte count = length-replicate count byte

length-call : (n j : ℕ) → length (call n j) ≡ 5
unfolding call
length-call n j = refl

length-table_calls : (n : ℕ) → length (table_calls n) ≡ 29
unfolding table_calls
length-table_calls n = refl

length-function : (j : ℕ) → length (function j) ≡ 16
unfolding function_adding
length-function j = refl

length-table_word : (n j : ℕ) → length (table_word n j) ≡ 8
unfolding table_word
length-table_word n j = refl

length-head : (n : ℕ) → length (head n) ≡ head_size n
unfolding head
length-head n =
    let fill = filling 0xcc (head_size n - head_length n) in
    let a = length-append (each_below (call n) n) (table_calls n ++ fill) in
    let b = length-append (table_calls n) fill in
    let c = length-each_below (call n) 5 n (length-call n) in
    let d = length-table_calls n in
    let e = length-filling 0xcc (head_size n - head_length n) in
    omega arith

-- the code of so many functions
pub length-code : (n : ℕ) → length (code n) ≡ head_size n + 24 * n
unfolding code
length-code n =
    let a = length-append (head n) (each_below function n ++ each_below (table_word n) n) in
    let b = length-append (each_below function n) (each_below (table_word n) n) in
    let c = length-head n in
    let d = length-each_below function 16 n length-function in
    let e = length-each_below (table_word n) 8 n (length-table_word n) in
    omega arith

length-header_page : (size : ℕ) → length (header_page size) ≡ 4096
unfolding header_page
length-header_page size =
    let a = length-append (segment_bytes (code_segment size)) (filling 0 3976) in
    let b = length-filling 0 3976 in
    omega arith

-- a page, and the code
pub length-generated : (n : ℕ) → length (generated n) ≡ 4096 + length (code n)
unfolding generated
length-generated n =
    let a = length-append (header_page (length (code n))) (code n) in
    let b = length-header_page (length (code n)) in
    omega arith
