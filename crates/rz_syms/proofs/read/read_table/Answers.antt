use Rattle.std.proofs.Common.{◌∙◌, List, ℕ, [], fold, map, ap, ap₂, sym}
use Rattle.rz_elf.specs.Loaded.{ElfFile}
use Rattle.rz_syms.specs.Sections.{section_bytes}
use Rattle.rz_syms.specs.Symbols.{function_at, functions_among, symbols_in, with_function}
use Rattle.rz_syms.specs.Fault.{name_fault}
use Rattle.rz_syms.proofs.FaultLaws.{fault_of_names, functions_of_table}
use Rattle.rz_syms.proofs.read.read_table.Goals as goal

pub returns-in-Some-clause-fault : goal.returns-in-Some-clause-fault
returns-in-Some-clause-fault c =
    let x : List ℕ = c.args.elf.now.bytes in
    let t = c.args.table.now in
    let same = c.as_slice-file.ensures.value ∙ ap (λ (e : ElfFile). e.bytes) c.elf.view_is in
    let symbols = c.bytes_of-symbols.ensures ∙ ap (λ y. section_bytes y t.symbols) same in
    let strings = c.bytes_of-strings.ensures ∙ ap (λ y. section_bytes y t.strings) same in
    fault_of_names x t c.requires.sound c.requires.table ∙ ap₂ (λ s b. name_fault s 0 (symbols_in b)) (sym strings) (sym symbols) ∙ sym c.in-Some.ensures

pub returns-clause-sound : goal.returns-clause-sound
returns-clause-sound c =
    let x : List ℕ = c.args.elf.now.bytes in
    let t = c.args.table.now in
    let same = c.as_slice-file.ensures.value ∙ ap (λ (e : ElfFile). e.bytes) c.elf.view_is in
    let symbols = c.bytes_of-symbols.ensures ∙ ap (λ y. section_bytes y t.symbols) same in
    let strings = c.bytes_of-strings.ensures ∙ ap (λ y. section_bytes y t.strings) same in
    fault_of_names x t c.requires.sound c.requires.table ∙ ap₂ (λ s b. name_fault s 0 (symbols_in b)) (sym strings) (sym symbols) ∙ sym c.in_default.ensures

pub returns-clause-value : goal.returns-clause-value
returns-clause-value c =
    let x : List ℕ = c.args.elf.now.bytes in
    let t = c.args.table.now in
    let same = c.as_slice-file.ensures.value ∙ ap (λ (e : ElfFile). e.bytes) c.elf.view_is in
    let symbols = c.bytes_of-symbols.ensures ∙ ap (λ y. section_bytes y t.symbols) same in
    let strings = c.bytes_of-strings.ensures ∙ ap (λ y. section_bytes y t.strings) same in
    c.in_ok-functions_at.ensures
    ∙ ap (λ ps. fold with_function [] (map (function_at c.bytes_of-strings.result.now) ps)) (c.as_slice.ensures.value ∙ c.in_ok-places.ensures.value)
    ∙ ap₂ (λ s b. functions_among c.args.elf.now.loads s (symbols_in b)) strings symbols
    ∙ sym (functions_of_table c.args.elf.now t c.requires.table)
