use Rattle.std.proofs.Common.{◌≡◌, ◌+◌, ◌*◌, ◌≤◌, ℕ, List, length, map, filter, Some, None, ap, ap₂, sym, subst, ◌∙◌}
use Rattle.rz_elf.specs.Elf.{FileHeader, Placed, first_of, fault_of, file_header, file_conditions, header_conditions, load_conditions, placed}
use Rattle.rz_elf.specs.Loaded.{is_load_header}
use Rattle.rz_elf.specs.Laws.Reading.{file_faulty, header_faulty, load_faulty, faultless, table_fits, few_load_headers, load_headers}
use Rattle.rz_elf.proofs.read.read_elf.Goals as goal

pub returns-in-Some-clause-fault : goal.returns-in-Some-clause-fault
returns-in-Some-clause-fault c = file_faulty c.args.bytes c.in-Some.fault (c.in-Some.ensures ∙ ap (λ x. first_of (file_conditions x)) c.as_slice-file.ensures.value)

pub read_placed-requires-clause-inside : goal.read_placed-requires-clause-inside
read_placed-requires-clause-inside c =
    let e = c.read_header-header.ensures in
    subst (λ (h : FileHeader). h.table_at + 56 * h.count ≤ length c.as_slice-file.result.now) (sym e) (table_fits c.as_slice-file.result.now c.in_default.ensures)

pub returns-in-Some-header_fault-clause-fault : goal.returns-in-Some-header_fault-clause-fault
returns-in-Some-header_fault-clause-fault c =
    let x : List ℕ = c.as_slice-file.result.now in
    let f = c.in-Some-header_fault.fault in
    let headers : c.as_slice.result.now ≡ placed x = c.as_slice.ensures.value ∙ c.in_ok-headers.ensures in
    let found = c.in-Some-header_fault.ensures ∙ ap (λ ps. first_of (header_conditions (length x) ps)) headers in
    subst (λ y. fault_of y ≡ Some f) c.as_slice-file.ensures.value (header_faulty x f c.in_default.ensures found)

pub load_fault-requires : goal.load_fault-requires
load_fault-requires c =
    let x : List ℕ = c.as_slice-file.result.now in
    let headers : c.as_slice-2.result.now ≡ placed x = c.as_slice-2.ensures.value ∙ c.in_ok-headers.ensures in
    let loads : c.as_slice-3.result.now ≡ load_headers x = c.as_slice-3.ensures.value ∙ c.in_ok-loads.ensures ∙ ap (filter is_load_header) headers in
    subst (λ (l : List Placed). length l ≤ 64) (sym loads) (few_load_headers x c.in_default.ensures)

pub returns-in-Some-load_fault-clause-fault : goal.returns-in-Some-load_fault-clause-fault
returns-in-Some-load_fault-clause-fault c =
    let x : List ℕ = c.as_slice-file.result.now in
    let f = c.in-Some-load_fault.fault in
    let none = c.in_default-header_fault.ensures ∙ ap (λ ps. first_of (header_conditions (length x) ps)) (c.as_slice.ensures.value ∙ c.in_ok-headers.ensures) in
    let headers : c.as_slice-2.result.now ≡ placed x = c.as_slice-2.ensures.value ∙ c.in_ok-headers.ensures in
    let loads : c.as_slice-3.result.now ≡ load_headers x = c.as_slice-3.ensures.value ∙ c.in_ok-loads.ensures ∙ ap (filter is_load_header) headers in
    let entry : c.read_header-header.result.entry ≡ (file_header x).entry = ap (λ (h : FileHeader). h.entry) c.read_header-header.ensures in
    let found = c.in-Some-load_fault.ensures ∙ ap₂ (λ e l. first_of (load_conditions e (map (λ (p : Placed). p.segment) l))) entry loads in
    subst (λ y. fault_of y ≡ Some f) c.as_slice-file.ensures.value (load_faulty x f c.in_default.ensures none found)

pub keep-requires-clause-accepted : goal.keep-requires-clause-accepted
keep-requires-clause-accepted c =
    let x : List ℕ = c.as_slice-file.result.now in
    let none = c.in_default-header_fault.ensures ∙ ap (λ ps. first_of (header_conditions (length x) ps)) (c.as_slice.ensures.value ∙ c.in_ok-headers.ensures) in
    let headers : c.as_slice-2.result.now ≡ placed x = c.as_slice-2.ensures.value ∙ c.in_ok-headers.ensures in
    let loads : c.as_slice-3.result.now ≡ load_headers x = c.as_slice-3.ensures.value ∙ c.in_ok-loads.ensures ∙ ap (filter is_load_header) headers in
    let entry : c.read_header-header.result.entry ≡ (file_header x).entry = ap (λ (h : FileHeader). h.entry) c.read_header-header.ensures in
    let last = c.in_default-load_fault.ensures ∙ ap₂ (λ e l. first_of (load_conditions e (map (λ (p : Placed). p.segment) l))) entry loads in
    subst (λ y. fault_of y ≡ None) c.as_slice-file.ensures.value (faultless x c.in_default.ensures none last)

pub keep-requires-clause-entry : goal.keep-requires-clause-entry
keep-requires-clause-entry c =
    ap (λ (h : FileHeader). h.entry) c.read_header-header.ensures ∙ ap (λ y. (file_header y).entry) c.as_slice-file.ensures.value

pub keep-requires-clause-loads : goal.keep-requires-clause-loads
keep-requires-clause-loads c =
    let headers = c.as_slice-2.ensures.value ∙ c.in_ok-headers.ensures in
    c.as_slice-4.ensures.value ∙ c.in_ok-loads.ensures ∙ ap (filter is_load_header) headers ∙ ap load_headers c.as_slice-file.ensures.value
