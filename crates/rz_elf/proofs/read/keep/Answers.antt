use Rattle.std.proofs.Common.{◌≡◌, ℕ, List, map, ap, sym, subst, ◌∙◌}
use Rattle.std.specs.List.{AllByRecursion}
use Rattle.rz_num.specs.Page.{page_up}
use Rattle.rz_elf.specs.Elf.{Placed, highest_end}
use Rattle.rz_elf.specs.Loaded.{IsLow, load_of, elf_of, loaded}
use Rattle.rz_elf.specs.Laws.Reading.{low_load_headers, first_break_of, loaded-elf_of}
use Rattle.rz_elf.proofs.read.keep.Goals as goal

pub highest_end-requires : goal.highest_end-requires
highest_end-requires c = subst (AllByRecursion IsLow) (sym c.requires.loads) (low_load_headers c.args.bytes c.requires.accepted)

pub invariant_of-result : goal.invariant_of-result
invariant_of-result c =
    let x : List ℕ = c.args.bytes in
    let kept : c.in_ok-loads.loads ≡ (elf_of x).loads = c.in_ok-loads.ensures ∙ ap (map load_of) c.requires.loads in
    let top : c.page_up-first_break.result ≡ (elf_of x).first_break = c.page_up-first_break.ensures ∙ ap page_up (c.highest_end.ensures.value ∙ ap (λ l. highest_end (map (λ (p : Placed). p.segment) l)) c.requires.loads) ∙ first_break_of x in
    record { accepted = c.requires.accepted; read = λ i. record { bytes = x; loads = kept i; entry = c.requires.entry i; first_break = top i } }

pub returns-clause-elf : goal.returns-clause-elf
returns-clause-elf c =
    let x : List ℕ = c.args.bytes in
    let kept : c.in_ok-loads.loads ≡ (elf_of x).loads = c.in_ok-loads.ensures ∙ ap (map load_of) c.requires.loads in
    let top : c.page_up-first_break.result ≡ (elf_of x).first_break = c.page_up-first_break.ensures ∙ ap page_up (c.highest_end.ensures.value ∙ ap (λ l. highest_end (map (λ (p : Placed). p.segment) l)) c.requires.loads) ∙ first_break_of x in
    λ i. record { bytes = x; loads = kept i; entry = c.requires.entry i; first_break = top i }

pub returns-clause-image : goal.returns-clause-image
returns-clause-image c =
    let x : List ℕ = c.args.bytes in
    let kept : c.in_ok-loads.loads ≡ (elf_of x).loads = c.in_ok-loads.ensures ∙ ap (map load_of) c.requires.loads in
    let top : c.page_up-first_break.result ≡ (elf_of x).first_break = c.page_up-first_break.ensures ∙ ap page_up (c.highest_end.ensures.value ∙ ap (λ l. highest_end (map (λ (p : Placed). p.segment) l)) c.requires.loads) ∙ first_break_of x in
    let same : (record { bytes = x; loads = c.in_ok-loads.loads; entry = c.args.entry; first_break = c.page_up-first_break.result }) ≡ elf_of x = λ i. record { bytes = x; loads = kept i; entry = c.requires.entry i; first_break = top i } in
    ap loaded same ∙ loaded-elf_of x
