use Rattle.std.proofs.Common.{◌≡◌, ◌≤◌, ◌++◌, List, ℕ, length, ap, ap₂, sym, subst, ◌∙◌}
use Rattle.std.specs.Prelude.{flat_map}
use Rattle.rz_elf.specs.Loaded.{ElfFile, IsRead}
use Rattle.rz_elf.specs.Laws.Reading.{whole_header}
use Rattle.rz_label.specs.Labelled.{label_sections, names_behind, section_bytes, with_sections_at}
use Rattle.rz_label.proofs.LabelLaws.{labelled_joined, short_where_accepted}
use Rattle.rz_label.proofs.label.push_labelled.Goals as goal

pub headers_at-requires : goal.headers_at-requires
headers_at-requires c = subst (λ (y : List ℕ). length y ≤ 67108864) (sym c.as_slice-file.ensures.value) (short_where_accepted c.new.inside.bytes c.new.invariant.accepted)

pub push_with_sections_at-requires : goal.push_with_sections_at-requires
push_with_sections_at-requires c = subst (λ (y : List ℕ). 64 ≤ length y) (sym c.as_slice-file.ensures.value) (whole_header c.new.inside.bytes c.new.invariant.accepted)

pub push_names-requires : goal.push_names-requires
push_names-requires c = subst (λ (y : List ℕ). length y ≤ 67108864) (sym c.as_slice-file.ensures.value) (short_where_accepted c.new.inside.bytes c.new.invariant.accepted)

pub names_at-requires : goal.names_at-requires
names_at-requires c = subst (λ (y : List ℕ). length y ≤ 67108864) (sym c.as_slice-file.ensures.value) (short_where_accepted c.new.inside.bytes c.new.invariant.accepted)

pub returns-clause-bytes : goal.returns-clause-bytes
returns-clause-bytes c =
    let out : List ℕ = c.args.out.now.items in
    let file : List ℕ = c.as_slice-file.result.now in
    let len = length file in
    let first = c.in_ok-push_with_sections_at.ensures ∙ ap (λ at. out ++ with_sections_at file at) c.headers_at.ensures in
    let second = c.in_ok-push_names.ensures ∙ ap (λ (l : List ℕ). l ++ names_behind len) first in
    let third = c.in_ok-push_sections.ensures ∙ ap₂ (λ (l : List ℕ) at. l ++ flat_map section_bytes (label_sections c.as_slice.result.now at)) second c.names_at.ensures in
    let bytes : file ≡ c.args.new.now.bytes = c.as_slice-file.ensures.value ∙ ap (λ (e : ElfFile). e.bytes) c.new.view_is in
    let loads : c.as_slice.result.now ≡ c.args.new.now.loads = c.as_slice.ensures ∙ ap (λ (e : ElfFile). e.loads) c.new.view_is in
    third ∙ labelled_joined out file c.as_slice.result.now c.args.new.now bytes loads

pub returns-clause-read : goal.returns-clause-read
returns-clause-read c = subst IsRead c.new.view_is c.new.invariant
