use Rattle.std.proofs.Common.{◌≡◌, ℕ, ◌+◌, ◌-◌, ◌*◌, List, ◌++◌, length, take, ap, ◌∙◌, append_assoc}
use Rattle.std.specs.Prelude.{flat_map}
use Rattle.std.proofs.lemmas.List.{take_all}
use Rattle.rz_image.specs.Memory.{zeros}
use Rattle.rz_elf.specs.declared.segment.Segment.{Segment}
use Rattle.rz_elf.specs.WrittenFile.{segment_bytes, header_bytes, header_page}
use Rattle.rz_elfw.proofs.header_page.push_header_page.Goals as goal

-- the file header, the program headers and the zeros, one after the other
page_of : (old first out end : List ℕ) (segs taken : List Segment) (entry : ℕ) → first ≡ old ++ header_bytes entry (length segs) → taken ≡ segs → out ≡ first ++ flat_map segment_bytes taken
    → end ≡ out ++ zeros (4096 - (64 + 56 * length segs)) → end ≡ old ++ header_page segs entry
page_of old first out end segs taken entry a b c d =
    let fill = zeros (4096 - (64 + 56 * length segs)) in
    d
    ∙ ap (λ l. l ++ fill) (c ∙ ap (λ (t : List Segment). first ++ flat_map segment_bytes t) b)
    ∙ append_assoc first (flat_map segment_bytes segs) fill
    ∙ ap (λ l. l ++ (flat_map segment_bytes segs ++ fill)) a
    ∙ append_assoc old (header_bytes entry (length segs)) (flat_map segment_bytes segs ++ fill)

pub returns : goal.returns
returns c =
    page_of c.args.out.now.items c.push_file_header.new.out.items c.loop-segment.out.items c.push_zeros.new.out.items c.args.segments.now (take c.loop-segment.segment-index c.args.segments.now) c.args.entry
    c.in_ok-push_file_header.ensures (take_all c.loop-segment.segment-index c.args.segments.now c.loop-segment-test.false) c.loop-segment.invariant c.in_ok-push_zeros.ensures
