use Rattle.std.proofs.Common.{◌≡◌, ℕ, List, ◌++◌, ap, ◌∙◌, append_assoc}
use Rattle.rz_elf.specs.declared.segment.Segment.{Segment}
use Rattle.rz_elf.specs.WrittenFile.{segment_bytes}
use Rattle.rz_gen.specs.Code.{filling}
use Rattle.rz_gen.specs.Generated.{code_segment, header_bytes, header_page}
use Rattle.rz_gen.proofs.headers.push_header_page.Goals as goal

-- the file header, the program header and the zeros, one after the other
page_of : (old first second end : List ℕ) (segment : Segment) (size : ℕ) → first ≡ old ++ header_bytes → segment ≡ code_segment size → second ≡ first ++ segment_bytes segment → end ≡ second ++ filling 0 3976 → end ≡ old ++ header_page size
unfolding header_page
page_of old first second end segment size a b c d =
    let zeros = filling 0 3976 in
    let load = segment_bytes (code_segment size) in
    d
    ∙ ap (λ l. l ++ zeros) (c ∙ ap (λ (s : Segment). first ++ segment_bytes s) b)
    ∙ append_assoc first load zeros
    ∙ ap (λ l. l ++ (load ++ zeros)) a
    ∙ append_assoc old header_bytes (load ++ zeros)

pub returns : goal.returns
returns c =
    page_of _ _ _ _ c.code_segment.result c.args.size c.in_ok-push_file_header.ensures c.code_segment.ensures c.in_ok-push.ensures c.in_ok-push_filling.ensures
