use Rattle.std.proofs.Common.{◌≡◌, ℕ, ◌-◌, ◌≤◌, List, [], ◌++◌, length, append_assoc, refl, None, ap, subst, ◌∙◌, arith}
use Rattle.rz_num.specs.Page.{page_up}
use Rattle.rz_image.specs.Memory.{zeros}
use Rattle.rz_elf.specs.declared.segment.Segment.{Segment}
use Rattle.rz_elf.specs.Elf.{fault_of, image_of}
use Rattle.rz_elf.specs.Loaded.{ElfFile, IsRead}
use Rattle.rz_elf.specs.WrittenFile.{Parts, header_page, new_segments, written_file}
use Rattle.rz_elf.specs.Laws.Stamp.{written_stamped}
use Rattle.rz_elf.specs.Room.{ArePages, IsInCode, extent_of, no_room, parts_end, parts_size}
use Rattle.rz_elfw.proofs.HeaderBytes.{AreBytes}
use Rattle.rz_elfw.proofs.Writable.{IsWritable, floor_low}
use Rattle.rz_elfw.proofs.NewFile.{written_accepted, written_image}
use Rattle.rz_elfw.proofs.write.write_elf.Goals as goal

-- one append after the other
appended : (page file fill parts o0 o1 o2 o3 o4 : List ℕ) → o0 ≡ [] → o1 ≡ o0 ++ page → o2 ≡ o1 ++ file → o3 ≡ o2 ++ fill → o4 ≡ o3 ++ parts → o4 ≡ page ++ (file ++ (fill ++ parts))
appended page file fill parts o0 o1 o2 o3 o4 e0 e1 e2 e3 e4 = rw (e4, e3, e2, e1, e0) (simp append_assoc)

same_file : (x : List ℕ) (p : Parts) (entry : ℕ) (segs : List Segment) (file : List ℕ) (fill : ℕ) → segs ≡ new_segments x p → file ≡ x → fill ≡ page_up (length x) - length x → header_page segs entry ++ (file ++ (zeros fill ++ (p.tables ++ (p.code ++ p.stubs)))) ≡ written_file x p entry
unfolding written_file
same_file x p entry segs file fill a b d = λ i. header_page (a i) entry ++ (b i ++ (zeros (d i) ++ (p.tables ++ (p.code ++ p.stubs))))

-- the parts end below the lowest load
low_stop : (inside elf : ElfFile) (p : Parts) → inside ≡ elf → IsRead inside → parts_end p ≡ (extent_of elf.bytes).floor → parts_end p ≤ 0x70000000
low_stop inside elf p e is below = let h = floor_low elf.bytes (subst IsRead e is).accepted in omega arith

-- the file of what is read, its parts and an entry
writable : (inside elf : ElfFile) (p : Parts) (entry : ℕ) (file : List ℕ) → inside ≡ elf → IsRead inside → file ≡ elf.bytes → AreBytes file → ArePages p → parts_end p ≡ (extent_of elf.bytes).floor → IsInCode p entry → no_room (extent_of elf.bytes) (parts_size p) ≡ None → IsWritable elf.bytes p entry
writable inside elf p entry file e is same bytes pages below at room = record {
  accepted = (subst IsRead e is).accepted;
  bytes = subst AreBytes same bytes;
  pages = pages;
  below = below;
  inside = at;
  room = room;
}

pub new_segments-requires-clause-low : goal.new_segments-requires-clause-low
new_segments-requires-clause-low c = low_stop _ c.args.elf.now c.args.parts.now c.elf.view_is c.elf.invariant c.requires.below

pub returns : goal.returns
returns c =
    let x : List ℕ = c.args.elf.now.bytes in
    let file = c.as_slice-file.result.now in
    let same : file ≡ x = c.as_slice-file.ensures.value ∙ ap (λ (e : ElfFile). e.bytes) c.elf.view_is in
    let fill : ℕ = c.page_up.result - length file in
    let filled : fill ≡ page_up (length x) - length x = rw (c.page_up.ensures, same) refl in
    let written : c.from_vec.result ≡ written_file x c.args.parts.now c.args.entry =
    c.from_vec.ensures
    ∙ appended (header_page c.as_slice.result.now c.args.entry) file (zeros fill) (c.args.parts.now.tables ++ (c.args.parts.now.code ++ c.args.parts.now.stubs))
    c.in_ok-out.out.items c.push_header_page.new.out.items c.extend_from_slice.new.self.items c.push_zeros.new.out.items c.push_parts.new.out.items
    c.in_ok-out.ensures.items c.in_ok-push_header_page.ensures c.in_ok-extend_from_slice.ensures.items c.in_ok-push_zeros.ensures c.in_ok-push_parts.ensures
    ∙ same_file x c.args.parts.now c.args.entry c.as_slice.result.now file fill (c.as_slice.ensures.value ∙ c.in_ok-segments.ensures) same filled in
    let can = writable _ c.args.elf.now c.args.parts.now c.args.entry c.elf.inside.bytes c.elf.view_is c.elf.invariant (ap (λ (e : ElfFile). e.bytes) c.elf.view_is) c.as_slice-file.ensures.bytes c.requires.pages c.requires.below c.requires.entry c.requires.room in
    let image = ap image_of written ∙ written_image x c.args.parts.now c.args.entry can in
    record {
      file = written;
      accepted = ap fault_of written ∙ written_accepted x c.args.parts.now c.args.entry can;
      stamped = written_stamped c.from_vec.result x c.args.parts.now c.args.entry written image;
      image = image;
    }
