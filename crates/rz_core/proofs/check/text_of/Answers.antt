use Rattle.std.proofs.Common.{◌≡◌, ℕ, length, map, Result, Ok, Err, IfOk, ap, sym, ◌∙◌}
use Rattle.std.proofs.lemmas.List.{length-map}
use Rattle.rz_elf.specs.Elf.{Image}
use Rattle.rz_elf.specs.Loaded.{ElfFile, loaded_region}
use Rattle.rz_elf.specs.Laws.Loads.{loaded_image}
use Rattle.rz_core.specs.Texts.{check_text}
use Rattle.rz_core.specs.Checked.{checked_text}
use Rattle.rz_core.proofs.check.text_of.Goals as goal

on_ok : {A E : Type 0} (P Q : A → Type 0) (r : Result A E) → ((a : A) → P a → Q a) → IfOk r P → IfOk r Q
on_ok P Q (Ok a) f h = f a h
on_ok P Q (Err e) f h = tt

pub returns : goal.returns
returns c =
    let elf = c.elf.inside in
    let count : length c.as_slice.result.now ≡ length (map (loaded_region elf.bytes) elf.loads) = ap length c.as_slice.ensures ∙ sym (length-map elf.loads (loaded_region elf.bytes)) in
    let image = ap (λ (i : Image). check_text (length i.loads) i.entry i.first_break) (loaded_image _ c.elf.invariant) in
    let same = c.as_bytes.ensures.value ∙ c.in_ok-text.ensures ∙ ap (λ (n : ℕ). check_text n elf.entry elf.first_break) count ∙ image ∙ ap (λ (e : ElfFile). checked_text e.bytes) c.elf.view_is in
    on_ok _ _ c.from_slice.result (λ text e. e ∙ same) c.from_slice.ensures
