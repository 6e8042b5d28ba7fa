use Rattle.std.proofs.Common.{◌++◌, List, ℕ, length, ap, ◌∙◌}
use Rattle.rz_elf.specs.Elf.{fault_of, image_of}
use Rattle.rz_elf.specs.Loaded.{elf_of}
use Rattle.rz_elf.specs.Stamped.{stamp_of}
use Rattle.rz_label.specs.Labelled.{labelled}
use Rattle.rz_label.proofs.LabelLaws.{labelled_length, labelled_accepted, labelled_stamped, labelled_image}
use Rattle.rz_label.proofs.label.label.Goals as goal

pub returns-clause-bytes : goal.returns-clause-bytes
returns-clause-bytes c = c.from_vec.ensures ∙ c.in_ok-push_labelled.ensures.bytes ∙ ap (λ (l : List ℕ). l ++ labelled c.args.new.now) c.in_ok-out.ensures.items

pub returns-clause-length : goal.returns-clause-length
returns-clause-length c =
    let bytes = c.from_vec.ensures ∙ c.in_ok-push_labelled.ensures.bytes ∙ ap (λ (l : List ℕ). l ++ labelled c.args.new.now) c.in_ok-out.ensures.items in
    ap length bytes ∙ labelled_length c.args.new.now c.in_ok-push_labelled.ensures.read c.requires.stamped c.requires.unmapped c.requires.short

pub returns-clause-accepted : goal.returns-clause-accepted
returns-clause-accepted c =
    let bytes = c.from_vec.ensures ∙ c.in_ok-push_labelled.ensures.bytes ∙ ap (λ (l : List ℕ). l ++ labelled c.args.new.now) c.in_ok-out.ensures.items in
    ap fault_of bytes ∙ labelled_accepted c.args.new.now c.in_ok-push_labelled.ensures.read c.requires.stamped c.requires.unmapped c.requires.short

pub returns-clause-stamped : goal.returns-clause-stamped
returns-clause-stamped c =
    let bytes = c.from_vec.ensures ∙ c.in_ok-push_labelled.ensures.bytes ∙ ap (λ (l : List ℕ). l ++ labelled c.args.new.now) c.in_ok-out.ensures.items in
    ap (λ y. stamp_of (elf_of y)) bytes ∙ labelled_stamped c.args.new.now c.in_ok-push_labelled.ensures.read c.requires.stamped c.requires.unmapped c.requires.short

pub returns-clause-image : goal.returns-clause-image
returns-clause-image c =
    let bytes = c.from_vec.ensures ∙ c.in_ok-push_labelled.ensures.bytes ∙ ap (λ (l : List ℕ). l ++ labelled c.args.new.now) c.in_ok-out.ensures.items in
    ap image_of bytes ∙ labelled_image c.args.new.now c.in_ok-push_labelled.ensures.read c.requires.stamped c.requires.unmapped c.requires.short
