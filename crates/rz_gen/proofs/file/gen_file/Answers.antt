use Rattle.std.proofs.Common.{◌≡◌, ℕ, ◌+◌, ◌*◌, List, [], ◌++◌, length, None, refl, sym, ap, ◌∙◌, subst}
use Rattle.rz_elf.specs.Elf.{fault_of}
use Rattle.rz_gen.specs.Places.{head_size}
use Rattle.rz_gen.specs.Code.{code}
use Rattle.rz_gen.specs.Generated.{header_page, generated}
use Rattle.rz_gen.proofs.Lengths.{length-code}
use Rattle.rz_gen.proofs.Accepted.{generated_accepted}
use Rattle.rz_gen.proofs.file.gen_file.Goals as goal

-- the header page and the code, one after the other
file_of : (n size head : ℕ) (start page whole : List ℕ) → start ≡ [] → head ≡ head_size n → size ≡ head + 24 * n → page ≡ start ++ header_page size → whole ≡ page ++ code n → whole ≡ generated n
unfolding generated
file_of n size head start page whole a b c d e =
    let are : size ≡ length (code n) = c ∙ ap (λ k. k + 24 * n) b ∙ sym (length-code n) in
    e ∙ ap (λ p. p ++ code n) (d ∙ ap (λ s. s ++ header_page size) a ∙ ap header_page are)

pub returns-clause-bytes : goal.returns-clause-bytes
returns-clause-bytes c =
    c.from_vec.ensures
    ∙ file_of c.args.n _ c.head_size.result _ _ _ c.new-out.ensures.items c.head_size.ensures refl c.in_ok-push_header_page.ensures c.in_ok-push_code.ensures

pub returns-clause-accepted : goal.returns-clause-accepted
returns-clause-accepted c =
    let P : List ℕ → Type 0 = λ x. fault_of x ≡ None in
    subst P (sym (returns-clause-bytes c)) (generated_accepted c.args.n c.requires.some c.requires.few)
