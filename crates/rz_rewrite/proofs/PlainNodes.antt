-- What stands at a node of a plain image.
use Rattle.std.proofs.Common.{◌≡◌, ℕ, ◌+◌, ◌<◌, ◌≤◌, Bool, true, false, ◌&&◌, nat_lt, List, [], ◌∷◌, length, take, IsTrue, refl, arith}
use Rattle.std.proofs.lemmas.List.{length-take-le}
use Rattle.std.proofs.lemmas.Bool.Decides.{nat_tests}
use Rattle.std.specs.List.{AllByRecursion}
use Rattle.rz_num.specs.Bytes.{are_bytes}
use Rattle.rz_isa.specs.declared.rows.Row.{Row}
use Rattle.rz_isa.specs.declared.decoding.Decoded.TheVariants as decodeds
use Rattle.rz_isa.specs.declared.instruction.Insn.{Insn}
use Rattle.rz_isa.specs.Decoded.{decoded}
use Rattle.rz_isa.specs.Nodes.{spelled_at}
use Rattle.rz_isa.specs.Spells.{Spells}
use Rattle.rz_image.specs.Memory.{Regions, cell_at, fetch}
use Rattle.rz_machine.specs.Nodes.{code_in}
use Rattle.rz_elf.specs.Elf.{Image}
use Rattle.rz_elf.specs.PlainImage.{IsPlainImage, IsPlainRegion}
use Rattle.rz_image.specs.Laws.Cells.{IsFixed, all_map, fetch_bytes, fetch_low, fetch_first}
use Rattle.rz_elf.specs.Laws.PlainCells.{plain_cell}
use Rattle.rz_rewrite.specs.Calls.Table.{TableFacts}

-- no region of a plain image is both written and executed
pub plain_fixed : (m : Regions) → AllByRecursion IsPlainRegion m → AllByRecursion IsFixed m
plain_fixed m = all_map IsPlainRegion IsFixed (λ r p. p.fixed) m

-- bytes, as a test
pub bytes_test : (l : List ℕ) → AllByRecursion (λ v. v < 256) l → IsTrue (are_bytes l)
bytes_test [] h = refl
bytes_test (b ∷ l) h = both (nat_lt b 256) _ (below b h.0) (bytes_test l h.1)
  where
    both : (u v : Bool) → u ≡ true → v ≡ true → (u && v) ≡ true
    both true v p q = q
    both false v p q = cc

    below : (b : ℕ) → b < 256 → nat_lt b 256 ≡ true
    below b h = grind (arith, nat_tests, h)

-- what may be executed in a plain image are bytes
pub fetched_bytes : (x : Image) (plain : IsPlainImage x) (b : ℕ) → IsTrue (are_bytes (fetch x.loads b 15))
fetched_bytes x plain b = bytes_test _ (fetch_bytes x.loads (λ c. (plain_cell x.loads plain c).0) b 15)

module _ (rows : List Row) (facts : TableFacts rows) (x : Image) (plain : IsPlainImage x) where
  -- what stands at a node of a plain image
  pub record Stands (b : ℕ) (y : Insn) (len : ℕ) : Type 0 where
    pub spelled : spelled_at (decoded rows) (code_in x.loads) b ≡ decodeds.Insn y len
    pub spells : Spells rows (take len (fetch x.loads b 15)) b y
    pub low : b + len ≤ 0x70000000
    pub short : len ≤ 15
    pub first : (cell_at x.loads b).execute ≡ true

  -- each node of the table is such
  pub stands : (b : ℕ) (y : Insn) (len : ℕ) → spelled_at (decoded rows) (code_in x.loads) b ≡ decodeds.Insn y len → Stands b y len
  stands b y len spelled =
      let bs : List ℕ = fetch x.loads b 15 in
      let f = (facts.exact bs b (fetched_bytes x plain b)).named len y spelled in
      let long = facts.lengths (take len bs) b y f.spells in
      let size : length (take len bs) ≡ len = length-take-le len bs f.within in
      record {
        spelled = spelled;
        spells = f.spells;
        low = fetch_low x.loads 0x70000000 (λ c. (plain_cell x.loads plain c).1) b 15 len (omega (arith, long.0, size)) f.within;
        short = omega (arith, long.1, size);
        first = fetch_first x.loads b 15 (omega (arith, long.0, size, f.within));
      }
