-- Cells of plain regions.
use Rattle.std.proofs.Common.{◌≡◌, ℕ, ◌+◌, ◌-◌, ◌<◌, true, nat_lt, nat_le, length, arith, ltb-true}
use Rattle.std.specs.List.{AllByRecursion}
use Rattle.std.proofs.lemmas.Bool.{and_parts}
use Rattle.rz_image.specs.declared.region.Region.{Region}
use Rattle.rz_image.specs.Memory.{Cell, Regions, contains, cell_in, cell_at}
use Rattle.rz_image.specs.Laws.Cells.{cells, all_map, get_byte}
use Rattle.rz_elf.specs.PlainImage.{IsPlainRegion}

-- a cell of plain regions holds a byte, and is at a low address where it may be executed
pub plain_cell : (m : Regions) → AllByRecursion IsPlainRegion m → (a : ℕ) → ((cell_at m a).byte < 256) × ((cell_at m a).execute ≡ true → a < 0x70000000)
plain_cell m h = cells P (λ a. (omega arith, λ e. absurd (cc))) m (all_map IsPlainRegion _ plain m h)
  where
    P : ℕ → Cell → Type 0
    P a c = (c.byte < 256) × (c.execute ≡ true → a < 0x70000000)

    plain : (r : Region) → IsPlainRegion r → (a : ℕ) → contains r a ≡ true → P a (cell_in r (a - r.base))
    plain r p a i =
        let parts = and_parts (nat_le r.base a) (nat_lt a (r.base + length r.bytes)) i in
        let high : a < r.base + length r.bytes = ltb-true a (r.base + length r.bytes) parts.1 in
        (get_byte r.bytes (a - r.base) p.bytes, λ e. omega (arith, high, p.low))
