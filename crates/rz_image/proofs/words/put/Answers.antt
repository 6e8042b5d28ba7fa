use Rattle.std.proofs.Common.{◌≡◌, ℕ, length, ◌∷◌, [], Bool, true, false, refl, sym, ◌∙◌}
use Rattle.rz_image.specs.Memory.{put_byte, put_bytes, cell_at}
use Rattle.rz_image.proofs.PutLaws.{put_refused, put_one}
use Rattle.rz_image.proofs.words.put.Goals as goal

pub returns-clause-done : goal.returns-clause-done
returns-clause-done c = go c.put_run.result c.put_run.ensures.done c.put_run.ensures.undone c.put_run.ensures.refused
  where
    go : (b : Bool) → ((b ≡ true) → c.put_run.new.regions ≡ put_bytes c.args.regions.now c.args.at (c.args.byte ∷ [])) → (b ≡ false → c.put_run.new.regions ≡ c.args.regions.now) → (b ≡ false → length {A = ℕ} (c.args.byte ∷ []) ≡ 1 → (cell_at c.args.regions.now c.args.at).write ≡ false) → c.put_run.new.regions ≡ put_byte c.args.regions.now c.args.at c.args.byte
    go true done undone refused = done refl ∙ put_one c.args.regions.now c.args.at c.args.byte c.ranges.at.fits
    go false done undone refused = undone refl ∙ sym (put_refused c.args.regions.now c.args.at c.args.byte (refused refl refl))
