use Rattle.std.proofs.Common.{◌≡◌, ◌+◌, List, ℕ, length, get_or, take, ap, sym, ◌∙◌, arith}
use Rattle.std.proofs.lemmas.List.{length-take-le, take_more}
use Rattle.rz_image.specs.Memory.{put_byte, put_bytes, wrap}
use Rattle.rz_image.proofs.PutLaws.{put_none, put_more}
use Rattle.rz_image.proofs.words.put_each.Goals as goal

pub loop-k-init : goal.loop-k-init
loop-k-init c = record { done = sym (put_none c.args.regions.now c.args.at); ascend = c.requires }

pub loop-k-preserved : goal.loop-k-preserved
loop-k-preserved c =
    let m = c.args.regions.now in
    let k = c.loop-k.k in
    let bytes : List ℕ = c.args.bytes.now in
    let b : ℕ = get_or bytes k 0 in
    let n : length (take k bytes) ≡ k = length-take-le k bytes (omega (arith, c.loop-k-test.true)) in
    record {
      done =
          c.put.ensures.done ∙ ap (λ x. put_byte x (wrap (c.args.at + k)) b) c.loop-k.invariant.done
          ∙ sym (ap (put_bytes m c.args.at) (take_more bytes k 0 c.loop-k-test.true) ∙ put_more m c.args.at b (take k bytes) ∙ ap (λ j. put_byte (put_bytes m c.args.at (take k bytes)) (wrap (c.args.at + j)) b) n);
      ascend = c.put.ensures.ascend;
    }
