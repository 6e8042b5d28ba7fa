use Rattle.std.proofs.Common.{◌≡◌, refl}
use Rattle.rz_input.specs.Printed.{printed}
use Rattle.rz_input.proofs.PieceLaws.{printed-parts}
use Rattle.rz_input.proofs.RoundTrip.{read_back}
use Rattle.rz_input.proofs.printer.print_input.Goals as goal

pub returns : goal.returns
returns c =
    let text : c.print_replies.new.text ≡ printed c.args.input.now =
    rw (printed-parts c.args.input.now)
    (rw (c.in_ok-print_replies.ensures.text, c.in_ok-print_stdin.ensures, c.in_ok-print_args.ensures, c.new-text.ensures, c.as_slice.ensures, c.as_slice-2.ensures.value) refl) in
    record {
      text = text;
      read_back = λ valid short. read_back c.args.input.now _ text c.in_ok-print_replies.ensures.words valid short;
    }
