-- Want of memory before a form was read.
use Rattle.std.proofs.Common.{inr, refl}
use Rattle.std.specs.Prelude.{Option, Some, None}
use Rattle.rz_outside.specs.StoreCalls.{StoreCalls}
use Rattle.rz_outside.specs.SinkCalls.{SinkCalls}
use Rattle.rz_core.specs.declared.status.Status.TheVariants as status
use Rattle.rz_core.specs.Reading.{nothing}
use Rattle.rz_core.specs.Causes.{LastAnswer, CauseOf}
use Rattle.rz_core.specs.Exact.{EndsExactly, IsExactOf}
use Rattle.rz_core.specs.Words.{Planned}
use Rattle.rz_core.specs.Commands.{command_of}
use Rattle.rz_core.proofs.CourseLaws.{course_memory}
use Rattle.rz_core.proofs.ExactLaws.{order_memory}

pub wanting_cause : (form : Option Planned) (s : StoreCalls) (k : SinkCalls) → CauseOf form s k status.OutOfMemory
wanting_cause None s k = tt
wanting_cause (Some p) s k = course_memory p.reads nothing s (LastAnswer (command_of p) s k) (λ last. tt)

pub wanting_exact : (form : Option Planned) (s : StoreCalls) (k : SinkCalls) → IsExactOf form s k status.OutOfMemory
wanting_exact None s k = inr refl
wanting_exact (Some p) s k = λ quiet. order_memory p.reads nothing s.old (EndsExactly (command_of p) status.OutOfMemory) (λ last st says. inr refl)
