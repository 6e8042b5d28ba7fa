-- The command of each form.
use Rattle.rz_core.specs.declared.plan.Verb.{Verb}
use Rattle.rz_core.specs.declared.plan.Verb.TheVariants as verb
use Rattle.rz_core.specs.declared.plan.Values.{Values}
use Rattle.rz_core.specs.Words.{Planned}
use Rattle.rz_core.specs.Command.{Work, Command}
use Rattle.rz_core.specs.Checked.{check_work}
use Rattle.rz_core.specs.Debloated.{debloat_work}
use Rattle.rz_core.specs.Listed.{disasm_work}
use Rattle.rz_core.specs.Ran.{run_work}
use Rattle.rz_core.specs.Generated.{generate_work}
use Rattle.rz_core.specs.Recorded.{trace_work}
use Rattle.rz_core.specs.Replayed.{replay_work}
use Rattle.rz_core.specs.Paired.{report_work}
use Rattle.rz_core.specs.Demonstrated.{demo_work}
use Rattle.rz_core.specs.Named.{functions_work}
use Rattle.rz_core.specs.Labelled.{label_work}

abbrev pub work_of : Verb → Values → Work
work_of verb.Debloat v = debloat_work v.level v.number
work_of verb.Check v = check_work
work_of verb.Disasm v = disasm_work v.address v.number
work_of verb.Generate v = generate_work v.number
work_of verb.Run v = run_work v.number
work_of verb.Trace v = trace_work v.number
work_of verb.Replay v = replay_work v.number
work_of verb.Report v = report_work
work_of verb.Demo v = demo_work v.number
work_of verb.Functions v = functions_work v.level v.number
work_of verb.Label v = label_work

abbrev pub command_of : Planned → Command
command_of p = record { reads = p.reads; writes = p.writes; work = work_of p.verb p.values }
