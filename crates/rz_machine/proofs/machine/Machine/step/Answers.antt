use Rattle.rz_machine.specs.Nodes.{code_in}
use Rattle.rz_machine.proofs.CacheLaws.{names_from}
use Rattle.rz_machine.proofs.machine.Machine.step.Goals as goal

pub act-requires : goal.act-requires
act-requires g c =
    names_from g.T.InsnTable.rows (code_in c.self.inside.mem c.self.inside.cpu.rip) c.self.inside.cpu.rip c.decode_at-spelled.result c.decode_at-spelled.ensures
